-- What the values of the code are as those of the definitions.
use Rattle.std.specs.Prelude.{ℕ, List, Option, map, option_map}
use Rattle.std.specs.Ordering.{nat_cmp}
use Rattle.std.specs.BTreeMap.{get}
use Rattle.base_trait.specs.Uses.{Seen, seen}
use Rattle.fixpoint_theory.specs.Outcome.{Outcome, moves, sends, too_many, undecodable}
use Rattle.fixpoint_theory.specs.Table.{Listing, Listings}
use Rattle.fixpoint_theory.specs.declared.table.Block.{Block}
use Rattle.fixpoint_theory.specs.declared.table.Table.{Table}
use Rattle.fixpoint_theory.specs.declared.transfer.Targets.{Targets}
use Rattle.fixpoint_theory.specs.declared.transfer.Targets.TheVariants.{List as Listed, Many}
use Rattle.fixpoint_theory.specs.declared.transfer.Transferred.{Transferred}
use Rattle.fixpoint_theory.specs.declared.transfer.Arrival.{Arrival}
use Rattle.fixpoint_theory.specs.declared.transfer.Transferred.TheVariants.{Undecodable, Made, Sent}

module _ {E P : Type 0} (view : E → P) where
  abbrev pub outcome_to : {W : Type 0} → Targets W → Option E → List Seen → Outcome P W
  outcome_to (Listed targets) post uses = moves targets.items (option_map view post) uses
  outcome_to (Many shown) post uses = too_many shown uses

  -- what arrives, and where
  abbrev pub arriving : Arrival E → ℕ × P
  arriving a = (a.to, view a.elem)

  abbrev pub outcome : {W : Type 0} → Transferred E W → Outcome P W
  outcome (Undecodable word) = undecodable word
  outcome (Made t) = outcome_to t.targets t.post (map seen t.uses.items)
  outcome (Sent arrivals uses) = sends (map arriving arrivals.items) (map seen uses.items)

  abbrev pub listing : Block E → Listing P
  listing b = record { elem = view b.elem; next = b.next.items; exits = b.exits.items; uses = map seen b.uses.items }

  -- the blocks of a table by their addresses
  abbrev pub listings : Table E → Listings P
  listings t a = option_map listing (get nat_cmp t.blocks a)
