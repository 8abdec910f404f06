-- What was told of the elements at addresses that are not pending.
use Rattle.std.specs.Prelude.{ℕ, ◌==◌, Option, Some, None, if◌then◌else◌, map}
use Rattle.std.specs.Ordering.{nat_cmp}
use Rattle.std.specs.BTreeMap.{get}
use Rattle.std.specs.BTreeSet.{contains}
use Rattle.base_trait.specs.Uses.{seen}
use Rattle.fixpoint_theory.specs.Analysis.{Analysis}
use Rattle.fixpoint_theory.specs.Table.{Listing, Tells}
use Rattle.fixpoint_theory.specs.Views.{listing}
use Rattle.fixpoint_theory.specs.declared.table.Block.{Block}
use Rattle.fixpoint_worklist.specs.declared.told.Told.{Told}
use Rattle.fixpoint_worklist.specs.declared.worklist.Worklist.{Worklist}

-- what a table lists of an element of which this was told
abbrev pub told_listing : {P : Type 0} → P → Told → Listing P
told_listing x told = record { elem = x; next = told.next.items; exits = told.exits.items; uses = map seen told.uses.items }

-- the block of the same element, of which this was told
abbrev pub with_told : {E : Type 0} → Told → Block E → Block E
with_told told b = record { elem = b.elem; next = told.next; exits = told.exits; uses = told.uses }

-- a change at one address
abbrev pub changed_at : {X : Type 0} → ℕ → Option X → (ℕ → Option X) → ℕ → Option X
changed_at at x f a = if a == at then x else f a

-- the block of an address that is not pending
abbrev pub settled_in : {E : Type 0} → Worklist E → ℕ → Option (Block E)
settled_in w a = if contains nat_cmp w.pending a then None else get nat_cmp w.blocks a

module _ {E P W S : Type 0} (view : E → P) (A : Analysis P W S) where
  -- the block lists what the transfer of its element tells
  abbrev pub IsToldOf : ℕ → Block E → Type 0
  IsToldOf a b = Tells A (listing view b) (A.transfer a (view b.elem))

  abbrev pub IsSettled : ℕ → Option (Block E) → Type 0
  IsSettled a None = Unit {0}
  IsSettled a (Some b) = IsToldOf a b

  -- The block of each address that is not pending lists what the transfer of its element tells.
  abbrev pub AreSettled : Worklist E → Type 0
  AreSettled w = (a : ℕ) → IsSettled a (settled_in w a)
