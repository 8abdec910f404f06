-- How the blocks of a table end, and when a table that is left open is closed but there.
use Rattle.std.specs.Prelude.{◌≡◌, ℕ, List, Option, Some, None}
use Rattle.std.specs.BTreeMap.{is_at}
use Rattle.std.specs.Map.{lookup}
use Rattle.std.specs.Ordering.{nat_cmp}
use Rattle.fixpoint_theory.specs.Analysis.{Analysis}
use Rattle.fixpoint_theory.specs.Table.{IsClosed, Listing, Listings}
use Rattle.fixpoint_open_tables.specs.declared.ending.Ending.{Ending}
use Rattle.fixpoint_open_tables.specs.declared.ending.Ending.TheVariants.{Undecodable, Open}
use Rattle.fixpoint_open_tables.specs.LeftOpen.{ending_of, left_open}

-- How the block at each address ends. The address is open where there is an ending.
abbrev pub Endings : Type 0 → Type 0
Endings W = ℕ → Option (Ending W)

-- Those that stand in a list with their addresses.
abbrev pub ends_in : {W : Type 0} → List (ℕ × Ending W) → Endings W
ends_in es a = lookup (is_at (nat_cmp a)) es

-- It is not for want of a decoding that a block is open.
abbrev pub IsDecodable : {W : Type 0} → Option (Ending W) → Type 0
IsDecodable None = Unit {0}
IsDecodable (Some (Open shown)) = Unit {0}
IsDecodable (Some (Undecodable word)) = ⊥

-- No address is open.
abbrev pub IsNowhereOpen : {W : Type 0} → Endings W → Type 0
IsNowhereOpen ends = (a : ℕ) → ends a ≡ None

module _ {E W S : Type 0} (A : Analysis E W S) where
  -- the ending of the transfer of what is listed at an address
  abbrev pub ending_at : ℕ → Option (Listing E) → Option (Ending W)
  ending_at a None = None
  ending_at a (Some b) = ending_of (A.transfer a b.elem)

  abbrev pub endings_of : Listings E → Endings W
  endings_of t a = ending_at a (t a)

  -- The table is a certificate but for the blocks that are left open, and these are the endings of its blocks.
  pub record IsClosedButOpen (t : Listings E) (ends : Endings W) : Type 0 where
    pub closed : IsClosed (left_open A) t
    pub endings : (a : ℕ) → ends a ≡ endings_of t a
