-- Slices of a table: the addresses from which the cells come that an instruction reads, whether at once or by way of other instructions
-- (Weiser, "Program Slicing", IEEE TSE 10(4), 1984; here over the uses that a table lists).
use Rattle.std.specs.Prelude.{ℕ, Bool, true, ◌==◌, ◌&&◌, IsTrue, List, [], ◌∷◌, Option, Some, None, filter, ◌⊎◌, ◌↔◌}
use Rattle.std.specs.List.{list_any}
use Rattle.base_trait.specs.Lists.{IsAmong, IsAscending}
use Rattle.base_trait.specs.Stamps.{is_listed}
use Rattle.base_trait.specs.Uses.{Seen}
use Rattle.base_trait.specs.declared.uses.Stamp.{Stamp}
use Rattle.base_trait.specs.declared.uses.Stamp.TheVariants.{Entry, At}
use Rattle.fixpoint_theory.specs.Table.{Listing, Listings}

-- the uses of a block; an address that is not listed has none
abbrev pub uses_in : {E : Type 0} → Option (Listing E) → List Seen
uses_in None = []
uses_in (Some b) = b.uses

-- the uses that a table lists at an address
abbrev pub listed_uses : {E : Type 0} → Listings E → ℕ → List Seen
listed_uses t a = uses_in (t a)

-- whether a use at a key may be one of what is asked for: of this key, or of any
abbrev pub may_meet : Option ℕ → Option ℕ → Bool
may_meet None key = true
may_meet (Some k) None = true
may_meet (Some k) (Some key) = key == k

-- whether a use of a map, at a key or at any, is asked for
abbrev pub is_asked : ℕ → Option ℕ → Seen → Bool
is_asked m key u = u.of_map == m && may_meet key u.key

-- the uses at an address that are asked for
abbrev pub asked_uses : (ℕ → List Seen) → ℕ → ℕ → Option ℕ → List Seen
asked_uses uses at m key = filter (is_asked m key) (uses at)

-- whether one of the uses has the stamp
abbrev pub is_from : List Seen → Stamp → Bool
is_from us s = list_any (λ u. is_listed u.stamps s) us

-- `uses` are those at each address
module _ (uses : ℕ → List Seen) where
  -- A list of addresses leads from uses to an address: the first is a stamp of these uses, and each next one, as the last, is a stamp of a
  -- use at the one before it.
  abbrev pub Leads : List Seen → List ℕ → ℕ → Type 0
  Leads from [] to = IsTrue (is_from from (At to))
  Leads from (a ∷ way) to = IsTrue (is_from from (At a)) × Leads (uses a) way to

  abbrev pub IsReached : List Seen → ℕ → Type 0
  IsReached from to = (way : List ℕ) × Leads from way to

  -- Some cell is that of the entry: one of these uses, or a use at an address that is reached from them, has its stamp.
  abbrev pub ReachesEntry : List Seen → Type 0
  ReachesEntry from = IsTrue (is_from from Entry) ⊎ ((a : ℕ) × IsReached from a × IsTrue (is_from (uses a) Entry))

  -- The slice from uses: exactly the addresses that are reached, ascending, and whether the entry is.
  pub record IsSliceFrom (from : List Seen) (told : Bool) (addresses : List ℕ) : Type 0 where
    pub entry : IsTrue told ↔ ReachesEntry from
    pub members : (a : ℕ) → IsAmong a addresses ↔ IsReached from a
    pub ascending : IsAscending addresses

-- The slice of a table for the reads of a map, at a key or at any, by the instruction at an address.
abbrev pub IsSlice : {E : Type 0} → Listings E → ℕ → ℕ → Option ℕ → Bool → List ℕ → Type 0
IsSlice t at m key told addresses = IsSliceFrom (listed_uses t) (asked_uses (listed_uses t) at m key) told addresses
