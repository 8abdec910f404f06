-- What is added to what was found.
use Rattle.std.specs.Prelude.{◌≡◌, ℕ, ◌+◌, Bool, false, IsTrue, ◌||◌, ◌&&◌, ◌==◌, not}
use Rattle.std.specs.Ordering.{nat_cmp}
use Rattle.std.specs.BTreeSet.{IsOrdered, btree_set_len, contains}
use Rattle.base_trait.specs.declared.uses.Stamp.{Stamp}
use Rattle.base_trait.specs.declared.uses.Stamp.TheVariants.{Entry, At}
use Rattle.analysis_slices.specs.declared.slice_search.SliceSearch.{SliceSearch}

-- whether an address was followed, and whether it is still to be
abbrev pub is_followed : SliceSearch → ℕ → Bool
is_followed found a = contains nat_cmp found.followed a

abbrev pub is_pending : SliceSearch → ℕ → Bool
is_pending found a = contains nat_cmp found.pending a

-- These stamps were added: the entry, and the addresses that were not followed yet, which are then pending.
pub record IsAdded (of : Stamp → Bool) (old new : SliceSearch) : Type 0 where
  pub entry : new.entry ≡ (old.entry || of Entry)
  pub followed : new.followed ≡ old.followed
  pub pending : (a : ℕ) → is_pending new a ≡ (is_pending old a || (of (At a) && not (is_followed old a)))

-- The address was pending, and is followed now.
pub record IsTaken (at : ℕ) (old new : SliceSearch) : Type 0 where
  pub was_pending : IsTrue (is_pending old at)
  pub entry : new.entry ≡ old.entry
  pub followed : (a : ℕ) → is_followed new a ≡ (is_followed old a || a == at)
  pub pending : (a : ℕ) → is_pending new a ≡ (is_pending old a && not (a == at))
  pub ordered : IsOrdered nat_cmp new.followed
  pub longer : is_followed old at ≡ false → btree_set_len new.followed ≡ btree_set_len old.followed + 1
