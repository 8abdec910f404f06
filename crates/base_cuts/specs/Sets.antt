-- How sets of at most K numbers are cut.
use Rattle.std.specs.Prelude.{ℕ, ◌-◌, ◌^◌, min, List, [], ◌∷◌, Option, Some, None, ◌&&◌, nat_le, if◌then◌else◌}
use Rattle.std.specs.List.{filter}
use Rattle.base_kset.specs.Sets.{bounded, from_to, union}
use Rattle.base_cuts.specs.Cuts.{Cuts}

-- the numbers from low to high
abbrev pub numbers_between : ℕ → ℕ → List ℕ → List ℕ
numbers_between low high s = filter (λ n. nat_le low n && nat_le n high) s

-- the set, if it has a number
abbrev pub set_if_any : List ℕ → Option (Option (List ℕ))
set_if_any [] = None
set_if_any (n ∷ s) = Some (Some (n ∷ s))

module _ (K : ℕ) where
  -- all numbers from low to high; any of any where they are more than K
  abbrev pub all_between : ℕ → ℕ → Option (Option (List ℕ))
  all_between low high = if nat_le low high then Some (from_to K low high) else None

  abbrev pub set_meet : ℕ → Option (List ℕ) → ℕ → ℕ → Option (Option (List ℕ))
  set_meet w None low high = all_between low (min high (2 ^ w - 1))
  set_meet w (Some s) low high = set_if_any (numbers_between low high s)

  -- the set with a greater number behind its own; of none the number alone
  abbrev pub with_last : Option (Option (List ℕ)) → ℕ → Option (List ℕ)
  with_last None n = bounded K (n ∷ [])
  with_last (Some s) n = union K s (Some (n ∷ []))

  -- the same, where the number lies between
  abbrev pub with_between : ℕ → ℕ → Option (Option (List ℕ)) → ℕ → Option (Option (List ℕ))
  with_between low high found n = if nat_le low n && nat_le n high then Some (with_last found n) else found

  -- with several numbers, one by one
  abbrev pub with_all : ℕ → ℕ → Option (Option (List ℕ)) → List ℕ → Option (Option (List ℕ))
  with_all low high found [] = found
  with_all low high found (n ∷ ns) = with_all low high (with_between low high found n) ns

  abbrev pub set_cuts : Cuts (Option (List ℕ)) (Unit {0})
  set_cuts = record { meet = λ c w x low high. set_meet w x low high }
