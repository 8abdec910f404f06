-- Which keys of a map an abstract key may be.
use Rattle.std.specs.Prelude.{ℕ, ◌+◌, ◌^◌, nat_lt, Bool, true, false, Option, Some, None, List, [], ◌∷◌, filter}
use Rattle.std.specs.List.{list_all}
use Rattle.base_trait.specs.Algebra.{Algebra}
use Rattle.abstract_map_laws.specs.Keys.{Keys, one, some, has_key}
use Rattle.abstract_map_laws.specs.Maps.{Map, keys}
use Rattle.abstract_value_laws.specs.Abs.{Abs, Cases, word, made, no_case, absent, present}

-- the numbers of the constructors that are present, from n on
abbrev pub cases_from : {W N : Type 0} → ℕ → Cases W N → List ℕ
cases_from n no_case = []
cases_from n (absent cs) = cases_from (n + 1) cs
cases_from n (present xs cs) = n ∷ cases_from (n + 1) cs

-- whether a key is one of a list that isn't empty, and each of them is listed
abbrev pub all_listed : Option (List ℕ) → List ℕ → Bool
all_listed None listed = false
all_listed (Some []) listed = false
all_listed (Some ks) listed = list_all (has_key listed) ks

-- the exact key, or else several
abbrev pub exact_or : Option ℕ → Keys → Keys
exact_or None ks = ks
exact_or (Some k) ks = one k

-- one of several constructors
abbrev pub case_keys : List ℕ → List ℕ → Keys
case_keys (n ∷ []) listed = one n
case_keys ns listed = some (filter (has_key ns) listed) (all_listed (Some ns) listed)

module _ {W N C : Type 0} (B : Algebra W N C) (c : C) where
  -- A key is one where its word is exact or one constructor alone is present. Else it may be each listed key that the word allows, and
  -- it can be no other where its members are at most 256, and some, and all listed.
  abbrev pub keys_of : Map W N → Abs W N → Option Keys
  keys_of m (word w x) = Some (exact_or (B.words.exact c w x) (some (filter (B.words.may c w x) (keys m)) (all_listed (B.words.members c w x 256) (keys m))))
  keys_of m (made t cs) = Some (case_keys (cases_from 0 cs) (keys m))
  keys_of m _ = None

-- whether a key that is one is below 2 ^ 32
abbrev pub is_keyed : Keys → Bool
is_keyed (one k) = nat_lt k (2 ^ 32)
is_keyed (some ks all) = true

-- the key that a use names
abbrev pub named_key : Keys → Option ℕ
named_key (one k) = Some k
named_key (some ks all) = None
