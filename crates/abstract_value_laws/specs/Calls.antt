-- Calls on values, part by part. Of two values that are not of one type the calls give some value, and neither absorbs the other.
use Rattle.std.specs.Prelude.{ℕ, Bool, true, false, ◌&&◌, ◌||◌, ◌==◌, not, if◌then◌else◌, Option, Some, None}
use Rattle.base_trait.specs.Algebra.{Algebra}
use Rattle.base_trait.specs.declared.tri.Tri.{Tri}
use Rattle.abstract_map_laws.specs.Maps.{Map}
use Rattle.abstract_map_laws.specs.Calls.{join_of as join_map, widen_of as widen_map, absorbs_of as absorbs_map}
use Rattle.abstract_value_laws.specs.Abs.{Abs, Cases, Parts, flag, word, made, map, no_case, absent, present, no_part, part}

-- the truth values that either may be
abbrev pub either : Tri → Tri → Tri
either t u = record { may_true = t.may_true || u.may_true; may_false = t.may_false || u.may_false }

-- whether the first may be each truth value that the second may be
abbrev pub absorbs_flag : Tri → Tri → Bool
absorbs_flag t u = (t.may_true || not u.may_true) && (t.may_false || not u.may_false)

-- whether two maps are of one map type and one width
abbrev pub same_type : {W N : Type 0} → ℕ → Map W N → ℕ → Map W N → Bool
same_type m x n y = m == n && x.width == y.width

-- Two values merged by what is done with two words, and with two maps.
module _ {W N : Type 0} (words : ℕ → W → W → W) (maps : Map W N → Map W N → Map W N) where
  abbrev mutual
    -- constructor by constructor: one that is on one side alone comes as it is
    pub merge_of : Abs W N → Abs W N → Abs W N
    merge_of (flag t) (flag u) = flag (either t u)
    merge_of (word w x) (word u y) = if w == u then word w (words w x y) else word w x
    merge_of (made ty cs) (made _ ds) = made ty (merge_cases cs ds)
    merge_of (map m x) (map n y) = if same_type m x n y then map m (maps x y) else map m x
    merge_of x _ = x

    pub merge_cases : Cases W N → Cases W N → Cases W N
    merge_cases (absent cs) (absent ds) = absent (merge_cases cs ds)
    merge_cases (absent cs) (present ys ds) = present ys (merge_cases cs ds)
    merge_cases (present xs cs) (absent ds) = present xs (merge_cases cs ds)
    merge_cases (present xs cs) (present ys ds) = present (merge_parts xs ys) (merge_cases cs ds)
    merge_cases _ _ = no_case

    pub merge_parts : Parts W N → Parts W N → Parts W N
    merge_parts (part x xs) (part y ys) = part (merge_of x y) (merge_parts xs ys)
    merge_parts _ _ = no_part

  -- the fields of one constructor, which may be missing on either side
  abbrev pub merge_case : Option (Parts W N) → Option (Parts W N) → Option (Parts W N)
  merge_case None y = y
  merge_case (Some xs) None = Some xs
  merge_case (Some xs) (Some ys) = Some (merge_parts xs ys)

module _ {W N C : Type 0} (B : Algebra W N C) (c : C) (cap : ℕ) where
  -- the join of two values
  abbrev pub join_of : Abs W N → Abs W N → Abs W N
  join_of = merge_of (B.words.join c) (join_map B c cap)

  abbrev pub join_cases : Cases W N → Cases W N → Cases W N
  join_cases = merge_cases (B.words.join c) (join_map B c cap)

  abbrev pub join_parts : Parts W N → Parts W N → Parts W N
  join_parts = merge_parts (B.words.join c) (join_map B c cap)

module _ {W N C : Type 0} (B : Algebra W N C) (c : C) where
  -- the old value widened by the new one
  abbrev pub widen_of : Abs W N → Abs W N → Abs W N
  widen_of = merge_of (B.words.widen c) (widen_map B c)

  abbrev pub widen_cases : Cases W N → Cases W N → Cases W N
  widen_cases = merge_cases (B.words.widen c) (widen_map B c)

  abbrev pub widen_parts : Parts W N → Parts W N → Parts W N
  widen_parts = merge_parts (B.words.widen c) (widen_map B c)

  abbrev mutual
    -- part by part; a constructor that the old side lacks is not absorbed
    pub absorbs_of : Abs W N → Abs W N → Bool
    absorbs_of (flag t) (flag u) = absorbs_flag t u
    absorbs_of (word w x) (word u y) = w == u && B.words.absorbs c w x y
    absorbs_of (made ty cs) (made tz ds) = ty == tz && absorbs_cases cs ds
    absorbs_of (map m x) (map n y) = same_type m x n y && absorbs_map B c x y
    absorbs_of _ _ = false

    pub absorbs_cases : Cases W N → Cases W N → Bool
    absorbs_cases no_case no_case = true
    absorbs_cases (absent cs) (absent ds) = absorbs_cases cs ds
    absorbs_cases (present xs cs) (absent ds) = absorbs_cases cs ds
    absorbs_cases (present xs cs) (present ys ds) = absorbs_parts xs ys && absorbs_cases cs ds
    absorbs_cases _ _ = false

    pub absorbs_parts : Parts W N → Parts W N → Bool
    absorbs_parts no_part no_part = true
    absorbs_parts (part x xs) (part y ys) = absorbs_of x y && absorbs_parts xs ys
    absorbs_parts _ _ = false

  -- the fields of one constructor, which may be missing on either side
  abbrev pub absorbs_case : Option (Parts W N) → Option (Parts W N) → Bool
  absorbs_case x None = true
  absorbs_case None (Some ys) = false
  absorbs_case (Some xs) (Some ys) = absorbs_parts xs ys
