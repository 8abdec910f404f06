-- Equality of values, and what is hashed of them.
use Rattle.std.specs.Prelude.{◌≡◌, Bool, true, false, ◌&&◌, ◌==◌, Option, Some, None, [], if◌then◌else◌, not, ◌++◌, ◌↔◌, IsTrue}
use Rattle.std.specs.Cmp.{IsEquivalence, IsPartialEquivalence, partial_equiv_from_equiv}
use Rattle.std.specs.Hash as fed
use Rattle.std.proofs.Common.{refl, ap, ◌∙◌}
use Rattle.base_trait.specs.Identity.{IsIdentity, IsReflexive, identity_equiv}
use Rattle.base_trait.specs.declared.tri.Tri.{Tri}
use Rattle.base_trait.proofs.Lists.{number_itself, number_told}
use Rattle.base_trait.proofs.Tests.{and_both, and_parts}
use Rattle.abstract_map.specs.Same.{hashed, same_map, same_map_is, same_map_itself}
use Rattle.abstract_value_laws.specs.Abs.{Abs, Cases, Parts, flag, word, made, map, no_case, absent, present, no_part, part}
use Rattle.abstract_value.specs.View.{abs}
use Rattle.abstract_value.specs.declared.value.AbstractValue.{AbstractValue}

abbrev pub same_truth : Bool → Bool → Bool
same_truth a b = if a then b else not b

abbrev pub same_flag : Tri → Tri → Bool
same_flag t u = same_truth t.may_true u.may_true && same_truth t.may_false u.may_false

same_truth_is : (a b : Bool) → IsTrue (same_truth a b) → a ≡ b
same_truth_is true true h = refl
same_truth_is false false h = refl
same_truth_is true false h = cc
same_truth_is false true h = cc

same_truth_itself : (a : Bool) → IsTrue (same_truth a a)
same_truth_itself true = refl
same_truth_itself false = refl

module _ {W N : Type 0} (words : W → W → Bool) (notes : N → N → Bool) where
  abbrev mutual
    -- part by part
    pub same_value : Abs W N → Abs W N → Bool
    same_value (flag t) (flag u) = same_flag t u
    same_value (word w x) (word u y) = w == u && words x y
    same_value (made t cs) (made u ds) = t == u && same_cases cs ds
    same_value (map m x) (map n y) = m == n && same_map words notes x y
    same_value _ _ = false

    pub same_cases : Cases W N → Cases W N → Bool
    same_cases no_case no_case = true
    same_cases (absent cs) (absent ds) = same_cases cs ds
    same_cases (present xs cs) (present ys ds) = same_parts xs ys && same_cases cs ds
    same_cases _ _ = false

    pub same_parts : Parts W N → Parts W N → Bool
    same_parts no_part no_part = true
    same_parts (part x xs) (part y ys) = same_value x y && same_parts xs ys
    same_parts _ _ = false

  -- the fields of one constructor, which may be missing on either side
  abbrev pub same_case : Option (Parts W N) → Option (Parts W N) → Bool
  same_case None None = true
  same_case (Some xs) (Some ys) = same_parts xs ys
  same_case _ _ = false

  module _ (wr : IsReflexive words) (nr : IsReflexive notes) where
    mutual
      pub same_value_itself : (x : Abs W N) → IsTrue (same_value x x)
      same_value_itself (flag t) = and_both (same_truth t.may_true t.may_true) (same_truth t.may_false t.may_false) (same_truth_itself t.may_true) (same_truth_itself t.may_false)
      same_value_itself (word w x) = and_both (w == w) (words x x) (number_itself w) (wr x)
      same_value_itself (made t cs) = and_both (t == t) (same_cases cs cs) (number_itself t) (same_cases_itself cs)
      same_value_itself (map m x) = and_both (m == m) (same_map words notes x x) (number_itself m) (same_map_itself words notes wr nr x)

      same_cases_itself : (cs : Cases W N) → IsTrue (same_cases cs cs)
      same_cases_itself no_case = refl
      same_cases_itself (absent cs) = same_cases_itself cs
      same_cases_itself (present xs cs) = and_both (same_parts xs xs) (same_cases cs cs) (same_parts_itself xs) (same_cases_itself cs)

      same_parts_itself : (xs : Parts W N) → IsTrue (same_parts xs xs)
      same_parts_itself no_part = refl
      same_parts_itself (part x xs) = and_both (same_value x x) (same_parts xs xs) (same_value_itself x) (same_parts_itself xs)

  module _ (wi : IsIdentity words) (ni : IsIdentity notes) where
    mutual
      -- equal values are the same
      pub same_value_is : (x y : Abs W N) → IsTrue (same_value x y) → x ≡ y
      same_value_is (flag t) (flag u) h =
          let p = and_parts (same_truth t.may_true u.may_true) (same_truth t.may_false u.may_false) h in
          ap (λ b. flag (record { may_true = b; may_false = t.may_false })) (same_truth_is t.may_true u.may_true p.0) ∙ ap (λ b. flag (record { may_true = u.may_true; may_false = b })) (same_truth_is t.may_false u.may_false p.1)
      same_value_is (word w x) (word u y) h = let p = and_parts (w == u) (words x y) h in ap (λ k. word k x) (number_told w u p.0) ∙ ap (λ z. word u z) (wi x y p.1)
      same_value_is (made t cs) (made u ds) h = let p = and_parts (t == u) (same_cases cs ds) h in ap (λ k. made k cs) (number_told t u p.0) ∙ ap (λ z. made u z) (same_cases_are cs ds p.1)
      same_value_is (map m x) (map n y) h = let p = and_parts (m == n) (same_map words notes x y) h in ap (λ k. map k x) (number_told m n p.0) ∙ ap (λ z. map n z) (same_map_is words notes wi ni x y p.1)
      same_value_is _ _ h = cc

      same_cases_are : (cs ds : Cases W N) → IsTrue (same_cases cs ds) → cs ≡ ds
      same_cases_are no_case no_case h = refl
      same_cases_are (absent cs) (absent ds) h = ap (λ z. absent z) (same_cases_are cs ds h)
      same_cases_are (present xs cs) (present ys ds) h =
          let p = and_parts (same_parts xs ys) (same_cases cs ds) h in
          ap (λ z. present z cs) (same_parts_are xs ys p.0) ∙ ap (λ z. present ys z) (same_cases_are cs ds p.1)
      same_cases_are _ _ h = cc

      same_parts_are : (xs ys : Parts W N) → IsTrue (same_parts xs ys) → xs ≡ ys
      same_parts_are no_part no_part h = refl
      same_parts_are (part x xs) (part y ys) h =
          let p = and_parts (same_value x y) (same_parts xs ys) h in
          ap (λ z. part z xs) (same_value_is x y p.0) ∙ ap (λ z. part y z) (same_parts_are xs ys p.1)
      same_parts_are _ _ h = cc

  -- ---- values of the code are equal where their views are
  abbrev pub same_view : {X C : Type 0} → AbstractValue X W N C → AbstractValue X W N C → Bool
  same_view x y = same_value (abs x) (abs y)

  module _ {X C : Type 0} (we : IsEquivalence words) (ne : IsEquivalence notes) (wi : IsIdentity words) (ni : IsIdentity notes) where
    pub same_view_equiv : IsEquivalence (same_view {X = X} {C = C})
    same_view_equiv =
        let same = identity_equiv same_value (same_value_itself we.refl ne.refl) (same_value_is wi ni) in
        record { refl = λ x. same.refl (abs x); symm = λ x y. same.symm (abs x) (abs y); congr = λ x y z e. same.congr (abs x) (abs y) (abs z) e }

    pub same_view_partial : IsPartialEquivalence (same_view {X = X} {C = C})
    same_view_partial = partial_equiv_from_equiv same_view_equiv

-- a test is true of two values of the code exactly where their views are the same
abbrev pub TellsViews : {X W N C : Type 0} → (AbstractValue X W N C → AbstractValue X W N C → Bool) → Type 0
TellsViews {X} {W} {N} {C} eq = (x y : AbstractValue X W N C) → IsTrue (eq x y) ↔ (abs x ≡ abs y)

-- what is hashed: which form it is, and its parts
module _ {W N : Type 0} (words : W → fed.HashWrites) (notes : N → fed.HashWrites) where
  abbrev mutual
    pub hashed_value : Abs W N → fed.HashWrites
    hashed_value (flag t) = fed.u8 0 ++ (fed.bool t.may_true ++ fed.bool t.may_false)
    hashed_value (word w x) = fed.u8 1 ++ (fed.u32 w ++ words x)
    hashed_value (made t cs) = fed.u8 2 ++ (fed.u32 t ++ hashed_cases cs)
    hashed_value (map m x) = fed.u8 3 ++ (fed.u32 m ++ hashed words notes x)

    pub hashed_cases : Cases W N → fed.HashWrites
    hashed_cases no_case = []
    hashed_cases (absent cs) = fed.u8 0 ++ hashed_cases cs
    hashed_cases (present xs cs) = (fed.u8 1 ++ hashed_parts xs) ++ hashed_cases cs

    pub hashed_parts : Parts W N → fed.HashWrites
    hashed_parts no_part = []
    hashed_parts (part x xs) = hashed_value x ++ hashed_parts xs

  abbrev pub hashed_case : Option (Parts W N) → fed.HashWrites
  hashed_case None = fed.u8 0
  hashed_case (Some xs) = fed.u8 1 ++ hashed_parts xs

  abbrev pub hashed_view : {X C : Type 0} → AbstractValue X W N C → fed.HashWrites
  hashed_view x = hashed_value (abs x)
