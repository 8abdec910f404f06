-- Plans one after another, and the arms of present constructors.
use Rattle.std.proofs.Common.{◌≡◌, ◌∙◌, ◌++◌, ℕ, zero, suc, ◌+◌, ◌<◌, ◌≤◌, Bool, List, [], ◌∷◌, Option, Some, None, true, arith, length, drop, map, get_or, refl, sym, ap, Global}
use Rattle.base_trait.specs.Algebra.{Algebra}
use Rattle.std.specs.Prelude.{Box, is_some}
use Rattle.base_trait.specs.declared.tri.Tri.{Tri}
use Rattle.spec_match_compiler.specs.Values.{Place}
use Rattle.spec_match_compiler.specs.Decisions as plain
use Rattle.spec_match_compiler.specs.Decisions.{Decisions, no_tree, tree_then, trees, on_word, on_flag}
use Rattle.spec_match_compiler.specs.Views.{decision_step, tree}
use Rattle.spec_match_compiler.specs.declared.decision.Path.{Path}
use Rattle.spec_match_compiler.specs.declared.decision.Decision.{Decision, OnFlag, OnWord, fold-roll-Decision}
use Rattle.spec_match_compiler.specs.declared.decision.Decision.TheOpen.{Decision-F}
use Rattle.spec_match_compiler.specs.declared.decision.Decision.TheVariants.{rolls-OnFlag, rolls-OnWord}
use Rattle.spec_match_compiler.proofs.Loops.{drop_here}
use Rattle.abstract_semantics.specs.Choices.{abs_at, flag_there, word_there}
use Rattle.abstract_value_laws.specs.Abs.{Abs, Parts, cases, no_case, parts}
use Rattle.abstract_value_laws.specs.OfValues.{absent_onto, one_case}
use Rattle.abstract_value.specs.Constructors.{IsOnly}
use Rattle.abstract_value.specs.View.{abs, case_of}
use Rattle.abstract_value.specs.declared.value.AbstractValue.{AbstractValue}
use Rattle.abstract_value.proofs.Alone.{alone_seen}
use Rattle.eval_plans.specs.Plans.{Plan, arm_plan, nothing, with_arm, all_both, both, either, planned, present_plan}

-- a plan behind others
pub both_last : {W N : Type 0} (ps : List (Plan W N)) (p q : Plan W N) → all_both (ps ++ p ∷ []) q ≡ all_both ps (both p q)
both_last [] p q = refl
both_last (o ∷ ps) p q = ap (both o) (both_last ps p q)

module _ {X W N C : Type 0} (B : Algebra W N C) (c : C) (x : Abs W N) where
  -- the plan at arms and constructors, as they are in code
  abbrev pub present_so : Plan W N → List Decision → List (Option (List (AbstractValue X W N C))) → Plan W N
  present_so first ts cs = present_plan B c x first (trees (map tree ts)) (cases (map case_of cs))

  first_of : (first : Plan W N) (t : Decision) (ts : List Decision) (o : Option (List (AbstractValue X W N C))) (cs : List (Option (List (AbstractValue X W N C))))
      → present_so first (t ∷ ts) (o ∷ cs) ≡ present_so (with_arm B c x first (is_some o) (tree t)) ts cs
  first_of first t ts None cs = refl
  first_of first t ts (Some f) cs = refl

  pub present_here : (first new : Plan W N) (ts : List Decision) (cs : List (Option (List (AbstractValue X W N C)))) (i : ℕ) (t : Decision) (o : Option (List (AbstractValue X W N C))) (b : Bool) → i < length ts → i < length cs → t ≡ get_or ts i t → o ≡ get_or cs i o → b ≡ is_some o
      → new ≡ with_arm B c x first b (tree t) → present_so first (drop i ts) (drop i cs) ≡ present_so new (drop (i + 1) ts) (drop (i + 1) cs)
  present_here first new ts cs i t o b lt lc et ec eb made =
      ap (λ l. present_so first l (drop i cs)) (drop_here ts i t et lt) ∙ ap (present_so first (t ∷ drop (i + 1) ts)) (drop_here cs i o ec lc)
      ∙ first_of first t (drop (i + 1) ts) o (drop (i + 1) cs) ∙ ap (λ p. present_so p (drop (i + 1) ts) (drop (i + 1) cs)) (ap (λ z. with_arm B c x first z (tree t)) (sym eb) ∙ sym made)

-- ---- the decision of one constructor
module _ {W N C : Type 0} (B : Algebra W N C) (c : C) (x : Abs W N) where
  -- where no constructor is
  pub no_plan : (first : Plan W N) (ts : Decisions) → present_plan B c x first ts no_case ≡ first
  no_plan first no_tree = refl
  no_plan first (tree_then t ts) = refl

  none_plan : (first : Plan W N) (ts : Decisions) (n : ℕ) → present_plan B c x first ts (absent_onto n no_case) ≡ first
  none_plan first no_tree n = refl
  none_plan first (tree_then t ts) zero = refl
  none_plan first (tree_then t ts) (suc n) = none_plan first ts n

  one_plan : (ts : Decisions) (n k : ℕ) (xs : Parts W N) → k < n → present_plan B c x nothing ts (one_case n k xs) ≡ arm_plan B c x ts k
  one_plan no_tree n k xs l = refl
  one_plan (tree_then t ts) zero k xs l = absurd (omega (arith, l))
  one_plan (tree_then t ts) (suc n) zero xs l = none_plan (planned B c x t) ts n
  one_plan (tree_then t ts) (suc n) (suc k) xs l = one_plan ts n k xs (omega (arith, l))

  pub arm_at : (ts : List Decision) (k : ℕ) (t : Decision) → k < length ts → t ≡ get_or ts k t → planned B c x (tree t) ≡ arm_plan B c x (trees (map tree ts)) k
  arm_at [] k t l e = absurd (omega (arith, l))
  arm_at (y ∷ ts) zero t l e = ap (λ d. planned B c x (tree d)) e
  arm_at (y ∷ ts) (suc k) t l e = arm_at ts k t (omega (arith, l)) e

  pub arm_past : (ts : List Decision) (k : ℕ) → length ts ≤ k → nothing ≡ arm_plan B c x (trees (map tree ts)) k
  arm_past [] k l = refl
  arm_past (y ∷ ts) zero l = absurd (omega (arith, l))
  arm_past (y ∷ ts) (suc k) l = arm_past ts k (omega (arith, l))

-- where one is present alone
module _ {X W N C : Type 0} (B : Algebra W N C) (c : C) (x : Abs W N) where
  pub alone_plan : (ts : Decisions) (l : List (Option (List (AbstractValue X W N C)))) (k : ℕ) (f : List (AbstractValue X W N C)) → IsOnly l k f → arm_plan B c x ts k ≡ present_plan B c x nothing ts (cases (map case_of l))
  alone_plan ts l k f o = sym (ap (present_plan B c x nothing ts) (alone_seen l k f o) ∙ one_plan B c x ts (length l) k (parts (map abs f)) o.within)

-- a test that may turn out either way
module _ {W N C : Type 0} (B : Algebra W N C) (c : C) (x : Abs W N) (t : Tri) (true_too : t.may_true ≡ true) (false_too : t.may_false ≡ true) where
  both_ways : (p q : Plan W N) → either t p q ≡ both p q
  both_ways p q = rw (true_too, false_too) refl

  pub word_both : (at : Place) (n : ℕ) (a b : plain.Decision) → t ≡ word_there B c (abs_at at x) n → planned B c x (on_word at n a b) ≡ both (planned B c x a) (planned B c x b)
  word_both at n a b is = ap (λ t. either t (planned B c x a) (planned B c x b)) (sym is) ∙ both_ways (planned B c x a) (planned B c x b)

  pub flag_both : (at : Place) (a b : plain.Decision) → t ≡ flag_there (abs_at at x) → planned B c x (on_flag at a b) ≡ both (planned B c x a) (planned B c x b)
  flag_both at a b is = ap (λ t. either t (planned B c x a) (planned B c x b)) (sym is) ∙ both_ways (planned B c x a) (planned B c x b)

-- ---- decisions by their tests
pub tree_OnWord : (at : Path) (n : ℕ) (a b : Box Decision Global) → tree (OnWord at n a b) ≡ on_word at.steps.items n (tree a.value) (tree b.value)
tree_OnWord at n a b = ap tree (sym (rolls-OnWord at n a b)) ∙ fold-roll-Decision plain.Decision decision_step (Decision-F.OnWord at n a b)

pub tree_OnFlag : (at : Path) (a b : Box Decision Global) → tree (OnFlag at a b) ≡ on_flag at.steps.items (tree a.value) (tree b.value)
tree_OnFlag at a b = ap tree (sym (rolls-OnFlag at a b)) ∙ fold-roll-Decision plain.Decision decision_step (Decision-F.OnFlag at a b)
