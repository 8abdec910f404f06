-- What plans give is what decisions and conditions give.
use Rattle.std.proofs.Common.{◌≡◌, ◌∙◌, ◌++◌, cond, ℕ, Bool, true, false, List, [], ◌∷◌, Option, Some, None, refl, sym, ap}
use Rattle.base_trait.specs.Algebra.{Algebra}
use Rattle.base_trait.specs.Uses.{Seen}
use Rattle.base_trait.specs.declared.tri.Tri.{Tri}
use Rattle.spec_match_compiler.specs.Decisions.{Decision, Decisions, row, on_case, on_word, on_flag, no_tree, tree_then}
use Rattle.abstract_value_laws.specs.Abs.{Abs, Cases, no_case, absent, present}
use Rattle.support_tail_fixpoint.specs.Answer.{fails, gives}
use Rattle.support_tail_fixpoint.specs.Groups.{join_some}
use Rattle.abstract_semantics.specs.Answers.{Answer, Evaluation, branch, joined, joined_from, then_on}
use Rattle.abstract_semantics.specs.Choices.{abs_at, abs_named, arm_on, arms_present, cases_there, decided, flag_there, word_there}
use Rattle.eval_plans.specs.Plans.{Plan, arm, both, either, given_plan, nothing, plan_then, planned, present_plan, row_plan}

module _ {W N A : Type 0} (j : A → A → A) (on : ℕ → List (Abs W N) → Evaluation A) where
  abbrev so : Plan W N → Evaluation A
  so p l = given_plan j on p l

  last : (r : Answer A) → then_on r (λ y l. gives (join_some j None y) l) ≡ r
  last (fails i) = refl
  last (gives None l) = refl
  last (gives (Some y) l) = refl

  pub given_either : (o : Tri) (p q : Plan W N) (f h : Evaluation A) → ((l : List Seen) → so p l ≡ f l) → ((l : List Seen) → so q l ≡ h l) → (l : List Seen) → so (either o p q) l ≡ branch j o f h l
  given_either o p q f h ef eh l = at o.may_true o.may_false
    where
      second : (x : Option A) (l : List Seen) → then_on (so q l) (λ y l. gives (join_some j x y) l) ≡ joined_from j x (h ∷ []) l
      second x l = ap (λ r. then_on r (λ y l. gives (join_some j x y) l)) (eh l)

      after : (r : Answer A) → then_on r (λ x l. then_on (so q l) (λ y l. gives (join_some j x y) l)) ≡ then_on r (λ x l. joined_from j (join_some j None x) (h ∷ []) l)
      after (fails i) = refl
      after (gives None l) = second None l
      after (gives (Some y) l) = second (Some y) l

      at : (a b : Bool) → so (cond a (cond b (both p q) p) (cond b q nothing)) l ≡ joined j (cond a (f ∷ []) [] ++ cond b (h ∷ []) []) l
      at false false = refl
      at true false = ef l ∙ sym (last (f l))
      at false true = eh l ∙ sym (last (h l))
      at true true = after (so p l) ∙ ap (λ r. then_on r (λ x l. joined_from j (join_some j None x) (h ∷ []) l)) (ef l)

  then_so : (p q : Plan W N) (l : List Seen) → so (plan_then p q) l ≡ so (both p q) l
  then_so nothing q l = sym (last (so q l))
  then_so (arm r vs) q l = refl
  then_so (both p o) q l = refl

  module _ {C : Type 0} (B : Algebra W N C) (c : C) (x : Abs W N) where
    abbrev decided_so : Decision → Evaluation A
    decided_so by = decided B c j on x by

    row_so : (r : ℕ) (o : Option (List (Abs W N))) (l : List Seen) → so (row_plan r o) l ≡ arm_on (on r) o l
    row_so r None l = refl
    row_so r (Some vs) l = refl

    mutual
      pub given_planned : (by : Decision) (l : List Seen) → so (planned B c x by) l ≡ decided_so by l
      given_planned (row r binds) l = row_so r (abs_named x binds) l
      given_planned (on_case at ts) l = given_present nothing ts (cases_there (abs_at at x)) l
      given_planned (on_word at n a b) l = given_either (word_there B c (abs_at at x) n) (planned B c x a) (planned B c x b) (decided_so a) (decided_so b) (given_planned a) (given_planned b) l
      given_planned (on_flag at a b) l = given_either (flag_there (abs_at at x)) (planned B c x a) (planned B c x b) (decided_so a) (decided_so b) (given_planned a) (given_planned b) l

      given_present : (first : Plan W N) (ts : Decisions) (cs : Cases W N) (l : List Seen)
          → so (present_plan B c x first ts cs) l ≡ then_on (so first l) (λ y l. joined_from j y (arms_present B c j on x ts cs) l)
      given_present first no_tree cs l = stays (so first l)
        where
          stays : (r : Answer A) → r ≡ then_on r (λ y l. gives y l)
          stays (fails i) = refl
          stays (gives y l) = refl
      given_present first (tree_then t ts) no_case l = stays (so first l)
        where
          stays : (r : Answer A) → r ≡ then_on r (λ y l. gives y l)
          stays (fails i) = refl
          stays (gives y l) = refl
      given_present first (tree_then t ts) (absent cs) l = given_present first ts cs l
      given_present first (tree_then t ts) (present xs cs) l = given_present (plan_then first (planned B c x t)) ts cs l
          ∙ ap (λ r. then_on r (λ y l. joined_from j y rest l)) (then_so first (planned B c x t) l) ∙ turned (given_planned t) (so first l)
        where
          rest : List (Evaluation A)
          rest = arms_present B c j on x ts cs

          one : (y : Option A) (r : Answer A) → then_on (then_on r (λ z l. gives (join_some j y z) l)) (λ y l. joined_from j y rest l) ≡ then_on r (λ z l. joined_from j (join_some j y z) rest l)
          one y (fails i) = refl
          one y (gives z l) = refl

          turned : ((l : List Seen) → so (planned B c x t) l ≡ decided_so t l) → (r : Answer A) → then_on (then_on r (λ y l. then_on (so (planned B c x t) l) (λ z l. gives (join_some j y z) l))) (λ y l. joined_from j y rest l) ≡ then_on r (λ y l. joined_from j y (decided_so t ∷ rest) l)
          turned same (fails i) = refl
          turned same (gives y l) = one y (so (planned B c x t) l) ∙ ap (λ r. then_on r (λ z l. joined_from j (join_some j y z) rest l)) (same l)
