-- Plans name values that fit.
use Rattle.std.proofs.Common.{cond, ℕ, Bool, true, false, List, [], ◌∷◌, Option, Some, None, option_map}
use Rattle.std.specs.Prelude.{All, IfSome, option_and_then}
use Rattle.std.proofs.lemmas.List.Elements.{All-nil, All-cons}
use Rattle.base_trait.specs.Algebra.{Algebra}
use Rattle.base_trait.specs.declared.tri.Tri.{Tri}
use Rattle.spec_match_compiler.specs.Values.{Place}
use Rattle.spec_match_compiler.specs.Decisions.{Decision, Decisions, row, on_case, on_word, on_flag, no_tree, tree_then}
use Rattle.abstract_value_laws.specs.Abs.{Abs, Cases, no_case, absent, present}
use Rattle.abstract_value_laws.specs.Fits.{Fits}
use Rattle.eval_operations.proofs.Steps.{at_fits}
use Rattle.abstract_semantics.specs.Choices.{abs_at, abs_named, cases_there, flag_there, word_there}
use Rattle.eval_plans.specs.Plans.{Plan, PlanFits, arm, both, either, nothing, plan_then, planned, present_plan, row_plan}

module _ {W N C : Type 0} (B : Algebra W N C) (c : C) (cap : ℕ) where
  abbrev FitsHere : Abs W N → Type 0
  FitsHere = Fits B c cap

  abbrev PlanFitsHere : Plan W N → Type 0
  PlanFitsHere = PlanFits B c cap

  either_fits : (o : Tri) (p q : Plan W N) → PlanFitsHere p → PlanFitsHere q → PlanFitsHere (either o p q)
  either_fits o p q h k = at o.may_true o.may_false
    where
      at : (a b : Bool) → PlanFitsHere (cond a (cond b (both p q) p) (cond b q nothing))
      at true true = (h, k)
      at true false = h
      at false true = k
      at false false = tt

  then_fits : (p q : Plan W N) → PlanFitsHere p → PlanFitsHere q → PlanFitsHere (plan_then p q)
  then_fits nothing q h k = k
  then_fits (arm r vs) q h k = (h, k)
  then_fits (both p o) q h k = (h, k)

  module _ (x : Abs W N) (fits : FitsHere x) where
    named_next : (o : Option (Abs W N)) (rest : Option (List (Abs W N))) → IfSome o FitsHere → IfSome rest (All FitsHere) → IfSome (option_and_then (λ y. option_map (λ ys. y ∷ ys) rest) o) (All FitsHere)
    named_next None rest h k = tt
    named_next (Some y) None h k = tt
    named_next (Some y) (Some ys) h k = All-cons FitsHere y ys h k

    named_fit : (binds : List (ℕ × Place)) → IfSome (abs_named x binds) (All FitsHere)
    named_fit [] = All-nil FitsHere
    named_fit (b ∷ bs) = named_next (abs_at b.1 x) (abs_named x bs) (at_fits B c cap b.1 x fits) (named_fit bs)

    row_fits : (r : ℕ) (o : Option (List (Abs W N))) → IfSome o (All FitsHere) → PlanFitsHere (row_plan r o)
    row_fits r None h = tt
    row_fits r (Some vs) h = h

    mutual
      pub planned_fits : (by : Decision) → PlanFitsHere (planned B c x by)
      planned_fits (row r binds) = row_fits r (abs_named x binds) (named_fit binds)
      planned_fits (on_case at ts) = present_fits nothing ts (cases_there (abs_at at x)) tt
      planned_fits (on_word at n a b) = either_fits (word_there B c (abs_at at x) n) (planned B c x a) (planned B c x b) (planned_fits a) (planned_fits b)
      planned_fits (on_flag at a b) = either_fits (flag_there (abs_at at x)) (planned B c x a) (planned B c x b) (planned_fits a) (planned_fits b)

      present_fits : (first : Plan W N) (ts : Decisions) (cs : Cases W N) → PlanFitsHere first → PlanFitsHere (present_plan B c x first ts cs)
      present_fits first no_tree cs h = h
      present_fits first (tree_then t ts) no_case h = h
      present_fits first (tree_then t ts) (absent cs) h = present_fits first ts cs h
      present_fits first (tree_then t ts) (present xs cs) h = present_fits (plan_then first (planned B c x t)) ts cs (then_fits first (planned B c x t) h (planned_fits t))
