-- Which arms of a choice are evaluated, and what they give.
use Rattle.std.specs.Prelude.{⊤, ℕ, zero, suc, ◌+◌, Bool, List, [], ◌∷◌, Option, Some, None, All, if◌then◌else◌}
use Rattle.base_trait.specs.Algebra.{Algebra}
use Rattle.base_trait.specs.declared.tri.Tri.{Tri}
use Rattle.spec_match_compiler.specs.Decisions.{Decision, Decisions, row, on_case, on_word, on_flag, no_tree, tree_then}
use Rattle.abstract_value_laws.specs.Abs.{Abs, Cases, absent, present}
use Rattle.abstract_value_laws.specs.Fits.{Fits}
use Rattle.support_tail_fixpoint.specs.Answer.{gives}
use Rattle.support_tail_fixpoint.specs.Groups.{join_some}
use Rattle.abstract_semantics.specs.Answers.{Evaluation, then_on}
use Rattle.abstract_semantics.specs.Choices.{abs_at, abs_named, cases_there, flag_there, word_there}

-- Which arms are evaluated.
pub data Plan (W N : Type 0) : Type 0 where
  nothing : Plan W N
  -- an arm by its number, with the values of its variables
  arm : ℕ → List (Abs W N) → Plan W N
  -- one and then another, whose answers are joined
  both : Plan W N → Plan W N → Plan W N

abbrev pub size : {W N : Type 0} → Plan W N → ℕ
size nothing = 1
size (arm r vs) = 1
size (both p q) = 1 + (size p + size q)

-- those that a condition may take
abbrev pub either : {W N : Type 0} → Tri → Plan W N → Plan W N → Plan W N
either o p q = if o.may_true then (if o.may_false then both p q else p) else (if o.may_false then q else nothing)

-- one after another, and a last one
abbrev pub all_both : {W N : Type 0} → List (Plan W N) → Plan W N → Plan W N
all_both [] q = q
all_both (p ∷ ps) q = both p (all_both ps q)

-- one and then another, where the first may be none
abbrev pub plan_then : {W N : Type 0} → Plan W N → Plan W N → Plan W N
plan_then nothing q = q
plan_then (arm r vs) q = both (arm r vs) q
plan_then (both p o) q = both (both p o) q

abbrev pub row_plan : {W N : Type 0} → ℕ → Option (List (Abs W N)) → Plan W N
row_plan r None = nothing
row_plan r (Some vs) = arm r vs

-- those that a decision may pick
module _ {W N C : Type 0} (B : Algebra W N C) (c : C) (x : Abs W N) where
  abbrev mutual
    pub planned : Decision → Plan W N
    planned (row r binds) = row_plan r (abs_named x binds)
    planned (on_case at ts) = present_plan nothing ts (cases_there (abs_at at x))
    planned (on_word at n a b) = either (word_there B c (abs_at at x) n) (planned a) (planned b)
    planned (on_flag at a b) = either (flag_there (abs_at at x)) (planned a) (planned b)

    -- those of the constructors that are present, behind those of earlier ones
    pub present_plan : Plan W N → Decisions → Cases W N → Plan W N
    present_plan first (tree_then t ts) (absent cs) = present_plan first ts cs
    present_plan first (tree_then t ts) (present xs cs) = present_plan (plan_then first (planned t)) ts cs
    present_plan first _ _ = first

  -- that of a constructor, where it is present, behind those of earlier ones
  abbrev pub with_arm : Plan W N → Bool → Decision → Plan W N
  with_arm first there t = if there then plan_then first (planned t) else first

  -- that of the one constructor of a number
  abbrev pub arm_plan : Decisions → ℕ → Plan W N
  arm_plan no_tree k = nothing
  arm_plan (tree_then t ts) zero = planned t
  arm_plan (tree_then t ts) (suc k) = arm_plan ts k

-- what the arms of a plan give, where `on` says what an arm gives on what its variables name
abbrev pub given_plan : {W N A : Type 0} → (A → A → A) → (on : ℕ → List (Abs W N) → Evaluation A) → Plan W N → Evaluation A
given_plan j on nothing l = gives None l
given_plan j on (arm r vs) l = on r vs l
given_plan j on (both p q) l = then_on (given_plan j on p l) (λ x l. then_on (given_plan j on q l) (λ y l. gives (join_some j x y) l))

-- The values that a plan names fit.
abbrev pub PlanFits : {W N C : Type 0} → Algebra W N C → C → ℕ → Plan W N → Type 0
PlanFits B c cap nothing = ⊤
PlanFits B c cap (arm r vs) = All (Fits B c cap) vs
PlanFits B c cap (both p q) = PlanFits B c cap p × PlanFits B c cap q
