-- The plain plan of one of the code's.
use Rattle.std.proofs.Common.{◌≡◌, ◌∙◌, ℕ, map, refl, sym, ap, Box, Vec, Global}
use Rattle.abstract_value.specs.View.{abs}
use Rattle.abstract_value.specs.declared.value.AbstractValue.{AbstractValue}
use Rattle.eval_plans.specs.declared.plan.Plan.{Arm, Both, Nothing, Plan as Planned, fold-roll-Plan}
use Rattle.eval_plans.specs.declared.plan.Plan.TheVariants.{rolls-Arm, rolls-Both, rolls-Nothing}
use Rattle.eval_plans.specs.declared.plan.Plan.TheOpen.{Plan-F}
use Rattle.eval_plans.specs.Plans.{Plan, arm, both, nothing, plan_then}
use Rattle.eval_plans.specs.Views.{plan, plan_step}

pub plan_Arm : {X W N C : Type 0} (n : ℕ) (v : Vec (AbstractValue X W N C) Global) → plan (Arm n v) ≡ arm n (map abs v.items)
plan_Arm {X} {W} {N} {C} n v = ap plan (sym (rolls-Arm n v)) ∙ fold-roll-Plan X W N C (Plan W N) (plan_step X W N C) (Plan-F.Arm n v)

pub plan_Nothing : (X W N C : Type 0) → plan {X = X} {W = W} {N = N} {C = C} Nothing ≡ nothing
plan_Nothing X W N C = ap plan (sym rolls-Nothing) ∙ fold-roll-Plan X W N C (Plan W N) (plan_step X W N C) Plan-F.Nothing

pub plan_Both : {X W N C : Type 0} (p q : Box (Planned X W N C) Global) → plan (Both p q) ≡ both (plan p.value) (plan q.value)
plan_Both {X} {W} {N} {C} p q = ap plan (sym (rolls-Both p q)) ∙ fold-roll-Plan X W N C (Plan W N) (plan_step X W N C) (Plan-F.Both p q)

-- a plan that is there, and then another
pub arm_then : {X W N C : Type 0} (p : Planned X W N C) (q : Plan W N) (n : ℕ) (v : Vec (AbstractValue X W N C) Global) → p ≡ Arm n v → both (plan (Arm n v)) q ≡ plan_then (plan p) q
arm_then p q n v e = rw (e, plan_Arm n v) refl

pub both_then : {X W N C : Type 0} (p : Planned X W N C) (q : Plan W N) (one other : Box (Planned X W N C) Global) → p ≡ Both one other → both (plan (Both one other)) q ≡ plan_then (plan p) q
both_then p q one other e = rw (e, plan_Both one other) refl
