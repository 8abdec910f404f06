-- What evaluation speaks of, where it takes place in a setting.
use Rattle.std.specs.Prelude.{ℕ, zero, suc, List, slice_get, Option}
use Rattle.base_trait.specs.Algebra.{Algebra}
use Rattle.spec_ir.specs.Specification.{Spec}
use Rattle.spec_ir.specs.Views.{specification}
use Rattle.semantics.specs.Direct as meaning
use Rattle.abstract_value_laws.specs.Abs.{Abs}
use Rattle.support_tail_fixpoint.specs.Answer.{Yield}
use Rattle.abstract_semantics.specs.Answers.{Answer, Evaluation, joined_from}
use Rattle.abstract_semantics.specs.Terms as t
use Rattle.abstract_semantics.specs.Terms.{GroupArgs}
use Rattle.eval_memo.specs.declared.setting.Setting.{Setting}

module _ {X W N C : Type 0} (s : Setting X W N C) where
  abbrev pub spec_of : Spec
  spec_of = specification s.spec.now

  abbrev pub group_of : ℕ → ℕ
  group_of = meaning.group_of (specification s.spec.now)

-- cap is the room of a map, and `calls` what calls give
module _ {X W N C : Type 0} (B : Algebra W N C) (cap : ℕ) (calls : ℕ → List (Abs W N) → Answer (Abs W N)) (s : Setting X W N C) where
  abbrev pub join_yields : Yield (GroupArgs W N) (Abs W N) → Yield (GroupArgs W N) (Abs W N) → Yield (GroupArgs W N) (Abs W N)
  join_yields = t.join_yields B s.ctx.now cap (specification s.spec.now) s.at

  abbrev pub leaf_of : Answer (Abs W N) → Answer (Yield (GroupArgs W N) (Abs W N))
  leaf_of = t.leaf_of B s.ctx.now cap (specification s.spec.now) s.at calls

  module _ (g : ℕ) where
    -- what a turn of the group gives
    abbrev pub group_turn : GroupArgs W N → Evaluation (Yield (GroupArgs W N) (Abs W N))
    group_turn = t.group_turn B s.ctx.now cap (specification s.spec.now) s.at calls g

    -- what a function of the group gives on arguments
    abbrev pub body_turn : ℕ → List (Abs W N) → Evaluation (Yield (GroupArgs W N) (Abs W N))
    body_turn f xs = t.body_turn B s.ctx.now cap (specification s.spec.now) s.at calls g (slice_get (specification s.spec.now).funs f) xs

    -- a family of functions by number, from number i on
    abbrev pub from_number : {A : Type 0} → ℕ → (ℕ → A) → ℕ → A
    from_number zero on = on
    from_number (suc i) on = from_number i (λ k. on (suc k))

    -- what functions from number i on give, joined with what is given already
    abbrev pub given_bodies : ℕ → Option (Yield (GroupArgs W N) (Abs W N)) → GroupArgs W N → Evaluation (Yield (GroupArgs W N) (Abs W N))
    given_bodies i first args = joined_from join_yields first (t.bodies B s.ctx.now cap (specification s.spec.now) s.at (from_number i body_turn) args)
