-- The reinterpretation of calls as a function, computed level by level: a call at a level has the answer of an
-- activation whose calls of other groups are those one level down. Groups call groups of lower rank, and no rank is greater than the
-- number of functions, so one more level than that has all calls. For example, where f calls g and g calls none, level 1 has the
-- calls of g, and level 2 those of f.
use Rattle.std.specs.Prelude.{ℕ, zero, suc, Bool, ◌&&◌, nat_lt, if◌then◌else◌, List, [], ◌∷◌, None, length}
use Rattle.base_trait.specs.Algebra.{Algebra}
use Rattle.base_trait.specs.declared.uses.Stamp.TheVariants.{At}
use Rattle.spec_ir.specs.Specification.{Spec}
use Rattle.semantics_values.specs.Types.{environment_of}
use Rattle.semantics.specs.Direct.{group_of}
use Rattle.abstract_value_laws.specs.Abs.{Abs, parts}
use Rattle.abstract_value_laws.specs.Types.{have_types}
use Rattle.support_tail_fixpoint.specs.Groups.{only}
use Rattle.support_tail_fixpoint.specs.declared.policy.Policy.{Policy}
use Rattle.support_tail_fixpoint.specs.Activation.{start}
use Rattle.support_tail_fixpoint.specs.Answer.{gives}
use Rattle.abstract_semantics.specs.Answers.{Answer}
use Rattle.abstract_semantics.specs.Calls.{moves}
use Rattle.abstract_semantics.specs.Terms.{group_turn, params_of}
use Rattle.abstract_semantics.specs.Ranks.{group_rank}
use Rattle.abstract_semantics.specs.OwnStamps.{part_stamps}
use Rattle.abstract_semantics.specs.Tests.{parts_fit}
use Rattle.abstract_semantics.specs.Driven.{driven, enough_turns}

-- c is the context of words, cap the room of a map, and a the address of the instruction
module _ {W N C : Type 0} (B : Algebra W N C) (c : C) (cap : ℕ) (spec : Spec) where
  -- whether there is such a function, and these are its arguments: they have the types of its parameters, and fit
  abbrev pub are_arguments : ℕ → List (Abs W N) → Bool
  are_arguments f args = nat_lt f (length spec.funs) && (have_types (environment_of spec) (parts args) (params_of spec f) && parts_fit B c cap (parts args))

  module _ (a : ℕ) where
    -- the greatest rank of group arguments whose stamps are those of these and of the instruction: that of none at all
    abbrev pub greatest_rank : List (Abs W N) → ℕ
    greatest_rank args = group_rank B c cap spec (At a ∷ part_stamps B (parts args)) []

    module _ (policy : Policy) where
      -- the answer of the activation that begins with function f on these arguments, where calls of other groups give what `calls` says
      abbrev pub activated : (calls : ℕ → List (Abs W N) → Answer (Abs W N)) → ℕ → List (Abs W N) → Answer (Abs W N)
      activated calls f args =
          driven (moves B c cap) f (group_turn B c cap spec a calls (group_of spec f)) (enough_turns policy (greatest_rank args)) (start (only f args) policy) []

      -- calls one level up: each by an activation, and none where these are not its arguments
      abbrev pub answers_by : (calls : ℕ → List (Abs W N) → Answer (Abs W N)) → ℕ → List (Abs W N) → Answer (Abs W N)
      answers_by calls f args = if are_arguments f args then activated calls f args else gives None []

      -- calls at so high a level: at the lowest there is none
      abbrev pub answers_at : ℕ → ℕ → List (Abs W N) → Answer (Abs W N)
      answers_at zero f args = gives None []
      answers_at (suc level) f args = answers_by (answers_at level) f args

      -- what a call of a function gives, with its own reads
      abbrev pub answers : ℕ → List (Abs W N) → Answer (Abs W N)
      answers = answers_at (suc (length spec.funs))
