use Rattle.std.proofs.Common.{◌≡◌, drop}
use Rattle.abstract_value.specs.View.{abs}
use Rattle.abstract_semantics.specs.Choices as choices
use Rattle.eval_operations.proofs.places.abs_below.Given as goal

abbrev pub invariant-loop-step : goal.invariant-loop-step
invariant-loop-step g l = choices.abs_at l.steps (abs l.x) ≡ choices.abs_at (drop l.step-index l.steps) (abs l.there)
