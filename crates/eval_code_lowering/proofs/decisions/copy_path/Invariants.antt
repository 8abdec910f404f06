use Rattle.std.proofs.Common.{◌≡◌, take}
use Rattle.eval_code_lowering.proofs.decisions.copy_path.Given as goal

abbrev pub invariant-loop-step : goal.invariant-loop-step
invariant-loop-step l = l.steps.items ≡ take l.step-index l.path.steps.items
