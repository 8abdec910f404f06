use denote.Param.Weighed.{most}
use Rattle.std.proofs.Common.{◌≡◌, ◌++◌, ◌+◌, ◌*◌, max, map, drop}
use Rattle.spec_ir.specs.declared.term.Term.{size-Term}
use Rattle.spec_ir.specs.Terms.{arms, terms}
use Rattle.spec_ir.specs.Views.{term}
use Rattle.spec_match_compiler.specs.Views.{pat}
use Rattle.spec_calls.specs.Calls.{all_calls, arm_calls}
use Rattle.spec_calls.proofs.call.+calls.Given as goal

abbrev pub invariant-all_calls-loop-arg : goal.invariant-all_calls-loop-arg
invariant-all_calls-loop-arg l =
    l.out.items ++ all_calls (terms (map term (drop l.arg-index l.args))) ≡ l.initial.out.items ++ all_calls (terms (map term l.args))

abbrev pub invariant-arm_calls-loop-arm : goal.invariant-arm_calls-loop-arm
invariant-arm_calls-loop-arm l =
    l.out.items ++ arm_calls l.tail (arms (map (λ a. (pat a.0, term a.1)) (drop l.arm-index l.arms))) ≡ l.initial.out.items ++ arm_calls l.tail (arms (map (λ a. (pat a.0, term a.1)) l.arms))

abbrev pub decreases-calls : goal.decreases-calls
decreases-calls l = 3 * size-Term l.term.now

abbrev pub decreases-calls_of_two : goal.decreases-calls_of_two
decreases-calls_of_two l = 3 * max (size-Term l.x.now) (size-Term l.y.now) + 1

abbrev pub decreases-calls_of_choice : goal.decreases-calls_of_choice
decreases-calls_of_choice l = 3 * max (size-Term l.c.now) (max (size-Term l.yes.now) (size-Term l.no.now)) + 1

abbrev pub decreases-all_calls : goal.decreases-all_calls
decreases-all_calls l = 3 * most size-Term l.args.now + 1

abbrev pub decreases-arm_calls : goal.decreases-arm_calls
decreases-arm_calls l = 3 * most (λ a. size-Term a.1) l.arms.now + 1
