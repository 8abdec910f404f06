use Rattle.std.proofs.Common.{◌≤◌, Ok, Err, map, ap, ◌∙◌, arith}
use Rattle.base_trait.specs.Uses.{uses_of}
use Rattle.spec_ir.specs.Views.{specification}
use Rattle.abstract_value.specs.View.{abs}
use Rattle.concrete_calls.proofs.Answered.{deep, done, none}
use Rattle.concrete_calls.proofs.calls.evaluate_call.Goals as goal

pub eval_anew-requires : goal.eval_anew-requires
eval_anew-requires c =
    let some : 1 ≤ c.args.turns = omega (arith, c.if-turns-eq0.false) in
    record { ready = record { accepted = c.requires.accepted; code_is = c.requires.code; has_turn = some; joins = tt }; args = c.requires.call.are.arguments }

pub unreachable-requires : goal.unreachable-requires
unreachable-requires c =
    let some : 1 ≤ c.args.turns = omega (arith, c.if-turns-eq0.false) in
    none (specification c.args.spec.now) c.args.at c.args.turns c.args.fun (map abs c.args.args.items) c.requires.accepted some c.eval_anew.result (uses_of c.eval_anew.new.log) (uses_of c.new-log.result) c.new-log.ensures c.eval_anew.ensures.value
    (c.in-Ok-None.is ∙ ap Ok c.in-Ok-None.field-0-is) c.requires.call

pub returns-in-Ok-Some : goal.returns-in-Ok-Some
returns-in-Ok-Some c = λ function vs are.
    let some : 1 ≤ c.args.turns = omega (arith, c.if-turns-eq0.false) in
    done (specification c.args.spec.now) c.args.at c.args.turns c.args.fun (map abs c.args.args.items) c.requires.accepted some c.eval_anew.result (uses_of c.eval_anew.new.log) (uses_of c.new-log.result) c.new-log.ensures c.eval_anew.ensures.value
    c.in-Ok-Some.value (c.in-Ok-Some.is ∙ ap Ok c.in-Ok-Some.field-0-is) function vs are

pub returns-in-Err-OutOfFuel : goal.returns-in-Err-OutOfFuel
returns-in-Err-OutOfFuel c = λ function vs are.
    let some : 1 ≤ c.args.turns = omega (arith, c.if-turns-eq0.false) in
    deep (specification c.args.spec.now) c.args.at c.args.turns c.args.fun (map abs c.args.args.items) c.requires.accepted some c.eval_anew.result (uses_of c.eval_anew.new.log) (uses_of c.new-log.result) c.new-log.ensures c.eval_anew.ensures.value
    c.in-Err-OutOfFuel.field-0-0 (c.in-Err-OutOfFuel.is ∙ ap Err c.in-Err-OutOfFuel.field-0-is) function vs are
