use Rattle.std.proofs.Common.{◌≡◌, ◌<◌, length, map, sym, arith}
use Rattle.spec_ir.specs.Views.{specification}
use Rattle.semantics_values.specs.Types.{environment_of}
use Rattle.abstract_value_laws.specs.Abs.{parts}
use Rattle.abstract_value_laws.specs.Types.{have_types}
use Rattle.abstract_value.specs.View.{abs}
use Rattle.abstract_value.proofs.Both.{off, on, uneven}
use Rattle.eval_memo.proofs.steps.have_types.Goals as goal
use Rattle.eval_group_turns.proofs.Items.{types_both as args_both}

pub returns-then-args-params : goal.returns-then-args-params
returns-then-args-params g c = uneven (args_both (environment_of (specification c.args.spec.now))) c.args.args.now c.args.params.now c.if-args-params.true

pub returns-then-not-has_type : goal.returns-then-not-has_type
returns-then-not-has_type g c =
    let env = environment_of (specification c.args.spec.now) in
    let xs = c.args.args.now in
    let ts = c.args.params.now in
    let x = c.index-args-i.result in
    let ty = c.in-Some.ty.now in
    let within : c.loop-i.i < length xs = omega arith in
    let same : length xs ≡ length ts = c.if-args-params.false in
    let within' : c.loop-i.i < length ts = omega (arith, same, within) in
    off (args_both env) xs ts c.loop-i.i x ty (have_types env (parts (map abs xs)) ts) within within' c.index-args-i.is c.in-Some.ensures.lookup.1 (sym c.if-not-has_type.ensures) (sym c.loop-i.invariant)

pub loop-i-preserved : goal.loop-i-preserved
loop-i-preserved g c =
    let env = environment_of (specification c.args.spec.now) in
    let xs = c.args.args.now in
    let ts = c.args.params.now in
    let x = c.index-args-i.result in
    let ty = c.in-Some.ty.now in
    let within : c.loop-i.i < length xs = omega arith in
    let same : length xs ≡ length ts = c.if-args-params.false in
    let within' : c.loop-i.i < length ts = omega (arith, same, within) in
    sym (on (args_both env) xs ts c.loop-i.i x ty (have_types env (parts (map abs xs)) ts) within within' c.index-args-i.is c.in-Some.ensures.lookup.1 (sym c.if-not-has_type.ensures) (sym c.loop-i.invariant))
