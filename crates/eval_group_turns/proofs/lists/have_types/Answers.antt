use Rattle.std.proofs.Common.{sym, arith}
use Rattle.spec_ir.specs.declared.ty.Ty.TheVariants.{Bool}
use Rattle.spec_ir.specs.Views.{specification}
use Rattle.spec_ir.proofs.Lists.{item_itself}
use Rattle.semantics_values.specs.Types.{environment_of}
use Rattle.abstract_value.proofs.Both.{off, on, uneven}
use Rattle.eval_group_turns.proofs.Items.{types_both}
use Rattle.eval_group_turns.proofs.lists.have_types.Goals as goal

pub returns-then-args-types : goal.returns-then-args-types
returns-then-args-types g c = uneven (types_both (environment_of (specification c.args.spec.now))) c.args.args.now c.args.types.now c.if-args-types.true

pub returns-then-not-has_type : goal.returns-then-not-has_type
returns-then-not-has_type g c =
    off (types_both (environment_of (specification c.args.spec.now))) c.args.args.now c.args.types.now c.loop-i.i c.index-args-i.result _ _ c.loop-i-test.true (omega (arith, c.loop-i.invariant.lengths, c.loop-i-test.true)) c.index-args-i.is (item_itself c.args.types.now c.loop-i.i Bool (omega (arith, c.loop-i.invariant.lengths, c.loop-i-test.true))) (sym c.if-not-has_type.ensures) c.loop-i.invariant.whole

pub loop-i-preserved : goal.loop-i-preserved
loop-i-preserved g c =
    record {
      lengths = c.loop-i.invariant.lengths;
      whole = on (types_both (environment_of (specification c.args.spec.now))) c.args.args.now c.args.types.now c.loop-i.i c.index-args-i.result _ _ c.loop-i-test.true (omega (arith, c.loop-i.invariant.lengths, c.loop-i-test.true)) c.index-args-i.is (item_itself c.args.types.now c.loop-i.i Bool (omega (arith, c.loop-i.invariant.lengths, c.loop-i-test.true))) (sym c.if-not-has_type.ensures) c.loop-i.invariant.whole;
    }
