use Rattle.std.proofs.Common.{◌<◌, IsTrue, length, rules}
use Rattle.domain_laws.specs.declared.field.Field.TheVariants.{Word}
use Rattle.abstract_value.specs.View.{abs}
use Rattle.test_affine_text.proofs.Fields.{are_step}
use Rattle.test_affine_text.proofs.forms.are_of.Goals as goal
use Rattle.spec_match_compiler.proofs.Loops.{drop_here}
use Rattle.spec_ir.proofs.Lists.{item_itself}

pub loop-i-preserved : goal.loop-i-preserved
loop-i-preserved c h =
    let fields = c.args.fields.now in
    let values = c.args.values.now in
    let i = c.loop-i.i in
    let within : i < length values = search rules in
    let yes : IsTrue c.is_of.result = search rules in
    c.loop-i.invariant
    (are_step (λ v. abs v) fields values i _ c.index-values-i.result (drop_here fields i _ (item_itself fields i (Word 0) c.loop-i-test.true) c.loop-i-test.true) (drop_here values i c.index-values-i.result c.index-values-i.is within) (c.is_of.ensures yes) h)
