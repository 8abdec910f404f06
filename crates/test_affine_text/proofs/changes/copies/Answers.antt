use Rattle.std.specs.Prelude.{All}
use Rattle.std.proofs.Common.{sym, subst}
use Rattle.std.proofs.lemmas.List.Elements.{All-push}
use Rattle.abstract_value_laws.specs.Fits.{Fits}
use Rattle.domain_affine_base.specs.Meaning.{affine}
use Rattle.abstract_value.specs.View.{abs}
use Rattle.test_affine_text.proofs.Values.{copy_fits}
use Rattle.test_affine_text.proofs.changes.copies.Goals as goal

pub loop-value-preserved : goal.loop-value-preserved
loop-value-preserved c =
    let fits = copy_fits c.args.ctx.now c.args.values.now c.loop-value.value-index c.value-item.result c.in_ok-copy.field-0 c.loop-value-test.true c.value-item.is c.in_ok-copy.ensures c.requires in
    subst (All (λ v. Fits affine c.args.ctx.now 256 (abs v))) (sym c.in_ok-push.ensures.items) (All-push (λ v. Fits affine c.args.ctx.now 256 (abs v)) c.loop-value.out.items c.in_ok-copy.field-0 c.loop-value.invariant fits)
