use Rattle.std.proofs.Common.{◌≡◌, IfOk, subst}
use Rattle.domain_affine_laws.specs.Opened.{noted}
use Rattle.domain_affine_base.specs.declared.word.Word.TheVariants.{Any}
use Rattle.domain_affine.proofs.Values.{not_folded}
use Rattle.domain_affine.proofs.opened.opened_map.Goals as goal

pub returns : goal.returns
returns c = subst (λ m. IfOk c.of_cells.result (λ r. r ≡ m)) (not_folded c.args.ctx.now 256 c.args.width (noted Any) c.args.cells.items c.requires.fits.few) c.of_cells.ensures.value
