use Rattle.std.proofs.Common.{◌≡◌, IfOk, ap, sym, ◌∙◌, subst}
use Rattle.abstract_value_laws.specs.Abs.{parts}
use Rattle.std.specs.Prelude.{map}
use Rattle.abstract_value.specs.View.{abs}
use Rattle.domain_affine_laws.specs.Closed.{part_at, word_in}
use Rattle.domain_affine.proofs.Values.{fits_at, part_found, part_missing}
use Rattle.domain_affine.proofs.closed.word_at.Goals as goal

pub word_of-requires : goal.word_of-requires
word_of-requires c = record { fits = fits_at c.args.ctx.now c.args.values.now c.place_of-at.result c.index-values-at.result c.index-values-at.is c.if-at-values.true c.requires.fits }

pub returns-then-at-values : goal.returns-then-at-values
returns-then-at-values c =
    let found = ap (λ i. part_at (parts (map abs c.args.values.now)) i) (sym c.place_of-at.ensures) ∙ part_found c.args.values.now c.place_of-at.result c.index-values-at.result c.index-values-at.is c.if-at-values.true in
    subst (λ o. IfOk c.word_of.result (λ r. r ≡ word_in o c.args.cell.1)) (sym found) c.word_of.ensures

pub returns-else-at-values : goal.returns-else-at-values
returns-else-at-values c =
    let missing = ap (λ i. part_at (parts (map abs c.args.values.now)) i) (sym c.place_of-at.ensures) ∙ part_missing c.args.values.now c.place_of-at.result c.if-at-values.false in
    ap (λ o. word_in o c.args.cell.1) (sym missing)
