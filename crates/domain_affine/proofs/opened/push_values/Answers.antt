use Rattle.std.proofs.Common.{◌≡◌, ◌∷◌, ◌++◌, [], map, refl, subst}
use Rattle.std.proofs.lemmas.List.{map-append}
use Rattle.domain_laws.specs.declared.field.Field.TheVariants.{Word}
use Rattle.abstract_value_laws.specs.Fits.{PartsFit}
use Rattle.domain_affine_base.specs.Meaning.{affine}
use Rattle.abstract_value.specs.View.{abs}
use Rattle.domain_affine.proofs.Lists.{values_here, values_more}
use Rattle.domain_affine.proofs.opened.push_values.Goals as goal

pub loop-i-preserved : goal.loop-i-preserved
loop-i-preserved c =
    let push : map abs c.push.new.self.items ≡ map abs c.loop-i.out.items ++ abs c.in_ok-opened_value.field-0 ∷ [] = rw (c.in_ok-push.ensures.items, map-append) refl in
    record {
      whole = values_more c.args.ctx.now c.args.words.now c.args.fields.now c.loop-i.i _ c.loop-i-test.true (map abs c.loop-i.out.items) (map abs c.push.new.self.items) (abs c.in_ok-opened_value.field-0) _ push
          c.in_ok-opened_value.ensures c.loop-i.invariant.whole;
      fits = (subst (PartsFit affine c.args.ctx.now 256) (values_here c.args.ctx.now c.args.words.now c.args.fields.now c.loop-i.i (Word 0) c.loop-i-test.true) c.loop-i.invariant.fits).1;
    }
