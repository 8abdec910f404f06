use Rattle.std.proofs.Common.{◌<◌, ◌-◌, ◌∷◌, [], Some, ap, ◌∙◌, arith, subst}
use Rattle.base_kset.specs.Sets.{union}
use Rattle.base_strides.specs.Steps.{step_some, union_last}
use Rattle.base_strides.specs.Stretch.{by_steps, more}
use Rattle.base_cuts.proofs.strides.set_of_stretch.Goals as goal

pub loop-i-preserved : goal.loop-i-preserved
loop-i-preserved c =
    let x = c.args.x in let i = c.loop-i.i in
    let within : i < more x = subst (λ z. i < z) c.more-i-end.ensures c.loop-i-test.true in
    let few = c.requires.few in
    record {
      whole = c.in_ok-set-2.ensures.value ∙ ap (λ s. union 16 s (Some (c.number_at.result ∷ []))) c.loop-i.invariant.whole
          ∙ ap (λ n. union 16 (Some (by_steps x.lo x.step i)) (Some (n ∷ []))) c.number_at.ensures.value
          ∙ union_last x.lo x.step i (step_some (x.hi - x.lo) x.step i within) (omega (arith, within, few));
      fits = c.in_ok-set-2.ensures.fits;
    }
