use Rattle.std.proofs.Common.{◌∷◌, [], ◌++◌, ap, sym, ◌∙◌}
use Rattle.base_strides.specs.Steps.{steps_last}
use Rattle.base_strides.specs.Stretch.{by_steps}
use Rattle.base_strides.proofs.numbers.listed.Goals as goal

pub loop-i-preserved : goal.loop-i-preserved
loop-i-preserved c =
    let x = c.args.x in let i = c.loop-i.i in
    c.in_ok-push-2.ensures.items ∙ ap (λ l. l ++ c.number_at.result ∷ []) c.loop-i.invariant
    ∙ ap (λ n. by_steps x.lo x.step i ++ n ∷ []) c.number_at.ensures.value ∙ sym (steps_last x.lo x.step i)
