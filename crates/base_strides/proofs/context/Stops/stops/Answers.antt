use Rattle.std.proofs.Common.{◌≡◌, ◌≤◌, length, sym, ◌∙◌, subst}
use Rattle.base_strides.specs.Steps.{take_all}
use Rattle.base_strides.proofs.context.Stops.stops.Goals as goal

pub returns-clause-heeded : goal.returns-clause-heeded
returns-clause-heeded c =
    let same : c.as_slice.result.now ≡ c.args.self.now = cc in
    same ∙ sym (take_all 64 c.args.self.now (subst (λ l. length l ≤ 64) c.self.view_is c.self.invariant))
