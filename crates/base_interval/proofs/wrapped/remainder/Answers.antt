use Rattle.std.proofs.Common.{◌-◌, ap, ◌∙◌, bit_and}
use Rattle.std.proofs.lemmas.Nat.{and_mask}
use Rattle.base_interval.proofs.wrapped.remainder.Goals as goal

pub returns : goal.returns
returns c = ap (λ k. bit_and c.args.n (k - 1)) c.count.ensures ∙ and_mask c.args.n c.args.w
