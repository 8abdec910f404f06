use Rattle.std.proofs.Common.{◌∙◌, IsTrue, Some, sym, ap, arith}
use Rattle.base_trait.specs.Lists.{items_of}
use Rattle.analysis_transfer.proofs.Members.{below}
use Rattle.analysis_transfer.proofs.targets.targets.Goals as goal

-- src/targets.rt:21:34
pub addresses-requires : goal.addresses-requires
addresses-requires g c =
    let words = g.B.Base.algebra.words in
    let ctx = c.args.ctx.now in
    let x = c.args.counter.now in
    below 32 (λ n. IsTrue (words.may ctx 32 x n)) c.deref.result.now
    (g.met.B.Base.laws.words.members_fit ctx 32 c.args.limit c.deref.result.now x (omega arith, omega arith) c.requires.counter
    (sym c.in_ok-members.ensures.value ∙ ap items_of c.in-Some.is ∙ ap Some (sym c.deref.ensures.value)))
