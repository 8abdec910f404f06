use Rattle.std.proofs.Common.{◌≡◌, sym, subst, inl}
use Rattle.word_operations.specs.Op2.{op2_of}
use Rattle.word_operations.specs.declared.kinds.BinaryOperation.TheVariants.{Add}
use Rattle.test_bases.proofs.generic.sum_with_either.Goals as goal

pub returns-clause-sums : goal.returns-clause-sums
returns-clause-sums g c valuation m n hx hyz =
    let laws = g.met.B.Base.laws.words in
    let describes = g.B.Base.algebra.words.describes valuation c.args.w in
    let joined = laws.join_describes c.args.ctx.now valuation c.args.w n c.args.y.now c.args.z.now c.requires.width (inl c.requires.joins) c.requires.second c.requires.third hyz in
    let either = subst (describes n) (sym c.in_ok-either.ensures.value) joined in
    let sum = laws.op2_sound c.args.ctx.now valuation Add c.args.w m n c.args.x.now c.in_ok-either.either c.requires.width c.requires.first c.in_ok-either.ensures.fits hx either in
    subst (describes (op2_of Add c.args.w m n)) (sym c.in_ok-sum.ensures.value) sum
