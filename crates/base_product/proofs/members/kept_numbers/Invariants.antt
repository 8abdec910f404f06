use Rattle.std.proofs.Common.{◌≡◌, take}
use Rattle.std.specs.List.{filter}
use Rattle.base_product.proofs.members.kept_numbers.Given as goal

abbrev pub invariant-loop-n : goal.invariant-loop-n
invariant-loop-n g l = l.out.items ≡ filter (g.B.Base.algebra.words.may l.ctx l.w l.x) (take l.n-index l.numbers)
