use Rattle.std.proofs.Common.{◌≡◌, map, drop}
use Rattle.syntax_parser.specs.View.{datatype}
use Rattle.spec_declarations.specs.Sizes.{are_sized}
use Rattle.spec_declarations.proofs.sizes.are_sized.Given as goal

abbrev pub invariant-loop-d : goal.invariant-loop-d
invariant-loop-d l = are_sized (map (λ d. datatype d.now) l.datas) ≡ are_sized (map (λ d. datatype d.now) (drop l.d-index l.datas))
