use Rattle.std.proofs.Common.{◌≡◌, map, take}
use Rattle.abstract_value_laws.specs.Abs.{parts}
use Rattle.domain_affine_laws.specs.Closed.{word_at}
use Rattle.abstract_value.specs.View.{abs}
use Rattle.domain_affine.proofs.closed.closed_words.Given as goal

abbrev pub invariant-loop-cell : goal.invariant-loop-cell
invariant-loop-cell l = l.words.items ≡ map (word_at (parts (map abs l.values))) (take l.cell-index l.cell-items)
