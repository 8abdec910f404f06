use Rattle.std.proofs.Common.{◌≡◌, map}
use Rattle.std.specs.List.{range_with_len}
use Rattle.domain_affine_element_laws.specs.Opened.{opened_cell}
use Rattle.domain_affine.proofs.opened.opened_words.Given as goal

abbrev pub invariant-loop-cell : goal.invariant-loop-cell
invariant-loop-cell l = l.words.items ≡ map (opened_cell l.k l.x.rows) (range_with_len 0 l.cell)
