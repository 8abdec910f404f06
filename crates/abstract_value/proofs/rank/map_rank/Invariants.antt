use Rattle.std.proofs.Common.{◌≡◌, ◌+◌, ◌-◌, ◌^◌, min, take}
use Rattle.std.specs.List.{sum_by}
use Rattle.abstract_value.proofs.rank.map_rank.Given as goal

abbrev pub invariant-loop-place : goal.invariant-loop-place
invariant-loop-place g l =
    let rank = g.B.Base.algebra.words.rank l.ctx l.m.width in
    l.sum ≡ min (rank l.m.rest.word + sum_by (λ e. rank e.1.word) (take l.place l.m.cells)) (2 ^ 64 - 1)
