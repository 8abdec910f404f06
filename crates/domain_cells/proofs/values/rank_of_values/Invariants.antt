use Rattle.std.proofs.Common.{◌≡◌, ◌+◌, ◌-◌, ◌^◌, ◌≤◌, drop, map, min}
use Rattle.abstract_value_laws.specs.Abs.{parts}
use Rattle.abstract_value_laws.specs.Fits.{PartsFit}
use Rattle.domain_laws.specs.Calls.{values_rank}
use Rattle.abstract_value.specs.View.{abs}
use Rattle.domain_cells.proofs.values.rank_of_values.Given as goal

abbrev pub invariant-loop-value : goal.invariant-loop-value
invariant-loop-value g l =
    let left = parts (map abs (drop l.value-index l.values)) in
    record {
      whole : min (l.sum + values_rank g.B.Base.algebra l.ctx left) (2 ^ 64 - 1) ≡ min (values_rank g.B.Base.algebra l.ctx (parts (map abs l.values))) (2 ^ 64 - 1);
      bound : l.sum ≤ 2 ^ 64 - 1;
      fits : PartsFit g.B.Base.algebra l.ctx g.B.Base.CAP left;
    }
