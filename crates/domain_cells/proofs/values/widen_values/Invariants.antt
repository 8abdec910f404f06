use Rattle.std.proofs.Common.{◌≡◌, drop, map}
use Rattle.abstract_value_laws.specs.Abs.{parts, parts_onto}
use Rattle.abstract_value_laws.specs.Calls.{widen_parts}
use Rattle.abstract_value_laws.specs.Fits.{PartsFit}
use Rattle.abstract_value.specs.View.{abs}
use Rattle.domain_cells.proofs.values.widen_values.Given as goal

abbrev pub invariant-loop-i : goal.invariant-loop-i
invariant-loop-i g l =
    let x = parts (map abs (drop l.i l.olds)) in
    let y = parts (map abs (drop l.i l.news)) in
    record {
      whole : parts_onto (map abs l.out.items) (widen_parts g.B.Base.algebra l.ctx x y) ≡ widen_parts g.B.Base.algebra l.ctx (parts (map abs l.olds)) (parts (map abs l.news));
      first : PartsFit g.B.Base.algebra l.ctx g.B.Base.CAP x;
      second : PartsFit g.B.Base.algebra l.ctx g.B.Base.CAP y;
    }
