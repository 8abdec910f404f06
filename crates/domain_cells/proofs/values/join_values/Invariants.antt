use Rattle.std.proofs.Common.{◌≡◌, drop, map}
use Rattle.abstract_value_laws.specs.Abs.{parts, parts_onto}
use Rattle.abstract_value_laws.specs.Calls.{join_parts}
use Rattle.abstract_value_laws.specs.Fits.{PartsFit}
use Rattle.abstract_value.specs.View.{abs}
use Rattle.domain_cells.proofs.values.join_values.Given as goal

abbrev pub invariant-loop-i : goal.invariant-loop-i
invariant-loop-i g l =
    let x = parts (map abs (drop l.i l.xs)) in
    let y = parts (map abs (drop l.i l.ys)) in
    record {
      whole : parts_onto (map abs l.out.items) (join_parts g.B.Base.algebra l.ctx g.B.Base.CAP x y) ≡ join_parts g.B.Base.algebra l.ctx g.B.Base.CAP (parts (map abs l.xs)) (parts (map abs l.ys));
      first : PartsFit g.B.Base.algebra l.ctx g.B.Base.CAP x;
      second : PartsFit g.B.Base.algebra l.ctx g.B.Base.CAP y;
    }
