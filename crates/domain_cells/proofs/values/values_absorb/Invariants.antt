use Rattle.std.proofs.Common.{◌≡◌, drop, length, map}
use Rattle.abstract_value_laws.specs.Abs.{parts}
use Rattle.abstract_value_laws.specs.Calls.{absorbs_parts}
use Rattle.abstract_value_laws.specs.Fits.{PartsFit}
use Rattle.abstract_value.specs.View.{abs}
use Rattle.domain_cells.proofs.values.values_absorb.Given as goal

abbrev pub invariant-loop-i : goal.invariant-loop-i
invariant-loop-i g l =
    let x = parts (map abs (drop l.i l.olds)) in
    let y = parts (map abs (drop l.i l.news)) in
    record {
      lengths : length l.olds ≡ length l.news;
      whole : absorbs_parts g.B.Base.algebra l.ctx x y ≡ absorbs_parts g.B.Base.algebra l.ctx (parts (map abs l.olds)) (parts (map abs l.news));
      first : PartsFit g.B.Base.algebra l.ctx g.B.Base.CAP x;
      second : PartsFit g.B.Base.algebra l.ctx g.B.Base.CAP y;
    }
