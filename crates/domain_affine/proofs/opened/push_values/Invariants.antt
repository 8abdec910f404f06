use Rattle.std.proofs.Common.{◌≡◌, ◌+◌, drop, map}
use Rattle.abstract_value_laws.specs.Abs.{parts_onto}
use Rattle.abstract_value_laws.specs.Fits.{PartsFit}
use Rattle.domain_affine_base.specs.Meaning.{affine}
use Rattle.domain_affine_laws.specs.Opened.{opened_values}
use Rattle.abstract_value.specs.View.{abs}
use Rattle.domain_affine.proofs.opened.push_values.Given as goal

abbrev pub invariant-loop-i : goal.invariant-loop-i
invariant-loop-i l = record {
  whole : parts_onto (map abs l.out.items) (opened_values l.ctx l.words (l.i + 1) (drop l.i l.fields)) ≡ parts_onto (map abs l.initial.out.items) (opened_values l.ctx l.words 1 l.fields);
  fits : PartsFit affine l.ctx 256 (opened_values l.ctx l.words (l.i + 1) (drop l.i l.fields));
}
