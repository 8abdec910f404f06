use Rattle.std.proofs.Common.{◌≡◌, None, get_or, map, drop}
use Rattle.abstract_value_laws.specs.Abs.{cases, cases_onto, parts, parts_onto}
use Rattle.abstract_value_laws.specs.Fits.{CasesFit, PartsFit}
use Rattle.abstract_value.specs.Constructors.{AreWithin, spread}
use Rattle.abstract_value.specs.View.{abs, case_of, cases_of}
use Rattle.domain_product_laws.specs.Calls.{mapped_cases, mapped_parts}
use Rattle.abstract_value.proofs.Weights.{case_weight, cases_weight, parts_weight, weight}
use Rattle.domain_product_values.proofs.mapped_values.+mapped.Given as goal

abbrev pub invariant-mapped_cases-loop-i : goal.invariant-mapped_cases-loop-i
invariant-mapped_cases-loop-i g l =
    let word = g.P.ProductPart.word_of in
    let note = g.P.ProductPart.note_of in
    let rest = cases (map case_of (drop l.i (spread l.xs))) in
    record {
      whole : cases_onto (map case_of (spread l.out)) (mapped_cases word note rest) ≡ mapped_cases word note (cases_of l.xs);
      within : AreWithin l.out;
      fits : CasesFit g.P.To.Base.algebra l.ctx g.P.To.Base.CAP (mapped_cases word note rest);
    }

abbrev pub invariant-mapped_parts-loop-x : goal.invariant-mapped_parts-loop-x
invariant-mapped_parts-loop-x g l =
    let word = g.P.ProductPart.word_of in
    let note = g.P.ProductPart.note_of in
    let rest = parts (map abs (drop l.x-index l.xs)) in
    record {
      whole : parts_onto (map abs l.out.items) (mapped_parts word note rest) ≡ mapped_parts word note (parts (map abs l.xs));
      fits : PartsFit g.P.To.Base.algebra l.ctx g.P.To.Base.CAP (mapped_parts word note rest);
    }

abbrev pub decreases-mapped_value : goal.decreases-mapped_value
decreases-mapped_value g l = weight (abs l.x.now)

abbrev pub decreases-mapped_cases : goal.decreases-mapped_cases
decreases-mapped_cases g l = cases_weight (cases_of l.xs.now)

abbrev pub decreases-mapped_parts : goal.decreases-mapped_parts
decreases-mapped_parts g l = parts_weight (parts (map abs l.xs.now))

abbrev pub decreases-mapped_case : goal.decreases-mapped_case
decreases-mapped_case g l = case_weight (case_of (get_or (spread l.xs.now) l.i None))
