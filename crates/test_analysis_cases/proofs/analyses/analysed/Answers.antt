use Rattle.std.proofs.Common.{◌∙◌}
use Rattle.spec_ir.specs.Views.{specification}
use Rattle.state_text.specs.Reading.{entry_of}
use Rattle.test_analysis_cases.proofs.analyses.analysed.Goals as goal

pub begun-requires : goal.begun-requires
begun-requires g c =
    let s = c.args.subject.now in
    let is = c.requires.subject in
    record {
      joins = c.requires.joins;
      made = c.requires.made;
      posed = c.read_problems_are_well_posed.ensures (specification s.spec) s.machine s.image is.read.0 (entry_of s.entry) c.args.limit 3 0 is.accepted is.machine c.is_kept.ensures is.read.1;
      code_is = c.in_ok-cir.ensures;
      decoder_is = c.in_ok-decoder.ensures;
      fields_are = c.deref.ensures.value ∙ c.in_ok-fields.ensures;
    }

pub fields-requires : goal.fields-requires
fields-requires g c =
    let s = c.args.subject.now in
    c.accepted_have_states.ensures (specification s.spec) s.machine c.requires.subject.accepted c.requires.subject.machine
