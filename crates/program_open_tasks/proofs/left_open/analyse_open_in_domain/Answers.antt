use Rattle.std.proofs.Common.{◌∙◌}
use Rattle.spec_ir.specs.Views.{specification}
use Rattle.state_text.specs.Reading.{entry_of}
use Rattle.program_domain_tasks.proofs.Asked.{read_states}
use Rattle.program_open_tasks.proofs.left_open.analyse_open_in_domain.Goals as goal

pub prepare-requires : goal.prepare-requires
prepare-requires g c = let start = c.args.start.now in read_states (specification c.args.it.now.spec.now) start.machine (entry_of start.entry.now) c.requires.read

pub open_outcome-requires : goal.open_outcome-requires
open_outcome-requires g c =
    let s = c.args.it.now in
    let start = c.args.start.now in
    let is = c.requires.read in
    record {
      ready = record {
        joins = c.requires.joins;
        made = c.requires.made;
        posed = c.read_problems_are_well_posed.ensures (specification s.spec.now) start.machine s.image.now is.given.0 (entry_of start.entry.now) start.limit start.joins start.cases is.accepted is.is_machine c.is_kept.ensures is.given.1;
        code_is = c.in_ok-with.ensures.code_is;
        decoder_is = c.in_ok-with.ensures.decoder_is;
        fields_are = c.deref.ensures.value ∙ c.in_ok-with.ensures.fields_are;
      };
    }
