use Rattle.spec_ir.specs.Views.{specification}
use Rattle.state_text.specs.Reading.{entry_of}
use Rattle.test_instructions.proofs.Typing.{result_typed}
use Rattle.test_instructions.proofs.machine.started.Goals as goal

pub returns : goal.returns
returns c =
    result_typed (specification c.args.spec.now) c.args.text.now (entry_of c.in_ok-entry.entry) c.requires.accepted c.in_ok-entry.ensures c.one_state.result c.one_state.ensures
