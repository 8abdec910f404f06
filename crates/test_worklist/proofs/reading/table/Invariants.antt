use Rattle.test_worklist.specs.Reading.{BlocksFit}
use Rattle.test_worklist.proofs.reading.table.Given as goal

abbrev pub invariant-loop-part : goal.invariant-loop-part
invariant-loop-part l = BlocksFit l.program.code.items l.blocks
