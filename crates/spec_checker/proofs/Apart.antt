-- No word agrees with two decode rows of an accepted specification.
use Rattle.std.proofs.Common.{subst, sym}
use Rattle.spec_declarations.specs.Declarations.{declared}
use Rattle.spec_declarations.specs.MachineRules.{instr_of}
use Rattle.spec_decode_rows.specs.Laws.{AreApart}
use Rattle.spec_decode_rows.proofs.Decoding.{decoded_rows_are_apart}
use Rattle.spec_checker.specs.Laws.{AcceptedRowsAreApart}

pub accepted_rows_are_apart : AcceptedRowsAreApart
accepted_rows_are_apart wanted tree s none is =
    subst AreApart (sym is.rows) (decoded_rows_are_apart (declared tree.items) (instr_of tree) tree none.1.1.1.1)
