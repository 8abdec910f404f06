use Rattle.std.proofs.Common.{arith}
use Rattle.std.proofs.lemmas.Bool.Decides.{nat_tests}
use Rattle.word_operations.proofs.Widths.{ones_of}
use Rattle.spec_match_compiler.proofs.first_test.has_two.Goals as goal

pub returns : goal.returns
returns c =
    let e = ones_of c.args.width c.requires.1 in
    grind (arith, nat_tests, e)
