use Rattle.std.proofs.Common.{ℕ, Bor, List, Vec, Global, arith, subst, sym}
use Rattle.std.specs.Prelude.{Option, map}
use Rattle.support_command_line.specs.declared.code_word.CodePart.{CodePart}
use Rattle.support_command_line.specs.Code as spec
use Rattle.support_command_line.specs.Code.{code_parts, parts_from}
use Rattle.support_command_line.specs.Giving.{Gives}
use Rattle.support_command_line.specs.Views.{borrowed, part_of}
use Rattle.support_command_line.proofs.Pieces.{few_pieces, many_pieces}
use Rattle.support_command_line.proofs.code_word.code_parts.Goals as goal

pub returns-then-len-gt-MOST_PARTS : goal.returns-then-len-gt-MOST_PARTS
returns-then-len-gt-MOST_PARTS c = many_pieces c.args.base c.args.word.now c.in_ok-pieces.pieces.items c.in_ok-pieces.ensures (omega arith)

pub returns : goal.returns
returns c =
    let same = few_pieces c.args.base c.args.word.now c.in_ok-pieces.pieces.items c.in_ok-pieces.ensures (omega arith) in
    let given = subst (λ (pieces : List (Bor (List ℕ))). Gives (parts_from c.args.base (borrowed pieces)) (λ (parts : Vec CodePart Global). map part_of parts.items) c.parts_from.result) c.as_slice.ensures.value c.parts_from.ensures in
    subst (λ (found : Option (List spec.CodePart)). Gives found (λ (parts : Vec CodePart Global). map part_of parts.items) c.parts_from.result) (sym same) given
