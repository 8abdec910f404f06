use Rattle.std.proofs.Common.{Global, List, Vec, [], map, subst, sym}
use Rattle.std.specs.Prelude.{Option}
use Rattle.support_command_line.specs.declared.code_word.CodePart as code-part
use Rattle.support_command_line.specs.Code.{CodePart}
use Rattle.support_command_line.specs.Giving.{Gives}
use Rattle.support_command_line.specs.Views.{part_of}
use Rattle.support_command_line.proofs.Pieces.{from_first}
use Rattle.support_command_line.proofs.code_word.parts_from.Goals as goal

pub returns : goal.returns
returns c =
    subst (λ (found : Option (List CodePart)). Gives found (λ (parts : Vec code-part.CodePart Global). map part_of parts.items) c.parts.result)
    (sym (from_first c.args.base c.args.pieces.now (record { ref_ptr = (0, 0); now = [] }) _ c.in-len1-up.len_at_least c.part_at.ensures)) c.parts.ensures
