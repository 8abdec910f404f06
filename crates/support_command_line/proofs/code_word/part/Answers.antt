use Rattle.std.proofs.Common.{lit<, sym, ◌∙◌}
use Rattle.std.proofs.lemmas.Str.Pattern.{split_once_first}
use Rattle.support_command_line.proofs.Pieces.{is_part}
use Rattle.support_command_line.proofs.code_word.part.Goals as goal

pub returns : goal.returns
returns c =
    let cut = rw c.in_ok-name.was at (split_once_first 64 c.args.piece.now c.split_once.result c.split_once.ensures.cases (lit< tt)) in
    c.part_at.ensures ∙ sym (is_part c.args.piece.now c.in_ok-name.name.now c.in_ok-name.digits.now c.in_ok-address.field-0 cut.0 cut.1 cut.2 (sym c.address.ensures ∙ c.in_ok-address.was))
