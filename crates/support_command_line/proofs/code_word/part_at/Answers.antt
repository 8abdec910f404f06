use Rattle.std.proofs.Common.{lit<, sym, ◌∙◌}
use Rattle.std.proofs.lemmas.Str.Pattern.{contains_char}
use Rattle.support_command_line.proofs.Pieces.{has_at, is_named}
use Rattle.support_command_line.proofs.code_word.part_at.Goals as goal

pub returns : goal.returns
returns c =
    let at = has_at c.args.name.now c.contains.result (contains_char 64 c.args.name.now c.contains.result c.contains.ensures.cases (lit< tt)) in
    sym (is_named c.args.name.now c.args.base (sym c.is_empty.ensures ∙ c.if-is_empty.false) (at ∙ c.if-contains.false))
