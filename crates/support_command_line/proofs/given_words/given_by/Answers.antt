use Rattle.std.proofs.Common.{codes, ◌∙◌}
use Rattle.clap.proofs.WalkLemmas.{first_value-rows}
use Rattle.clap.specs.Words.{found_of}
use Rattle.support_command_line.proofs.GivenParts.{same_given}
use Rattle.support_command_line.proofs.given_words.given_by.Goals as goal

pub returns : goal.returns
returns c =
    let command = c.get_str.ensures ∙ first_value-rows (found_of c.args.matches.now) (codes "command") in
    same_given _ _ command c.in_ok-words_after.ensures c.option_value.ensures c.option_value-2.ensures c.option_value-3.ensures c.option_value-4.ensures c.option_value-5.ensures c.option_value-6.ensures c.option_value-7.ensures c.option_value-8.ensures c.flag.ensures
