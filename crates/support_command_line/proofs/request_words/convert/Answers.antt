use Rattle.std.proofs.Common.{[], sym, ◌∙◌}
use Rattle.support_command_line.specs.Views as seen
use Rattle.support_command_line.proofs.Askings.{convert_is}
use Rattle.support_command_line.proofs.request_words.convert.Goals as goal

pub returns : goal.returns
returns c =
    convert_is (seen.given_of c.args.given.now) c.as_slice.result.now _ (record { ref_ptr = (0, 0); now = [] }) c.as_slice.ensures.value _ _ _ c.in-len3.len_at_least c.in-len3.len_below c.of.ensures c.in_ok-code.ensures
    (sym c.base.ensures ∙ c.in-Some.is)
