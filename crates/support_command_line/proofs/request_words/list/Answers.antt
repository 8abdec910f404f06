use Rattle.std.proofs.Common.{[]}
use Rattle.support_command_line.specs.Views as seen
use Rattle.support_command_line.proofs.Askings.{list_is}
use Rattle.support_command_line.proofs.request_words.list.Goals as goal

pub returns : goal.returns
returns c =
    list_is (seen.given_of c.args.given.now) c.as_slice.result.now _ (record { ref_ptr = (0, 0); now = [] }) c.as_slice.ensures.value _ _ c.in-len2.len_at_least c.in-len2.len_below c.of.ensures c.in_ok-code.ensures
