use Rattle.std.proofs.Common.{[], sym, ◌∙◌}
use Rattle.support_command_line.specs.Views as seen
use Rattle.support_command_line.proofs.Askings.{emulate_is}
use Rattle.support_command_line.proofs.request_words.emulate.Goals as goal

pub returns : goal.returns
returns c =
    emulate_is (seen.given_of c.args.given.now) c.as_slice.result.now _ (record { ref_ptr = (0, 0); now = [] }) c.as_slice.ensures.value _ _ _ _ c.in-len3.len_at_least c.in-len3.len_below c.of.ensures c.in_ok-code.ensures
    (sym c.steps.ensures ∙ c.in-Some.is) (sym c.calls.ensures ∙ c.in-Some-calls.is)
