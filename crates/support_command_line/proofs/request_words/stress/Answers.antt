use Rattle.std.proofs.Common.{[], sym, ◌∙◌}
use Rattle.support_command_line.specs.Views as seen
use Rattle.support_command_line.proofs.Askings.{stress_is}
use Rattle.support_command_line.proofs.request_words.stress.Goals as goal

pub returns : goal.returns
returns c =
    stress_is (seen.given_of c.args.given.now) c.as_slice.result.now _ (record { ref_ptr = (0, 0); now = [] }) c.as_slice.ensures.value _ _ _ c.in-len2.len_at_least c.in-len2.len_below (sym c.decimal.ensures ∙ c.in-Some.is) (sym c.decimal-2.ensures ∙ c.in-Some-decimal.is)
    (sym c.base.ensures ∙ c.in-Some-base.is)
