use Rattle.std.proofs.Common.{[], sym, ◌∙◌}
use Rattle.support_command_line.specs.Views as seen
use Rattle.support_command_line.proofs.Askings.{analysis_is}
use Rattle.support_command_line.proofs.request_words.analysis.Goals as goal

pub returns : goal.returns
returns c =
    analysis_is (seen.given_of c.args.given.now) c.args.words.now (record { ref_ptr = (0, 0); now = [] }) _ _ _ _ _ _ c.in-len3.len_at_least c.in-len3.len_below c.of.ensures c.in_ok-code.ensures
    (sym c.base.ensures ∙ c.in-Some.is) (sym c.limit.ensures ∙ c.in-Some-limit.is) (sym c.joins.ensures ∙ c.in-Some-joins.is) (sym c.cases.ensures ∙ c.in-Some-cases.is)
