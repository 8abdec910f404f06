use Rattle.std.proofs.Common.{[]}
use Rattle.support_command_line.specs.Views as seen
use Rattle.support_command_line.proofs.Givings.{carried}
use Rattle.support_command_line.proofs.WordsApart.{claims_of_table, no_claims, no_claims_words}
use Rattle.support_command_line.proofs.request_words.claims.Goals as goal

pub returns : goal.returns
returns c = claims_of_table (seen.given_of c.args.given.now) _ c.as_slice.result.now _ c.as_slice.ensures.value _ c.in-len1-up.len_at_least c.in_ok-check.ensures

pub returns-in_err-check : goal.returns-in_err-check
returns-in_err-check c =
    carried _ _ seen.check_of seen.request_of c.in_err-check.field-0.0 c.from_residual.result c.in_err-check.ensures
    (λ none. no_claims (seen.given_of c.args.given.now) (record { ref_ptr = (0, 0); now = [] }) c.as_slice.result.now _ c.as_slice.ensures.value c.in-len1-up.len_at_least none) c.from_residual.ensures.1

pub returns-in_default : goal.returns-in_default
returns-in_default c = no_claims_words (seen.given_of c.args.given.now) (record { ref_ptr = (0, 0); now = [] }) c.as_slice.result.now _ c.as_slice.ensures.value c.in_default.len_below
