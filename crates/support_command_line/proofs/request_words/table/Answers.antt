use Rattle.std.proofs.Common.{[]}
use Rattle.support_command_line.specs.Views as seen
use Rattle.support_command_line.proofs.Givings.{carried}
use Rattle.support_command_line.proofs.WordsApart.{no_table, no_table_words, table_of}
use Rattle.support_command_line.proofs.request_words.table.Goals as goal

pub returns : goal.returns
returns c = table_of (seen.given_of c.args.given.now) _ c.args.words.now _ c.in-len1-up.len_at_least c.in_ok-analysis.ensures

pub returns-in_err-analysis : goal.returns-in_err-analysis
returns-in_err-analysis c =
    carried _ _ seen.analyse_of seen.check_of c.in_err-analysis.field-0.0 c.from_residual.result c.in_err-analysis.ensures
    (λ none. no_table (seen.given_of c.args.given.now) (record { ref_ptr = (0, 0); now = [] }) c.args.words.now c.in-len1-up.len_at_least none) c.from_residual.ensures.1

pub returns-in_default : goal.returns-in_default
returns-in_default c = no_table_words (seen.given_of c.args.given.now) (record { ref_ptr = (0, 0); now = [] }) c.args.words.now c.in_default.len_below
