use Rattle.std.proofs.Common.{ap, sym, ◌∙◌}
use Rattle.std.specs.Prelude.{Some}
use Rattle.support_command_line.specs.CommandLine.{GivenWords}
use Rattle.support_command_line.specs.Views.{texts}
use Rattle.support_command_line.proofs.GivenParts.{line_is_simple, refused, taken}
use Rattle.support_command_line.proofs.given_words.read_given.Goals as goal

pub returns-in_ok-given-in-Ok : goal.returns-in_ok-given-in-Ok
returns-in_ok-given-in-Ok c =
    let line = c.in_ok-command.ensures in
    taken _ (texts c.args.words.now) c.in-Ok.matches line c.in-Ok.ensures.matches (c.in-Ok.ensures.kinds (line_is_simple _ line))
    ∙ ap (λ (given : GivenWords). Some given) (sym c.in_ok-given-in-Ok.ensures)

pub returns-in_default : goal.returns-in_default
returns-in_default c =
    let line = c.in_ok-command.ensures in
    refused _ (texts c.args.words.now) c.in-Err.error line (c.in-Err.ensures.kinds (line_is_simple _ line)) (λ memory. c.in_default.not-OutOfMemory (c.kind-kind.ensures ∙ memory))

pub returns-in-OutOfMemory : goal.returns-in-OutOfMemory
returns-in-OutOfMemory c = tt
