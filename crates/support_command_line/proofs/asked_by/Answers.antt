use Rattle.std.proofs.Common.{◌≡◌, true, ap, subst, sym, ◌∙◌}
use Rattle.std.specs.Prelude.{Option}
use Rattle.support_command_line.specs.Giving.{Gives}
use Rattle.support_command_line.specs.Requests as wanted
use Rattle.support_command_line.specs.Views as seen
use Rattle.support_command_line.specs.Words.{takes_all}
use Rattle.support_command_line.proofs.Askings.{asked_is}
use Rattle.support_command_line.proofs.asked_by.Goals as goal

pub returns : goal.returns
returns c =
    subst (λ (found : Option wanted.Request). Gives found seen.request_of c.request.result)
    (sym (asked_is (seen.given_of c.args.given.now) c.in-Some.name.now c.in-Some-named.command (ap seen.borrowed_text c.in-Some.is)
    (sym c.named.ensures ∙ c.in-Some-named.is) (let takes : takes_all c.in-Some-named.command (seen.given_of c.args.given.now) ≡ true = cc (c.takes_all.ensures) in takes))) c.request.ensures
