use Rattle.std.proofs.Common.{◌≡◌, true, ap, sym, ◌∙◌}
use Rattle.std.specs.Prelude.{option_map}
use Rattle.support_command_line.specs.Bases.{is_stamped}
use Rattle.support_command_line.specs.Requests.{slice}
use Rattle.support_command_line.specs.Views as seen
use Rattle.support_command_line.proofs.Askings.{slice_is}
use Rattle.support_command_line.proofs.request_words.slice_from.Goals as goal

pub returns : goal.returns
returns c =
    ap (option_map slice) (slice_is (seen.check_of c.args.check) c.args.place.now c.args.cell.now c.in-Some.address
    (sym c.address.ensures ∙ c.in-Some.is) (let stamped : is_stamped c.args.check.analysis.base ≡ true = cc (c.is_stamped.ensures) in stamped))
