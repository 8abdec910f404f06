use Rattle.std.proofs.Common.{◌≡◌, ◌++◌}
use Rattle.code_image.specs.Listing.{hex_digits}
use Rattle.code_image.proofs.hex.push_hex.Given as goal

abbrev pub invariant-loop-left : goal.invariant-loop-left
invariant-loop-left l = l.initial.out.items ++ hex_digits l.digits l.v ≡ l.out.items ++ hex_digits l.left l.v

abbrev pub decreases-loop-left : goal.decreases-loop-left
decreases-loop-left l = l.left
