use Rattle.std.proofs.Common.{◌≡◌, ◌+◌, ◌-◌, ◌*◌, ◌++◌}
use Rattle.code_image.specs.Image.{addresses_from}
use Rattle.code_image.proofs.image.push_addresses.Given as goal

abbrev pub invariant-loop-i : goal.invariant-loop-i
invariant-loop-i l = l.initial.out.items ++ addresses_from l.base l.words ≡ l.out.items ++ addresses_from (l.base + 4 * l.i) (l.words - l.i)
