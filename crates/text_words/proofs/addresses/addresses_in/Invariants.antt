use Rattle.std.proofs.Common.{◌≡◌}
use Rattle.std.specs.Prelude.{nat_lt}
use Rattle.std.specs.Option.{option_copied}
use Rattle.text_words.specs.Reading.{addresses_in, number_in}
use Rattle.text_words.proofs.Loops.{left_len, to_come, with_out}
use Rattle.text_words.proofs.addresses.addresses_in.Given as goal

abbrev pub invariant-loop-left : goal.invariant-loop-left
invariant-loop-left l = addresses_in l.text ≡ with_out l.addresses.items (to_come nat_lt (number_in 32) 32 l.last (option_copied l.left))

abbrev pub decreases-loop-left : goal.decreases-loop-left
decreases-loop-left l = left_len (option_copied l.left)
