use Rattle.std.proofs.Common.{◌≡◌, None, is_some}
use Rattle.std.specs.Option.{option_copied}
use Rattle.base_trait.specs.Stamps.{is_before}
use Rattle.code_image.specs.Image.{code_at}
use Rattle.text_words.specs.Pieces.{items_in, pieces}
use Rattle.text_words.specs.Reading.{stamp_in}
use Rattle.text_words.proofs.Loops.{left_len, to_come, with_out}
use Rattle.text_words.proofs.stamps.listed_in.Given as goal

abbrev pub invariant-loop-left : goal.invariant-loop-left
invariant-loop-left l =
    items_in is_before (stamp_in (λ a. is_some (code_at l.image a))) None (pieces 44 l.text)
    ≡ with_out l.stamps.items (to_come is_before (stamp_in (λ a. is_some (code_at l.image a))) 44 l.last (option_copied l.left))

abbrev pub decreases-loop-left : goal.decreases-loop-left
decreases-loop-left l = left_len (option_copied l.left)
