use Rattle.std.proofs.Common.{◌≡◌, ◌++◌, drop, map}
use Rattle.std.specs.Option.{option_map}
use Rattle.support_command_line.specs.Code.{parts_after, parts_in}
use Rattle.support_command_line.specs.Views.{borrowed, part_of}
use Rattle.support_command_line.proofs.code_word.parts.Given as goal

-- the parts before, and then those of the pieces that are left
abbrev pub invariant-loop-piece : goal.invariant-loop-piece
invariant-loop-piece l = parts_after (option_map part_of l.fn.first) (borrowed l.others) ≡ option_map (λ rest. map part_of l.parts.items ++ rest) (parts_in (borrowed (drop l.piece-index l.others)))
