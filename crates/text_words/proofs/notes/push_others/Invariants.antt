use Rattle.std.proofs.Common.{◌≡◌, ◌++◌, drop, map}
use Rattle.std.specs.String.{string_bytes}
use Rattle.text_words.specs.Lists.{behind_commas}
use Rattle.text_words.specs.Notes.{stamp_text}
use Rattle.text_words.proofs.notes.push_others.Given as goal

abbrev pub invariant-loop-stamp : goal.invariant-loop-stamp
invariant-loop-stamp l = string_bytes l.fn.out ++ behind_commas (map stamp_text l.stamps) ≡ string_bytes l.out ++ behind_commas (map stamp_text (drop l.stamp-index l.stamps))
