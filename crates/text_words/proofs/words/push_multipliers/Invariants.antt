use Rattle.std.proofs.Common.{◌≡◌, ◌++◌, drop, map}
use Rattle.std.specs.String.{string_bytes}
use Rattle.text_words.specs.Lists.{behind_commas}
use Rattle.text_words.specs.Words.{number}
use Rattle.text_words.proofs.words.push_multipliers.Given as goal

abbrev pub invariant-loop-n : goal.invariant-loop-n
invariant-loop-n l = string_bytes l.fn.out ++ behind_commas (map (number 32) l.numbers) ≡ string_bytes l.out ++ behind_commas (map (number 32) (drop l.n-index l.numbers))
