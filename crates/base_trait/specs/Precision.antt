-- The numbers that steer how precise an analysis is. What each does, and what rests on it, stands in src/precision.rt.
use Rattle.std.specs.Prelude.{ℕ}

-- how many cells a map lists at most, over a base that joins
abbrev pub most_listed : ℕ
most_listed = 256

-- how many turns of a call within an instruction go as they come
abbrev pub unrolled_turns : ℕ
unrolled_turns = 64

-- how many of the turns after these join, before all further ones widen
abbrev pub joined_turns : ℕ
joined_turns = 2
