-- What a whole read answers and takes.
use Rattle.std.specs.Prelude.{◌≡◌, ℕ, ◌≤◌, List, length, drop, Option, None, Some, Result, Ok, Err, Vec, nat_le, if◌then◌else◌}
use Rattle.std.specs.declared.alloc.Global.{Global}
use Rattle.support_io.specs.declared.whole_read.ReadError.{ReadError}
use Rattle.support_io.specs.declared.whole_read.ReadError.TheVariants.{ReadFault, TooLong, NoMemory}

-- what is owed for a name that holds this: all of it, up to the cap
abbrev pub whole_of : ℕ → Option (List ℕ) → Result (List ℕ) ReadError
whole_of cap None = Err ReadFault
whole_of cap (Some bytes) = if nat_le (length bytes) cap then Ok bytes else Err TooLong

-- The answer is what is owed, unless the input failed or memory ran out.
abbrev pub Answers : Result (Vec ℕ Global) ReadError → Result (List ℕ) ReadError → Type 0
Answers (Ok bytes) owed = owed ≡ Ok bytes.items
Answers (Err TooLong) owed = owed ≡ Err TooLong
Answers (Err ReadFault) owed = Unit {0}
Answers (Err NoMemory) owed = Unit {0}

-- At most so many bytes were taken from the front of what was left.
abbrev pub TakesAtMost : ℕ → List ℕ → List ℕ → Type 0
TakesAtMost most old new = (count : ℕ) × (count ≤ most) × (new ≡ drop count old)
