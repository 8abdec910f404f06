-- How a sink stands, and what a call writes to it.
use Rattle.std.specs.Prelude.{◌≡◌, ℕ, ◌+◌, ◌≤◌, ◌++◌, Bool, List, Result, IsTrue, length, take}
use Rattle.std.specs.Result.{result_unwrap_or}

pub record SinkState : Type 0 where
  -- whether the sink tells what was written to it
  pub tells : Bool
  -- the bytes written so far
  pub written : List ℕ
  -- how many faults were counted: a 64-bit count, which stays at its last value
  pub faults : ℕ
  -- for how many bytes more it is sure that they are taken
  pub room : ℕ

-- What stays through every call. The count of faults never falls.
pub record SinkKept (old new : SinkState) : Type 0 where
  pub tells : new.tells ≡ old.tells
  pub faults : old.faults ≤ new.faults

-- Where the sink tells, these bytes were appended.
abbrev pub Appends : SinkState → SinkState → List ℕ → Type 0
Appends old new bytes = IsTrue old.tells → new.written ≡ old.written ++ bytes

-- A front of these bytes was appended, all of them or not, and the room fell by no more.
pub record AppendsFront (old new : SinkState) (bytes : List ℕ) : Type 0 where
  pub count : ℕ
  pub within : count ≤ length bytes
  pub appended : Appends old new (take count bytes)
  pub room : old.room ≤ new.room + count

-- how many bytes a write took: none where it failed
abbrev pub taken : {E : Type 0} → Result ℕ E → ℕ
taken answer = result_unwrap_or answer 0
