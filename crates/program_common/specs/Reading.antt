-- What inputs give, and how much is taken of them.
use Rattle.std.specs.Prelude.{◌≡◌, ◌⊎◌, ℕ, ◌+◌, ◌<◌, ◌≤◌, List, Option, Some, None, Result, Ok, Err, IsTrue, IsSomeAnd, Contains, length}
use Rattle.std.specs.Bool.{IsFalse}
use Rattle.support_io.specs.Faults.{RoseByOne}
use Rattle.support_io.specs.InputState.{InputState, InputsKept}
use Rattle.support_io.specs.WholeRead.{TakesAtMost}
use Rattle.program_common.specs.declared.outcome.Halt.{Halt}
use Rattle.program_common.specs.Faultless.{NoOtherFault}
use Rattle.program_common.specs.Outcome.{Refusal, cannot_read, too_long}

-- what a name gives under a cap of bytes
abbrev pub Reading : Type 1
Reading = ℕ → List ℕ → Result (List ℕ) Refusal → Type 0

-- the bytes that each name holds
abbrev pub Held : Type 0
Held = List ℕ → Option (List ℕ)

-- What a name that holds this gives: its bytes; that they are too many; or that there is nothing to read.
pub data Holds (held : Held) (cap : ℕ) (name : List ℕ) : Result (List ℕ) Refusal → Type 0 where
  whole : {bytes : List ℕ} → held name ≡ Some bytes → length bytes ≤ cap → Holds held cap name (Ok bytes)
  long : {bytes : List ℕ} → held name ≡ Some bytes → cap < length bytes → Holds held cap name (Err (too_long name))
  none : held name ≡ None → Holds held cap name (Err (cannot_read name))

-- An input of this name could not be read: the name is not sure, and one fault was counted.
pub record CouldNotRead (old new : InputState) (name : List ℕ) : Type 0 where
  pub unsure : IsFalse (old.sure name)
  pub fault : RoseByOne old.faults new.faults

-- What inputs that stood so, and stand so now, gave of a name: bytes or too many of them, as it holds where the inputs tell; or
-- that it could not be read.
pub data Gave (old new : InputState) (cap : ℕ) (name : List ℕ) : Result (List ℕ) Refusal → Type 0 where
  whole : {bytes : List ℕ} → (IsTrue old.tells → old.held name ≡ Some bytes) → length bytes ≤ cap → Gave old new cap name (Ok bytes)
  long : (IsTrue old.tells → IsSomeAnd (old.held name) (λ bytes. cap < length bytes)) → Gave old new cap name (Err (too_long name))
  unread : CouldNotRead old new name → Gave old new cap name (Err (cannot_read name))

-- an input by its name, and how many bytes it may have
abbrev pub Capped : Type 0
Capped = List ℕ × ℕ

-- Where the inputs tell, the one that is open is one of these, and at most one byte past its cap was taken of it.
pub record IsTakenFrom (inputs : List Capped) (old new : InputState) : Type 0 where
  pub cap : ℕ
  pub named : Contains inputs (new.name, cap)
  pub taken : IsSomeAnd (old.held new.name) (λ bytes. TakesAtMost (cap + 1) bytes new.left)

-- Nothing was done to the inputs; or the one that is open is one of these, and no more was taken of it.
abbrev pub Took : {T : Type 0} → (T → InputState) → List Capped → T → T → Type 0
Took state inputs old new = (new ≡ old) ⊎ (IsTrue (state new).is_open → IsTakenFrom inputs (state old) (state new))

-- What a function that ends so did to the inputs: it read of these, each up to its cap, and no more.
pub record ReadsOnly {T A : Type 0} (state : T → InputState) (inputs : List Capped) (old new : T) (result : Result A Halt) : Type 0 where
  -- The inputs hold what they held, and no fault that was counted is forgotten.
  pub kept : InputsKept (state old) (state new)
  -- No fault was counted, unless the answer is that an input could not be read.
  pub no_other_fault : NoOtherFault (state old) (state new) result
  -- Where the inputs tell their bytes, they stand as they stood, or the open one is one of these, and at most one byte past its cap
  -- was taken of it.
  pub taken : IsTrue (state old).tells → Took state inputs old new
