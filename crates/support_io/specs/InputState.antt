-- How named inputs stand, and what a call changes.
use Rattle.std.specs.Prelude.{◌≡◌, ℕ, ◌≤◌, Bool, List, Option, Some, IsTrue}

pub record InputState : Type 0 where
  -- whether the inputs tell their bytes
  pub tells : Bool
  -- the bytes that each name holds
  pub held : List ℕ → Option (List ℕ)
  -- whether an input is open
  pub is_open : Bool
  -- the name of the open input, where the inputs tell
  pub name : List ℕ
  -- what of the open input is left to read
  pub left : List ℕ
  -- how many faults were counted: a 64-bit count, which stays at its last value
  pub faults : ℕ
  -- whether a name is sure, so that no call on it fails
  pub sure : List ℕ → Bool
  -- whether the open input has a sure name
  pub is_open_sure : Bool

-- What stays through every call. The count of faults never falls.
pub record InputsKept (old new : InputState) : Type 0 where
  pub tells : new.tells ≡ old.tells
  pub held : new.held ≡ old.held
  pub sure : new.sure ≡ old.sure
  pub faults : old.faults ≤ new.faults

-- The named input is open at its first byte, and no fault was counted.
pub record Opened (old : InputState) (name : List ℕ) (new : InputState) : Type 0 where
  pub is_open : IsTrue new.is_open
  pub named : IsTrue old.tells → new.name ≡ name
  pub sure : new.is_open_sure ≡ old.sure name
  pub first_byte : IsTrue old.tells → old.held name ≡ Some new.left
  pub no_fault : new.faults ≡ old.faults

-- The same input is open.
pub record StillOpen (old new : InputState) : Type 0 where
  pub is_open : IsTrue new.is_open
  pub named : new.name ≡ old.name
  pub sure : new.is_open_sure ≡ old.is_open_sure
