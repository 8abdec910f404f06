-- Calls that are to fail.
use Rattle.std.specs.Prelude.{◌≡◌, ℕ, Bool, ◌&&◌, ◌==◌, List, Option, length, is_some, Contains}
use Rattle.support_io.specs.Faults.{counted}
use Rattle.support_io.specs.declared.failing_calls.FailingCalls.{FailingCalls}

-- The next call is to fail.
abbrev pub FailsNext : FailingCalls → Type 0
FailsNext calls = Contains calls.fail.items calls.next

-- One more call was made.
pub record GoesOn (old new : FailingCalls) : Type 0 where
  pub fail : new.fail.items ≡ old.fail.items
  pub next : new.next ≡ counted old.next

-- whether a name is sure: it is held, and no call is to fail
abbrev pub sure_names : FailingCalls → (List ℕ → Option (List ℕ)) → List ℕ → Bool
sure_names calls held name = (length calls.fail.items == 0) && is_some (held name)
