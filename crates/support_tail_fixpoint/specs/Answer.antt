-- What evaluations give that go from state to state.
use Rattle.std.specs.Prelude.{Option, None, Some, IfSome, ⊤}

-- It fails; or there is a value, or none, and the state as it is then.
pub data Answer (F S V : Type 0) : Type 0 where
  fails : F → Answer F S V
  gives : Option V → S → Answer F S V

-- What a turn gives: the join of its leaves, and the joined next arguments.
pub record Yield (A O : Type 0) : Type 0 where
  pub out : Option O
  pub next : Option A

-- the leaves of what a turn gives, if anything
abbrev pub out_of : {A O : Type 0} → Option (Yield A O) → Option O
out_of None = None
out_of (Some y) = y.out

-- the next arguments of what a turn gives, if anything
abbrev pub next_of : {A O : Type 0} → Option (Yield A O) → Option A
next_of None = None
next_of (Some y) = y.next

-- A value that is given is such.
abbrev pub IfGives : {F S V : Type 0} → Answer F S V → (V → Type 0) → Type 0
IfGives (fails f) P = ⊤
IfGives (gives x state) P = IfSome x P

-- It does not fail.
abbrev pub Succeeds : {F S V : Type 0} → Answer F S V → Type 0
Succeeds (fails f) = ⊥
Succeeds (gives x state) = ⊤

-- What a turn gives fits.
abbrev pub YieldFits : {A O : Type 0} → (A → Type 0) → (O → Type 0) → Yield A O → Type 0
YieldFits ArgsFit OutFits y = IfSome y.out OutFits × IfSome y.next ArgsFit
