-- Worklist states whose elements fit, at code addresses.
use Rattle.std.specs.Prelude.{ℕ, IsTrue, Option, Some, None}
use Rattle.fixpoint_theory.specs.Analysis.{Analysis}
use Rattle.fixpoint_theory.specs.Code.{is_code}
use Rattle.fixpoint_theory.specs.WorklistState.{WorklistState, Reached}

module _ {E W S : Type 0} (A : Analysis E W S) where
  -- what stands at an address fits, and the address is a code address
  abbrev pub IsFit : ℕ → Option (Reached E) → Type 0
  IsFit a None = Unit {0}
  IsFit a (Some r) = IsTrue (is_code A.code a) × A.elements.fits r.elem

  abbrev pub AllFit : WorklistState E → Type 0
  AllFit p = (a : ℕ) → IsFit a (p a)
