-- What validity of code is good for, over any base.
use Rattle.std.specs.Prelude.{◌≡◌, ℕ, Some, List, length}
use Rattle.base_trait.specs.Algebra.{Algebra}
use Rattle.base_trait.specs.Uses.{Seen}
use Rattle.spec_ir.specs.Specification.{Spec}
use Rattle.abstract_value_laws.specs.Abs.{Abs}
use Rattle.abstract_semantics.specs.Answers.{Answer}
use Rattle.eval_code.specs.Code.{FunCode}
use Rattle.eval_code.specs.Valid.{IsValid}
use Rattle.eval_code_meaning.specs.Meaning.{code_turn}
use Rattle.eval_code_validity.specs.Readings.{IsRightWhereWritten, Reading, code_read, or_else}

module _ {W N C : Type 0} (B : Algebra W N C) where
  -- On as many arguments as the function has parameters, valid code reads no slot before it is written: what a reading gives for a slot
  -- that is not there makes no difference to what the code gives to a turn.
  abbrev pub ValidCodeReadsWhatIsWritten : Type 0
  ValidCodeReadsWhatIsWritten =
      (spec : Spec) (c : C) (cap a : ℕ) (calls : ℕ → List (Abs W N) → Answer (Abs W N)) (reading : Reading W N) (f : FunCode) (xs : List (Abs W N)) (l : List Seen)
      → IsRightWhereWritten reading → IsValid f → length xs ≡ f.params
      → code_read B c cap spec a calls reading (Some f) xs l ≡ code_turn B c cap spec a calls (Some f) xs l

  -- So it is where each slot that is not there reads as a value, whichever it is.
  abbrev pub ValidCodeNeedsNoDefault : Type 0
  ValidCodeNeedsNoDefault =
      (spec : Spec) (c : C) (cap a : ℕ) (calls : ℕ → List (Abs W N) → Answer (Abs W N)) (x : Abs W N) (f : FunCode) (xs : List (Abs W N)) (l : List Seen)
      → IsValid f → length xs ≡ f.params → code_read B c cap spec a calls (or_else x) (Some f) xs l ≡ code_turn B c cap spec a calls (Some f) xs l
