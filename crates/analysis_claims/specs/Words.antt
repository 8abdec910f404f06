-- Words of cells that are there, and of which numbers may be asked.
use Rattle.std.specs.Prelude.{ℕ, Option, Some, None, ⊤}
use Rattle.word_operations.specs.Width.{IsWidth}
use Rattle.base_trait.specs.Algebra.{Algebra}
use Rattle.semantics_values.specs.declared.entry.GivenNumber.{GivenNumber}
use Rattle.domain_laws.specs.Entries.{GivenFits}

-- The word fits its width, and these are numbers of that width.
pub record IsWordFor {W N C : Type 0} (B : Algebra W N C) (c : C) (given : GivenNumber) (w : ℕ) (x : W) : Type 0 where
  pub width : IsWidth w
  pub fits : B.words.fits c w x
  pub numbers : GivenFits w given

-- So does a word with its width, if there is one.
abbrev pub HasWordFor : {W N C : Type 0} → Algebra W N C → C → GivenNumber → Option (ℕ × W) → Type 0
HasWordFor B c given None = ⊤
HasWordFor B c given (Some x) = IsWordFor B c given x.0 x.1
