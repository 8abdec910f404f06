-- How the words of a base are cut.
use Rattle.std.specs.Prelude.{ℕ, ◌≤◌, List, Option, Some, IfSome, IsSomeAnd, IsTrue}
use Rattle.word_operations.specs.Width.{IsWidth}
use Rattle.base_trait.specs.Algebra.{Words}

-- Words W over contexts C. Widths are counted in bits.
pub record Cuts (W C : Type 0) : Type 0 where
  -- what is left of a word between two numbers, or nothing
  pub meet : C → ℕ → W → ℕ → ℕ → Option W

pub record CutLaws {W C : Type 0} (B : Words W C) (K : Cuts W C) : Type 0 where
  -- what is left fits, and is no more than the word
  pub meet_fits : (c : C) (w low high : ℕ) (x : W) → IsWidth w → B.fits c w x → IfSome (K.meet c w x low high) (λ y. B.fits c w y)
  pub meet_within : (c : C) (w low high : ℕ) (x : W) → IsWidth w → B.fits c w x → IfSome (K.meet c w x low high) (λ y. IsTrue (B.absorbs c w x y))
  -- a number that the word describes stays, where it lies between
  pub meet_describes : (c : C) (valuation : List ℕ) (w low high n : ℕ) (x : W) → IsWidth w → B.fits c w x → B.describes valuation w n x → low ≤ n → n ≤ high
      → IsSomeAnd (K.meet c w x low high) (λ y. B.describes valuation w n y)

-- words that are never cut
abbrev pub uncut : {W C : Type 0} → Cuts W C
uncut = record { meet = λ c w x low high. Some x }
