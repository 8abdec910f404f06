-- An analysis by cases keeps the laws, and is sound.
use Rattle.std.specs.Prelude.{ℕ, List}
use Rattle.base_trait.specs.Uses.{Seen}
use Rattle.fixpoint_theory.specs.Analysis.{Analysis, AnalysisLaws}
use Rattle.fixpoint_theory.specs.Runs.{IsSound, Machine}
use Rattle.fixpoint_cases.specs.ByCases.{MergeLaws, by_cases}
use Rattle.fixpoint_cases.specs.Cases.{IsSplit, Split}
use Rattle.fixpoint_cases.specs.Same.{SplitsAlike}
use Rattle.fixpoint_cases.proofs.ByCases.{keep_the_laws_by_cases, sound_by_cases}

module _ {E W S : Type 0} (A : Analysis E W S) (split : Split E) (merge : List Seen → List Seen) (depth : ℕ) where
  pub laws_by_cases : AnalysisLaws A → IsSplit A.elements split → SplitsAlike A.elements split → MergeLaws merge → AnalysisLaws (by_cases A split merge depth)
  laws_by_cases laws is alike merging = keep_the_laws_by_cases A split merge depth laws is alike merging

  pub is_sound_by_cases : (M : Machine S) → AnalysisLaws A → IsSplit A.elements split → MergeLaws merge → IsSound A M → IsSound (by_cases A split merge depth) M
  is_sound_by_cases M laws is merging sound = sound_by_cases A M split merge depth laws is merging sound
