-- When two worklist states stand for one: elements that are the same, and changes counted up to the joins of the analysis.
use Rattle.std.specs.Prelude.{◌≡◌, ℕ, min, Option, Some, None}
use Rattle.fixpoint_theory.specs.Analysis.{Analysis}
use Rattle.fixpoint_theory.specs.WorklistState.{WorklistState, Reached}

module _ {E W S : Type 0} (A : Analysis E W S) where
  pub record IsLikeReached (r s : Reached E) : Type 0 where
    pub elem : A.elements.same r.elem s.elem
    pub changes : min r.changes A.joins ≡ min s.changes A.joins
    pub pending : r.pending ≡ s.pending

  abbrev pub IsLike : Option (Reached E) → Option (Reached E) → Type 0
  IsLike None None = Unit {0}
  IsLike (Some r) (Some s) = IsLikeReached r s
  IsLike _ _ = ⊥

  abbrev pub AllLike : WorklistState E → WorklistState E → Type 0
  AllLike p q = (a : ℕ) → IsLike (p a) (q a)
