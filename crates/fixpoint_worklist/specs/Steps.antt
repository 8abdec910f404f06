-- What a step of a worklist comes to.
use Rattle.std.specs.Prelude.{◌≡◌, ℕ, List, IsSomeAnd}
use Rattle.base_trait.specs.Uses.{Seen}
use Rattle.fixpoint_theory.specs.Analysis.{Analysis}
use Rattle.fixpoint_theory.specs.Outcome.{Moves, too_many, undecodable}
use Rattle.fixpoint_theory.specs.WorklistState.{WorklistState, transferred}
use Rattle.fixpoint_worklist.specs.Likeness.{AllLike}
use Rattle.fixpoint_worklist.specs.declared.worklist_step.WorklistStep.{WorklistStep}
use Rattle.fixpoint_worklist.specs.declared.worklist_step.WorklistStep.TheVariants.{Moved, Undecodable, TooMany}

module _ {E W S : Type 0} (A : Analysis E W S) where
  -- What the step gives is the transfer of what stands at the address, and where it has targets the new
  -- worklist state is as after it.
  abbrev pub IsStepped : WorklistState E → WorklistState E → ℕ → WorklistStep W → Type 0
  IsStepped p q at Moved = IsSomeAnd (p at) (λ r. Moves (A.transfer at r.elem)) × AllLike A q (transferred A p at)
  IsStepped p q at (Undecodable word) = IsSomeAnd (p at) (λ r. A.transfer at r.elem ≡ undecodable word)
  IsStepped p q at (TooMany shown) = IsSomeAnd (p at) (λ r. (uses : List Seen) × (A.transfer at r.elem ≡ too_many shown uses))

-- the transfer was made
abbrev pub IsMove : {W : Type 0} → WorklistStep W → Type 0
IsMove Moved = Unit {0}
IsMove (Undecodable word) = ⊥
IsMove (TooMany shown) = ⊥
