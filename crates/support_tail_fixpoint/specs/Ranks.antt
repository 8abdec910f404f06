-- The rank of group arguments: a missing list counts one more than the greatest rank that it can have.
use Rattle.std.specs.Prelude.{◌≡◌, ℕ, zero, suc, ◌+◌, ◌<◌, ◌≤◌, false, List, [], ◌∷◌, Option, Some, None}
use Rattle.support_tail_fixpoint.specs.Moves.{Moves}

abbrev pub rank_some : {A : Type 0} → (rank : A → ℕ) → (top : ℕ) → Option A → ℕ
rank_some rank top None = suc top
rank_some rank top (Some x) = rank x

-- the rank of the arguments of so many functions, where function i has the greatest rank `top i`
abbrev pub ranks : {A : Type 0} → (rank : ℕ → A → ℕ) → (top : ℕ → ℕ) → (count : ℕ) → List (Option A) → ℕ
ranks rank top zero xs = 0
ranks rank top (suc count) [] = rank_some (rank zero) (top zero) None + ranks (λ i. rank (suc i)) (λ i. top (suc i)) count []
ranks rank top (suc count) (x ∷ xs) = rank_some (rank zero) (top zero) x + ranks (λ i. rank (suc i)) (λ i. top (suc i)) count xs

-- Functions are so many, and ranks of their argument lists are bounded. Widening raises no rank, and lowers that of
-- a list that does not absorb the new one.
pub record RanksFall {A O : Type 0} (m : Moves A O) (Fits : ℕ → A → Type 0) (rank : ℕ → A → ℕ) (top : ℕ → ℕ) (count : ℕ) : Type 0 where
  pub counted : (i : ℕ) (x : A) → Fits i x → i < count
  pub bounded : (i : ℕ) (x : A) → Fits i x → rank i x ≤ top i
  pub stays : (i : ℕ) (old new : A) → Fits i old → Fits i new → rank i (m.widen_args old new) ≤ rank i old
  pub falls : (i : ℕ) (old new : A) → Fits i old → Fits i new → m.absorbs old new ≡ false → rank i (m.widen_args old new) < rank i old
