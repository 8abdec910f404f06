-- What joins and widenings keep, and what widenings lower.
use Rattle.std.specs.Prelude.{◌≡◌, ℕ, ◌<◌, false}
use Rattle.support_tail_fixpoint.specs.Moves.{Moves}

-- Joins and widenings of arguments that fit fit.
pub record KeepsArgs {A O : Type 0} (m : Moves A O) (Fits : A → Type 0) : Type 0 where
  pub join_args : (x y : A) → Fits x → Fits y → Fits (m.join_args x y)
  pub widen_args : (old new : A) → Fits old → Fits new → Fits (m.widen_args old new)

-- Joins of results that fit fit.
pub record KeepsOut {A O : Type 0} (m : Moves A O) (Fits : O → Type 0) : Type 0 where
  pub join_out : (x y : O) → Fits x → Fits y → Fits (m.join_out x y)

-- Where old arguments do not absorb new ones, and both fit, their widening is of lesser rank.
pub record WideningLowersRank {A O : Type 0} (m : Moves A O) (Fits : A → Type 0) (rank : A → ℕ) : Type 0 where
  pub lowers : (old new : A) → Fits old → Fits new → m.absorbs old new ≡ false → rank (m.widen_args old new) < rank old
