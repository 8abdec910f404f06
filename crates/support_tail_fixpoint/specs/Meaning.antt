-- What the calls of a `Turn` mean.
use Rattle.std.specs.Prelude.{ℕ, Bool, IsTrue}
use Rattle.support_tail_fixpoint.specs.Fitting.{KeepsArgs, KeepsOut}
use Rattle.support_tail_fixpoint.specs.Moves.{Moves}

-- The meaning of a `Turn` with arguments A and results O.
pub record Meaning (A O : Type 0) : Type 0 where
  -- the joins, the widening and the comparison
  pub moves : Moves A O
  -- which arguments and which results fit
  pub fits_args : A → Bool
  pub fits_out : O → Bool
  -- the rank of arguments
  pub rank : A → ℕ

-- The arguments fit.
abbrev pub ArgsFit : {A O : Type 0} → Meaning A O → A → Type 0
ArgsFit m x = IsTrue (m.fits_args x)

-- The result fits.
abbrev pub OutFits : {A O : Type 0} → Meaning A O → O → Type 0
OutFits m x = IsTrue (m.fits_out x)

-- What is joined or widened from what fits fits.
pub record KeepsFit {A O : Type 0} (m : Meaning A O) : Type 0 where
  pub args : KeepsArgs m.moves (ArgsFit m)
  pub out : KeepsOut m.moves (OutFits m)
