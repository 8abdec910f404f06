-- What is given fits.
use Rattle.std.proofs.Common.{◌≡◌, ℕ, IfOk, sym, subst}
use Rattle.std.specs.Prelude.{Result, Ok, Err}
use Rattle.base_strides.specs.Meaning.{Fits}
use Rattle.base_strides.specs.Words.{Word}

pub fits_of : {E : Type 0} (w : ℕ) (result : Result Word E) (x : Word) → IfOk result (λ r. r ≡ x) → Fits w x → IfOk result (λ r. Fits w r)
fits_of w (Ok r) x e f = subst (Fits w) (sym e) f
fits_of w (Err error) x e f = tt
