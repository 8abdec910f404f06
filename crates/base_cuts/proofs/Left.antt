-- What is left fits, where it is what the definition says.
use Rattle.std.proofs.Common.{◌≡◌, Option, IfOk, sym, subst}
use Rattle.std.specs.Prelude.{IfSome, Result, Ok, Err}

pub left_fits : {W E : Type 0} (P : W → Type 0) (result : Result (Option W) E) (o : Option W) → IfOk result (λ r. r ≡ o) → IfSome o P → IfOk result (λ r. IfSome r P)
left_fits P (Ok r) o e h = subst (λ z. IfSome z P) (sym e) h
left_fits P (Err error) o e h = tt
