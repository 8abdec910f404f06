-- Laws of the code of accepted specifications.
use Rattle.std.specs.Prelude.{◌≡◌, ℕ, Some, List, length, slice_get}
use Rattle.spec_ir.specs.Specification.{Spec, Fun}
use Rattle.semantics.specs.Direct.{group_of}
use Rattle.semantics_laws.specs.Accepted.{IsAccepted}
use Rattle.eval_code.specs.Asks.{AsksWithin}
use Rattle.eval_code.specs.Code.{FunCode}
use Rattle.eval_code.specs.Lowered.{IsCodeOf}
use Rattle.eval_code.specs.Scopes.{InScope}
use Rattle.eval_code.specs.Valid.{IsValid}

-- The core term of a function of an accepted specification has its variables in scope.
abbrev pub AcceptedTermsAreInScope : Type 0
AcceptedTermsAreInScope = (spec : Spec) (f : ℕ) (fun : Fun) → IsAccepted spec → slice_get spec.funs f ≡ Some fun → InScope (length fun.params) fun.core

-- In its code each node reads slots that were written before it, on every way to it.
abbrev pub AcceptedCodeIsValid : Type 0
AcceptedCodeIsValid = (spec : Spec) (code : List FunCode) (f : ℕ) (body : FunCode) → IsAccepted spec → IsCodeOf code spec → slice_get code f ≡ Some body → IsValid body

-- Each call in which the body of a function ends is of a function that is there, of the same group.
abbrev pub AcceptedCodeAsksWithin : Type 0
AcceptedCodeAsksWithin =
    (spec : Spec) (code : List FunCode) (f : ℕ) (body : FunCode) → IsAccepted spec → IsCodeOf code spec → slice_get code f ≡ Some body
    → AsksWithin (length spec.funs) (group_of spec) (group_of spec f) body.body
