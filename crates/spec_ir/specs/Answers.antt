-- The first fault, and when a call answers it.
use Rattle.std.specs.Prelude.{◌≡◌, ◌⊎◌, Bool, true, false, Option, Some, None, Result, Ok, Err}
use Rattle.spec_ir.specs.declared.spec_error.SpecError.{SpecError}
use Rattle.spec_ir.specs.declared.spec_error.SpecError.TheVariants.{NoMemory}

-- the first fault of two parts, one after the other
infixl 10 ◌then◌
abbrev pub ◌then◌ : Option SpecError → Option SpecError → Option SpecError
None then later = later
(Some e) then later = Some e

-- a fault where a test fails
abbrev pub unless : Bool → SpecError → Option SpecError
unless true e = None
unless false e = Some e

-- what is looked for in something that may be missing, in which case it is a fault before
abbrev pub within : {A : Type 0} → Option A → (A → Option SpecError) → Option SpecError
within None f = None
within (Some x) f = f x

-- what is looked for in something that has to be there
abbrev pub found : {A : Type 0} → Option A → SpecError → (A → Option SpecError) → Option SpecError
found None e f = Some e
found (Some x) e f = f x

-- Ok exactly where there is no fault, and else the first, or memory ran out.
abbrev pub Agrees : {A : Type 0} → Result A SpecError → Option SpecError → Type 0
Agrees (Ok x) first = first ≡ None
Agrees (Err e) first = (first ≡ Some e) ⊎ (e ≡ NoMemory)
