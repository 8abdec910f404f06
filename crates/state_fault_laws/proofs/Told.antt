-- Faults of specifications that have a line, and the ways in which first faults are put together.
use Rattle.std.proofs.Common.{◌≡◌, ◌≢◌, Bool, true, false, Option, Some, None, subst}
use Rattle.spec_ir.specs.declared.spec_error.SpecError.{SpecError}
use Rattle.spec_ir.specs.declared.spec_error.SpecError.TheVariants.{NoMemory}
use Rattle.spec_ir.specs.Answers.{found, unless, within, ◌then◌}

abbrev pub IsTold : SpecError → Type 0
IsTold NoMemory = ⊥
IsTold _ = Unit {0}

abbrev pub IsToldIn : Option SpecError → Type 0
IsToldIn None = Unit {0}
IsToldIn (Some e) = IsTold e

pub told_is : (e : SpecError) → IsTold e → e ≢ NoMemory
told_is e told is = subst IsTold is told

pub told_some : (first : Option SpecError) (e : SpecError) → IsToldIn first → first ≡ Some e → IsTold e
told_some first e told is = subst IsToldIn is told

pub both : (first later : Option SpecError) → IsToldIn first → IsToldIn later → IsToldIn (first then later)
both None later p q = q
both (Some e) later p q = p

pub where_fails : (holds : Bool) (e : SpecError) → IsTold e → IsToldIn (unless holds e)
where_fails true e p = tt
where_fails false e p = p

pub where_found : {A : Type 0} (x : Option A) (e : SpecError) (f : A → Option SpecError) → IsTold e → ((a : A) → IsToldIn (f a)) → IsToldIn (found x e f)
where_found None e f p q = p
where_found (Some a) e f p q = q a

pub where_there : {A : Type 0} (x : Option A) (f : A → Option SpecError) → ((a : A) → IsToldIn (f a)) → IsToldIn (within x f)
where_there None f q = tt
where_there (Some a) f q = q a
