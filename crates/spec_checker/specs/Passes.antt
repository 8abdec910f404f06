-- Passes, one after the other.
use Rattle.std.specs.Prelude.{◌≡◌, ◌⊎◌, Option, Some, None}
use Rattle.spec_ir.specs.declared.spec_error.SpecError.{SpecError}

-- a pass: which fault is its first, and that it has none
pub record Pass : Type 1 where
  pub fault : SpecError → Type 0
  pub none : Type 0

-- a pass whose first fault is computed
abbrev pub computed : Option SpecError → Pass
computed first = record { fault = λ e. first ≡ Some e; none = first ≡ None }

-- a pass in front of another: the first fault is its own, or where it has none that of the other
infixr 10 ◌followed_by◌
abbrev pub ◌followed_by◌ : Pass → Pass → Pass
p followed_by q = record { fault = λ e. p.fault e ⊎ (p.none × q.fault e); none = p.none × q.none }
