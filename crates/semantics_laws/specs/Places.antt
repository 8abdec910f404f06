-- Places in values: a constructor and one of its fields, from the outermost. The variables of a row of a decision name what stands at
-- places.
use Rattle.std.specs.Prelude.{ℕ, zero, suc, ◌==◌, Option, Some, None, List, [], ◌∷◌, slice_get, option_map, option_and_then, if◌then◌else◌}
use Rattle.spec_match_compiler.specs.Values.{Place}
use Rattle.spec_ir.specs.declared.ty.Ty.{Ty}
use Rattle.spec_ir.specs.Environment.{Environment}
use Rattle.spec_ir.specs.Texts.{case_at, fields_at}
use Rattle.semantics_values.specs.Values.{Val, Vals, made, no_val, val_then}

-- each of a list, where all are there
abbrev pub all_of : {A B : Type 0} → (A → Option B) → List A → Option (List B)
all_of f [] = Some []
all_of f (x ∷ xs) = option_and_then (λ y. option_map (λ ys. y ∷ ys) (all_of f xs)) (f x)

abbrev mutual
  -- what stands at a place of a value
  pub val_at : Place → Val → Option Val
  val_at [] p = Some p
  val_at (step ∷ place) (made t c vs) = if c == step.0 then val_in place step.1 vs else None
  val_at (step ∷ place) _ = None

  -- what stands at a place of field i
  pub val_in : Place → ℕ → Vals → Option Val
  val_in place i no_val = None
  val_in place zero (val_then v vs) = val_at place v
  val_in place (suc i) (val_then v vs) = val_in place i vs

-- what the variables of a row name
abbrev pub vals_named : Val → List (ℕ × Place) → Option (List Val)
vals_named p binds = all_of (λ b. val_at b.1 p) binds

module _ (env : Environment) where
  -- the type of what stands at a place, where values have a type
  abbrev pub type_at : Ty → Place → Option Ty
  type_at ty [] = Some ty
  type_at ty (step ∷ place) = option_and_then (λ t. type_at t place) (slice_get (fields_at (case_at env ty step.0)) step.1)

  -- the types of what the variables of a row name
  abbrev pub types_named : Ty → List (ℕ × Place) → Option (List Ty)
  types_named ty binds = all_of (λ b. type_at ty b.1) binds
