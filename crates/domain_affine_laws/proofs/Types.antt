-- The tracked cells of fields are those of their types.
use Rattle.std.proofs.Common.{◌≡◌, ℕ, List, [], ◌∷◌, map, Option, Some, None, refl, ap, ap₂}
use Rattle.std.specs.Prelude.{slice_get}
use Rattle.spec_ir.specs.declared.ty.Ty.{Ty}
use Rattle.spec_ir.specs.declared.ty.Ty.TheVariants as ty
use Rattle.spec_ir.specs.declared.declared.MapType.{MapType}
use Rattle.spec_ir.specs.Environment.{Environment}
use Rattle.semantics_values.specs.declared.entry.KeyAt.{KeyAt}
use Rattle.domain_affine_element_laws.specs.Tracked.{cells_of, cells_of_map, tracked_of}
use Rattle.domain_laws.specs.States.{field_of, fields_of, map_field}
use Rattle.domain_affine_laws.specs.Laws.{TypesAreTracked}
use Rattle.domain_affine_laws.specs.Tracked.{field_cells}

module _ (env : Environment) where
  of_map : (m : ℕ) (o : Option MapType) → field_cells (map_field env m o) ≡ cells_of_map env o
  of_map m None = refl
  of_map m (Some d) = refl

  of_type : (t : Ty) → field_cells (field_of env t) ≡ cells_of env t
  of_type (ty.Word w) = refl
  of_type (ty.Map m) = of_map m (slice_get env.maps m)
  of_type _ = refl

  of_types : (types : List Ty) → ◌≡◌ {A = List (List KeyAt)} (map field_cells (fields_of env types)) (map (cells_of env) types)
  of_types [] = refl
  of_types (t ∷ types) = ap₂ (λ keys more. keys ∷ more) (of_type t) (of_types types)

pub types_are_tracked : TypesAreTracked
types_are_tracked env types = ap tracked_of (of_types env types)
