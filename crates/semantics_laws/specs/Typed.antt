-- Of accepted specifications the meaning is never wrong, and has its type.
use Rattle.std.specs.Prelude.{◌≡◌, ⊤, ℕ, Bool, true, ◌&&◌, nat_lt, Some, List, length, slice_get}
use Rattle.std.specs.List.{list_all}
use Rattle.base_trait.specs.Uses.{Read}
use Rattle.spec_ir.specs.declared.ty.Ty.{Ty}
use Rattle.spec_ir.specs.Environment.{Environment, key_type}
use Rattle.spec_ir.specs.Specification.{Spec, Fun}
use Rattle.semantics_values.specs.Values.{Val, vals}
use Rattle.semantics_values.specs.Types.{environment_of, key_count, has_type, have_types}
use Rattle.semantics.specs.Outcomes as o
use Rattle.semantics.specs.Outcomes.{Outcome}
use Rattle.semantics.specs.Runs.{meaning}
use Rattle.semantics_laws.specs.Accepted.{IsAccepted}

module _ (env : Environment) where
  -- whether a read is of a map that is declared, at one of its keys
  abbrev pub is_read : Read → Bool
  is_read r = nat_lt r.of_map (length env.maps) && nat_lt r.key (key_count env (key_type env r.of_map))

  abbrev pub are_reads : List Read → Bool
  are_reads l = list_all is_read l

  -- An evaluation is deep, or gives a value of a type with reads of maps that are declared. It isn't wrong.
  abbrev pub IsOutcomeOf : Ty → Outcome Val → Type 0
  IsOutcomeOf ty (o.deep i) = ⊤
  IsOutcomeOf ty o.wrong = ⊥
  IsOutcomeOf ty (o.gives v l) = (has_type env v ty ≡ true) × (are_reads l ≡ true)

-- Of an accepted specification, a call on arguments that have the types of the function's parameters is never wrong
-- under any bound on turns: it is deep, or gives a value of the type of the function's result.
abbrev pub MeaningsHaveTypes : Type 0
MeaningsHaveTypes =
    (spec : Spec) (a d i : ℕ) (fun : Fun) (args : List Val) (l : List Read)
    → IsAccepted spec → slice_get spec.funs i ≡ Some fun → have_types (environment_of spec) (vals args) fun.params ≡ true → are_reads (environment_of spec) l ≡ true
    → IsOutcomeOf (environment_of spec) fun.result_type (meaning spec a d i args l)
