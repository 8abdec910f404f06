-- The fields of the states of a machine.
use Rattle.std.proofs.Common.{◌≡◌, ℕ, Option, Some, List, ◌∷◌, slice_get, refl, sym, ◌∙◌, ap, subst}
use Rattle.spec_ir.specs.declared.ty.Ty.{Ty}
use Rattle.spec_ir.specs.declared.ty.Ty.TheVariants.{Word, Data as DataTy}
use Rattle.spec_ir.specs.declared.spec.Machine.{Machine}
use Rattle.spec_ir.specs.Environment.{Case, Data}
use Rattle.spec_ir.specs.Specification.{Spec}
use Rattle.spec_ir.specs.Texts.{case_at, cases_of, fields_at}
use Rattle.semantics_values.specs.Types.{environment_of}
use Rattle.semantics_laws.specs.Accepted.{IsAccepted, IsMachine, IsMachineIfAny}
use Rattle.state_cell_text.specs.Places.{Field, fields_in, fields_of, state_fields}
use Rattle.state_text.specs.OneState.{types_behind}
use Rattle.state_entry_laws.proofs.Accepted.{behind as behind_are}

module _ (spec : Spec) (m : Machine) (ok : IsAccepted spec) (e : spec.machine ≡ Some m) where
  is : IsMachine spec m
  is = subst (IsMachineIfAny spec) e ok.machine

  fields_are : state_fields spec ≡ is.one.fields
  fields_are =
      ap (fields_in spec) e ∙ ap (λ (d : Option Data). fields_of (slice_get (cases_of d) 0)) is.states_there
      ∙ ap (λ (cases : List Case). fields_of (slice_get cases 0)) is.one_alone

  types_are : types_behind (state_fields spec) ≡ is.parts
  types_are = ap (λ (fields : List Field). types_behind fields) fields_are ∙ behind_are is.one.fields (Word 32) is.parts is.counter

  -- the first field of states is the counter
  pub fields_of_states : fields_at (case_at (environment_of spec) (DataTy m.state) 0) ≡ Word 32 ∷ types_behind (state_fields spec)
  fields_of_states =
      ap (λ (d : Option Data). fields_at (slice_get (cases_of d) 0)) is.states_there
      ∙ ap (λ (cases : List Case). fields_at (slice_get cases 0)) is.one_alone ∙ is.counter
      ∙ ap (λ (types : List Ty). Word 32 ∷ types) (sym types_are)
