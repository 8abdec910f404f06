-- Machines that are checked have fields that tell uses.
use Rattle.std.proofs.Common.{◌≡◌, ◌∙◌, true, List, [], ◌∷◌, Option, Some, slice_get, sym, ap, subst}
use Rattle.spec_ir.specs.declared.spec.Machine.{Machine}
use Rattle.spec_ir.specs.declared.spec.SpecUse.TheVariants as use_
use Rattle.spec_ir.specs.declared.ty.Ty.{Ty}
use Rattle.spec_ir.specs.declared.ty.Ty.TheVariants.{Word}
use Rattle.spec_ir.specs.Environment.{Case, Data, field_types}
use Rattle.spec_ir.specs.Specification.{Spec}
use Rattle.spec_ir.specs.Texts.{cases_of, fields_at}
use Rattle.spec_declarations.specs.MachineRules.{are_state_fields}
use Rattle.spec_declarations.proofs.States.{machines_are_there, state_is_one}
use Rattle.domain_laws.specs.States.{behind, state_types, types_in}
use Rattle.semantics_laws.specs.Accepted.{IsMachine, IsMachineIfAny}
use Rattle.semantics_accepted.proofs.Accepted.{checked_are_accepted}
use Rattle.state_entry_laws.proofs.Fields.{machines_have_fields}
use Rattle.text_round_trips.specs.Machines.{MachinesHaveUseTexts}

-- the types behind the first field of the one constructor of states
types_of_states : (spec : Spec) (m : Machine) (d : Data) (c : Case) (rest : List Ty) → spec.machine ≡ Some m → slice_get spec.datas m.state ≡ Some d → d.cases ≡ c ∷ [] → field_types c ≡ Word 32 ∷ rest → state_types spec ≡ rest
types_of_states spec m d c rest machine there one types =
    ap (types_in spec) machine
    ∙ ap (λ (o : Option Data). behind (fields_at (slice_get (cases_of o) 0))) there
    ∙ ap (λ (cases : List Case). behind (fields_at (slice_get cases 0))) one
    ∙ ap behind types

pub machines_have_use_texts : MachinesHaveUseTexts
machines_have_use_texts source tokens end tree spec lexed parsed fine is states =
    let there = machines_are_there tree fine.1.1.0 in
    let accepted = checked_are_accepted use_.Machine tree spec (tokens, end, parsed) fine is in
    let e : spec.machine ≡ Some there.0 = is.machine ∙ there.1 in
    let machine : IsMachine spec there.0 = subst (IsMachineIfAny spec) e accepted.machine in
    let one = state_is_one tree there.0 machine.states fine.1.1.0 there.1 (subst (λ datas. slice_get datas there.0.state ≡ Some machine.states) is.datas machine.states_there) in
    record {
      states = states;
      fields = machines_have_fields source tokens end tree spec lexed parsed fine is;
      maps = subst (λ types. are_state_fields [] types ≡ true) (sym (types_of_states spec there.0 machine.states one.0 one.1 e machine.states_there one.2 one.3)) one.4;
    }
