-- The state from which a machine starts has the type of its states.
use Rattle.std.proofs.Common.{◌≡◌, ℕ, ◌<◌, ◌^◌, Some, List, refl, sym, ◌∙◌, ap, subst}
use Rattle.std.specs.Prelude.{Result, Ok, Err}
use Rattle.spec_ir.specs.declared.spec.Machine.{Machine}
use Rattle.spec_ir.specs.Specification.{Spec}
use Rattle.semantics_values.specs.States.{State}
use Rattle.semantics_values.specs.Types.{environment_of}
use Rattle.semantics_laws.specs.Accepted.{IsAccepted}
use Rattle.semantics_laws.specs.KeptTypes.{IsTypedState}
use Rattle.semantics_laws.proofs.Kept.{entry_states_have_their_type}
use Rattle.state_cell_text.specs.Places.{state_fields}
use Rattle.state_text.specs.declared.entry_error.EntryError.{EntryError}
use Rattle.state_text.specs.OneState.{one_state, types_behind}
use Rattle.state_text.specs.Reading.{Entry, read}
use Rattle.concrete_emulator.specs.Ends.{IsStateOf}
use Rattle.state_entry_laws.proofs.Accepted.{read_states_are_described}
use Rattle.program_common.specs.Reading.{Reading}
use Rattle.program_common.proofs.Steps.{opened}
use Rattle.program_machine.specs.Entry.{StartOf, StartsFrom, entered, entry_cap, state_in}
use Rattle.program_machine.proofs.Cells.{fields_of_states}

module _ (spec : Spec) (machine : Machine) (ok : IsAccepted spec) (e : spec.machine ≡ Some machine) where
  abbrev IsTyped : State → Type 0
  IsTyped s = IsTypedState (environment_of spec) machine.state s

  typed : (text : List ℕ) (entry : Entry) (s : State) → read spec text ≡ Ok entry → one_state spec entry ≡ Ok s → IsTyped s
  typed text entry s is one =
      let described = read_states_are_described spec machine text entry s ok e is one in
      entry_states_have_their_type spec machine (types_behind (state_fields spec)) entry.pc entry.lines s ok e (fields_of_states spec machine ok e)
      (subst (λ (n : ℕ). n < 2 ^ 32) described.0.counter described.1) described.0

  by_state : (text : List ℕ) (entry : Entry) (s : State) (found : Result State EntryError) → read spec text ≡ Ok entry → one_state spec entry ≡ found → Ok s ≡ entered found → IsTyped s
  by_state text entry s (Err fault) is one h = absurd (cc)
  by_state text entry s (Ok t) is one h = let same : t ≡ s = cc in subst IsTyped same (typed text entry t is one)

  by_entry : (text : List ℕ) (s : State) (found : Result Entry EntryError) → read spec text ≡ found → Ok s ≡ entered (state_in spec found) → IsTyped s
  by_entry text s (Err fault) is h = absurd (cc)
  by_entry text s (Ok entry) is h = by_state text entry s (one_state spec entry) is refl h

pub start_typed : (reads : Reading) (spec : Spec) (name : List ℕ) (s : State) → IsAccepted spec → StartOf reads spec name (Ok s) → IsStateOf spec s
start_typed reads spec name s ok p machine e =
    let o = opened (reads entry_cap name) (StartsFrom spec) s p in
    by_entry spec machine ok e o.0 s (read spec o.0) refl o.2
