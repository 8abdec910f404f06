-- Runs of an accepted machine keep types.
use Rattle.std.specs.Prelude.{◌≡◌, ⊤, ℕ, ◌<◌, ◌^◌, true, Option, Some, List, ◌∷◌}
use Rattle.spec_ir.specs.declared.ty.Ty.{Ty}
use Rattle.spec_ir.specs.declared.ty.Ty.TheVariants.{Word, Data as DataTy}
use Rattle.spec_ir.specs.declared.spec.Machine.{Machine}
use Rattle.spec_ir.specs.Environment.{Environment}
use Rattle.spec_ir.specs.Specification.{Spec}
use Rattle.spec_ir.specs.Texts.{case_at, fields_at}
use Rattle.semantics_values.specs.declared.entry.Line.{Line}
use Rattle.semantics_values.specs.Values.{Val}
use Rattle.semantics_values.specs.Types.{environment_of, has_type}
use Rattle.semantics_values.specs.States.{State, value_of}
use Rattle.semantics.specs.Decode.{decoded}
use Rattle.semantics.specs.Entries.{IsEntryState}
use Rattle.semantics.specs.Runs as r
use Rattle.semantics.specs.Runs.{Stepped, Ended, step, after}
use Rattle.semantics_laws.specs.Accepted.{IsAccepted}
use Rattle.semantics_laws.specs.Typed.{are_reads}

-- A state has the type of states, where this is the number of their datatype.
abbrev pub IsTypedState : Environment → ℕ → State → Type 0
IsTypedState env ty s = has_type env (value_of ty s) (DataTy ty) ≡ true

-- A step isn't wrong, and where it gives a state that has its type, and all reads are of maps that are declared.
abbrev pub IsTypedStep : Environment → ℕ → Stepped → Type 0
IsTypedStep env ty (r.steps_to next reads) = IsTypedState env ty next × (are_reads env reads ≡ true)
IsTypedStep env ty r.left = ⊤
IsTypedStep env ty (r.undecodable code_word) = ⊤
IsTypedStep env ty r.deep = ⊤
IsTypedStep env ty r.wrong = ⊥

-- A run doesn't end for a wrong step, and its last state has its type.
pub record IsTypedEnd (env : Environment) (ty : ℕ) (e : Ended) : Type 0 where
  pub state : IsTypedState env ty e.state
  pub right : ¬ (e.stop ≡ r.Stop.wrong)

-- An instruction that a code word is has the type of instructions.
abbrev pub InstructionsHaveTheirType : Type 0
InstructionsHaveTheirType =
    (spec : Spec) (machine : Machine) (code_word : ℕ) (p : Val) → IsAccepted spec → spec.machine ≡ Some machine
    → decoded machine.instr spec.rows code_word ≡ Some p → has_type (environment_of spec) p (DataTy machine.instr) ≡ true

-- A state that an entry describes has its type, where the fields of states behind the counter have these types.
abbrev pub EntryStatesHaveTheirType : Type 0
EntryStatesHaveTheirType =
    (spec : Spec) (machine : Machine) (types : List Ty) (pc : ℕ) (lines : List Line) (s : State) → IsAccepted spec → spec.machine ≡ Some machine
    → fields_at (case_at (environment_of spec) (DataTy machine.state) 0) ≡ Word 32 ∷ types → pc < 2 ^ 32 → IsEntryState (environment_of spec) types pc lines s
    → IsTypedState (environment_of spec) machine.state s

-- A step from a state that has its type is never wrong, and keeps the type, whatever the code and the bound on turns.
abbrev pub StepsKeepTypes : Type 0
StepsKeepTypes =
    (spec : Spec) (machine : Machine) (code : ℕ → Option ℕ) (d : ℕ) (s : State) → IsAccepted spec → spec.machine ≡ Some machine
    → IsTypedState (environment_of spec) machine.state s → IsTypedStep (environment_of spec) machine.state (step spec machine code d s)

-- So is a run of any number of steps.
abbrev pub RunsKeepTypes : Type 0
RunsKeepTypes =
    (spec : Spec) (machine : Machine) (code : ℕ → Option ℕ) (d n : ℕ) (s : State) → IsAccepted spec → spec.machine ≡ Some machine
    → IsTypedState (environment_of spec) machine.state s → IsTypedEnd (environment_of spec) machine.state (after spec machine code d n s)
