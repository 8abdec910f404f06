-- What is read is a well-posed problem.
use Rattle.std.proofs.Common.{◌≡◌, ℕ, ◌<◌, ◌≤◌, ◌^◌, List, Option, Some, None, true, length, refl, ap, sym, subst, ◌∙◌}
use Rattle.std.specs.Prelude.{Bool, IfOk, IsSome, IsTrue, Result, Ok, Err, is_some}
use Rattle.support_command_line.specs.Code.{Code}
use Rattle.support_command_line.specs.SpecNames.{SpecName}
use Rattle.spec_ir.specs.declared.spec.Machine.{Machine as Numbers}
use Rattle.spec_ir.specs.declared.spec.SpecUse.TheVariants.{Machine}
use Rattle.spec_ir.specs.Specification.{Spec}
use Rattle.code_image.specs.Image.{Image, addresses, code_at}
use Rattle.code_image.proofs.Addresses.{addresses_are_those_of_words}
use Rattle.semantics_laws.specs.Accepted.{IsAccepted}
use Rattle.state_text.specs.declared.entry_error.EntryError.{EntryError}
use Rattle.semantics_values.specs.declared.entry.Entry as code
use Rattle.state_text.specs.Reading.{Entry, entry_of, read}
use Rattle.domain_laws.specs.States.{has_states, state_type}
use Rattle.analysis_problems.proofs.States.{accepted_have_states}
use Rattle.analysis_problems.proofs.CheckedStates.{fields_have_numbers}
use Rattle.fixpoint_theory.specs.Code.{is_code}
use Rattle.analysis_transfer_laws.specs.Problem.{IsWellFormedProblem}
use Rattle.analysis_problems.specs.Problems.{problem_of}
use Rattle.analysis_problems.proofs.WellPosed.{read_problems_are_well_posed}
use Rattle.program_common.specs.declared.outcome.Halt.{Halt}
use Rattle.program_common.specs.Outcomes.{Gives}
use Rattle.program_common.specs.Reading.{Reading}
use Rattle.program_common.specs.Steps.{goes_on}
use Rattle.program_common.proofs.Steps.{opened}
use Rattle.program_machine.specs.Code.{CodeOf}
use Rattle.program_machine.specs.Entry.{entered}
use Rattle.program_machine.specs.Machines.{MachineOf}
use Rattle.program_machine.proofs.Giving.{specified_accepted, specified_machine}
use Rattle.program_machine.specs.AnalysisEntry.{Enters, EntryOf, IsEntry}
use Rattle.program_machine.specs.Cells.{CellOf}
use Rattle.program_machine.specs.Inputs.{CodeInputs, CodedOf, AnalysisInputs, PosedOf, PosedWith, SliceInputs, SoughtOf}
use Rattle.program_machine.proofs.Images.{code_image}

pub some_machine : (found : Option Numbers) → IsSome found → (m : Numbers) × (found ≡ Some m)
some_machine None some = absurd (cc)
some_machine (Some m) some = (m, refl)

entry_in : (bytes : List ℕ) (spec : Spec) (entry : Entry) (found : Result Entry EntryError) → read spec bytes ≡ found → Ok entry ≡ entered found → read spec bytes ≡ Ok entry
entry_in bytes spec entry (Ok given) is same = let here : given ≡ entry = cc in is ∙ ap (λ (e : Entry). Ok e) here
entry_in bytes spec entry (Err fault) is same = absurd (cc)

-- a text that gives an entry
pub text_entry : (spec : Spec) (bytes : List ℕ) (entry : Entry) → Enters spec bytes (Ok entry) → IsEntry spec entry
text_entry spec bytes entry is = (bytes, entry_in bytes spec entry (read spec bytes) refl is)

pub gives_entry : (spec : Spec) (bytes : List ℕ) (result : Result code.Entry Halt) → Gives (Enters spec bytes) entry_of result → IfOk result (λ e. IsEntry spec (entry_of e))
gives_entry spec bytes (Ok e) is = text_entry spec bytes (entry_of e) is
gives_entry spec bytes (Err halt) is = tt

module _ (reads : Reading) (name : SpecName) (spec : Spec) where
  pub machine_accepted : MachineOf reads name (Ok spec) → IsAccepted spec
  machine_accepted (goes_on {given = source} read is) = specified_accepted source spec is

  pub machine_there : MachineOf reads name (Ok spec) → IsSome spec.machine
  machine_there (goes_on {given = source} read is) = specified_machine source spec is

  pub machine_few : MachineOf reads name (Ok spec) → length (state_type spec).fields < 2 ^ 32
  machine_few (goes_on {given = source} read is) = fields_have_numbers Machine is.tree spec is.faultless is.checked

  pub entry_read : (entry_name : List ℕ) (entry : Entry) → EntryOf reads spec entry_name (Ok entry) → IsEntry spec entry
  entry_read entry_name entry (goes_on {given = bytes} read is) = text_entry spec bytes entry is

  -- the problem of what was read
  pub well_posed : (code : Code) (entry_name : List ℕ) (image : Image) (entry : Entry) (m : Numbers) (limit joins cases : ℕ) → length code.parts ≤ 16 → MachineOf reads name (Ok spec) → CodeOf reads code (Ok image)
      → EntryOf reads spec entry_name (Ok entry) → spec.machine ≡ Some m → IsWellFormedProblem (problem_of spec m image entry limit joins cases)
  well_posed code entry_name image entry m limit joins cases few specified is_image is_entry is_machine =
      let given = entry_read entry_name entry is_entry in
      read_problems_are_well_posed addresses_are_those_of_words spec m image given.0 entry limit joins cases (machine_accepted specified) is_machine (code_image reads code image few is_image) given.1

-- ---- what was read together

module _ (reads : Reading) (name : SpecName) (code : Code) where
  -- its parts
  pub record IsCoded (coded : CodeInputs) : Type 0 where
    pub machine : MachineOf reads name (Ok coded.spec)
    pub image : CodeOf reads code (Ok coded.image)

  pub coded_parts : (coded : CodeInputs) → CodedOf reads name code (Ok coded) → IsCoded coded
  coded_parts coded is =
      let o = opened (MachineOf reads name) _ coded is in
      let i = opened (CodeOf reads code) _ coded o.2 in
      let whole : Ok coded ≡ Ok (record { spec = o.0; image = i.0 }) = i.2 in
      let same : coded ≡ record { spec = o.0; image = i.0 } = cc in
      subst IsCoded (sym same) (record { machine = o.1; image = i.1 })

  pub coded_has_states : (coded : CodeInputs) → CodedOf reads name code (Ok coded) → has_states coded.spec ≡ true
  coded_has_states coded is =
      let parts = coded_parts coded is in
      let m = some_machine coded.spec.machine (machine_there reads name coded.spec parts.machine) in
      accepted_have_states coded.spec m.0 (machine_accepted reads name coded.spec parts.machine) m.1

  module _ (entry : List ℕ) where
    pub record IsPosed (posed : AnalysisInputs) : Type 0 where
      pub coded : IsCoded (record { spec = posed.spec; image = posed.image })
      pub enters : EntryOf reads posed.spec entry (Ok posed.entry)

    pub posed_parts : (posed : AnalysisInputs) → PosedOf reads name code entry (Ok posed) → IsPosed posed
    posed_parts posed is =
        let o = opened (CodedOf reads name code) _ posed is in
        let e = opened (EntryOf reads o.0.spec entry) _ posed o.2 in
        let whole : Ok posed ≡ Ok (record { spec = o.0.spec; image = o.0.image; entry = e.0 }) = e.2 in
        let same : posed ≡ record { spec = o.0.spec; image = o.0.image; entry = e.0 } = cc in
        subst IsPosed (sym same) (record { coded = coded_parts o.0 o.1; enters = e.1 })

    pub posed_has_machine : (posed : AnalysisInputs) → PosedOf reads name code entry (Ok posed) → IsSome posed.spec.machine
    posed_has_machine posed is = machine_there reads name posed.spec (posed_parts posed is).coded.machine

    pub posed_is_well_posed : (posed : AnalysisInputs) (m : Numbers) (limit joins cases : ℕ) → length code.parts ≤ 16 → PosedOf reads name code entry (Ok posed) → posed.spec.machine ≡ Some m → IsWellFormedProblem (problem_of posed.spec m posed.image posed.entry limit joins cases)
    posed_is_well_posed posed m limit joins cases few is is_machine =
        let parts = posed_parts posed is in
        well_posed reads name posed.spec code entry posed.image posed.entry m limit joins cases few parts.coded.machine parts.coded.image parts.enters is_machine

    -- its code words are those of the problem
    pub posed_has_words : (posed : AnalysisInputs) → length code.parts ≤ 16 → PosedOf reads name code entry (Ok posed) → (a : ℕ) → IsTrue (is_some (code_at posed.image a)) → IsTrue (is_code (addresses posed.image.segments) a)
    posed_has_words posed few is a there =
        let words = addresses_are_those_of_words posed.image (code_image reads code posed.image few (posed_parts posed is).coded.image) in
        subst (λ (b : Bool). IsTrue b) (sym (words.1 a)) there

    -- what was read with a cell was read together, and the cell is one of its states
    module _ (cell : List ℕ) where
      pub record IsSought (sought : SliceInputs) : Type 0 where
        pub posed : PosedOf reads name code entry (Ok sought.posed)
        pub cell_of : CellOf sought.posed.spec cell (Ok sought.asked)

      pub sought_parts : (sought : SliceInputs) → SoughtOf reads name cell code entry (Ok sought) → IsSought sought
      sought_parts sought is =
          let o = opened (MachineOf reads name) _ sought is in
          let c = opened (CellOf o.0 cell) _ sought o.2 in
          let p = opened (PosedWith reads o.0 code entry) _ sought c.2 in
          let i = opened (CodeOf reads code) _ p.0 p.1 in
          let e = opened (EntryOf reads o.0 entry) _ p.0 i.2 in
          let whole : Ok sought ≡ Ok (record { posed = p.0; asked = c.0 }) = p.2 in
          let same : sought ≡ record { posed = p.0; asked = c.0 } = cc in
          let posed : Ok p.0 ≡ Ok (record { spec = o.0; image = i.0; entry = e.0 }) = e.2 in
          let same_posed : p.0 ≡ record { spec = o.0; image = i.0; entry = e.0 } = cc in
          let coded : CodedOf reads name code (Ok (record { spec = o.0; image = i.0 })) = goes_on o.1 (goes_on i.1 refl) in
          let read : PosedOf reads name code entry (Ok (record { spec = o.0; image = i.0; entry = e.0 })) = goes_on coded (goes_on e.1 refl) in
          subst IsSought (sym (same ∙ ap (λ (x : AnalysisInputs). record { posed = x; asked = c.0 }) same_posed)) (record { posed = read; cell_of = c.1 })
