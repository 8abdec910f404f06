-- What tables are of: a machine with its code, and an entry.
use Rattle.std.specs.Prelude.{◌≡◌, ℕ, List, [], ◌∷◌, ◌++◌, Result, Ok}
use Rattle.support_command_line.specs.Code.{Code}
use Rattle.support_command_line.specs.SpecNames.{SpecName}
use Rattle.spec_ir.specs.Specification.{Spec}
use Rattle.code_image.specs.Image.{Image}
use Rattle.state_text.specs.Reading.{Entry}
use Rattle.program_common.specs.Outcome.{Refusal}
use Rattle.program_common.specs.Reading.{Capped, Reading}
use Rattle.program_common.specs.Sources.{source_inputs}
use Rattle.program_common.specs.Steps.{Then}
use Rattle.program_machine.specs.Code.{CodeOf, part_inputs}
use Rattle.program_machine.specs.Entry.{entry_cap}
use Rattle.program_machine.specs.Machines.{MachineOf}
use Rattle.text_slices.specs.declared.slice_cell.SliceCell.{SliceCell}
use Rattle.program_machine.specs.Cells.{CellOf}
use Rattle.program_machine.specs.AnalysisEntry.{EntryOf}

-- the specification of a machine, and its code
pub record CodeInputs : Type 0 where
  pub spec : Spec
  pub image : Image

-- these, and an entry
pub record AnalysisInputs : Type 0 where
  pub spec : Spec
  pub image : Image
  pub entry : Entry

-- these, and a cell of the states
pub record SliceInputs : Type 0 where
  pub posed : AnalysisInputs
  pub asked : SliceCell

module _ (reads : Reading) where
  -- The specification and the code of these names are read and examined, one after another.
  abbrev pub CodedOf : SpecName → Code → Result CodeInputs Refusal → Type 0
  CodedOf name code = Then (MachineOf reads name) (λ spec. Then (CodeOf reads code) (λ image found. found ≡ Ok (record { spec = spec; image = image })))

  -- And then the entry.
  abbrev pub PosedOf : SpecName → Code → List ℕ → Result AnalysisInputs Refusal → Type 0
  PosedOf name code entry =
      Then (CodedOf name code) (λ coded. Then (EntryOf reads coded.spec entry) (λ e found. found ≡ Ok (record { spec = coded.spec; image = coded.image; entry = e })))

  -- The code and the entry of these names are read and examined, one after another, where a specification is given.
  abbrev pub PosedWith : Spec → Code → List ℕ → Result AnalysisInputs Refusal → Type 0
  PosedWith spec code entry =
      Then (CodeOf reads code) (λ image. Then (EntryOf reads spec entry) (λ e found. found ≡ Ok (record { spec = spec; image = image; entry = e })))

  -- The specification of this name is read and examined, and the cell is sought in its states; then the code and the entry of these names are read
  -- and examined.
  abbrev pub SoughtOf : SpecName → List ℕ → Code → List ℕ → Result SliceInputs Refusal → Type 0
  SoughtOf name cell code entry =
      Then (MachineOf reads name) (λ spec.
      Then (CellOf spec cell) (λ asked.
      Then (PosedWith spec code entry) (λ posed found. found ≡ Ok (record { posed = posed; asked = asked }))))

-- the inputs that are opened for these
abbrev pub coded_inputs : SpecName → Code → List Capped
coded_inputs name code = source_inputs name ++ part_inputs code.parts

abbrev pub posed_inputs : SpecName → Code → List ℕ → List Capped
posed_inputs name code entry = coded_inputs name code ++ (entry, entry_cap) ∷ []

-- how many bytes a table may have
abbrev pub table_cap : ℕ
table_cap = 67108864

-- and how many claims may have
abbrev pub claims_cap : ℕ
claims_cap = 65536
