-- Over the bytes that names hold there is one thing that is read.
use Rattle.std.proofs.Common.{ℕ, List, refl, sym, ◌∙◌}
use Rattle.std.specs.Prelude.{Ok}
use Rattle.support_command_line.specs.Code.{Code}
use Rattle.support_command_line.specs.SpecNames.{SpecName}
use Rattle.spec_ir.specs.Specification.{Spec}
use Rattle.state_text.specs.Reading.{read}
use Rattle.program_common.specs.Reading.{Held, Holds}
use Rattle.program_common.proofs.OneSource.{one_held, some_held}
use Rattle.program_common.proofs.Steps.{IsOne, IsTotal, one, total}
use Rattle.program_machine.specs.Code.{CodeOf}
use Rattle.program_machine.specs.Entry.{entered, entry_cap}
use Rattle.program_machine.specs.Machines.{MachineOf}
use Rattle.program_machine.proofs.Single.{one_code, one_machine}
use Rattle.program_machine.proofs.Whole.{code_some, machine_some}
use Rattle.text_slices.specs.Asked.{asked}
use Rattle.program_machine.specs.Cells.{CellOf, some_cell}
use Rattle.program_machine.specs.AnalysisEntry.{Enters, EntryOf}
use Rattle.program_machine.specs.Inputs.{CodedOf, PosedOf, PosedWith, SoughtOf}

one_entry : (held : Held) (spec : Spec) (name : List ℕ) → IsOne (EntryOf (Holds held) spec name)
one_entry held spec name = one (Holds held entry_cap name) (Enters spec) (one_held held entry_cap name) (λ text found other p q. p ∙ sym q)

some_entry : (held : Held) (spec : Spec) (name : List ℕ) → IsTotal (EntryOf (Holds held) spec name)
some_entry held spec name =
    total (Holds held entry_cap name) (Enters spec) (some_held held entry_cap name (held name) refl) (λ bytes is. (entered (read spec bytes), refl))

module _ (held : Held) (name : SpecName) (code : Code) where
  pub one_coded : IsOne (CodedOf (Holds held) name code)
  one_coded = one (MachineOf (Holds held) name) _ (one_machine held name) (λ spec. one (CodeOf (Holds held) code) _ (one_code held code) (λ image found other p q. p ∙ sym q))

  pub some_coded : IsTotal (CodedOf (Holds held) name code)
  some_coded = total (MachineOf (Holds held) name) _ (machine_some held name) (λ spec specified. total (CodeOf (Holds held) code) _ (code_some held code) (λ image imaged. (Ok (record { spec = spec; image = image }), refl)))

  pub one_posed : (entry : List ℕ) → IsOne (PosedOf (Holds held) name code entry)
  one_posed entry = one (CodedOf (Holds held) name code) _ one_coded (λ coded. one (EntryOf (Holds held) coded.spec entry) _ (one_entry held coded.spec entry) (λ e found other p q. p ∙ sym q))

  pub some_posed : (entry : List ℕ) → IsTotal (PosedOf (Holds held) name code entry)
  some_posed entry =
      total (CodedOf (Holds held) name code) _ some_coded (λ coded is. total (EntryOf (Holds held) coded.spec entry) _ (some_entry held coded.spec entry) (λ e entered. (Ok (record { spec = coded.spec; image = coded.image; entry = e }), refl)))

  -- with a cell
  module _ (cell entry : List ℕ) where
    one_with : (spec : Spec) → IsOne (PosedWith (Holds held) spec code entry)
    one_with spec = one (CodeOf (Holds held) code) _ (one_code held code) (λ image. one (EntryOf (Holds held) spec entry) _ (one_entry held spec entry) (λ e found other p q. p ∙ sym q))

    pub one_sought : IsOne (SoughtOf (Holds held) name cell code entry)
    one_sought =
        one (MachineOf (Holds held) name) _ (one_machine held name) (λ spec. one (CellOf spec cell) _ (λ found other p q. p ∙ sym q) (λ asked. one (PosedWith (Holds held) spec code entry) _ (one_with spec) (λ posed found other p q. p ∙ sym q)))

    some_with : (spec : Spec) → IsTotal (PosedWith (Holds held) spec code entry)
    some_with spec =
        total (CodeOf (Holds held) code) _ (code_some held code) (λ image imaged. total (EntryOf (Holds held) spec entry) _ (some_entry held spec entry) (λ e entered. (Ok (record { spec = spec; image = image; entry = e }), refl)))

    pub some_sought : IsTotal (SoughtOf (Holds held) name cell code entry)
    some_sought =
        total (MachineOf (Holds held) name) _ (machine_some held name) (λ spec specified. total (CellOf spec cell) _ (some_cell (asked spec cell), refl) (λ cell_asked is.
        total (PosedWith (Holds held) spec code entry) _ (some_with spec) (λ posed read. (Ok (record { posed = posed; asked = cell_asked }), refl))))
