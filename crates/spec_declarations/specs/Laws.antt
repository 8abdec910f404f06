-- Laws of types and of the machine.
use Rattle.std.specs.Prelude.{◌≡◌, None, Some, List, [], ◌∷◌, slice_get, true}
use Rattle.syntax_parser.specs.Tree.{Tree, Item}
use Rattle.spec_ir.specs.declared.ty.Ty.{Ty}
use Rattle.spec_ir.specs.declared.ty.Ty.TheVariants.{Word}
use Rattle.spec_ir.specs.declared.spec.SpecUse.{SpecUse}
use Rattle.spec_ir.specs.declared.spec.Machine.{Machine}
use Rattle.spec_ir.specs.declared.spec_error.SpecError.{SpecError}
use Rattle.spec_ir.specs.Environment.{Case, Data, field_types}
use Rattle.spec_ir.specs.WellFormed.{IsWellFormed}
use Rattle.spec_declarations.specs.Declarations.{declared, HaveCases}
use Rattle.spec_declarations.specs.Leaves.{datatypes}
use Rattle.spec_declarations.specs.MachineRules.{are_state_fields, machine_fault, machine_of}
use Rattle.spec_declarations.specs.Sizes.{are_sized}
use Rattle.spec_declarations.specs.Types.{IsTypesFault, NoTypesFault}

-- There is one first fault of types, or none.
pub record TypesFaultsAreSettled : Type 0 where
  pub one : (items : List Item) (e f : SpecError) → IsTypesFault items e → IsTypesFault items f → e ≡ f
  pub not_both : (items : List Item) (e : SpecError) → NoTypesFault items → ¬ IsTypesFault items e

-- Where no fault of types stands all types that are named are there, and those of fields are of lower rank.
abbrev pub TypesAreRanked : Type 0
TypesAreRanked = (items : List Item) → NoTypesFault items → are_sized (datatypes items) ≡ true → HaveCases items → IsWellFormed (declared items)

-- A machine has its types and its function.
abbrev pub MachinesAreThere : Type 0
MachinesAreThere = (tree : Tree) → machine_fault SpecUse.Machine tree ≡ None → (m : Machine) × (machine_of SpecUse.Machine tree ≡ Some m)

-- Its states have one constructor: the counter, an INT32, and words and maps, no map type twice.
abbrev pub StateIsOne : Type 0
StateIsOne = (tree : Tree) (m : Machine) (d : Data) → machine_fault SpecUse.Machine tree ≡ None → machine_of SpecUse.Machine tree ≡ Some m → slice_get (declared tree.items).datas m.state ≡ Some d
    → (c : Case) × (rest : List Ty) × (d.cases ≡ c ∷ []) × (field_types c ≡ Word 32 ∷ rest) × (are_state_fields [] rest ≡ true)
