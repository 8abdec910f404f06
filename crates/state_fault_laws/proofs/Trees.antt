-- Faults of trees, pass by pass.
use Rattle.std.proofs.Common.{◌≡◌, ◌≢◌, ◌⊎◌, inl, inr, List, Option, Some, sym, subst}
use Rattle.syntax_parser.specs.declared.tree.Name.{Name}
use Rattle.syntax_parser.specs.Tree.{Item, Tree}
use Rattle.spec_ir.specs.declared.spec.SpecUse.{SpecUse}
use Rattle.spec_ir.specs.declared.spec_error.SpecError.{SpecError}
use Rattle.spec_ir.specs.declared.spec_error.SpecError.TheVariants.{NoMemory}
use Rattle.spec_ir.specs.Environment.{Environment}
use Rattle.spec_ir.specs.Terms.{Term}
use Rattle.spec_names.specs.Names.{names_fault}
use Rattle.spec_declarations.specs.Declarations.{declared}
use Rattle.spec_declarations.specs.MachineRules.{instr_of, machine_fault}
use Rattle.spec_declarations.specs.Types.{IsTypesFault, NoTypesFault, types_fault}
use Rattle.spec_calls.specs.Recursion.{IsRecursionFault, NoRecursionFault}
use Rattle.spec_decode_rows.specs.Rows.{decode_fault}
use Rattle.spec_checker.specs.Check.{IsFirstFault, functions_pass, later_passes, machine_passes, passes, type_passes}
use Rattle.spec_checker.specs.Functions.{bodies, function_names, terms_fault}
use Rattle.spec_checker.specs.Passes.{Pass, computed, ◌followed_by◌}
use Rattle.state_fault_laws.proofs.Names.{names_told}
use Rattle.state_fault_laws.proofs.Terms.{terms_told}
use Rattle.state_fault_laws.proofs.Told.{IsTold, IsToldIn, told_is, told_some}
use Rattle.state_fault_laws.proofs.Types.{decode_told, machine_told, types_told}

-- the first fault of a pass has a line
abbrev Tells : Pass → Type 0
Tells p = (error : SpecError) → p.fault error → IsTold error

computed_tells : (first : Option SpecError) → IsToldIn first → Tells (computed first)
computed_tells first told error is = told_some first error told is

followed_tells : (p q : Pass) → Tells p → Tells q → Tells (p followed_by q)
followed_tells p q first second error (inl fault) = first error fault
followed_tells p q first second error (inr fault) = second error fault.1

types_tell : (items : List Item) → Tells (record { fault = IsTypesFault items; none = NoTypesFault items })
types_tell items error fault = told_some (types_fault items fault.0 fault.1) error (types_told items fault.0 fault.1) fault.3

recursion_tells : (names : List Name) (terms : List Term) → Tells (record { fault = IsRecursionFault names terms; none = NoRecursionFault terms })
recursion_tells names terms error fault = subst IsTold (sym fault.says) tt

functions_tell : (env : Environment) (items : List Item) → Tells (functions_pass env items)
functions_tell env items =
    followed_tells (computed (terms_fault env items)) (record { fault = IsRecursionFault (function_names items) (bodies env items); none = NoRecursionFault (bodies env items) })
    (computed_tells (terms_fault env items) (terms_told env items)) (recursion_tells (function_names items) (bodies env items))

later_tell : (env : Environment) (tree : Tree) → Tells (later_passes env tree)
later_tell env tree =
    followed_tells (functions_pass env tree.items) (computed (decode_fault env (instr_of tree) tree)) (functions_tell env tree.items)
    (computed_tells (decode_fault env (instr_of tree) tree) (decode_told env (instr_of tree) tree))

machine_tells : (wanted : SpecUse) (tree : Tree) → Tells (machine_passes wanted tree)
machine_tells wanted tree =
    followed_tells (computed (machine_fault wanted tree)) (later_passes (declared tree.items) tree) (computed_tells (machine_fault wanted tree) (machine_told wanted tree))
    (later_tell (declared tree.items) tree)

all_tell : (wanted : SpecUse) (tree : Tree) → Tells (passes wanted tree)
all_tell wanted tree =
    followed_tells (computed (names_fault tree)) (type_passes wanted tree) (computed_tells (names_fault tree) (names_told tree))
    (followed_tells (record { fault = IsTypesFault tree.items; none = NoTypesFault tree.items }) (machine_passes wanted tree) (types_tell tree.items) (machine_tells wanted tree))

pub trees_tell : (wanted : SpecUse) (tree : Tree) (error : SpecError) → IsFirstFault wanted tree error → error ≢ NoMemory
trees_tell wanted tree error fault = told_is error (all_tell wanted tree error fault)
