-- What holds of the faults of a tree, and of its specification.
use Rattle.std.specs.Prelude.{◌≡◌, ◌⊎◌}
use Rattle.syntax_parser.specs.Tree.{Tree}
use Rattle.spec_ir.specs.declared.spec.SpecUse.{SpecUse}
use Rattle.spec_ir.specs.declared.spec_error.SpecError.{SpecError}
use Rattle.spec_ir.specs.Specification.{Spec}
use Rattle.spec_checker.specs.Check.{IsFaultless, IsFirstFault, IsSpecOf}

-- a tree has no fault, or a first one
abbrev pub TreesAreDecided : Type 0
TreesAreDecided = (wanted : SpecUse) (tree : Tree) → IsFaultless wanted tree ⊎ ((e : SpecError) × IsFirstFault wanted tree e)

-- a tree has one specification at most
abbrev pub SpecificationsAreOne : Type 0
SpecificationsAreOne = (wanted : SpecUse) (tree : Tree) (one other : Spec) → IsSpecOf tree wanted one → IsSpecOf tree wanted other → one ≡ other

-- and there is one
abbrev pub SpecificationsAreThere : Type 0
SpecificationsAreThere = (wanted : SpecUse) (tree : Tree) → (s : Spec) × IsSpecOf tree wanted s
