-- Checked specifications are accepted.
use Rattle.syntax_parser.specs.Tree.{Tree}
use Rattle.spec_ir.specs.declared.spec.SpecUse.{SpecUse}
use Rattle.spec_ir.specs.Specification.{Spec}
use Rattle.spec_checker.specs.Check.{IsParsed, IsFaultless, IsSpecOf}
use Rattle.semantics_laws.specs.Accepted.{IsAccepted}

-- The specification of a tree that was parsed and has no fault is accepted: all that the meaning relies on holds of it.
abbrev pub CheckedAreAccepted : Type 0
CheckedAreAccepted = (wanted : SpecUse) (tree : Tree) (s : Spec) → IsParsed tree → IsFaultless wanted tree → IsSpecOf tree wanted s → IsAccepted s
