-- Laws of checking: what the layers above rely on.
use Rattle.std.specs.Prelude.{◌≡◌}
use Rattle.syntax_parser.specs.Tree.{Tree}
use Rattle.spec_ir.specs.declared.spec.SpecUse.{SpecUse}
use Rattle.spec_ir.specs.declared.spec_error.SpecError.{SpecError}
use Rattle.spec_ir.specs.Specification.{Spec}
use Rattle.spec_decode_rows.specs.Laws.{AreApart}
use Rattle.spec_checker.specs.Check.{IsFirstFault, IsFaultless, IsSpecOf}

-- There is one first fault, or none.
pub record FaultsAreSettled : Type 0 where
  pub one : (wanted : SpecUse) (tree : Tree) (e f : SpecError) → IsFirstFault wanted tree e → IsFirstFault wanted tree f → e ≡ f
  pub not_both : (wanted : SpecUse) (tree : Tree) (e : SpecError) → IsFaultless wanted tree → ¬ IsFirstFault wanted tree e

-- No word agrees with two decode rows of an accepted specification.
abbrev pub AcceptedRowsAreApart : Type 0
AcceptedRowsAreApart = (wanted : SpecUse) (tree : Tree) (s : Spec) → IsFaultless wanted tree → IsSpecOf tree wanted s → AreApart s.rows
