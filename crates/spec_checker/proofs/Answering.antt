-- Answers of passes, one behind the other.
use Rattle.std.proofs.Common.{◌≡◌, ◌⊎◌, inl, inr, Result, Ok, Err, subst}
use Rattle.syntax_parser.specs.Tree.{Tree}
use Rattle.spec_ir.specs.declared.spec.SpecUse.{SpecUse}
use Rattle.spec_ir.specs.declared.spec.Spec.{Spec}
use Rattle.spec_ir.specs.declared.spec_error.SpecError.{SpecError}
use Rattle.spec_checker.specs.Passes.{Pass, ◌followed_by◌}
use Rattle.spec_checker.specs.Steps.{AnswersOf}

-- what the passes behind one without a fault answer
pub behind : (p q : Pass) (wanted : SpecUse) (tree : Tree) → p.none → (r : Result Spec SpecError) → AnswersOf q wanted tree r → AnswersOf (p followed_by q) wanted tree r
behind p q wanted tree n (Ok s) h = ((n, h.0), h.1)
behind p q wanted tree n (Err e) (inl f) = inl (inr (n, f))
behind p q wanted tree n (Err e) (inr m) = inr m
