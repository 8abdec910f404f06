-- What the parts of a check give.
use Rattle.std.specs.Prelude.{◌≡◌, ◌⊎◌, List, [], ◌∷◌, Result, Ok, Err}
use Rattle.syntax_parser.specs.Tree.{Tree}
use Rattle.spec_ir.specs.declared.spec.SpecUse.{SpecUse}
use Rattle.spec_ir.specs.declared.spec.Spec.{Spec}
use Rattle.spec_ir.specs.declared.spec_error.SpecError.{SpecError}
use Rattle.spec_ir.specs.declared.spec_error.SpecError.TheVariants.{NoMemory}
use Rattle.spec_ir.specs.Views.{specification}
use Rattle.spec_ir.specs.Environment.{Signature}
use Rattle.spec_ir.specs.Specification.{Fun}
use Rattle.spec_ir.specs.Terms.{Term}
use Rattle.spec_ir.specs.CoreTerms.{Core}
use Rattle.spec_calls.specs.declared.group.Group.{Group}
use Rattle.spec_checker.specs.Passes.{Pass}
use Rattle.spec_checker.specs.Check.{IsSpecOf}

-- a function by its signature, forms and group
abbrev pub made_of : Signature → Term × Core → Group → Fun
made_of s b g = record { name = s.name; params = s.params; result_type = s.result_type; body = b.0; core = b.1; group = g.number; loops = g.loops }

abbrev pub made : List Signature → List (Term × Core) → List Group → List Fun
made [] forms groups = []
made (s ∷ ss) [] groups = []
made (s ∷ ss) (b ∷ bs) [] = []
made (s ∷ ss) (b ∷ bs) (g ∷ gs) = made_of s b g ∷ made ss bs gs

-- what some of the passes answer: the specification where they have no fault, else their first
abbrev pub AnswersOf : Pass → SpecUse → Tree → Result Spec SpecError → Type 0
AnswersOf p wanted tree (Ok s) = p.none × IsSpecOf tree wanted (specification s)
AnswersOf p wanted tree (Err e) = p.fault e ⊎ (e ≡ NoMemory)
