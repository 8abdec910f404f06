-- Machines whose fields tell uses.
use Rattle.std.specs.Prelude.{◌≡◌, ℕ, true, List}
use Rattle.syntax_lexer.specs.declared.token.Token.{Token}
use Rattle.syntax_lexer.specs.Source.{IsLexedFrom}
use Rattle.syntax_parser.specs.Exact.{HasTree}
use Rattle.syntax_parser.specs.Tree.{Tree}
use Rattle.spec_ir.specs.declared.spec.SpecUse.TheVariants.{Machine}
use Rattle.spec_ir.specs.Specification.{Spec}
use Rattle.spec_checker.specs.Check.{IsFaultless, IsSpecOf}
use Rattle.domain_laws.specs.States.{has_states}
use Rattle.text_round_trips.specs.Fields.{HasUseTexts}

-- The machine that is checked of a text without faults has such fields.
abbrev pub MachinesHaveUseTexts : Type 0
MachinesHaveUseTexts = (source : List ℕ) (tokens : List Token) (end : ℕ) (tree : Tree) (spec : Spec) → IsLexedFrom source tokens → HasTree tokens end tree
    → IsFaultless Machine tree → IsSpecOf tree Machine spec → has_states spec ≡ true → HasUseTexts spec
