-- The faults of a specification, each as the error of the layer that finds it.
use Rattle.std.specs.Prelude.{ℕ, List, length}
use Rattle.syntax_lexer.specs.declared.lex_error.LexError.{LexError}
use Rattle.syntax_lexer.specs.declared.token.Token.{Token}
use Rattle.syntax_lexer.specs.FaultLines as lexer
use Rattle.syntax_lexer.specs.Source.{IsFirstFault, IsLexedFrom}
use Rattle.syntax_parser.specs.declared.ParseError.{ParseError}
use Rattle.syntax_parser.specs.declared.ParseError.TheVariants.{Syntax, TooDeep, NoMemory}
use Rattle.syntax_parser.specs.Exact.{HasTree, IsDeepAt, IsSyntaxAt}
use Rattle.syntax_parser.specs.FaultLines as parser
use Rattle.syntax_parser.specs.Tree.{Tree}
use Rattle.spec_ir.specs.declared.spec.SpecUse.{SpecUse}
use Rattle.spec_ir.specs.declared.spec_error.SpecError.{SpecError}
use Rattle.spec_ir.specs.FaultLines as checker
use Rattle.spec_checker.specs.Check as types
use Rattle.program_common.specs.declared.spec_fault.SpecFault.{SpecFault}
use Rattle.program_common.specs.declared.spec_fault.SpecFault.TheVariants.{Lexing, Parsing, Checking}

-- the line that says which fault it is
abbrev pub spec_line : SpecFault → List ℕ
spec_line (Lexing error) = lexer.fault_line error
spec_line (Parsing error) = parser.fault_line error
spec_line (Checking error) = checker.fault_line error

-- the source has tokens, and these have the tree
pub record IsParsedFrom (source : List ℕ) (tree : Tree) : Type 0 where
  pub tokens : List Token
  pub lexed : IsLexedFrom source tokens
  pub parsed : HasTree tokens (length source) tree

-- The tokens go wrong first with this error.
abbrev pub IsParseFault : List Token → ℕ → ParseError → Type 0
IsParseFault tokens end (Syntax at) = IsSyntaxAt tokens end at
IsParseFault tokens end (TooDeep at) = IsDeepAt tokens at
IsParseFault tokens end NoMemory = ⊥

-- The source has this fault first, where it is wanted for this use: it has no tokens, or these have no tree, or the tree breaks a
-- static rule.
pub data HasFault (wanted : SpecUse) (source : List ℕ) : SpecFault → Type 0 where
  lexing : {error : LexError} → IsFirstFault source error → HasFault wanted source (Lexing error)
  parsing : {tokens : List Token} {error : ParseError} → IsLexedFrom source tokens → IsParseFault tokens (length source) error → HasFault wanted source (Parsing error)
  checking : {tree : Tree} {error : SpecError} → IsParsedFrom source tree → types.IsFirstFault wanted tree error → HasFault wanted source (Checking error)
