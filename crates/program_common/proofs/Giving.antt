-- What the steps of the code give.
use Rattle.std.proofs.Common.{◌≡◌, ◌≢◌, ◌⊎◌, inl, inr, ℕ, ◌+◌, ◌≤◌, Bool, true, false, List, [], ◌∷◌, Option, Some, IsTrue, length, refl, sym, ◌∙◌, ap, subst, arith}
use Rattle.std.specs.Prelude.{Contains, IsSomeAnd, Result, Ok, Err}
use Rattle.std.specs.Bool.{IsFalse}
use Rattle.syntax_lexer.specs.declared.token.Token.{Token}
use Rattle.syntax_lexer.specs.declared.lex_error.LexError.{LexError}
use Rattle.syntax_lexer.specs.declared.lex_error.LexError.TheVariants as lexer
use Rattle.syntax_lexer.specs.Source.{IsFirstFault, IsLexedFrom}
use Rattle.syntax_parser.specs.declared.ParseError.{ParseError}
use Rattle.syntax_parser.specs.declared.ParseError.TheVariants as parser
use Rattle.syntax_parser.specs.Exact.{Answers}
use Rattle.syntax_parser.specs.Tree.{Tree}
use Rattle.spec_ir.specs.declared.spec.SpecUse.{SpecUse}
use Rattle.spec_ir.specs.declared.spec_error.SpecError.{SpecError}
use Rattle.spec_ir.specs.declared.spec_error.SpecError.TheVariants as checker
use Rattle.spec_checker.specs.Check.{IsFirstFault as types_fault}
use Rattle.support_io.specs.InputState.{InputState, InputsKept}
use Rattle.support_io.specs.WholeRead.{TakesAtMost}
use Rattle.program_common.specs.declared.outcome.Halt.{Halt}
use Rattle.program_common.specs.declared.outcome.Halt.TheVariants.{Refused, NoMemory}
use Rattle.program_common.specs.declared.outcome.Refusal.TheVariants.{BadWords, CannotRead, TooLong, SpecRefused, CodeRefused, EntryRefused, CallsSpent, UndecodableAt, TooManyTargets, TableRefused, ClaimsRefused, Rejected}
use Rattle.program_common.specs.Faultless.{NoOtherFault}
use Rattle.program_common.specs.Outcome.{Refusal}
use Rattle.program_common.specs.Outcomes.{Stops, halt_of_lexing, halt_of_checking, halt_of_parsing}
use Rattle.program_common.specs.Reading.{CouldNotRead, Gave, IsTakenFrom, whole, long, unread}
use Rattle.program_common.specs.Sources.{Specifies}
use Rattle.program_common.specs.SpecFaults.{IsParsedFrom}
use Rattle.program_common.specs.SpecFaults as faults

pub not_true : (b : Bool) → (IsTrue b → ⊥) → IsFalse b
not_true true never = absurd (never refl)
not_true false never = refl

-- a source without tokens
pub no_tokens : (wanted : SpecUse) (source : List ℕ) (error : LexError) → (error ≢ lexer.NoMemory → IsFirstFault source error) → Stops (Specifies wanted source) (halt_of_lexing error)
no_tokens wanted source (lexer.BadByte at) first = faults.lexing (first (λ e. cc))
no_tokens wanted source (lexer.LongName at) first = faults.lexing (first (λ e. cc))
no_tokens wanted source (lexer.BadNumber at) first = faults.lexing (first (λ e. cc))
no_tokens wanted source lexer.NoMemory first = tt

-- and one whose tokens have no tree
pub no_tree : (wanted : SpecUse) (source : List ℕ) (tokens : List Token) (error : ParseError) → IsLexedFrom source tokens → Answers tokens (length source) (Err error) → Stops (Specifies wanted source) (halt_of_parsing error)
no_tree wanted source tokens (parser.Syntax at) lexed wrong = faults.parsing lexed wrong
no_tree wanted source tokens (parser.TooDeep at) lexed deep = faults.parsing lexed deep
no_tree wanted source tokens parser.NoMemory lexed none = tt

-- and one whose tree breaks a static rule
pub not_checked : (wanted : SpecUse) (source : List ℕ) (tree : Tree) (error : SpecError) → IsParsedFrom source tree → types_fault wanted tree error ⊎ (error ≡ checker.NoMemory) → Stops (Specifies wanted source) (halt_of_checking error)
not_checked wanted source tree checker.NoMemory parsed first = tt
not_checked wanted source tree error parsed (inl first) = faults.checking parsed first
not_checked wanted source tree error parsed (inr none) = absurd (cc)

-- no fault was counted
pub no_other_fault : {A : Type 0} (old new : InputState) (end : Result A Halt) → new.faults ≡ old.faults → NoOtherFault old new end
no_other_fault old new (Ok found) same = same
no_other_fault old new (Err (Refused BadWords)) same = same
no_other_fault old new (Err (Refused (CannotRead name))) same = tt
no_other_fault old new (Err (Refused (TooLong name))) same = same
no_other_fault old new (Err (Refused (SpecRefused fault))) same = same
no_other_fault old new (Err (Refused (CodeRefused fault))) same = same
no_other_fault old new (Err (Refused (EntryRefused fault))) same = same
no_other_fault old new (Err (Refused CallsSpent)) same = same
no_other_fault old new (Err (Refused (UndecodableAt at word))) same = same
no_other_fault old new (Err (Refused (TooManyTargets at shown))) same = same
no_other_fault old new (Err (Refused (TableRefused fault))) same = same
no_other_fault old new (Err (Refused (ClaimsRefused fault))) same = same
no_other_fault old new (Err (Refused (Rejected rejection))) same = same
no_other_fault old new (Err NoMemory) same = same

-- none but that of what stopped a step, behind one in which none was counted
pub stopped_fault : (A B : Type 0) (old mid new : InputState) (halt : Halt) → mid.faults ≡ old.faults → NoOtherFault {A = A} mid new (Err halt) → NoOtherFault {A = B} old new (Err halt)
stopped_fault A B old mid new (Refused BadWords) calm p = p ∙ calm
stopped_fault A B old mid new (Refused (CannotRead name)) calm p = tt
stopped_fault A B old mid new (Refused (TooLong name)) calm p = p ∙ calm
stopped_fault A B old mid new (Refused (SpecRefused fault)) calm p = p ∙ calm
stopped_fault A B old mid new (Refused (CodeRefused fault)) calm p = p ∙ calm
stopped_fault A B old mid new (Refused (EntryRefused fault)) calm p = p ∙ calm
stopped_fault A B old mid new (Refused CallsSpent) calm p = p ∙ calm
stopped_fault A B old mid new (Refused (UndecodableAt at word)) calm p = p ∙ calm
stopped_fault A B old mid new (Refused (TooManyTargets at shown)) calm p = p ∙ calm
stopped_fault A B old mid new (Refused (TableRefused fault)) calm p = p ∙ calm
stopped_fault A B old mid new (Refused (ClaimsRefused fault)) calm p = p ∙ calm
stopped_fault A B old mid new (Refused (Rejected rejection)) calm p = p ∙ calm
stopped_fault A B old mid new NoMemory calm p = p ∙ calm

pub later_fault : {A : Type 0} (old mid new : InputState) (end : Result A Halt) → mid.faults ≡ old.faults → NoOtherFault mid new end → NoOtherFault old new end
later_fault old mid new (Ok found) calm p = p ∙ calm
later_fault {A = A} old mid new (Err halt) calm p = stopped_fault A A old mid new halt calm p

-- of one input
pub taken_alone : (old new : InputState) (name : List ℕ) (cap : ℕ) → new.name ≡ name → IsSomeAnd (old.held name) (λ bytes. TakesAtMost (cap + 1) bytes new.left) → IsTakenFrom ((name, cap) ∷ []) old new
taken_alone old new name cap is takes =
    let here : Contains {X = List ℕ × ℕ} ((name, cap) ∷ []) (name, cap) = (0, omega arith, refl) in
    record {
      cap = cap;
      named = subst (λ (n : List ℕ). Contains {X = List ℕ × ℕ} ((name, cap) ∷ []) (n, cap)) (sym is) here;
      taken = subst (λ (n : List ℕ). IsSomeAnd (old.held n) (λ bytes. TakesAtMost (cap + 1) bytes new.left)) (sym is) takes;
    }
