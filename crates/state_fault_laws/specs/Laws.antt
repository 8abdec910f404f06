-- What first faults are not.
use Rattle.std.specs.Prelude.{◌≡◌, ◌≢◌, ℕ, List, Some, Err}
use Rattle.syntax_lexer.specs.declared.lex_error.LexError.{LexError}
use Rattle.syntax_lexer.specs.declared.lex_error.LexError.TheVariants as lexing
use Rattle.syntax_lexer.specs.Source as lexer
use Rattle.syntax_parser.specs.Tree.{Tree}
use Rattle.spec_ir.specs.declared.spec.SpecUse.{SpecUse}
use Rattle.spec_ir.specs.declared.spec_error.SpecError.{SpecError}
use Rattle.spec_ir.specs.declared.spec_error.SpecError.TheVariants as checking
use Rattle.spec_ir.specs.Specification.{Spec}
use Rattle.spec_checker.specs.Check as checker
use Rattle.code_image.specs.declared.image_error.ImageError.{ImageError}
use Rattle.code_image.specs.declared.image_error.ImageError.TheVariants as imaging
use Rattle.code_image.specs.Faults.{image_fault}
use Rattle.code_image.specs.Image.{Segment}
use Rattle.state_text.specs.declared.entry_error.EntryError.{EntryError}
use Rattle.state_text.specs.declared.entry_error.EntryError.TheVariants as entering
use Rattle.state_text.specs.OneState.{one_state}
use Rattle.state_text.specs.Reading.{Entry, read}

-- No first fault is want of memory: of a source without tokens, of a tree that breaks a static rule, of segments that are no image, of a text that is
-- no entry, and of an entry that is of several states.
pub record FaultsHaveLines : Type 0 where
  pub source : (source : List ℕ) (error : LexError) → lexer.IsFirstFault source error → error ≢ lexing.NoMemory
  pub tree : (wanted : SpecUse) (tree : Tree) (error : SpecError) → checker.IsFirstFault wanted tree error → error ≢ checking.NoMemory
  pub image : (segments : List Segment) (error : ImageError) → image_fault segments ≡ Some error → error ≢ imaging.NoMemory
  pub entry : (spec : Spec) (text : List ℕ) (error : EntryError) → read spec text ≡ Err error → error ≢ entering.NoMemory
  pub state : (spec : Spec) (entry : Entry) (error : EntryError) → one_state spec entry ≡ Err error → error ≢ entering.NoMemory
