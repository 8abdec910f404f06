-- No refusal that is possible has the empty line.
use Rattle.std.proofs.Common.{◌≢◌, ℕ, List, [], ◌∷◌, Option, refl, subst}
use Rattle.std.specs.Prelude.{Err}
use Rattle.text_faults.specs.declared.claim_error.ClaimError.{ClaimError}
use Rattle.text_faults.specs.declared.claim_error.ClaimError.TheVariants as claiming
use Rattle.text_faults.specs.ClaimFaultLines as claims
use Rattle.support_command_line.specs.Requests.{Request}
use Rattle.code_image.specs.declared.image_error.ImageError.{ImageError}
use Rattle.code_image.specs.declared.image_error.ImageError.TheVariants as imaging
use Rattle.code_image.specs.Faults as image
use Rattle.spec_ir.specs.declared.spec_error.SpecError.TheVariants as checker
use Rattle.state_text.specs.declared.entry_error.EntryError.{EntryError}
use Rattle.state_text.specs.declared.entry_error.EntryError.TheVariants as entering
use Rattle.state_text.specs.FaultLines as entry
use Rattle.text_faults.specs.declared.table_error.TableError.{TableError}
use Rattle.text_faults.specs.declared.table_error.TableError.TheVariants as tabling
use Rattle.text_faults.specs.TableFaultLines as table
use Rattle.syntax_lexer.specs.declared.lex_error.LexError.TheVariants as lexer
use Rattle.syntax_parser.specs.declared.ParseError.TheVariants as parser
use Rattle.program_common.specs.declared.rejection.Rejection.{Rejection}
use Rattle.program_common.specs.declared.rejection.Rejection.TheVariants as rejecting
use Rattle.program_common.specs.declared.spec_fault.SpecFault.{SpecFault}
use Rattle.program_common.specs.declared.spec_fault.SpecFault.TheVariants.{Checking, Lexing, Parsing}
use Rattle.program_common.specs.Lines.{rejection_line}
use Rattle.program_common.specs.Outcome.{Refusal, line_of}
use Rattle.program_common.specs.SpecFaults.{spec_line}
use Rattle.program_run.specs.Laws.{RefusalsHaveLines}
use Rattle.program_run.specs.Possible as possible
use Rattle.program_run.specs.Possible.{IsOfSource, IsPossible}

-- The text is not the empty one.
abbrev IsFilled : List ℕ → Type 0
IsFilled [] = ⊥
IsFilled (b ∷ bytes) = Unit {0}

source_filled : (fault : SpecFault) → IsOfSource fault → IsFilled (spec_line fault)
source_filled (Lexing lexer.NoMemory) told = absurd (told refl)
source_filled (Lexing _) told = tt
source_filled (Parsing parser.NoMemory) told = absurd (told refl)
source_filled (Parsing _) told = tt
source_filled (Checking checker.NoMemory) told = absurd (told refl)
source_filled (Checking _) told = tt

image_filled : (fault : ImageError) → fault ≢ imaging.NoMemory → IsFilled (image.fault_line fault)
image_filled imaging.NoMemory told = absurd (told refl)
image_filled _ told = tt

entry_filled : (fault : EntryError) → fault ≢ entering.NoMemory → IsFilled (entry.fault_line fault)
entry_filled entering.NoMemory told = absurd (told refl)
entry_filled _ told = tt

table_filled : (fault : TableError) → fault ≢ tabling.NoMemory → IsFilled (table.fault_line fault)
table_filled tabling.NoMemory told = absurd (told refl)
table_filled _ told = tt

claims_filled : (fault : ClaimError) → fault ≢ claiming.NoMemory → IsFilled (claims.fault_line fault)
claims_filled claiming.NoMemory told = absurd (told refl)
claims_filled _ told = tt

rejection_filled : (why : Rejection) → IsFilled (rejection_line why)
rejection_filled rejecting.Entry = tt
rejection_filled (rejecting.Open from to) = tt
rejection_filled (rejecting.Targets at) = tt
rejection_filled (rejecting.Use at) = tt

refusal_filled : (what : Option Request) (refusal : Refusal) → IsPossible what (Err refusal) → IsFilled (line_of (Err refusal))
refusal_filled what refusal (possible.bad_words bad) = tt
refusal_filled what refusal (possible.cannot_read named) = tt
refusal_filled what refusal (possible.too_long named) = tt
refusal_filled what refusal (possible.spec_refused {fault = e} told) = source_filled e told
refusal_filled what refusal (possible.code_refused {fault = e} has told) = image_filled e told
refusal_filled what refusal (possible.entry_refused {fault = e} has told) = entry_filled e told
refusal_filled what refusal possible.calls_spent = tt
refusal_filled what refusal (possible.undecodable_at comes) = tt
refusal_filled what refusal (possible.too_many_targets comes) = tt
refusal_filled what refusal (possible.table_refused {fault = e} comes told) = table_filled e told
refusal_filled what refusal (possible.claims_refused {fault = e} comes told) = claims_filled e told
refusal_filled what refusal (possible.rejected {rejection = why} comes) = rejection_filled why

pub refusals_have_lines : RefusalsHaveLines
refusals_have_lines what refusal is none = subst IsFilled none (refusal_filled what refusal is)
