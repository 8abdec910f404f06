-- Faults of sources, of code and of entries.
use Rattle.std.proofs.Common.{◌≡◌, ◌≢◌, ℕ, ◌+◌, ◌%◌, ◌^◌, ◌≤◌, ◌==◌, Bool, true, false, not, List, [], ◌∷◌, ◌++◌, length, map, Option, Some, None, refl, sym, ◌∙◌, subst}
use Rattle.std.specs.Prelude.{Result, Ok, Err, if◌then◌else◌, is_some, nat_le, slice_get}
use Rattle.std.specs.List.{list_any}
use Rattle.syntax_lexer.specs.declared.lex_error.LexError.{LexError}
use Rattle.syntax_lexer.specs.declared.lex_error.LexError.TheVariants as lexing
use Rattle.syntax_lexer.specs.Source.{IsFault, IsFirstFault, bad_byte, bad_number, long_name}
use Rattle.spec_ir.specs.Specification.{Spec}
use Rattle.semantics_values.specs.declared.entry.GivenNumber.{GivenNumber}
use Rattle.semantics_values.specs.declared.entry.KeyAt.{KeyAt}
use Rattle.semantics_values.specs.declared.entry.Line.{Line}
use Rattle.semantics_values.specs.States.{State}
use Rattle.code_image.specs.declared.image_error.ImageError.{ImageError}
use Rattle.code_image.specs.declared.image_error.ImageError.TheVariants as imaging
use Rattle.code_image.specs.Faults.{bytes_sum, faults_behind, image_fault, overlaps, segment_fault, unless, ◌then◌}
use Rattle.code_image.specs.Image.{Segment, end_of}
use Rattle.state_text.specs.declared.entry_error.EntryError.{EntryError}
use Rattle.state_text.specs.declared.entry_error.EntryError.TheVariants as entering
use Rattle.state_text.specs.declared.fault.EntryFault.{EntryFault}
use Rattle.state_text.specs.declared.fault.EntryFault.TheVariants as fault
use Rattle.state_text.specs.Lines.{lines}
use Rattle.state_text.specs.Meaning.{Said, cells, counter, faulty, nothing, said}
use Rattle.state_text.specs.OneState.{first_open, one_state, only_state}
use Rattle.state_text.specs.Reading.{Entry, GivenCells, any_given, counted, entry_found, error_at, goes_on, line_of, none_found, number_given, read, read_from, with_cells, with_counter, with_line}

-- ---- sources

abbrev IsOfSource : LexError → Type 0
IsOfSource lexing.NoMemory = ⊥
IsOfSource _ = Unit {0}

source_fault : (at : ℕ) (rest : List ℕ) (error : LexError) → IsFault at rest error → IsOfSource error
source_fault at rest error (bad_byte p q) = tt
source_fault at rest error (long_name text p q r) = tt
source_fault at rest error (bad_number text p q r) = tt

pub sources_tell : (source : List ℕ) (error : LexError) → IsFirstFault source error → error ≢ lexing.NoMemory
sources_tell source error first is = subst IsOfSource is (source_fault first.at first.rest error first.fault)

-- ---- code

abbrev IsOfCode : Option ImageError → Type 0
IsOfCode (Some imaging.NoMemory) = ⊥
IsOfCode _ = Unit {0}

code_both : (first later : Option ImageError) → IsOfCode first → IsOfCode later → IsOfCode (first then later)
code_both None later p q = q
code_both (Some e) later p q = p

code_unless : (holds : Bool) (error : ImageError) → IsOfCode (Some error) → IsOfCode (unless holds error)
code_unless true error p = tt
code_unless false error p = p

segment_tells : (earlier : List Segment) (s : Segment) → IsOfCode (segment_fault earlier s)
segment_tells earlier s =
    code_both (unless (length s.bytes % 4 == 0) imaging.OddLength then unless (nat_le (bytes_sum earlier + length s.bytes) 1048576) imaging.TooLong then unless (nat_le (end_of s) (2 ^ 32)) imaging.PastEnd then unless (s.base % 4 == 0) imaging.Misaligned)
    (unless (not (list_any (overlaps s) earlier)) imaging.Overlap)
    (code_both (unless (length s.bytes % 4 == 0) imaging.OddLength then unless (nat_le (bytes_sum earlier + length s.bytes) 1048576) imaging.TooLong then unless (nat_le (end_of s) (2 ^ 32)) imaging.PastEnd)
    (unless (s.base % 4 == 0) imaging.Misaligned)
    (code_both (unless (length s.bytes % 4 == 0) imaging.OddLength then unless (nat_le (bytes_sum earlier + length s.bytes) 1048576) imaging.TooLong) (unless (nat_le (end_of s) (2 ^ 32)) imaging.PastEnd)
    (code_both (unless (length s.bytes % 4 == 0) imaging.OddLength) (unless (nat_le (bytes_sum earlier + length s.bytes) 1048576) imaging.TooLong)
    (code_unless (length s.bytes % 4 == 0) imaging.OddLength tt) (code_unless (nat_le (bytes_sum earlier + length s.bytes) 1048576) imaging.TooLong tt))
    (code_unless (nat_le (end_of s) (2 ^ 32)) imaging.PastEnd tt)) (code_unless (s.base % 4 == 0) imaging.Misaligned tt)) (code_unless (not (list_any (overlaps s) earlier)) imaging.Overlap tt)

behind_tell : (earlier segments : List Segment) → IsOfCode (faults_behind earlier segments)
behind_tell earlier [] = tt
behind_tell earlier (s ∷ segments) = code_both (segment_fault earlier s) (faults_behind (earlier ++ s ∷ []) segments) (segment_tells earlier s) (behind_tell (earlier ++ s ∷ []) segments)

code_named : (error : ImageError) → IsOfCode (Some error) → error ≢ imaging.NoMemory
code_named error of is = subst (λ (e : ImageError). IsOfCode (Some e)) is of

pub images_tell : (segments : List Segment) (error : ImageError) → image_fault segments ≡ Some error → error ≢ imaging.NoMemory
images_tell segments error is = code_named error (subst IsOfCode is (behind_tell [] segments))

-- ---- entries

abbrev IsOfEntry : {A : Type 0} → Result A EntryError → Type 0
IsOfEntry (Err entering.NoMemory) = ⊥
IsOfEntry _ = Unit {0}

entry_named : {A : Type 0} (found : Result A EntryError) (error : EntryError) → IsOfEntry found → found ≡ Err error → error ≢ entering.NoMemory
entry_named {A = A} found error of is none =
    let wrong : IsOfEntry {A = A} (Err entering.NoMemory) = subst (λ (e : EntryError). IsOfEntry {A = A} (Err e)) none (subst (λ (r : Result A EntryError). IsOfEntry r) is of) in wrong

cells_tell : (n : ℕ) (ls : List Line) (cs : List (KeyAt × GivenNumber)) (c : Option GivenNumber) (field : ℕ) (given : Bool)
    → IsOfEntry {A = GivenCells} (if given then Err (entering.Twice n) else Ok (record { counter = c; lines = ls ++ map (line_of n field) cs }))
cells_tell n ls cs c field true = tt
cells_tell n ls cs c field false = tt

counter_tells : (n : ℕ) (ls : List Line) (given : GivenNumber) (there : Bool) → IsOfEntry {A = GivenCells} (if there then Err (entering.Twice n) else Ok (record { counter = Some given; lines = ls }))
counter_tells n ls given true = tt
counter_tells n ls given false = tt

line_tells : (n : ℕ) (says : Said) (found : GivenCells) → IsOfEntry (with_line n says found)
line_tells n nothing found = tt
line_tells n (faulty fault.Form) found = tt
line_tells n (faulty fault.Unknown) found = tt
line_tells n (faulty fault.TooBig) found = tt
line_tells n (counter given) found = counter_tells n found.lines given (is_some found.counter)
line_tells n (cells field cs) found = cells_tell n found.lines cs found.counter field (any_given found.lines field cs)

counted_tells : (pc : Option ℕ) (ls : List Line) → IsOfEntry (counted pc ls)
counted_tells None ls = tt
counted_tells (Some pc) ls = tt

module _ (spec : Spec) where
  goes_on_tells : (first : Result GivenCells EntryError) (rest : GivenCells → Result Entry EntryError) → IsOfEntry first → ((found : GivenCells) → IsOfEntry (rest found)) → IsOfEntry (goes_on spec first rest)
  goes_on_tells (Ok found) rest p q = q found
  goes_on_tells (Err entering.NoMemory) rest p q = absurd p
  goes_on_tells (Err (entering.BadLine n)) rest p q = tt
  goes_on_tells (Err (entering.UnknownCell n)) rest p q = tt
  goes_on_tells (Err (entering.TooBig n)) rest p q = tt
  goes_on_tells (Err (entering.Twice n)) rest p q = tt
  goes_on_tells (Err entering.NoPc) rest p q = tt
  goes_on_tells (Err (entering.NotOne cell)) rest p q = tt

  from_tells : (n : ℕ) (found : GivenCells) (ls : List (List ℕ)) → IsOfEntry (read_from spec n found ls)
  from_tells n found [] = counted_tells (number_given found.counter) found.lines
  from_tells n found (line ∷ ls) =
      goes_on_tells (with_line n (said spec line) found) (λ more. read_from spec (n + 1) more ls) (line_tells n (said spec line) found) (λ more. from_tells (n + 1) more ls)

  pub entries_tell : (text : List ℕ) (error : EntryError) → read spec text ≡ Err error → error ≢ entering.NoMemory
  entries_tell text error is = entry_named (read spec text) error (from_tells 1 none_found (lines text)) is

  only_tells : (first : Option Line) (entry : Entry) → IsOfEntry (only_state spec first entry)
  only_tells None entry = tt
  only_tells (Some l) entry = tt

  pub states_tell : (entry : Entry) (error : EntryError) → one_state spec entry ≡ Err error → error ≢ entering.NoMemory
  states_tell entry error is = entry_named (one_state spec entry) error (only_tells (first_open entry.lines) entry) is
