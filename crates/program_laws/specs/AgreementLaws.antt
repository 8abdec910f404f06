-- What the commands on tables owe agrees.
use Rattle.std.specs.Prelude.{◌≡◌, ℕ, ◌<◌, ◌≤◌, Contains, List, Ok, Some, false, length, slice_index, true}
use Rattle.support_command_line.specs.declared.bases.BaseName.{BaseName}
use Rattle.support_command_line.specs.Bases.{base_text}
use Rattle.support_command_line.specs.Requests.{AnalyseRequest, ConvertRequest, analyse, check, convert}
use Rattle.support_command_line.specs.Words.{asked}
use Rattle.code_image.specs.Faults.{IsImage}
use Rattle.code_image.specs.Image.{Image, addresses, code_at}
use Rattle.spec_ir.specs.Specification.{Spec}
use Rattle.domain_laws.specs.States.{state_type}
use Rattle.fixpoint_theory.specs.Table.{Listings}
use Rattle.fixpoint_open_tables.specs.Endings.{Endings}
use Rattle.analysis_transfer_laws.specs.Problem.{IsWellFormedProblem, Problem}
use Rattle.analysis_table_laws.specs.InvariantLaws.{has_word}
use Rattle.analysis_table_laws.specs.Tables.{IsPrintableTable}
use Rattle.text_table_reader.specs.Ends.{is_word_of}
use Rattle.text_table_reader.specs.Tables.{IsOpenTableIn, IsTableIn}
use Rattle.text_table_reader.specs.Readings.{AreAlike}
use Rattle.text_round_trips.specs.Fields.{HasUseTexts}
use Rattle.text_round_trips.specs.FirstTexts.{IsTextOf}
use Rattle.text_round_trips.specs.OpenAnalyses.{HasCodeWords}
use Rattle.text_round_trips.specs.Writable.{IsWritable}
use Rattle.program_common.specs.Outcome.{Outcome, text}
use Rattle.program_common.specs.Reading.{Held, Holds}
use Rattle.program_machine.specs.Inputs.{CodeInputs, CodedOf, table_cap}
use Rattle.program_domains.specs.Analyses.{IsTable}
use Rattle.program_domains.specs.Checks.{accepted_line}
use Rattle.program_domains.specs.Named.{Analysed, AnalysedOpen, Checked, CheckedOpen, Converted, domain_of, has_relations}
use Rattle.program_run.specs.Owed.{IsOwed}
use Rattle.program_run.specs.Words.{capped_inputs}
use Rattle.program_laws.specs.Printable.{IsPrintableIn}

-- ---- of what the laws speak

-- An image of the code of a specification's machine: it has its form, and the fields of states have names and keys that their texts tell.
pub record IsCodeFor (spec : Spec) (image : Image) : Type 0 where
  pub is_image : IsImage image
  pub fields : HasUseTexts spec

-- The code words of the problem are those of the image.
pub record IsCodeOf (p : Problem) (image : Image) : Type 0 where
  pub addresses_are : p.addresses ≡ addresses image.segments
  pub words_are : p.word_at ≡ code_at image
  pub code : IsCodeFor p.spec image

-- the problem, where so many changes of an element join before later ones widen
abbrev pub with_joins : Problem → ℕ → Problem
with_joins p joins = record p { joins = joins }

-- The text is read as this table, over a base.
abbrev pub Tells : (base : BaseName) (spec : Spec) → Image → List ℕ → Listings (domain_of (state_type spec) base).Element → Type 0
Tells base spec image = IsTableIn (domain_of (state_type spec) base).domain.Reads (domain_of (state_type spec) base).domain.word_in spec (base_text base) image

-- The text is read as this table with these endings, over a base.
abbrev pub TellsOpen : (base : BaseName) (spec : Spec) → Image → List ℕ → Listings (domain_of (state_type spec) base).Element → Endings (domain_of (state_type spec) base).Word → Type 0
TellsOpen base spec image = IsOpenTableIn (domain_of (state_type spec) base).domain.Reads (domain_of (state_type spec) base).domain.word_in spec (base_text base) image

-- Two texts tell one table, up to how its elements are written.
pub record TellOne (base : BaseName) (spec : Spec) (image : Image) (bytes other : List ℕ) : Type 0 where
  pub first : Listings (domain_of (state_type spec) base).Element
  pub second : Listings (domain_of (state_type spec) base).Element
  pub first_is : Tells base spec image bytes first
  pub second_is : Tells base spec image other second
  pub alike : AreAlike (domain_of (state_type spec) base).domain.elements first second

-- Two texts tell one table with its endings, up to how its elements are written.
pub record TellOneOpen (base : BaseName) (spec : Spec) (image : Image) (bytes other : List ℕ) : Type 0 where
  pub first : Listings (domain_of (state_type spec) base).Element
  pub second : Listings (domain_of (state_type spec) base).Element
  pub ends : Endings (domain_of (state_type spec) base).Word
  pub others : Endings (domain_of (state_type spec) base).Word
  pub first_is : TellsOpen base spec image bytes first ends
  pub second_is : TellsOpen base spec image other second others
  pub alike : AreAlike (domain_of (state_type spec) base).domain.elements first second
  pub end_alike : (a : ℕ) → ends a ≡ others a

-- A text of the table, in format 2 or in format 1, over a base.
abbrev pub IsTextIn : (base : BaseName) (spec : Spec) → Image → List ℕ → Listings (domain_of (state_type spec) base).Element → Type 0
IsTextIn base spec image bytes t = IsTextOf ((domain_of (state_type spec) base).domain.IsText spec) spec image (base_text base) t bytes

-- A table that its texts tell: it is of the code, its elements fit, and it is printable.
abbrev pub IsWritableIn : (base : BaseName) (spec : Spec) → Image → Listings (domain_of (state_type spec) base).Element → Type 0
IsWritableIn base spec image = IsWritable (domain_of (state_type spec) base).domain.elements (IsPrintableIn (state_type spec) base) spec (is_word_of image)

-- ---- laws

-- A text that is read as a table is a text of it, byte for byte, and the table is one that its texts tell.
abbrev pub TablesAreTold : Type 0
TablesAreTold =
    (image : Image) (spec : Spec) (base : BaseName) (bytes : List ℕ) (t : Listings (domain_of (state_type spec) base).Element) → IsCodeFor spec image
    → Tells base spec image bytes t → IsTextIn base spec image bytes t × IsWritableIn base spec image t

-- Each text of such a table is read as it.
abbrev pub TextsAreReadBack : Type 0
TextsAreReadBack =
    (image : Image) (spec : Spec) (base : BaseName) (bytes : List ℕ) (t : Listings (domain_of (state_type spec) base).Element) → IsCodeFor spec image
    → IsWritableIn base spec image t → IsTextIn base spec image bytes t → Tells base spec image bytes t

-- The text of the table of an analysis tells that table: it is read as this table (and as no other, up to how elements are written). The table is
-- printable.
abbrev pub AnalysesAreTold : Type 0
AnalysesAreTold =
    (image : Image) (p : Problem) (base : BaseName) (bytes : List ℕ) → IsWellFormedProblem p → IsCodeOf p image
    → (h : IsTable (domain_of (state_type p.spec) base).domain p image (base_text base) bytes)
    → Tells base p.spec image bytes h.table × IsPrintableTable p.spec (IsPrintableIn (state_type p.spec) base (has_word p)) h.table

-- Two texts that the analysis of a problem comes to tell one table.
abbrev pub AnalysesTellOne : Type 0
AnalysesTellOne =
    (image : Image) (p : Problem) (base : BaseName) (bytes other : List ℕ) → IsWellFormedProblem p → IsCodeOf p image
    → Analysed image p base (Ok (text bytes)) → Analysed image p base (Ok (text other)) → TellOne base p.spec image bytes other

-- What an analysis prints is accepted, however many changes of an element joined: a check does not know how a table was made.
abbrev pub AnalysesAreAccepted : Type 0
AnalysesAreAccepted =
    (image : Image) (p : Problem) (joins : ℕ) (base : BaseName) (bytes : List ℕ) (found : Outcome) → IsWellFormedProblem p → IsCodeOf p image
    → Analysed image (with_joins p joins) base (Ok (text bytes)) → Checked image p base bytes found → found ≡ Ok (text accepted_line)

-- So is what an analysis prints that is left open, where a table may be left open, and the code's words have 32 bits.
abbrev pub OpenAnalysesAreAccepted : Type 0
OpenAnalysesAreAccepted =
    (image : Image) (p : Problem) (joins : ℕ) (base : BaseName) (bytes : List ℕ) (found : Outcome) → IsWellFormedProblem p → IsCodeOf p image → HasCodeWords image
    → AnalysedOpen image (with_joins p joins) base (Ok (text bytes)) → CheckedOpen image p base bytes found → found ≡ Ok (text accepted_line)

-- A text that was written anew is, written anew once more, a text of the same table with the same endings; these very bytes, where each element has one text.
pub record IsRewritten (base : BaseName) (spec : Spec) (image : Image) (new : List ℕ) (found : Outcome) : Type 0 where
  pub again : List ℕ
  pub is : found ≡ Ok (text again)
  pub same : TellOneOpen base spec image new again
  pub exact : has_relations base ≡ false → again ≡ new

abbrev pub ConversionsStay : Type 0
ConversionsStay =
    (image : Image) (spec : Spec) (base : BaseName) (bytes new : List ℕ) (found : Outcome) → IsCodeFor spec image
    → Converted image spec base bytes (Ok (text new)) → Converted image spec base new found → IsRewritten base spec image new found

-- ---- over what a run owes

-- The inputs of these words hold the same, before and later.
abbrev pub HoldTheSame : List (List ℕ) → Held → Held → Type 0
HoldTheSame words held later = (cap : ℕ) (name : List ℕ) → Contains (capped_inputs words) (name, cap) → held name ≡ later name

-- What is owed depends on the inputs of the words alone.
abbrev pub OwedByInputs : Type 0
OwedByInputs = (words : List (List ℕ)) (held later : Held) (outcome : Outcome) → HoldTheSame words held later → IsOwed words held outcome → IsOwed words later outcome

-- The numbers are those of bytes.
abbrev pub AreBytes : List ℕ → Type 0
AreBytes bytes = (i : ℕ) → slice_index bytes i < 256

-- The inputs of these words hold bytes.
abbrev pub HoldBytes : List (List ℕ) → Held → Type 0
HoldBytes words held = (cap : ℕ) (name bytes : List ℕ) → Contains (capped_inputs words) (name, cap) → held name ≡ Some bytes → AreBytes bytes

-- Where `analyse` owes a text that is no longer than a table may be, and a name holds it later, `check` of that name, with the same other words and
-- where their inputs still hold the same, owes that it is accepted: both are left open, or none is. How many changes of an element join is not one of these
-- words. (That the inputs hold bytes tells that a code word has 32 bits, and so that the line of an open block without decoding is read back.)
abbrev pub AnalyseThenCheck : Type 0
AnalyseThenCheck =
    (words check_words : List (List ℕ)) (held later : Held) (request : AnalyseRequest) (joins : ℕ) (table bytes : List ℕ) (found : Outcome)
    → asked words ≡ Some (analyse request) → asked check_words ≡ Some (check (record { analysis = record request { joins = joins }; table = table }))
    → (request.open ≡ true → HoldBytes words held) → IsOwed words held (Ok (text bytes)) → HoldTheSame words held later → later table ≡ Some bytes → length bytes ≤ table_cap
    → IsOwed check_words later found → found ≡ Ok (text accepted_line)

-- The text is of the same table as one that `convert` owes, of the code that the names of a request hold: these very bytes, where the base has no
-- relations.
pub record IsConvertedAgain (held : Held) (request : ConvertRequest) (new : List ℕ) (found : Outcome) : Type 0 where
  pub coded : CodeInputs
  pub is_coded : CodedOf (Holds held) request.spec request.code (Ok coded)
  pub rewritten : IsRewritten request.base coded.spec coded.image new found

-- Where `convert` owes a text that is no longer than a table may be, and a name holds it later, `convert` of that name, with the same other words and
-- where the specification and the code are still the same, owes such a text.
abbrev pub ConvertTwice : Type 0
ConvertTwice =
    (words again_words : List (List ℕ)) (held later : Held) (request : ConvertRequest) (table new : List ℕ) (found : Outcome)
    → asked words ≡ Some (convert request) → asked again_words ≡ Some (convert (record { spec = request.spec; code = request.code; base = request.base; table = table }))
    → IsOwed words held (Ok (text new)) → HoldTheSame words held later → later table ≡ Some new → length new ≤ table_cap
    → IsOwed again_words later found → IsConvertedAgain later request new found
