-- What the analysis of a problem prints tells its table; what was written anew stays.
use Rattle.std.proofs.Common.{◌≡◌, ℕ, Bool, true, false, List, IsTrue, inl, inr, refl, sym, ap, subst}
use Rattle.std.specs.List.{list_all}
use Rattle.std.specs.Prelude.{Ok, is_some}
use Rattle.text_lines.specs.Lines.{is_inside}
use Rattle.support_command_line.specs.declared.bases.BaseName.{BaseName}
use Rattle.support_command_line.specs.Bases.{base_text}
use Rattle.code_image.specs.Image.{Image}
use Rattle.spec_ir.specs.Specification.{Spec}
use Rattle.domain_laws.specs.States.{state_type}
use Rattle.fixpoint_theory.specs.Analysis.{Analysis, AnalysisLaws}
use Rattle.fixpoint_theory.specs.WorklistState.{worklist_state}
use Rattle.fixpoint_theory.specs.Table.{IsTableOf, Listings}
use Rattle.fixpoint_theory.proofs.One.{legal_traces_are_one}
use Rattle.fixpoint_theory.proofs.Tables.{tables_are_one, tables_fit_the_image}
use Rattle.semantics_values.specs.States.{State}
use Rattle.analysis_transfer_laws.specs.Problem.{IsWellFormedProblem, Problem}
use Rattle.analysis_transfer.specs.Analysis.{calls_of}
use Rattle.analysis_table_laws.specs.InvariantLaws.{has_word}
use Rattle.analysis_table_laws.specs.Tables.{IsPrintableTable}
use Rattle.analysis_table_laws.proofs.Cases.{choices_keep}
use Rattle.fixpoint_cases.specs.Narrowing.{first_narrowing}
use Rattle.analysis_cuts.specs.Analysis.{choices_at, split_of}
use Rattle.analysis_cuts.specs.Instance.{are_alike, are_split}
use Rattle.text_table_reader.specs.Ends.{is_word_of}
use Rattle.text_table_reader.specs.Tables.{IsOpenTableIn, IsTableIn}
use Rattle.text_table_reader.specs.Readings.{AreAlike}
use Rattle.text_table_reader.proofs.Errors.{open_tables_are_alike, open_tables_have_no_error}
use Rattle.fixpoint_open_tables.specs.Endings.{Endings}
use Rattle.text_tables.specs.Open.{IsOpenTableText}
use Rattle.text_round_trips.specs.TableLaws.{HasParts}
use Rattle.text_round_trips.specs.Writable.{IsWritable}
use Rattle.text_round_trips.proofs.Fitting.{fitting_tables_are_of_code}
use Rattle.text_round_trips.proofs.OpenAnalyses.{cases_are_printable}
use Rattle.text_round_trips.proofs.Tables.{converted_texts_are_read, tables_read_are_writable, texts_are_read, texts_are_told}
use Rattle.program_common.specs.Outcome.{Outcome, text}
use Rattle.program_domains.specs.Analyses.{IsTable, analysis}
use Rattle.program_domains.specs.Conversions as conversions
use Rattle.program_domains.specs.Conversions.{Rewrites, rewritten}
use Rattle.program_domains.specs.Domains.{DomainOf}
use Rattle.program_domains.specs.Named.{domain_of, has_relations}
use Rattle.program_domains.proofs.Bases.{IsKnown, all_known, known, known_is_lawful}
use Rattle.program_domains.proofs.Lawful.{IsLawful}
use Rattle.program_domains.proofs.Ready.{is_analysed, keeps_the_laws}
use Rattle.program_domains.proofs.Texts.{same_are_alike}
use Rattle.program_laws.specs.AgreementLaws.{AnalysesAreTold, AnalysesTellOne, ConversionsStay, IsCodeFor, IsCodeOf, TablesAreTold, TextsAreReadBack}
use Rattle.program_laws.specs.Printable.{Asks, IsPrintableIn}
use Rattle.program_laws.proofs.Bases.{all_told, names_inside}
use Rattle.program_laws.proofs.OpenTexts.{one_open_text}
use Rattle.program_laws.proofs.Told.{IsTold}

-- ---- in a domain that is told by texts

module _ {E W N C : Type 0} (domain : DomainOf E W N C) (notes_are : Asks N) (elements_are : Asks E) (spec : Spec) (lawful : IsLawful domain spec) (told : IsTold domain notes_are elements_are spec)
    (image : Image) (code : IsCodeFor spec image) (name : List ℕ) (inside : IsTrue (list_all is_inside name)) where
  abbrev pub Holds : W → Type 0
  Holds = domain.base.words.fits domain.meaning.context 32

  pub parts : HasParts domain.Reads domain.word_in domain.IsText domain.word_text domain.elements elements_are Holds spec image
  parts = record { elements = told.trips; words = told.words; laws = lawful.reads; fields = code.fields; is_image = code.is_image }

  -- a text that is written of a table that was read tells it too
  pub read_again : (bytes new : List ℕ) (t : Listings E) (ends : Endings W) → IsOpenTableIn domain.Reads domain.word_in spec name image bytes t ends
      → IsOpenTableText domain.word_text (domain.IsText spec) spec image name t ends new → IsOpenTableIn domain.Reads domain.word_in spec name image new t ends
  read_again bytes new t ends h written =
      converted_texts_are_read domain.Reads domain.word_in domain.IsText domain.word_text domain.elements elements_are Holds spec image name parts inside bytes new t ends h (inl written)

  -- what is written of it, and what is written of that
  module _ (new : List ℕ) (t : Listings E) (ends : Endings W) (back : IsOpenTableIn domain.Reads domain.word_in spec name image new t ends)
      (written : IsOpenTableText domain.word_text (domain.IsText spec) spec image name t ends new) where
    pub record IsAgain (found : Outcome) : Type 0 where
      pub again : List ℕ
      pub other : Listings E
      pub others : Endings W
      pub is : found ≡ Ok (text again)
      pub other_is : IsOpenTableIn domain.Reads domain.word_in spec name image again other others
      pub other_text : IsOpenTableText domain.word_text (domain.IsText spec) spec image name other others again
      pub alike : AreAlike domain.elements t other
      pub end_alike : (a : ℕ) → ends a ≡ others a

    pub is_again : (found : Outcome) → Rewrites domain spec image name new found → IsAgain found
    is_again found (conversions.refused {error = e} h) = absurd (open_tables_have_no_error domain.Reads domain.word_in domain.elements spec lawful.reads name image new t ends e back h)
    is_again found (rewritten u others again h also) =
        let one = open_tables_are_alike domain.Reads domain.word_in domain.elements spec lawful.reads name image new t u ends others back h in
        record {
          again = again;
          other = u;
          others = others;
          is = refl;
          other_is = read_again new again u others h also;
          other_text = also;
          alike = one.0;
          end_alike = one.1;
        }

-- ---- of the analysis of a problem

module _ {E W N C : Type 0} (domain : DomainOf E W N C) (notes_are : Asks N) (elements_are : Asks E) (p : Problem) (lawful : IsLawful domain p.spec) (told : IsTold domain notes_are elements_are p.spec)
    (posed : IsWellFormedProblem p) (image : Image) (of : IsCodeOf p image) (name : List ℕ) (inside : IsTrue (list_all is_inside name)) where
  abbrev A : Analysis E W State
  A = analysis domain p

  laws : AnalysisLaws A
  laws = keeps_the_laws domain p lawful posed

  module _ (bytes : List ℕ) (h : IsTable domain p image name bytes) where
    pub printable : IsPrintableTable p.spec (elements_are (has_word p)) h.table
    printable =
        cases_are_printable domain.base lawful.laws domain.cap domain.elements domain.meaning notes_are elements_are told.notes told.keeps p (calls_of domain.base domain.cap domain.meaning p)
        (is_analysed domain p lawful posed) (split_of p domain.elements domain.pieces) p.cases (are_split domain.elements lawful.keeps.elements domain.pieces lawful.cut p) (are_alike domain.elements lawful.keeps.elements domain.pieces lawful.cut p)
        (choices_keep domain.pieces (elements_are (has_word p)) (told.pieces (has_word p)) (λ a x. first_narrowing domain.elements domain.pieces (choices_at p a) x)) h.trace h.table h.fits h.is_table

    same_words : has_word p ≡ is_word_of image
    same_words = ap {B = ℕ → Bool} (λ word_at a. is_some (word_at a)) of.words_are

    writable : IsWritable domain.elements elements_are p.spec (is_word_of image) h.table
    writable =
        let blocks = fitting_tables_are_of_code A image of.code.is_image of.addresses_are h.table h.fits (tables_fit_the_image A laws h.trace h.table h.fits h.is_table) in
        record {
          fits = blocks.0;
          printable = subst (λ (code : ℕ → Bool). IsPrintableTable p.spec (elements_are code) h.table) same_words printable;
          of_code = blocks.1;
        }

    -- it is read back
    pub back : IsTableIn domain.Reads domain.word_in p.spec name image bytes h.table
    back =
        texts_are_read domain.Reads domain.word_in domain.IsText domain.word_text domain.elements elements_are (Holds domain notes_are elements_are p.spec lawful told image of.code name inside) p.spec image name
        (parts domain notes_are elements_are p.spec lawful told image of.code name inside) inside bytes h.table writable (inl h.text)

  -- two texts tell one table
  pub alike : (bytes other : List ℕ) (h : IsTable domain p image name bytes) (k : IsTable domain p image name other) → AreAlike domain.elements h.table k.table
  alike bytes other h k =
      let same : h.trace ≡ k.trace = legal_traces_are_one A h.trace k.trace h.legal (inl h.complete) k.legal (inl k.complete) in
      same_are_alike A domain.elements (λ x y same. same) h.table k.table
      (tables_are_one A laws k.trace h.table k.table h.fits k.fits (subst (λ trace. IsTableOf A h.table (worklist_state A trace)) same h.is_table) k.is_table)

-- ---- over each base

pub tables_are_told : TablesAreTold
tables_are_told image spec base bytes t code h =
    let has = code.fields.states in
    let told = all_told spec has code.fields.fields base in
    let domain = (domain_of (state_type spec) base).domain in
    let elements_are = IsPrintableIn (state_type spec) base in
    let all = parts domain told.0 elements_are spec (known_is_lawful base domain spec (all_known spec has base)) told.1 image code (base_text base) (names_inside base) in (
      texts_are_told domain.Reads domain.word_in domain.IsText domain.word_text domain.elements elements_are (domain.base.words.fits domain.meaning.context 32) spec image (base_text base) all bytes t h,
      tables_read_are_writable domain.Reads domain.word_in domain.IsText domain.word_text domain.elements elements_are (domain.base.words.fits domain.meaning.context 32) spec image (base_text base) all bytes t h,
    )

pub texts_are_read_back : TextsAreReadBack
texts_are_read_back image spec base bytes t code writable written =
    let has = code.fields.states in
    let told = all_told spec has code.fields.fields base in
    let domain = (domain_of (state_type spec) base).domain in
    let elements_are = IsPrintableIn (state_type spec) base in
    let all = parts domain told.0 elements_are spec (known_is_lawful base domain spec (all_known spec has base)) told.1 image code (base_text base) (names_inside base) in
    texts_are_read domain.Reads domain.word_in domain.IsText domain.word_text domain.elements elements_are (domain.base.words.fits domain.meaning.context 32) spec image (base_text base) all (names_inside base) bytes t writable written

pub analyses_are_told : AnalysesAreTold
analyses_are_told image p base bytes posed of h =
    let told = all_told p.spec of.code.fields.states of.code.fields.fields base in
    let domain = (domain_of (state_type p.spec) base).domain in
    let lawful = known_is_lawful base domain p.spec (known image p base posed) in (
      back domain told.0 (IsPrintableIn (state_type p.spec) base) p lawful told.1 posed image of (base_text base) (names_inside base) bytes h,
      printable domain told.0 (IsPrintableIn (state_type p.spec) base) p lawful told.1 posed image of (base_text base) (names_inside base) bytes h,
    )

pub analyses_tell_one : AnalysesTellOne
analyses_tell_one image p base bytes other posed of h k =
    let told = all_told p.spec of.code.fields.states of.code.fields.fields base in
    let domain = (domain_of (state_type p.spec) base).domain in
    let lawful = known_is_lawful base domain p.spec (known image p base posed) in
    record {
      first = h.table;
      second = k.table;
      first_is = (analyses_are_told image p base bytes posed of h).0;
      second_is = (analyses_are_told image p base other posed of k).0;
      alike = alike domain told.0 (IsPrintableIn (state_type p.spec) base) p lawful told.1 posed image of (base_text base) (names_inside base) bytes other h k;
    }

-- ---- conversions

never : (b : Bool) → IsTrue b → b ≡ false → ⊥
never true is e = cc
never false is e = cc

exact_again : {E W N C : Type 0} (base : BaseName) (domain : DomainOf E W N C) (spec : Spec) (image : Image) (t u : Listings E) (ends others : Endings W) (new again : List ℕ) → IsKnown base domain spec
    → AreAlike domain.elements t u → ((a : ℕ) → ends a ≡ others a) → IsOpenTableText domain.word_text (domain.IsText spec) spec image (base_text base) t ends new
    → IsOpenTableText domain.word_text (domain.IsText spec) spec image (base_text base) u others again → has_relations base ≡ false → again ≡ new
exact_again base domain spec image t u ends others new again (inl plain) same end_same written also none =
    sym (one_open_text domain.elements domain.word_text (domain.IsText spec) spec plain.exact image (base_text base) t u ends others new again same end_same written also)
exact_again base domain spec image t u ends others new again (inr related) same end_same written also none = absurd (never (has_relations base) related.0 none)

-- a text that was written
record WasWritten {E W N C : Type 0} (domain : DomainOf E W N C) (spec : Spec) (image : Image) (name bytes new : List ℕ) : Type 0 where
  pub table : Listings E
  pub ends : Endings W
  pub is_table : IsOpenTableIn domain.Reads domain.word_in spec name image bytes table ends
  pub written : IsOpenTableText domain.word_text (domain.IsText spec) spec image name table ends new

was_written : {E W N C : Type 0} (domain : DomainOf E W N C) (spec : Spec) (image : Image) (name bytes new : List ℕ) → Rewrites domain spec image name bytes (Ok (text new)) → WasWritten domain spec image name bytes new
was_written domain spec image name bytes new (rewritten t ends made is written) = record { table = t; ends = ends; is_table = is; written = written }

pub conversions_stay : ConversionsStay
conversions_stay image spec base bytes new found code first second =
    let has = code.fields.states in
    let told = all_told spec has code.fields.fields base in
    let domain = (domain_of (state_type spec) base).domain in
    let known_so = all_known spec has base in
    let lawful = known_is_lawful base domain spec known_so in
    let w = was_written domain spec image (base_text base) bytes new first in
    let inside = names_inside base in
    let again_is = read_again domain told.0 (IsPrintableIn (state_type spec) base) spec lawful told.1 image code (base_text base) inside bytes new w.table w.ends w.is_table w.written in
    let a = is_again domain told.0 (IsPrintableIn (state_type spec) base) spec lawful told.1 image code (base_text base) inside new w.table w.ends again_is w.written found second in
    record {
      again = a.again;
      is = a.is;
      same = record { first = w.table; second = a.other; ends = w.ends; others = a.others; first_is = again_is; second_is = a.other_is; alike = a.alike; end_alike = a.end_alike };
      exact = λ none. exact_again base domain spec image w.table a.other w.ends a.others new a.again known_so a.alike a.end_alike w.written a.other_text none;
    }
