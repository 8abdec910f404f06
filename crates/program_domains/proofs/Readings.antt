-- Checks and conversions have one outcome, up to the rows in texts.
use Rattle.std.proofs.Common.{◌≡◌, ◌⊎◌, ℕ, true, List, inl, inr, ap}
use Rattle.std.specs.Prelude.{Ok, Err}
use Rattle.support_command_line.specs.declared.bases.BaseName.{BaseName}
use Rattle.support_command_line.specs.Bases.{base_text}
use Rattle.code_image.specs.Image.{Image}
use Rattle.spec_ir.specs.Specification.{Spec}
use Rattle.domain_laws.specs.States.{has_states, state_type}
use Rattle.fixpoint_theory.specs.declared.verdict.Verdict.{Verdict}
use Rattle.fixpoint_theory.specs.Table.{Listings, TableFits}
use Rattle.fixpoint_theory.specs.Verdicts.{verdict_of}
use Rattle.fixpoint_theory.proofs.Verdicts.{accepted_are_closed}
use Rattle.analysis_table_laws.proofs.Verdicts.{same_tables_same_verdict}
use Rattle.text_faults.specs.declared.table_error.TableError.{TableError}
use Rattle.fixpoint_open_tables.specs.Endings.{Endings}
use Rattle.text_table_reader.specs.Tables.{IsErrorIn, IsOpenTableIn, IsTableIn}
use Rattle.text_tables.specs.Open.{IsOpenTableText}
use Rattle.text_table_reader.specs.Readings.{AreAlike}
use Rattle.text_table_reader.proofs.Errors.{errors_are_one, open_tables_are_alike, open_tables_have_no_error, open_tables_or_errors, read_tables_fit, tables_are_alike}
use Rattle.analysis_transfer_laws.specs.Problem.{IsWellFormedProblem, Problem}
use Rattle.program_common.specs.Outcome.{Outcome, Refusal, table_refused, text}
use Rattle.program_domains.specs.Analyses.{analysis}
use Rattle.program_domains.specs.Checks.{IsJudged, Judges, judged, outcome_of, refused}
use Rattle.program_domains.specs.Conversions as conversions
use Rattle.program_domains.specs.Conversions.{Rewrites, rewritten}
use Rattle.program_domains.specs.Domains.{DomainOf}
use Rattle.program_domains.specs.Laws.{AreOne, of_open_table, ChecksAreOne, ChecksHaveSome, ConversionsAreOne, ConversionsHaveSome, HasWordsOf}
use Rattle.program_domains.specs.Named.{AnyDomain, Converted, domain_of}
use Rattle.program_domains.proofs.Bases.{IsKnown, all_known, known, known_is_lawful}
use Rattle.program_domains.proofs.Lawful.{IsLawful}
use Rattle.program_domains.proofs.Ready.{closed_is_true, keeps_the_laws}
use Rattle.program_domains.proofs.OpenTexts.{has_open_text, one_open_text}
use Rattle.program_domains.proofs.Refusals.{IsReadOrRefused, read_or_refused, refusals_are_one, tables_are_not_refused}
use Rattle.program_domains.proofs.Texts.{alike_are_same}

-- ---- checks

module _ {E W N C : Type 0} (domain : DomainOf E W N C) (p : Problem) (lawful : IsLawful domain p.spec) (posed : IsWellFormedProblem p) (image : Image) (base bytes : List ℕ) where
  pub one_verdict : (t u : Listings E) → IsJudged domain p image base bytes t → IsJudged domain p image base bytes u → verdict_of (analysis domain p) t ≡ verdict_of (analysis domain p) u
  one_verdict t u h k =
      let A = analysis domain p in
      same_tables_same_verdict A (keeps_the_laws domain p lawful posed) t u h.fits k.fits
      (alike_are_same A domain.elements (λ x y same. same) t u (tables_are_alike domain.Reads domain.word_in domain.elements p.spec lawful.reads base image bytes t u h.is_table k.is_table))

  pub judged_one : (found other : Outcome) → Judges domain p image base bytes found → Judges domain p image base bytes other → found ≡ other
  judged_one found other (refused {refusal = x} h) (refused {refusal = y} k) = ap (λ (z : Refusal). Err z) (refusals_are_one domain p.spec lawful image base bytes x y h k)
  judged_one found other (refused {refusal = x} h) (judged u k) = absurd (tables_are_not_refused domain p.spec lawful image base bytes u x k.is_table h)
  judged_one found other (judged t h) (refused {refusal = y} k) = absurd (tables_are_not_refused domain p.spec lawful image base bytes t y h.is_table k)
  judged_one found other (judged t h) (judged u k) = ap (λ (v : Verdict W). outcome_of domain.word_text v) (one_verdict t u h k)

  -- a table that is read, and its verdict
  read_fits : HasWordsOf image p → (t : Listings E) → IsTableIn domain.Reads domain.word_in p.spec base image bytes t → TableFits (analysis domain p) t
  read_fits words t is at b listed =
      let fits = read_tables_fit domain.Reads domain.word_in domain.elements p.spec lawful.reads base image bytes t is at b listed in
      (words at fits.0, fits.1)

  pub is_judged : HasWordsOf image p → (t : Listings E) → IsTableIn domain.Reads domain.word_in p.spec base image bytes t → IsJudged domain p image base bytes t
  is_judged words t is =
      let A = analysis domain p in
      let fits = read_fits words t is in
      record {
        is_table = is;
        fits = fits;
        is_true = λ accepted. closed_is_true domain p lawful posed t fits ((accepted_are_closed A (keeps_the_laws domain p lawful posed) t fits).0 accepted);
      }

  by_reading : HasWordsOf image p → IsReadOrRefused domain p.spec lawful image base bytes → (found : Outcome) × Judges domain p image base bytes found
  by_reading words (inl (t, is)) = (outcome_of domain.word_text (verdict_of (analysis domain p) t), judged t (is_judged words t is))
  by_reading words (inr (x, is)) = (Err x, refused is)

  pub judged_some : HasWordsOf image p → (found : Outcome) × Judges domain p image base bytes found
  judged_some words = by_reading words (read_or_refused domain p.spec lawful image base bytes)

pub checks_are_one : ChecksAreOne
checks_are_one image p base bytes found other posed h k =
    let any = domain_of (state_type p.spec) base in
    judged_one any.domain p (known_is_lawful base any.domain p.spec (known image p base posed)) posed image (base_text base) bytes found other h k

pub checks_have_some : ChecksHaveSome
checks_have_some image p base bytes posed words =
    let any = domain_of (state_type p.spec) base in
    judged_some any.domain p (known_is_lawful base any.domain p.spec (known image p base posed)) posed image (base_text base) bytes words

-- ---- conversions

module _ {E W N C : Type 0} (domain : DomainOf E W N C) (spec : Spec) (lawful : IsLawful domain spec) (image : Image) (base bytes : List ℕ) where
  -- where texts of tables that are alike are, and what is one
  pub rewritten_alike : (Alike : Outcome → Outcome → Type 0)
      → ((t u : Listings E) (ends others : Endings W) (new other : List ℕ) → AreAlike domain.elements t u → ((a : ℕ) → ends a ≡ others a) → IsOpenTableText domain.word_text (domain.IsText spec) spec image base t ends new
      → IsOpenTableText domain.word_text (domain.IsText spec) spec image base u others other → Alike (Ok (text new)) (Ok (text other)))
      → ((found other : Outcome) → found ≡ other → Alike found other)
      → (found other : Outcome) → Rewrites domain spec image base bytes found → Rewrites domain spec image base bytes other → Alike found other
  rewritten_alike Alike texts same found other (conversions.refused {error = e} h) (conversions.refused {error = f} k) =
      same (Err (table_refused e)) (Err (table_refused f)) (ap (λ (x : TableError). Err (table_refused x)) (errors_are_one domain.Reads domain.word_in domain.elements spec lawful.reads base image bytes e f h k))
  rewritten_alike Alike texts same found other (conversions.refused {error = e} h) (rewritten u others new k written) = absurd (open_tables_have_no_error domain.Reads domain.word_in domain.elements spec lawful.reads base image bytes u others e k h)
  rewritten_alike Alike texts same found other (rewritten t ends new h written) (conversions.refused {error = f} k) = absurd (open_tables_have_no_error domain.Reads domain.word_in domain.elements spec lawful.reads base image bytes t ends f h k)
  rewritten_alike Alike texts same found other (rewritten t ends new h written) (rewritten u others more k too) =
      let alike = open_tables_are_alike domain.Reads domain.word_in domain.elements spec lawful.reads base image bytes t u ends others h k in
      texts t u ends others new more alike.0 alike.1 written too

  by_text : ((t : Listings E) × (ends : Endings W) × IsOpenTableIn domain.Reads domain.word_in spec base image bytes t ends) ⊎ ((error : TableError) × IsErrorIn domain.Reads domain.word_in spec base image bytes error)
      → (found : Outcome) × Rewrites domain spec image base bytes found
  by_text (inl (t, ends, is)) = let new = has_open_text domain.word_text (domain.IsText spec) spec lawful.written image base t ends in (Ok (text new.0), rewritten t ends new.0 is new.1)
  by_text (inr (e, is)) = (Err (table_refused e), conversions.refused is)

  pub rewritten_some : (found : Outcome) × Rewrites domain spec image base bytes found
  rewritten_some = by_text (open_tables_or_errors domain.Reads domain.word_in domain.elements spec lawful.reads base image bytes)

module _ (image : Image) (spec : Spec) (base : BaseName) (bytes : List ℕ) (has : has_states spec ≡ true) where
  abbrev any_domain : AnyDomain
  any_domain = domain_of (state_type spec) base

  converted_one : (found other : Outcome) → IsKnown base any_domain.domain spec → Converted image spec base bytes found → Converted image spec base bytes other → AreOne base spec image found other
  converted_one found other (inl plain) h k =
      inl (rewritten_alike any_domain.domain spec plain.lawful image (base_text base) bytes (λ x y. x ≡ y)
      (λ t u ends others new more alike ended written too. ap (λ (xs : List ℕ). Ok (text xs))
      (one_open_text any_domain.domain.word_text (any_domain.domain.IsText spec) spec any_domain.domain.elements plain.exact image (base_text base) t u ends others new more alike ended written too))
      (λ x y same. same) found other h k)
  converted_one found other (inr related) h k =
      rewritten_alike any_domain.domain spec related.1 image (base_text base) bytes (AreOne base spec image)
      (λ t u ends others new more alike ended written too. inr (related.0, of_open_table t u ends others alike ended written too)) (λ x y same. inl same) found other h k

  converted_some : (found : Outcome) × Converted image spec base bytes found
  converted_some = rewritten_some any_domain.domain spec (known_is_lawful base any_domain.domain spec (all_known spec has base)) image (base_text base) bytes

pub conversions_are_one : ConversionsAreOne
conversions_are_one image spec base bytes found other has h k = converted_one image spec base bytes has found other (all_known spec has base) h k

pub conversions_have_some : ConversionsHaveSome
conversions_have_some image spec base bytes has = converted_some image spec base bytes has
