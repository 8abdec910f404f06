-- Checks of tables that may be left open have one outcome, and accept what other checks accept.
use Rattle.std.proofs.Common.{◌≡◌, ◌⊎◌, ℕ, List, None, inl, inr, refl, sym, ap, subst}
use Rattle.std.specs.Prelude.{Ok, Err}
use Rattle.support_command_line.specs.declared.bases.BaseName.{BaseName}
use Rattle.support_command_line.specs.Bases.{base_text}
use Rattle.code_image.specs.Image.{Image}
use Rattle.domain_laws.specs.States.{state_type}
use Rattle.fixpoint_theory.specs.Table.{Listings, TableFits}
use Rattle.fixpoint_theory.specs.declared.verdict.Verdict.{Verdict}
use Rattle.fixpoint_theory.specs.declared.verdict.Verdict.TheVariants as v
use Rattle.fixpoint_open_tables.specs.Endings.{Endings, IsNowhereOpen}
use Rattle.fixpoint_open_tables.proofs.Verdicts.{accepted_are_closed_but_open}
use Rattle.text_faults.specs.declared.table_error.TableError.{TableError}
use Rattle.text_table_reader.specs.Tables.{IsErrorIn, IsOpenTableIn, IsTableIn}
use Rattle.text_table_reader.specs.Readings.{AreAlike, IsFirstOpen}
use Rattle.text_table_reader.proofs.Errors.{IsSomething, errors_are_one, open_tables_are_alike, open_tables_have_no_error, open_tables_or_errors, read_open_tables_fit}
use Rattle.text_table_reader.proofs.FirstOpen.{closed_or_open}
use Rattle.analysis_transfer_laws.specs.Problem.{IsWellFormedProblem, Problem}
use Rattle.analysis_transfer_laws.proofs.OpenRuns.{open_truth_is_truth}
use Rattle.program_common.specs.Outcome.{Answer, Outcome, table_refused, text}
use Rattle.program_domains.specs.Analyses.{analysis}
use Rattle.program_domains.specs.Checks.{IsAccepted, accepted_line, outcome_of}
use Rattle.program_domains.specs.Domains.{DomainOf}
use Rattle.program_domains.specs.Laws.{HasWordsOf, OpenChecksAreOne, OpenChecksHaveSome}
use Rattle.program_domains.specs.Named.{AcceptedOpen, CheckedOpen, domain_of}
use Rattle.program_domains.specs.OpenChecks.{IsOpenAccepted, IsOpenJudged, JudgesOpen, judged, refused}
use Rattle.program_domains.specs.Until.{IsSomewhereOpen}
use Rattle.program_domains.proofs.Bases.{known, known_is_lawful}
use Rattle.program_domains.proofs.Decided.{AreDecided, words_are_decided}
use Rattle.program_domains.proofs.Lawful.{IsLawful}
use Rattle.program_domains.proofs.OpenOutcomes.{open_true}
use Rattle.program_domains.proofs.OpenVerdicts.{closed_is_accepted, one_verdict_of_both, read_verdict}
use Rattle.program_domains.proofs.Ready.{keeps_the_laws}

module _ {E W N C : Type 0} (domain : DomainOf E W N C) (p : Problem) (lawful : IsLawful domain p.spec) (image : Image) (base bytes : List ℕ) where
  -- ---- what is read
  -- tables that are read of the text are alike, and end alike
  pub both_are_alike : (t u : Listings E) (ends others : Endings W) → IsOpenTableIn domain.Reads domain.word_in p.spec base image bytes t ends → IsOpenTableIn domain.Reads domain.word_in p.spec base image bytes u others
      → AreAlike domain.elements t u × ((a : ℕ) → ends a ≡ others a)
  both_are_alike t u ends others h k = open_tables_are_alike domain.Reads domain.word_in domain.elements p.spec lawful.reads base image bytes t u ends others h k

  -- where there is a table, there is no error
  pub both_do_not_stand : (t : Listings E) (ends : Endings W) (error : TableError) → IsOpenTableIn domain.Reads domain.word_in p.spec base image bytes t ends → IsErrorIn domain.Reads domain.word_in p.spec base image bytes error → ⊥
  both_do_not_stand t ends error h k = open_tables_have_no_error domain.Reads domain.word_in domain.elements p.spec lawful.reads base image bytes t ends error h k

  pub one_error : (error other : TableError) → IsErrorIn domain.Reads domain.word_in p.spec base image bytes error → IsErrorIn domain.Reads domain.word_in p.spec base image bytes other → error ≡ other
  one_error error other h k = errors_are_one domain.Reads domain.word_in domain.elements p.spec lawful.reads base image bytes error other h k

  -- one of both stands
  abbrev pub IsRead : Type 0
  IsRead = IsSomething domain.Reads domain.word_in domain.elements p.spec lawful.reads base image bytes

  pub is_read : IsRead
  is_read = open_tables_or_errors domain.Reads domain.word_in domain.elements p.spec lawful.reads base image bytes

  -- no block is left open, or some is
  pub nowhere_or_somewhere : (t : Listings E) (ends : Endings W) → IsOpenTableIn domain.Reads domain.word_in p.spec base image bytes t ends → IsNowhereOpen ends ⊎ IsSomewhereOpen ends
  nowhere_or_somewhere t ends is = from (closed_or_open domain.Reads domain.word_in p.spec base image bytes t ends is)
    where
      from : IsTableIn domain.Reads domain.word_in p.spec base image bytes t ⊎ ((at : ℕ) × IsFirstOpen ends at) → IsNowhereOpen ends ⊎ IsSomewhereOpen ends
      from (inl closed) = inl (both_are_alike t t ends (λ a. None) is closed).1
      from (inr found) = let first = found.1 in inr (found.0, first.is_open)

  -- ---- there is one at most
  module _ (posed : IsWellFormedProblem p) where
    pub one_open_verdict : (t u : Listings E) (ends others : Endings W) (x y : Verdict W) → IsOpenJudged domain p image base bytes t ends x → IsOpenJudged domain p image base bytes u others y → x ≡ y
    one_open_verdict t u ends others x y h k =
        let alike = both_are_alike t u ends others h.is_table k.is_table in
        one_verdict_of_both domain p lawful posed t u ends others x y h.fits k.fits alike.0 alike.1 h.is_verdict k.is_verdict

    open_judged_one : (found other : Outcome) → JudgesOpen domain p image base bytes found → JudgesOpen domain p image base bytes other → found ≡ other
    open_judged_one found other (refused {error = e} h) (refused {error = f} k) = ap (λ (z : TableError). Err (table_refused z)) (one_error e f h k)
    open_judged_one found other (refused {error = e} h) (judged u others y k) = absurd (both_do_not_stand u others e k.is_table h)
    open_judged_one found other (judged t ends x h) (refused {error = f} k) = absurd (both_do_not_stand t ends f h.is_table k)
    open_judged_one found other (judged t ends x h) (judged u others y k) = ap (λ (z : Verdict W). outcome_of domain.word_text z) (one_open_verdict t u ends others x y h k)

    -- ---- there is one
    module _ (words : AreDecided W) (has : HasWordsOf image p) where
      open_read_fits : (t : Listings E) (ends : Endings W) → IsOpenTableIn domain.Reads domain.word_in p.spec base image bytes t ends → TableFits (analysis domain p) t
      open_read_fits t ends is at b listed =
          let fits = read_open_tables_fit domain.Reads domain.word_in domain.elements p.spec lawful.reads base image bytes t ends is at b listed in
          (has at fits.0, fits.1)

      -- a table that is read has a verdict
      pub is_open_judged : (t : Listings E) (ends : Endings W) → IsOpenTableIn domain.Reads domain.word_in p.spec base image bytes t ends → (x : Verdict W) × IsOpenJudged domain p image base bytes t ends x
      is_open_judged t ends is =
          let A = analysis domain p in
          let fits = open_read_fits t ends is in
          let found = read_verdict A words domain.Reads domain.word_in p.spec base image bytes t ends is in (
            found.0,
            record {
              is_table = is;
              fits = fits;
              is_verdict = found.1;
              is_true = λ accepted. open_true domain p lawful posed t ends fits ((accepted_are_closed_but_open A (keeps_the_laws domain p lawful posed) t ends found.0 fits found.1).0 accepted);
            },
          )

      by_reading : IsRead → (found : Outcome) × JudgesOpen domain p image base bytes found
      by_reading (inl (t, ends, is)) = let own = is_open_judged t ends is in (outcome_of domain.word_text own.0, judged t ends own.0 own.1)
      by_reading (inr (e, is)) = (Err (table_refused e), refused is)

      open_judged_some : (found : Outcome) × JudgesOpen domain p image base bytes found
      open_judged_some = by_reading is_read

    -- ---- what another check accepts
    closed_is_judged : IsAccepted domain p image base bytes → JudgesOpen domain p image base bytes (Ok (text accepted_line))
    closed_is_judged h =
        judged h.table (λ a. None) v.Accepted
        (record {
          is_table = h.is_table;
          fits = h.fits;
          is_verdict = closed_is_accepted domain p lawful posed h.table h.fits h.closed;
          is_true = λ accepted. (open_truth_is_truth domain.base domain.elements p h.table (λ a. None) (λ a. refl)).1 h.is_true;
        })

    closed_answer_is_judged : (answer : Answer) → IsAccepted domain p image base bytes × (answer ≡ text accepted_line) → JudgesOpen domain p image base bytes (Ok answer)
    closed_answer_is_judged answer h = subst (λ (z : Answer). JudgesOpen domain p image base bytes (Ok z)) (sym h.1) (closed_is_judged h.0)

pub open_checks_are_one : OpenChecksAreOne
open_checks_are_one image p base bytes found other posed h k =
    let any = domain_of (state_type p.spec) base in
    open_judged_one any.domain p (known_is_lawful base any.domain p.spec (known image p base posed)) image (base_text base) bytes posed found other h k

pub open_checks_have_some : OpenChecksHaveSome
open_checks_have_some image p base bytes posed words =
    let any = domain_of (state_type p.spec) base in
    open_judged_some any.domain p (known_is_lawful base any.domain p.spec (known image p base posed)) image (base_text base) bytes posed (words_are_decided (state_type p.spec) base) words

-- ---- where a table is accepted

module _ {E W N C : Type 0} (domain : DomainOf E W N C) (p : Problem) (image : Image) (base bytes : List ℕ) where
  -- Where the outcome is an answer, the table is accepted with its endings, and the answer says so.
  SaysAccepted : Outcome → Type 0
  SaysAccepted (Ok answer) = IsOpenAccepted domain p image base bytes × (answer ≡ text accepted_line)
  SaysAccepted (Err refusal) = Unit {0}

  by_verdict : (t : Listings E) (ends : Endings W) (x : Verdict W) → IsOpenJudged domain p image base bytes t ends x → SaysAccepted (outcome_of domain.word_text x)
  unfolding SaysAccepted
  by_verdict t ends v.Accepted is = (record { table = t; ends = ends; is_table = is.is_table; fits = is.fits; closed = is.is_verdict; is_true = is.is_true refl }, refl)
  by_verdict t ends v.Entry is = tt
  by_verdict t ends (v.Open at to) is = tt
  by_verdict t ends (v.Undecodable at word) is = tt
  by_verdict t ends (v.TooManyTargets at shown) is = tt
  by_verdict t ends (v.Targets at) is = tt
  by_verdict t ends (v.Use at) is = tt

  judged_says : (found : Outcome) → JudgesOpen domain p image base bytes found → SaysAccepted found
  unfolding SaysAccepted
  judged_says found (refused is) = tt
  judged_says found (judged t ends x is) = by_verdict t ends x is

  is_accepted : (answer : Answer) → JudgesOpen domain p image base bytes (Ok answer) → IsOpenAccepted domain p image base bytes × (answer ≡ text accepted_line)
  unfolding SaysAccepted
  is_accepted answer is = judged_says (Ok answer) is

pub open_answers_accept : (image : Image) (p : Problem) (base : BaseName) (bytes : List ℕ) (answer : Answer) → CheckedOpen image p base bytes (Ok answer) → AcceptedOpen image p base bytes × (answer ≡ text accepted_line)
open_answers_accept image p base bytes answer is = is_accepted (domain_of (state_type p.spec) base).domain p image (base_text base) bytes answer is
