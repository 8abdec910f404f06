-- What the analysis of a problem prints is accepted, however many changes of an element joined.
use Rattle.std.proofs.Common.{◌≡◌, ◌∙◌, ℕ, List, IsTrue, inl, subst, sym}
use Rattle.std.specs.List.{list_all}
use Rattle.std.specs.Prelude.{Ok}
use Rattle.text_lines.specs.Lines.{is_inside}
use Rattle.support_command_line.specs.declared.bases.BaseName.{BaseName}
use Rattle.support_command_line.specs.Bases.{base_text}
use Rattle.code_image.specs.Image.{Image}
use Rattle.domain_laws.specs.States.{state_type}
use Rattle.fixpoint_theory.specs.Analysis.{AnalysisLaws}
use Rattle.fixpoint_theory.specs.Table.{IsClosed, TableFits}
use Rattle.fixpoint_theory.specs.Verdicts.{verdict_of}
use Rattle.fixpoint_theory.specs.declared.verdict.Verdict.{Verdict}
use Rattle.fixpoint_theory.specs.declared.verdict.Verdict.TheVariants as v
use Rattle.fixpoint_theory.proofs.Tables.{full_traces_close}
use Rattle.fixpoint_theory.proofs.Verdicts.{accepted_are_closed}
use Rattle.fixpoint_open_tables.specs.Endings.{IsClosedButOpen, endings_of}
use Rattle.fixpoint_open_tables.specs.Instance.{left_open_laws}
use Rattle.fixpoint_open_tables.specs.LeftOpen.{left_open}
use Rattle.fixpoint_open_tables.specs.Verdicts.{IsVerdict}
use Rattle.fixpoint_open_tables.proofs.Soundness.{open_tables_are_sound}
use Rattle.analysis_transfer_laws.specs.Analysis.{machine_of}
use Rattle.analysis_transfer_laws.specs.OpenRuns.{IsTrueUntilOpen}
use Rattle.analysis_transfer_laws.specs.Problem.{IsWellFormedProblem, Problem}
use Rattle.analysis_table_laws.specs.InvariantLaws.{has_word}
use Rattle.analysis_table_laws.proofs.Cases.{choices_keep}
use Rattle.fixpoint_cases.specs.Narrowing.{first_narrowing}
use Rattle.analysis_cuts.specs.Analysis.{choices_at, split_of}
use Rattle.analysis_cuts.specs.Instance.{are_alike, are_split}
use Rattle.text_table_reader.specs.Tables.{IsOpenTableIn}
use Rattle.text_round_trips.specs.OpenAnalyses.{HasCodeWords}
use Rattle.text_round_trips.proofs.OpenAnalyses.{accepted_by, cases_are_written}
use Rattle.program_common.specs.Outcome.{text}
use Rattle.program_domains.specs.Analyses.{IsTable}
use Rattle.program_domains.specs.Checks.{Judges, accepted_line, judged, outcome_of}
use Rattle.program_domains.specs.Domains.{DomainOf}
use Rattle.program_domains.specs.Named.{Analysed, AnalysedOpen, Checked, CheckedOpen, domain_of}
use Rattle.program_domains.specs.OpenAnalyses.{IsOpenTable}
use Rattle.program_domains.specs.OpenChecks as opening
use Rattle.program_domains.specs.OpenChecks.{JudgesOpen}
use Rattle.program_domains.proofs.Bases.{known, known_is_lawful}
use Rattle.program_domains.proofs.Lawful.{IsLawful}
use Rattle.program_domains.proofs.OpenReadings.{open_checks_are_one}
use Rattle.program_domains.proofs.Readings.{checks_are_one}
use Rattle.program_domains.proofs.Ready.{calls, closed_is_true, is_analysed, is_sound, keeps_the_laws, open_is_true}
use Rattle.program_laws.specs.AgreementLaws.{AnalysesAreAccepted, IsCodeOf, OpenAnalysesAreAccepted, with_joins}
use Rattle.program_laws.specs.Printable.{Asks, IsPrintableIn}
use Rattle.program_laws.proofs.Agreement.{back, parts}
use Rattle.program_laws.proofs.Bases.{all_told, names_inside}
use Rattle.program_laws.proofs.Joins.{A, B, closed_too, code_too, endings_too, fits_too, open_closed_too, posed_too}
use Rattle.program_laws.proofs.Told.{IsTold}

module _ {E W N C : Type 0} (domain : DomainOf E W N C) (notes_are : Asks N) (elements_are : Asks E) (p : Problem) (joins : ℕ) (lawful : IsLawful domain p.spec) (told : IsTold domain notes_are elements_are p.spec)
    (posed : IsWellFormedProblem p) (image : Image) (of : IsCodeOf p image) (name : List ℕ) (inside : IsTrue (list_all is_inside name)) (bytes : List ℕ) where
  -- both analyses keep the laws
  laws : AnalysisLaws (A domain p joins)
  laws = keeps_the_laws domain p lawful posed

  other_laws : AnalysisLaws (B domain p joins)
  other_laws = keeps_the_laws domain (with_joins p joins) lawful (posed_too p joins posed)

  -- ---- a table that is not left open
  module _ (h : IsTable domain (with_joins p joins) image name bytes) where
    fits : TableFits (A domain p joins) h.table
    fits = fits_too domain p joins h.table h.fits

    closed : IsClosed (A domain p joins) h.table
    closed = closed_too domain p joins h.table (full_traces_close (B domain p joins) other_laws h.trace h.table h.legal h.complete h.fits h.is_table)

    accepted : verdict_of (A domain p joins) h.table ≡ v.Accepted
    accepted = (accepted_are_closed (A domain p joins) laws h.table fits).1 closed

    pub judges : Judges domain p image name bytes (Ok (text accepted_line))
    judges =
        subst (λ (verdict : Verdict W). Judges domain p image name bytes (outcome_of domain.word_text verdict)) accepted
        (judged h.table (record {
          is_table = back domain notes_are elements_are (with_joins p joins) lawful told (posed_too p joins posed) image (code_too p joins image of) name inside bytes h;
          fits = fits;
          is_true = λ accepted. closed_is_true domain p lawful posed h.table fits closed;
        }))

  -- ---- one that is
  module _ (words : HasCodeWords image) (h : IsOpenTable domain (with_joins p joins) image name bytes) where
    open_fits : TableFits (A domain p joins) h.table
    open_fits = fits_too domain p joins h.table h.fits

    open_closed : IsClosed (left_open (A domain p joins)) h.table
    open_closed =
        open_closed_too domain p joins h.table
        (full_traces_close (left_open (B domain p joins)) (left_open_laws (B domain p joins) other_laws) h.trace h.table h.legal h.complete h.fits h.is_table)

    ends_are : (a : ℕ) → h.ends a ≡ endings_of (A domain p joins) h.table a
    ends_are a = h.endings a ∙ endings_too domain p joins h.table a

    open_accepted : IsVerdict (A domain p joins) h.table h.ends v.Accepted
    open_accepted =
        inl (record {
          verdict = sym ((accepted_are_closed (left_open (A domain p joins)) (left_open_laws (A domain p joins) laws) h.table open_fits).1 open_closed);
          endings = λ a up. ends_are a;
        })

    open_true : IsTrueUntilOpen domain.base domain.elements p h.table h.ends
    open_true =
        let closed : IsClosedButOpen (A domain p joins) h.table h.ends = record { closed = open_closed; endings = ends_are } in
        open_is_true domain p lawful posed h.table h.ends closed (open_tables_are_sound (A domain p joins) (machine_of p) laws (is_sound domain p lawful posed) h.table h.ends open_fits closed)

    open_back : IsOpenTableIn domain.Reads domain.word_in p.spec name image bytes h.table h.ends
    open_back =
        let q = with_joins p joins in
        let q_posed = posed_too p joins posed in
        let q_calls = calls domain q lawful q_posed in
        let split = split_of q domain.elements domain.pieces in
        let written = cases_are_written domain.base lawful.laws domain.cap domain.elements domain.meaning notes_are elements_are told.notes told.keeps q q_calls (is_analysed domain q lawful q_posed)
        split q.cases (are_split domain.elements lawful.keeps.elements domain.pieces lawful.cut q) (are_alike domain.elements lawful.keeps.elements domain.pieces lawful.cut q)
        (choices_keep domain.pieces (elements_are (has_word q)) (told.pieces (has_word q)) (λ a x. first_narrowing domain.elements domain.pieces (choices_at q a) x)) in
        let transfer = (B domain p joins).transfer in
        (accepted_by domain.base domain.cap domain.elements domain.meaning elements_are q q_calls transfer written domain.Reads domain.word_in domain.IsText domain.word_text
        image name h.trace h.table h.ends bytes (parts domain notes_are elements_are p.spec lawful told image of.code name inside)
        (record { addresses_are = of.addresses_are; words_are = of.words_are }) words inside h.legal h.complete h.fits h.is_table h.endings (inl h.text)).0

    pub open_judges : JudgesOpen domain p image name bytes (Ok (text accepted_line))
    open_judges = opening.judged h.table h.ends v.Accepted (record { is_table = open_back; fits = open_fits; is_verdict = open_accepted; is_true = λ same. open_true })

-- ---- over each base

-- the check of its text
pub analyses_check : (image : Image) (p : Problem) (joins : ℕ) (base : BaseName) (bytes : List ℕ) → IsWellFormedProblem p → IsCodeOf p image → Analysed image (with_joins p joins) base (Ok (text bytes))
    → Checked image p base bytes (Ok (text accepted_line))
analyses_check image p joins base bytes posed of h =
    let told = all_told p.spec of.code.fields.states of.code.fields.fields base in
    let domain = (domain_of (state_type p.spec) base).domain in
    let lawful = known_is_lawful base domain p.spec (known image p base posed) in
    judges domain told.0 (IsPrintableIn (state_type p.spec) base) p joins lawful told.1 posed image of (base_text base) (names_inside base) bytes h

pub analyses_are_accepted : AnalysesAreAccepted
analyses_are_accepted image p joins base bytes found posed of h checked = checks_are_one image p base bytes found (Ok (text accepted_line)) posed checked (analyses_check image p joins base bytes posed of h)

-- and that of one that is left open
pub open_analyses_check : (image : Image) (p : Problem) (joins : ℕ) (base : BaseName) (bytes : List ℕ) → IsWellFormedProblem p → IsCodeOf p image → HasCodeWords image
    → AnalysedOpen image (with_joins p joins) base (Ok (text bytes)) → CheckedOpen image p base bytes (Ok (text accepted_line))
open_analyses_check image p joins base bytes posed of words h =
    let told = all_told p.spec of.code.fields.states of.code.fields.fields base in
    let domain = (domain_of (state_type p.spec) base).domain in
    let lawful = known_is_lawful base domain p.spec (known image p base posed) in
    open_judges domain told.0 (IsPrintableIn (state_type p.spec) base) p joins lawful told.1 posed image of (base_text base) (names_inside base) bytes words h

pub open_analyses_are_accepted : OpenAnalysesAreAccepted
open_analyses_are_accepted image p joins base bytes found posed of words h checked =
    open_checks_are_one image p base bytes found (Ok (text accepted_line)) posed checked (open_analyses_check image p joins base bytes posed of words h)
