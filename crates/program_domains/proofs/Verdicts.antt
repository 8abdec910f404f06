-- What work on tables may come to.
use Rattle.std.proofs.Common.{◌≡◌, ℕ, List, refl, sym, subst}
use Rattle.std.specs.Prelude.{Ok, Err}
use Rattle.support_command_line.specs.declared.bases.BaseName.{BaseName}
use Rattle.support_command_line.specs.Bases.{base_text}
use Rattle.code_image.specs.Image.{Image}
use Rattle.spec_ir.specs.Specification.{Spec}
use Rattle.domain_laws.specs.States.{state_type}
use Rattle.fixpoint_theory.specs.declared.verdict.Verdict.{Verdict}
use Rattle.fixpoint_theory.specs.declared.verdict.Verdict.TheVariants as v
use Rattle.fixpoint_theory.specs.Table.{Listings}
use Rattle.fixpoint_theory.specs.Verdicts.{verdict_of}
use Rattle.analysis_transfer_laws.specs.Problem.{Problem}
use Rattle.program_common.specs.Outcome.{Answer, Outcome, Refusal, claims_refused, rejected, table_refused, text, too_many_targets, undecodable_at}
use Rattle.program_domains.specs.Analyses.{IsStop, analysis}
use Rattle.program_domains.specs.Checks.{IsAccepted, IsJudged, Judges, accepted_line, judged, outcome_of, refused}
use Rattle.program_domains.specs.Claims as of_claims
use Rattle.program_domains.specs.Claims.{Claims}
use Rattle.program_domains.specs.Closed.{Answers, ByVerdict}
use Rattle.program_domains.specs.Conversions as conversions
use Rattle.program_domains.specs.Conversions.{Rewrites}
use Rattle.program_domains.specs.Domains.{DomainOf}
use Rattle.program_domains.specs.Named.{Accepted, Checked, Done, domain_of}
use Rattle.program_domains.specs.OpenChecks as of_open_checks
use Rattle.program_domains.specs.OpenChecks.{JudgesOpen}
use Rattle.program_domains.specs.OpenClaims as of_open_claims
use Rattle.program_domains.specs.OpenClaims.{ClaimsOpen}
use Rattle.program_domains.specs.OpenSlices as of_open_slices
use Rattle.program_domains.specs.OpenSlices.{SlicesOpen}
use Rattle.program_domains.specs.Refusals.{IsRefused, faulty, left_open}
use Rattle.program_domains.specs.Slices as of_slices
use Rattle.program_domains.specs.Slices.{Slices}
use Rattle.program_domains.specs.Tasks.{Comes, Task, analyse, analyse_open, check, check_open, claims, claims_open, convert, measure, slice, slice_open, spec_of}
use Rattle.text_slices.specs.declared.slice_cell.SliceCell.{SliceCell}

-- ---- what may be refused

-- The refusal is one of work on a table.
abbrev pub MayStop : Refusal → Type 0
MayStop (undecodable_at at word) = Unit {0}
MayStop (too_many_targets at shown) = Unit {0}
MayStop (table_refused fault) = Unit {0}
MayStop (claims_refused fault) = Unit {0}
MayStop (rejected rejection) = Unit {0}
MayStop _ = ⊥

-- The outcome is an answer, or such a refusal.
MayBe : Outcome → Type 0
MayBe (Ok answer) = Unit {0}
MayBe (Err refusal) = MayStop refusal

module _ {E W N C : Type 0} (domain : DomainOf E W N C) where
  verdict_may : (x : Verdict W) → MayBe (outcome_of domain.word_text x)
  unfolding MayBe
  verdict_may v.Accepted = tt
  verdict_may v.Entry = tt
  verdict_may (v.Open at to) = tt
  verdict_may (v.Undecodable at word) = tt
  verdict_may (v.TooManyTargets at shown) = tt
  verdict_may (v.Targets at) = tt
  verdict_may (v.Use at) = tt

  stops_may : (p : Problem) (refusal : Refusal) → IsStop domain p refusal → MayStop refusal
  stops_may p (undecodable_at at word) is = tt
  stops_may p (too_many_targets at shown) is = tt
  stops_may p _ is = absurd is

  refused_may : (spec : Spec) (image : Image) (base bytes : List ℕ) (x : Refusal) → IsRefused domain spec image base bytes x → MayStop x
  refused_may spec image base bytes x (faulty is) = tt
  refused_may spec image base bytes x (left_open table ends is first) = tt

  judged_may : (p : Problem) (image : Image) (base bytes : List ℕ) (found : Outcome) → Judges domain p image base bytes found → MayBe found
  unfolding MayBe
  judged_may p image base bytes found (refused {refusal = x} is) = refused_may p.spec image base bytes x is
  judged_may p image base bytes found (judged table is) = verdict_may (verdict_of (analysis domain p) table)

  answers_may : (Is : List ℕ → Type 0) (found : Outcome) → Answers Is found → MayBe found
  unfolding MayBe
  answers_may Is (Ok answer) is = tt
  answers_may Is (Err refusal) is = absurd is

  by_verdict_may : (Is : List ℕ → Type 0) (x : Verdict W) (found : Outcome) → ByVerdict domain.word_text Is x found → MayBe found
  by_verdict_may Is v.Accepted found is = answers_may Is found is
  by_verdict_may Is v.Entry found is = subst MayBe (sym is) (verdict_may v.Entry)
  by_verdict_may Is (v.Open at to) found is = subst MayBe (sym is) (verdict_may (v.Open at to))
  by_verdict_may Is (v.Undecodable at word) found is = subst MayBe (sym is) (verdict_may (v.Undecodable at word))
  by_verdict_may Is (v.TooManyTargets at shown) found is = subst MayBe (sym is) (verdict_may (v.TooManyTargets at shown))
  by_verdict_may Is (v.Targets at) found is = subst MayBe (sym is) (verdict_may (v.Targets at))
  by_verdict_may Is (v.Use at) found is = subst MayBe (sym is) (verdict_may (v.Use at))

  sliced_may : (p : Problem) (image : Image) (base bytes : List ℕ) (at : ℕ) (asked : SliceCell) (found : Outcome) → Slices domain p image base bytes at asked found → MayBe found
  unfolding MayBe
  sliced_may p image base bytes at asked found (of_slices.refused {refusal = x} is) = refused_may p.spec image base bytes x is
  sliced_may p image base bytes at asked found (of_slices.judged table is by) = by_verdict_may _ (verdict_of (analysis domain p) table) found by

  claimed_may : (p : Problem) (image : Image) (base bytes list : List ℕ) (found : Outcome) → Claims domain p image base bytes list found → MayBe found
  unfolding MayBe
  claimed_may p image base bytes list found (of_claims.refused {refusal = x} is) = refused_may p.spec image base bytes x is
  claimed_may p image base bytes list found (of_claims.unread table is e) = tt
  claimed_may p image base bytes list found (of_claims.judged table all is e by) = by_verdict_may _ (verdict_of (analysis domain p) table) found by

  -- where blocks may be left open
  open_judged_may : (p : Problem) (image : Image) (base bytes : List ℕ) (found : Outcome) → JudgesOpen domain p image base bytes found → MayBe found
  unfolding MayBe
  open_judged_may p image base bytes found (of_open_checks.refused is) = tt
  open_judged_may p image base bytes found (of_open_checks.judged table ends x is) = verdict_may x

  open_sliced_may : (p : Problem) (image : Image) (base bytes : List ℕ) (at : ℕ) (asked : SliceCell) (found : Outcome) → SlicesOpen domain p image base bytes at asked found → MayBe found
  unfolding MayBe
  open_sliced_may p image base bytes at asked found (of_open_slices.refused is) = tt
  open_sliced_may p image base bytes at asked found (of_open_slices.judged table ends x is by) = by_verdict_may _ x found by

  open_claimed_may : (p : Problem) (image : Image) (base bytes list : List ℕ) (found : Outcome) → ClaimsOpen domain p image base bytes list found → MayBe found
  unfolding MayBe
  open_claimed_may p image base bytes list found (of_open_claims.refused is) = tt
  open_claimed_may p image base bytes list found (of_open_claims.unread table ends is e) = tt
  open_claimed_may p image base bytes list found (of_open_claims.judged table ends x all is e by) = by_verdict_may _ x found by

  done_may : (image : Image) (base : List ℕ) (task : Task) (refusal : Refusal) → Comes domain image base task (Err refusal) → MayStop refusal
  unfolding MayBe
  done_may image base (analyse p) refusal is = stops_may p refusal is
  done_may image base (analyse_open p) refusal is = absurd is
  done_may image base (measure p) refusal is = stops_may p refusal is
  done_may image base (check p bytes) refusal is = judged_may p image base bytes (Err refusal) is
  done_may image base (check_open p bytes) refusal is = open_judged_may p image base bytes (Err refusal) is
  done_may image base (convert spec bytes) refusal (conversions.refused is) = tt
  done_may image base (slice p bytes at asked) refusal is = sliced_may p image base bytes at asked (Err refusal) is
  done_may image base (slice_open p bytes at asked) refusal is = open_sliced_may p image base bytes at asked (Err refusal) is
  done_may image base (claims p bytes list) refusal is = claimed_may p image base bytes list (Err refusal) is
  done_may image base (claims_open p bytes list) refusal is = open_claimed_may p image base bytes list (Err refusal) is

pub may_stop : (image : Image) (task : Task) (base : BaseName) (refusal : Refusal) → Done image task base (Err refusal) → MayStop refusal
may_stop image task base refusal is = done_may (domain_of (state_type (spec_of task)) base).domain image (base_text base) task refusal is

-- ---- where a table is accepted

module _ {E W N C : Type 0} (domain : DomainOf E W N C) (p : Problem) (image : Image) (base bytes : List ℕ) where
  -- Where the outcome is an answer, the table is accepted, and the answer says so.
  SaysAccepted : Outcome → Type 0
  SaysAccepted (Ok answer) = IsAccepted domain p image base bytes × (answer ≡ text accepted_line)
  SaysAccepted (Err refusal) = Unit {0}

  by_verdict : (table : Listings E) (is : IsJudged domain p image base bytes table) (x : Verdict W) → verdict_of (analysis domain p) table ≡ x → SaysAccepted (outcome_of domain.word_text x)
  unfolding SaysAccepted
  by_verdict table is v.Accepted closed = (record { table = table; is_table = is.is_table; fits = is.fits; closed = closed; is_true = is.is_true closed }, refl)
  by_verdict table is v.Entry closed = tt
  by_verdict table is (v.Open at to) closed = tt
  by_verdict table is (v.Undecodable at word) closed = tt
  by_verdict table is (v.TooManyTargets at shown) closed = tt
  by_verdict table is (v.Targets at) closed = tt
  by_verdict table is (v.Use at) closed = tt

  judged_says : (found : Outcome) → Judges domain p image base bytes found → SaysAccepted found
  unfolding SaysAccepted
  judged_says found (refused is) = tt
  judged_says found (judged table is) = by_verdict table is (verdict_of (analysis domain p) table) refl

  is_accepted : (answer : Answer) → Judges domain p image base bytes (Ok answer) → IsAccepted domain p image base bytes × (answer ≡ text accepted_line)
  unfolding SaysAccepted
  is_accepted answer is = judged_says (Ok answer) is

pub answers_accept : (image : Image) (p : Problem) (base : BaseName) (bytes : List ℕ) (answer : Answer) → Checked image p base bytes (Ok answer) → Accepted image p base bytes × (answer ≡ text accepted_line)
answers_accept image p base bytes answer is = is_accepted (domain_of (state_type p.spec) base).domain p image (base_text base) bytes answer is
