-- Domains of the code are domains of the definitions.
use Rattle.std.proofs.Common.{◌≡◌, ◌⊎◌, ℕ, List, [], ◌∷◌, Option, Some, None, arith, inl, inr, max, option_map, ap, refl, subst, sym, ◌∙◌}
use Rattle.std.specs.Prelude.{Bool, ◌&&◌, not, IsTrue, Result, Ok, Err}
use Rattle.base_trait.specs.Algebra.{Algebra}
use Rattle.base_trait.proofs.Tests.{and_parts}
use Rattle.spec_ir.specs.Specification.{Spec}
use Rattle.code_image.specs.Image.{Image, addresses}
use Rattle.abstract_value_laws.specs.Abs.{Parts}
use Rattle.fixpoint_theory.specs.Pairs.{paired as paired_elements}
use Rattle.fixpoint_cases.specs.Pieces.{pair_piece, whole_piece}
use Rattle.domain_cell_pieces.specs.Pieces.{cell_piece}
use Rattle.fixpoint_theory.specs.Views.{listing, listings}
use Rattle.fixpoint_theory.specs.declared.table.Block.{Block}
use Rattle.fixpoint_theory.specs.declared.table.Table.{Table}
use Rattle.fixpoint_theory.specs.declared.verdict.Verdict.{Verdict}
use Rattle.domain_laws.specs.States.{StateType, has_states, same_states, state_type}
use Rattle.domain_laws.specs.Calls as cell
use Rattle.domain_laws.specs.Calls.{cell_calls}
use Rattle.domain_laws.specs.Cells.{cells}
use Rattle.domain_laws.proofs.Fields.{states_told}
use Rattle.support_modular_rows.specs.Submodule.{Submodule}
use Rattle.domain_affine_base.specs.Meaning.{affine}
use Rattle.domain_affine_base.specs.declared.word.Word.{Word}
use Rattle.domain_affine_laws.specs.Calls as relation
use Rattle.domain_affine_laws.specs.Calls.{affine_calls, affine_elements}
use Rattle.base_cuts.specs.Cuts.{Cuts}
use Rattle.base_product.specs.Meaning.{paired}
use Rattle.domain_product_laws.specs.Domain.{may_pair, pair_meaning}
use Rattle.semantics_values.specs.declared.entry.KeyAt.{KeyAt}
use Rattle.analysis_transfer_laws.specs.Problem.{Problem}
use Rattle.analysis_query_laws.specs.Affine.{affine_tell}
use Rattle.analysis_query_laws.specs.Answers.{Telling}
use Rattle.analysis_query_laws.specs.Claims.{Claim}
use Rattle.analysis_query_laws.specs.Cells.{cells_tell}
use Rattle.analysis_query_laws.specs.Pairs.{pairs_tell}
use Rattle.text_claims.specs.Answers.{answers}
use Rattle.text_claims.specs.Reading.{has_word, read}
use Rattle.analysis_query_laws.proofs.One.{slices_are_of_uses}
use Rattle.text_slices.specs.declared.slice_cell.SliceCell.{SliceCell}
use Rattle.analysis_claims.specs.Seen.{seen_by}
use Rattle.text_words.specs.Readings.{Readings}
use Rattle.text_words.specs.Texts.{Texts}
use Rattle.text_words.specs.Words.{affine_text, pair_text}
use Rattle.text_elements.specs.Parts.{AffineText, CellsText, ElementText, PairText}
use Rattle.text_lines.specs.Lines.{Lines}
use Rattle.text_element_readers.specs.Reading.{AffineRead, CellsRead, ElementReading, PairRead, both, no_first, no_second}
use Rattle.text_element_readers.specs.Words.{affine_word, cells_word, pair_word}
use Rattle.text_table_reader.proofs.Views.{error_seen, open_table_seen, table_seen}
use Rattle.fixpoint_open_tables.specs.Endings.{Endings}
use Rattle.fixpoint_open_tables.specs.declared.ending.Ending.{Ending}
use Rattle.text_tables.specs.Open as opened
use Rattle.text_tables.specs.Open.{AreOpenBlocks, IsOpenAt, IsOpenTableText}
use Rattle.text_tables.specs.Tables.{AreBlocks, IsAt, IsTableText, none, onto}
use Rattle.program_common.specs.Outcome as o
use Rattle.program_common.specs.declared.outcome.Halt.{Halt}
use Rattle.program_common.specs.declared.outcome.Halt.TheVariants.{NoMemory, Refused}
use Rattle.program_common.specs.Outcomes.{Gives, refusal_of}
use Rattle.program_common.specs.Outcome.{Answer, Outcome, Refusal, text, bad_words, cannot_read, too_long, spec_refused, code_refused, entry_refused, calls_spent, undecodable_at, too_many_targets, table_refused, claims_refused, rejected}
use Rattle.text_table_reader.specs.Ends.{is_word_of}
use Rattle.text_table_reader.specs.Tables.{IsOpenTableIn, IsTableIn}
use Rattle.program_domains.specs.Analyses.{ComesTo}
use Rattle.program_domains.specs.Checks as checks
use Rattle.program_domains.specs.Checks.{Judges}
use Rattle.program_domains.specs.Conversions as conversions
use Rattle.program_domains.specs.Conversions.{Rewrites}
use Rattle.program_domains.specs.Domains.{DomainOf, cells_of, pair_of, relations}
use Rattle.program_domains.specs.Measures.{Measures}
use Rattle.program_domains.specs.OpenAnalyses.{ComesOpen}
use Rattle.program_domains.specs.OpenChecks as open_checks
use Rattle.program_domains.specs.OpenChecks.{JudgesOpen}
use Rattle.program_domains.specs.OpenClaims as open_claims
use Rattle.program_domains.specs.OpenClaims.{ClaimsOpen}
use Rattle.program_domains.specs.OpenSlices as open_slices
use Rattle.program_domains.specs.OpenSlices.{SlicesOpen}
use Rattle.program_domains.specs.Claims as claiming
use Rattle.program_domains.specs.Claims.{Claims}
use Rattle.program_domains.specs.Refusals as refusals
use Rattle.program_domains.specs.Refusals.{IsRefused}
use Rattle.program_domains.specs.Slices as slices
use Rattle.program_domains.specs.Slices.{IsSliceText, Slices}
use Rattle.program_domains.specs.Tasks.{Comes, Task, analyse, analyse_open, check, check_open, claims, claims_open, convert, measure, slice, slice_open}
use Rattle.program_domains.specs.Until.{Marked}
use Rattle.program_domains.specs.Work.{IsOpenWorkOn, IsWork, IsWorkOn}
use Rattle.program_domains.proofs.Closed.{verdicts_to}
use Rattle.program_domains.proofs.Marked.{marked_to}
use Rattle.program_domain_tasks.specs.Own as given
use Rattle.program_domain_tasks.specs.Own.{IsOwnRefused, Own, OwnComesTo, OwnJudges, OwnRewrites, OwnWork, as_defined}
use Rattle.program_domain_tasks.specs.Claims as own_claims
use Rattle.program_domain_tasks.specs.Claims.{OwnClaims}
use Rattle.program_domain_tasks.specs.Measures.{OwnMeasures}
use Rattle.program_domain_tasks.specs.Slices as own_slices
use Rattle.program_domain_tasks.specs.Slices.{OwnSlices}
use Rattle.program_domain_tasks.proofs.Working.{listings_seen}
use Rattle.program_open_tasks.specs.Open.{OwnComesOpen}
use Rattle.program_open_tasks.specs.OpenTables.{IsOwnOpenJudged, OwnClaimsOpen, OwnJudgesOpen, OwnSlicesOpen, judged_check, judged_claims, judged_slice, unread_check, unread_claims, unread_slice, unread_table}
use Rattle.program_base_tasks.specs.Comes.{OwnComes}
use Rattle.program_base_tasks.proofs.Seen.{answers_seen, read_seen}
use Rattle.program_base_tasks.proofs.Working.{open_work_on, work_on}

-- ---- texts of tables

module _ {X E : Type 0} (view : X → E) (spec : Spec) (IsOwn : X → List ℕ → Type 0) (Is : E → List ℕ → Type 0) (becomes : (x : X) (bytes : List ℕ) → IsOwn x bytes → Is (view x) bytes) where
  at_seen : (at : ℕ) (found : Option (Block X)) (bytes : List ℕ) → IsAt IsOwn spec at (option_map (listing (λ x. x)) found) bytes → IsAt Is spec at (option_map (listing view) found) bytes
  at_seen at None bytes is = is
  at_seen at (Some b) bytes is = record { element = is.element; is_element = becomes b.elem is.element is.is_element; lines = is.lines }

  blocks_seen : (t : Table X) (ats bytes : List ℕ) → AreBlocks IsOwn spec (listings (λ x. x) t) ats bytes → AreBlocks Is spec (listings view t) ats bytes
  blocks_seen t [] bytes none = none
  blocks_seen t (at ∷ ats) bytes (onto first rest is more) = onto first rest (at_seen at _ first is) (blocks_seen t ats rest more)

  pub text_seen : (t : Table X) (image : Image) (base bytes : List ℕ) → IsTableText IsOwn spec image base (listings (λ x. x) t) bytes → IsTableText Is spec image base (listings view t) bytes
  text_seen t image base bytes is = record { blocks = is.blocks; are_blocks = blocks_seen t (addresses image.segments) is.blocks is.are_blocks; lines = is.lines }

  open_at_seen : {W : Type 0} (word_text : ℕ → W → List ℕ) (at : ℕ) (found : Option (Block X)) (ending : Option (Ending W)) (bytes : List ℕ) → IsOpenAt word_text IsOwn spec at (option_map (listing (λ x. x)) found) ending bytes
      → IsOpenAt word_text Is spec at (option_map (listing view) found) ending bytes
  open_at_seen word_text at None ending bytes is = is
  open_at_seen word_text at (Some b) ending bytes is = record { block = is.block; is_block = at_seen at (Some b) is.block is.is_block; lines = is.lines }

  open_blocks_seen : {W : Type 0} (word_text : ℕ → W → List ℕ) (t : Table X) (ends : Endings W) (ats bytes : List ℕ) → AreOpenBlocks word_text IsOwn spec (listings (λ x. x) t) ends ats bytes
      → AreOpenBlocks word_text Is spec (listings view t) ends ats bytes
  open_blocks_seen word_text t ends [] bytes opened.none = opened.none
  open_blocks_seen word_text t ends (at ∷ ats) bytes (opened.onto first rest is more) = opened.onto first rest (open_at_seen word_text at _ (ends at) first is) (open_blocks_seen word_text t ends ats rest more)

  pub open_text_seen : {W : Type 0} (word_text : ℕ → W → List ℕ) (t : Table X) (ends : Endings W) (image : Image) (base bytes : List ℕ) → IsOpenTableText word_text IsOwn spec image base (listings (λ x. x) t) ends bytes
      → IsOpenTableText word_text Is spec image base (listings view t) ends bytes
  open_text_seen word_text t ends image base bytes is = record { blocks = is.blocks; are_blocks = open_blocks_seen word_text t ends (addresses image.segments) is.blocks is.are_blocks; lines = is.lines }

-- ---- ties

-- the domain that the code's calls make, with these texts and readings, and what elements tell
abbrev pub with_texts : {X E W N C : Type 0} → Own X E W N C → ElementText E → ElementReading E → Telling E → DomainOf E W N C
with_texts own IsText Reads telling = record { base = own.base; cap = own.cap; elements = own.elements; meaning = own.meaning; pieces = own.pieces; IsText = IsText; Reads = Reads; word_in = own.word_in; word_text = own.word_text; telling = telling }

-- It is a domain of the definitions. Texts of the code's elements are texts there, and so is what is read of lines, and what they tell of claims.
pub record Tie {X E W N C : Type 0} (own : Own X E W N C) (K : Telling X) (domain : DomainOf E W N C) : Type 1 where
  pub same : with_texts own domain.IsText domain.Reads domain.telling ≡ domain
  pub text : (spec : Spec) (x : X) (bytes : List ℕ) → own.IsText spec x bytes → domain.IsText spec (own.view x) bytes
  pub tells : K ≡ seen_by own.view domain.telling
  pub reads : (spec : Spec) (is_word : ℕ → Bool) (ls : Lines) (r : Option X) (left : Lines) → own.Reads spec is_word ls r left → domain.Reads spec is_word ls (option_map own.view r) left

module _ {X E W N C : Type 0} (own : Own X E W N C) (K : Telling X) (domain : DomainOf E W N C) (tie : Tie own K domain) (image : Image) (base : List ℕ) where
  abbrev seen : DomainOf E W N C
  seen = with_texts own domain.IsText domain.Reads domain.telling

  analysis_comes : (p : Problem) (outcome : Outcome) → OwnComesTo own p image base outcome → ComesTo seen p image base outcome
  analysis_comes p (Ok (text bytes)) t = record {
    trace = t.trace;
    table = listings own.view t.table;
    legal = t.legal;
    complete = t.complete;
    few = t.few;
    is_table = t.is_table;
    fits = t.fits;
    is_true = t.is_true;
    text = text_seen own.view p.spec (own.IsText p.spec) (domain.IsText p.spec) (tie.text p.spec) t.table image base bytes t.text;
  }
  analysis_comes p (Ok (o.undecodable bytes)) never = absurd never
  analysis_comes p (Ok (o.calls_ended bytes)) never = absurd never
  analysis_comes p (Err bad_words) never = absurd never
  analysis_comes p (Err (cannot_read name)) never = absurd never
  analysis_comes p (Err (too_long name)) never = absurd never
  analysis_comes p (Err (spec_refused fault)) never = absurd never
  analysis_comes p (Err (code_refused fault)) never = absurd never
  analysis_comes p (Err (entry_refused fault)) never = absurd never
  analysis_comes p (Err calls_spent) never = absurd never
  analysis_comes p (Err (undecodable_at at word)) stop = stop
  analysis_comes p (Err (too_many_targets at shown)) stop = stop
  analysis_comes p (Err (table_refused fault)) never = absurd never
  analysis_comes p (Err (claims_refused fault)) never = absurd never
  analysis_comes p (Err (rejected rejection)) never = absurd never

  -- a table of the code that was read
  module _ (spec : Spec) where
    abbrev to : (ls : Lines) (r : Option X) (left : Lines) → own.Reads spec (is_word_of image) ls r left → domain.Reads spec (is_word_of image) ls (option_map own.view r) left
    to = tie.reads spec (is_word_of image)

    open_table_read : (bytes : List ℕ) (t : Table X) (ends : Endings W) → IsOpenTableIn own.Reads own.word_in spec base image bytes (listings (λ x. x) t) ends → IsOpenTableIn domain.Reads own.word_in spec base image bytes (listings own.view t) ends
    open_table_read bytes t ends is = open_table_seen own.view own.Reads domain.Reads own.word_in spec base image to bytes (listings (λ x. x) t) (listings own.view t) ends (listings_seen own.view t) is

    table_read : (bytes : List ℕ) (t : Table X) → IsTableIn own.Reads own.word_in spec base image bytes (listings (λ x. x) t) → IsTableIn domain.Reads own.word_in spec base image bytes (listings own.view t)
    table_read bytes t is = table_seen own.view own.Reads domain.Reads own.word_in spec base image to bytes (listings (λ x. x) t) (listings own.view t) (listings_seen own.view t) is

    -- a text that is refused
    refused_so : (bytes : List ℕ) (x : Refusal) → IsOwnRefused own spec image base bytes x → IsRefused seen spec image base bytes x
    refused_so bytes x (given.faulty {error = error} is) = refusals.faulty (error_seen own.view own.Reads domain.Reads own.word_in spec base image to bytes error is)
    refused_so bytes x (given.left_open table ends is first) = refusals.left_open (listings own.view table) ends (open_table_read bytes table ends is) first

  check_comes : (p : Problem) (bytes : List ℕ) (outcome : Outcome) → OwnJudges own p image base bytes outcome → Judges seen p image base bytes outcome
  check_comes p bytes outcome (given.refused {refusal = x} is) = checks.refused (refused_so p.spec bytes x is)
  check_comes p bytes outcome (given.judged table is) = checks.judged (listings own.view table) (record { is_table = table_read p.spec bytes table is.is_table; fits = is.fits; is_true = is.is_true })

  conversion_comes : (spec : Spec) (bytes : List ℕ) (outcome : Outcome) → OwnRewrites own spec image base bytes outcome → Rewrites seen spec image base bytes outcome
  conversion_comes spec bytes outcome (given.unread {error = error} is) = conversions.refused (error_seen own.view own.Reads domain.Reads own.word_in spec base image (to spec) bytes error is)
  conversion_comes spec bytes outcome (given.rewritten table ends new is written) =
      conversions.rewritten (listings own.view table) ends new (open_table_read spec bytes table ends is) (open_text_seen own.view spec (own.IsText spec) (domain.IsText spec) (tie.text spec) own.word_text table ends image base new written)

  -- texts of slices, and lines for claims, as elements are seen
  slices_seen : (p : Problem) (at : ℕ) (cell : SliceCell) (table : Table X) (bytes : List ℕ) → IsSliceText p.spec (listings (λ x. x) table) at cell bytes → IsSliceText p.spec (listings own.view table) at cell bytes
  slices_seen p at cell table bytes s = record { told = s.told; addresses = s.addresses; slice = slices_are_of_uses own.view table at cell.map cell.key s.told s.addresses s.slice; written = s.written }

  lines_seen : (table : Table X) (all : List Claim) (lines : List ℕ) → lines ≡ answers K (listings (λ x. x) table) all → lines ≡ answers domain.telling (listings own.view table) all
  lines_seen table all lines h = h ∙ ap (λ k. answers k (listings (λ x. x) table) all) tie.tells ∙ answers_seen own.view domain.telling table all

  slice_comes : (p : Problem) (bytes : List ℕ) (at : ℕ) (cell : SliceCell) (outcome : Outcome) → OwnSlices own p image base bytes at cell outcome → Slices seen p image base bytes at cell outcome
  slice_comes p bytes at cell outcome (own_slices.refused {refusal = x} is) = slices.refused (refused_so p.spec bytes x is)
  slice_comes p bytes at cell outcome (own_slices.judged table is by) =
      slices.judged (listings own.view table) (record { is_table = table_read p.spec bytes table is.is_table; fits = is.fits; is_true = is.is_true })
      (verdicts_to own.word_text (IsSliceText p.spec (listings (λ x. x) table) at cell) (IsSliceText p.spec (listings own.view table) at cell)
      (slices_seen p at cell table) _ outcome by)

  claims_comes : (p : Problem) (bytes list : List ℕ) (outcome : Outcome) → OwnClaims own K p image base bytes list outcome → Claims seen p image base bytes list outcome
  claims_comes p bytes list outcome (own_claims.refused {refusal = x} is) = claiming.refused (refused_so p.spec bytes x is)
  claims_comes p bytes list outcome (own_claims.unread {error = error} table is e) =
      claiming.unread (listings own.view table) (table_read p.spec bytes table is) (sym (read_seen own.view domain.telling (has_word image) p.spec list) ∙ subst (λ k. read k (has_word image) p.spec list ≡ Err error) tie.tells e)
  claims_comes p bytes list outcome (own_claims.judged table all is e by) =
      claiming.judged (listings own.view table) all (record { is_table = table_read p.spec bytes table is.is_table; fits = is.fits; is_true = is.is_true })
      (sym (read_seen own.view domain.telling (has_word image) p.spec list) ∙ subst (λ k. read k (has_word image) p.spec list ≡ Ok all) tie.tells e)
      (verdicts_to own.word_text (λ lines. lines ≡ answers K (listings (λ x. x) table) all) (λ lines. lines ≡ answers domain.telling (listings own.view table) all)
      (lines_seen table all) _ outcome by)

  open_comes : (p : Problem) (outcome : Outcome) → OwnComesOpen own p image base outcome → ComesOpen seen p image base outcome
  open_comes p (Ok (text bytes)) t = record {
    trace = t.trace;
    table = listings own.view t.table;
    ends = t.ends;
    legal = t.legal;
    complete = t.complete;
    few = t.few;
    is_table = t.is_table;
    fits = t.fits;
    endings = t.endings;
    is_true = t.is_true;
    text = open_text_seen own.view p.spec (own.IsText p.spec) (domain.IsText p.spec) (tie.text p.spec) own.word_text t.table t.ends image base bytes t.text;
  }
  open_comes p (Ok (o.undecodable bytes)) never = absurd never
  open_comes p (Ok (o.calls_ended bytes)) never = absurd never
  open_comes p (Err refusal) never = absurd never

  -- ---- where blocks may be left open

  -- a verdict on a table of the code
  abbrev open_judged : (p : Problem) (bytes : List ℕ) (table : Table X) (ends : Endings W) (x : Verdict W) → IsOwnOpenJudged own p image base bytes table ends x → open_checks.IsOpenJudged seen p image base bytes (listings own.view table) ends x
  open_judged p bytes table ends x is = record { is_table = open_table_read p.spec bytes table ends is.is_table; fits = is.is_verdict.fits; is_verdict = is.is_verdict.is; is_true = is.is_verdict.is_true }

  open_check_comes : (p : Problem) (bytes : List ℕ) (outcome : Outcome) → OwnJudgesOpen own p image base bytes outcome → JudgesOpen seen p image base bytes outcome
  open_check_comes p bytes outcome (unread_check {error = error} is) = open_checks.refused (error_seen own.view own.Reads domain.Reads own.word_in p.spec base image (to p.spec) bytes error is)
  open_check_comes p bytes outcome (judged_check table ends x is) = open_checks.judged (listings own.view table) ends x (open_judged p bytes table ends x is)

  open_slice_comes : (p : Problem) (bytes : List ℕ) (at : ℕ) (cell : SliceCell) (outcome : Outcome) → OwnSlicesOpen own p image base bytes at cell outcome → SlicesOpen seen p image base bytes at cell outcome
  open_slice_comes p bytes at cell outcome (unread_slice {error = error} is) = open_slices.refused (error_seen own.view own.Reads domain.Reads own.word_in p.spec base image (to p.spec) bytes error is)
  open_slice_comes p bytes at cell outcome (judged_slice table ends x is by) =
      open_slices.judged (listings own.view table) ends x (open_judged p bytes table ends x is)
      (verdicts_to own.word_text (Marked ends (IsSliceText p.spec (listings (λ x. x) table) at cell)) (Marked ends (IsSliceText p.spec (listings own.view table) at cell))
      (marked_to ends (IsSliceText p.spec (listings (λ x. x) table) at cell) (IsSliceText p.spec (listings own.view table) at cell) (slices_seen p at cell table)) x outcome by)

  open_claims_comes : (p : Problem) (bytes list : List ℕ) (outcome : Outcome) → OwnClaimsOpen own p K image base bytes list outcome → ClaimsOpen seen p image base bytes list outcome
  open_claims_comes p bytes list outcome (unread_table {error = error} is) = open_claims.refused (error_seen own.view own.Reads domain.Reads own.word_in p.spec base image (to p.spec) bytes error is)
  open_claims_comes p bytes list outcome (unread_claims {error = error} table ends is e) =
      open_claims.unread (listings own.view table) ends (open_table_read p.spec bytes table ends is) (sym (read_seen own.view domain.telling (has_word image) p.spec list) ∙ subst (λ k. read k (has_word image) p.spec list ≡ Err error) tie.tells e)
  open_claims_comes p bytes list outcome (judged_claims table ends x all is e by) =
      open_claims.judged (listings own.view table) ends x all (open_judged p bytes table ends x is)
      (sym (read_seen own.view domain.telling (has_word image) p.spec list) ∙ subst (λ k. read k (has_word image) p.spec list ≡ Ok all) tie.tells e)
      (verdicts_to own.word_text (Marked ends (λ lines. lines ≡ answers K (listings (λ x. x) table) all)) (Marked ends (λ lines. lines ≡ answers domain.telling (listings own.view table) all))
      (marked_to ends (λ lines. lines ≡ answers K (listings (λ x. x) table) all) (λ lines. lines ≡ answers domain.telling (listings own.view table) all) (lines_seen table all)) x outcome by)

  measure_comes : (p : Problem) (outcome : Outcome) → OwnMeasures own p outcome → Measures seen p outcome
  measure_comes p (Ok (text bytes)) t = record { trace = t.trace; table = t.table; legal = t.legal; complete = t.complete; few = t.few; is_table = t.is_table; fits = t.fits; is_true = t.is_true; told = t.told }
  measure_comes p (Ok (o.undecodable bytes)) never = absurd never
  measure_comes p (Ok (o.calls_ended bytes)) never = absurd never
  measure_comes p (Err bad_words) never = absurd never
  measure_comes p (Err (cannot_read name)) never = absurd never
  measure_comes p (Err (too_long name)) never = absurd never
  measure_comes p (Err (spec_refused fault)) never = absurd never
  measure_comes p (Err (code_refused fault)) never = absurd never
  measure_comes p (Err (entry_refused fault)) never = absurd never
  measure_comes p (Err calls_spent) never = absurd never
  measure_comes p (Err (undecodable_at at word)) stop = stop
  measure_comes p (Err (too_many_targets at shown)) stop = stop
  measure_comes p (Err (table_refused fault)) never = absurd never
  measure_comes p (Err (claims_refused fault)) never = absurd never
  measure_comes p (Err (rejected rejection)) never = absurd never

  seen_comes : (task : Task) (outcome : Outcome) → OwnComes own K image base task outcome → Comes seen image base task outcome
  seen_comes (analyse p) outcome is = analysis_comes p outcome is
  seen_comes (analyse_open p) outcome is = open_comes p outcome is
  seen_comes (measure p) outcome is = measure_comes p outcome is
  seen_comes (check p bytes) outcome is = check_comes p bytes outcome is
  seen_comes (check_open p bytes) outcome is = open_check_comes p bytes outcome is
  seen_comes (convert spec bytes) outcome is = conversion_comes spec bytes outcome is
  seen_comes (slice p bytes at cell) outcome is = slice_comes p bytes at cell outcome is
  seen_comes (slice_open p bytes at cell) outcome is = open_slice_comes p bytes at cell outcome is
  seen_comes (claims p bytes list) outcome is = claims_comes p bytes list outcome is
  seen_comes (claims_open p bytes list) outcome is = open_claims_comes p bytes list outcome is

  pub comes : (task : Task) (outcome : Outcome) → OwnComes own K image base task outcome → Comes domain image base task outcome
  comes task outcome is = subst (λ d. Comes d image base task outcome) tie.same (seen_comes task outcome is)

-- ---- the work

module _ {E W N C : Type 0} (domain : DomainOf E W N C) (image : Image) (base : List ℕ) where
  -- nothing was done
  idle : (task : Task) (old new : ℕ) → new ≡ old → IsWork domain image base task old new
  idle (analyse p) old new same = omega (arith, same)
  idle (analyse_open p) old new same = omega (arith, same)
  idle (measure p) old new same = omega (arith, same)
  idle (check p bytes) old new same = inl (omega (arith, same))
  idle (check_open p bytes) old new same = inl (omega (arith, same))
  idle (convert spec bytes) old new same = omega (arith, same)
  idle (slice p bytes at cell) old new same = inl (omega (arith, same))
  idle (slice_open p bytes at cell) old new same = inl (omega (arith, same))
  idle (claims p bytes list) old new same = inl (omega (arith, same))
  idle (claims_open p bytes list) old new same = inl (omega (arith, same))

module _ {X E W N C : Type 0} (own : Own X E W N C) (K : Telling X) (domain : DomainOf E W N C) (tie : Tie own K domain) (image : Image) (base : List ℕ) where
  read_too : (spec : Spec) (is_word : ℕ → Bool) (ls : Lines) (r : Option E) (left : Lines) → (as_defined own).Reads spec is_word ls r left → domain.Reads spec is_word ls r left
  read_too spec is_word ls r left (x, same, is) = subst (λ o. domain.Reads spec is_word ls o left) same (tie.reads spec is_word ls x left is)

  work_of : (spec : Spec) (bytes : List ℕ) (old new : ℕ) → IsWorkOn (as_defined own) image base spec bytes old new → IsWorkOn (with_texts own domain.IsText domain.Reads domain.telling) image base spec bytes old new
  work_of spec bytes old new is = work_on (as_defined own) (with_texts own domain.IsText domain.Reads domain.telling) read_too refl image base spec bytes old new is

  open_work_of : (spec : Spec) (bytes : List ℕ) (old new : ℕ) → IsOpenWorkOn (as_defined own) image base spec bytes old new → IsOpenWorkOn (with_texts own domain.IsText domain.Reads domain.telling) image base spec bytes old new
  open_work_of spec bytes old new is = open_work_on (as_defined own) (with_texts own domain.IsText domain.Reads domain.telling) read_too refl image base spec bytes old new is

  work_seen : (task : Task) (old new : ℕ) → OwnWork own image base task old new → IsWork (with_texts own domain.IsText domain.Reads domain.telling) image base task old new
  work_seen (analyse p) old new is = is
  work_seen (analyse_open p) old new is = is
  work_seen (measure p) old new is = is
  work_seen (check p bytes) old new is = work_of p.spec bytes old new is
  work_seen (check_open p bytes) old new is = open_work_of p.spec bytes old new is
  work_seen (convert spec bytes) old new is = is
  work_seen (slice p bytes at cell) old new is = work_of p.spec bytes old new is
  work_seen (slice_open p bytes at cell) old new is = open_work_of p.spec bytes old new is
  work_seen (claims p bytes list) old new is = work_of p.spec bytes old new is
  work_seen (claims_open p bytes list) old new is = open_work_of p.spec bytes old new is

  work_is : (task : Task) (old new : ℕ) → OwnWork own image base task old new → IsWork domain image base task old new
  work_is task old new is = subst (λ d. IsWork d image base task old new) tie.same (work_seen task old new is)

-- ---- cells, relations, pairs

module _ {X W N C : Type 0} (view : X → Parts W N) (B : Algebra W N C) (cuts : Cuts W C) (cap : ℕ) (name : List ℕ) (texts : Texts W N) (readings : Readings W N) where
  abbrev pub own_cells : C → StateType → Own X (Parts W N) W N C
  own_cells c t = record {
    base = B;
    cap = cap;
    elements = cells B c cap t.fields;
    meaning = cell_calls B c cap t;
    pieces = cell_piece B cuts c cap t.fields;
    view = view;
    IsText = λ spec x. CellsText name texts spec (view x);
    Reads = λ spec is_word ls r left. CellsRead readings cap name spec is_word ls (option_map view r) left;
    word_in = cells_word readings;
    word_text = texts.word;
  }

  -- what the code's elements tell
  abbrev pub cells_told : C → Telling X
  cells_told c = seen_by view (cells_tell B c)

  pub cells_tie : (c shared : C) (t : StateType) (spec : Spec) → c ≡ shared → IsTrue (cell.is_for B t spec) → Tie (own_cells c t) (cells_told c) (cells_of (state_type spec) B cuts shared cap name texts readings)
  cells_tie c shared t spec one made =
      let looks = (and_parts B.joins (not B.words.looks && (has_states spec && same_states t (state_type spec))) made).1 in
      let states = (and_parts (not B.words.looks) (has_states spec && same_states t (state_type spec)) looks).1 in
      let type = states_told t (state_type spec) (and_parts (has_states spec) (same_states t (state_type spec)) states).1 in
      record {
        same = ap (λ u. record (cells_of u B cuts c cap name texts readings) { telling = cells_tell B shared }) type ∙ ap (λ x. record (cells_of (state_type spec) B cuts x cap name texts readings) { telling = cells_tell B shared }) one;
        tells = ap (λ x. seen_by view (cells_tell B x)) one;
        text = λ spec x bytes is. is;
        reads = λ spec is_word ls r left is. is;
      }

abbrev pub own_relations : StateType → Own Submodule Submodule Word (Unit {0}) (List (ℕ × KeyAt))
own_relations t = record {
  base = affine;
  cap = 256;
  elements = affine_elements t;
  meaning = affine_calls t;
  pieces = whole_piece;
  view = λ x. x;
  IsText = AffineText;
  Reads = AffineRead (relation.cell_count t);
  word_in = affine_word (relation.cell_count t);
  word_text = affine_text;
}

-- seen as it is
itself : {A : Type 0} (r : Option A) (P : Option A → Type 0) → P r → P (option_map (λ x. x) r)
itself None P h = h
itself (Some x) P h = h

pub relations_tie : (t : StateType) (spec : Spec) → IsTrue (relation.is_for t spec) → Tie (own_relations t) (affine_tell t) (relations (state_type spec))
relations_tie t spec made =
    let type = states_told t (state_type spec) (and_parts (has_states spec) (same_states t (state_type spec)) made).1 in
    record {
      same = ap (λ u. record (relations u) { Reads = AffineRead (relation.cell_count (state_type spec)); telling = affine_tell (state_type spec) }) type;
      tells = ap affine_tell type;
      text = λ s x bytes is. is;
      reads = λ s is_word ls r left is. subst (λ u. AffineRead (relation.cell_count u) s is_word ls (option_map (λ x. x) r) left) type (itself r (λ o. AffineRead (relation.cell_count t) s is_word ls o left) is);
    }

module _ {X Y E F V W M N C D : Type 0} (first : Own X E V M C) (second : Own Y F W N D) where
  abbrev pub own_pair : Own (X × Y) (E × F) (V × W) (M × N) (C × D)
  own_pair = record {
    base = paired first.base second.base;
    cap = max first.cap second.cap;
    elements = paired_elements first.elements second.elements;
    meaning = pair_meaning first.base second.base (max first.cap second.cap) first.meaning second.meaning;
    pieces = pair_piece first.pieces second.pieces;
    view = λ x. (first.view x.0, second.view x.1);
    IsText = PairText first.IsText second.IsText;
    Reads = PairRead first.Reads second.Reads;
    word_in = pair_word first.word_in second.word_in;
    word_text = pair_text first.word_text second.word_text;
  }

  pair_read : (Seen : ElementReading E) (Later : ElementReading F) (spec : Spec) (is_word : ℕ → Bool)
      → ((ls : Lines) (r : Option X) (left : Lines) → first.Reads spec is_word ls r left → Seen spec is_word ls (option_map first.view r) left)
      → ((ls : Lines) (r : Option Y) (left : Lines) → second.Reads spec is_word ls r left → Later spec is_word ls (option_map second.view r) left)
      → (ls : Lines) (r : Option (X × Y)) (others : Lines) → PairRead first.Reads second.Reads spec is_word ls r others
      → PairRead Seen Later spec is_word ls (option_map (λ (z : X × Y). (first.view z.0, second.view z.1)) r) others
  pair_read Seen Later spec is_word to also ls r others (no_first {rest = u} f) = no_first (to ls None u f)
  pair_read Seen Later spec is_word to also ls r others (no_second {mid = m} {rest = u} x f s) = no_second (first.view x) (to ls (Some x) m f) (also m None u s)
  pair_read Seen Later spec is_word to also ls r others (both {mid = m} {rest = u} x y f s) = both (first.view x) (second.view y) (to ls (Some x) m f) (also m (Some y) u s)

  pub pair_tie : (K : Telling X) (L : Telling Y) (a : DomainOf E V M C) (b : DomainOf F W N D) → Tie first K a → Tie second L b → Tie own_pair (pairs_tell K L) (pair_of a b)
  pair_tie K L a b left right = record {
    same = ap (λ x. pair_of x (with_texts second b.IsText b.Reads b.telling)) left.same ∙ ap (λ y. pair_of a y) right.same;
    tells = ap (λ k. pairs_tell k L) left.tells ∙ ap (λ l. pairs_tell (seen_by first.view a.telling) l) right.tells;
    text = λ spec x bytes is. record { left = is.left; right = is.right; first = left.text spec x.0 is.left is.first; second = right.text spec x.1 is.right is.second; both = is.both };
    reads = λ spec is_word ls r others is. pair_read a.Reads b.Reads spec is_word (left.reads spec is_word) (right.reads spec is_word) ls r others is;
  }

-- the sides of a pair are for the specification
pub both_for : {V W M N C D : Type 0} (p q : Bool) (A : Algebra V M C) (B : Algebra W N D) → IsTrue (p && (q && may_pair A B)) → IsTrue p × IsTrue q
both_for p q A B h = let parts = and_parts p (q && may_pair A B) h in (parts.0, (and_parts q (may_pair A B) parts.1).0)

-- ---- what some value gives, the domain gives

pub gives_comes : {A D X E W N C : Type 0} (Is : D → Type 0) (own : D → Own X E W N C) (K : D → Telling X) (domain : DomainOf E W N C) (tie : (d : D) → Is d → Tie (own d) (K d) domain) (image : Image) (base : List ℕ) (task : Task) (view : A → Answer) (r : Result A Halt)
    → Gives (λ outcome. (d : D) × Is d × OwnComes (own d) (K d) image base task outcome) view r → Gives (Comes domain image base task) view r
gives_comes Is own K domain tie image base task view (Ok found) given = comes (own given.0) (K given.0) domain (tie given.0 given.1) image base task (Ok (view found)) given.2
gives_comes Is own K domain tie image base task view (Err NoMemory) given = tt
gives_comes Is own K domain tie image base task view (Err (Refused refusal)) given = comes (own given.0) (K given.0) domain (tie given.0 given.1) image base task (Err (refusal_of refusal)) given.2

-- Nothing was done, or no more than some value takes. (What is given besides says which domain of the code each value makes.)
pub work_comes : {A D X E W N C : Type 0} (Is : D → Type 0) (own : D → Own X E W N C) (K : D → Telling X) (domain : DomainOf E W N C) (tie : (d : D) → Is d → Tie (own d) (K d) domain) (image : Image) (base : List ℕ) (task : Task) (view : A → Answer) (r : Result A Halt)
    → Gives (λ outcome. (d : D) × Is d × OwnComes (own d) (K d) image base task outcome) view r → (old new : ℕ) → (new ≡ old) ⊎ ((d : D) × Is d × OwnWork (own d) image base task old new) → IsWork domain image base task old new
work_comes Is own K domain tie image base task view r given old new (inl same) = idle domain image base task old new same
work_comes Is own K domain tie image base task view r given old new (inr h) = work_is (own h.0) (K h.0) domain (tie h.0 h.1) image base task old new h.2
