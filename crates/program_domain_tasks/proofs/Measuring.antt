-- What is measured of the code's analyses.
use Rattle.std.proofs.Common.{◌≡◌, ◌∙◌, ℕ, ◌+◌, ◌<◌, ◌≤◌, Bool, true, false, List, [], ◌∷◌, Option, Some, None, option_map, length, drop, get_or, add-one, drop-cons, IsTrue, ap, arith, refl, sym}
use Rattle.std.specs.Prelude.{Ok, is_some}
use Rattle.std.specs.BTreeMap.{IsOrdered, btree_map_len, get}
use Rattle.std.specs.Ordering.{nat_cmp}
use Rattle.code_image.specs.Image.{Image}
use Rattle.fixpoint_theory.specs.Analysis.{AnalysisLaws}
use Rattle.fixpoint_theory.specs.Table.{Listing, TableFits}
use Rattle.fixpoint_theory.specs.Verdicts.{verdict_of}
use Rattle.fixpoint_theory.specs.Views.{listing, listings}
use Rattle.fixpoint_theory.specs.declared.table.Block.{Block}
use Rattle.fixpoint_theory.specs.declared.table.Table.{Table}
use Rattle.fixpoint_theory.proofs.Potential.{legal_traces_are_short}
use Rattle.program_stress_code.specs.Summary.{measure_text}
use Rattle.analysis_transfer_laws.specs.Problem.{Problem}
use Rattle.analysis_transfer_laws.specs.Runs.{IsTrueOfRuns}
use Rattle.fixpoint_worklist.specs.Answers.{IsErrorOf, IsReportOf}
use Rattle.fixpoint_worklist.specs.declared.report.Report.{Report}
use Rattle.fixpoint_worklist.specs.declared.report.AnalyseError.{AnalyseError}
use Rattle.fixpoint_worklist.proofs.Tables.{few_places}
use Rattle.program_common.specs.declared.outcome.Halt.{Halt}
use Rattle.program_common.specs.declared.outcome.Halt.TheVariants.{NoMemory, Refused}
use Rattle.program_common.specs.Outcome.{Answer, calls_ended, text, undecodable}
use Rattle.program_common.specs.Outcomes.{Stops}
use Rattle.program_domains.specs.Analyses.{analysis}
use Rattle.program_domains.specs.Measures.{count_of, listed_count, verdict_name}
use Rattle.program_domain_tasks.specs.Measures.{OwnMeasures}
use Rattle.program_domain_tasks.specs.Own.{Own, OwnComesTo, as_defined}
use Rattle.program_domain_tasks.specs.Read.{IsTextOf, Refuses}
use Rattle.program_domain_tasks.proofs.Owning.{own_stop}

-- ---- as many addresses are listed, however elements are seen
module _ {X E : Type 0} (view : X → E) (t : Table X) where
  count_seen : (o : Option (Block X)) → count_of (option_map (listing (λ x. x)) o) ≡ count_of (option_map (listing view) o)
  count_seen None = refl
  count_seen (Some b) = refl

  pub listed_seen : (addresses : List ℕ) → listed_count (listings (λ x. x) t) addresses ≡ listed_count (listings view t) addresses
  listed_seen [] = refl
  listed_seen (a ∷ rest) =
      ap (λ n. n + listed_count (listings (λ x. x) t) rest) (count_seen (get nat_cmp t.blocks a)) ∙ ap (λ n. count_of (listings view t a) + n) (listed_seen rest)

-- ---- the addresses that a table lists, one after another
module _ {X : Type 0} (t : Table X) where
  there : (o : Option (Block X)) → true ≡ is_some o → count_of (option_map (listing (λ x. x)) o) ≡ 1
  there None e = cc
  there (Some b) e = refl

  absent : (o : Option (Block X)) → false ≡ is_some o → count_of (option_map (listing (λ x. x)) o) ≡ 0
  absent None e = refl
  absent (Some b) e = cc

  ahead : (xs : List ℕ) (i : ℕ) → i < length xs
      → listed_count (listings (λ x. x) t) (drop i xs) ≡ count_of (option_map (listing (λ x. x)) (get nat_cmp t.blocks (get_or xs i 0))) + listed_count (listings (λ x. x) t) (drop (i + 1) xs)
  ahead xs i here = let cut : drop i xs ≡ get_or xs i 0 ∷ drop (i + 1) xs = rw (add-one, drop-cons xs i 0 here) refl in ap (listed_count (listings (λ x. x) t)) cut

  pub one_more : (xs : List ℕ) (i old new : ℕ) → i < length xs → true ≡ is_some (get nat_cmp t.blocks (get_or xs i 0)) → new ≡ old + 1
      → old + listed_count (listings (λ x. x) t) (drop i xs) ≡ listed_count (listings (λ x. x) t) xs → new + listed_count (listings (λ x. x) t) (drop (i + 1) xs) ≡ listed_count (listings (λ x. x) t) xs
  one_more xs i old new here is made before =
      let cut = ahead xs i here in
      let one = there (get nat_cmp t.blocks (get_or xs i 0)) is in
      omega (arith, cut, one, made, before)

  pub none_more : (xs : List ℕ) (i old new : ℕ) → i < length xs → false ≡ is_some (get nat_cmp t.blocks (get_or xs i 0)) → new ≡ old
      → old + listed_count (listings (λ x. x) t) (drop i xs) ≡ listed_count (listings (λ x. x) t) xs → new + listed_count (listings (λ x. x) t) (drop (i + 1) xs) ≡ listed_count (listings (λ x. x) t) xs
  none_more xs i old new here is made before =
      let cut = ahead xs i here in
      let none = absent (get nat_cmp t.blocks (get_or xs i 0)) is in
      omega (arith, cut, none, made, before)

-- how many transfers an analysis and the check of its table make
pub measured_within : (old mid new work blocks places : ℕ) → mid ≤ old + work → new ≤ mid + blocks → blocks ≤ places → new ≤ old + (work + places)
measured_within old mid new work blocks places analysed checked few = omega (arith, analysed, checked, few)

module _ {X E W N C : Type 0} (own : Own X E W N C) (p : Problem) where
  -- a table, with the lines of what is measured of it
  pub own_measure : (r : Report X) (answer : Answer) → AnalysisLaws (analysis (as_defined own) p) → IsReportOf (analysis (as_defined own) p) own.view r
      → TableFits (analysis (as_defined own) p) (listings own.view r.table) → IsTrueOfRuns own.base own.elements p (listings own.view r.table)
      → IsTextOf (λ bytes. bytes ≡ measure_text (length r.trace.items) (listed_count (listings (λ x. x) r.table) p.addresses) (verdict_name (verdict_of (analysis (as_defined own) p) (listings own.view r.table)))) answer
      → OwnMeasures own p (Ok answer)
  own_measure r (text bytes) laws reports fits runs told = record {
    trace = r.trace.items;
    table = listings own.view r.table;
    legal = reports.legal;
    complete = reports.complete;
    few = legal_traces_are_short (analysis (as_defined own) p) laws r.trace.items reports.legal;
    is_table = reports.table;
    fits = fits;
    is_true = runs;
    told = told ∙ ap (λ n. measure_text (length r.trace.items) n (verdict_name (verdict_of (analysis (as_defined own) p) (listings own.view r.table)))) (listed_seen own.view r.table p.addresses);
  }
  own_measure r (undecodable bytes) laws reports fits runs told = told
  own_measure r (calls_ended bytes) laws reports fits runs told = told

  -- a stop, with its refusal
  refused : (image : Image) (base : List ℕ) (halt : Halt) → Stops (OwnComesTo own p image base) halt → Stops (OwnMeasures own p) halt
  refused image base (Refused refusal) is = is
  refused image base NoMemory is = tt

  pub own_measure_stop : (image : Image) (error : AnalyseError W) (halt : Halt) → AnalysisLaws (analysis (as_defined own) p) → IsErrorOf (analysis (as_defined own) p) error → Refuses own.word_text error halt → Stops (OwnMeasures own p) halt
  own_measure_stop image error halt laws stops is = refused image [] halt (own_stop own p image [] error halt laws stops is)

  -- there are at most as many blocks as code words
  pub few_blocks : (t : Table X) → AnalysisLaws (analysis (as_defined own) p) → IsOrdered nat_cmp t.blocks → TableFits (analysis (as_defined own) p) (listings own.view t) → btree_map_len t.blocks ≤ length p.addresses
  few_blocks t laws ordered fits =
      few_places p.addresses t.blocks laws.code.ascends ordered (λ a b got. (fits a (listing own.view b) (ap (option_map (listing own.view)) got)).0)
