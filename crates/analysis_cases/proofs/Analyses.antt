-- Analyses of problems by cases.
use Rattle.std.proofs.Common.{◌≡◌, ℕ, zero, suc, List, [], ◌∷◌, Option, None, Some, map, IsTrue, ap, ap₂, refl}
use Rattle.base_trait.specs.Algebra.{Algebra}
use Rattle.base_trait.specs.Laws.{Laws}
use Rattle.base_trait.specs.Lists.{Each}
use Rattle.spec_ir.specs.Specification.{Spec}
use Rattle.semantics_values.specs.States.{State}
use Rattle.abstract_value_laws.specs.Abs.{Abs}
use Rattle.abstract_semantics.specs.Answers.{Answer}
use Rattle.fixpoint_theory.specs.Code.{is_code}
use Rattle.fixpoint_theory.specs.Elements.{Elements}
use Rattle.fixpoint_theory.proofs.Soundness.{closed_tables_are_sound}
use Rattle.domain_laws.specs.Domain.{Meaning}
use Rattle.domain_laws.specs.States.{IsState, state_type}
use Rattle.analysis_transfer_laws.specs.Analysis.{AreReinterpreted, analysis_of, machine_of, of_states}
use Rattle.analysis_transfer_laws.specs.Laws.{IsAnalysed}
use Rattle.analysis_transfer_laws.specs.Problem.{Problem}
use Rattle.analysis_transfer_laws.specs.Transfer.{transfer_of}
use Rattle.analysis_transfer_laws.specs.Uses.{merged_uses}
use Rattle.analysis_transfer_laws.proofs.Alone.{transfers_are_one}
use Rattle.analysis_transfer_laws.proofs.Keeping.{transfers_keep_the_laws}
use Rattle.analysis_transfer_laws.proofs.Merging.{merged_keep, merged_within}
use Rattle.analysis_transfer_laws.proofs.OpenRuns.{open_true_of_runs}
use Rattle.analysis_transfer_laws.proofs.Runs.{true_of_runs}
use Rattle.analysis_transfer_laws.proofs.Sound.{transfers_are_sound}
use Rattle.fixpoint_cases.specs.ByCases.{MergeLaws, case_transfer}
use Rattle.fixpoint_cases.specs.Cases.{IsSplit, Split, cases}
use Rattle.fixpoint_cases.specs.Laws.{IsOfElement}
use Rattle.fixpoint_cases.specs.Same.{AreSame, AreSameSplits, SplitsAlike}
use Rattle.fixpoint_cases.specs.Sent.{merged, sent_by_cases, unless_many, where_split}
use Rattle.fixpoint_cases.proofs.ByCases.{keep_the_laws_by_cases, sound_by_cases}
use Rattle.fixpoint_cases.proofs.Covering.{cases_fit}
use Rattle.fixpoint_cases.proofs.Lists.{one_map}
use Rattle.analysis_cases.specs.Analysis.{case_analysis_of}
use Rattle.analysis_cases.proofs.Decoding.{cases_bare}
use Rattle.analysis_cases.specs.Laws.{CaseAnalysesAreSound, CaseAnalysesKeepTheLaws, CaseTransfersAreOne, ClosedByCasesAreTrue, OpenByCasesAreTrue}

-- a state that has its type still has it in the piece
pub split_of_states : {E : Type 0} (spec : Spec) (D : Elements E State) (split : Split E) → IsSplit D split → IsSplit (of_states spec D) split
split_of_states spec D split is = record {
  pieces_fit = is.pieces_fit;
  pieces_list = is.pieces_list;
  pieces_cover = λ at x pieces s fits holds e. one_map (λ y. D.holds y s) (λ y. IsState spec s × D.holds y s) pieces (λ y h. (holds.0, h)) (is.pieces_cover at x pieces s fits holds.1 e);
}

-- elements that are the same are split alike, among those for states that have their type
same_of_states : {E : Type 0} (spec : Spec) (D : Elements E State) (xs ys : List E) → AreSame D xs ys → AreSame (of_states spec D) xs ys
same_of_states spec D [] [] h = tt
same_of_states spec D [] (y ∷ ys) h = absurd h
same_of_states spec D (x ∷ xs) [] h = absurd h
same_of_states spec D (x ∷ xs) (y ∷ ys) h = (h.0, same_of_states spec D xs ys h.1)

pub same_splits_of_states : {E : Type 0} (spec : Spec) (D : Elements E State) (o p : Option (List E)) → AreSameSplits D o p → AreSameSplits (of_states spec D) o p
same_splits_of_states spec D None None h = tt
same_splits_of_states spec D None (Some ys) h = absurd h
same_splits_of_states spec D (Some xs) None h = absurd h
same_splits_of_states spec D (Some xs) (Some ys) h = same_of_states spec D xs ys h

pub alike_of_states : {E : Type 0} (spec : Spec) (D : Elements E State) (split : Split E) → SplitsAlike D split → SplitsAlike (of_states spec D) split
alike_of_states spec D split alike at x y fx fy same = same_splits_of_states spec D (split at x) (split at y) (alike at x y fx fy same)

-- merged uses say what the uses do
pub uses_merge : (p : Problem) → MergeLaws (merged_uses (state_type p.spec).fields)
uses_merge p = record {
  none = refl;
  covers = λ uses r h. merged_keep (state_type p.spec).fields uses r h;
  stamps = λ stamps uses h. merged_within stamps (state_type p.spec).fields uses h;
}

module _ {E W N C : Type 0} (B : Algebra W N C) (laws : Laws W N C B) (cap : ℕ) (D : Elements E State) (M : Meaning E W N C) where
  pub case_analyses_keep_the_laws : CaseAnalysesKeepTheLaws B cap D M
  case_analyses_keep_the_laws p calls split depth h is alike =
      keep_the_laws_by_cases (analysis_of B cap D M p calls) split (merged_uses (state_type p.spec).fields) depth (transfers_keep_the_laws B laws cap D M p calls h) (split_of_states p.spec D split is) (alike_of_states p.spec D split alike) (uses_merge p)

  pub case_analyses_are_sound : CaseAnalysesAreSound B cap D M
  case_analyses_are_sound p calls split depth h is =
      sound_by_cases (analysis_of B cap D M p calls) (machine_of p) split (merged_uses (state_type p.spec).fields) depth (transfers_keep_the_laws B laws cap D M p calls h) (split_of_states p.spec D split is)
      (uses_merge p) (transfers_are_sound B laws cap D M p calls h)

  pub closed_by_cases_are_true : ClosedByCasesAreTrue B cap D M
  closed_by_cases_are_true p calls split depth t h is alike fits closed =
      let A = case_analysis_of B cap D M p calls split depth in
      true_of_runs B laws cap D M p calls A.transfer t
      (closed_tables_are_sound A (machine_of p) (case_analyses_keep_the_laws p calls split depth h is alike) (case_analyses_are_sound p calls split depth h is) t fits closed)
      closed.tells

  outcomes_same : (p : Problem) (calls others : ℕ → ℕ → List (Abs W N) → Answer (Abs W N)) (a : ℕ) (x : E) → IsAnalysed B cap D M p calls → AreReinterpreted B cap D M p others → IsTrue (is_code p.addresses a)
      → (leaves : List E) → Each (IsOfElement D x) leaves → map (transfer_of B cap M p calls a) leaves ≡ map (transfer_of B cap M p others a) leaves
  outcomes_same p calls others a x h also code [] of = refl
  outcomes_same p calls others a x h also code (leaf ∷ leaves) of =
      ap₂ (λ o os. o ∷ os) (transfers_are_one B laws cap D M p calls others a leaf h also code of.0.fits) (outcomes_same p calls others a x h also code leaves of.1)

  pub case_transfers_are_one : CaseTransfersAreOne B cap D M
  case_transfers_are_one p calls others split zero a x h also is code fits = transfers_are_one B laws cap D M p calls others a x h also code fits
  case_transfers_are_one p calls others split (suc more) a x h also is code fits =
      ap₂ (λ whole outcomes. where_split whole (split a x) (unless_many whole (merged (merged_uses (state_type p.spec).fields) (sent_by_cases (of_states p.spec D) outcomes))))
      (transfers_are_one B laws cap D M p calls others a x h also code fits)
      (outcomes_same p calls others a x h also code (cases split (suc more) a x) (cases_fit D split is (suc more) a x fits))

  pub open_by_cases_are_true : OpenByCasesAreTrue B cap D M
  open_by_cases_are_true p calls split depth t ends h closed sound =
      let merge = merged_uses (state_type p.spec).fields in
      open_true_of_runs B laws cap D M p calls h (λ a x. case_transfer (analysis_of B cap D M p calls) split merge depth a x) (cases_bare (analysis_of B cap D M p calls) split merge depth) t ends closed sound
