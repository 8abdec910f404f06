-- An analysis whose tables are left open keeps the laws.
use Rattle.std.specs.Prelude.{◌≡◌, ℕ, List, [], ◌∷◌, IsTrue, refl, if◌then◌else◌}
use Rattle.base_trait.specs.Uses.{Seen}
use Rattle.fixpoint_theory.specs.Analysis.{Analysis, AnalysisLaws}
use Rattle.fixpoint_theory.specs.Code.{is_code}
use Rattle.fixpoint_theory.specs.Elements.{Elements}
use Rattle.fixpoint_theory.specs.Outcome.{AreOfStamps, HasTargets, IfPost, IfUses, Outcome, SameOutcome, moves, sends, too_many, undecodable}
use Rattle.fixpoint_theory.specs.Runs.{Describes, IsSound, Machine, deep, left, stops}
use Rattle.base_trait.specs.declared.uses.Stamp.TheVariants.{At}
use Rattle.std.proofs.Common.{ap, subst, sym}
use Rattle.fixpoint_open_tables.specs.LeftOpen.{halted, left_open, opened}

module _ {E W : Type 0} where
  pub opened_post : (P : E → Type 0) (o : Outcome E W) → IfPost P o → IfPost P (opened o)
  opened_post P (undecodable word) h = tt
  opened_post P (too_many shown uses) h = tt
  opened_post P (moves targets post uses) h = h
  opened_post P (sends arrivals uses) h = h

  pub opened_targets : (o : Outcome E W) → HasTargets o → HasTargets (opened o)
  opened_targets (undecodable word) h = refl
  opened_targets (too_many shown uses) h = refl
  opened_targets (moves targets post uses) h = h
  opened_targets (sends arrivals uses) h = h

  pub opened_uses : (P : List Seen → Type 0) (o : Outcome E W) → P [] → IfUses P o → IfUses P (opened o)
  opened_uses P (undecodable word) none h = none
  opened_uses P (too_many shown uses) none h = h
  opened_uses P (moves targets post uses) none h = h
  opened_uses P (sends arrivals uses) none h = h

  pub opened_same : {S : Type 0} (D : Elements E S) (x y : Outcome E W) → SameOutcome D x y → SameOutcome D (opened x) (opened y)
  opened_same D (undecodable v) (undecodable w) same = (refl, tt, refl)
  opened_same D (undecodable v) (too_many y us') same = absurd same
  opened_same D (undecodable v) (moves ts' y us') same = absurd same
  opened_same D (too_many x us) (undecodable w) same = absurd same
  opened_same D (too_many x us) (too_many y us') same = (refl, tt, same.1)
  opened_same D (too_many x us) (moves ts' y us') same = absurd same
  opened_same D (moves ts x us) (undecodable w) same = absurd same
  opened_same D (moves ts x us) (too_many y us') same = absurd same
  opened_same D (moves ts x us) (moves ts' y us') same = same
  opened_same D (undecodable v) (sends ys us') same = absurd same
  opened_same D (too_many x us) (sends ys us') same = absurd same
  opened_same D (moves ts x us) (sends ys us') same = absurd same
  opened_same D (sends xs us) (undecodable w) same = absurd same
  opened_same D (sends xs us) (too_many y us') same = absurd same
  opened_same D (sends xs us) (moves ts' y us') same = absurd same
  opened_same D (sends xs us) (sends ys us') same = same

-- Of a step without a turn left nothing is said.
pub deep_described : {E W S : Type 0} (A : Analysis E W S) (M : Machine S) (o : Outcome E W) → Describes A M o (stops deep)
deep_described A M (undecodable word) = tt
deep_described A M (too_many shown uses) = tt
deep_described A M (moves targets post uses) = tt
deep_described A M (sends arrivals uses) = tt

module _ {E W S : Type 0} (A : Analysis E W S) where
  -- What is left open keeps the laws.
  pub left_open_laws : AnalysisLaws A → AnalysisLaws (left_open A)
  left_open_laws laws = record {
    elements = laws.elements;
    code = laws.code;
    entry_fits = laws.entry_fits;
    entry_lists = laws.entry_lists;
    transfer_fits = λ a x code fits. opened_post A.elements.fits (A.transfer a x) (laws.transfer_fits a x code fits);
    transfer_lists = λ a x code fits. opened_post _ (A.transfer a x) (laws.transfer_lists a x code fits);
    transfer_targets = λ a x code fits. opened_targets (A.transfer a x) (laws.transfer_targets a x code fits);
    transfer_uses = λ a x code fits. opened_uses (AreOfStamps (At a ∷ A.elements.listed x)) (A.transfer a x) tt (laws.transfer_uses a x code fits);
    transfer_unstamped = λ a x code fits none. opened_uses (λ uses. uses ≡ []) (A.transfer a x) refl (laws.transfer_unstamped a x code fits none);
    transfer_same = λ a x y code fx fy same. opened_same A.elements (A.transfer a x) (A.transfer a y) (laws.transfer_same a x y code fx fy same);
  }

  -- A machine that makes no step is described by each analysis with its entry.
  pub halted_sound : (M : Machine S) → IsSound A M → IsSound (left_open A) (halted A M)
  halted_sound M sound = record {
    entry = sound.entry;
    transfer = λ d x s fits code holds. inside d x s code;
    leaves = λ d s out. ap (λ b. stops (if b then deep else left)) out;
  }
    where
      inside : (d : ℕ) (x : E) (s : S) → IsTrue (is_code A.code (M.counter s)) → Describes (left_open A) (halted A M) (opened (A.transfer (M.counter s) x)) ((halted A M).step d s)
      inside d x s code = subst (λ b. Describes (left_open A) (halted A M) (opened (A.transfer (M.counter s) x)) (stops (if b then deep else left))) (sym code)
          (deep_described (left_open A) (halted A M) (opened (A.transfer (M.counter s) x)))
