-- Elements that worklist states reach keep what the entry, transfers, joins and widenings keep.
use Rattle.std.proofs.Common.{◌≡◌, ℕ, List, [], ◌∷◌, Some, None, IsTrue, subst}
use Rattle.base_trait.specs.Lists.{Each}
use Rattle.fixpoint_theory.specs.Analysis.{Analysis, AnalysisLaws}
use Rattle.fixpoint_theory.specs.Code.{is_code}
use Rattle.fixpoint_theory.specs.Elements.{Elements, ElementLaws}
use Rattle.fixpoint_theory.specs.Outcome.{IfPost, Outcome, moves, sends, too_many, undecodable}
use Rattle.fixpoint_theory.specs.WorklistState.{IsFine, Reached, begin, worklist_state}
use Rattle.fixpoint_theory.proofs.Closing.{begin_fine, legal_fine}

-- A property of elements that calls of an analysis keep.
pub record AnalysisKeeps {E W S : Type 0} (A : Analysis E W S) (K : E → Type 0) : Type 0 where
  pub entry : K A.entry
  pub join : (x y : E) → K x → K y → K (A.elements.join x y)
  pub widen : (old new : E) → K old → K new → K (A.elements.widen old new)
  pub transfer : (a : ℕ) (x : E) → IsTrue (is_code A.code a) → A.elements.fits x → K x → IfPost K (A.transfer a x)

-- elements that fit, and have a property
abbrev narrowed : {E S : Type 0} → Elements E S → (E → Type 0) → Elements E S
narrowed D K = record D { fits = λ x. D.fits x × K x }

module _ {E W S : Type 0} (A : Analysis E W S) (laws : AnalysisLaws A) (K : E → Type 0) (keeps : AnalysisKeeps A K) where
  narrowed_laws : ElementLaws (narrowed A.elements K)
  narrowed_laws = record {
    join_fits = λ x y h k. (laws.elements.join_fits x y h.0 k.0, keeps.join x y h.1 k.1);
    widen_fits = λ x y h k. (laws.elements.widen_fits x y h.0 k.0, keeps.widen x y h.1 k.1);
    join_absorbs = λ x y h k. laws.elements.join_absorbs x y h.0 k.0;
    widen_absorbs = λ x y h k. laws.elements.widen_absorbs x y h.0 k.0;
    absorbs_itself = λ x h. laws.elements.absorbs_itself x h.0;
    absorbs_on = λ x y z h k l. laws.elements.absorbs_on x y z h.0 k.0 l.0;
    absorbs_holds = λ x y s h k. laws.elements.absorbs_holds x y s h.0 k.0;
    widen_keeps = λ x y h k. laws.elements.widen_keeps x y h.0 k.0;
    widen_falls = λ stamps x y h k. laws.elements.widen_falls stamps x y h.0 k.0;
    rank_height = λ stamps x h. laws.elements.rank_height stamps x h.0;
    join_lists = λ x y h k. laws.elements.join_lists x y h.0 k.0;
    widen_lists = λ x y h k. laws.elements.widen_lists x y h.0 k.0;
    same_itself = laws.elements.same_itself;
    same_back = laws.elements.same_back;
    same_on = laws.elements.same_on;
    same_join = λ x x' y y' hx hx' hy hy'. laws.elements.same_join x x' y y' hx.0 hx'.0 hy.0 hy'.0;
    same_widen = λ x x' y y' hx hx' hy hy'. laws.elements.same_widen x x' y y' hx.0 hx'.0 hy.0 hy'.0;
    same_absorbs = λ x x' y y' hx hx' hy hy'. laws.elements.same_absorbs x x' y y' hx.0 hx'.0 hy.0 hy'.0;
    same_lists = laws.elements.same_lists;
    same_rank = λ stamps x y h k. laws.elements.same_rank stamps x y h.0 k.0;
  }

  abbrev narrow : Analysis E W S
  narrow = record A { elements = narrowed A.elements K }

  both_each : (arrivals : List (ℕ × E)) → Each (λ a. A.elements.fits a.1) arrivals → Each (λ a. K a.1) arrivals → Each (λ a. A.elements.fits a.1 × K a.1) arrivals
  both_each [] h k = tt
  both_each (a ∷ rest) h k = ((h.0, k.0), both_each rest h.1 k.1)

  both_post : (given : Outcome E W) → IfPost A.elements.fits given → IfPost K given → IfPost (λ x. A.elements.fits x × K x) given
  both_post (undecodable word) h k = tt
  both_post (too_many shown uses) h k = tt
  both_post (moves targets None uses) h k = tt
  both_post (moves targets (Some x) uses) h k = (h, k)
  both_post (sends arrivals uses) h k = both_each arrivals h k

  narrow_laws : AnalysisLaws narrow
  narrow_laws = record {
    elements = narrowed_laws;
    code = laws.code;
    entry_fits = (laws.entry_fits, keeps.entry);
    entry_lists = laws.entry_lists;
    transfer_fits = λ a x code h. both_post (A.transfer a x) (laws.transfer_fits a x code h.0) (keeps.transfer a x code h.0 h.1);
    transfer_lists = λ a x code h. laws.transfer_lists a x code h.0;
    transfer_targets = λ a x code h. laws.transfer_targets a x code h.0;
    transfer_uses = λ a x code h. laws.transfer_uses a x code h.0;
    transfer_unstamped = λ a x code h. laws.transfer_unstamped a x code h.0;
    transfer_same = λ a x y code h k. laws.transfer_same a x y code h.0 k.0;
  }

  pub reached_keep : (trace : List ℕ) (a : ℕ) (r : Reached E) → worklist_state A trace a ≡ Some r → IsTrue (is_code A.code a) × A.elements.fits r.elem × K r.elem
  reached_keep trace a r is =
      let fine : IsFine narrow a (Some r) = subst (IsFine narrow a) is (legal_fine narrow narrow_laws (begin narrow) trace (begin_fine narrow narrow_laws) a) in
      (fine.0, fine.1.0.0, fine.1.0.1)
