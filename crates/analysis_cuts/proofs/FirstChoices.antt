-- Splits by the first choice that narrows an element, up to how elements are written.
use Rattle.std.proofs.Common.{◌≡◌, ◌∙◌, ℕ, suc, ◌+◌, ◌<◌, Bool, true, false, List, [], ◌∷◌, length, get_or, drop, Option, None, Some, is_some, ap, ap₂, refl, sym, subst, drop-cons, add-one}
use Rattle.std.specs.Prelude.{not, if◌then◌else◌, option_map, IfOk, Result, Ok, Err}
use Rattle.base_trait.specs.Lists.{Each}
use Rattle.spec_ir.specs.Specification.{Spec}
use Rattle.semantics_values.specs.States.{State}
use Rattle.fixpoint_theory.specs.Elements.{ElementLaws, Elements}
use Rattle.fixpoint_cases.specs.Narrowing.{first_narrowing, narrows, none_absorbs}
use Rattle.fixpoint_cases.specs.Pieces.{Piece, PieceLaws, pieces, stretches}
use Rattle.fixpoint_cases.specs.Same.{AreSame, AreSameSplits}
use Rattle.fixpoint_cases.proofs.Pieces.{each_piece}
use Rattle.fixpoint_cases.proofs.SamePieces.{absorb_alike}
use Rattle.analysis_transfer_laws.specs.Analysis.{of_states}
use Rattle.analysis_cases.proofs.Analyses.{same_splits_of_states}
use Rattle.analysis_cuts.specs.Pieces.{narrower}

-- the items from a place on
pub next_item : {A : Type 0} (xs : List A) (i : ℕ) (x : A) → i < length xs → x ≡ get_or xs i x → drop i xs ≡ x ∷ drop (i + 1) xs
next_item xs i x lt is = drop-cons xs i x lt ∙ ap₂ (λ y n. y ∷ drop n xs) (sym is) (sym (add-one i))

module _ {Cell E S : Type 0} (D : Elements E S) (piece : Piece Cell E) (x : E) where
  abbrev cut : Cell × List ℕ → List E
  cut c = pieces piece c.0 c.1 x

  -- the pieces by a choice, where it narrows
  abbrev if_narrow : Cell × List ℕ → Bool → Option (List E)
  if_narrow c b = if b then Some (cut c) else None

  -- of pieces that are the same, one absorbs the element or none does
  module _ (laws : ElementLaws D) (number : Cell → S → ℕ) (cuts : PieceLaws D number piece) (fx : D.fits x) (c : Cell × List ℕ) (xs : List E) (fits : Each D.fits xs) (same : AreSame D xs (cut c)) where
    as_told : narrows D piece c x ≡ none_absorbs D piece xs x
    as_told = sym (absorb_alike D laws piece xs (cut c) x x fits (each_piece D number piece cuts D.fits c.0 x (stretches 0 c.1) (λ low high. cuts.piece_fits c.0 low high x fx)) fx fx same (laws.same_itself x))

    pub narrower_none : none_absorbs D piece xs x ≡ false → AreSameSplits D None (narrower D piece c x)
    narrower_none e = subst (λ b. AreSameSplits D None (if_narrow c b)) (sym (as_told ∙ e)) tt

    pub narrower_some : none_absorbs D piece xs x ≡ true → AreSameSplits D (Some xs) (narrower D piece c x)
    narrower_some e = subst (λ b. AreSameSplits D (Some xs) (if_narrow c b)) (sym (as_told ∙ e)) same

  -- ---- the first
  abbrev pub by_first : List (Cell × List ℕ) → Option (List E)
  by_first cs = option_map cut (first_narrowing D piece cs x)

  by_test : (b : Bool) (P : Bool → Type 0) → (b ≡ true → P true) → (b ≡ false → P false) → P b
  by_test true P f g = f refl
  by_test false P f g = g refl

  pub first_here : (c : Cell × List ℕ) (cs : List (Cell × List ℕ)) (xs : List E) → AreSameSplits D (Some xs) (narrower D piece c x) → AreSameSplits D (Some xs) (by_first (c ∷ cs))
  first_here c cs xs h =
      by_test (narrows D piece c x) (λ b. AreSameSplits D (Some xs) (if_narrow c b) → AreSameSplits D (Some xs) (option_map cut (if b then Some c else first_narrowing D piece cs x)))
      (λ e k. k) (λ e k. absurd k) h

  pub first_later : (c : Cell × List ℕ) (cs : List (Cell × List ℕ)) → AreSameSplits D None (narrower D piece c x) → by_first (c ∷ cs) ≡ by_first cs
  first_later c cs h =
      by_test (narrows D piece c x) (λ b. AreSameSplits D None (if_narrow c b) → option_map cut (if b then Some c else first_narrowing D piece cs x) ≡ by_first cs)
      (λ e k. absurd k) (λ e k. refl) h

  -- as they are told
  pub told_here : {V : Type 0} (view : V → List E) (o : Option V) (c : Cell × List ℕ) (cs : List (Cell × List ℕ)) → is_some o ≡ true → AreSameSplits D (option_map view o) (narrower D piece c x)
      → AreSameSplits D (option_map view o) (by_first (c ∷ cs))
  told_here view None c cs e h = absurd cc
  told_here view (Some v) c cs e h = first_here c cs (view v) h

  pub told_later : {V : Type 0} (view : V → List E) (o : Option V) (c : Cell × List ℕ) (cs : List (Cell × List ℕ)) → is_some o ≡ false → AreSameSplits D (option_map view o) (narrower D piece c x)
      → by_first (c ∷ cs) ≡ by_first cs
  told_later view None c cs e h = first_later c cs h
  told_later view (Some v) c cs e h = absurd cc

-- among elements for states that have their type
pub told_of_states : {V E F : Type 0} (spec : Spec) (D : Elements E State) (view : V → List E) (r : Result (Option V) F) (o p : Option (List E)) → o ≡ p → IfOk r (λ v. AreSameSplits D (option_map view v) o)
    → IfOk r (λ v. AreSameSplits (of_states spec D) (option_map view v) p)
told_of_states spec D view (Ok v) o p e h = same_splits_of_states spec D (option_map view v) p (subst (AreSameSplits D (option_map view v)) e h)
told_of_states spec D view (Err error) o p e h = tt
