-- What pairs tell is true, where what their parts tell is.
use Rattle.std.proofs.Common.{◌≡◌, ℕ, ◌+◌, ◌≤◌, Bool, true, false, List, ◌∷◌, length, IsTrue, ◌⊎◌, inl, inr, refl, sym}
use Rattle.std.specs.Prelude.{◌≢◌, ◌&&◌, if◌then◌else◌}
use Rattle.base_trait.proofs.Tests.{and_parts, or_sorted}
use Rattle.support_modular_rows.specs.Submodule.{Congruent, dot}
use Rattle.semantics_values.specs.declared.entry.GivenNumber.TheVariants.{One, Range}
use Rattle.semantics_values.specs.declared.entry.KeyAt.{KeyAt}
use Rattle.semantics_values.specs.States.{State}
use Rattle.fixpoint_theory.specs.Elements.{Elements}
use Rattle.domain_laws.specs.declared.field.Field.{Field}
use Rattle.domain_affine_element_laws.specs.Tracked.{number_at, valuation_of}
use Rattle.analysis_query_laws.specs.Answers.{Telling}
use Rattle.analysis_query_laws.specs.Laws.{IsOfCell, PairsTellTruly, TellTruly}
use Rattle.analysis_query_laws.specs.Pairs.{pairs_tell}

module _ {E F : Type 0} (fields : List Field) (fits_one : E → Type 0) (holds_one : E → State → Type 0) (fits_two : F → Type 0) (holds_two : F → State → Type 0) (K : Telling E) (L : Telling F)
    (first : TellTruly fields fits_one holds_one K) (second : TellTruly fields fits_two holds_two L) where
  either_range : (x : E × F) (s : State) (field : ℕ) (key : KeyAt) (lo hi : ℕ) → fits_one x.0 × fits_two x.1 → holds_one x.0 s × holds_two x.1 s → IsOfCell fields field key (Range lo hi)
      → IsTrue (K.takes_ranges && K.in_range x.0 field key lo hi) ⊎ IsTrue (L.takes_ranges && L.in_range x.1 field key lo hi) → (lo ≤ number_at s (field, key)) × (number_at s (field, key) ≤ hi)
  either_range x s field key lo hi fits holds range (inl h) =
      let parts = and_parts K.takes_ranges (K.in_range x.0 field key lo hi) h in
      first.ranges x.0 s field key lo hi parts.0 fits.0 holds.0 range parts.1
  either_range x s field key lo hi fits holds range (inr h) =
      let parts = and_parts L.takes_ranges (L.in_range x.1 field key lo hi) h in
      second.ranges x.1 s field key lo hi parts.0 fits.1 holds.1 range parts.1

  either_other : (x : E × F) (s : State) (field : ℕ) (key : KeyAt) (v : ℕ) → fits_one x.0 × fits_two x.1 → holds_one x.0 s × holds_two x.1 s → IsOfCell fields field key (One v)
      → IsTrue (K.takes_ranges && K.excludes x.0 field key v) ⊎ IsTrue (L.takes_ranges && L.excludes x.1 field key v) → number_at s (field, key) ≢ v
  either_other x s field key v fits holds place (inl h) =
      let parts = and_parts K.takes_ranges (K.excludes x.0 field key v) h in
      first.others x.0 s field key v parts.0 fits.0 holds.0 place parts.1
  either_other x s field key v fits holds place (inr h) =
      let parts = and_parts L.takes_ranges (L.excludes x.1 field key v) h in
      second.others x.1 s field key v parts.0 fits.1 holds.1 place parts.1

  -- of sums it is the first part that tells
  by_part : (b : Bool) → b ≡ K.takes_sums → (x : E × F) (s : State) (form : List ℕ) → IsTrue K.takes_sums ⊎ IsTrue L.takes_sums → fits_one x.0 × fits_two x.1 → holds_one x.0 s × holds_two x.1 s
      → length form ≡ length (if b then K.tracked else L.tracked) + 1 → IsTrue (if b then K.meets x.0 form else L.meets x.1 form) → Congruent (dot form (1 ∷ valuation_of (if b then K.tracked else L.tracked) s)) 0
  by_part true is x s form takes fits holds len h = first.sums x.0 s form (sym is) fits.0 holds.0 len h
  by_part false is x s form (inl takes) fits holds len h = cc
  by_part false is x s form (inr takes) fits holds len h = second.sums x.1 s form takes fits.1 holds.1 len h

  pub both_truly : TellTruly fields (λ (x : E × F). fits_one x.0 × fits_two x.1) (λ x s. holds_one x.0 s × holds_two x.1 s) (pairs_tell K L)
  both_truly = record {
    ranges = λ x s field key lo hi takes fits holds range h.
        either_range x s field key lo hi fits holds range (or_sorted (K.takes_ranges && K.in_range x.0 field key lo hi) (L.takes_ranges && L.in_range x.1 field key lo hi) h);
    others = λ x s field key v takes fits holds place h.
        either_other x s field key v fits holds place (or_sorted (K.takes_ranges && K.excludes x.0 field key v) (L.takes_ranges && L.excludes x.1 field key v) h);
    sums = λ x s form takes fits holds len h. by_part K.takes_sums refl x s form (or_sorted K.takes_sums L.takes_sums takes) fits holds len h;
  }

pub pairs_tell_truly : {E F : Type 0} (P : Elements E State) (Q : Elements F State) → PairsTellTruly P Q
pairs_tell_truly P Q fields K L first second = both_truly fields P.fits P.holds Q.fits Q.holds K L first second
