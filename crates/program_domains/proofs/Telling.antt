-- What elements tell of claims, in each domain.
use Rattle.std.proofs.Common.{◌≡◌, ◌∙◌, ℕ, ◌+◌, Bool, true, false, List, [], length, refl, ap}
use Rattle.std.specs.Prelude.{◌&&◌, ◌||◌, if◌then◌else◌}
use Rattle.base_trait.specs.Algebra.{Algebra}
use Rattle.base_trait.specs.Laws.{Laws}
use Rattle.semantics_values.specs.declared.entry.KeyAt.{KeyAt}
use Rattle.semantics_values.specs.States.{State}
use Rattle.fixpoint_theory.specs.Elements.{Elements}
use Rattle.fixpoint_theory.specs.Pairs.{paired}
use Rattle.domain_laws.specs.declared.field.Field.{Field}
use Rattle.domain_laws.specs.States.{StateType}
use Rattle.domain_laws.specs.Cells.{cells}
use Rattle.domain_affine_laws.specs.Calls.{affine_elements, cell_count}
use Rattle.analysis_query_laws.specs.Affine.{affine_tell}
use Rattle.analysis_query_laws.specs.Answers.{Telling, form_of, told}
use Rattle.analysis_query_laws.specs.Cells.{cells_tell}
use Rattle.analysis_query_laws.specs.Claims.{Claim, differs, never, range, sum}
use Rattle.analysis_query_laws.specs.Laws.{IsClaim, TellTruly}
use Rattle.analysis_query_laws.specs.Pairs.{pairs_tell}
use Rattle.analysis_query_laws.proofs.Cells.{cells_tell_truly}
use Rattle.analysis_query_laws.proofs.Forms.{forms_are_sums}
use Rattle.analysis_query_laws.proofs.Pairs.{pairs_tell_truly}
use Rattle.analysis_query_laws.proofs.Relations.{relations_tell_truly, sums_are_of_members}

-- Elements that are the same tell the same.
pub record TellAlike {E : Type 0} (Same : E → E → Type 0) (K : Telling E) : Type 0 where
  pub ranges : (x y : E) (field : ℕ) (key : KeyAt) (lo hi : ℕ) → Same x y → K.in_range x field key lo hi ≡ K.in_range y field key lo hi
  pub others : (x y : E) (field : ℕ) (key : KeyAt) (v : ℕ) → Same x y → K.excludes x field key v ≡ K.excludes y field key v
  pub sums : (x y : E) (form : List ℕ) → Same x y → length form ≡ length K.tracked + 1 → K.meets x form ≡ K.meets y form

-- What they tell is true of the states of which they hold, and the same of elements that are the same.
pub record Tells {E : Type 0} (fields : List Field) (D : Elements E State) (K : Telling E) : Type 0 where
  pub truly : TellTruly fields D.fits D.holds K
  pub alike : TellAlike D.same K

pub cells_tell_so : {W N C : Type 0} (base : Algebra W N C) → Laws W N C base → (c : C) (cap : ℕ) (fields : List Field) → Tells fields (cells base c cap fields) (cells_tell base c)
cells_tell_so base laws c cap fields = record {
  truly = cells_tell_truly base laws c cap fields;
  alike = record {
    ranges = λ x y field key lo hi same. ap (λ z. (cells_tell base c).in_range z field key lo hi) same;
    others = λ x y field key v same. ap (λ z. (cells_tell base c).excludes z field key v) same;
    sums = λ x y form same long. refl;
  };
}

pub relations_tell_so : (t : StateType) → Tells t.fields (affine_elements t) (affine_tell t)
relations_tell_so t = record {
  truly = relations_tell_truly t;
  alike = record {
    ranges = λ x y field key lo hi same. refl;
    others = λ x y field key v same. refl;
    sums = λ x y form same long. sums_are_of_members (cell_count t) x.rows y.rows form long same;
  };
}

module _ {E F : Type 0} (fields : List Field) (P : Elements E State) (Q : Elements F State) (K : Telling E) (L : Telling F) where
  same_either : (k l a b c d : Bool) → a ≡ b → c ≡ d → ((k && a) || (l && c)) ≡ ((k && b) || (l && d))
  same_either k l a b c d e f = ap (λ z. (k && z) || (l && c)) e ∙ ap (λ z. (k && b) || (l && z)) f

  same_sums : (takes : Bool) (x y : E × F) (form : List ℕ) → (length form ≡ length K.tracked + 1 → K.meets x.0 form ≡ K.meets y.0 form) → (length form ≡ length L.tracked + 1 → L.meets x.1 form ≡ L.meets y.1 form)
      → length form ≡ length (if takes then K.tracked else L.tracked) + 1 → (if takes then K.meets x.0 form else L.meets x.1 form) ≡ (if takes then K.meets y.0 form else L.meets y.1 form)
  same_sums true x y form first second long = first long
  same_sums false x y form first second long = second long

  pub pairs_tell_so : Tells fields P K → Tells fields Q L → Tells fields (paired P Q) (pairs_tell K L)
  pairs_tell_so first second = record {
    truly = pairs_tell_truly P Q fields K L first.truly second.truly;
    alike = record {
      ranges = λ x y field key lo hi same. same_either K.takes_ranges L.takes_ranges _ _ _ _ (first.alike.ranges x.0 y.0 field key lo hi same.0) (second.alike.ranges x.1 y.1 field key lo hi same.1);
      others = λ x y field key v same. same_either K.takes_ranges L.takes_ranges _ _ _ _ (first.alike.others x.0 y.0 field key v same.0) (second.alike.others x.1 y.1 field key v same.1);
      sums = λ x y form same long. same_sums K.takes_sums x y form (first.alike.sums x.0 y.0 form same.0) (second.alike.sums x.1 y.1 form same.1) long;
    };
  }

-- ---- what is told of a claim
module _ {E : Type 0} (Same : E → E → Type 0) (K : Telling E) (alike : TellAlike Same K) (fields : List Field) where
  pub told_alike : (x y : E) (claim : Claim) → Same x y → IsClaim K fields claim → told K x claim ≡ told K y claim
  told_alike x y (range at field key lo hi) same is = ap (λ z. K.takes_ranges && z) (alike.ranges x y field key lo hi same)
  told_alike x y (sum at c parts) same is =
      ap (λ z. K.takes_sums && z) (alike.sums x y (form_of K.tracked c parts) same (forms_are_sums K.tracked c parts (record { pc = 0; parts = [] }) is).0)
  told_alike x y (differs at field key v) same is = ap (λ z. K.takes_ranges && z) (alike.others x y field key v same)
  told_alike x y (never at) same is = refl
