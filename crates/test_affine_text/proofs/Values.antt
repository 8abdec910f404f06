-- Values that fit: those of the fields of a state, with one changed, and the state of them.
use Rattle.std.proofs.Common.{◌≡◌, ℕ, ◌<◌, List, [], ◌∷◌, Option, Some, None, get_or, length, map, sym, ap, subst, ◌∙◌, arith}
use Rattle.std.specs.Prelude.{All, IsTrue, Result, Ok, Err, IfOk, IsOkAnd, set}
use Rattle.std.proofs.lemmas.List.Elements.{All-cons, All-get_or, All-head, All-nil, All-set, All-tail}
use Rattle.support_modular_rows.specs.Submodule.{Submodule}
use Rattle.spec_ir.specs.Specification.{Spec}
use Rattle.semantics_values.specs.declared.entry.KeyAt.{KeyAt}
use Rattle.abstract_value_laws.specs.Abs.{Abs, cases, made, no_case, parts, present}
use Rattle.abstract_value_laws.specs.Fits.{CaseFits, CasesFit, Fits, PartsFit}
use Rattle.abstract_value_laws.specs.OfValues.{one_case}
use Rattle.domain_laws.specs.declared.field.Field.{Field}
use Rattle.domain_laws.specs.declared.field.Field.TheVariants.{Word as WordField}
use Rattle.domain_laws.specs.States.{StateType}
use Rattle.domain_laws.specs.Values.{AreOf, IsStateValue}
use Rattle.domain_affine_base.specs.Meaning.{affine}
use Rattle.domain_affine_base.specs.declared.word.Word.{Word}
use Rattle.domain_affine_laws.specs.Calls.{affine_calls, cell_count, is_for}
use Rattle.domain_affine_laws.specs.Tracked.{tracked_cells}
use Rattle.domain_affine.specs.Instance.{has_the_laws}
use Rattle.abstract_value.specs.View.{abs, case_of, cases_of}
use Rattle.abstract_value.specs.declared.constructors.Constructors.{Constructors}
use Rattle.abstract_value.specs.declared.value.AbstractValue.{AbstractValue, Data}
use Rattle.abstract_value.proofs.Views.{abs_Data}
use Rattle.test_affine_text.proofs.Fields.{form_of}

-- an opened value fits
pub opened_fits : (t : StateType) (spec : Spec) (ctx : List (ℕ × KeyAt)) (x : Submodule) (v : Abs Word (Unit {0}))
    → IsTrue (is_for t spec) → ctx ≡ tracked_cells t → x.k ≡ cell_count t → v ≡ (affine_calls t).opened 4096 x → Fits affine ctx 256 v
opened_fits t spec ctx x v is_made tracked fits is =
    subst (λ z. Fits affine ctx 256 z) (sym is) (subst (λ cs. Fits affine cs 256 ((affine_calls t).opened 4096 x)) (sym tracked)
    ((has_the_laws t spec is_made).open_fits 4096 x (omega arith) fits).1)

-- an item does where all do
pub item_fits : {A : Type 0} (P : A → Type 0) (xs : List A) (i : ℕ) (x : A) → i < length xs → x ≡ get_or xs i x → All P xs → P x
item_fits P xs i x within is all = subst P (sym is) (All-get_or P xs i x within all)

-- all items do, with one that does in the place of another
pub all_with : {A E : Type 0} (P : A → Type 0) (xs ys : List A) (change : Result (ℕ × A) E) → IfOk change (λ c. P c.1) → IsOkAnd change (λ c. ys ≡ set xs c.0 c.1) → All P xs → All P ys
all_with P xs ys (Ok c) fits is all = subst (All P) (sym is) (All-set P xs c.0 c.1 fits all)
all_with P xs ys (Err e) fits is all = absurd is

module _ {X K : Type 0} (ctx : List (ℕ × KeyAt)) where
  parts_fit : (xs : List (AbstractValue X Word (Unit {0}) K)) → All (λ v. Fits affine ctx 256 (abs v)) xs → PartsFit affine ctx 256 (parts (map abs xs))
  parts_fit [] h = tt
  parts_fit (x ∷ xs) h = (All-head (λ v. Fits affine ctx 256 (abs v)) x xs h, parts_fit xs (All-tail (λ v. Fits affine ctx 256 (abs v)) x xs h))

  -- those of fitting parts fit
  pub all_fit : (xs : List (AbstractValue X Word (Unit {0}) K)) → PartsFit affine ctx 256 (parts (map abs xs)) → All (λ v. Fits affine ctx 256 (abs v)) xs
  all_fit [] h = All-nil (λ v. Fits affine ctx 256 (abs v))
  all_fit (x ∷ xs) h = All-cons (λ v. Fits affine ctx 256 (abs v)) x xs h.0 (all_fit xs h.1)

  -- those of a constructor that is present fit
  pub first_fit : (cs : List (Option (List (AbstractValue X Word (Unit {0}) K)))) (f : List (AbstractValue X Word (Unit {0}) K)) → get_or cs 0 None ≡ Some f → CasesFit affine ctx 256 (cases (map case_of cs)) → PartsFit affine ctx 256 (parts (map abs f))
  first_fit [] f is h = absurd cc
  first_fit (None ∷ cs) f is h = absurd cc
  first_fit (Some g ∷ cs) f is h = subst (λ o. CaseFits affine ctx 256 (case_of o)) is h.0

  -- and so do the constructors of a value
  pub constructors_fit : (v : AbstractValue X Word (Unit {0}) K) (n : ℕ) (cs : Constructors (AbstractValue X Word (Unit {0}) K)) → v ≡ Data n cs → Fits affine ctx 256 (abs v) → CasesFit affine ctx 256 (cases_of cs)
  constructors_fit v n cs is h = subst (λ z. Fits affine ctx 256 z) (ap abs is ∙ abs_Data n cs) h

  -- a copy of one of fitting parts fits
  pub copy_fits : (xs : List (AbstractValue X Word (Unit {0}) K)) (i : ℕ) (x y : AbstractValue X Word (Unit {0}) K) → i < length xs → x ≡ get_or xs i x → abs y ≡ abs x → PartsFit affine ctx 256 (parts (map abs xs)) → Fits affine ctx 256 (abs y)
  copy_fits xs i x y within is same h = subst (λ z. Fits affine ctx 256 z) (sym same) (item_fits (λ v. Fits affine ctx 256 (abs v)) xs i x within is (all_fit xs h))

  -- the state of values of its fields
  pub state_is : (t : StateType) (n : ℕ) (cs : Constructors (AbstractValue X Word (Unit {0}) K)) (fields : List Field) (values : List (AbstractValue X Word (Unit {0}) K))
      → n ≡ t.number → cases_of cs ≡ one_case 1 0 (parts (map abs values)) → fields ≡ WordField 32 ∷ t.fields → AreOf fields (parts (map abs values))
      → All (λ v. Fits affine ctx 256 (abs v)) values → IsStateValue affine ctx 256 t (abs (Data n cs))
  state_is t n cs fields values number one all are fit =
      let xs = parts (map abs values) in
      subst (λ z. IsStateValue affine ctx 256 t z) (sym (abs_Data n cs ∙ ap (λ l. made n l) one ∙ ap (λ m. made m (present xs no_case)) number))
      (form_of t xs (subst (λ fs. AreOf fs xs) all are), (parts_fit values fit, tt))
