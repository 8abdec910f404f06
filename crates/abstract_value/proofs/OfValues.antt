-- Parts of the value of a concrete one, as the code makes them.
use Rattle.std.proofs.Common.{◌≡◌, Bool, ℕ, zero, suc, ◌+◌, ◌-◌, ◌<◌, ◌^◌, min, Option, Some, None, Vec, Global, List, [], ◌∷◌, ◌++◌, map, take, drop, get_or, length, replicate, Result, Ok, Err, refl, sym, ap, subst, ◌∙◌, arith}
use Rattle.std.specs.Prelude.{IfOk, IsOkAnd, slice_get}
use Rattle.std.specs.List.{sum_by}
use Rattle.std.proofs.lemmas.List.Sums.{sum_by-cons}
use Rattle.base_trait.specs.Algebra.{Algebra}
use Rattle.base_trait.specs.Laws.{Laws}
use Rattle.base_trait.specs.Lists.{Each, IsAscending}
use Rattle.abstract_map_laws.specs.declared.cell.AbstractCell.{AbstractCell}
use Rattle.abstract_map_laws.specs.Maps.{Fits, Map as Map_of}
use Rattle.spec_ir.specs.Environment.{Environment}
use Rattle.semantics_values.specs.declared.value.Cell.{Cell as ConcreteCell}
use Rattle.semantics_values.specs.declared.value.Value.{Value, Flag, Made, Map, Word, fold-roll-Value}
use Rattle.semantics_values.specs.declared.value.Value.TheOpen.{Value-F}
use Rattle.semantics_values.specs.declared.value.Value.TheVariants.{rolls-Flag, rolls-Made, rolls-Map, rolls-Word}
use Rattle.semantics_values.specs.declared.value.MapValue.{MapValue}
use Rattle.semantics_values.specs.Values as v
use Rattle.semantics_values.specs.Values.{Val}
use Rattle.semantics_values.specs.Views.{val, val_step}
use Rattle.abstract_value_laws.specs.Abs.{Parts, absent, cases, map as map_abs, no_case, part, parts, parts_onto, present, word}
use Rattle.abstract_value_laws.specs.OfValues.{MapFits, ValueFits, ValuesFit, absent_onto, case_count, cell_of, cells_of, map_at, of_value, of_values, one_case}
use Rattle.abstract_value_laws.specs.TypeShapes.{width_of}
use Rattle.abstract_value_laws.proofs.Concrete.{before, same_keys}
use Rattle.abstract_map.specs.Unfolded.{FitsUnfolded}
use Rattle.abstract_value.specs.View.{abs, case_of}
use Rattle.abstract_value.specs.declared.value.AbstractValue as a
use Rattle.abstract_value.specs.declared.value.AbstractValue.{AbstractValue}
use Rattle.abstract_value.proofs.Views.{abs_Map, abs_Word}
use Rattle.word_operations.specs.Width.{IsWidth}
use Rattle.abstract_value.proofs.Merging.{map_push, parts_onto_more}
use Rattle.spec_match_compiler.proofs.Loops.{drop_here}

-- ---- the view of a constructor value
pub val_Made : (ty k : ℕ) (ps : Vec Value Global) → val (Made ty k ps) ≡ v.made ty k (v.vals (map val ps.items))
val_Made ty k ps = ap val (sym (rolls-Made ty k ps)) ∙ fold-roll-Value Val val_step (Value-F.Made ty k ps)

-- ---- the value of a flag, a word and a map
pub val_Flag : (b : Bool) → val (Flag b) ≡ v.flag b
val_Flag b = ap val (sym (rolls-Flag b)) ∙ fold-roll-Value Val val_step (Value-F.Flag b)

val_Word : (w n : ℕ) → val (Word w n) ≡ v.word w n
val_Word w n = ap val (sym (rolls-Word w n)) ∙ fold-roll-Value Val val_step (Value-F.Word w n)

val_Map : (m : MapValue) → val (Map m) ≡ v.map m.map m.rest m.cells.items
val_Map m = ap val (sym (rolls-Map m)) ∙ fold-roll-Value Val val_step (Value-F.Map m)

module _ (env : Environment) where
  pub word_fits_of : (x : Value) (w n : ℕ) → x ≡ Word w n → ValueFits env (val x) → IsWidth w × (n < 2 ^ w)
  word_fits_of x w n e h = subst (λ z. ValueFits env z) (ap val e ∙ val_Word w n) h

  pub map_fits_of : (x : Value) (m : MapValue) (w : ℕ) → x ≡ Map m → w ≡ width_of (slice_get env.maps m.map) → ValueFits env (val x) → MapFits w m.rest m.cells.items
  map_fits_of x m w e d h = subst (λ k. MapFits k m.rest m.cells.items) (sym d) (subst (λ z. ValueFits env z) (ap val e ∙ val_Map m) h)

  pub made_fits_of : (x : Value) (t k n : ℕ) (ps : Vec Value Global) → x ≡ Made t k ps → n ≡ case_count env t → ValueFits env (val x) → k < n
  made_fits_of x t k n ps e d h = subst (λ m. k < m) (sym d) (subst (λ z. ValueFits env z) (ap val e ∙ val_Made t k ps) h).0

  module _ {W N C : Type 0} (B : Algebra W N C) (c : C) (cap : ℕ) where
    pub word_is : (X : Type 0) (x : Value) (w n : ℕ) (r : W) → x ≡ Word w n → r ≡ B.words.constant c w n → abs {X = X} {W = W} {N = N} {C = C} (a.Word w r) ≡ of_value B c cap env (val x)
    word_is X x w n r e h = abs_Word X N C w r ∙ ap (λ k. word w k) h ∙ ap (λ z. of_value B c cap env z) (sym (ap val e ∙ val_Word w n))

    pub map_is : (X : Type 0) (x : Value) (m : MapValue) (w : ℕ) (r : Map_of W N) → x ≡ Map m → w ≡ width_of (slice_get env.maps m.map) → r ≡ map_at B c cap w m.rest m.cells.items → abs {X = X} {W = W} {N = N} {C = C} (a.Map m.map r) ≡ of_value B c cap env (val x)
    map_is X x m w r e d h =
        abs_Map X C m.map r ∙ ap (λ k. map_abs m.map k) (h ∙ ap (λ k. map_at B c cap k m.rest m.cells.items) d) ∙ ap (λ z. of_value B c cap env z) (sym (ap val e ∙ val_Map m))

-- ---- one more value, which may fail
module _ {W N C : Type 0} (B : Algebra W N C) (c : C) (cap : ℕ) (env : Environment) where
  pub values_pushed : {X E : Type 0} (item : Result (AbstractValue X W N C) E) (xs : List Value) (i : ℕ) (x : Value) (out out' : List (AbstractValue X W N C)) (whole : Parts W N) → i < length xs → x ≡ get_or xs i x
      → IsOkAnd item (λ z. out' ≡ out ++ z ∷ []) → IfOk item (λ z. abs z ≡ of_value B c cap env (val x))
      → parts_onto (map abs out) (of_values B c cap env (v.vals (map val (drop i xs)))) ≡ whole → parts_onto (map abs out') (of_values B c cap env (v.vals (map val (drop (i + 1) xs)))) ≡ whole
  values_pushed (Err k) xs i x out out' whole l p e h w = absurd e
  values_pushed (Ok z) xs i x out out' whole l p e h w =
      let rest = of_values B c cap env (v.vals (map val (drop (i + 1) xs))) in
      ap (λ o. parts_onto (map abs o) rest) e ∙ ap (λ o. parts_onto o rest) (map_push (λ y. abs y) out z) ∙ parts_onto_more (map abs out) (abs z) rest ∙ ap (λ y. parts_onto (map abs out) (part y rest)) h
      ∙ ap (λ o. parts_onto (map abs out) (of_values B c cap env (v.vals (map val o)))) (sym (drop_here xs i x p l)) ∙ w

pub values_fit_here : (env : Environment) (xs : List Value) (i : ℕ) (x : Value) → x ≡ get_or xs i x → i < length xs → ValuesFit env (v.vals (map val (drop i xs))) → ValueFits env (val x) × ValuesFit env (v.vals (map val (drop (i + 1) xs)))
values_fit_here env xs i x p l h = subst (λ k. ValuesFit env (v.vals (map val k))) (drop_here xs i x p l) h

-- ---- maps
module _ {W N C : Type 0} (B : Algebra W N C) (L : Laws W N C B) (c : C) where
  pub fits_unfolded : (w : ℕ) (rest : ConcreteCell) (cells : List (ℕ × ConcreteCell)) → MapFits w rest cells → FitsUnfolded B c (record { width = w; rest = cell_of B c w rest; cells = cells_of B c w cells })
  fits_unfolded w rest cells fit = record {
    width = fit.width;
    cells = before B L c 0 w rest cells fit;
    order = subst (λ ks. IsAscending ks) (sym (same_keys B L c w cells)) fit.order;
    bound = subst (λ ks. Each (λ k. k < 2 ^ 32) ks) (sym (same_keys B L c w cells)) fit.bound;
  }

  pub parts_are : (w : ℕ) (rest : ConcreteCell) (cells : List (ℕ × ConcreteCell)) (r : AbstractCell W N) (es : List (ℕ × AbstractCell W N)) → r ≡ cell_of B c w rest → es ≡ cells_of B c w cells
      → ◌≡◌ {A = Map_of W N} (record { width = w; rest = r; cells = es }) (record { width = w; rest = cell_of B c w rest; cells = cells_of B c w cells })
  parts_are w rest cells r es a b = ap (λ t. record { width = w; rest = t; cells = es }) a ∙ ap (λ t. record { width = w; rest = cell_of B c w rest; cells = t }) b

-- ---- words of a map
each_at : {A : Type 0} (P : A → Type 0) (xs : List A) (i : ℕ) (x : A) → slice_get xs i ≡ Some x → Each P xs → P x
each_at P [] i x h e = absurd cc
each_at P (y ∷ ys) zero x h e = let same : y ≡ x = cc in subst P same e.0
each_at P (y ∷ ys) (suc i) x h e = each_at P ys i x h e.1

module _ {W N C : Type 0} (B : Algebra W N C) (c : C) (cap : ℕ) (m : Map_of W N) (w : ℕ) (same : w ≡ m.width) (fit : Fits B c cap m) where
  pub rest_word_fits : (r : AbstractCell W N) → m.rest ≡ r → B.words.fits c w r.word
  rest_word_fits r e = subst (λ k. B.words.fits c k r.word) (sym same) (subst (λ k. B.words.fits c m.width k.word) e fit.cells.0)

  pub cell_word_fits : (i k : ℕ) (r : AbstractCell W N) → slice_get m.cells i ≡ Some (k, r) → B.words.fits c w r.word
  cell_word_fits i k r e = subst (λ n. B.words.fits c n r.word) (sym same) (each_at (λ p. B.words.fits c m.width p.1.word) m.cells i (k, r) e fit.cells.1)

-- ---- sums with a greatest value
module _ {A : Type 0} (f : A → ℕ) where
  sum_next : (xs : List A) (i : ℕ) (x : A) → slice_get xs i ≡ Some x → sum_by f (take (suc i) xs) ≡ sum_by f (take i xs) + f x
  sum_next [] i x h = absurd cc
  sum_next (y ∷ ys) zero x h = let same : y ≡ x = cc in let first = sum_by-cons f y [] in omega (arith, first, ap f same)
  sum_next (y ∷ ys) (suc i) x h = let later = sum_next ys i x h in let more = sum_by-cons f y (take (suc i) ys) in let less = sum_by-cons f y (take i ys) in omega (arith, later, more, less)

  pub sum_capped : (xs : List A) (i : ℕ) (x : A) (a s r t top : ℕ) → slice_get xs i ≡ Some x → s ≡ min (a + sum_by f (take i xs)) top → r ≡ min (f x) top → t ≡ min (s + r) top → t ≡ min (a + sum_by f (take (i + 1) xs)) top
  sum_capped xs i x a s r t top h p q e =
      let next : suc i ≡ i + 1 = omega arith in
      let more = ap (λ n. sum_by f (take n xs)) (sym next) ∙ sum_next xs i x h in
      omega (arith, p, q, e, more)
