-- The concrete values of abstract ones, by their views.
use Rattle.std.proofs.Common.{◌≡◌, ℕ, zero, suc, ◌+◌, ◌<◌, length, get_or, drop, List, [], ◌∷◌, ◌++◌, Option, Some, None, map, option_map, take, slice_get, refl, sym, ap, ◌∙◌, arith}
use Rattle.std.specs.Prelude.{slice_index}
use Rattle.std.proofs.lemmas.Option.{slice_get-map}
use Rattle.base_trait.specs.declared.uses.Stamp.{Stamp}
use Rattle.base_concrete.specs.declared.Concrete.{Concrete}
use Rattle.abstract_map_laws.specs.declared.cell.AbstractCell.{AbstractCell}
use Rattle.abstract_map_laws.specs.Maps.{Map, keys}
use Rattle.semantics_values.specs.declared.value.Cell.{Cell as ConcreteCell}
use Rattle.semantics_values.specs.Values.{made, vals, val_then}
use Rattle.abstract_value_laws.specs.Abs.{cases, parts}
use Rattle.abstract_value.specs.View.{abs, case_of}
use Rattle.abstract_value.specs.declared.value.AbstractValue.{AbstractValue}
use Rattle.abstract_value.proofs.Places.{at_itself}
use Rattle.spec_match_compiler.proofs.Loops.{drop_here}
use Rattle.concrete_calls.specs.Values.{case_in, cell_in, cells_in, value_in, values_in}

-- fields one after another
pub values_there : (xs : List (AbstractValue Concrete ℕ Stamp (Unit {0}))) → vals (map (λ x. value_in (abs x)) xs) ≡ values_in (parts (map abs xs))
values_there [] = refl
values_there (x ∷ xs) = ap (val_then (value_in (abs x))) (values_there xs)

pub some_same : {A : Type 0} {x y : A} → Some x ≡ Some y → x ≡ y
some_same e = cc

-- one more item of a list
taken_more : {A : Type 0} (xs : List A) (i : ℕ) (x : A) → slice_get xs i ≡ Some x → take (i + 1) xs ≡ take i xs ++ x ∷ []
taken_more [] i x e = absurd cc
taken_more (y ∷ xs) zero x e = ap (λ z. z ∷ []) (some_same e)
taken_more (y ∷ xs) (suc i) x e = let next : suc i + 1 ≡ suc (i + 1) = omega arith in rw next (ap (λ zs. y ∷ zs) (taken_more xs i x e))

cells_more : (xs : List (ℕ × AbstractCell ℕ Stamp)) (e : ℕ × AbstractCell ℕ Stamp) → cells_in (xs ++ e ∷ []) ≡ cells_in xs ++ (e.0, cell_in e.1) ∷ []
cells_more [] e = refl
cells_more (x ∷ xs) e = ap (λ zs. (x.0, cell_in x.1) ∷ zs) (cells_more xs e)

-- one more cell of a map
pub cell_more : (m : Map ℕ Stamp) (out new : List (ℕ × ConcreteCell)) (i number key : ℕ) (x : AbstractCell ℕ Stamp) → out ≡ cells_in (take i m.cells) → slice_get m.cells i ≡ Some (number, x) → slice_get (keys m) i ≡ Some key
    → new ≡ out ++ (key, cell_in x) ∷ [] → new ≡ cells_in (take (i + 1) m.cells)
cell_more m out new i number key x so_far here named pushed =
    let same : number ≡ key = some_same (sym (ap (option_map (λ e. e.0)) here) ∙ sym (slice_get-map (λ e. e.0) m.cells i) ∙ named) in
    pushed ∙ ap (λ xs. xs ++ (key, cell_in x) ∷ []) so_far ∙ ap (λ k. cells_in (take i m.cells) ++ (k, cell_in x) ∷ []) (sym same) ∙ sym (cells_more (take i m.cells) (number, x)) ∙ sym (ap cells_in (taken_more m.cells i (number, x) here))

-- ---- constructors
module _ (ty : ℕ) where
  -- one after another
  pub some_here : (cs : List (Option (List (AbstractValue Concrete ℕ Stamp (Unit {0}))))) (i : ℕ) (f : List (AbstractValue Concrete ℕ Stamp (Unit {0}))) → i < length cs → get_or cs i None ≡ Some f → case_in ty i (cases (map case_of (drop i cs))) ≡ made ty i (values_in (parts (map abs f)))
  some_here cs i f l e = ap (λ z. case_in ty i (cases (map case_of z))) (drop_here cs i (Some f) (sym e ∙ at_itself cs i None l ∙ ap (get_or cs i) e) l)

  pub none_here : (cs : List (Option (List (AbstractValue Concrete ℕ Stamp (Unit {0}))))) (i : ℕ) → i < length cs → get_or cs i None ≡ None → case_in ty i (cases (map case_of (drop i cs))) ≡ case_in ty (i + 1) (cases (map case_of (drop (i + 1) cs)))
  none_here cs i l e =
      let next : suc i ≡ i + 1 = omega arith in
      ap (λ z. case_in ty i (cases (map case_of z))) (drop_here cs i None (sym e ∙ at_itself cs i None l ∙ ap (get_or cs i) e) l) ∙ ap (λ n. case_in ty n (cases (map case_of (drop (i + 1) cs)))) next
