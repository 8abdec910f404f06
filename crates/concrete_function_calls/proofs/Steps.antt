-- Arguments one after another.
use Rattle.std.proofs.Common.{◌≡◌, ℕ, zero, suc, ◌+◌, ◌<◌, Bor, Option, Some, None, List, [], ◌∷◌, ◌++◌, length, get_or, drop, option_map, refl, sym, ap, ◌∙◌, arith}
use Rattle.std.specs.Prelude.{Bool, if◌then◌else◌, map, not, position}
use Rattle.std.specs.Prelude.{option_and_then}
use Rattle.std.specs.List.{position_or_len}
use Rattle.std.proofs.lemmas.List.{get_or-map, length-map}
use Rattle.spec_ir.specs.declared.ty.Ty.{Ty}
use Rattle.semantics_values.specs.Values.{Val}
use Rattle.concrete_function_calls.specs.Arguments.{argument_in, arguments_in, borrowed}

-- the arguments from place i on: that of place i, and those behind it
pub from_here : (types : List Ty) (texts : List (List ℕ)) (i : ℕ) (d : Ty) (e : List ℕ) → i < length types → i < length texts
    → arguments_in (drop i types) (drop i texts) ≡ option_and_then (λ v. option_map (λ vs. v ∷ vs) (arguments_in (drop (i + 1) types) (drop (i + 1) texts))) (argument_in (get_or types i d) (get_or texts i e))
from_here [] texts i d e p q = absurd (omega arith)
from_here (ty ∷ types) [] i d e p q = absurd (omega arith)
from_here (ty ∷ types) (text ∷ texts) zero d e p q = refl
from_here (ty ∷ types) (text ∷ texts) (suc i) d e p q = let next : suc i + 1 ≡ suc (i + 1) = omega arith in rw next (from_here types texts i d e (omega arith) (omega arith))

-- lists of two lengths have no arguments
pub uneven : (types : List Ty) (texts : List (List ℕ)) → (length types ≡ length texts → ⊥) → arguments_in types texts ≡ None
uneven [] [] other = absurd (other refl)
uneven [] (text ∷ texts) other = refl
uneven (ty ∷ types) [] other = refl
uneven (ty ∷ types) (text ∷ texts) other = by (argument_in ty text) (uneven types texts (λ same. other (ap suc same)))
  where
    by : (found : Option Val) → arguments_in types texts ≡ None → option_and_then (λ v. option_map (λ vs. v ∷ vs) (arguments_in types texts)) found ≡ None
    by None none = refl
    by (Some v) none = rw none refl

module _ (types : List Ty) (texts : List (List ℕ)) (i : ℕ) (d : Ty) (e : List ℕ) (before : List Val) (within : i < length types) (within_texts : i < length texts)
    (so_far : arguments_in types texts ≡ option_map (λ rest. before ++ rest) (arguments_in (drop i types) (drop i texts))) where
  -- one more argument is written
  pub one_more : (v : Val) → argument_in (get_or types i d) (get_or texts i e) ≡ Some v → arguments_in types texts ≡ option_map (λ rest. (before ++ v ∷ []) ++ rest) (arguments_in (drop (i + 1) types) (drop (i + 1) texts))
  one_more v is =
      let here = from_here types texts i d e within within_texts in
      so_far ∙ ap (option_map (λ rest. before ++ rest)) (here ∙ ap (option_and_then (λ v. option_map (λ vs. v ∷ vs) (arguments_in (drop (i + 1) types) (drop (i + 1) texts)))) is) ∙ by (arguments_in (drop (i + 1) types) (drop (i + 1) texts))
    where
      regroup : (xs rest : List Val) → xs ++ v ∷ rest ≡ (xs ++ v ∷ []) ++ rest
      regroup [] rest = refl
      regroup (x ∷ xs) rest = ap (λ ys. x ∷ ys) (regroup xs rest)

      by : (found : Option (List Val)) → option_map (λ rest. before ++ rest) (option_map (λ vs. v ∷ vs) found) ≡ option_map (λ rest. (before ++ v ∷ []) ++ rest) found
      by None = refl
      by (Some vs) = ap (λ ys. Some ys) (regroup before vs)

  -- none is written
  pub none_here : argument_in (get_or types i d) (get_or texts i e) ≡ None → arguments_in types texts ≡ None
  none_here is =
      let here = from_here types texts i d e within within_texts in
      so_far ∙ ap (option_map (λ rest. before ++ rest)) (here ∙ ap (option_and_then (λ v. option_map (λ vs. v ∷ vs) (arguments_in (drop (i + 1) types) (drop (i + 1) texts)))) is)

-- ---- places in lists

place-map : {A B : Type 0} (test : B → Bool) (f : A → B) (xs : List A) → position_or_len test (map f xs) ≡ position_or_len (λ x. test (f x)) xs
place-map test f [] = refl
place-map test f (x ∷ xs) = ap (λ n. if not (test (f x)) then 1 + n else 0) (place-map test f xs)

pub position-map : {A B : Type 0} (test : B → Bool) (f : A → B) (xs : List A) → position test (map f xs) ≡ position (λ x. test (f x)) xs
position-map test f xs = rw (place-map test f xs, length-map xs f) refl

-- an argument at a place of borrowed texts
pub at_place : (ty : Ty) (texts : List (Bor (List ℕ))) (i : ℕ) (d : Bor (List ℕ)) (found : Option Val) → i < length texts → found ≡ argument_in ty (get_or texts i d).now → argument_in ty (get_or (borrowed texts) i []) ≡ found
at_place ty texts i d found within is = ap (argument_in ty) (get_or-map (λ (text : Bor (List ℕ)). text.now) texts i d [] within) ∙ sym is
