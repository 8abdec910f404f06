-- Items of lists that are seen as values.
use Rattle.std.proofs.Common.{◌≡◌, ℕ, zero, suc, ◌+◌, ◌<◌, ◌≤◌, min, ◌&&◌, Bool, true, false, List, [], ◌∷◌, ◌++◌, Option, Some, None, length, drop, map, get_or, refl, sym, subst, ap, ◌∙◌, append_assoc, length-drop, arith}
use Rattle.std.specs.Prelude.{IfSome, option_map, slice_get}
use Rattle.std.proofs.lemmas.Option.{get_or_from_slice_get, slice_get-map, slice_get_read, slice_get_within}
use Rattle.base_trait.specs.Algebra.{Algebra}
use Rattle.spec_ir.specs.declared.ty.Ty.{Ty}
use Rattle.spec_ir.specs.Environment.{Environment}
use Rattle.abstract_value_laws.specs.Abs.{Abs, parts}
use Rattle.abstract_value_laws.specs.Fits.{Fits, PartsFit}
use Rattle.abstract_value_laws.specs.Types.{has_type, have_types}
use Rattle.abstract_value.specs.View.{abs}
use Rattle.abstract_value.specs.declared.value.AbstractValue.{AbstractValue}
use Rattle.abstract_value.proofs.Both.{IsBoth}
use Rattle.abstract_semantics.specs.Calls.{all_absorb}
use Rattle.abstract_semantics.specs.Terms.{merge_all}
use Rattle.eval_group_turns.specs.Merging.{merged_with}
use Rattle.spec_match_compiler.proofs.Loops.{drop_here}

module _ {A D : Type 0} (f : A → D) where
  pub item_seen : (xs : List A) (i : ℕ) (x : A) → i < length xs → x ≡ get_or xs i x → slice_get (map f xs) i ≡ Some (f x)
  item_seen xs i x l e = slice_get-map f xs i ∙ ap (option_map f) (slice_get_read xs (length xs) i x refl l e)

  pub drop_seen : (xs : List A) (i : ℕ) (x : A) → i < length xs → x ≡ get_or xs i x → drop i (map f xs) ≡ f x ∷ drop (i + 1) (map f xs)
  drop_seen xs i x l e =
      let got = item_seen xs i x l e in
      drop_here (map f xs) i (f x) (sym (get_or_from_slice_get (map f xs) i (f x) (f x) got)) (slice_get_within (map f xs) i (f x) got)

  pub seen_push : (xs : List A) (x : A) → map f (xs ++ x ∷ []) ≡ map f xs ++ f x ∷ []
  seen_push [] x = refl
  seen_push (y ∷ xs) x = ap (λ l. f y ∷ l) (seen_push xs x)

-- one more behind those so far
pub one_more : {A : Type 0} (whole out new here rest : List A) (z : A) → here ≡ z ∷ rest → new ≡ out ++ z ∷ [] → whole ≡ out ++ here → whole ≡ new ++ rest
one_more whole out new here rest z e n h = h ∙ ap (λ l. out ++ l) e ∙ sym (append_assoc out (z ∷ []) rest) ∙ ap (λ l. l ++ rest) (sym n)

-- ---- merging
module _ {A : Type 0} (f : A → A → A) where
  merge_nothing : (xs : List A) → merge_all f xs [] ≡ xs
  merge_nothing [] = refl
  merge_nothing (x ∷ xs) = refl

  pub merge_step : (x : A) (rest ys : List A) (i : ℕ) → merge_all f (x ∷ rest) (drop i ys) ≡ merged_with f x (slice_get ys i) ∷ merge_all f rest (drop (suc i) ys)
  merge_step x rest [] zero = ap (λ l. x ∷ l) (sym (merge_nothing rest))
  merge_step x rest [] (suc i) = ap (λ l. x ∷ l) (sym (merge_nothing rest))
  merge_step x rest (y ∷ ys) zero = refl
  merge_step x rest (y ∷ ys) (suc i) = merge_step x rest ys i

  pub merge_here : (xs ys : List A) (i : ℕ) (x z : A) → drop i xs ≡ x ∷ drop (i + 1) xs → z ≡ merged_with f x (slice_get ys i) → merge_all f (drop i xs) (drop i ys) ≡ z ∷ merge_all f (drop (i + 1) xs) (drop (i + 1) ys)
  merge_here xs ys i x z d e =
      ap (λ l. merge_all f l (drop i ys)) d ∙ merge_step x (drop (i + 1) xs) ys i ∙ ap (λ w. w ∷ merge_all f (drop (i + 1) xs) (drop (suc i) ys)) (sym e)
      ∙ ap (λ n. z ∷ merge_all f (drop (i + 1) xs) (drop n ys)) (sym (next i))
    where
      next : (n : ℕ) → n + 1 ≡ suc n
      next n = omega arith

-- ---- absorption
module _ {A : Type 0} (f : A → A → Bool) where
  absorb_step : (xs ys : List A) (i : ℕ) (x y : A) (b : Bool) → drop i xs ≡ x ∷ drop (i + 1) xs → drop i ys ≡ y ∷ drop (i + 1) ys → f x y ≡ b → all_absorb f (drop i xs) (drop i ys) ≡ (b && all_absorb f (drop (i + 1) xs) (drop (i + 1) ys))
  absorb_step xs ys i x y b d e h = ap (λ l. all_absorb f l (drop i ys)) d ∙ ap (λ l. all_absorb f (x ∷ drop (i + 1) xs) l) e ∙ ap (λ c. c && all_absorb f (drop (i + 1) xs) (drop (i + 1) ys)) h

  pub absorb_next : (xs ys : List A) (i : ℕ) (x y : A) (whole : Bool) → drop i xs ≡ x ∷ drop (i + 1) xs → drop i ys ≡ y ∷ drop (i + 1) ys → f x y ≡ true → whole ≡ all_absorb f (drop i xs) (drop i ys) → whole ≡ all_absorb f (drop (i + 1) xs) (drop (i + 1) ys)
  absorb_next xs ys i x y whole d e h w = w ∙ absorb_step xs ys i x y true d e h

  pub absorb_stop : (xs ys : List A) (i : ℕ) (x y : A) (whole : Bool) → drop i xs ≡ x ∷ drop (i + 1) xs → drop i ys ≡ y ∷ drop (i + 1) ys → f x y ≡ false → whole ≡ all_absorb f (drop i xs) (drop i ys) → false ≡ whole
  absorb_stop xs ys i x y whole d e h w = sym (w ∙ absorb_step xs ys i x y false d e h)

  pub absorb_end : (xs ys : List A) (i : ℕ) (whole : Bool) → min (length xs) (length ys) ≤ i → whole ≡ all_absorb f (drop i xs) (drop i ys) → true ≡ whole
  absorb_end xs ys i whole h w = sym (w ∙ ends (drop i xs) (drop i ys) (simp length-drop (omega arith)))
    where
      ends : (ps qs : List A) → min (length ps) (length qs) ≡ 0 → all_absorb f ps qs ≡ true
      ends [] qs h = refl
      ends (a ∷ ps) [] h = refl
      ends (a ∷ ps) (d ∷ qs) h = absurd (omega arith)

-- ---- values that fit
module _ {W N C : Type 0} (B : Algebra W N C) (c : C) (cap : ℕ) where
  pub part_fits : (xs : List (Abs W N)) (i : ℕ) (x : Abs W N) → PartsFit B c cap (parts xs) → slice_get xs i ≡ Some x → Fits B c cap x
  part_fits [] i x h e = absurd cc
  part_fits (y ∷ xs) zero x h e = let same : y ≡ x = cc in subst (Fits B c cap) same h.0
  part_fits (y ∷ xs) (suc i) x h e = part_fits xs i x h.1 e

  -- a value that may be there
  pub other_fits : {R : Type 0} (ys : List (Abs W N)) (i : ℕ) → PartsFit B c cap (parts ys) → (seen : R → Abs W N) (o : Option R) → option_map seen o ≡ slice_get ys i → IfSome o (λ r. Fits B c cap (seen r))
  other_fits ys i h seen None e = tt
  other_fits ys i h seen (Some r) e = part_fits ys i (seen r) h (sym e)

-- ---- types
pub types_both : {X W N K : Type 0} (env : Environment) → IsBoth {A = AbstractValue X W N K} {D = Ty} (λ x t. has_type env (abs x) t) (λ xs ts. have_types env (parts (map abs xs)) ts)
types_both env = record { end = refl; step = λ x t xs ts. refl; left = λ t ts. refl; right = λ x xs. refl }
