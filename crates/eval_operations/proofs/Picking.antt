-- Numbers that are picked one by one.
use Rattle.std.proofs.Common.{◌≡◌, ℕ, zero, suc, ◌+◌, ◌<◌, Bool, true, false, cond, List, [], ◌∷◌, ◌++◌, Option, Some, None, length, drop, map, get_or, refl, sym, ap, ◌∙◌, arith}
use Rattle.std.specs.Prelude.{is_some, slice_get}
use Rattle.std.specs.List.{filter}
use Rattle.abstract_value_laws.specs.Abs.{Parts, cases, no_case, parts}
use Rattle.abstract_value_laws.specs.OfValues.{absent_onto, one_case}
use Rattle.abstract_value.specs.Constructors.{IsOnly}
use Rattle.abstract_value.specs.View.{abs, case_of}
use Rattle.abstract_value.specs.declared.value.AbstractValue.{AbstractValue}
use Rattle.abstract_value.proofs.Alone.{alone_seen}
use Rattle.abstract_semantics.specs.Keys.{cases_from}
use Rattle.spec_match_compiler.proofs.Loops.{drop_here}
use Rattle.spec_ir.proofs.Lists.{drop_got}

-- one that is picked, or not, behind those so far
picked : (out rest : List ℕ) (b : Bool) (k : ℕ) → out ++ cond b (k ∷ rest) rest ≡ (out ++ cond b (k ∷ []) []) ++ rest
picked [] rest true k = refl
picked [] rest false k = refl
picked (j ∷ out) rest b k = ap (λ l. j ∷ l) (picked out rest b k)

picked_next : (whole out new here rest : List ℕ) (b : Bool) (k : ℕ) → here ≡ cond b (k ∷ rest) rest → new ≡ out ++ cond b (k ∷ []) [] → whole ≡ out ++ here → whole ≡ new ++ rest
picked_next whole out new here rest b k e n h = h ∙ ap (λ l. out ++ l) e ∙ picked out rest b k ∙ ap (λ l. l ++ rest) (sym n)

pub filter_next : (f : ℕ → Bool) (keys out new : List ℕ) (i k : ℕ) (b : Bool) → slice_get keys i ≡ Some k → b ≡ f k → new ≡ out ++ cond b (k ∷ []) []
    → filter f keys ≡ out ++ filter f (drop i keys) → filter f keys ≡ new ++ filter f (drop (i + 1) keys)
filter_next f keys out new i k b got e n h =
    picked_next (filter f keys) out new (filter f (drop i keys)) (filter f (drop (i + 1) keys)) b k
    (ap (λ l. filter f l) (drop_got keys i k got) ∙ ap (λ t. cond t (k ∷ filter f (drop (i + 1) keys)) (filter f (drop (i + 1) keys))) (sym e)) n h

module _ {X W N C : Type 0} where
  first_case : (n : ℕ) (x : Option (List (AbstractValue X W N C))) (xs : List (Option (List (AbstractValue X W N C))))
      → cases_from n (cases (map case_of (x ∷ xs))) ≡ cond (is_some x) (n ∷ cases_from (n + 1) (cases (map case_of xs))) (cases_from (n + 1) (cases (map case_of xs)))
  first_case n None xs = refl
  first_case n (Some v) xs = refl

  pub case_next : (xs : List (Option (List (AbstractValue X W N C)))) (whole out new : List ℕ) (i : ℕ) (x : Option (List (AbstractValue X W N C))) (b : Bool) → i < length xs → x ≡ get_or xs i x → b ≡ is_some x
      → new ≡ out ++ cond b (i ∷ []) [] → whole ≡ out ++ cases_from i (cases (map case_of (drop i xs))) → whole ≡ new ++ cases_from (i + 1) (cases (map case_of (drop (i + 1) xs)))
  case_next xs whole out new i x b l e t n h =
      picked_next whole out new (cases_from i (cases (map case_of (drop i xs)))) (cases_from (i + 1) (cases (map case_of (drop (i + 1) xs)))) b i
      (ap (λ l. cases_from i (cases (map case_of l))) (drop_here xs i x e l) ∙ first_case i x (drop (i + 1) xs)
      ∙ ap (λ t. cond t (i ∷ cases_from (i + 1) (cases (map case_of (drop (i + 1) xs)))) (cases_from (i + 1) (cases (map case_of (drop (i + 1) xs))))) (sym t)) n h

-- the one constructor that is present alone
none_from : (W N : Type 0) (i n : ℕ) → cases_from {W = W} {N = N} i (absent_onto n no_case) ≡ []
none_from W N i zero = refl
none_from W N i (suc n) = none_from W N (i + 1) n

module _ {W N : Type 0} where
  one_from : (i n k : ℕ) (xs : Parts W N) → k < n → cases_from i (one_case n k xs) ≡ (i + k) ∷ []
  one_from i zero k xs l = absurd (omega (arith, l))
  one_from i (suc n) zero xs l = let e : i ≡ i + 0 = omega arith in ap (λ ns. i ∷ ns) (none_from W N (i + 1) n) ∙ ap (λ m. m ∷ []) e
  one_from i (suc n) (suc k) xs l = let e : i + 1 + k ≡ i + suc k = omega arith in one_from (i + 1) n k xs (omega (arith, l)) ∙ ap (λ m. m ∷ []) e

module _ {X W N C : Type 0} where
  pub alone_from : (l : List (Option (List (AbstractValue X W N C)))) (k : ℕ) (f : List (AbstractValue X W N C)) → IsOnly l k f → cases_from 0 (cases (map case_of l)) ≡ k ∷ []
  alone_from l k f o = let e : 0 + k ≡ k = omega arith in ap (λ z. cases_from 0 z) (alone_seen l k f o) ∙ one_from 0 (length l) k (parts (map abs f)) o.within ∙ ap (λ m. m ∷ []) e
