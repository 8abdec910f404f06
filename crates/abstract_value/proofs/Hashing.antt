-- What is hashed of lists of parts or cases, item by item.
use Rattle.std.proofs.Common.{◌≡◌, ℕ, ◌+◌, ◌<◌, ◌≤◌, ◌++◌, List, Option, Some, None, map, length, drop, get_or, refl, sym, ap, ◌∙◌}
use Rattle.std.specs.Hash.{HashWrites}
use Rattle.std.specs.List.{fold}
use Rattle.std.proofs.lemmas.List.Sums.{fold-append}
use Rattle.std.proofs.lemmas.List.{drop_all}
use Rattle.abstract_value_laws.specs.Abs.{Cases, Parts, case_onto, cases, parts}
use Rattle.abstract_value.specs.Same.{hashed_case, hashed_cases, hashed_parts, hashed_value}
use Rattle.abstract_value.specs.View.{abs, case_of}
use Rattle.abstract_value.specs.declared.value.AbstractValue.{AbstractValue}
use Rattle.spec_match_compiler.proofs.Loops.{drop_here}

module _ {W N : Type 0} (words : W → HashWrites) (notes : N → HashWrites) where
  case_hashed : (x : Option (Parts W N)) (cs : Cases W N) → hashed_cases words notes (case_onto x cs) ≡ hashed_case words notes x ++ hashed_cases words notes cs
  case_hashed None cs = refl
  case_hashed (Some xs) cs = refl

module _ {X W N C S : Type 0} (words : W → HashWrites) (notes : N → HashWrites) (write : S → List ℕ → S) where
  pub parts_hashed : (xs : List (AbstractValue X W N C)) (i : ℕ) (x : AbstractValue X W N C) (s s' whole : S) → i < length xs → x ≡ get_or xs i x → s' ≡ fold write s (hashed_value words notes (abs x))
      → fold write s (hashed_parts words notes (parts (map abs (drop i xs)))) ≡ whole → fold write s' (hashed_parts words notes (parts (map abs (drop (i + 1) xs)))) ≡ whole
  parts_hashed xs i x s s' whole l p e h =
      let rest = hashed_parts words notes (parts (map abs (drop (i + 1) xs))) in
      ap (λ k. fold write k rest) e ∙ sym (fold-append write s (hashed_value words notes (abs x)) rest) ∙ ap (λ k. fold write s (hashed_parts words notes (parts (map abs k)))) (sym (drop_here xs i x p l)) ∙ h

  pub parts_all_hashed : (xs : List (AbstractValue X W N C)) (i : ℕ) (s whole : S) → length xs ≤ i → fold write s (hashed_parts words notes (parts (map abs (drop i xs)))) ≡ whole → s ≡ whole
  parts_all_hashed xs i s whole l h = ap (λ k. fold write s (hashed_parts words notes (parts (map abs k)))) (sym (drop_all i xs l)) ∙ h

  pub cases_hashed : (xs : List (Option (List (AbstractValue X W N C)))) (i : ℕ) (x : Option (List (AbstractValue X W N C))) (s s' whole : S) → i < length xs → x ≡ get_or xs i x → s' ≡ fold write s (hashed_case words notes (case_of x))
      → fold write s (hashed_cases words notes (cases (map case_of (drop i xs)))) ≡ whole → fold write s' (hashed_cases words notes (cases (map case_of (drop (i + 1) xs)))) ≡ whole
  cases_hashed xs i x s s' whole l p e h =
      let rest = cases (map case_of (drop (i + 1) xs)) in
      ap (λ k. fold write k (hashed_cases words notes rest)) e ∙ sym (fold-append write s (hashed_case words notes (case_of x)) (hashed_cases words notes rest)) ∙ ap (λ k. fold write s k) (sym (case_hashed words notes (case_of x) rest))
      ∙ ap (λ k. fold write s (hashed_cases words notes (cases (map case_of k)))) (sym (drop_here xs i x p l)) ∙ h

  pub cases_all_hashed : (xs : List (Option (List (AbstractValue X W N C)))) (i : ℕ) (s whole : S) → length xs ≤ i → fold write s (hashed_cases words notes (cases (map case_of (drop i xs)))) ≡ whole → s ≡ whole
  cases_all_hashed xs i s whole l h = ap (λ k. fold write s (hashed_cases words notes (cases (map case_of k)))) (sym (drop_all i xs l)) ∙ h
