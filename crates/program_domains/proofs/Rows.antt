-- Any rows generate what some rows do of which each adds to those before it.
use Rattle.std.proofs.Common.{◌≡◌, ◌<◌, ◌⊎◌, ℕ, zero, suc, ◌+◌, ◌%◌, ◌^◌, List, [], ◌∷◌, ◌++◌, Some, length, take, map, get_or, slice_get, refl, sym, ap, subst, ◌∙◌, inl, inr, arith, append_assoc, append-nil}
use Rattle.base_trait.specs.Lists.{Each}
use Rattle.fixpoint_theory.proofs.Growth.{by_bool}
use Rattle.support_modular_rows.specs.Laws.{IsWithin}
use Rattle.support_modular_rows.specs.Submodule.{IsMember, combination}
use Rattle.support_modular_rows.proofs.Closure.{append_joins}
use Rattle.domain_affine_element_laws.specs.Elements.{SameMembers}
use Rattle.domain_affine_element_laws.specs.Membership.{is_member}
use Rattle.domain_affine_element_laws.proofs.Membership.{each_within, members_are_told}
use Rattle.text_elements.specs.Rows.{AddsTo, EachAdds}

-- ---- rows of so many numbers
-- the first n numbers of a row, which is 0 past its end
abbrev resized : ℕ → List ℕ → List ℕ
resized zero row = []
resized (suc n) [] = 0 ∷ resized n []
resized (suc n) (x ∷ row) = x ∷ resized n row

resized_size : (n : ℕ) (row : List ℕ) → length (resized n row) ≡ n
resized_size zero row = refl
resized_size (suc n) [] = ap suc (resized_size n [])
resized_size (suc n) (x ∷ row) = ap suc (resized_size n row)

resized_at : (n j : ℕ) (row : List ℕ) → j < n → get_or (resized n row) j 0 ≡ get_or row j 0
resized_at zero j row lt = absurd (omega (arith, lt))
resized_at (suc n) zero [] lt = refl
resized_at (suc n) (suc j) [] lt = resized_at n j [] (omega (arith, lt))
resized_at (suc n) zero (x ∷ row) lt = refl
resized_at (suc n) (suc j) (x ∷ row) lt = resized_at n j row (omega (arith, lt))

combined_alike : (n j : ℕ) (cs : List ℕ) (rows : List (List ℕ)) → j < n → combination cs (map (resized n) rows) j ≡ combination cs rows j
combined_alike n j [] rows lt = refl
combined_alike n j (c ∷ cs) [] lt = refl
combined_alike n j (c ∷ cs) (r ∷ rows) lt =
    let here = resized_at n j r lt in
    let rest = combined_alike n j cs rows lt in
    cc

resized_same : (k : ℕ) (rows : List (List ℕ)) → SameMembers k rows (map (resized (k + 1)) rows)
resized_same k rows x = (
  λ member. (member.0, λ j le. member.1 j le ∙ ap (λ n. n % 2 ^ 32) (sym (combined_alike (k + 1) j member.0 rows (omega (arith, le))))),
  λ member. (member.0, λ j le. member.1 j le ∙ ap (λ n. n % 2 ^ 32) (combined_alike (k + 1) j member.0 rows (omega (arith, le)))),
)

abbrev AreSized : ℕ → List (List ℕ) → Type 0
AreSized k rows = Each (λ r. length r ≡ k + 1) rows

resized_sizes : (k : ℕ) (rows : List (List ℕ)) → AreSized k (map (resized (k + 1)) rows)
resized_sizes k [] = tt
resized_sizes k (r ∷ rows) = (resized_size (k + 1) r, resized_sizes k rows)

-- ---- rows that add
member_or_not : (k : ℕ) (rows : List (List ℕ)) (x : List ℕ) → IsMember k rows x ⊎ (IsMember k rows x → ⊥)
member_or_not k rows x =
    by_bool (is_member k rows x) (λ b. IsMember k rows x ⊎ (IsMember k rows x → ⊥))
    (λ is. inl ((members_are_told k rows x).0 is))
    (λ is. inr (λ member. let told = (members_are_told k rows x).1 member in cc))

-- Of a list with one more item, an item is of the list, or is that one.
last_or_before : (xs : List (List ℕ)) (y z : List ℕ) (i : ℕ) → slice_get (xs ++ y ∷ []) i ≡ Some z
    → ((slice_get xs i ≡ Some z) × (take i (xs ++ y ∷ []) ≡ take i xs)) ⊎ ((y ≡ z) × (take i (xs ++ y ∷ []) ≡ xs))
last_or_before [] y z zero h = inr (cc, refl)
last_or_before [] y z (suc i) h = cc
last_or_before (x ∷ xs) y z zero h = inl (h, refl)
last_or_before (x ∷ xs) y z (suc i) h = elim (last_or_before xs y z i h) [
  | inl found ↦ inl (found.0, ap (λ (ys : List (List ℕ)). x ∷ ys) found.1)
  | inr found ↦ inr (found.0, ap (λ (ys : List (List ℕ)). x ∷ ys) found.1)
]

adds_one : (k : ℕ) (rows : List (List ℕ)) (r : List ℕ) → EachAdds k rows → AddsTo k rows r → EachAdds k (rows ++ r ∷ [])
adds_one k rows r each adds i row at = elim (last_or_before rows r row i at) [
  | inl found ↦ subst (λ before. AddsTo k before row) (sym found.1) (each i row found.0)
  | inr found ↦ subst (λ before. AddsTo k before row) (sym found.1) (subst (AddsTo k rows) found.0 adds)
]

-- A row that is a member of those before it generates nothing with others.
leaves_out : (k : ℕ) (before rows : List (List ℕ)) (r : List ℕ) → IsMember k before r → SameMembers k (before ++ r ∷ rows) (before ++ rows)
leaves_out k before rows r member x =
    let more = append_joins k before (r ∷ rows) in
    let less = append_joins k before rows in
    let one = append_joins k (r ∷ []) rows in
    let alone : IsWithin k (r ∷ []) (before ++ rows) = each_within k (before ++ rows) (r ∷ []) (less.left r member, tt) in (
      more.least (before ++ rows) less.left (one.least (before ++ rows) alone less.right) x,
      less.least (before ++ r ∷ rows) more.left (λ y m. more.right y (one.right y m)) x,
    )

-- Rows that generate the same, each of which adds to those before it.
pub record AreKept (k : ℕ) (rows kept : List (List ℕ)) : Type 0 where
  pub generate : SameMembers k rows kept
  pub add : EachAdds k kept

same_on : (k : ℕ) (xs ys zs : List (List ℕ)) → SameMembers k xs ys → SameMembers k ys zs → SameMembers k xs zs
same_on k xs ys zs p q x = (λ m. (q x).0 ((p x).0 m), λ m. (p x).1 ((q x).1 m))

kept_from : (k : ℕ) (before rows : List (List ℕ)) → EachAdds k before → AreSized k rows → (kept : List (List ℕ)) × AreKept k (before ++ rows) kept
kept_from k before [] each sized = (before, record { generate = subst (λ ys. SameMembers k ys before) (sym (append-nil before)) (λ x. (λ m. m, λ m. m)); add = each })
kept_from k before (r ∷ rows) each sized = elim (member_or_not k before r) [
  | inl member ↦
      let rest = kept_from k before rows each sized.1 in
      (rest.0, record { generate = same_on k (before ++ r ∷ rows) (before ++ rows) rest.0 (leaves_out k before rows r member) rest.1.generate; add = rest.1.add })
  | inr none ↦
      let rest = kept_from k (before ++ r ∷ []) rows (adds_one k before r each (record { numbers = sized.0; is_new = none })) sized.1 in
      (rest.0, record { generate = subst (λ ys. SameMembers k ys rest.0) (append_assoc before (r ∷ []) rows) rest.1.generate; add = rest.1.add })
]

-- There are such rows.
pub have_kept : (k : ℕ) (rows : List (List ℕ)) → (kept : List (List ℕ)) × AreKept k rows kept
have_kept k rows =
    let sized = map (resized (k + 1)) rows in
    let found = kept_from k [] sized (λ i row at. absurd cc) (resized_sizes k rows) in
    (found.0, record { generate = same_on k rows sized found.0 (resized_same k rows) found.1.generate; add = found.1.add })
