-- Rows added one by one.
use Rattle.std.proofs.Common.{◌≡◌, ℕ, zero, suc, ◌+◌, ◌≤◌, Bool, true, false, IsTrue, List, [], ◌∷◌, ◌++◌, length, take, drop, slice_get, Some, refl, sym, ap, ◌∙◌, subst, arith, ◌↔◌, append_assoc}
use Rattle.std.specs.Prelude.{◌&&◌}
use Rattle.support_modular_rows.specs.Laws.{IsWithin}
use Rattle.support_modular_rows.specs.Rank.{IsRank}
use Rattle.support_modular_rows.specs.Submodule.{IsMember}
use Rattle.support_modular_rows.proofs.Closure.{append_joins}
use Rattle.support_modular_rows.proofs.Images.{take_snoc}
use Rattle.support_modular_rows.proofs.OneRank.{has_one_rank}
use Rattle.domain_affine_element_laws.specs.Elements.{SameMembers}
use Rattle.domain_affine_element_laws.specs.Ranks.{rank_of}
use Rattle.domain_affine_element_laws.proofs.Ranks.{is_rank}
use Rattle.domain_affine_element_laws.specs.Membership.{are_members, is_member}
use Rattle.domain_affine_element_laws.proofs.Membership.{members_are_told}

module _ (k : ℕ) where
  -- one more row
  pub adds_one : (rows xs more : List (List ℕ)) (r : List ℕ) → SameMembers k rows xs → ((x : List ℕ) → IsMember k more x ↔ IsMember k (r ∷ rows) x) → SameMembers k more (xs ++ r ∷ [])
  adds_one rows xs more r same adds x = (
    λ h. within x ((adds x).0 h),
    λ h. (adds x).1 (back x h),
  )
    where
      within : IsWithin k (r ∷ rows) (xs ++ r ∷ [])
      within =
          (append_joins k (r ∷ []) rows).least (xs ++ r ∷ []) (append_joins k xs (r ∷ [])).right (λ x h. (append_joins k xs (r ∷ [])).left x ((same x).0 h))

      back : IsWithin k (xs ++ r ∷ []) (r ∷ rows)
      back = (append_joins k xs (r ∷ [])).least (r ∷ rows) (λ x h. (append_joins k (r ∷ []) rows).right x ((same x).1 h)) (append_joins k (r ∷ []) rows).left

  -- the rows up to a place, and that one
  pub adds_next : (old rows xs more : List (List ℕ)) (i : ℕ) (r : List ℕ) → slice_get xs i ≡ Some r → SameMembers k rows (old ++ take i xs)
      → ((x : List ℕ) → IsMember k more x ↔ IsMember k (r ∷ rows) x) → SameMembers k more (old ++ take (i + 1) xs)
  adds_next old rows xs more i r item same adds =
      let next : suc i ≡ i + 1 = omega arith in
      let whole : old ++ take i xs ++ r ∷ [] ≡ old ++ take (i + 1) xs =
      append_assoc old (take i xs) (r ∷ []) ∙ ap (λ l. old ++ l) (sym (take_snoc xs i r item) ∙ ap (λ j. take j xs) next) in
      subst (SameMembers k more) whole (adds_one rows (old ++ take i xs) more r same adds)

  -- ---- rows that are members
  drop_item : (xs : List (List ℕ)) (i : ℕ) (r : List ℕ) → slice_get xs i ≡ Some r → drop i xs ≡ r ∷ drop (suc i) xs
  drop_item [] i r e = cc
  drop_item (x ∷ xs) zero r e = ap (λ y. y ∷ xs) (let same : x ≡ r = cc in same)
  drop_item (x ∷ xs) (suc i) r e = drop_item xs i r e

  told : (b c : Bool) → (IsTrue b → IsTrue c) → (IsTrue c → IsTrue b) → b ≡ c
  told true c f g = sym (f refl)
  told false true f g = g refl
  told false false f g = refl

  -- the test at a place, and at those behind it
  pub members_next : (rows xs : List (List ℕ)) (i : ℕ) (r : List ℕ) (b : Bool) → slice_get xs i ≡ Some r → (IsTrue b ↔ IsMember k rows r)
      → are_members k rows (drop i xs) ≡ (b && are_members k rows (drop (i + 1) xs))
  members_next rows xs i r b item is =
      let next : suc i ≡ i + 1 = omega arith in
      ap (are_members k rows) (drop_item xs i r item)
      ∙ ap (λ t. t && are_members k rows (drop (suc i) xs)) (told (is_member k rows r) b (λ h. is.1 ((members_are_told k rows r).0 h)) (λ h. (members_are_told k rows r).1 (is.0 h)))
      ∙ ap (λ j. b && are_members k rows (drop j xs)) next

  -- the rank of the rows is the one that they have
  pub rank_is : (rows : List (List ℕ)) (n : ℕ) → IsRank k rows n → n ≡ rank_of k rows
  rank_is rows n h = let one = has_one_rank k rows in one.2 n h ∙ sym (one.2 (rank_of k rows) (is_rank k rows))

pub take_whole : (i : ℕ) (xs : List (List ℕ)) → length xs ≤ i → take i xs ≡ xs
take_whole zero [] le = refl
take_whole zero (x ∷ xs) le = absurd (omega (arith, le))
take_whole (suc i) [] le = refl
take_whole (suc i) (x ∷ xs) le = ap (λ l. x ∷ l) (take_whole i xs (omega (arith, le)))
