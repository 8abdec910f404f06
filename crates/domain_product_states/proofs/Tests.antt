-- Tests of two parts, put together part by part.
use Rattle.std.proofs.Common.{◌≡◌, ℕ, Bool, true, false, List, [], ◌∷◌, refl, ap, sym, ◌∙◌, IsTrue, cond, ◌⊎◌, inl, inr}
use Rattle.std.specs.Prelude.{◌&&◌, ◌==◌, nat_lt}
use Rattle.std.specs.List.{list_all}
use Rattle.base_trait.proofs.Lists.{number_told}
use Rattle.base_trait.proofs.Tests.{decide}
use Rattle.abstract_map_laws.specs.Keys.{either_key, with_key}

pub both_again : (a : Bool) → a ≡ a && a
both_again true = refl
both_again false = refl

pub swapped : (a b c d : Bool) → (a && b) && (c && d) ≡ (a && c) && (b && d)
swapped true true c d = refl
swapped true false true d = refl
swapped true false false d = refl
swapped false b c d = refl

-- a test of both parts, where a third is one of both
pub over_both : (e a b : Bool) → e && (a && b) ≡ (e && a) && (e && b)
over_both true a b = refl
over_both false a b = refl

pub and_on : (a b c : Bool) → a && (b && c) ≡ (a && b) && c
and_on true b c = refl
and_on false b c = refl

pub all_both : {X : Type 0} (p q : X → Bool) (xs : List X) → list_all (λ x. p x && q x) xs ≡ list_all p xs && list_all q xs
all_both p q [] = refl
all_both p q (x ∷ xs) = ap (λ t. (p x && q x) && t) (all_both p q xs) ∙ swapped (p x) (q x) (list_all p xs) (list_all q xs)

pub all_same : {X : Type 0} (p q : X → Bool) → ((x : X) → p x ≡ q x) → (xs : List X) → list_all p xs ≡ list_all q xs
all_same p q h [] = refl
all_same p q h (x ∷ xs) = ap (λ t. t && list_all p xs) (h x) ∙ ap (λ t. q x && t) (all_same p q h xs)

-- ---- all of the keys of either list
turned : (a b c : Bool) → a && (b && c) ≡ b && (a && c)
turned true b c = refl
turned false true c = refl
turned false false c = refl

twice : (a b : Bool) → a && b ≡ a && (a && b)
twice true b = refl
twice false b = refl

pub all_with : (p : ℕ → Bool) (k : ℕ) (ks : List ℕ) → list_all p (with_key k ks) ≡ p k && list_all p ks
all_with p k [] = refl
all_with p k (j ∷ js) = by_order (nat_lt k j) (by_key (decide (k == j)) (all_with p k js))
  where
    by_key : IsTrue (k == j) ⊎ ((k == j) ≡ false) → list_all p (with_key k js) ≡ p k && list_all p js → list_all p (cond (k == j) (j ∷ js) (j ∷ with_key k js)) ≡ p k && (p j && list_all p js)
    by_key (inl e) later = ap (λ b. list_all p (cond b (j ∷ js) (j ∷ with_key k js))) e ∙ twice (p j) (list_all p js) ∙ ap (λ n. p n && (p j && list_all p js)) (sym (number_told k j e))
    by_key (inr e) later = ap (λ b. list_all p (cond b (j ∷ js) (j ∷ with_key k js))) e ∙ ap (λ t. p j && t) later ∙ turned (p j) (p k) (list_all p js)

    by_order : (b : Bool) → list_all p (cond (k == j) (j ∷ js) (j ∷ with_key k js)) ≡ p k && (p j && list_all p js)
        → list_all p (cond b (k ∷ j ∷ js) (cond (k == j) (j ∷ js) (j ∷ with_key k js))) ≡ p k && (p j && list_all p js)
    by_order true h = refl
    by_order false h = h

pub all_either : (p : ℕ → Bool) (ks js : List ℕ) → list_all p (either_key ks js) ≡ list_all p ks && list_all p js
all_either p [] js = refl
all_either p (k ∷ ks) js = all_with p k (either_key ks js) ∙ ap (λ t. p k && t) (all_either p ks js) ∙ and_on (p k) (list_all p ks) (list_all p js)
