-- The least address at which two maps differ.
use Rattle.std.proofs.Common.{◌≡◌, ◌∙◌, ℕ, ◌<◌, List, ◌∷◌, ◌++◌, Option, None, Some, arith, nat_cmp, inl, inr, ap, refl, sym, subst}
use Rattle.std.specs.Prelude.{All, IfNone, IfSome, min}
use Rattle.std.specs.BTreeMap.{BTreeMap, IsOrdered, get}
use Rattle.std.proofs.lemmas.Bool.{cases_lt}
use Rattle.std.proofs.lemmas.Cmp.{nat_cmp_total}
use Rattle.std.proofs.lemmas.List.Elements.{All-contains}
use Rattle.std.proofs.lemmas.Map.Lookups.{exact_unsigned}
use Rattle.std.proofs.lemmas.Map.Views.{btree_map_get_iff}
use Rattle.fixpoint_table_check.proofs.Entries.{earlier}
use Rattle.fixpoint_open_tables.specs.Apart.{HasToo, least_of}
use Rattle.fixpoint_open_tables.specs.Endings.{Endings, ends_in}
use Rattle.fixpoint_open_tables.specs.Places.{AreInside, placed}
use Rattle.fixpoint_open_tables.specs.declared.ending.Ending.{Ending}
use Rattle.fixpoint_open_tables.proofs.Places.{at_place, got}

pub agree : {X : Type 0} (x y : Option X) → HasToo x y → HasToo y x → x ≡ y
agree None None h k = refl
agree None (Some b) h k = k
agree (Some a) None h k = sym h
agree (Some a) (Some b) h k = sym h

pub has_too : {X : Type 0} (x y : Option X) → x ≡ y → HasToo x y
has_too None y same = tt
has_too (Some a) y same = sym same

-- at these places two maps are the same
abbrev pub AreSameAt : {X : Type 0} → (ℕ → Option X) → (ℕ → Option X) → List (ℕ × ℕ) → Type 0
AreSameAt f g ps = All (λ (p : ℕ × ℕ). f p.0 ≡ g p.0) ps

module _ {W : Type 0} (xs : List (Ending W)) (m : BTreeMap ℕ ℕ) (inside : AreInside xs m.entries) (ordered : IsOrdered nat_cmp m) (g : Endings W) where
  abbrev f : Endings W
  f = ends_in (placed xs m.entries)

  -- an address without a place has no ending
  at_none : (b : ℕ) → get nat_cmp m b ≡ None → HasToo (f b) (g b)
  at_none b is = subst (λ y. HasToo y (g b)) (sym (got xs m inside b ∙ ap (at_place xs) is)) tt

  pub lesser_had : (before rest : List (ℕ × ℕ)) (a i : ℕ) → m.entries ≡ before ++ (a, i) ∷ rest → AreSameAt f g before → (b : ℕ) → b < a → HasToo (f b) (g b)
  lesser_had before rest a i split all b below = from (get nat_cmp m b) refl
    where
      from : (y : Option ℕ) → get nat_cmp m b ≡ y → HasToo (f b) (g b)
      from None is = at_none b is
      from (Some c) is = has_too (f b) (g b) (earlier (λ (p : ℕ × ℕ). f p.0 ≡ g p.0) m before rest a i split ordered all b c is below)

  pub all_had : AreSameAt f g m.entries → (b : ℕ) → HasToo (f b) (g b)
  all_had all b = from (get nat_cmp m b) refl
    where
      from : (y : Option ℕ) → get nat_cmp m b ≡ y → HasToo (f b) (g b)
      from None is = at_none b is
      from (Some c) is = has_too (f b) (g b) (All-contains (λ (p : ℕ × ℕ). f p.0 ≡ g p.0) m.entries (b, c) all ((btree_map_get_iff nat_cmp_total exact_unsigned m ordered b c).0 is))

-- ---- the lesser of two addresses
module _ (P Q R : ℕ → Type 0) (together : (a : ℕ) → P a → Q a → R a) where
  pub least_none : (l r : Option ℕ) → IfNone l ((a : ℕ) → P a) → IfNone r ((a : ℕ) → Q a) → IfNone (least_of l r) ((a : ℕ) → R a)
  least_none None None p q = λ a. together a (p a) (q a)
  least_none None (Some b) p q = tt
  least_none (Some a) None p q = tt
  least_none (Some a) (Some b) p q = tt

  by_least : (a b : ℕ) (T : ℕ → Type 0) → T a → T b → T (min a b)
  by_least a b T h k =
      elim (cases_lt a b) [
        | inl below ↦ let same : a ≡ min a b = omega arith in subst T same h
        | inr not_below ↦ let same : b ≡ min a b = omega arith in subst T same k
      ]

  pub least_apart : (l r : Option ℕ) → IfSome l (λ a. R a → ⊥) → IfSome r (λ a. R a → ⊥) → IfSome (least_of l r) (λ a. R a → ⊥)
  least_apart None None p q = tt
  least_apart None (Some b) p q = q
  least_apart (Some a) None p q = p
  least_apart (Some a) (Some b) p q = by_least a b (λ c. R c → ⊥) p q

  pub least_below : (l r : Option ℕ) → IfNone l ((a : ℕ) → P a) → IfNone r ((a : ℕ) → Q a) → IfSome l (λ a. (c : ℕ) → c < a → P c) → IfSome r (λ a. (c : ℕ) → c < a → Q c)
      → IfSome (least_of l r) (λ a. (c : ℕ) → c < a → R c)
  least_below None None p q below above = tt
  least_below None (Some b) p q below above = λ c less. together c (p c) (above c less)
  least_below (Some a) None p q below above = λ c less. together c (below c less) (q c)
  least_below (Some a) (Some b) p q below above = λ c less. together c (below c (omega (arith, less))) (above c (omega (arith, less)))

-- ---- two maps
module _ {X : Type 0} (x y : ℕ → Option X) (l r o : Option ℕ) (is : o ≡ least_of l r) where
  abbrev First : ℕ → Type 0
  First a = HasToo (x a) (y a)

  abbrev Second : ℕ → Type 0
  Second a = HasToo (y a) (x a)

  abbrev Same : ℕ → Type 0
  Same a = x a ≡ y a

  together_same : (a : ℕ) → First a → Second a → Same a
  together_same a h k = agree (x a) (y a) h k

  pub maps_same : IfNone l ((a : ℕ) → First a) → IfNone r ((a : ℕ) → Second a) → IfNone o ((a : ℕ) → Same a)
  maps_same h k = subst (λ o. IfNone o ((a : ℕ) → Same a)) (sym is) (least_none First Second Same together_same l r h k)

  turned : (r : Option ℕ) → IfSome r (λ a. y a ≡ x a → ⊥) → IfSome r (λ a. Same a → ⊥)
  turned None k = tt
  turned (Some a) k = λ same. k (sym same)

  pub maps_apart : IfSome l (λ a. Same a → ⊥) → IfSome r (λ a. y a ≡ x a → ⊥) → IfSome o (λ a. Same a → ⊥)
  maps_apart h k = subst (λ o. IfSome o (λ a. Same a → ⊥)) (sym is) (least_apart First Second Same together_same l r h (turned r k))

  pub maps_below : IfNone l ((a : ℕ) → First a) → IfNone r ((a : ℕ) → Second a) → IfSome l (λ a. (c : ℕ) → c < a → First c) → IfSome r (λ a. (c : ℕ) → c < a → Second c)
      → IfSome o (λ a. (c : ℕ) → c < a → Same c)
  maps_below p q h k = subst (λ o. IfSome o (λ a. (c : ℕ) → c < a → Same c)) (sym is) (least_below First Second Same together_same l r p q h k)
