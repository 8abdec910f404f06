-- Endings that are gathered block by block.
use Rattle.std.proofs.Common.{◌≡◌, ◌∙◌, ℕ, ◌==◌, true, cond, List, [], ◌∷◌, ◌++◌, Option, None, Some, if◌then◌else◌, arith, nat_cmp, ap, refl, sym}
use Rattle.std.specs.Prelude.{option_map}
use Rattle.std.specs.BTreeMap.{BTreeMap, get, is_at}
use Rattle.std.specs.Map.{lookup}
use Rattle.std.proofs.lemmas.Bool.Decides.{nat_tests}
use Rattle.fixpoint_theory.specs.Analysis.{Analysis}
use Rattle.fixpoint_theory.specs.Views.{listing, listings}
use Rattle.fixpoint_theory.specs.declared.table.Table.{Table}
use Rattle.fixpoint_theory.proofs.Growth.{by_bool, by_same}
use Rattle.fixpoint_open_tables.specs.Endings.{Endings, ending_at, endings_of, ends_in}
use Rattle.fixpoint_open_tables.specs.Gathering.{IsPut}
use Rattle.fixpoint_open_tables.specs.declared.ending.Ending.{Ending}

-- what f has at the addresses of these entries, and none elsewhere
abbrev pub so_far : {X Y : Type 0} → (ℕ → Option Y) → List (ℕ × X) → ℕ → Option Y
so_far f [] a = None
so_far f (e ∷ es) a = if e.0 == a then f a else so_far f es a

-- ---- keys
key_told : (x y : ℕ) → is_at (nat_cmp x) y ≡ true → x ≡ y
key_told x y h = grind (arith, nat_tests)

module _ {X Y : Type 0} (f : ℕ → Option Y) where
  -- one more entry
  so_far_last : (es : List (ℕ × X)) (e : ℕ × X) (a : ℕ) → so_far f (es ++ e ∷ []) a ≡ (if e.0 == a then f a else so_far f es a)
  so_far_last [] e a = refl
  so_far_last (d ∷ es) e a =
      by_bool (d.0 == a) (λ b. (if b then f a else so_far f (es ++ e ∷ []) a) ≡ (if e.0 == a then f a else (if b then f a else so_far f es a)))
      (λ here. by_bool (e.0 == a) (λ b. f a ≡ (if b then f a else f a)) (λ h. refl) (λ h. refl))
      (λ apart. so_far_last es e a)

  so_far_none : (es : List (ℕ × X)) (a : ℕ) → f a ≡ None → so_far f es a ≡ None
  so_far_none [] a none = refl
  so_far_none (e ∷ es) a none = by_bool (e.0 == a) (λ b. (if b then f a else so_far f es a) ≡ None) (λ h. none) (λ h. so_far_none es a none)

  so_far_found : (es : List (ℕ × X)) (a : ℕ) (x : X) → lookup (is_at (nat_cmp a)) es ≡ Some x → so_far f es a ≡ f a
  so_far_found [] a x is = cc
  so_far_found (e ∷ es) a x is =
      by_same e.0 a (λ b. (if b then f a else so_far f es a) ≡ f a)
      (λ here. refl)
      (λ apart. so_far_found es a x (by_bool (is_at (nat_cmp a) e.0) (λ b. is_at (nat_cmp a) e.0 ≡ b → cond b (Some e.1) (lookup (is_at (nat_cmp a)) es) ≡ Some x → lookup (is_at (nat_cmp a)) es ≡ Some x)
      (λ h here told. absurd (apart (sym (key_told a e.0 here))))
      (λ h there told. told)
      refl is))

  -- all entries of a map
  pub so_far_all : (m : BTreeMap ℕ X) → ((a : ℕ) → get nat_cmp m a ≡ None → f a ≡ None) → (a : ℕ) → so_far f m.entries a ≡ f a
  so_far_all m outside a = from (get nat_cmp m a) refl
    where
      from : (y : Option X) → get nat_cmp m a ≡ y → so_far f m.entries a ≡ f a
      from None is = so_far_none m.entries a (outside a is) ∙ sym (outside a is)
      from (Some x) is = so_far_found m.entries a x is

module _ {X W : Type 0} (f : Endings W) where
  -- the ending of one more block is put
  pub put_more : (es : List (ℕ × X)) (e : ℕ × X) (m n : List (ℕ × Ending W)) (y : Option (Ending W)) → IsPut m n e.0 y → y ≡ f e.0 → ((a : ℕ) → ends_in m a ≡ so_far f es a)
      → (a : ℕ) → ends_in n a ≡ so_far f (es ++ e ∷ []) a
  put_more es e m n None put is so a =
      let same : ends_in n a ≡ so_far f es a = ap (λ m. ends_in m a) put ∙ so a in
      by_same e.0 a (λ b. ends_in n a ≡ (if b then f a else so_far f es a))
      (λ here. let none : f a ≡ None = ap f (sym here) ∙ sym is in same ∙ so_far_none f es a none ∙ sym none)
      (λ apart. same)
      ∙ sym (so_far_last f es e a)
  put_more es e m n (Some x) put is so a =
      put a
      ∙ by_same e.0 a (λ b. cond b (Some x) (ends_in m a) ≡ (if b then f a else so_far f es a)) (λ same. is ∙ ap f same) (λ apart. so a)
      ∙ sym (so_far_last f es e a)

module _ {E P W S : Type 0} (view : E → P) (A : Analysis P W S) (t : Table E) where
  pub ending_outside : (a : ℕ) → get nat_cmp t.blocks a ≡ None → endings_of A (listings view t) a ≡ None
  ending_outside a none = ap (λ y. ending_at A a (option_map (listing view) y)) none
