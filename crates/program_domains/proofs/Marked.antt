-- Texts behind the line `until open`: there is one, where there is one text, and there is one where there is a text.
use Rattle.std.proofs.Common.{◌≡◌, ◌∙◌, ◌⊎◌, ℕ, List, ◌++◌, Option, Some, None, false, true, inl, inr, ap, refl, sym}
use Rattle.std.specs.Prelude.{IsSome}
use Rattle.fixpoint_open_tables.specs.Endings.{Endings, IsNowhereOpen}
use Rattle.program_domains.specs.Until.{IsMarked, IsSomewhereOpen, Marked, until_open}

none_or_some : {X : Type 0} (o : Option X) → o ≡ None → IsSome o → ⊥
none_or_some None e some = let bad : false ≡ true = some in cc
none_or_some (Some x) e some = cc

module _ {W : Type 0} (ends others : Endings W) (same : (a : ℕ) → ends a ≡ others a) where
  one_marked : (text written found other : List ℕ) → text ≡ written → IsMarked ends text found → IsMarked others written other → found ≡ other
  one_marked text written found other e (inl h) (inl k) = h.1 ∙ e ∙ sym k.1
  one_marked text written found other e (inl h) (inr k) = let at = k.0.0 in absurd (none_or_some (others at) (sym (same at) ∙ h.0 at) k.0.1)
  one_marked text written found other e (inr h) (inl k) = let at = h.0.0 in absurd (none_or_some (ends at) (same at ∙ k.0 at) h.0.1)
  one_marked text written found other e (inr h) (inr k) = h.1 ∙ ap (λ (lines : List ℕ). until_open ++ lines) e ∙ sym k.1

  pub marked_are_one : (Is Also : List ℕ → Type 0) → ((text other : List ℕ) → Is text → Also other → text ≡ other) → (found other : List ℕ) → Marked ends Is found → Marked others Also other → found ≡ other
  marked_are_one Is Also one found other h k = one_marked h.0 k.0 found other (one h.0 k.0 h.1 k.1) h.2 k.2

module _ {W : Type 0} (ends : Endings W) (Is : List ℕ → Type 0) where
  pub marked_is_there : IsNowhereOpen ends ⊎ IsSomewhereOpen ends → (text : List ℕ) × Is text → (bytes : List ℕ) × Marked ends Is bytes
  marked_is_there (inl nowhere) found = (found.0, (found.0, found.1, inl (nowhere, refl)))
  marked_is_there (inr somewhere) found = (until_open ++ found.0, (found.0, found.1, inr (somewhere, refl)))

  -- texts of one kind are of another
  pub marked_to : (Also : List ℕ → Type 0) → ((text : List ℕ) → Is text → Also text) → (bytes : List ℕ) → Marked ends Is bytes → Marked ends Also bytes
  marked_to Also to bytes h = (h.0, to h.0 h.1, h.2)
