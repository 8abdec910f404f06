-- What is known of two values side by side.
use Rattle.std.proofs.Common.{◌≡◌, ap₂, ◌∙◌, subst, sym}
use Rattle.std.specs.Prelude.{Result, Ok, Err, IfOk, IsOkAnd}

module _ {V W E : Type 0} where
  -- two that are known
  pub beside_is : (first : Result V E) (second : Result W E) (result : Result (V × W) E) (a : V) (b : W)
      → IfOk result (λ pair. IsOkAnd first (λ x. IsOkAnd second (λ y. pair ≡ (x, y)))) → IfOk first (λ x. x ≡ a) → IfOk second (λ y. y ≡ b) → IfOk result (λ pair. pair ≡ (a, b))
  beside_is (Ok x) (Ok y) (Ok pair) a b is h k = is ∙ ap₂ (λ x y. (x, y)) h k
  beside_is (Ok x) (Err e) (Ok pair) a b is h k = absurd is
  beside_is (Err e) second (Ok pair) a b is h k = absurd is
  beside_is first second (Err e) a b is h k = tt

  -- two that fit
  pub beside_fits : (first : Result V E) (second : Result W E) (result : Result (V × W) E) (P : V → Type 0) (Q : W → Type 0)
      → IfOk result (λ pair. IsOkAnd first (λ x. IsOkAnd second (λ y. pair ≡ (x, y)))) → IfOk first P → IfOk second Q → IfOk result (λ pair. P pair.0 × Q pair.1)
  beside_fits (Ok x) (Ok y) (Ok pair) P Q is h k = subst (λ (pair : V × W). P pair.0 × Q pair.1) (sym is) (h, k)
  beside_fits (Ok x) (Err e) (Ok pair) P Q is h k = absurd is
  beside_fits (Err e) second (Ok pair) P Q is h k = absurd is
  beside_fits first second (Err e) P Q is h k = tt
