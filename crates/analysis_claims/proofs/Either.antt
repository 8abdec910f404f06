-- One test or another.
use Rattle.std.proofs.Common.{◌≡◌, Bool, true, false, sym, ap, ◌∙◌}
use Rattle.std.specs.Prelude.{◌||◌}

pub either_on : (a p q : Bool) → a ≡ p → a ≡ true → true ≡ p || q
either_on a p q e t = ap (λ b. b || q) (sym t ∙ e)

pub either_off : (a b p q : Bool) → a ≡ p → a ≡ false → b ≡ q → b ≡ p || q
either_off a b p q e t d = d ∙ ap (λ x. x || q) (sym t ∙ e)
