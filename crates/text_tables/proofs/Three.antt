-- Three texts one after another.
use Rattle.std.proofs.Common.{◌≡◌, ℕ, List, ◌++◌, ap, ◌∙◌, append_assoc}

pub three_out : (old one two new x y z : List ℕ) → one ≡ old ++ x → two ≡ one ++ y → new ≡ two ++ z → new ≡ old ++ (x ++ (y ++ z))
three_out old one two new x y z first second third =
    third ∙ ap (λ (xs : List ℕ). xs ++ z) second ∙ append_assoc one y z ∙ ap (λ (xs : List ℕ). xs ++ (y ++ z)) first ∙ append_assoc old x (y ++ z)
