-- Lines of few words, and of many.
use Rattle.std.proofs.Common.{◌≡◌, ℕ, ◌<◌, ◌≤◌, List, [], ◌∷◌, Option, length, refl, arith}
use Rattle.std.specs.Borrow.{Bor}
use Rattle.spec_ir.specs.Specification.{Spec}
use Rattle.text_claims.specs.Meaning.{bad, line_means, sum_means, words_mean}
use Rattle.text_claims.specs.Views.{borrowed}

pub one_word : (spec : Spec) (words : List (Bor (List ℕ))) → length words < 2 → bad ≡ line_means spec (borrowed words)
one_word spec [] few = refl
one_word spec (w ∷ []) few = refl
one_word spec (w ∷ x ∷ words) few = absurd (omega (arith, few))

pub one_term : (spec : Spec) (at : Option ℕ) (first : List ℕ) (more : List (Bor (List ℕ))) → length more < 2 → words_mean spec at first (borrowed more) ≡ sum_means spec at first (borrowed more)
one_term spec at first [] few = refl
one_term spec at first (w ∷ []) few = refl
one_term spec at first (w ∷ x ∷ more) few = absurd (omega (arith, few))

pub many_terms : (spec : Spec) (at : Option ℕ) (first : List ℕ) (more : List (Bor (List ℕ))) → 3 ≤ length more → words_mean spec at first (borrowed more) ≡ sum_means spec at first (borrowed more)
many_terms spec at first [] many = absurd (omega (arith, many))
many_terms spec at first (w ∷ []) many = absurd (omega (arith, many))
many_terms spec at first (w ∷ x ∷ []) many = absurd (omega (arith, many))
many_terms spec at first (w ∷ x ∷ y ∷ more) many = refl
