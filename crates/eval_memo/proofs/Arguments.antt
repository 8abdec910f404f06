-- Arguments, by the types of parameters.
use Rattle.std.proofs.Common.{ℕ, List, [], ◌∷◌, map}
use Rattle.std.specs.Prelude.{All}
use Rattle.std.proofs.lemmas.List.Elements.{All-head, All-tail}
use Rattle.base_trait.specs.Algebra.{Algebra}
use Rattle.abstract_value_laws.specs.Fits.{Fits, PartsFit}
use Rattle.abstract_value_laws.specs.Abs.{Abs, parts}

pub parts_fit : {X W N C : Type 0} (B : Algebra W N C) (c : C) (cap : ℕ) (view : X → Abs W N) (xs : List X) → All (λ x. Fits B c cap (view x)) xs → PartsFit B c cap (parts (map view xs))
parts_fit B c cap view [] h = tt
parts_fit B c cap view (x ∷ xs) h = (All-head (λ x. Fits B c cap (view x)) x xs h, parts_fit B c cap view xs (All-tail (λ x. Fits B c cap (view x)) x xs h))
