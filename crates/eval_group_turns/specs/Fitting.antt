-- Argument lists that fit, and the moves on them.
use Rattle.std.specs.Prelude.{ℕ, List}
use Rattle.base_trait.specs.Algebra.{Algebra}
use Rattle.abstract_value_laws.specs.Abs.{Abs, parts}
use Rattle.abstract_value_laws.specs.Fits.{PartsFit}
use Rattle.support_tail_fixpoint.specs.Groups.{EachIs}
use Rattle.abstract_semantics.specs.Terms.{GroupArgs}

module _ {W N C : Type 0} (B : Algebra W N C) (c : C) (cap : ℕ) where
  -- The values of a list fit.
  abbrev pub ListFits : List (Abs W N) → Type 0
  ListFits xs = PartsFit B c cap (parts xs)

  -- Each list of group arguments fits.
  abbrev pub EachFits : GroupArgs W N → Type 0
  EachFits args = EachIs (λ f xs. ListFits xs) args
