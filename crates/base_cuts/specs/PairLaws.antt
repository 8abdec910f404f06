-- Pairs are cut as their parts are.
use Rattle.std.proofs.Common.{Option, Some, None, IsTrue}
use Rattle.std.specs.Prelude.{IfSome, IsSomeAnd, ◌&&◌}
use Rattle.base_trait.specs.Algebra.{Algebra}
use Rattle.base_trait.proofs.Tests.{and_both}
use Rattle.base_cuts.specs.Laws.{PairsAreCut}
use Rattle.base_cuts.specs.Pairs.{both_there}

module _ {V W : Type 0} (P : V → Type 0) (Q : W → Type 0) (R : V × W → Type 0) (joined : (x : V) (y : W) → P x → Q y → R (x, y)) where
  if_both : (x : Option V) (y : Option W) → IfSome x P → IfSome y Q → IfSome (both_there x y) R
  if_both None y h k = tt
  if_both (Some x) None h k = tt
  if_both (Some x) (Some y) h k = joined x y h k

  both_and : (x : Option V) (y : Option W) → IsSomeAnd x P → IsSomeAnd y Q → IsSomeAnd (both_there x y) R
  both_and None y h k = absurd h
  both_and (Some x) None h k = absurd k
  both_and (Some x) (Some y) h k = joined x y h k

pub pairs_are_cut : {V W M N C D : Type 0} (A : Algebra V M C) (B : Algebra W N D) → PairsAreCut A B
pairs_are_cut A B K L first second = record {
  meet_fits = λ c w low high x width fits. if_both (λ y. A.words.fits c.0 w y) (λ y. B.words.fits c.1 w y) (λ y. A.words.fits c.0 w y.0 × B.words.fits c.1 w y.1) (λ y z h k. (h, k))
      (K.meet c.0 w x.0 low high) (L.meet c.1 w x.1 low high) (first.meet_fits c.0 w low high x.0 width fits.0) (second.meet_fits c.1 w low high x.1 width fits.1);
  meet_within = λ c w low high x width fits. if_both (λ y. IsTrue (A.words.absorbs c.0 w x.0 y)) (λ y. IsTrue (B.words.absorbs c.1 w x.1 y)) (λ y. IsTrue (A.words.absorbs c.0 w x.0 y.0 && B.words.absorbs c.1 w x.1 y.1))
      (λ y z h k. and_both (A.words.absorbs c.0 w x.0 y) (B.words.absorbs c.1 w x.1 z) h k)
      (K.meet c.0 w x.0 low high) (L.meet c.1 w x.1 low high) (first.meet_within c.0 w low high x.0 width fits.0) (second.meet_within c.1 w low high x.1 width fits.1);
  meet_describes = λ c valuation w low high n x width fits h a b.
      both_and (λ y. A.words.describes valuation w n y) (λ y. B.words.describes valuation w n y) (λ y. A.words.describes valuation w n y.0 × B.words.describes valuation w n y.1) (λ y z h k. (h, k))
      (K.meet c.0 w x.0 low high) (L.meet c.1 w x.1 low high) (first.meet_describes c.0 valuation w low high n x.0 width fits.0 h.0 a b) (second.meet_describes c.1 valuation w low high n x.1 width fits.1 h.1 a b);
}
