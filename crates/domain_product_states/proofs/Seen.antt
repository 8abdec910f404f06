-- What elements are seen as, by their forms.
use Rattle.std.proofs.Common.{◌≡◌, List, Vec, Global, map, sym, ap, ap₂, ◌∙◌}
use Rattle.abstract_value_laws.specs.Abs.{Parts, parts}
use Rattle.abstract_value.specs.View.{abs}
use Rattle.abstract_value.specs.declared.value.AbstractValue.{AbstractValue}
use Rattle.domain_product_states.specs.Parts.{both_parts}
use Rattle.domain_product_states.specs.Views.{seen}
use Rattle.domain_product_states.specs.declared.both.Both.{Both}
use Rattle.domain_product_states.specs.declared.both.Both.TheVariants.{Together, Apart}

module _ {X Y Z V W M N C D E : Type 0} (x : Both (Vec (AbstractValue Z (V × W) (M × N) E) Global) (Vec (AbstractValue X V M C) Global) (Vec (AbstractValue Y W N D) Global)) where
  pub together_seen : (zs : Vec (AbstractValue Z (V × W) (M × N) E) Global) (l : List (AbstractValue Z (V × W) (M × N) E)) → x ≡ Together zs → l ≡ zs.items → both_parts (parts (map abs l)) ≡ seen x
  together_seen zs l is at = ap (λ k. both_parts (parts (map abs k))) at ∙ sym (ap (λ y. seen y) is)

  pub apart_seen : (xs : Vec (AbstractValue X V M C) Global) (ys : Vec (AbstractValue Y W N D) Global) (l : List (AbstractValue X V M C)) (k : List (AbstractValue Y W N D)) → x ≡ Apart xs ys → l ≡ xs.items → k ≡ ys.items
      → ◌≡◌ {A = Parts V M × Parts W N} (parts (map abs l), parts (map abs k)) (seen x)
  apart_seen xs ys l k is at at' = ap₂ (λ p q. (parts (map abs p), parts (map abs q))) at at' ∙ sym (ap (λ y. seen y) is)

-- the values of a part that was taken out
module _ {X Y V W M N C D : Type 0} (left : Vec (AbstractValue X V M C) Global) (right : Vec (AbstractValue Y W N D) Global) (whole : Parts V M × Parts W N) (are : ◌≡◌ {A = Parts V M × Parts W N} (parts (map abs left.items), parts (map abs right.items)) whole) where
  pub first_taken : (l : List (AbstractValue X V M C)) → l ≡ left.items → parts (map abs l) ≡ whole.0
  first_taken l at = ap (λ k. parts (map abs k)) at ∙ ap (λ p. p.0) are

  pub second_taken : (l : List (AbstractValue Y W N D)) → l ≡ right.items → parts (map abs l) ≡ whole.1
  second_taken l at = ap (λ k. parts (map abs k)) at ∙ ap (λ p. p.1) are
