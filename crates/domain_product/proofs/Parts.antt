-- State values that are opened, and the parts of one that is closed.
use Rattle.std.proofs.Common.{◌≡◌, ℕ, Bool, Result, Ok, Err, cond, ap, sym, subst, ◌∙◌, IsTrue}
use Rattle.std.specs.Prelude.{◌^◌, ◌&&◌, IfOk, IsOkAnd, max, not}
use Rattle.base_trait.specs.Algebra.{Algebra}
use Rattle.base_trait.proofs.Tests.{and_parts}
use Rattle.base_product.specs.Meaning.{paired}
use Rattle.abstract_value_laws.specs.Abs.{Abs}
use Rattle.domain_laws.specs.States.{StateType}
use Rattle.domain_laws.specs.Values.{IsStateValue}
use Rattle.domain_product_laws.specs.Calls.{first_value, second_value}
use Rattle.domain_product_laws.specs.Domain.{may_pair}
use Rattle.domain_product_laws.proofs.Kept.{parts_are_states}

-- the value in the context, however both came
pub state_at : {W N C : Type 0} (B : Algebra W N C) (cap : ℕ) (t : StateType) (c k : C) (x y : Abs W N) → c ≡ k → x ≡ y → IsStateValue B k cap t y → IsStateValue B c cap t x
state_at B cap t c k x y e d h = subst (λ z. IsStateValue B z cap t x) (sym e) (subst (λ z. IsStateValue B k cap t z) (sym d) h)

-- what is known of a made one
pub told : {X E : Type 0} (o : Result X E) (P Q : X → Type 0) (R : Type 0) → IfOk o P → ((x : X) → P x → Q x → R) → IsOkAnd o Q → R
told (Ok x) P Q R p f h = f x p h
told (Err k) P Q R p f h = absurd h

-- what a made one is, and what an answer has of it
pub made_of : {X Y E F : Type 0} (r : Result X E) (o : Result Y F) (P : Y → Type 0) (Q : Y → X → Type 0) (R : X → Type 0) → IfOk o P → ((y : Y) (x : X) → P y → Q y x → R x) → IfOk r (λ x. IsOkAnd o (λ y. Q y x)) → IfOk r R
made_of (Ok x) (Ok y) P Q R p f h = f y x p h
made_of (Ok x) (Err k) P Q R p f h = absurd h
made_of (Err z) o P Q R p f h = h

module _ {V W M N C D : Type 0} (A : Algebra V M C) (B : Algebra W N D) (m n : ℕ) (e : m ≡ cond A.joins 256 (2 ^ 32)) (d : n ≡ cond B.joins 256 (2 ^ 32)) where
  -- each part may list as many cells as the pair
  caps : IsTrue (may_pair A B) → (max m n ≡ m) × (max m n ≡ n)
  caps may =
      let one = and_parts A.joins (B.joins && not (A.words.looks && B.words.looks)) may in
      let two = and_parts B.joins (not (A.words.looks && B.words.looks)) one.1 in
      let left : m ≡ 256 = e ∙ ap (λ t. cond t 256 (2 ^ 32)) one.0 in
      let right : n ≡ 256 = d ∙ ap (λ t. cond t 256 (2 ^ 32)) two.0 in
      let both : max m n ≡ 256 = ap (λ t. max t n) left ∙ ap (λ t. max 256 t) right in
      (both ∙ sym left, both ∙ sym right)

  -- of two bases that may stand side by side, where p and q say that both domains are for the specification
  pub closed_parts : (p q : Bool) → IsTrue (p && (q && may_pair A B)) → (c : C × D) (t : StateType) (x : Abs (V × W) (M × N)) → IsStateValue (paired A B) c (max m n) t x
      → IsStateValue A c.0 m t (first_value x) × IsStateValue B c.1 n t (second_value x)
  closed_parts p q made c t x h =
      let same = caps (and_parts q (may_pair A B) (and_parts p (q && may_pair A B) made).1).1 in
      let parts = parts_are_states A B c (max m n) t x h in
      (subst (λ z. IsStateValue A c.0 z t (first_value x)) same.0 parts.0, subst (λ z. IsStateValue B c.1 z t (second_value x)) same.1 parts.1)
