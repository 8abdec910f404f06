-- Argument lists that may be missing.
use Rattle.std.proofs.Common.{Bool, true, false, Option, Some, None, refl, ◌&&◌, IsTrue}
use Rattle.std.specs.Prelude.{IfSome, IsSomeAnd}
use Rattle.support_tail_fixpoint.specs.Groups.{join_some, some_absorbs}

pub both_true : (p q : Bool) → IsTrue p → IsTrue q → IsTrue (p && q)
both_true true q h k = k
both_true false q h k = cc

pub left_true : (p q : Bool) → IsTrue (p && q) → IsTrue p
left_true true q h = refl
left_true false q h = cc

pub right_true : (p q : Bool) → IsTrue (p && q) → IsTrue q
right_true true q h = h
right_true false q h = cc

module _ {A : Type 0} (Fits : A → Type 0) where
  pub some_kept : (join : A → A → A) → ((x y : A) → Fits x → Fits y → Fits (join x y)) → (x y : Option A) → IfSome x Fits → IfSome y Fits → IfSome (join_some join x y) Fits
  some_kept join keeps None y h k = k
  some_kept join keeps (Some x) None h k = h
  some_kept join keeps (Some x) (Some y) h k = keeps x y h k

  pub some_left : (P : A → Type 0) (join : A → A → A) → ((x y : A) → Fits x → Fits y → P x → P (join x y)) → (x y : Option A) → IfSome x Fits → IfSome y Fits
      → IsSomeAnd x P → IsSomeAnd (join_some join x y) P
  some_left P join left None y hx hy holds = absurd holds
  some_left P join left (Some x) None hx hy holds = holds
  some_left P join left (Some x) (Some y) hx hy holds = left x y hx hy holds

  pub some_right : (P : A → Type 0) (join : A → A → A) → ((x y : A) → Fits x → Fits y → P y → P (join x y)) → (x y : Option A) → IfSome x Fits → IfSome y Fits
      → IsSomeAnd y P → IsSomeAnd (join_some join x y) P
  some_right P join right None y hx hy holds = holds
  some_right P join right (Some x) None hx hy holds = absurd holds
  some_right P join right (Some x) (Some y) hx hy holds = right x y hx hy holds

  module _ (absorbs : A → A → Bool) where
    pub some_absorbed : (P : A → Type 0) → ((x y : A) → Fits x → Fits y → IsTrue (absorbs x y) → P y → P x) → (x y : Option A) → IfSome x Fits → IfSome y Fits
        → IsTrue (some_absorbs absorbs x y) → IsSomeAnd y P → IsSomeAnd x P
    some_absorbed P absorbed x None hx hy h holds = absurd holds
    some_absorbed P absorbed None (Some y) hx hy h holds = cc
    some_absorbed P absorbed (Some x) (Some y) hx hy h holds = absorbed x y hx hy h holds

    pub some_absorbs_both : (join : A → A → A) → ((x : A) → Fits x → IsTrue (absorbs x x))
        → ((x y : A) → Fits x → Fits y → IsTrue (absorbs (join x y) x) × IsTrue (absorbs (join x y) y)) → (x y : Option A) → IfSome x Fits → IfSome y Fits
        → IsTrue (some_absorbs absorbs (join_some join x y) x) × IsTrue (some_absorbs absorbs (join_some join x y) y)
    some_absorbs_both join itself both None None hx hy = (refl, refl)
    some_absorbs_both join itself both None (Some y) hx hy = (refl, itself y hy)
    some_absorbs_both join itself both (Some x) None hx hy = (itself x hx, refl)
    some_absorbs_both join itself both (Some x) (Some y) hx hy = both x y hx hy

    pub some_absorbs_itself : ((x : A) → Fits x → IsTrue (absorbs x x)) → (x : Option A) → IfSome x Fits → IsTrue (some_absorbs absorbs x x)
    some_absorbs_itself itself None h = refl
    some_absorbs_itself itself (Some x) h = itself x h

    pub some_absorbs_on : ((x y z : A) → Fits x → Fits y → Fits z → IsTrue (absorbs x y) → IsTrue (absorbs y z) → IsTrue (absorbs x z))
        → (x y z : Option A) → IfSome x Fits → IfSome y Fits → IfSome z Fits → IsTrue (some_absorbs absorbs x y) → IsTrue (some_absorbs absorbs y z)
        → IsTrue (some_absorbs absorbs x z)
    some_absorbs_on on x y None hx hy hz h k = absorbs_none x
      where
        absorbs_none : (x : Option A) → IsTrue (some_absorbs absorbs x None)
        absorbs_none None = refl
        absorbs_none (Some x) = refl
    some_absorbs_on on x None (Some z) hx hy hz h k = cc
    some_absorbs_on on None (Some y) (Some z) hx hy hz h k = cc
    some_absorbs_on on (Some x) (Some y) (Some z) hx hy hz h k = on x y z hx hy hz h k
