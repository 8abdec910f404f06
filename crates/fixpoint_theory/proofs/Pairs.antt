-- Pairs keep the laws of their parts.
use Rattle.std.proofs.Common.{◌≡◌, ◌+◌, ◌<◌, ◌≤◌, false, List, ◌++◌, arith, inl, inr, ap₂, refl}
use Rattle.std.specs.Prelude.{◌&&◌, ◌⊎◌}
use Rattle.base_trait.specs.Lists.{AreAmong, IsAmong}
use Rattle.base_trait.specs.declared.uses.Stamp.{Stamp}
use Rattle.base_trait.proofs.Lists.{among_either, among_left, among_right, are_among_at, are_among_from}
use Rattle.base_trait.proofs.Tests.{and_both, and_parts, not_both}
use Rattle.fixpoint_theory.specs.Elements.{ElementLaws, Elements}
use Rattle.fixpoint_theory.specs.Pairs.{paired}
use Rattle.fixpoint_theory.proofs.Growth.{by_bool}

-- ---- stamps of two parts
-- what lists stamps of two sides, part by part, lists stamps of both sides
lists_parts : (xs ys a b c d : List Stamp) → AreAmong xs (a ++ b) → AreAmong ys (c ++ d) → AreAmong (xs ++ ys) ((a ++ c) ++ (b ++ d))
lists_parts xs ys a b c d h k = are_among_from (xs ++ ys) ((a ++ c) ++ (b ++ d)) (λ s m. either s (among_either s xs ys m))
  where
    of_first : (s : Stamp) → IsAmong s a ⊎ IsAmong s b → IsAmong s ((a ++ c) ++ (b ++ d))
    of_first s (inl m) = among_left s (a ++ c) (b ++ d) (among_left s a c m)
    of_first s (inr m) = among_right s (a ++ c) (b ++ d) (among_left s b d m)

    of_second : (s : Stamp) → IsAmong s c ⊎ IsAmong s d → IsAmong s ((a ++ c) ++ (b ++ d))
    of_second s (inl m) = among_left s (a ++ c) (b ++ d) (among_right s a c m)
    of_second s (inr m) = among_right s (a ++ c) (b ++ d) (among_right s b d m)

    either : (s : Stamp) → IsAmong s xs ⊎ IsAmong s ys → IsAmong s ((a ++ c) ++ (b ++ d))
    either s (inl m) = of_first s (among_either s a b (are_among_at xs (a ++ b) s h m))
    either s (inr m) = of_second s (among_either s c d (are_among_at ys (c ++ d) s k m))

lists_sides : (xs ys a b : List Stamp) → AreAmong xs a → AreAmong ys b → AreAmong (xs ++ ys) (a ++ b)
lists_sides xs ys a b h k = are_among_from (xs ++ ys) (a ++ b) (λ s m. either s (among_either s xs ys m))
  where
    either : (s : Stamp) → IsAmong s xs ⊎ IsAmong s ys → IsAmong s (a ++ b)
    either s (inl m) = among_left s a b (are_among_at xs a s h m)
    either s (inr m) = among_right s a b (are_among_at ys b s k m)

pub lists_first : (xs ys stamps : List Stamp) → AreAmong (xs ++ ys) stamps → AreAmong xs stamps
lists_first xs ys stamps h = are_among_from xs stamps (λ s m. are_among_at (xs ++ ys) stamps s h (among_left s xs ys m))

pub lists_second : (xs ys stamps : List Stamp) → AreAmong (xs ++ ys) stamps → AreAmong ys stamps
lists_second xs ys stamps h = are_among_from ys stamps (λ s m. are_among_at (xs ++ ys) stamps s h (among_right s xs ys m))

-- a part that is widened does not rise
not_risen : {E S : Type 0} (D : Elements E S) (laws : ElementLaws D) (stamps : List Stamp) (old new : E) → D.fits old → D.fits new → AreAmong (D.listed old) stamps → AreAmong (D.listed new) stamps
    → D.rank stamps (D.widen old new) ≤ D.rank stamps old
not_risen D laws stamps old new fo fn lo ln =
    by_bool (D.absorbs old new) (λ b. D.absorbs old new ≡ b → D.rank stamps (D.widen old new) ≤ D.rank stamps old)
    (λ e absorbs. let same = laws.same_rank stamps (D.widen old new) old (laws.widen_fits old new fo fn) fo (laws.widen_keeps old new fo fn absorbs) in omega (arith, same))
    (λ e apart. let falls = laws.widen_falls stamps old new fo fn lo ln apart in omega (arith, falls))
    refl

module _ {E F S : Type 0} (A : Elements E S) (B : Elements F S) (a : ElementLaws A) (b : ElementLaws B) where
  abbrev P : Elements (E × F) S
  P = paired A B

  widened_falls : (stamps : List Stamp) (old new : E × F) → P.fits old → P.fits new → AreAmong (P.listed old) stamps → AreAmong (P.listed new) stamps
      → P.absorbs old new ≡ false → P.rank stamps (P.widen old new) < P.rank stamps old
  widened_falls stamps old new fo fn lo ln apart =
      let first_old = lists_first (A.listed old.0) (B.listed old.1) stamps lo in
      let first_new = lists_first (A.listed new.0) (B.listed new.1) stamps ln in
      let second_old = lists_second (A.listed old.0) (B.listed old.1) stamps lo in
      let second_new = lists_second (A.listed new.0) (B.listed new.1) stamps ln in
      let first = not_risen A a stamps old.0 new.0 fo.0 fn.0 first_old first_new in
      let second = not_risen B b stamps old.1 new.1 fo.1 fn.1 second_old second_new in
      elim (not_both (A.absorbs old.0 new.0) (B.absorbs old.1 new.1) apart) [
        | inl here ↦ let falls = a.widen_falls stamps old.0 new.0 fo.0 fn.0 first_old first_new here in omega (arith, falls, second)
        | inr there ↦ let falls = b.widen_falls stamps old.1 new.1 fo.1 fn.1 second_old second_new there in omega (arith, falls, first)
      ]

  pub paired_laws : ElementLaws (paired A B)
  paired_laws = record {
    join_fits = λ x y fx fy. (a.join_fits x.0 y.0 fx.0 fy.0, b.join_fits x.1 y.1 fx.1 fy.1);
    widen_fits = λ x y fx fy. (a.widen_fits x.0 y.0 fx.0 fy.0, b.widen_fits x.1 y.1 fx.1 fy.1);
    join_absorbs = λ x y fx fy.
        let h = a.join_absorbs x.0 y.0 fx.0 fy.0 in
        let k = b.join_absorbs x.1 y.1 fx.1 fy.1 in (
          and_both (A.absorbs (A.join x.0 y.0) x.0) (B.absorbs (B.join x.1 y.1) x.1) h.0 k.0,
          and_both (A.absorbs (A.join x.0 y.0) y.0) (B.absorbs (B.join x.1 y.1) y.1) h.1 k.1,
        );
    widen_absorbs = λ x y fx fy.
        let h = a.widen_absorbs x.0 y.0 fx.0 fy.0 in
        let k = b.widen_absorbs x.1 y.1 fx.1 fy.1 in (
          and_both (A.absorbs (A.widen x.0 y.0) x.0) (B.absorbs (B.widen x.1 y.1) x.1) h.0 k.0,
          and_both (A.absorbs (A.widen x.0 y.0) y.0) (B.absorbs (B.widen x.1 y.1) y.1) h.1 k.1,
        );
    absorbs_itself = λ x fx. and_both (A.absorbs x.0 x.0) (B.absorbs x.1 x.1) (a.absorbs_itself x.0 fx.0) (b.absorbs_itself x.1 fx.1);
    absorbs_on = λ x y z fx fy fz h k.
        let first = and_parts (A.absorbs x.0 y.0) (B.absorbs x.1 y.1) h in
        let second = and_parts (A.absorbs y.0 z.0) (B.absorbs y.1 z.1) k in
        and_both (A.absorbs x.0 z.0) (B.absorbs x.1 z.1) (a.absorbs_on x.0 y.0 z.0 fx.0 fy.0 fz.0 first.0 second.0) (b.absorbs_on x.1 y.1 z.1 fx.1 fy.1 fz.1 first.1 second.1);
    absorbs_holds = λ x y s fx fy h holds.
        let parts = and_parts (A.absorbs x.0 y.0) (B.absorbs x.1 y.1) h in
        (a.absorbs_holds x.0 y.0 s fx.0 fy.0 parts.0 holds.0, b.absorbs_holds x.1 y.1 s fx.1 fy.1 parts.1 holds.1);
    widen_keeps = λ x y fx fy h.
        let parts = and_parts (A.absorbs x.0 y.0) (B.absorbs x.1 y.1) h in
        (a.widen_keeps x.0 y.0 fx.0 fy.0 parts.0, b.widen_keeps x.1 y.1 fx.1 fy.1 parts.1);
    widen_falls = λ stamps x y fx fy lx ly apart. widened_falls stamps x y fx fy lx ly apart;
    rank_height = λ stamps x fx.
        let first = a.rank_height stamps x.0 fx.0 in
        let second = b.rank_height stamps x.1 fx.1 in
        omega (arith, first, second);
    join_lists = λ x y fx fy.
        lists_parts (A.listed (A.join x.0 y.0)) (B.listed (B.join x.1 y.1)) (A.listed x.0) (A.listed y.0) (B.listed x.1) (B.listed y.1) (a.join_lists x.0 y.0 fx.0 fy.0) (b.join_lists x.1 y.1 fx.1 fy.1);
    widen_lists = λ x y fx fy.
        lists_parts (A.listed (A.widen x.0 y.0)) (B.listed (B.widen x.1 y.1)) (A.listed x.0) (A.listed y.0) (B.listed x.1) (B.listed y.1) (a.widen_lists x.0 y.0 fx.0 fy.0) (b.widen_lists x.1 y.1 fx.1 fy.1);
    same_itself = λ x. (a.same_itself x.0, b.same_itself x.1);
    same_back = λ x y h. (a.same_back x.0 y.0 h.0, b.same_back x.1 y.1 h.1);
    same_on = λ x y z h k. (a.same_on x.0 y.0 z.0 h.0 k.0, b.same_on x.1 y.1 z.1 h.1 k.1);
    same_join = λ x x' y y' fx fx' fy fy' h k.
        (a.same_join x.0 x'.0 y.0 y'.0 fx.0 fx'.0 fy.0 fy'.0 h.0 k.0, b.same_join x.1 x'.1 y.1 y'.1 fx.1 fx'.1 fy.1 fy'.1 h.1 k.1);
    same_widen = λ x x' y y' fx fx' fy fy' h k.
        (a.same_widen x.0 x'.0 y.0 y'.0 fx.0 fx'.0 fy.0 fy'.0 h.0 k.0, b.same_widen x.1 x'.1 y.1 y'.1 fx.1 fx'.1 fy.1 fy'.1 h.1 k.1);
    same_absorbs = λ x x' y y' fx fx' fy fy' h k.
        ap₂ (λ p q. p && q) (a.same_absorbs x.0 x'.0 y.0 y'.0 fx.0 fx'.0 fy.0 fy'.0 h.0 k.0) (b.same_absorbs x.1 x'.1 y.1 y'.1 fx.1 fx'.1 fy.1 fy'.1 h.1 k.1);
    same_lists = λ x y h. lists_sides (A.listed x.0) (B.listed x.1) (A.listed y.0) (B.listed y.1) (a.same_lists x.0 y.0 h.0) (b.same_lists x.1 y.1 h.1);
    same_rank = λ stamps x y fx fy h. ap₂ (λ m n. m + n) (a.same_rank stamps x.0 y.0 fx.0 fy.0 h.0) (b.same_rank stamps x.1 y.1 fx.1 fy.1 h.1);
  }
