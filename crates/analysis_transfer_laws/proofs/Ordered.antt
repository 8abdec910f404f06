-- Merged uses are in order, and cover no more than uses cover.
use Rattle.std.proofs.Common.{◌≡◌, ℕ, Bool, true, false, cond, List, [], ◌∷◌, Option, Some, None, ◌⊎◌, inl, inr, refl, sym, subst, ◌∙◌, arith, IsTrue}
use Rattle.std.specs.Prelude.{◌==◌, ◌&&◌, nat_lt}
use Rattle.std.proofs.lemmas.Bool.Decides.{nat_tests}
use Rattle.base_trait.specs.Lists.{IsAmong}
use Rattle.base_trait.specs.Stamps.{AreAscending, is_before, same_stamp}
use Rattle.base_trait.specs.Uses.{AreCovering, Covers, IsKey, Read, Seen}
use Rattle.base_trait.specs.declared.uses.Stamp.{Stamp}
use Rattle.base_trait.specs.declared.uses.Stamp.TheVariants.{Entry, At}
use Rattle.base_trait.proofs.Lists.{each_at, each_from, number_told}
use Rattle.base_trait.proofs.Stamps.{before_on, before_or_after}
use Rattle.base_trait.proofs.Tests.{and_parts, at_choice}
use Rattle.fixpoint_theory.specs.Verdicts.{same_key}
use Rattle.fixpoint_theory.proofs.Bounded.{each_weaker}
use Rattle.domain_laws.specs.declared.field.Field.{Field}
use Rattle.analysis_transfer_laws.specs.Uses.{AreInOrder, IsBeforeFirst, UsesAreMerged, either_stamp, is_cell_before, is_key_before, is_map_before, is_same_cell, merged_uses, place_of, with_stamp, with_stamps, with_use}
use Rattle.analysis_transfer_laws.proofs.Merging.{key_told, merged_keep, with_only}

-- ---- stamps
other_way : (s t : Stamp) → same_stamp s t ≡ false → same_stamp t s ≡ false
other_way Entry Entry e = e
other_way Entry (At y) e = refl
other_way (At x) Entry e = refl
other_way (At x) (At y) e = grind (arith, nat_tests)

with_ascends : (s : Stamp) (ts : List Stamp) → AreAscending ts → AreAscending (with_stamp s ts)
with_ascends s [] h = (tt, tt)
with_ascends s (t ∷ ts) h =
    at_choice AreAscending (same_stamp s t) (t ∷ ts) (cond (is_before s t) (s ∷ t ∷ ts) (t ∷ with_stamp s ts)) (λ e. h)
    (λ apart. at_choice AreAscending (is_before s t) (s ∷ t ∷ ts) (t ∷ with_stamp s ts)
    (λ first. ((first, each_weaker (λ r. IsTrue (is_before t r)) (λ r. IsTrue (is_before s r)) (λ r k. before_on s t r first k) ts h.0), h))
    (λ later. (each_from (λ r. IsTrue (is_before t r)) (with_stamp s ts) (λ r k. above r (before_or_after s t later (other_way s t apart)) (with_only r s ts k)), with_ascends s ts h.1)))
  where
    above : (r : Stamp) → IsTrue (is_before t s) → (r ≡ s) ⊎ IsAmong r ts → IsTrue (is_before t r)
    above r after (inl e) = subst (λ z. IsTrue (is_before t z)) (sym e) after
    above r after (inr k) = each_at (λ r. IsTrue (is_before t r)) ts r h.0 k

either_ascends : (ss ts : List Stamp) → AreAscending ts → AreAscending (either_stamp ss ts)
either_ascends [] ts h = h
either_ascends (s ∷ ss) ts h = with_ascends s (either_stamp ss ts) (either_ascends ss ts h)

either_only : (r : Stamp) (ss ts : List Stamp) → IsAmong r (either_stamp ss ts) → IsAmong r ss ⊎ IsAmong r ts
either_only r [] ts h = inr h
either_only r (s ∷ ss) ts h = sorted (with_only r s (either_stamp ss ts) h) (λ k. either_only r ss ts k)
  where
    sorted : (r ≡ s) ⊎ IsAmong r (either_stamp ss ts) → (IsAmong r (either_stamp ss ts) → IsAmong r ss ⊎ IsAmong r ts) → IsAmong r (s ∷ ss) ⊎ IsAmong r ts
    sorted (inl e) go = inl (inl e)
    sorted (inr k) go = more (go k)
      where
        more : IsAmong r ss ⊎ IsAmong r ts → IsAmong r (s ∷ ss) ⊎ IsAmong r ts
        more (inl k) = inl (inr k)
        more (inr k) = inr k

-- ---- cells: of two that are apart, one comes first
key_after : (j k : Option ℕ) → same_key j k ≡ false → is_key_before j k ≡ false → is_key_before k j ≡ true
key_after None None apart later = cc
key_after None (Some k) apart later = cc
key_after (Some j) None apart later = refl
key_after (Some j) (Some k) apart later = grind (arith, nat_tests)

number_after : (m n p q : ℕ) → (m == n) ≡ false → cond (p == q) (nat_lt m n) (nat_lt p q) ≡ false → cond (q == p) (nat_lt n m) (nat_lt q p) ≡ true
number_after m n p q apart later = at (p == q) refl (q == p) refl later
  where
    at : (b : Bool) → (p == q) ≡ b → (c : Bool) → (q == p) ≡ c → cond b (nat_lt m n) (nat_lt p q) ≡ false → cond c (nat_lt n m) (nat_lt q p) ≡ true
    at true e true f later = grind (arith, nat_tests)
    at true e false f later = absurd (grind (arith, nat_tests))
    at false e true f later = absurd (grind (arith, nat_tests))
    at false e false f later = grind (arith, nat_tests)

module _ (fields : List Field) where
  cell_after : (u v : Seen) → is_same_cell u v ≡ false → is_cell_before fields u v ≡ false → is_cell_before fields v u ≡ true
  cell_after u v apart later = at (u.of_map == v.of_map) refl (v.of_map == u.of_map) refl apart later
    where
      at : (b : Bool) → (u.of_map == v.of_map) ≡ b → (c : Bool) → (v.of_map == u.of_map) ≡ c → (b && same_key u.key v.key) ≡ false → cond b (is_key_before u.key v.key) (is_map_before fields u.of_map v.of_map) ≡ false
          → cond c (is_key_before v.key u.key) (is_map_before fields v.of_map u.of_map) ≡ true
      at true e true f apart later = key_after u.key v.key apart later
      at true e false f apart later = absurd (grind (arith, nat_tests))
      at false e true f apart later = absurd (grind (arith, nat_tests))
      at false e false f apart later = number_after u.of_map v.of_map (place_of fields u.of_map) (place_of fields v.of_map) e later

  same_first : (u v : Seen) (ts : List Stamp) (vs : List Seen) → IsTrue (is_same_cell u v) → IsBeforeFirst fields v vs → IsBeforeFirst fields (with_stamps u ts) vs
  same_first u v ts [] e h = tt
  same_first u v ts (w ∷ ws) e h =
      let p = and_parts (u.of_map == v.of_map) (same_key u.key v.key) e in
      subst (λ k. IsTrue (is_cell_before fields (record { of_map = u.of_map; key = k; stamps = either_stamp u.stamps ts }) w)) (sym (key_told u.key v.key p.1))
      (subst (λ m. IsTrue (is_cell_before fields (record { of_map = m; key = v.key; stamps = either_stamp u.stamps ts }) w)) (sym (number_told u.of_map v.of_map p.0)) h)

  first_kept : (v u : Seen) (vs : List Seen) → IsTrue (is_cell_before fields v u) → IsBeforeFirst fields v vs → IsBeforeFirst fields v (with_use fields u vs)
  first_kept v u [] before h = before
  first_kept v u (w ∷ ws) before h =
      at_choice (IsBeforeFirst fields v) (is_same_cell u w) (with_stamps u w.stamps ∷ ws) (cond (is_cell_before fields u w) (with_stamps u [] ∷ w ∷ ws) (w ∷ with_use fields u ws)) (λ e. before)
      (λ e. at_choice (IsBeforeFirst fields v) (is_cell_before fields u w) (with_stamps u [] ∷ w ∷ ws) (w ∷ with_use fields u ws) (λ e. before) (λ e. h))

  with_order : (u : Seen) (vs : List Seen) → AreInOrder fields vs → AreInOrder fields (with_use fields u vs)
  with_order u [] h = (tt, either_ascends u.stamps [] tt, tt)
  with_order u (v ∷ vs) h =
      at_choice (AreInOrder fields) (is_same_cell u v) (with_stamps u v.stamps ∷ vs) (cond (is_cell_before fields u v) (with_stamps u [] ∷ v ∷ vs) (v ∷ with_use fields u vs))
      (λ e. (same_first u v v.stamps vs e h.0, either_ascends u.stamps v.stamps h.1, h.2))
      (λ apart. at_choice (AreInOrder fields) (is_cell_before fields u v) (with_stamps u [] ∷ v ∷ vs) (v ∷ with_use fields u vs)
      (λ first. (first, either_ascends u.stamps [] tt, h))
      (λ later. (first_kept v u vs (cell_after u v apart later) h.0, h.1, with_order u vs h.2)))

  merged_order : (us : List Seen) → AreInOrder fields (merged_uses fields us)
  merged_order [] = tt
  merged_order (u ∷ us) = with_order u (merged_uses fields us) (merged_order us)

  -- ---- no more is covered
  module _ (r : Read) where
    own_only : (u : Seen) → Covers (with_stamps u []) r → Covers u r
    own_only u h = record { of_map = h.of_map; key = h.key; stamp = back (either_only r.stamp u.stamps [] h.stamp) }
      where
        back : IsAmong r.stamp u.stamps ⊎ IsAmong r.stamp [] → IsAmong r.stamp u.stamps
        back (inl k) = k
        back (inr k) = absurd k

    both_only : (u v : Seen) → IsTrue (is_same_cell u v) → Covers (with_stamps u v.stamps) r → Covers u r ⊎ Covers v r
    both_only u v e h = sorted (either_only r.stamp u.stamps v.stamps h.stamp)
      where
        sorted : IsAmong r.stamp u.stamps ⊎ IsAmong r.stamp v.stamps → Covers u r ⊎ Covers v r
        sorted (inl k) = inl (record { of_map = h.of_map; key = h.key; stamp = k })
        sorted (inr k) =
            let p = and_parts (u.of_map == v.of_map) (same_key u.key v.key) e in
            inr (record { of_map = sym (number_told u.of_map v.of_map p.0) ∙ h.of_map; key = subst (λ k. IsKey k r.key) (key_told u.key v.key p.1) h.key; stamp = k })

    covers_only : (u : Seen) (vs : List Seen) → AreCovering (with_use fields u vs) r → Covers u r ⊎ AreCovering vs r
    covers_only u [] (inl h) = inl (own_only u h)
    covers_only u [] (inr h) = absurd h
    covers_only u (v ∷ vs) h =
        at_choice (λ us. AreCovering us r → Covers u r ⊎ AreCovering (v ∷ vs) r) (is_same_cell u v) (with_stamps u v.stamps ∷ vs) (cond (is_cell_before fields u v) (with_stamps u [] ∷ v ∷ vs) (v ∷ with_use fields u vs)) (λ e k. same e k)
        (λ e. at_choice (λ us. AreCovering us r → Covers u r ⊎ AreCovering (v ∷ vs) r) (is_cell_before fields u v) (with_stamps u [] ∷ v ∷ vs) (v ∷ with_use fields u vs) (λ e k. first k)
        (λ e k. later k (λ k. covers_only u vs k))) h
      where
        same : IsTrue (is_same_cell u v) → AreCovering (with_stamps u v.stamps ∷ vs) r → Covers u r ⊎ AreCovering (v ∷ vs) r
        same e (inr k) = inr (inr k)
        same e (inl k) = either (both_only u v e k)
          where
            either : Covers u r ⊎ Covers v r → Covers u r ⊎ AreCovering (v ∷ vs) r
            either (inl k) = inl k
            either (inr k) = inr (inl k)

        first : AreCovering (with_stamps u [] ∷ v ∷ vs) r → Covers u r ⊎ AreCovering (v ∷ vs) r
        first (inl k) = inl (own_only u k)
        first (inr k) = inr k

        later : AreCovering (v ∷ with_use fields u vs) r → (AreCovering (with_use fields u vs) r → Covers u r ⊎ AreCovering vs r) → Covers u r ⊎ AreCovering (v ∷ vs) r
        later (inl k) go = inr (inl k)
        later (inr k) go = more (go k)
          where
            more : Covers u r ⊎ AreCovering vs r → Covers u r ⊎ AreCovering (v ∷ vs) r
            more (inl k) = inl k
            more (inr k) = inr (inr k)

    merged_only : (us : List Seen) → AreCovering (merged_uses fields us) r → AreCovering us r
    merged_only [] h = h
    merged_only (u ∷ us) h = sorted (covers_only u (merged_uses fields us) h) (λ k. merged_only us k)
      where
        sorted : Covers u r ⊎ AreCovering (merged_uses fields us) r → (AreCovering (merged_uses fields us) r → AreCovering us r) → AreCovering (u ∷ us) r
        sorted (inl k) go = inl k
        sorted (inr k) go = inr (go k)

pub uses_are_merged : UsesAreMerged
uses_are_merged fields us = record { covers = λ r. (λ h. merged_keep fields us r h, λ h. merged_only fields r us h); order = merged_order fields us }
