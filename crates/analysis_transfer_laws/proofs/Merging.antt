-- Merged uses cover what uses cover, and list no other stamps.
use Rattle.std.proofs.Common.{◌≡◌, ℕ, cond, List, [], ◌∷◌, Option, Some, None, ◌⊎◌, inl, inr, refl, sym, ap, subst, ◌∙◌, IsTrue}
use Rattle.std.specs.Prelude.{◌==◌}
use Rattle.base_trait.specs.Lists.{AreAmong, IsAmong}
use Rattle.base_trait.specs.Stamps.{is_before, same_stamp}
use Rattle.base_trait.specs.Uses.{AreCovering, Covers, IsKey, Read, Seen}
use Rattle.base_trait.specs.declared.uses.Stamp.{Stamp}
use Rattle.base_trait.proofs.Lists.{are_among_at, are_among_from, number_told}
use Rattle.base_trait.proofs.Stamps.{stamp_told}
use Rattle.base_trait.proofs.Tests.{and_parts, at_choice}
use Rattle.fixpoint_theory.specs.Outcome.{AreOfStamps}
use Rattle.fixpoint_theory.specs.Verdicts.{same_key}
use Rattle.abstract_semantics.specs.Sound.{Keeps}
use Rattle.domain_laws.specs.declared.field.Field.{Field}
use Rattle.analysis_transfer_laws.specs.Uses.{either_stamp, is_cell_before, is_same_cell, merged_uses, with_stamp, with_stamps, with_use}

-- ---- stamps
with_has : (r s : Stamp) (ts : List Stamp) → (r ≡ s) ⊎ IsAmong r ts → IsAmong r (with_stamp s ts)
with_has r s [] (inl e) = inl e
with_has r s [] (inr h) = absurd h
with_has r s (t ∷ ts) h =
    at_choice (IsAmong r) (same_stamp s t) (t ∷ ts) (cond (is_before s t) (s ∷ t ∷ ts) (t ∷ with_stamp s ts)) (λ e. same (stamp_told s t e) h)
    (λ e. at_choice (IsAmong r) (is_before s t) (s ∷ t ∷ ts) (t ∷ with_stamp s ts) (λ e. first h) (λ e. later h (λ k. with_has r s ts k)))
  where
    same : s ≡ t → (r ≡ s) ⊎ IsAmong r (t ∷ ts) → IsAmong r (t ∷ ts)
    same e (inl h) = inl (h ∙ e)
    same e (inr h) = h

    first : (r ≡ s) ⊎ IsAmong r (t ∷ ts) → IsAmong r (s ∷ t ∷ ts)
    first (inl h) = inl h
    first (inr h) = inr h

    later : (r ≡ s) ⊎ IsAmong r (t ∷ ts) → ((r ≡ s) ⊎ IsAmong r ts → IsAmong r (with_stamp s ts)) → IsAmong r (t ∷ with_stamp s ts)
    later (inl h) go = inr (go (inl h))
    later (inr (inl h)) go = inl h
    later (inr (inr h)) go = inr (go (inr h))

either_has : (r : Stamp) (ss ts : List Stamp) → IsAmong r ss ⊎ IsAmong r ts → IsAmong r (either_stamp ss ts)
either_has r [] ts (inl h) = absurd h
either_has r [] ts (inr h) = h
either_has r (s ∷ ss) ts (inl (inl e)) = with_has r s (either_stamp ss ts) (inl e)
either_has r (s ∷ ss) ts (inl (inr h)) = with_has r s (either_stamp ss ts) (inr (either_has r ss ts (inl h)))
either_has r (s ∷ ss) ts (inr h) = with_has r s (either_stamp ss ts) (inr (either_has r ss ts (inr h)))

pub with_only : (r s : Stamp) (ts : List Stamp) → IsAmong r (with_stamp s ts) → (r ≡ s) ⊎ IsAmong r ts
with_only r s [] (inl e) = inl e
with_only r s [] (inr h) = absurd h
with_only r s (t ∷ ts) h =
    at_choice (λ us. IsAmong r us → (r ≡ s) ⊎ IsAmong r (t ∷ ts)) (same_stamp s t) (t ∷ ts) (cond (is_before s t) (s ∷ t ∷ ts) (t ∷ with_stamp s ts)) (λ e k. inr k)
    (λ e. at_choice (λ us. IsAmong r us → (r ≡ s) ⊎ IsAmong r (t ∷ ts)) (is_before s t) (s ∷ t ∷ ts) (t ∷ with_stamp s ts) (λ e k. k) (λ e k. later k (λ h. with_only r s ts h))) h
  where
    later : IsAmong r (t ∷ with_stamp s ts) → (IsAmong r (with_stamp s ts) → (r ≡ s) ⊎ IsAmong r ts) → (r ≡ s) ⊎ IsAmong r (t ∷ ts)
    later (inl k) go = inr (inl k)
    later (inr k) go = more (go k)
      where
        more : (r ≡ s) ⊎ IsAmong r ts → (r ≡ s) ⊎ IsAmong r (t ∷ ts)
        more (inl e) = inl e
        more (inr h) = inr (inr h)

either_within : (stamps ss ts : List Stamp) → ((r : Stamp) → IsAmong r ss → IsAmong r stamps) → ((r : Stamp) → IsAmong r ts → IsAmong r stamps) → (r : Stamp) → IsAmong r (either_stamp ss ts) → IsAmong r stamps
either_within stamps [] ts f g r h = g r h
either_within stamps (s ∷ ss) ts f g r h = sorted (with_only r s (either_stamp ss ts) h) (λ k. either_within stamps ss ts (λ r k. f r (inr k)) g r k)
  where
    sorted : (r ≡ s) ⊎ IsAmong r (either_stamp ss ts) → (IsAmong r (either_stamp ss ts) → IsAmong r stamps) → IsAmong r stamps
    sorted (inl e) go = f r (inl e)
    sorted (inr k) go = go k

-- ---- uses
pub key_told : (j k : Option ℕ) → IsTrue (same_key j k) → j ≡ k
key_told None None h = refl
key_told None (Some k) h = cc
key_told (Some j) None h = cc
key_told (Some j) (Some k) h = ap Some (number_told j k h)

module _ (r : Read) where
  own_covers : (u : Seen) (ts : List Stamp) → Covers u r → Covers (with_stamps u ts) r
  own_covers u ts h = record { of_map = h.of_map; key = h.key; stamp = either_has r.stamp u.stamps ts (inl h.stamp) }

  other_covers : (u v : Seen) → IsTrue (is_same_cell u v) → Covers v r → Covers (with_stamps u v.stamps) r
  other_covers u v e h =
      let p = and_parts (u.of_map == v.of_map) (same_key u.key v.key) e in
      record {
        of_map = number_told u.of_map v.of_map p.0 ∙ h.of_map;
        key = subst (λ k. IsKey k r.key) (sym (key_told u.key v.key p.1)) h.key;
        stamp = either_has r.stamp u.stamps v.stamps (inr h.stamp);
      }

  module _ (fields : List Field) where
    with_covers : (u : Seen) (vs : List Seen) → Covers u r ⊎ AreCovering vs r → AreCovering (with_use fields u vs) r
    with_covers u [] (inl h) = inl (own_covers u [] h)
    with_covers u [] (inr h) = absurd h
    with_covers u (v ∷ vs) h =
        at_choice (λ us. AreCovering us r) (is_same_cell u v) (with_stamps u v.stamps ∷ vs) (cond (is_cell_before fields u v) (with_stamps u [] ∷ v ∷ vs) (v ∷ with_use fields u vs)) (λ e. same e h)
        (λ e. at_choice (λ us. AreCovering us r) (is_cell_before fields u v) (with_stamps u [] ∷ v ∷ vs) (v ∷ with_use fields u vs) (λ e. first h) (λ e. later h (λ k. with_covers u vs k)))
      where
        same : IsTrue (is_same_cell u v) → Covers u r ⊎ AreCovering (v ∷ vs) r → AreCovering (with_stamps u v.stamps ∷ vs) r
        same e (inl h) = inl (own_covers u v.stamps h)
        same e (inr (inl h)) = inl (other_covers u v e h)
        same e (inr (inr h)) = inr h

        first : Covers u r ⊎ AreCovering (v ∷ vs) r → AreCovering (with_stamps u [] ∷ v ∷ vs) r
        first (inl h) = inl (own_covers u [] h)
        first (inr h) = inr h

        later : Covers u r ⊎ AreCovering (v ∷ vs) r → (Covers u r ⊎ AreCovering vs r → AreCovering (with_use fields u vs) r) → AreCovering (v ∷ with_use fields u vs) r
        later (inl h) go = inr (go (inl h))
        later (inr (inl h)) go = inl h
        later (inr (inr h)) go = inr (go (inr h))

    merged_covers : (us : List Seen) → AreCovering us r → AreCovering (merged_uses fields us) r
    merged_covers [] h = h
    merged_covers (u ∷ us) (inl h) = with_covers u (merged_uses fields us) (inl h)
    merged_covers (u ∷ us) (inr h) = with_covers u (merged_uses fields us) (inr (merged_covers us h))

pub merged_keep : (fields : List Field) (us : List Seen) → Keeps us (merged_uses fields us)
merged_keep fields us r h = merged_covers r fields us h

module _ (stamps : List Stamp) where
  more_within : (u : Seen) (ts : List Stamp) → AreAmong u.stamps stamps → AreAmong ts stamps → AreAmong (with_stamps u ts).stamps stamps
  more_within u ts h k =
      are_among_from (either_stamp u.stamps ts) stamps (λ r a. either_within stamps u.stamps ts (λ r b. are_among_at u.stamps stamps r h b) (λ r b. are_among_at ts stamps r k b) r a)

  with_within : (fields : List Field) (u : Seen) (vs : List Seen) → AreAmong u.stamps stamps → AreOfStamps stamps vs → AreOfStamps stamps (with_use fields u vs)
  with_within fields u [] h k = (more_within u [] h tt, tt)
  with_within fields u (v ∷ vs) h k =
      at_choice (AreOfStamps stamps) (is_same_cell u v) (with_stamps u v.stamps ∷ vs) (cond (is_cell_before fields u v) (with_stamps u [] ∷ v ∷ vs) (v ∷ with_use fields u vs)) (λ e. (more_within u v.stamps h k.0, k.1))
      (λ e. at_choice (AreOfStamps stamps) (is_cell_before fields u v) (with_stamps u [] ∷ v ∷ vs) (v ∷ with_use fields u vs) (λ e. (more_within u [] h tt, k)) (λ e. (k.0, with_within fields u vs h k.1)))

  pub merged_within : (fields : List Field) (us : List Seen) → AreOfStamps stamps us → AreOfStamps stamps (merged_uses fields us)
  merged_within fields [] h = tt
  merged_within fields (u ∷ us) h = with_within fields u (merged_uses fields us) h.0 (merged_within fields us h.1)
