-- The laws of the base of single numbers.
use Rattle.std.proofs.Common.{◌≡◌, ℕ, ◌^◌, ◌<◌, ◌≤◌, Bool, true, false, List, [], ◌∷◌, length, Option, Some, None, refl, sym, subst, arith, IsTrue, ◌↔◌, ◌⊎◌, inl, inr}
use Rattle.std.specs.Prelude.{◌==◌, nat_le, if◌then◌else◌}
use Rattle.std.proofs.lemmas.Nat.{pow_pos}
use Rattle.std.proofs.lemmas.Bool.Decides.{nat_tests}
use Rattle.word_operations.proofs.Fits.{op1_of_fits, op2_of_fits, zext_of_fits, sext_of_fits, trunc_of_fits}
use Rattle.word_operations.specs.Cmp.{cmp_of}
use Rattle.base_trait.specs.Algebra.{can_be}
use Rattle.base_trait.specs.Identity.{IsIdentity}
use Rattle.base_trait.specs.Laws.{Laws, WordLaws, NoteLaws, MayJoin}
use Rattle.base_trait.specs.Lists.{IsAmong, IsAscending, Each}
use Rattle.base_trait.specs.OneStamp.{one_stamp}
use Rattle.base_trait.specs.Stamps.{same_stamp}
use Rattle.base_trait.specs.declared.uses.Stamp.{Stamp}
use Rattle.base_trait.proofs.Lists.{number_itself, number_told}
use Rattle.base_trait.proofs.Stamps.{stamp_itself, stamp_told}
use Rattle.base_concrete.specs.Meaning.{concrete, words, only}

can_be_itself : (b : Bool) → IsTrue (can_be (only b) b)
can_be_itself true = refl
can_be_itself false = refl

denied : (b : Bool) → IsTrue (can_be (only b) true) → can_be (only b) false ≡ false
denied true h = refl
denied false h = cc

-- of equal sides, what either describes the first does
either : {A : Type 0} (P : A → Type 0) (x y : A) → MayJoin false x y → P x ⊎ P y → P x
either P x y (inl e) h = cc
either P x y (inr e) (inl h) = h
either P x y (inr e) (inr h) = subst P (sym e) h

same_side : (x y : ℕ) → MayJoin false x y → IsTrue (x == y)
same_side x y (inl e) = cc
same_side x y (inr e) = subst (λ z. IsTrue (x == z)) e (number_itself x)

-- a list of one number, where there is room for it
module _ (x limit : ℕ) where
  abbrev one_of : Bool → Option (List ℕ)
  one_of b = if b then Some (x ∷ []) else None

  none_where : (b : Bool) → b ≡ nat_le 1 limit → (one_of b ≡ None) ↔ (limit < 1)
  none_where true e = (λ h. cc, λ h. absurd (grind (arith, nat_tests)))
  none_where false e = (λ h. grind (arith, nat_tests), λ h. refl)

  holds_where : (b : Bool) (n : ℕ) (ns : List ℕ) → one_of b ≡ Some ns → n ≡ x → IsAmong n ns
  holds_where true n ns e h = let l : x ∷ [] ≡ ns = cc in subst (IsAmong n) l (inl h)
  holds_where false n ns e h = cc

  ascends_where : (b : Bool) (ns : List ℕ) → one_of b ≡ Some ns → IsAscending ns
  ascends_where true ns e = let l : x ∷ [] ≡ ns = cc in subst IsAscending l (omega arith, tt)
  ascends_where false ns e = cc

  each_where : (P : ℕ → Type 0) (b : Bool) (ns : List ℕ) → one_of b ≡ Some ns → P x → Each P ns
  each_where P true ns e h = let l : x ∷ [] ≡ ns = cc in subst (Each P) l (h, tt)
  each_where P false ns e h = cc

  few_where : (b : Bool) (ns : List ℕ) → b ≡ nat_le 1 limit → one_of b ≡ Some ns → length ns ≤ limit
  few_where true ns e d = let l : x ∷ [] ≡ ns = cc in subst (λ z. length z ≤ limit) l (grind (arith, nat_tests))
  few_where false ns e d = cc

pub word_laws : WordLaws ℕ (Unit {0}) false words
word_laws = record {
  described_fits = λ valuation w n x h. h.1;
  unseen = λ valuation other w n x e h. h;
  fits_told = λ c w x. (λ h. grind (arith, nat_tests), λ h. grind (arith, nat_tests));
  constant_sound = λ c valuation w n width h. (refl, h);
  any_sound = λ c valuation w n width joins h. cc;
  range_sound = λ c valuation w low high n width joins a b h. cc;
  op1_sound = λ c valuation op w n x width fx h. (cc, op1_of_fits op w n width h.1);
  op2_sound = λ c valuation op w m n x y width fx fy hx hy. (cc, op2_of_fits op w m n width hx.1 hy.1);
  cmp_sound = λ c valuation k w m n x y width fx fy hx hy. rw (hx.0, hy.0) (can_be_itself (cmp_of k w x y));
  zext_sound = λ c valuation from to n x widths fx h. (cc, zext_of_fits from to n widths.order h.1);
  sext_sound = λ c valuation from to n x widths fx h. (cc, sext_of_fits from to n);
  trunc_sound = λ c valuation from to n x widths fx h. (cc, trunc_of_fits from to n);
  exact_fits = λ c w v x width fx e. subst (λ z. z < 2 ^ w) (let h : x ≡ v = cc in h) fx;
  exact_only = λ c valuation w n v x width fx e h. cc;
  may_sound = λ c valuation w n x width fx h. subst (λ z. IsTrue (x == z)) (sym h.0) (number_itself x);
  members_hold = λ c valuation w limit n ns x width fx e h. holds_where x limit (nat_le 1 limit) n ns e h.0;
  members_ascend = λ c w limit ns x width fx e. ascends_where x limit (nat_le 1 limit) ns e;
  members_fit = λ c w limit ns x width fx e. each_where x limit (λ n. (n < 2 ^ w) × IsTrue (x == n)) (nat_le 1 limit) ns e (fx, number_itself x);
  members_few = λ c w limit ns x width fx e. few_where x limit (nat_le 1 limit) ns refl e;
  members_none = λ c w limit x width fx. none_where x limit (nat_le 1 limit) refl;
  join_describes = λ c valuation w n x y width may fx fy h. either (λ z. (n ≡ z) × (n < 2 ^ w)) x y may h;
  join_absorbs = λ c w x y width may fx fy. (number_itself x, same_side x y may);
  join_least = λ c w x y z width fx fy fz h k. h;
  widen_describes = λ c valuation w n x y width may fx fy h. either (λ z. (n ≡ z) × (n < 2 ^ w)) x y may h;
  widen_absorbs = λ c w x y width may fx fy. (number_itself x, same_side x y may);
  absorbs_itself = λ c w x width fx. number_itself x;
  absorbs_on = λ c w x y z width fx fy fz h k. subst (λ t. IsTrue (x == t)) (number_told y z k) h;
  absorbs_describes = λ c valuation w n old new width fx fy h k. subst (λ z. (n ≡ z) × (n < 2 ^ w)) (sym (number_told old new h)) k;
  widen_keeps = λ c w old new width joins fx fy h. refl;
  widen_falls = λ c w old new width joins fx fy h. cc;
  rank_height = λ c w x width fx. omega arith;
  is_exact = λ c w x width e fx. refl;
  not_both = λ c k w x y width e fx fy h. denied (cmp_of k w x y) h;
  constant_fits = λ c w n width h. h;
  any_fits = λ c w width. pow_pos w;
  range_fits = λ c w low high width a h. omega arith;
  op1_fits = λ c op w x width fx. op1_of_fits op w x width fx;
  op2_fits = λ c op w x y width fx fy. op2_of_fits op w x y width fx fy;
  zext_fits = λ c from to x widths fx. zext_of_fits from to x widths.order fx;
  sext_fits = λ c from to x widths fx. sext_of_fits from to x;
  trunc_fits = λ c from to x widths fx. trunc_of_fits from to x;
  join_fits = λ c w x y width fx fy. fx;
  widen_fits = λ c w x y width fx fy. fx;
}

same_side_stamp : (x y : Stamp) → MayJoin false x y → IsTrue (same_stamp x y)
same_side_stamp x y (inl e) = cc
same_side_stamp x y (inr e) = subst (λ z. IsTrue (same_stamp x z)) e (stamp_itself x)

note_laws : NoteLaws Stamp false one_stamp
note_laws = record {
  entry_sound = refl;
  at_sound = λ a. refl;
  join_describes = λ s x y may h. either (λ z. s ≡ z) x y may h;
  join_absorbs = λ x y may. (stamp_itself x, same_side_stamp x y may);
  join_least = λ x y z h k. h;
  widen_describes = λ s x y may h. either (λ z. s ≡ z) x y may h;
  widen_absorbs = λ x y may. (stamp_itself x, same_side_stamp x y may);
  absorbs_itself = λ x. stamp_itself x;
  absorbs_on = λ x y z h k. subst (λ t. IsTrue (same_stamp x t)) (stamp_told y z k) h;
  absorbs_describes = λ s old new h k. subst (λ z. s ≡ z) (sym (stamp_told old new h)) k;
  widen_keeps = λ old new joins h. refl;
  widen_falls = λ stamps old new joins a b h. cc;
  rank_height = λ stamps x. omega arith;
  reads_cover = λ m key k s x e h d. inl (record { of_map = refl; key = h; stamp = inl d });
  reads_name = λ m key x. ((refl, refl), tt);
  reads_nothing = λ m key x e. cc;
  entry_lists = (inl refl, tt);
  at_lists = λ a. (inl refl, tt);
  join_lists = λ x y. (inl refl, tt);
  widen_lists = λ x y. (inl refl, tt);
  reads_list = λ m key x. ((inl refl, tt), tt);
}

pub concrete_laws : Laws ℕ Stamp (Unit {0}) concrete
concrete_laws = record { words = word_laws; notes = note_laws }

pub same_numbers : IsIdentity (λ (x y : ℕ). x == y)
same_numbers x y h = number_told x y h
