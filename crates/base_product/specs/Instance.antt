-- The laws of a pair follow from those of its parts.
use Rattle.std.proofs.Common.{◌≡◌, ℕ, ◌+◌, ◌^◌, ◌<◌, ◌≤◌, Bool, true, false, List, [], ◌∷◌, ◌++◌, length, Option, Some, None, refl, sym, ap, ◌∙◌, subst, arith, IsTrue, IsSome, ◌↔◌, ◌⊎◌, inl, inr, cond}
use Rattle.std.specs.Prelude.{◌&&◌, max, if◌then◌else◌}
use Rattle.std.specs.List.{filter}
use Rattle.word_operations.specs.declared.kinds.WordComparison.{WordComparison}
use Rattle.word_operations.specs.Cmp.{cmp_of}
use Rattle.word_operations.specs.Width.{IsWidth}
use Rattle.base_trait.specs.Algebra.{Algebra, Words, Notes, can_be}
use Rattle.base_trait.specs.Laws.{Laws, WordLaws, NoteLaws, MayJoin}
use Rattle.base_trait.specs.Lists.{IsAmong, AreAmong, Each, IsAscendingFrom, IsAscending}
use Rattle.base_trait.specs.Uses.{AreCovering, Read, Seen, IsKey}
use Rattle.base_trait.specs.Identity.{IsIdentity}
use Rattle.base_trait.specs.declared.tri.Tri.{Tri}
use Rattle.base_trait.specs.declared.uses.Stamp.{Stamp}
use Rattle.base_trait.proofs.Lists.{among_left, among_right, among_either, are_among_from, are_among_at, each_from, each_at, ascending_lower, filter_shorter}
use Rattle.base_trait.proofs.Tests.{or_sorted, neither, and_both, and_parts, not_both}
use Rattle.base_trait.specs.PairedNotes.{paired_notes}
use Rattle.base_product.specs.Meaning.{both_allow, first_of, shared_members, paired_words, paired}

both_can : (t u : Tri) (b : Bool) → IsTrue (can_be t b) → IsTrue (can_be u b) → IsTrue (can_be (both_allow t u) b)
both_can t u true h k = and_both t.may_true u.may_true h k
both_can t u false h k = and_both t.may_false u.may_false h k

exact_is : (a b : Option ℕ) (P : ℕ → Type 0) (v : ℕ) → first_of a b ≡ Some v → ((u : ℕ) → a ≡ Some u → P u) → ((u : ℕ) → b ≡ Some u → P u) → P v
exact_is None b P v e f g = g v e
exact_is (Some x) b P v e f g = f v e

exact_some : (a b : Option ℕ) → IsSome a ⊎ IsSome b → IsSome (first_of a b)
exact_some None b (inl h) = cc
exact_some None b (inr h) = h
exact_some (Some x) b h = refl

-- ---- lists less what is excluded
filter_has : (test : ℕ → Bool) (n : ℕ) (xs : List ℕ) → IsAmong n xs → IsTrue (test n) → IsAmong n (filter test xs)
filter_has test n [] h t = absurd h
filter_has test n (x ∷ xs) h t = at_test (test x) refl h (λ k. filter_has test n xs k t)
  where
    at_test : (b : Bool) → b ≡ test x → IsAmong n (x ∷ xs) → (IsAmong n xs → IsAmong n (filter test xs)) → IsAmong n (cond b (x ∷ filter test xs) (filter test xs))
    at_test true e (inl k) f = inl k
    at_test true e (inr k) f = inr (f k)
    at_test false e (inl k) f = let same = subst (λ z. IsTrue (test z)) k t in cc
    at_test false e (inr k) f = f k

filter_only : (test : ℕ → Bool) (n : ℕ) (xs : List ℕ) → IsAmong n (filter test xs) → IsAmong n xs × IsTrue (test n)
filter_only test n [] h = absurd h
filter_only test n (x ∷ xs) h = at_test (test x) refl h (filter_only test n xs)
  where
    at_test : (b : Bool) → b ≡ test x → IsAmong n (cond b (x ∷ filter test xs) (filter test xs)) → (IsAmong n (filter test xs) → IsAmong n xs × IsTrue (test n)) → IsAmong n (x ∷ xs) × IsTrue (test n)
    at_test true e (inl k) f = (inl k, subst (λ z. IsTrue (test z)) (sym k) (sym e))
    at_test true e (inr k) f = let r = f k in (inr r.0, r.1)
    at_test false e k f = let r = f k in (inr r.0, r.1)

filter_ascends : (test : ℕ → Bool) (low : ℕ) (xs : List ℕ) → IsAscendingFrom low xs → IsAscendingFrom low (filter test xs)
filter_ascends test low [] h = tt
filter_ascends test low (x ∷ xs) h = at_test (test x) (filter_ascends test (x + 1) xs h.1)
  where
    at_test : (b : Bool) → IsAscendingFrom (x + 1) (filter test xs) → IsAscendingFrom low (cond b (x ∷ filter test xs) (filter test xs))
    at_test true k = (h.0, k)
    at_test false k = let first = h.0 in ascending_lower (x + 1) low (filter test xs) (omega (arith, first)) k

-- what holds of the members of a pair: P of those of the first part that the second allows, and the other way round
shared_are : (P : List ℕ → Type 0) (a b : Option (List ℕ)) (f g : ℕ → Bool) (ns : List ℕ) → shared_members a f b g ≡ Some ns
    → ((xs : List ℕ) → a ≡ Some xs → P (filter g xs)) → ((ys : List ℕ) → b ≡ Some ys → P (filter f ys)) → P ns
shared_are P (Some xs) b f g ns e h k = let same : filter g xs ≡ ns = cc in subst P same (h xs refl)
shared_are P None (Some ys) f g ns e h k = let same : filter f ys ≡ ns = cc in subst P same (k ys refl)
shared_are P None None f g ns e h k = cc

shared_none : (a b : Option (List ℕ)) (f g : ℕ → Bool) → (shared_members a f b g ≡ None) ↔ ((a ≡ None) × (b ≡ None))
shared_none (Some xs) b f g = (λ h. cc, λ h. let first = h.0 in cc)
shared_none None (Some ys) f g = (λ h. cc, λ h. let second = h.1 in cc)
shared_none None None f g = (λ h. (refl, refl), λ h. refl)

-- ---- sides of a join
may_parts : {V W : Type 0} (p q : Bool) (x y : V × W) → MayJoin (p && q) x y → MayJoin p x.0 y.0 × MayJoin q x.1 y.1
may_parts p q x y (inl h) = let k = and_parts p q h in (inl k.0, inl k.1)
may_parts p q x y (inr e) = (inr (ap (λ z. z.0) e), inr (ap (λ z. z.1) e))

firsts : {P Q R S : Type 0} → (P × Q) ⊎ (R × S) → P ⊎ R
firsts (inl h) = inl h.0
firsts (inr h) = inr h.0

seconds : {P Q R S : Type 0} → (P × Q) ⊎ (R × S) → Q ⊎ S
seconds (inl h) = inl h.1
seconds (inr h) = inr h.1

-- ---- ranks
falls : (p q r s : ℕ) (a b : Bool) → (a && b) ≡ false → (a ≡ false → p < r) → (IsTrue a → p ≡ r) → (b ≡ false → q < s) → (IsTrue b → q ≡ s) → p + q < r + s
falls p q r s true true e f g h k = cc
falls p q r s true false e f g h k = let same = g refl in let less = h refl in omega (arith, same, less)
falls p q r s false true e f g h k = let same = k refl in let less = f refl in omega (arith, same, less)
falls p q r s false false e f g h k = let first = f refl in let second = h refl in omega (arith, first, second)

module _ {V W C D : Type 0} (p q : Bool) (A : Words V C) (B : Words W D) (a : WordLaws V C p A) (b : WordLaws W D q B) where
  pub paired_word_laws : WordLaws (V × W) (C × D) (p && q) (paired_words A B)
  paired_word_laws = record {
    described_fits = λ valuation w n x h. a.described_fits valuation w n x.0 h.0;
    unseen = λ valuation other w n x e h. let k = neither A.looks B.looks e in (a.unseen valuation other w n x.0 k.0 h.0, b.unseen valuation other w n x.1 k.1 h.1);
    fits_told = λ c w x.
        let left = a.fits_told c.0 w x.0 in let right = b.fits_told c.1 w x.1 in (
          λ h. let k = and_parts _ _ h in (left.0 k.0, right.0 k.1),
          λ h. and_both _ _ (left.1 h.0) (right.1 h.1),
        );
    constant_sound = λ c valuation w n width h. (a.constant_sound c.0 valuation w n width h, b.constant_sound c.1 valuation w n width h);
    any_sound = λ c valuation w n width joins h. let j = and_parts p q joins in (a.any_sound c.0 valuation w n width j.0 h, b.any_sound c.1 valuation w n width j.1 h);
    range_sound = λ c valuation w low high n width joins h k l. let j = and_parts p q joins in (a.range_sound c.0 valuation w low high n width j.0 h k l, b.range_sound c.1 valuation w low high n width j.1 h k l);
    op1_sound = λ c valuation op w n x width fx h. (a.op1_sound c.0 valuation op w n x.0 width fx.0 h.0, b.op1_sound c.1 valuation op w n x.1 width fx.1 h.1);
    op2_sound = λ c valuation op w m n x y width fx fy hx hy. (a.op2_sound c.0 valuation op w m n x.0 y.0 width fx.0 fy.0 hx.0 hy.0, b.op2_sound c.1 valuation op w m n x.1 y.1 width fx.1 fy.1 hx.1 hy.1);
    cmp_sound = λ c valuation k w m n x y width fx fy hx hy. both_can (A.cmp c.0 k w x.0 y.0) (B.cmp c.1 k w x.1 y.1) (cmp_of k w m n) (a.cmp_sound c.0 valuation k w m n x.0 y.0 width fx.0 fy.0 hx.0 hy.0) (b.cmp_sound c.1 valuation k w m n x.1 y.1 width fx.1 fy.1 hx.1 hy.1);
    zext_sound = λ c valuation from to n x widths fx h. (a.zext_sound c.0 valuation from to n x.0 widths fx.0 h.0, b.zext_sound c.1 valuation from to n x.1 widths fx.1 h.1);
    sext_sound = λ c valuation from to n x widths fx h. (a.sext_sound c.0 valuation from to n x.0 widths fx.0 h.0, b.sext_sound c.1 valuation from to n x.1 widths fx.1 h.1);
    trunc_sound = λ c valuation from to n x widths fx h. (a.trunc_sound c.0 valuation from to n x.0 widths fx.0 h.0, b.trunc_sound c.1 valuation from to n x.1 widths fx.1 h.1);
    exact_fits = λ c w v x width fx e. exact_is (A.exact c.0 w x.0) (B.exact c.1 w x.1) (λ u. u < 2 ^ w) v e (λ u d. a.exact_fits c.0 w u x.0 width fx.0 d) (λ u d. b.exact_fits c.1 w u x.1 width fx.1 d);
    exact_only = λ c valuation w n v x width fx e h. exact_is (A.exact c.0 w x.0) (B.exact c.1 w x.1) (λ u. n ≡ u) v e (λ u d. a.exact_only c.0 valuation w n u x.0 width fx.0 d h.0) (λ u d. b.exact_only c.1 valuation w n u x.1 width fx.1 d h.1);
    may_sound = λ c valuation w n x width fx h. and_both _ _ (a.may_sound c.0 valuation w n x.0 width fx.0 h.0) (b.may_sound c.1 valuation w n x.1 width fx.1 h.1);
    members_hold = λ c valuation w limit n ns x width fx e h. shared_are (IsAmong n) (A.members c.0 w x.0 limit) (B.members c.1 w x.1 limit) (A.may c.0 w x.0) (B.may c.1 w x.1) ns e
        (λ xs d. filter_has (B.may c.1 w x.1) n xs (a.members_hold c.0 valuation w limit n xs x.0 width fx.0 d h.0) (b.may_sound c.1 valuation w n x.1 width fx.1 h.1))
        (λ ys d. filter_has (A.may c.0 w x.0) n ys (b.members_hold c.1 valuation w limit n ys x.1 width fx.1 d h.1) (a.may_sound c.0 valuation w n x.0 width fx.0 h.0));
    members_ascend = λ c w limit ns x width fx e. shared_are IsAscending (A.members c.0 w x.0 limit) (B.members c.1 w x.1 limit) (A.may c.0 w x.0) (B.may c.1 w x.1) ns e
        (λ xs d. filter_ascends (B.may c.1 w x.1) 0 xs (a.members_ascend c.0 w limit xs x.0 width fx.0 d))
        (λ ys d. filter_ascends (A.may c.0 w x.0) 0 ys (b.members_ascend c.1 w limit ys x.1 width fx.1 d));
    members_fit = λ c w limit ns x width fx e. shared_are (Each (λ n. (n < 2 ^ w) × IsTrue (A.may c.0 w x.0 n && B.may c.1 w x.1 n))) (A.members c.0 w x.0 limit) (B.members c.1 w x.1 limit) (A.may c.0 w x.0) (B.may c.1 w x.1) ns e
        (λ xs d. each_from (λ n. (n < 2 ^ w) × IsTrue (A.may c.0 w x.0 n && B.may c.1 w x.1 n)) (filter (B.may c.1 w x.1) xs) (λ n k.
        let l = filter_only (B.may c.1 w x.1) n xs k in
        let f = each_at (λ n. (n < 2 ^ w) × IsTrue (A.may c.0 w x.0 n)) xs n (a.members_fit c.0 w limit xs x.0 width fx.0 d) l.0 in
        (f.0, and_both _ _ f.1 l.1)))
        (λ ys d. each_from (λ n. (n < 2 ^ w) × IsTrue (A.may c.0 w x.0 n && B.may c.1 w x.1 n)) (filter (A.may c.0 w x.0) ys) (λ n k.
        let l = filter_only (A.may c.0 w x.0) n ys k in
        let f = each_at (λ n. (n < 2 ^ w) × IsTrue (B.may c.1 w x.1 n)) ys n (b.members_fit c.1 w limit ys x.1 width fx.1 d) l.0 in
        (f.0, and_both _ _ l.1 f.1)));
    members_few = λ c w limit ns x width fx e. shared_are (λ l. length l ≤ limit) (A.members c.0 w x.0 limit) (B.members c.1 w x.1 limit) (A.may c.0 w x.0) (B.may c.1 w x.1) ns e
        (λ xs d. let few = a.members_few c.0 w limit xs x.0 width fx.0 d in let less = filter_shorter (B.may c.1 w x.1) xs in omega (arith, few, less))
        (λ ys d. let few = b.members_few c.1 w limit ys x.1 width fx.1 d in let less = filter_shorter (A.may c.0 w x.0) ys in omega (arith, few, less));
    members_none = λ c w limit x width fx.
        let both = shared_none (A.members c.0 w x.0 limit) (B.members c.1 w x.1 limit) (A.may c.0 w x.0) (B.may c.1 w x.1) in
        let left = a.members_none c.0 w limit x.0 width fx.0 in
        let right = b.members_none c.1 w limit x.1 width fx.1 in (
          λ e. let k = both.0 e in let l = left.0 k.0 in let r = right.0 k.1 in omega (arith, l, r),
          λ h. both.1 (left.1 (omega (arith, h)), right.1 (omega (arith, h))),
        );
    join_describes = λ c valuation w n x y width may fx fy h. let m = may_parts p q x y may in
        (a.join_describes c.0 valuation w n x.0 y.0 width m.0 fx.0 fy.0 (firsts h), b.join_describes c.1 valuation w n x.1 y.1 width m.1 fx.1 fy.1 (seconds h));
    join_absorbs = λ c w x y width may fx fy. let m = may_parts p q x y may in
        let k = a.join_absorbs c.0 w x.0 y.0 width m.0 fx.0 fy.0 in let l = b.join_absorbs c.1 w x.1 y.1 width m.1 fx.1 fy.1 in
        (and_both _ _ k.0 l.0, and_both _ _ k.1 l.1);
    join_least = λ c w x y z width fx fy fz h k. let l = and_parts _ _ h in let r = and_parts _ _ k in
        and_both _ _ (a.join_least c.0 w x.0 y.0 z.0 width fx.0 fy.0 fz.0 l.0 r.0) (b.join_least c.1 w x.1 y.1 z.1 width fx.1 fy.1 fz.1 l.1 r.1);
    widen_describes = λ c valuation w n x y width may fx fy h. let m = may_parts p q x y may in
        (a.widen_describes c.0 valuation w n x.0 y.0 width m.0 fx.0 fy.0 (firsts h), b.widen_describes c.1 valuation w n x.1 y.1 width m.1 fx.1 fy.1 (seconds h));
    widen_absorbs = λ c w x y width may fx fy. let m = may_parts p q x y may in
        let k = a.widen_absorbs c.0 w x.0 y.0 width m.0 fx.0 fy.0 in let l = b.widen_absorbs c.1 w x.1 y.1 width m.1 fx.1 fy.1 in
        (and_both _ _ k.0 l.0, and_both _ _ k.1 l.1);
    absorbs_itself = λ c w x width fx. and_both _ _ (a.absorbs_itself c.0 w x.0 width fx.0) (b.absorbs_itself c.1 w x.1 width fx.1);
    absorbs_on = λ c w x y z width fx fy fz h k. let l = and_parts _ _ h in let r = and_parts _ _ k in
        and_both _ _ (a.absorbs_on c.0 w x.0 y.0 z.0 width fx.0 fy.0 fz.0 l.0 r.0) (b.absorbs_on c.1 w x.1 y.1 z.1 width fx.1 fy.1 fz.1 l.1 r.1);
    absorbs_describes = λ c valuation w n old new width fx fy h k. let l = and_parts _ _ h in
        (a.absorbs_describes c.0 valuation w n old.0 new.0 width fx.0 fy.0 l.0 k.0, b.absorbs_describes c.1 valuation w n old.1 new.1 width fx.1 fy.1 l.1 k.1);
    widen_keeps = λ c w old new width joins fx fy h. let j = and_parts p q joins in let l = and_parts _ _ h in
        let first = a.widen_keeps c.0 w old.0 new.0 width j.0 fx.0 fy.0 l.0 in
        let second = b.widen_keeps c.1 w old.1 new.1 width j.1 fx.1 fy.1 l.1 in
        ap (λ z. (z, B.widen c.1 w old.1 new.1)) first ∙ ap (λ z. (old.0, z)) second;
    widen_falls = λ c w old new width joins fx fy e. let j = and_parts p q joins in
        falls _ _ _ _ (A.absorbs c.0 w old.0 new.0) (B.absorbs c.1 w old.1 new.1) e
        (λ d. a.widen_falls c.0 w old.0 new.0 width j.0 fx.0 fy.0 d)
        (λ d. ap (A.rank c.0 w) (a.widen_keeps c.0 w old.0 new.0 width j.0 fx.0 fy.0 d))
        (λ d. b.widen_falls c.1 w old.1 new.1 width j.1 fx.1 fy.1 d)
        (λ d. ap (B.rank c.1 w) (b.widen_keeps c.1 w old.1 new.1 width j.1 fx.1 fy.1 d));
    rank_height = λ c w x width fx. let k = a.rank_height c.0 w x.0 width fx.0 in let l = b.rank_height c.1 w x.1 width fx.1 in omega (arith, k, l);
    is_exact = λ c w x width e fx. exact_some (A.exact c.0 w x.0) (B.exact c.1 w x.1) (one_exact c w x width fx (not_both p q e));
    not_both = λ c k w x y width e fx fy h. one_false c k w x y width fx fy h (not_both p q e);
    constant_fits = λ c w n width h. (a.constant_fits c.0 w n width h, b.constant_fits c.1 w n width h);
    any_fits = λ c w width. (a.any_fits c.0 w width, b.any_fits c.1 w width);
    range_fits = λ c w low high width h k. (a.range_fits c.0 w low high width h k, b.range_fits c.1 w low high width h k);
    op1_fits = λ c op w x width fx. (a.op1_fits c.0 op w x.0 width fx.0, b.op1_fits c.1 op w x.1 width fx.1);
    op2_fits = λ c op w x y width fx fy. (a.op2_fits c.0 op w x.0 y.0 width fx.0 fy.0, b.op2_fits c.1 op w x.1 y.1 width fx.1 fy.1);
    zext_fits = λ c from to x widths fx. (a.zext_fits c.0 from to x.0 widths fx.0, b.zext_fits c.1 from to x.1 widths fx.1);
    sext_fits = λ c from to x widths fx. (a.sext_fits c.0 from to x.0 widths fx.0, b.sext_fits c.1 from to x.1 widths fx.1);
    trunc_fits = λ c from to x widths fx. (a.trunc_fits c.0 from to x.0 widths fx.0, b.trunc_fits c.1 from to x.1 widths fx.1);
    join_fits = λ c w x y width fx fy. (a.join_fits c.0 w x.0 y.0 width fx.0 fy.0, b.join_fits c.1 w x.1 y.1 width fx.1 fy.1);
    widen_fits = λ c w x y width fx fy. (a.widen_fits c.0 w x.0 y.0 width fx.0 fy.0, b.widen_fits c.1 w x.1 y.1 width fx.1 fy.1);
  }
    where
      one_exact : (c : C × D) (w : ℕ) (x : V × W) → IsWidth w → A.fits c.0 w x.0 × B.fits c.1 w x.1 → (p ≡ false) ⊎ (q ≡ false) → IsSome (A.exact c.0 w x.0) ⊎ IsSome (B.exact c.1 w x.1)
      one_exact c w x width fx (inl e) = inl (a.is_exact c.0 w x.0 width e fx.0)
      one_exact c w x width fx (inr e) = inr (b.is_exact c.1 w x.1 width e fx.1)

      one_false : (c : C × D) (k : WordComparison) (w : ℕ) (x y : V × W) → IsWidth w → A.fits c.0 w x.0 × B.fits c.1 w x.1 → A.fits c.0 w y.0 × B.fits c.1 w y.1
          → IsTrue (can_be (both_allow (A.cmp c.0 k w x.0 y.0) (B.cmp c.1 k w x.1 y.1)) true) → (p ≡ false) ⊎ (q ≡ false) → can_be (both_allow (A.cmp c.0 k w x.0 y.0) (B.cmp c.1 k w x.1 y.1)) false ≡ false
      one_false c k w x y width fx fy h (inl e) = let l = and_parts _ _ h in rw (a.not_both c.0 k w x.0 y.0 width e fx.0 fy.0 l.0) refl
      one_false c k w x y width fx fy h (inr e) = let l = and_parts _ _ h in rw (b.not_both c.1 k w x.1 y.1 width e fx.1 fy.1 l.1) (never (A.cmp c.0 k w x.0 y.0).may_false)
        where
          never : (b : Bool) → (b && false) ≡ false
          never true = refl
          never false = refl

-- ---- notes
covering_left : (us vs : List Seen) (r : Read) → AreCovering us r → AreCovering (us ++ vs) r
covering_left [] vs r h = absurd h
covering_left (u ∷ us) vs r (inl h) = inl h
covering_left (u ∷ us) vs r (inr h) = inr (covering_left us vs r h)

covering_right : (us vs : List Seen) (r : Read) → AreCovering vs r → AreCovering (us ++ vs) r
covering_right [] vs r h = h
covering_right (u ∷ us) vs r h = inr (covering_right us vs r h)

within_left : (xs ys zs : List Stamp) → AreAmong (xs ++ ys) zs → AreAmong xs zs
within_left xs ys zs h = are_among_from xs zs (λ s k. are_among_at (xs ++ ys) zs s h (among_left s xs ys k))

within_right : (xs ys zs : List Stamp) → AreAmong (xs ++ ys) zs → AreAmong ys zs
within_right xs ys zs h = are_among_from ys zs (λ s k. are_among_at (xs ++ ys) zs s h (among_right s xs ys k))

both_within : (xs ys zs : List Stamp) → AreAmong xs zs → AreAmong ys zs → AreAmong (xs ++ ys) zs
both_within xs ys zs h k = are_among_from (xs ++ ys) zs (λ s l. either s (among_either s xs ys l))
  where
    either : (s : Stamp) → IsAmong s xs ⊎ IsAmong s ys → IsAmong s zs
    either s (inl l) = are_among_at xs zs s h l
    either s (inr l) = are_among_at ys zs s k l

-- each list within its own, so both within all
crossed : (xs ys ws zs vs us : List Stamp) → AreAmong xs (ws ++ zs) → AreAmong ys (vs ++ us) → AreAmong (xs ++ ys) ((ws ++ vs) ++ (zs ++ us))
crossed xs ys ws zs vs us h k = both_within xs ys ((ws ++ vs) ++ (zs ++ us)) first second
  where
    all : List Stamp
    all = (ws ++ vs) ++ (zs ++ us)

    first : AreAmong xs ((ws ++ vs) ++ (zs ++ us))
    first = are_among_from xs ((ws ++ vs) ++ (zs ++ us)) (λ s l. sorted s (among_either s ws zs (are_among_at xs (ws ++ zs) s h l)))
      where
        sorted : (s : Stamp) → IsAmong s ws ⊎ IsAmong s zs → IsAmong s ((ws ++ vs) ++ (zs ++ us))
        sorted s (inl l) = among_left s (ws ++ vs) (zs ++ us) (among_left s ws vs l)
        sorted s (inr l) = among_right s (ws ++ vs) (zs ++ us) (among_left s zs us l)

    second : AreAmong ys ((ws ++ vs) ++ (zs ++ us))
    second = are_among_from ys ((ws ++ vs) ++ (zs ++ us)) (λ s l. sorted s (among_either s vs us (are_among_at ys (vs ++ us) s k l)))
      where
        sorted : (s : Stamp) → IsAmong s vs ⊎ IsAmong s us → IsAmong s ((ws ++ vs) ++ (zs ++ us))
        sorted s (inl l) = among_left s (ws ++ vs) (zs ++ us) (among_right s ws vs l)
        sorted s (inr l) = among_right s (ws ++ vs) (zs ++ us) (among_right s zs us l)

each_both : (P : Seen → Type 0) (us vs : List Seen) → Each P us → Each P vs → Each P (us ++ vs)
each_both P [] vs h k = k
each_both P (u ∷ us) vs h k = (h.0, each_both P us vs h.1 k)

each_more : (P Q : Seen → Type 0) (us : List Seen) → ((u : Seen) → P u → Q u) → Each P us → Each Q us
each_more P Q [] f h = tt
each_more P Q (u ∷ us) f h = (f u h.0, each_more P Q us f h.1)

both_empty : (us vs : List Seen) → us ≡ [] → vs ≡ [] → us ++ vs ≡ []
both_empty us vs h k = rw (h, k) refl

module _ {M N : Type 0} (p q : Bool) (A : Notes M) (B : Notes N) (a : NoteLaws M p A) (b : NoteLaws N q B) where
  pub paired_note_laws : NoteLaws (M × N) (p && q) (paired_notes A B)
  paired_note_laws = record {
    entry_sound = (a.entry_sound, b.entry_sound);
    at_sound = λ at. (a.at_sound at, b.at_sound at);
    join_describes = λ s x y may h. let m = may_parts p q x y may in (a.join_describes s x.0 y.0 m.0 (firsts h), b.join_describes s x.1 y.1 m.1 (seconds h));
    join_absorbs = λ x y may. let m = may_parts p q x y may in let k = a.join_absorbs x.0 y.0 m.0 in let l = b.join_absorbs x.1 y.1 m.1 in (and_both _ _ k.0 l.0, and_both _ _ k.1 l.1);
    join_least = λ x y z h k. let l = and_parts _ _ h in let r = and_parts _ _ k in and_both _ _ (a.join_least x.0 y.0 z.0 l.0 r.0) (b.join_least x.1 y.1 z.1 l.1 r.1);
    widen_describes = λ s x y may h. let m = may_parts p q x y may in (a.widen_describes s x.0 y.0 m.0 (firsts h), b.widen_describes s x.1 y.1 m.1 (seconds h));
    widen_absorbs = λ x y may. let m = may_parts p q x y may in let k = a.widen_absorbs x.0 y.0 m.0 in let l = b.widen_absorbs x.1 y.1 m.1 in (and_both _ _ k.0 l.0, and_both _ _ k.1 l.1);
    absorbs_itself = λ x. and_both _ _ (a.absorbs_itself x.0) (b.absorbs_itself x.1);
    absorbs_on = λ x y z h k. let l = and_parts _ _ h in let r = and_parts _ _ k in and_both _ _ (a.absorbs_on x.0 y.0 z.0 l.0 r.0) (b.absorbs_on x.1 y.1 z.1 l.1 r.1);
    absorbs_describes = λ s old new h k. let l = and_parts _ _ h in (a.absorbs_describes s old.0 new.0 l.0 k.0, b.absorbs_describes s old.1 new.1 l.1 k.1);
    widen_keeps = λ old new joins h. let j = and_parts p q joins in let l = and_parts _ _ h in
        let first = a.widen_keeps old.0 new.0 j.0 l.0 in let second = b.widen_keeps old.1 new.1 j.1 l.1 in
        ap (λ z. (z, B.widen old.1 new.1)) first ∙ ap (λ z. (old.0, z)) second;
    widen_falls = λ stamps old new joins h k e. let j = and_parts p q joins in
        falls _ _ _ _ (A.absorbs old.0 new.0) (B.absorbs old.1 new.1) e
        (λ d. a.widen_falls stamps old.0 new.0 j.0 (within_left (A.listed old.0) (B.listed old.1) stamps h) (within_left (A.listed new.0) (B.listed new.1) stamps k) d)
        (λ d. ap (A.rank stamps) (a.widen_keeps old.0 new.0 j.0 d))
        (λ d. b.widen_falls stamps old.1 new.1 j.1 (within_right (A.listed old.0) (B.listed old.1) stamps h) (within_right (A.listed new.0) (B.listed new.1) stamps k) d)
        (λ d. ap (B.rank stamps) (b.widen_keeps old.1 new.1 j.1 d));
    rank_height = λ stamps x. let k = a.rank_height stamps x.0 in let l = b.rank_height stamps x.1 in omega (arith, k, l);
    reads_cover = λ m key k s x e h d. covered m key k s x h d (or_sorted A.stamped B.stamped e);
    reads_name = λ m key x. each_both (λ u. (u.of_map ≡ m) × (u.key ≡ key)) (A.reads m key x.0) (B.reads m key x.1) (a.reads_name m key x.0) (b.reads_name m key x.1);
    reads_nothing = λ m key x e. let k = neither A.stamped B.stamped e in both_empty (A.reads m key x.0) (B.reads m key x.1) (a.reads_nothing m key x.0 k.0) (b.reads_nothing m key x.1 k.1);
    entry_lists = both_within (A.listed A.entry) (B.listed B.entry) _ a.entry_lists b.entry_lists;
    at_lists = λ at. both_within (A.listed (A.at at)) (B.listed (B.at at)) _ (a.at_lists at) (b.at_lists at);
    join_lists = λ x y. crossed (A.listed (A.join x.0 y.0)) (B.listed (B.join x.1 y.1)) (A.listed x.0) (A.listed y.0) (B.listed x.1) (B.listed y.1) (a.join_lists x.0 y.0) (b.join_lists x.1 y.1);
    widen_lists = λ x y. crossed (A.listed (A.widen x.0 y.0)) (B.listed (B.widen x.1 y.1)) (A.listed x.0) (A.listed y.0) (B.listed x.1) (B.listed y.1) (a.widen_lists x.0 y.0) (b.widen_lists x.1 y.1);
    reads_list = λ m key x. each_both (λ u. AreAmong u.stamps (A.listed x.0 ++ B.listed x.1)) (A.reads m key x.0) (B.reads m key x.1)
        (each_more (λ u. AreAmong u.stamps (A.listed x.0)) (λ u. AreAmong u.stamps (A.listed x.0 ++ B.listed x.1)) (A.reads m key x.0)
        (λ u h. are_among_from u.stamps (A.listed x.0 ++ B.listed x.1) (λ s k. among_left s (A.listed x.0) (B.listed x.1) (are_among_at u.stamps (A.listed x.0) s h k))) (a.reads_list m key x.0))
        (each_more (λ u. AreAmong u.stamps (B.listed x.1)) (λ u. AreAmong u.stamps (A.listed x.0 ++ B.listed x.1)) (B.reads m key x.1)
        (λ u h. are_among_from u.stamps (A.listed x.0 ++ B.listed x.1) (λ s k. among_right s (A.listed x.0) (B.listed x.1) (are_among_at u.stamps (B.listed x.1) s h k))) (b.reads_list m key x.1));
  }
    where
      covered : (m : ℕ) (key : Option ℕ) (k : ℕ) (s : Stamp) (x : M × N) → IsKey key k → A.describes s x.0 × B.describes s x.1 → IsTrue A.stamped ⊎ IsTrue B.stamped
          → AreCovering (A.reads m key x.0 ++ B.reads m key x.1) (record { of_map = m; key = k; stamp = s })
      covered m key k s x h d (inl e) = covering_left (A.reads m key x.0) (B.reads m key x.1) (record { of_map = m; key = k; stamp = s }) (a.reads_cover m key k s x.0 e h d.0)
      covered m key k s x h d (inr e) = covering_right (A.reads m key x.0) (B.reads m key x.1) (record { of_map = m; key = k; stamp = s }) (b.reads_cover m key k s x.1 e h d.1)

pub paired_laws : {V W M N C D : Type 0} (A : Algebra V M C) (B : Algebra W N D) → Laws V M C A → Laws W N D B → Laws (V × W) (M × N) (C × D) (paired A B)
paired_laws A B a b = record {
  words = paired_word_laws A.joins B.joins A.words B.words a.words b.words;
  notes = paired_note_laws A.joins B.joins A.notes B.notes a.notes b.notes;
}

pub same_pairs : {A B : Type 0} (eq : A → A → Bool) (eq' : B → B → Bool) → IsIdentity eq → IsIdentity eq' → IsIdentity (λ (x y : A × B). eq x.0 y.0 && eq' x.1 y.1)
same_pairs eq eq' f g x y h = let k = and_parts (eq x.0 y.0) (eq' x.1 y.1) h in ap (λ z. (z, x.1)) (f x.0 y.0 k.0) ∙ ap (λ z. (y.0, z)) (g x.1 y.1 k.1)

-- a pair lists as many cells as the part that may list more
pub paired_capacity : (m n : ℕ) (p q : Bool) → m ≡ (if p then 256 else 2 ^ 32) → n ≡ (if q then 256 else 2 ^ 32) → max m n ≡ (if p && q then 256 else 2 ^ 32)
paired_capacity m n true true h k = rw (h, k) refl
paired_capacity m n true false h k = rw (h, k) refl
paired_capacity m n false true h k = rw (h, k) refl
paired_capacity m n false false h k = rw (h, k) refl
