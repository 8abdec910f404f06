-- The laws of affine forms.
use Rattle.std.proofs.Common.{◌≡◌, ℕ, ◌+◌, ◌*◌, ◌%◌, ◌^◌, ◌<◌, ◌≤◌, Bool, true, false, List, [], ◌∷◌, length, Some, None, refl, sym, ap, ◌∙◌, subst, arith, IsTrue, ◌↔◌, ◌⊎◌, inl, inr}
use Rattle.std.specs.Prelude.{◌==◌, ◌&&◌, nat_lt, nat_le, not, if◌then◌else◌}
use Rattle.std.specs.List.{list_all, range_with_len}
use Rattle.std.proofs.lemmas.Bool.Decides.{nat_tests}
use Rattle.std.proofs.lemmas.List.FromFn.{length-range_with_len}
use Rattle.word_operations.specs.declared.kinds.WordComparison.{WordComparison}
use Rattle.word_operations.specs.declared.kinds.WordComparison.TheVariants.{Eq, Ne, LtU, LeU, LtS, LeS}
use Rattle.word_operations.specs.Cmp.{cmp_of}
use Rattle.word_operations.specs.Casts.{zext_of, sext_of, trunc_of}
use Rattle.word_operations.specs.Laws.{OrdersWords}
use Rattle.word_operations.proofs.OrderLaws.{signed_order, unsigned_order}
use Rattle.word_operations.proofs.Fits.{op1_of_fits, op2_of_fits, zext_of_fits, sext_of_fits, trunc_of_fits}
use Rattle.semantics_values.specs.declared.entry.KeyAt.{KeyAt}
use Rattle.support_modular_rows.specs.Forms.{same_form}
use Rattle.support_modular_rows.specs.Submodule.{Congruent, dot}
use Rattle.support_modular_rows.proofs.Equal.{equal_forms}
use Rattle.base_trait.specs.Algebra.{can_be}
use Rattle.base_trait.specs.Laws.{Laws, WordLaws}
use Rattle.base_trait.specs.Lists.{IsAmong, Each, IsAscending}
use Rattle.base_trait.specs.NoNotes.{no_note_laws}
use Rattle.base_trait.proofs.Lists.{each_from, each_at, number_itself, number_told, all_told, range_ascends, range_has, range_within}
use Rattle.base_trait.proofs.Tests.{and_both, and_parts, at_choice, from_either}
use Rattle.domain_affine_base.specs.Compare.{apart, compared, either, forms_compared, only, with_itself}
use Rattle.domain_affine_base.specs.Forms.{is_constant}
use Rattle.domain_affine_base.specs.Join.{join_of, is_absorbing, rank_of, range_of}
use Rattle.domain_affine_base.specs.Linear.{agreeing_equal, sums_cancel}
use Rattle.domain_affine_base.specs.Meaning.{affine, words}
use Rattle.domain_affine_base.specs.Members.{exact_of, may_be, size_of, all_of, members_of}
use Rattle.domain_affine_base.specs.Results.{op1_stands, op1_fits, op2_stands, op2_fits, cast_stands, cast_fits}
use Rattle.domain_affine_base.specs.Same.{same_word_is, same_word_itself}
use Rattle.domain_affine_base.specs.Words.{Stands, IsForm, IsOf, Fits, fits_word, same_word}
use Rattle.domain_affine_base.specs.declared.word.Word.{Word}
use Rattle.domain_affine_base.specs.declared.word.Word.TheVariants.{Any, Const, Form}

-- ---- whether a word fits
below_told : (s : List ℕ) → IsTrue (list_all (λ n. nat_lt n (2 ^ 32)) s) ↔ Each (λ n. n < 2 ^ 32) s
below_told s = (
  λ h. each_from (λ n. n < 2 ^ 32) s (λ n k. let below = each_at (λ n. IsTrue (nat_lt n (2 ^ 32))) s n ((all_told (λ n. nat_lt n (2 ^ 32)) s).0 h) k in grind (arith, nat_tests)),
  λ h. (all_told (λ n. nat_lt n (2 ^ 32)) s).1 (each_from (λ n. IsTrue (nat_lt n (2 ^ 32))) s (λ n k. let below = each_at (λ n. n < 2 ^ 32) s n h k in grind (arith, nat_tests))),
)

not_told : (b : Bool) → IsTrue (not b) ↔ (b ≡ false)
not_told true = (λ h. cc, λ h. cc)
not_told false = (λ h. refl, λ h. refl)

module _ (k w : ℕ) (f : List ℕ) where
  abbrev below : Bool
  below = list_all (λ n. nat_lt n (2 ^ 32)) f

  form_from : IsTrue (fits_word k w (Form f)) → Fits k w (Form f)
  form_from h =
      let a = and_parts (w == 32) (below && (not (is_constant f) && (length f == k + 1))) h in
      let b = and_parts below (not (is_constant f) && (length f == k + 1)) a.1 in
      let c = and_parts (not (is_constant f)) (length f == k + 1) b.1 in
      (record { width = number_told w 32 a.0; below = (below_told f).0 b.0; some = (not_told (is_constant f)).0 c.0 }, number_told (length f) (k + 1) c.1)

  form_to : Fits k w (Form f) → IsTrue (fits_word k w (Form f))
  form_to h =
      and_both (w == 32) (below && (not (is_constant f) && (length f == k + 1))) (rw h.0.width (number_itself 32)) (
      and_both below (not (is_constant f) && (length f == k + 1)) ((below_told f).1 h.0.below) (
      and_both (not (is_constant f)) (length f == k + 1) ((not_told (is_constant f)).1 h.0.some) (rw h.1 (number_itself (k + 1)))))

fits_told : (k w : ℕ) (x : Word) → IsTrue (fits_word k w x) ↔ Fits k w x
fits_told k w Any = (λ h. (tt, tt), λ h. refl)
fits_told k w (Const n) = (λ h. (grind (arith, nat_tests), tt), λ h. let below = h.0 in grind (arith, nat_tests))
fits_told k w (Form f) = (form_from k w f, form_to k w f)

-- ---- comparisons
either_may : (b : Bool) → IsTrue (can_be either b)
either_may true = refl
either_may false = refl

only_may : (b : Bool) → IsTrue (can_be (only b) b)
only_may true = refl
only_may false = refl

module _ (w : ℕ) {le lt : ℕ → ℕ → Bool} (order : OrdersWords w le lt) where
  order_itself : (n : ℕ) → IsTrue (le n n)
  order_itself n = from_either (λ h. h) (λ h. h) (order.total n n)

  order_strict : (n : ℕ) → lt n n ≡ false
  order_strict n = order.strict n n ∙ ap not (order_itself n)

itself_is : (k : WordComparison) (w n : ℕ) → cmp_of k w n n ≡ with_itself k
itself_is Eq w n = number_itself n
itself_is Ne w n = ap not (number_itself n)
itself_is LtU w n = order_strict w (unsigned_order w).0 n
itself_is LeU w n = order_itself w (unsigned_order w).0 n
itself_is LtS w n = order_strict w (signed_order w).0 n
itself_is LeS w n = order_itself w (signed_order w).0 n

apart_may : (k : WordComparison) (w m n : ℕ) → (m == n) ≡ false → IsTrue (can_be (apart k) (cmp_of k w m n))
apart_may Eq w m n e = subst (λ b. IsTrue (can_be (only false) b)) (sym e) refl
apart_may Ne w m n e = subst (λ b. IsTrue (can_be (only true) (not b))) (sym e) refl
apart_may LtU w m n e = either_may (nat_lt m n)
apart_may LeU w m n e = either_may (nat_le m n)
apart_may LtS w m n e = either_may (cmp_of LtS w m n)
apart_may LeS w m n e = either_may (cmp_of LeS w m n)

-- numbers that differ by a constant: where it is 0 they are equal, and else not
module _ (k : WordComparison) (valuation : List ℕ) (m n a b : ℕ) (f g : List ℕ) where
  forms_may : m < 2 ^ 32 → n < 2 ^ 32 → a < 2 ^ 32 → b < 2 ^ 32 → Congruent m (a * 1 + dot f valuation) → Congruent n (b * 1 + dot g valuation)
      → IsTrue (can_be (forms_compared k (a ∷ f) (b ∷ g)) (cmp_of k 32 m n))
  forms_may left right first second d e =
      at_choice (λ t. IsTrue (can_be t (cmp_of k 32 m n))) (same_form f g) (if a == b then only (with_itself k) else apart k) either
      (λ same. at_choice (λ t. IsTrue (can_be t (cmp_of k 32 m n))) (a == b) (only (with_itself k)) (apart k) (λ h. equal ((equal_forms f g).0 same) (number_told a b h)) (λ h. unequal ((equal_forms f g).0 same) h))
      (λ differ. either_may (cmp_of k 32 m n))
    where
      equal : f ≡ g → a ≡ b → IsTrue (can_be (only (with_itself k)) (cmp_of k 32 m n))
      equal same h =
          let one : m ≡ n = agreeing_equal m n left right (d ∙ ap (λ z. (a * 1 + dot z valuation) % 2 ^ 32) same ∙ ap (λ z. (z * 1 + dot g valuation) % 2 ^ 32) h ∙ sym e) in
          subst (λ t. IsTrue (can_be (only t) (cmp_of k 32 m n))) (itself_is k 32 n) (subst (λ z. IsTrue (can_be (only (cmp_of k 32 n n)) (cmp_of k 32 z n))) (sym one) (only_may (cmp_of k 32 n n)))

      unequal : f ≡ g → (a == b) ≡ false → IsTrue (can_be (apart k) (cmp_of k 32 m n))
      unequal same h = apart_may k 32 m n (at_test (m == n) refl)
        where
          at_test : (t : Bool) → t ≡ (m == n) → t ≡ false
          at_test false r = refl
          at_test true r =
              let one : m ≡ n = number_told m n (sym r) in
              let sums : Congruent (a * 1 + dot g valuation) (b * 1 + dot g valuation) = ap (λ z. (a * 1 + dot z valuation) % 2 ^ 32) (sym same) ∙ sym d ∙ ap (λ z. z % 2 ^ 32) one ∙ e in
              let constants : a * 1 ≡ b * 1 = agreeing_equal (a * 1) (b * 1) (omega (arith, first)) (omega (arith, second)) (sums_cancel (a * 1) (b * 1) (dot g valuation) sums) in
              let alike : a ≡ b = omega (arith, constants) in
              let told = subst (λ z. IsTrue (a == z)) alike (number_itself a) in cc

form_compared_may : (k : WordComparison) (valuation : List ℕ) (m n : ℕ) (f g : List ℕ) → IsForm 32 f → IsForm 32 g → m < 2 ^ 32 → n < 2 ^ 32
    → Congruent m (dot f (1 ∷ valuation)) → Congruent n (dot g (1 ∷ valuation)) → IsTrue (can_be (forms_compared k f g) (cmp_of k 32 m n))
form_compared_may k valuation m n [] g fx fy left right d e = either_may (cmp_of k 32 m n)
form_compared_may k valuation m n (a ∷ f) [] fx fy left right d e = either_may (cmp_of k 32 m n)
form_compared_may k valuation m n (a ∷ f) (b ∷ g) fx fy left right d e = forms_may k valuation m n a b f g left right fx.below.0 fy.below.0 d e

compared_may : (k : WordComparison) (valuation : List ℕ) (w m n : ℕ) (x y : Word) → IsOf w x → IsOf w y → m < 2 ^ w → n < 2 ^ w → Stands valuation x m → Stands valuation y n
    → IsTrue (can_be (compared k w x y) (cmp_of k w m n))
compared_may k valuation w m n Any y fx fy left right d e = either_may (cmp_of k w m n)
compared_may k valuation w m n (Const a) Any fx fy left right d e = either_may (cmp_of k w m n)
compared_may k valuation w m n (Const a) (Form g) fx fy left right d e = either_may (cmp_of k w m n)
compared_may k valuation w m n (Const a) (Const b) fx fy left right d e =
    subst (λ z. IsTrue (can_be (only (cmp_of k w z b)) (cmp_of k w m n))) d (subst (λ z. IsTrue (can_be (only (cmp_of k w m z)) (cmp_of k w m n))) e (only_may (cmp_of k w m n)))
compared_may k valuation w m n (Form f) Any fx fy left right d e = either_may (cmp_of k w m n)
compared_may k valuation w m n (Form f) (Const b) fx fy left right d e = either_may (cmp_of k w m n)
compared_may k valuation w m n (Form f) (Form g) fx fy left right d e =
    subst (λ v. IsTrue (can_be (forms_compared k f g) (cmp_of k v m n))) (sym fx.width)
    (form_compared_may k valuation m n f g (subst (λ v. IsForm v f) fx.width fx) (subst (λ v. IsForm v g) fy.width fy)
    (subst (λ v. m < 2 ^ v) fx.width left) (subst (λ v. n < 2 ^ v) fx.width right) d e)

-- ---- what is known of the numbers
exact_below : (k w v : ℕ) (x : Word) → Fits k w x → exact_of x ≡ Some v → v < 2 ^ w
exact_below k w v Any fx e = cc
exact_below k w v (Const n) fx e = let same : n ≡ v = cc in subst (λ z. z < 2 ^ w) same fx.0
exact_below k w v (Form f) fx e = cc

exact_alone : (valuation : List ℕ) (n v : ℕ) (x : Word) → exact_of x ≡ Some v → Stands valuation x n → n ≡ v
exact_alone valuation n v Any e h = cc
exact_alone valuation n v (Const c) e h = let same : c ≡ v = cc in h ∙ same
exact_alone valuation n v (Form f) e h = cc

may_from : (valuation : List ℕ) (n : ℕ) (x : Word) → Stands valuation x n → IsTrue (may_be x n)
may_from valuation n Any h = refl
may_from valuation n (Const c) h = subst (λ z. IsTrue (z == n)) h (number_itself n)
may_from valuation n (Form f) h = refl

members_stand : (valuation : List ℕ) (w n : ℕ) (x : Word) → Stands valuation x n → n < 2 ^ w → IsAmong n (all_of w x)
members_stand valuation w n Any h l = range_has 0 (2 ^ w) n (omega arith) (omega arith)
members_stand valuation w n (Const c) h l = inl h
members_stand valuation w n (Form f) h l = range_has 0 (2 ^ w) n (omega arith) (omega arith)

members_ascend : (w : ℕ) (x : Word) → IsAscending (all_of w x)
members_ascend w Any = range_ascends 0 (2 ^ w)
members_ascend w (Const n) = (omega arith, tt)
members_ascend w (Form f) = range_ascends 0 (2 ^ w)

all_allowed : (w : ℕ) (x : Word) → ((n : ℕ) → IsTrue (may_be x n)) → Each (λ n. (n < 2 ^ w) × IsTrue (may_be x n)) (range_with_len 0 (2 ^ w))
all_allowed w x h = each_from (λ n. (n < 2 ^ w) × IsTrue (may_be x n)) (range_with_len 0 (2 ^ w)) (λ n a. let r = range_within 0 (2 ^ w) n a in (omega (arith, r.1), h n))

members_allowed : (k w : ℕ) (x : Word) → Fits k w x → Each (λ n. (n < 2 ^ w) × IsTrue (may_be x n)) (all_of w x)
members_allowed k w Any fx = all_allowed w Any (λ n. refl)
members_allowed k w (Const n) fx = ((fx.0, number_itself n), tt)
members_allowed k w (Form f) fx = all_allowed w (Form f) (λ n. refl)

members_size : (w : ℕ) (x : Word) → length (all_of w x) ≡ size_of w x
members_size w Any = length-range_with_len 0 (2 ^ w)
members_size w (Const n) = refl
members_size w (Form f) = length-range_with_len 0 (2 ^ w)

-- where a list is given, it is this one
given : (b : Bool) (xs ns : List ℕ) → (if b then Some xs else None) ≡ Some ns → xs ≡ ns
given true xs ns e = cc
given false xs ns e = cc

listed : (w limit : ℕ) (x : Word) (ns : List ℕ) → members_of w x limit ≡ Some ns → all_of w x ≡ ns
listed w limit x ns e = given (nat_le (size_of w x) limit) (all_of w x) ns e

none_where : (b : Bool) (size limit : ℕ) (xs : List ℕ) → b ≡ nat_le size limit → ((if b then Some xs else None) ≡ None) ↔ (limit < size)
none_where true size limit xs e = (λ h. cc, λ h. absurd (grind (arith, nat_tests)))
none_where false size limit xs e = (λ h. grind (arith, nat_tests), λ h. refl)

few_where : (b : Bool) (size limit : ℕ) (xs ns : List ℕ) → b ≡ nat_le size limit → length xs ≡ size → (if b then Some xs else None) ≡ Some ns → length ns ≤ limit
few_where true size limit xs ns e long d = let same : xs ≡ ns = cc in subst (λ z. length z ≤ limit) same (grind (arith, nat_tests))
few_where false size limit xs ns e long d = cc

-- ---- joins and absorption
sides : {P Q S : Type 0} → (P × S) ⊎ (Q × S) → (P ⊎ Q) × S
sides (inl h) = (inl h.0, h.1)
sides (inr h) = (inr h.0, h.1)

join_stands : (valuation : List ℕ) (n : ℕ) (x y : Word) → Stands valuation x n ⊎ Stands valuation y n → Stands valuation (join_of x y) n
join_stands valuation n x y h = at_choice (λ z. Stands valuation z n) (same_word x y) x Any (λ e. kept (same_word_is x y e) h) (λ e. tt)
  where
    kept : x ≡ y → Stands valuation x n ⊎ Stands valuation y n → Stands valuation x n
    kept e (inl k) = k
    kept e (inr k) = subst (λ z. Stands valuation z n) (sym e) k

absorbs_equal : (x y : Word) → x ≡ y → IsTrue (is_absorbing x y)
absorbs_equal Any y e = refl
absorbs_equal (Const n) y e = subst (λ z. IsTrue (same_word (Const n) z)) e (same_word_itself (Const n))
absorbs_equal (Form f) y e = subst (λ z. IsTrue (same_word (Form f) z)) e (same_word_itself (Form f))

-- any absorbs, and what else absorbs is equal
absorbed : (old new : Word) → IsTrue (is_absorbing old new) → (old ≡ Any) ⊎ (old ≡ new)
absorbed Any new h = inl refl
absorbed (Const n) new h = inr (same_word_is (Const n) new h)
absorbed (Form f) new h = inr (same_word_is (Form f) new h)

any_absorbs : (old new : Word) → old ≡ Any → IsTrue (is_absorbing old new)
any_absorbs old new e = subst (λ z. IsTrue (is_absorbing z new)) (sym e) refl

absorbs_on : (x y z : Word) → IsTrue (is_absorbing x y) → IsTrue (is_absorbing y z) → IsTrue (is_absorbing x z)
absorbs_on x y z h k = elim (absorbed x y h) [
  | inl e ↦ any_absorbs x z e
  | inr e ↦ subst (λ t. IsTrue (is_absorbing t z)) (sym e) k
]

absorbs_stands : (valuation : List ℕ) (n : ℕ) (old new : Word) → IsTrue (is_absorbing old new) → Stands valuation new n → Stands valuation old n
absorbs_stands valuation n old new h k = elim (absorbed old new h) [
  | inl e ↦ subst (λ z. Stands valuation z n) (sym e) tt
  | inr e ↦ subst (λ z. Stands valuation z n) (sym e) k
]

join_absorbs : (x y : Word) → IsTrue (is_absorbing (join_of x y) x) × IsTrue (is_absorbing (join_of x y) y)
join_absorbs x y =
    at_choice (λ z. IsTrue (is_absorbing z x) × IsTrue (is_absorbing z y)) (same_word x y) x Any
    (λ e. (absorbs_equal x x refl, absorbs_equal x y (same_word_is x y e))) (λ e. (refl, refl))

join_least : (x y z : Word) → IsTrue (is_absorbing z x) → IsTrue (is_absorbing z y) → IsTrue (is_absorbing z (join_of x y))
join_least x y z h k = at_choice (λ t. IsTrue (is_absorbing z t)) (same_word x y) x Any (λ e. h) (λ e. apart_any e (absorbed z x h) (absorbed z y k))
  where
    apart_any : same_word x y ≡ false → (z ≡ Any) ⊎ (z ≡ x) → (z ≡ Any) ⊎ (z ≡ y) → IsTrue (is_absorbing z Any)
    apart_any e (inl a) b = any_absorbs z Any a
    apart_any e (inr a) (inl b) = any_absorbs z Any b
    apart_any e (inr a) (inr b) = let one = subst (λ t. IsTrue (same_word x t)) (sym a ∙ b) (same_word_itself x) in cc

join_fits : (k w : ℕ) (x y : Word) → Fits k w x → Fits k w (join_of x y)
join_fits k w x y fx = at_choice (Fits k w) (same_word x y) x Any (λ e. fx) (λ e. (tt, tt))

widen_keeps : (old new : Word) → IsTrue (is_absorbing old new) → join_of old new ≡ old
widen_keeps old new h = at_choice (λ z. z ≡ old) (same_word old new) old Any (λ e. refl) (λ e. kept e (absorbed old new h))
  where
    kept : same_word old new ≡ false → (old ≡ Any) ⊎ (old ≡ new) → Any ≡ old
    kept e (inl a) = sym a
    kept e (inr a) = let one = subst (λ t. IsTrue (same_word old t)) a (same_word_itself old) in cc

widen_falls : (old new : Word) → is_absorbing old new ≡ false → rank_of (join_of old new) < rank_of old
widen_falls Any new e = cc
widen_falls (Const n) new e = subst (λ b. rank_of (if b then Const n else Any) < 1) (sym e) (omega arith)
widen_falls (Form f) new e = subst (λ b. rank_of (if b then Form f else Any) < 1) (sym e) (omega arith)

rank_low : (x : Word) → rank_of x ≤ 1
rank_low Any = omega arith
rank_low (Const n) = omega arith
rank_low (Form f) = omega arith

-- ---- ranges
range_stands : (valuation : List ℕ) (low high n : ℕ) → low ≤ n → n ≤ high → Stands valuation (range_of low high) n
range_stands valuation low high n a b = at_choice (λ z. Stands valuation z n) (low == high) (Const low) Any (λ e. let same = number_told low high e in omega (arith, same, a, b)) (λ e. tt)

range_fits : (k w low high : ℕ) → low ≤ high → high < 2 ^ w → Fits k w (range_of low high)
range_fits k w low high a b = at_choice (Fits k w) (low == high) (Const low) Any (λ e. (omega (arith, a, b), tt)) (λ e. (tt, tt))

-- ---- the laws
pub word_laws : WordLaws Word (List (ℕ × KeyAt)) true words
word_laws = record {
  described_fits = λ valuation w n x h. h.1;
  unseen = λ valuation other w n x e h. cc;
  fits_told = λ c w x. fits_told (length c) w x;
  constant_sound = λ c valuation w n width h. (refl, h);
  any_sound = λ c valuation w n width joins h. (tt, h);
  range_sound = λ c valuation w low high n width joins a b h. (range_stands valuation low high n a b, omega (arith, b, h));
  op1_sound = λ c valuation op w n x width fx h. (op1_stands op valuation w n x fx.0 h.1 h.0, op1_of_fits op w n width h.1);
  op2_sound = λ c valuation op w m n x y width fx fy hx hy. (op2_stands op valuation w m n x y fx.0 fy.0 hx.1 hy.1 hx.0 hy.0, op2_of_fits op w m n width hx.1 hy.1);
  cmp_sound = λ c valuation k w m n x y width fx fy hx hy. compared_may k valuation w m n x y fx.0 fy.0 hx.1 hy.1 hx.0 hy.0;
  zext_sound = λ c valuation from to n x widths fx h. (cast_stands (zext_of from to) valuation n x h.0, zext_of_fits from to n widths.order h.1);
  sext_sound = λ c valuation from to n x widths fx h. (cast_stands (sext_of from to) valuation n x h.0, sext_of_fits from to n);
  trunc_sound = λ c valuation from to n x widths fx h. (cast_stands (trunc_of from to) valuation n x h.0, trunc_of_fits from to n);
  exact_fits = λ c w v x width fx e. exact_below (length c) w v x fx e;
  exact_only = λ c valuation w n v x width fx e h. exact_alone valuation n v x e h.0;
  may_sound = λ c valuation w n x width fx h. may_from valuation n x h.0;
  members_hold = λ c valuation w limit n ns x width fx e h. subst (IsAmong n) (listed w limit x ns e) (members_stand valuation w n x h.0 h.1);
  members_ascend = λ c w limit ns x width fx e. subst IsAscending (listed w limit x ns e) (members_ascend w x);
  members_fit = λ c w limit ns x width fx e. subst (Each (λ n. (n < 2 ^ w) × IsTrue (may_be x n))) (listed w limit x ns e) (members_allowed (length c) w x fx);
  members_few = λ c w limit ns x width fx e. few_where (nat_le (size_of w x) limit) (size_of w x) limit (all_of w x) ns refl (members_size w x) e;
  members_none = λ c w limit x width fx. none_where (nat_le (size_of w x) limit) (size_of w x) limit (all_of w x) refl;
  join_describes = λ c valuation w n x y width may fx fy h. let s = sides h in (join_stands valuation n x y s.0, s.1);
  join_absorbs = λ c w x y width may fx fy. join_absorbs x y;
  join_least = λ c w x y z width fx fy fz h k. join_least x y z h k;
  widen_describes = λ c valuation w n old new width may fx fy h. let s = sides h in (join_stands valuation n old new s.0, s.1);
  widen_absorbs = λ c w old new width may fx fy. join_absorbs old new;
  absorbs_itself = λ c w x width fx. absorbs_equal x x refl;
  absorbs_on = λ c w x y z width fx fy fz h k. absorbs_on x y z h k;
  absorbs_describes = λ c valuation w n old new width fx fy h k. (absorbs_stands valuation n old new h k.0, k.1);
  widen_keeps = λ c w old new width joins fx fy h. widen_keeps old new h;
  widen_falls = λ c w old new width joins fx fy h. widen_falls old new h;
  rank_height = λ c w x width fx. rank_low x;
  is_exact = λ c w x width e fx. cc;
  not_both = λ c k w x y width e fx fy h. cc;
  constant_fits = λ c w n width h. (h, tt);
  any_fits = λ c w width. (tt, tt);
  range_fits = λ c w low high width a h. range_fits (length c) w low high a h;
  op1_fits = λ c op w x width fx. op1_fits op (length c) w x width fx;
  op2_fits = λ c op w x y width fx fy. op2_fits op (length c) w x y width fx fy;
  zext_fits = λ c from to x widths fx. cast_fits (zext_of from to) (length c) from to x (λ n h. zext_of_fits from to n widths.order h) fx;
  sext_fits = λ c from to x widths fx. cast_fits (sext_of from to) (length c) from to x (λ n h. sext_of_fits from to n) fx;
  trunc_fits = λ c from to x widths fx. cast_fits (trunc_of from to) (length c) from to x (λ n h. trunc_of_fits from to n) fx;
  join_fits = λ c w x y width fx fy. join_fits (length c) w x y fx;
  widen_fits = λ c w old new width fx fy. join_fits (length c) w old new fx;
}

pub affine_laws : Laws Word (Unit {0}) (List (ℕ × KeyAt)) affine
affine_laws = record { words = word_laws; notes = no_note_laws true }
