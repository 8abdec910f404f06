-- The addresses of words.
use Rattle.std.proofs.Common.{◌≡◌, ℕ, zero, suc, ◌+◌, ◌-◌, ◌*◌, ◌/◌, ◌%◌, ◌<◌, ◌≤◌, ◌^◌, ◌==◌, Bool, true, false, ◌&&◌, Some, List, [], ◌∷◌, ◌++◌, length, drop, refl, ap, ap₂, sym, ◌∙◌, subst, arith, eqb-true, eq-eqb}
use Rattle.std.specs.Prelude.{◌||◌, not, nat_le, min, max, is_some, if◌then◌else◌}
use Rattle.std.specs.List.{list_all, list_any}
use Rattle.std.proofs.lemmas.Bool.{leb-true, le-leb, ltb-false, not-true as not_true, and_parts as both, or_right}
use Rattle.std.specs.Cmp.{both_ways as same_test}
use Rattle.code_image.specs.declared.order.Order.{Order}
use Rattle.code_image.specs.Image.{Segment, addresses, addresses_from, has_word, word_in, word_of, words_of, end_of}
use Rattle.code_image.specs.Faults.{ascend, follows, is_segment, overlaps}
use Rattle.code_image.specs.Laws.{AddressesAreThoseOfWords, ascend_from}

any-append : (test : ℕ → Bool) (xs ys : List ℕ) → list_any test (xs ++ ys) ≡ (list_any test xs || list_any test ys)
any-append test [] ys = refl
any-append test (x ∷ xs) ys = by (test x) (any-append test xs ys)
  where
    by : (b : Bool) → list_any test (xs ++ ys) ≡ (list_any test xs || list_any test ys) → (b || list_any test (xs ++ ys)) ≡ ((b || list_any test xs) || list_any test ys)
    by true e = refl
    by false e = e

-- ---- which addresses these are

run_has : (n b i a : ℕ) → i < n → a ≡ b + 4 * i → list_any (λ y. y == a) (addresses_from b n) ≡ true
run_has zero b i a h e = absurd (omega (arith, h))
run_has (suc n) b zero a h e = ap (λ t. t || list_any (λ y. y == a) (addresses_from (b + 4) n)) (eq-eqb b a (omega (arith, e)))
run_has (suc n) b (suc i) a h e = or_right (b == a) (list_any (λ y. y == a) (addresses_from (b + 4) n)) (run_has n (b + 4) i a (omega (arith, h)) (omega (arith, e)))

-- a place in a run
record IsPlace (n b a : ℕ) : Type 0 where
  i : ℕ
  below : i < n
  at : a ≡ b + 4 * i

run_only : (n b a : ℕ) → list_any (λ y. y == a) (addresses_from b n) ≡ true → IsPlace n b a
run_only zero b a e = cc
run_only (suc n) b a e = by (b == a) refl e (run_only n (b + 4) a)
  where
    by : (t : Bool) → (b == a) ≡ t → (t || list_any (λ y. y == a) (addresses_from (b + 4) n)) ≡ true → (list_any (λ y. y == a) (addresses_from (b + 4) n) ≡ true → IsPlace n (b + 4) a) → IsPlace (suc n) b a
    by true is k more = record { i = 0; below = omega arith; at = omega (arith, eqb-true b a is) }
    by false is k more =
        let p = more k in
        record { i = suc p.i; below = omega (arith, p.below); at = omega (arith, p.at) }

-- what is known of a segment of an image
record IsWhole (s : Segment) : Type 0 where
  aligned : s.base % 4 ≡ 0
  whole : length s.bytes % 4 ≡ 0

whole_is : (s : Segment) → is_segment s ≡ true → IsWhole s
whole_is s e =
    let one = both (s.base % 4 == 0) (length s.bytes % 4 == 0 && nat_le (end_of s) (2 ^ 32)) e in
    let two = both (length s.bytes % 4 == 0) (nat_le (end_of s) (2 ^ 32)) one.1 in
    record { aligned = eqb-true (s.base % 4) 0 one.0; whole = eqb-true (length s.bytes % 4) 0 two.0 }

run_is : (s : Segment) (a : ℕ) → is_segment s ≡ true → list_any (λ y. y == a) (addresses_from s.base (words_of s)) ≡ has_word s a
run_is s a e = same_test (list_any (λ y. y == a) (addresses_from s.base (words_of s))) (has_word s a) to from
  where
    w : IsWhole s
    w = whole_is s e

    to : list_any (λ y. y == a) (addresses_from s.base (words_of s)) ≡ true → has_word s a ≡ true
    to k =
        let p = run_only (words_of s) s.base a k in
        let aligned : a % 4 ≡ 0 = omega (arith, p.at, w.aligned) in
        let above : s.base ≤ a = omega (arith, p.at) in
        let below : a + 4 ≤ end_of s = omega (arith, p.at, p.below) in
        ap₂ (λ x y. x && y) (eq-eqb (a % 4) 0 aligned) (ap₂ (λ x y. x && y) (le-leb s.base a above) (le-leb (a + 4) (end_of s) below))

    from : has_word s a ≡ true → list_any (λ y. y == a) (addresses_from s.base (words_of s)) ≡ true
    from k =
        let one = both (a % 4 == 0) (nat_le s.base a && nat_le (a + 4) (end_of s)) k in
        let two = both (nat_le s.base a) (nat_le (a + 4) (end_of s)) one.1 in
        let aligned = eqb-true (a % 4) 0 one.0 in
        let above = leb-true s.base a two.0 in
        let below = leb-true (a + 4) (end_of s) two.1 in
        run_has (words_of s) s.base (a / 4 - s.base / 4) a (omega (arith, w.aligned, w.whole, aligned, above, below)) (omega (arith, w.aligned, aligned, above))

words_there : (order : Order) (a : ℕ) (segments : List Segment) → list_all is_segment segments ≡ true → list_any (λ y. y == a) (addresses segments) ≡ is_some (word_in order segments a)
words_there order a [] e = refl
words_there order a (s ∷ segments) e =
    let each = both (is_segment s) (list_all is_segment segments) e in
    any-append (λ y. y == a) (addresses_from s.base (words_of s)) (addresses segments)
    ∙ ap₂ (λ x y. x || y) (run_is s a each.0) (words_there order a segments each.1)
    ∙ by (has_word s a)
  where
    by : (b : Bool) → (b || is_some (word_in order segments a)) ≡ is_some (if b then Some (word_of order (drop (a - s.base) s.bytes)) else word_in order segments a)
    by true = refl
    by false = refl

-- ---- that they ascend

-- whether a segment has no words below an address
abbrev clear_by : ℕ → ℕ → ℕ → Bool
clear_by zero least base = true
clear_by (suc n) least base = nat_le least base

abbrev clear : ℕ → Segment → Bool
clear least q = clear_by (words_of q) least q.base

clear_after : (s q : Segment) (n : ℕ) → words_of s ≡ suc n → follows s q ≡ true → clear (suc (s.base + 4 * n)) q ≡ true
clear_after s q n e h = by (words_of q) refl
  where
    by : (k : ℕ) → words_of q ≡ k → clear_by k (suc (s.base + 4 * n)) q.base ≡ true
    by zero is = refl
    by (suc k) is =
        let two = both (nat_le s.base q.base) (not (overlaps s q)) h in
        let up = leb-true s.base q.base two.0 in
        let free = ltb-false (max s.base q.base) (min (end_of s) (end_of q)) (not_true (overlaps s q) two.1) in
        let more : q.base < end_of q = omega (arith, is) in
        let behind : end_of s ≤ q.base = omega (arith, up, free, more) in
        le-leb (suc (s.base + 4 * n)) q.base (omega (arith, e, behind))

all_clear : (s : Segment) (n : ℕ) (segments : List Segment) → words_of s ≡ suc n → list_all (follows s) segments ≡ true → list_all (clear (suc (s.base + 4 * n))) segments ≡ true
all_clear s n [] e h = refl
all_clear s n (q ∷ segments) e h =
    let two = both (follows s q) (list_all (follows s) segments) h in
    ap₂ (λ x y. x && y) (clear_after s q n e two.0) (all_clear s n segments e two.1)

run_up : (n b least : ℕ) (ys : List ℕ) → least ≤ b → ascend_from (suc (b + 4 * n)) ys ≡ true → ascend_from least (addresses_from b (suc n) ++ ys) ≡ true
run_up zero b least ys h e =
    let same : suc (b + 4 * 0) ≡ suc b = omega arith in
    ap₂ (λ x y. x && y) (le-leb least b h) (ap (λ k. ascend_from k ys) (sym same) ∙ e)
run_up (suc n) b least ys h e =
    let same : suc (b + 4 * suc n) ≡ suc (b + 4 + 4 * n) = omega arith in
    let next : suc b ≤ b + 4 = omega arith in
    ap₂ (λ x y. x && y) (le-leb least b h) (run_up n (b + 4) (suc b) ys next (ap (λ k. ascend_from k ys) (sym same) ∙ e))

all_up : (least : ℕ) (segments : List Segment) → ascend segments ≡ true → list_all (clear least) segments ≡ true → ascend_from least (addresses segments) ≡ true
all_up least [] up free = refl
all_up least (s ∷ segments) up free = by (words_of s) refl (λ k f. all_up k segments ups.1 f)
  where
    ups : (list_all (follows s) segments ≡ true) × (ascend segments ≡ true)
    ups = both (list_all (follows s) segments) (ascend segments) up

    frees : (clear least s ≡ true) × (list_all (clear least) segments ≡ true)
    frees = both (clear least s) (list_all (clear least) segments) free

    by : (n : ℕ) → words_of s ≡ n → ((k : ℕ) → list_all (clear k) segments ≡ true → ascend_from k (addresses segments) ≡ true) → ascend_from least (addresses_from s.base n ++ addresses segments) ≡ true
    by zero is more = more least frees.1
    by (suc n) is more =
        let here = subst (λ k. clear_by k least s.base ≡ true) is frees.0 in
        run_up n s.base least (addresses segments) (leb-true least s.base here) (more (suc (s.base + 4 * n)) (all_clear s n segments is ups.0))

all_at_first : (segments : List Segment) → list_all (clear 0) segments ≡ true
all_at_first [] = refl
all_at_first (s ∷ segments) = ap₂ (λ x y. x && y) (by (words_of s)) (all_at_first segments)
  where
    by : (n : ℕ) → clear_by n 0 s.base ≡ true
    by zero = refl
    by (suc n) = le-leb 0 s.base (omega arith)

pub addresses_are_those_of_words : AddressesAreThoseOfWords
addresses_are_those_of_words image ok = (all_up 0 image.segments ok.segments.ascend (all_at_first image.segments), λ a. words_there image.order a image.segments ok.segments.each)
