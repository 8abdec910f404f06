-- Tested numbers: different, and below a bound.
use Rattle.std.proofs.Common.{◌≡◌, ℕ, zero, suc, ◌+◌, ◌<◌, ◌≤◌, Bool, true, false, cond, below_more, ◌==◌, ◌||◌, eqb, List, [], ◌∷◌, ◌++◌, length, refl, sym, ◌∙◌, arith}
use Rattle.std.proofs.lemmas.Bool.Decides.{nat_tests}
use Rattle.std.specs.List.{list_any, IsDistinct, AllByRecursion}
use Rattle.std.proofs.lemmas.Map.Steps.{length-le_from_distinct_below, le-length_from_below}
use Rattle.spec_match_compiler.specs.Rule.{is_among, least_from, least_other}

abbrev pub Apart : List ℕ → Type 0
Apart [] = Unit {0}
Apart (n ∷ ns) = (is_among n ns ≡ false) × Apart ns

abbrev pub AllLess : ℕ → List ℕ → Type 0
AllLess b [] = Unit {0}
AllLess b (n ∷ ns) = (n < b) × AllLess b ns

pub or_false_left : (a b : Bool) → (a || b) ≡ false → a ≡ false
or_false_left true b h = h
or_false_left false b h = refl

pub or_false_right : (a b : Bool) → (a || b) ≡ false → b ≡ false
or_false_right true b h = absurd (cc)
or_false_right false b h = h

pub neither : (a b : Bool) → a ≡ false → b ≡ false → (a || b) ≡ false
neither a b h k = rw (h, k) refl

flip : (m n : ℕ) → (m == n) ≡ false → (n == m) ≡ false
flip m n h = grind (arith, nat_tests)

-- one more number, different from those before
pub among_push : (m n : ℕ) (ns : List ℕ) → is_among m ns ≡ false → (n == m) ≡ false → is_among m (ns ++ n ∷ []) ≡ false
among_push m n [] h e = neither (n == m) false e refl
among_push m n (x ∷ ns) h e = neither (x == m) _ (or_false_left (x == m) (is_among m ns) h) (among_push m n ns (or_false_right (x == m) (is_among m ns) h) e)

pub apart_push : (n : ℕ) (ns : List ℕ) → Apart ns → is_among n ns ≡ false → Apart (ns ++ n ∷ [])
apart_push n [] h e = (refl, tt)
apart_push n (m ∷ ns) h e =
    (among_push m n ns h.0 (flip m n (or_false_left (m == n) (is_among n ns) e)), apart_push n ns h.1 (or_false_right (m == n) (is_among n ns) e))

pub less_push : (b n : ℕ) (ns : List ℕ) → AllLess b ns → n < b → AllLess b (ns ++ n ∷ [])
less_push b n [] h e = (e, tt)
less_push b n (m ∷ ns) h e = (h.0, less_push b n ns h.1 e)

all_others : (n : ℕ) (ns : List ℕ) → is_among n ns ≡ false → AllByRecursion (λ y. eqb n y ≡ false) ns
all_others n [] h = tt
all_others n (m ∷ ns) h = (flip m n (or_false_left (m == n) (is_among n ns) h), all_others n ns (or_false_right (m == n) (is_among n ns) h))

distinct : (ns : List ℕ) → Apart ns → IsDistinct eqb ns
unfolding IsDistinct
distinct [] h = tt
distinct (n ∷ ns) h = (all_others n ns h.0, distinct ns h.1)

found_cases : (b q m : ℕ) (ns : List ℕ) (t : Bool) → eqb q m ≡ t → m < b → (list_any (eqb q) ns ≡ true → q < b) → (t || list_any (eqb q) ns) ≡ true → q < b
found_cases b q m ns true e h k a = let same : q ≡ m = grind (arith, nat_tests) in rw same h
found_cases b q m ns false e h k a = k a

found_less : (b q : ℕ) (ns : List ℕ) → AllLess b ns → list_any (eqb q) ns ≡ true → q < b
found_less b q [] h e = absurd (cc)
found_less b q (m ∷ ns) h e = found_cases b q m ns (eqb q m) refl h.0 (found_less b q ns h.1) e

pub crowd : (b : ℕ) (ns : List ℕ) → Apart ns → AllLess b ns → length ns ≤ b
crowd b ns h g = length-le_from_distinct_below ns b (distinct ns h) (λ q e. found_less b q ns g e)

last_cases : (b m n : ℕ) (ns : List ℕ) → Apart ns → AllLess b ns → b ≤ length ns + 1 → m < b → n < b → is_among m ns ≡ false → is_among n ns ≡ false → (t : Bool) → (n == m) ≡ t → t ≡ true
last_cases b m n ns apart less most lm ln am an true e = refl
last_cases b m n ns apart less most lm ln am an false e =
    absurd (omega (arith, crowd b (m ∷ (n ∷ ns)) (neither (n == m) (is_among m ns) e am, (an, apart)) (lm, (ln, less))))

-- two numbers that are left where only one may be
pub last_one : (b m n : ℕ) (ns : List ℕ) → Apart ns → AllLess b ns → b ≤ length ns + 1 → m < b → n < b → is_among m ns ≡ false → is_among n ns ≡ false → (n == m) ≡ true
last_one b m n ns apart less most lm ln am an = last_cases b m n ns apart less most lm ln am an (n == m) refl

among_flip : (q : ℕ) (ns : List ℕ) → is_among q ns ≡ list_any (eqb q) ns
among_flip q [] = refl
among_flip q (m ∷ ns) = let e : (m == q) ≡ eqb q m = grind (arith, nat_tests) in rw (e, among_flip q ns) refl

below_next : (n : ℕ) (ns : List ℕ) → ((q : ℕ) → q < n → is_among q ns ≡ true) → is_among n ns ≡ true → (q : ℕ) → q < n + 1 → is_among q ns ≡ true
below_next n ns all here q h = below_more (λ k. is_among k ns ≡ true) n all here q h

least_last : (n : ℕ) (ns : List ℕ) → ((q : ℕ) → q < n → is_among q ns ≡ true) → n + 0 ≡ length ns → (t : Bool) → is_among n ns ≡ t → t ≡ false
least_last n ns all e true h = absurd (omega (arith, le-length_from_below ns (n + 1) (λ q l. sym (among_flip q ns) ∙ below_next n ns all h q l)))
least_last n ns all e false h = refl

least_cases : (fuel n : ℕ) (ns : List ℕ) → ((q : ℕ) → q < n → is_among q ns ≡ true) → n + suc fuel ≡ length ns → (t : Bool) → is_among n ns ≡ t
    → (((q : ℕ) → q < n + 1 → is_among q ns ≡ true) → (is_among (least_from fuel (n + 1) ns) ns ≡ false) × (least_from fuel (n + 1) ns ≤ length ns))
    → (is_among (cond t (least_from fuel (n + 1) ns) n) ns ≡ false) × (cond t (least_from fuel (n + 1) ns) n ≤ length ns)
least_cases fuel n ns all e true h later = later (below_next n ns all h)
least_cases fuel n ns all e false h later = (h, omega arith)

-- the least number that isn't among them
least_is : (fuel n : ℕ) (ns : List ℕ) → ((q : ℕ) → q < n → is_among q ns ≡ true) → n + fuel ≡ length ns
    → (is_among (least_from fuel n ns) ns ≡ false) × (least_from fuel n ns ≤ length ns)
least_is zero n ns all e = (least_last n ns all e (is_among n ns) refl, omega arith)
least_is (suc fuel) n ns all e = least_cases fuel n ns all e (is_among n ns) refl (λ more. least_is fuel (n + 1) ns more (omega arith))

pub least_free : (ns : List ℕ) → (is_among (least_other ns) ns ≡ false) × (least_other ns ≤ length ns)
least_free ns = least_is (length ns) 0 ns (λ q h. absurd (omega arith)) (omega arith)
