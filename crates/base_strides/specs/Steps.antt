-- Sets made one number after another.
use Rattle.std.proofs.Common.{◌≡◌, ℕ, zero, suc, ◌+◌, ◌*◌, ◌≤◌, ◌<◌, List, [], ◌∷◌, ◌++◌, length, map, Bool, true, false, Some, None, refl, sym, ap, ◌∙◌, arith, ◌-◌, ◌/◌, mul-le-mul_right}
use Rattle.std.specs.Prelude.{nat_lt, nat_le, ◌==◌, take, is_none, IsTrue, if◌then◌else◌}
use Rattle.std.proofs.Math.Nat.{div-mul-le_self, div-zero}
use Rattle.std.proofs.lemmas.Bool.Decides.{nat_tests}
use Rattle.base_trait.proofs.Tests.{at_choice}
use Rattle.base_kset.specs.Sets.{placed, set_with, bounded, union}
use Rattle.base_strides.specs.Stretch.{by_steps, steps_length, one}
use Rattle.base_strides.specs.Views.{word_of}
use Rattle.base_strides.specs.Words.{Word, Listed}

pub placed_last : (low step n : ℕ) → 1 ≤ step → placed (low + (n + 1) * step) (by_steps low step n) ≡ by_steps low step (n + 1)
placed_last low step zero h =
    at_choice (λ l. l ≡ by_steps low step (0 + 1)) (nat_lt (low + (0 + 1) * step) low) ((low + (0 + 1) * step) ∷ low ∷ []) _ (λ e. absurd (grind (arith, nat_tests)))
    (λ e. at_choice (λ l. l ≡ by_steps low step (0 + 1)) ((low + (0 + 1) * step) == low) (low ∷ []) (low ∷ (low + (0 + 1) * step) ∷ []) (λ f. absurd (grind (arith, nat_tests)))
    (λ f. ap (λ z. low ∷ z ∷ []) (omega arith)))
placed_last low step (suc n) h =
    let next : low + (suc n + 1) * step ≡ low + step + (n + 1) * step = omega arith in
    let rest = placed_last (low + step) step n h in
    let one_more : suc n + 1 ≡ suc (n + 1) = omega arith in
    at_choice (λ l. l ≡ by_steps low step (suc n + 1)) (nat_lt (low + (suc n + 1) * step) low) ((low + (suc n + 1) * step) ∷ low ∷ by_steps (low + step) step n) _ (λ e. absurd (grind (arith, nat_tests)))
    (λ e. at_choice (λ l. l ≡ by_steps low step (suc n + 1)) ((low + (suc n + 1) * step) == low) (low ∷ by_steps (low + step) step n) (low ∷ placed (low + (suc n + 1) * step) (by_steps (low + step) step n)) (λ f. absurd (grind (arith, nat_tests)))
    (λ f. ap (λ z. low ∷ placed z (by_steps (low + step) step n)) next ∙ ap (λ l. low ∷ l) rest ∙ sym (ap (by_steps low step) one_more)))

-- the set with its next number, where there is room
pub union_last : (low step n : ℕ) → 1 ≤ step → n + 1 < 16 → union 16 (Some (by_steps low step n)) (Some ((low + (n + 1) * step) ∷ [])) ≡ Some (by_steps low step (n + 1))
union_last low step n h room =
    let size = steps_length low step (n + 1) in
    ap (bounded 16) (placed_last low step n h)
    ∙ at_choice (λ z. z ≡ Some (by_steps low step (n + 1))) (nat_le (length (by_steps low step (n + 1))) 16) (Some (by_steps low step (n + 1))) None (λ e. refl) (λ e. absurd (grind (arith, nat_tests, size)))

-- the list with its next number
pub steps_last : (low step n : ℕ) → by_steps low step (n + 1) ≡ by_steps low step n ++ (low + (n + 1) * step) ∷ []
steps_last low step zero = ap (λ z. low ∷ z ∷ []) (omega arith)
steps_last low step (suc n) =
    let next : low + step + (n + 1) * step ≡ low + (suc n + 1) * step = omega arith in
    let one_more : suc n + 1 ≡ suc (n + 1) = omega arith in
    ap (by_steps low step) one_more ∙ ap (λ l. low ∷ l) (steps_last (low + step) step n) ∙ ap (λ z. low ∷ (by_steps (low + step) step n ++ z ∷ [])) next

-- ---- no more numbers than were added
placed_few : (x : ℕ) (s : List ℕ) → length (placed x s) ≤ length s + 1
placed_few x [] = omega arith
placed_few x (y ∷ s) =
    let rest = placed_few x s in
    at_choice (λ l. length l ≤ length (y ∷ s) + 1) (nat_lt x y) (x ∷ y ∷ s) _ (λ e. omega arith)
    (λ e. at_choice (λ l. length l ≤ length (y ∷ s) + 1) (x == y) (y ∷ s) (y ∷ placed x s) (λ f. omega arith) (λ f. omega (arith, rest)))

pub set_few : (s ns : List ℕ) → length (set_with s ns) ≤ length s + length ns
set_few s [] = omega arith
set_few s (n ∷ ns) = let first = placed_few n s in let rest = set_few (placed n s) ns in omega (arith, first, rest)

pub map_few : (f : ℕ → ℕ) (s : List ℕ) → length (map f s) ≡ length s
map_few f [] = refl
map_few f (n ∷ s) = let rest = map_few f s in omega (arith, rest)

-- no more items than are taken
pub take_all : (k : ℕ) (xs : List ℕ) → length xs ≤ k → take k xs ≡ xs
take_all zero [] h = refl
take_all zero (x ∷ xs) h = absurd (omega arith)
take_all (suc k) [] h = refl
take_all (suc k) (x ∷ xs) h = ap (λ l. x ∷ l) (take_all k xs (omega arith))

-- a number of a stretch, by its place
pub place_within : (lo step hi i : ℕ) → lo ≤ hi → i ≤ (hi - lo) / step → (i * step ≤ hi - lo) × (lo + i * step ≤ hi)
place_within lo step hi i a b =
    let part = div-mul-le_self (hi - lo) step in
    let less : i * step ≤ (hi - lo) / step * step = mul-le-mul_right step b in
    (omega (arith, part, less), omega (arith, part, less))

pub step_some : (n step i : ℕ) → i < n / step → 1 ≤ step
step_some n zero i h = let none = div-zero n in absurd (omega (arith, none, h))
step_some n (suc step) i h = omega arith

-- ---- a set where it has room, else something else
pub set_chosen : (b : Bool) (t : List ℕ) (z : Word) → is_none (if b then Some t else None) ≡ false
    → word_of (if b then Some t else None) (one 0) ≡ (if b then Listed t else z)
set_chosen true t z h = refl
set_chosen false t z h = cc

pub other_chosen : (b : Bool) (t : List ℕ) (z : Word) → IsTrue (is_none (if b then Some t else None)) → z ≡ (if b then Listed t else z)
other_chosen true t z h = cc
other_chosen false t z h = refl

pub room_chosen : (b : Bool) (t : List ℕ) (z : Word) → IsTrue b → word_of (if b then Some t else None) (one 0) ≡ (if b then Listed t else z)
room_chosen true t z h = refl
room_chosen false t z h = cc
