-- Lemmas: sums and differences, by their carries.
use Rattle.std.proofs.Common.{◌≡◌, ℕ, ◌+◌, ◌-◌, ◌*◌, ◌/◌, ◌%◌, ◌^◌, ◌<◌, ◌≤◌, inl, inr, sym, ap, subst, ◌∙◌, arith, pow_pos, mod-lt, bit_or, bit_xor, div-mul-le_self}
use Rattle.std.specs.Int.{bit_at}
use Rattle.std.proofs.Math.Nat.{add-mul-div_right, mod-add-mod, add-mod_right}
use Rattle.std.proofs.lemmas.Bool.{cases_lt}
use Rattle.std.proofs.lemmas.Nat.{div-add-mod', div_below, le-div, or_disjoint, or_lt, xor_lt}
use Rattle.std.proofs.lemmas.Nat.Bits.{bit_at-lt, bit_at_or, bit_at_xor, bit_at_above, bit_at_cat_low}
use Rattle.word_operations.specs.Op2.{op2_of}
use Rattle.word_operations.specs.declared.kinds.BinaryOperation.TheVariants.{Add, Sub}
use Rattle.base_bits.specs.declared.known.Known.{Known}
use Rattle.base_bits.specs.Known.{greatest, Describes, Fits, exact}
use Rattle.base_bits.specs.Bitwise.{turned_bit}
use Rattle.base_bits.specs.Describing.{fits_without, describes_without, above_least, below_greatest, least_describes, greatest_bit, greatest_below, le_from_bits, exact_fits, exact_describes}
use Rattle.base_bits.specs.Add.{add_of, least_sum, sum_changes, sum_unknown}
use Rattle.base_bits.specs.Sub.{sub_of, neg_of, least_difference, difference_changes, difference_unknown}

-- the low bits of a number
pub low_bit : (n k i : ℕ) → i < k → bit_at (n % 2 ^ k) i ≡ bit_at n i
low_bit n k i within = sym (bit_at_cat_low (n / 2 ^ k) k (n % 2 ^ k) i within) ∙ ap (λ z. bit_at z i) (div-add-mod' n (2 ^ k))

no_bit : (n k i : ℕ) → k ≤ i → bit_at (n % 2 ^ k) i ≡ 0
no_bit n k i past = bit_at_above (n % 2 ^ k) k i (mod-lt n (pow_pos k)) past

-- the low parts of numbers whose bits are ordered are ordered
low_le : (a b i : ℕ) → ((j : ℕ) → bit_at a j ≤ bit_at b j) → a % 2 ^ i ≤ b % 2 ^ i
low_le a b i h = le_from_bits (a % 2 ^ i) (b % 2 ^ i) (λ j. elim (cases_lt j i) [
  | inl within ↦ omega (arith, low_bit a i j within, low_bit b i j within, h j)
  | inr past ↦ omega (arith, no_bit a i j past)
])

-- what a sum carries into bit i
abbrev carry : ℕ → ℕ → ℕ → ℕ → ℕ
carry i a b c = (a % 2 ^ i + b % 2 ^ i + c) / 2 ^ i

carry_small : (i a b c : ℕ) → c ≤ 1 → carry i a b c < 2
carry_small i a b c small =
    div_below (a % 2 ^ i + b % 2 ^ i + c) (2 ^ i) 2 (pow_pos i) (omega (arith, mod-lt a (pow_pos i), mod-lt b (pow_pos i), small))

carry_grows : (i a a' b b' c : ℕ) → a % 2 ^ i ≤ a' % 2 ^ i → b % 2 ^ i ≤ b' % 2 ^ i → carry i a b c ≤ carry i a' b' c
carry_grows i a a' b b' c left right =
    le-div (carry i a b c) (a' % 2 ^ i + b' % 2 ^ i + c) (2 ^ i) (pow_pos i)
    (omega (arith, div-mul-le_self (a % 2 ^ i + b % 2 ^ i + c) (2 ^ i), left, right))

-- a bit of a sum is that of the two bits and the carry
sum_bit : (i a b c : ℕ) → bit_at (a + b + c) i ≡ (bit_at a i + bit_at b i + carry i a b c) % 2
sum_bit i a b c =
    let rest = a % 2 ^ i + b % 2 ^ i + c in
    let whole : a + b + c ≡ rest + (a / 2 ^ i + b / 2 ^ i) * 2 ^ i = omega (arith, div-add-mod' a (2 ^ i), div-add-mod' b (2 ^ i)) in
    let quotient : (a + b + c) / 2 ^ i ≡ carry i a b c + (a / 2 ^ i + b / 2 ^ i) =
    ap (λ n. n / 2 ^ i) whole ∙ add-mul-div_right rest (a / 2 ^ i + b / 2 ^ i) (pow_pos i) in
    ap (λ n. n % 2) quotient ∙ omega arith

-- where the sums of the least and of the greatest agree in a known bit, so does each between
pub between : (i c l a h l' a' h' : ℕ) → c ≤ 1
    → ((j : ℕ) → bit_at l j ≤ bit_at a j) → ((j : ℕ) → bit_at a j ≤ bit_at h j)
    → ((j : ℕ) → bit_at l' j ≤ bit_at a' j) → ((j : ℕ) → bit_at a' j ≤ bit_at h' j)
    → bit_at h i ≡ bit_at l i → bit_at h' i ≡ bit_at l' i → bit_at (h + h' + c) i ≡ bit_at (l + l' + c) i
    → bit_at (a + a' + c) i ≡ bit_at (l + l' + c) i
between i c l a h l' a' h' small la ah la' ah' known known' same =
    let low = carry_grows i l a l' a' c (low_le l a i la) (low_le l' a' i la') in
    let high = carry_grows i a h a' h' c (low_le a h i ah) (low_le a' h' i ah') in
    let first : bit_at a i ≡ bit_at l i = omega (arith, la i, ah i, known) in
    let second : bit_at a' i ≡ bit_at l' i = omega (arith, la' i, ah' i, known') in
    let carries : carry i l l' c ≡ carry i h h' c =
    omega (arith, sum_bit i l l' c, sum_bit i h h' c, known, known', same, low, high, carry_small i h h' c small) in
    let here : carry i a a' c ≡ carry i l l' c = omega (arith, low, high, carries) in
    sum_bit i a a' c ∙ ap (λ k. (bit_at a i + bit_at a' i + k) % 2) here
    ∙ ap (λ k. (k + bit_at a' i + carry i l l' c) % 2) first ∙ ap (λ k. (bit_at l i + k + carry i l l' c) % 2) second ∙ sym (sum_bit i l l' c)

-- the greatest number is the least with all unknown bits
pub greatest_sum : (w : ℕ) (x : Known) → Fits w x → greatest x ≡ x.v + x.m
greatest_sum w x fits = or_disjoint x.v x.m fits.apart

-- a known bit is the same in the least and the greatest number
known_ends : (x : Known) (i : ℕ) → bit_at x.m i ≡ 0 → bit_at (greatest x) i ≡ bit_at x.v i
known_ends x i clear = omega (arith, greatest_bit x i, clear)

-- equal bits have no Xor
pub xor_clear : (a b i : ℕ) → bit_at (bit_xor a b) i ≡ 0 → bit_at a i ≡ bit_at b i
xor_clear a b i clear = omega (arith, bit_at_xor a b i, clear, bit_at-lt a i, bit_at-lt b i)

-- ---- sums
sum_unknown_below : (w : ℕ) (x y : Known) → Fits w x → Fits w y → sum_unknown w x y < 2 ^ w
sum_unknown_below w x y left right =
    or_lt w (sum_changes w x y) (bit_or x.m y.m)
    (xor_lt w _ (least_sum w x y) (mod-lt _ (pow_pos w)) (mod-lt (x.v + y.v) (pow_pos w)))
    (or_lt w x.m y.m left.unknown right.unknown)

pub add_fits : (w : ℕ) (x y : Known) → Fits w x → Fits w y → Fits w (add_of w x y)
add_fits w x y left right =
    fits_without w (least_sum w x y) (sum_unknown w x y) (mod-lt (x.v + y.v) (pow_pos w)) (sum_unknown_below w x y left right)

greatest_total : (w : ℕ) (x y : Known) → Fits w x → Fits w y
    → op2_of Add w (op2_of Add w (least_sum w x y) x.m) y.m ≡ (greatest x + greatest y) % 2 ^ w
greatest_total w x y left right =
    let all : x.v + y.v + x.m + y.m ≡ greatest x + greatest y = omega (arith, greatest_sum w x left, greatest_sum w y right) in
    mod-add-mod (least_sum w x y + x.m) (2 ^ w) y.m
    ∙ ap (λ n. n % 2 ^ w) (omega arith)
    ∙ mod-add-mod (x.v + y.v) (2 ^ w) (x.m + y.m)
    ∙ ap (λ n. n % 2 ^ w) (omega (arith, all))

pub add_sound : (w m n : ℕ) (x y : Known) → Fits w x → Fits w y → Describes w m x → Describes w n y → Describes w ((m + n) % 2 ^ w) (add_of w x y)
add_sound w m n x y left right d e =
    describes_without w (least_sum w x y) (sum_unknown w x y) ((m + n) % 2 ^ w)
    (mod-lt (x.v + y.v) (pow_pos w)) (sum_unknown_below w x y left right) (mod-lt (m + n) (pow_pos w)) at
  where
    at : (i : ℕ) → i < w → bit_at (sum_unknown w x y) i ≡ 0 → bit_at ((m + n) % 2 ^ w) i ≡ bit_at (least_sum w x y) i
    at i within clear =
        let parts = bit_at_or (sum_changes w x y) (bit_or x.m y.m) i in
        let either = bit_at_or x.m y.m i in
        let first : bit_at x.m i ≡ 0 = omega (arith, parts, either, clear) in
        let second : bit_at y.m i ≡ 0 = omega (arith, parts, either, clear) in
        let agree = xor_clear (op2_of Add w (op2_of Add w (least_sum w x y) x.m) y.m) (least_sum w x y) i (omega (arith, parts, clear)) in
        let most = ap (λ z. bit_at z i) (greatest_total w x y left right) ∙ low_bit (greatest x + greatest y) w i within in
        let least = low_bit (x.v + y.v) w i within in
        let none : (a b : ℕ) → bit_at (a + b + 0) i ≡ bit_at (a + b) i = λ a b. ap (λ z. bit_at z i) (omega arith) in
        let same : bit_at (greatest x + greatest y + 0) i ≡ bit_at (x.v + y.v + 0) i =
        none (greatest x) (greatest y) ∙ sym most ∙ agree ∙ least ∙ sym (none x.v y.v) in
        low_bit (m + n) w i within ∙ sym (none m n)
        ∙ between i 0 x.v m (greatest x) y.v n (greatest y) (omega arith)
        (above_least w m x left d) (below_greatest w m x d) (above_least w n y right e) (below_greatest w n y e)
        (known_ends x i first) (known_ends y i second) same
        ∙ none x.v y.v ∙ sym least

-- ---- differences: a sum with the turned word and a carry
sub_is : (w a b : ℕ) → b < 2 ^ w → op2_of Sub w a b ≡ (a + (2 ^ w - 1 - b) + 1) % 2 ^ w
sub_is w a b below = ap (λ n. n % 2 ^ w) (omega (arith, below))

turned_order : (w a b : ℕ) → a < 2 ^ w → b < 2 ^ w → ((j : ℕ) → bit_at a j ≤ bit_at b j) → (j : ℕ) → bit_at (2 ^ w - 1 - b) j ≤ bit_at (2 ^ w - 1 - a) j
turned_order w a b left right h j =
    elim (cases_lt j w) [
      | inl within ↦ omega (arith, turned_bit w a j within left, turned_bit w b j within right, h j)
      | inr past ↦ omega (arith, bit_at_above (2 ^ w - 1 - b) w j (omega (arith, pow_pos w)) past)
    ]

difference_unknown_below : (w : ℕ) (x y : Known) → Fits w x → Fits w y → difference_unknown w x y < 2 ^ w
difference_unknown_below w x y left right =
    or_lt w (difference_changes w x y) (bit_or x.m y.m)
    (xor_lt w (op2_of Add w (least_difference w x y) x.m) (op2_of Sub w (least_difference w x y) y.m) (mod-lt _ (pow_pos w)) (mod-lt _ (pow_pos w)))
    (or_lt w x.m y.m left.unknown right.unknown)

pub sub_fits : (w : ℕ) (x y : Known) → Fits w x → Fits w y → Fits w (sub_of w x y)
sub_fits w x y left right =
    fits_without w (least_difference w x y) (difference_unknown w x y) (mod-lt _ (pow_pos w)) (difference_unknown_below w x y left right)

greatest_difference : (w : ℕ) (x y : Known) → Fits w x → Fits w y
    → op2_of Add w (least_difference w x y) x.m ≡ (greatest x + (2 ^ w - 1 - y.v) + 1) % 2 ^ w
greatest_difference w x y left right =
    mod-add-mod (x.v + 2 ^ w - y.v) (2 ^ w) x.m
    ∙ ap (λ n. n % 2 ^ w) (omega (arith, greatest_sum w x left, right.known))

smallest_difference : (w : ℕ) (x y : Known) → Fits w x → Fits w y
    → op2_of Sub w (least_difference w x y) y.m ≡ (x.v + (2 ^ w - 1 - greatest y) + 1) % 2 ^ w
smallest_difference w x y left right =
    let sum = greatest_sum w y right in
    let below = greatest_below w y right in
    ap (λ n. n % 2 ^ w) (let small = right.unknown in omega (arith, small))
    ∙ mod-add-mod (x.v + 2 ^ w - y.v) (2 ^ w) (2 ^ w - y.m)
    ∙ ap (λ n. n % 2 ^ w) (omega (arith, sum, below))
    ∙ add-mod_right (x.v + (2 ^ w - 1 - greatest y) + 1) (2 ^ w)

pub sub_sound : (w m n : ℕ) (x y : Known) → Fits w x → Fits w y → Describes w m x → Describes w n y → Describes w (op2_of Sub w m n) (sub_of w x y)
sub_sound w m n x y left right d e =
    describes_without w (least_difference w x y) (difference_unknown w x y) (op2_of Sub w m n)
    (mod-lt _ (pow_pos w)) (difference_unknown_below w x y left right) (mod-lt _ (pow_pos w)) at
  where
    at : (i : ℕ) → i < w → bit_at (difference_unknown w x y) i ≡ 0 → bit_at (op2_of Sub w m n) i ≡ bit_at (least_difference w x y) i
    at i within clear =
        let parts = bit_at_or (difference_changes w x y) (bit_or x.m y.m) i in
        let either = bit_at_or x.m y.m i in
        let first : bit_at x.m i ≡ 0 = omega (arith, parts, either, clear) in
        let second : bit_at y.m i ≡ 0 = omega (arith, parts, either, clear) in
        let gy = greatest_below w y right in
        let agree = xor_clear (op2_of Add w (least_difference w x y) x.m) (op2_of Sub w (least_difference w x y) y.m) i (omega (arith, parts, clear)) in
        let most = ap (λ z. bit_at z i) (greatest_difference w x y left right) ∙ low_bit (greatest x + (2 ^ w - 1 - y.v) + 1) w i within in
        let least = ap (λ z. bit_at z i) (smallest_difference w x y left right) ∙ low_bit (x.v + (2 ^ w - 1 - greatest y) + 1) w i within in
        let ends : bit_at (2 ^ w - 1 - y.v) i ≡ bit_at (2 ^ w - 1 - greatest y) i =
        omega (arith, turned_bit w y.v i within right.known, turned_bit w (greatest y) i within gy, known_ends y i second) in
        let same : bit_at (greatest x + (2 ^ w - 1 - y.v) + 1) i ≡ bit_at (x.v + (2 ^ w - 1 - greatest y) + 1) i = sym most ∙ agree ∙ least in
        let at_one : (a b : ℕ) → Describes w a x → Describes w b y → bit_at (op2_of Sub w a b) i ≡ bit_at (x.v + (2 ^ w - 1 - greatest y) + 1) i =
        λ a b f g.
        ap (λ z. bit_at z i) (sub_is w a b g.below) ∙ low_bit (a + (2 ^ w - 1 - b) + 1) w i within
        ∙ between i 1 x.v a (greatest x) (2 ^ w - 1 - greatest y) (2 ^ w - 1 - b) (2 ^ w - 1 - y.v) (omega arith)
        (above_least w a x left f) (below_greatest w a x f)
        (turned_order w b (greatest y) g.below gy (below_greatest w b y g)) (turned_order w y.v b right.known g.below (above_least w b y right g))
        (known_ends x i first) ends same in
        at_one m n d e ∙ sym (at_one x.v y.v (least_describes w x left) (least_describes w y right))

-- ---- negation
pub neg_fits : (w : ℕ) (x : Known) → Fits w x → Fits w (neg_of w x)
neg_fits w x fits = sub_fits w (exact 0) x (exact_fits w 0 (pow_pos w)) fits

pub neg_sound : (w n : ℕ) (x : Known) → Fits w x → Describes w n x → Describes w ((2 ^ w - n) % 2 ^ w) (neg_of w x)
neg_sound w n x fits d =
    let first : 0 + 2 ^ w - n ≡ 2 ^ w - n = omega arith in
    subst (λ k. Describes w (k % 2 ^ w) (neg_of w x)) first
    (sub_sound w 0 n (exact 0) x (exact_fits w 0 (pow_pos w)) fits (exact_describes w 0 (pow_pos w)) d)
