-- Lemmas: the list of the numbers that a word describes.
use Rattle.std.proofs.Common.{◌≡◌, ℕ, zero, suc, ◌+◌, ◌*◌, ◌%◌, ◌^◌, ◌<◌, ◌≤◌, true, false, List, [], ◌∷◌, ◌++◌, map, length, IsTrue, inl, inr, refl, sym, ap, ap₂, subst, ◌∙◌, arith, cond, pow_mono, mod-eq_of_lt, bit_and, bit_or}
use Rattle.std.specs.Prelude.{◌==◌, count_ones}
use Rattle.std.specs.Int.{bit_at}
use Rattle.std.proofs.lemmas.Bool.{cases_lt}
use Rattle.std.proofs.lemmas.Bool.Decides.{nat_tests}
use Rattle.std.proofs.lemmas.List.{length-append, length-map}
use Rattle.std.proofs.lemmas.Nat.{and_le_l, or_disjoint, or_lt}
use Rattle.std.proofs.lemmas.Nat.Bits.{bit_at-lt, bit_at-zero, bit_at_and, bit_at_or, bit_at_above, bit_at_cat_low, same_from_bits_below}
use Rattle.base_trait.specs.Lists.{IsAmong, IsAscendingFrom, IsAscending, Each}
use Rattle.base_trait.proofs.Lists.{among_left, among_right, among_either, among_map, map_among, number_itself, number_told, each_from, ascending_lower}
use Rattle.base_trait.proofs.Tests.{at_choice}
use Rattle.base_bits.specs.declared.known.Known.{Known}
use Rattle.base_bits.specs.Known.{without, Describes, Fits}
use Rattle.base_bits.specs.Bitwise.{bit_cases, without_bit}
use Rattle.base_bits.specs.Counts.{count_more, low_more, ones_zero}
use Rattle.base_bits.specs.Describing.{unknown_bit, apart_from}
use Rattle.base_bits.specs.Meaning.{may_be}
use Rattle.base_bits.specs.Members.{choices, members_of, size_of}

-- ---- lists that ascend, one behind the other, and moved up
ascends_on : (low high : ℕ) (xs ys : List ℕ) → IsAscendingFrom low xs → ((n : ℕ) → IsAmong n xs → n < high) → low ≤ high → IsAscendingFrom high ys → IsAscendingFrom low (xs ++ ys)
ascends_on low high [] [] h less more k = tt
ascends_on low high [] (y ∷ ys) h less more k = (let first = k.0 in omega (arith, more, first), k.1)
ascends_on low high (x ∷ xs) ys h less more k =
    (h.0, ascends_on (x + 1) high xs ys h.1 (λ n a. less n (inr a)) (let last = less x (inl refl) in omega (arith, last)) k)

ascends_moved : (low k : ℕ) (xs : List ℕ) → IsAscendingFrom low xs → IsAscendingFrom (low + k) (map (λ n. n + k) xs)
ascends_moved low k [] h = tt
ascends_moved low k (x ∷ xs) h =
    let next : x + 1 + k ≡ x + k + 1 = omega arith in
    (let first = h.0 in omega (arith, first), subst (λ z. IsAscendingFrom z (map (λ n. n + k) xs)) next (ascends_moved (x + 1) k xs h.1))

ascends_after : (low k : ℕ) (xs : List ℕ) → IsAscendingFrom low xs → IsAscendingFrom (k + low) (map (λ n. k + n) xs)
ascends_after low k [] h = tt
ascends_after low k (x ∷ xs) h =
    let next : k + (x + 1) ≡ k + x + 1 = omega arith in
    (let first = h.0 in omega (arith, first), subst (λ z. IsAscendingFrom z (map (λ n. k + n) xs)) next (ascends_after (x + 1) k xs h.1))

is_set : (m i : ℕ) → (bit_at m i == 1) ≡ true → bit_at m i ≡ 1
is_set m i e = number_told (bit_at m i) 1 e

is_clear : (m i : ℕ) → (bit_at m i == 1) ≡ false → bit_at m i ≡ 0
is_clear m i e = elim (bit_cases m i) [ inl clear ↦ clear | inr set ↦ absurd (grind (arith, nat_tests)) ]

-- ---- choices of bits
module _ (m : ℕ) where
  pub choices_below : (i n : ℕ) → IsAmong n (choices i m) → n < 2 ^ i
  choices_below zero n (inl e) = omega (arith, e)
  choices_below zero n (inr h) = absurd h
  choices_below (suc i) n h =
      at_choice (λ l. IsAmong n l → n < 2 ^ suc i) (bit_at m i == 1) (choices i m ++ map (λ k. k + 2 ^ i) (choices i m)) (choices i m)
      (λ e k. elim (among_either n (choices i m) _ k) [
        | inl low ↦ let less = choices_below i n low in omega (arith, less, twice)
        | inr high ↦ let r = map_among (λ k. k + 2 ^ i) n (choices i m) high in let less = choices_below i r.0 r.1 in let is = r.2 in omega (arith, less, is, twice)
      ])
      (λ e k. let less = choices_below i n k in omega (arith, less, twice)) h
    where
      twice : 2 ^ suc i ≡ 2 * 2 ^ i
      twice = omega arith

  pub choices_ascend : (i : ℕ) → IsAscending (choices i m)
  choices_ascend zero = (omega arith, tt)
  choices_ascend (suc i) =
      at_choice IsAscending (bit_at m i == 1) (choices i m ++ map (λ k. k + 2 ^ i) (choices i m)) (choices i m)
      (λ e. ascends_on 0 (2 ^ i) (choices i m) (map (λ k. k + 2 ^ i) (choices i m)) (choices_ascend i) (choices_below i) (omega arith)
      (subst (λ z. IsAscendingFrom z (map (λ k. k + 2 ^ i) (choices i m))) (omega arith) (ascends_moved 0 (2 ^ i) (choices i m) (choices_ascend i))))
      (λ e. choices_ascend i)

  pub choices_length : (i : ℕ) → length (choices i m) ≡ 2 ^ count_ones (m % 2 ^ i)
  choices_length zero = sym none
    where
      none : 2 ^ count_ones (m % 2 ^ 0) ≡ 1
      none = let rest : m % 2 ^ 0 ≡ 0 = omega arith in ap (λ k. 2 ^ count_ones k) rest ∙ ap (λ k. 2 ^ k) ones_zero
  choices_length (suc i) =
      at_choice (λ l. length l ≡ 2 ^ count_ones (m % 2 ^ suc i)) (bit_at m i == 1) (choices i m ++ map (λ k. k + 2 ^ i) (choices i m)) (choices i m)
      (λ e.
      let count : count_ones (m % 2 ^ suc i) ≡ suc (count_ones (m % 2 ^ i)) = omega (arith, more, is_set m i e) in
      length-append (choices i m) (map (λ k. k + 2 ^ i) (choices i m)) ∙ ap (λ k. length (choices i m) + k) (length-map (choices i m) (λ k. k + 2 ^ i))
      ∙ ap (λ k. k + k) (choices_length i) ∙ omega arith ∙ sym (ap (λ k. 2 ^ k) count))
      (λ e.
      let count : count_ones (m % 2 ^ suc i) ≡ count_ones (m % 2 ^ i) = omega (arith, more, is_clear m i e) in
      choices_length i ∙ sym (ap (λ k. 2 ^ k) count))
    where
      more : count_ones (m % 2 ^ suc i) ≡ bit_at m i + count_ones (m % 2 ^ i)
      more = let next : suc i ≡ i + 1 = omega arith in ap (λ j. count_ones (m % 2 ^ j)) next ∙ count_more m i

  -- each number of bits of m is a choice
  pub choices_have : (n : ℕ) → ((j : ℕ) → bit_at n j ≤ bit_at m j) → (i : ℕ) → IsAmong (n % 2 ^ i) (choices i m)
  choices_have n h zero = inl (omega arith)
  choices_have n h (suc i) =
      at_choice (IsAmong (n % 2 ^ suc i)) (bit_at m i == 1) (choices i m ++ map (λ k. k + 2 ^ i) (choices i m)) (choices i m)
      (λ e. elim (bit_cases n i) [
        | inl clear ↦
            let same : n % 2 ^ suc i ≡ n % 2 ^ i = low ∙ ap (λ b. b * 2 ^ i + n % 2 ^ i) clear ∙ omega arith in
            subst (λ z. IsAmong z (choices i m ++ map (λ k. k + 2 ^ i) (choices i m))) (sym same) (among_left (n % 2 ^ i) (choices i m) (map (λ k. k + 2 ^ i) (choices i m)) (choices_have n h i))
        | inr set ↦
            let same : n % 2 ^ suc i ≡ n % 2 ^ i + 2 ^ i = low ∙ ap (λ b. b * 2 ^ i + n % 2 ^ i) set ∙ omega arith in
            subst (λ z. IsAmong z (choices i m ++ map (λ k. k + 2 ^ i) (choices i m))) (sym same)
            (among_right (n % 2 ^ i + 2 ^ i) (choices i m) (map (λ k. k + 2 ^ i) (choices i m)) (among_map (λ k. k + 2 ^ i) (n % 2 ^ i) (choices i m) (choices_have n h i)))
      ])
      (λ e.
      let clear : bit_at n i ≡ 0 = let less = h i in omega (arith, less, is_clear m i e) in
      let same : n % 2 ^ suc i ≡ n % 2 ^ i = low ∙ ap (λ b. b * 2 ^ i + n % 2 ^ i) clear ∙ omega arith in
      subst (λ z. IsAmong z (choices i m)) (sym same) (choices_have n h i))
    where
      low : n % 2 ^ suc i ≡ bit_at n i * 2 ^ i + n % 2 ^ i
      low = let next : suc i ≡ i + 1 = omega arith in ap (λ j. n % 2 ^ j) next ∙ low_more n i

  -- and no other
  pub choices_bits : (i n : ℕ) → IsAmong n (choices i m) → (j : ℕ) → bit_at n j ≤ bit_at m j
  choices_bits zero n (inl e) j = let none = ap (λ z. bit_at z j) e ∙ bit_at-zero j in omega (arith, none)
  choices_bits zero n (inr h) j = absurd h
  choices_bits (suc i) n h j =
      at_choice (λ l. IsAmong n l → bit_at n j ≤ bit_at m j) (bit_at m i == 1) (choices i m ++ map (λ k. k + 2 ^ i) (choices i m)) (choices i m)
      (λ e k. elim (among_either n (choices i m) _ k) [
        | inl low ↦ choices_bits i n low j
        | inr high ↦ let r = map_among (λ k. k + 2 ^ i) n (choices i m) high in added e r.0 r.1 r.2 (choices_bits i r.0 r.1 j)
      ])
      (λ e k. choices_bits i n k j) h
    where
      added : (bit_at m i == 1) ≡ true → (c : ℕ) → IsAmong c (choices i m) → n ≡ c + 2 ^ i → bit_at c j ≤ bit_at m j → bit_at n j ≤ bit_at m j
      added e c a is rest =
          let less = choices_below i c a in
          let cat : n ≡ 1 * 2 ^ i + c = omega (arith, is) in
          elim (cases_lt j i) [
            | inl within ↦ let same = ap (λ z. bit_at z j) cat ∙ bit_at_cat_low 1 i c j within in omega (arith, same, rest)
            | inr past ↦ elim (cases_lt i j) [
              | inl above ↦ let none = bit_at_above n (suc i) j (omega (arith, less, is)) above in omega (arith, none)
              | inr below ↦ let here : i ≡ j = omega (arith, past, below) in let set = subst (λ k. bit_at m k ≡ 1) here (is_set m i e) in omega (arith, set, bit_at-lt n j)
            ]
          ]

-- ---- the list, bit by bit
-- a bit that is unknown doubles the list, and one that is known keeps it
pub choices_doubled : (v m i : ℕ) → bit_at m i ≡ 1
    → map (λ n. v + n) (choices (i + 1) m) ≡ map (λ n. v + n) (choices i m) ++ map (λ n. n + 2 ^ i) (map (λ n. v + n) (choices i m))
choices_doubled v m i set =
    let next : i + 1 ≡ suc i = omega arith in
    ap (λ k. map (λ n. v + n) (choices k m)) next
    ∙ ap (λ b. map (λ n. v + n) (cond (b == 1) (choices i m ++ map (λ n. n + 2 ^ i) (choices i m)) (choices i m))) set ∙ moved (choices i m) (choices i m)
  where
    moved : (xs ys : List ℕ) → map (λ n. v + n) (xs ++ map (λ n. n + 2 ^ i) ys) ≡ map (λ n. v + n) xs ++ map (λ n. n + 2 ^ i) (map (λ n. v + n) ys)
    moved [] [] = refl
    moved [] (y ∷ ys) = ap₂ (λ z zs. z ∷ zs) (omega arith) (moved [] ys)
    moved (x ∷ xs) ys = ap (λ zs. (v + x) ∷ zs) (moved xs ys)

pub choices_kept : (v m i : ℕ) → bit_at m i ≡ 0 → map (λ n. v + n) (choices (i + 1) m) ≡ map (λ n. v + n) (choices i m)
choices_kept v m i clear =
    let next : i + 1 ≡ suc i = omega arith in
    ap (λ k. map (λ n. v + n) (choices k m)) next
    ∙ ap (λ b. map (λ n. v + n) (cond (b == 1) (choices i m ++ map (λ n. n + 2 ^ i) (choices i m)) (choices i m))) clear

-- each stays below 2 ^ w
pub choices_room : (w i : ℕ) (x : Known) → w ≤ 64 → Fits w x → i < w → bit_at x.m i ≡ 1 → Each (λ n. n + 2 ^ i < 2 ^ 64) (map (λ n. x.v + n) (choices i x.m))
choices_room w i x width fits within set = each_from (λ n. n + 2 ^ i < 2 ^ 64) (map (λ n. x.v + n) (choices i x.m)) (λ n a.
    let r = map_among (λ k. x.v + k) n (choices i x.m) a in
    let room = below r.0 r.1 in
    let is = r.2 in
    let more : 2 ^ w ≤ 2 ^ 64 = pow_mono width in
    omega (arith, room, is, more))
  where
    below : (c : ℕ) → IsAmong c (choices i x.m) → x.v + (c + 2 ^ i) < 2 ^ w
    below c a =
        let next = subst (λ l. IsAmong (c + 2 ^ i) l) (sym doubled) (among_right (c + 2 ^ i) (choices i x.m) (map (λ n. n + 2 ^ i) (choices i x.m)) (among_map (λ n. n + 2 ^ i) c (choices i x.m) a)) in
        let bits = choices_bits x.m (suc i) (c + 2 ^ i) next in
        let greater : 2 ^ suc i ≤ 2 ^ w = pow_mono within in
        let less : c + 2 ^ i < 2 ^ w = let small = choices_below x.m (suc i) (c + 2 ^ i) next in omega (arith, small, greater) in
        let sum = or_disjoint x.v (c + 2 ^ i) (apart_from x.v (c + 2 ^ i) (λ j one. elim (bit_cases x.m j) [
          | inl clear ↦ let few = bits j in omega (arith, few, clear)
          | inr unknown ↦ absurd (omega (arith, one, unknown_bit w x fits j unknown))
        ])) in
        subst (λ z. z < 2 ^ w) sum (or_lt w x.v (c + 2 ^ i) fits.known less)
      where
        doubled : choices (suc i) x.m ≡ choices i x.m ++ map (λ n. n + 2 ^ i) (choices i x.m)
        doubled = ap (λ b. cond (b == 1) (choices i x.m ++ map (λ n. n + 2 ^ i) (choices i x.m)) (choices i x.m)) set

-- ---- members
module _ (w : ℕ) (x : Known) (fits : Fits w x) where
  pub members_have : (n : ℕ) → Describes w n x → IsAmong n (members_of w x)
  members_have n d =
      let c = bit_and n x.m in
      let rest : n ≡ x.v + c = let known = d.known in omega (arith, known, and_le_l n x.m) in
      let small : c < 2 ^ w = let below = d.below in omega (arith, below, and_le_l n x.m) in
      let here = choices_have x.m c (λ j. omega (arith, bit_at_and n x.m j)) w in
      let place = subst (λ z. IsAmong z (choices w x.m)) (mod-eq_of_lt small) here in
      subst (λ z. IsAmong z (members_of w x)) (sym rest) (among_map (λ k. x.v + k) c (choices w x.m) place)

  pub members_ascend : IsAscending (members_of w x)
  members_ascend = ascending_lower (x.v + 0) 0 (members_of w x) (omega arith) (ascends_after 0 x.v (choices w x.m) (choices_ascend x.m w))

  pub members_length : length (members_of w x) ≡ size_of x
  members_length = length-map (choices w x.m) (λ n. x.v + n) ∙ choices_length x.m w ∙ ap (λ k. 2 ^ count_ones k) (mod-eq_of_lt fits.unknown)

  member_is : (c : ℕ) → IsAmong c (choices w x.m) → (x.v + c < 2 ^ w) × IsTrue (may_be x (x.v + c))
  member_is c a = (
    subst (λ z. z < 2 ^ w) sum (or_lt w x.v c fits.known (choices_below x.m w c a)),
    subst (λ z. IsTrue (z == x.v)) (sym known) (number_itself x.v),
  )
    where
      bits : (j : ℕ) → bit_at c j ≤ bit_at x.m j
      bits = choices_bits x.m w c a

      sum : bit_or x.v c ≡ x.v + c
      sum = or_disjoint x.v c (apart_from x.v c (λ j set. elim (bit_cases x.m j) [
        | inl clear ↦ let less = bits j in omega (arith, less, clear)
        | inr unknown ↦ absurd (omega (arith, set, unknown_bit w x fits j unknown))
      ]))

      known : without (x.v + c) x.m ≡ x.v
      known =
          let less : x.v + c < 2 ^ w = subst (λ z. z < 2 ^ w) sum (or_lt w x.v c fits.known (choices_below x.m w c a)) in
          same_from_bits_below w (without (x.v + c) x.m) x.v (omega (arith, less)) fits.known (λ j within.
          let is = ap (λ z. bit_at z j) (sym sum) ∙ bit_at_or x.v c j in
          let rest = without_bit (x.v + c) x.m j in
          let few = bits j in
          elim (bit_cases x.m j) [
            | inl clear ↦ omega (arith, is, rest, few, clear)
            | inr set ↦ omega (arith, rest, set, bit_at-lt (x.v + c) j, unknown_bit w x fits j set)
          ])

  pub members_fit : Each (λ n. (n < 2 ^ w) × IsTrue (may_be x n)) (members_of w x)
  members_fit = each_from (λ n. (n < 2 ^ w) × IsTrue (may_be x n)) (members_of w x) (λ n a.
      let r = map_among (λ k. x.v + k) n (choices w x.m) a in
      subst (λ z. (z < 2 ^ w) × IsTrue (may_be x z)) (sym r.2) (member_is r.0 r.1))
