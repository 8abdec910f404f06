-- Why results are the best: each unknown bit of them is 0 in one result and 1 in another.
use Rattle.std.proofs.Common.{◌≡◌, ◌≢◌, ℕ, ◌+◌, ◌-◌, ◌%◌, ◌^◌, ◌≤◌, refl, sym, ap, ap₂, subst, ◌∙◌, arith, pow_pos, mod-lt, mod-eq_of_lt, IsTrue, inl, inr, bit_and, bit_or, bit_xor}
use Rattle.std.specs.Prelude.{◌&&◌, count_ones}
use Rattle.std.specs.Int.{bit_at}
use Rattle.std.specs.Int.Bits.{xor_self}
use Rattle.std.proofs.Math.Nat.{add-mod_right}
use Rattle.std.proofs.lemmas.Bool.{cases_lt}
use Rattle.std.proofs.lemmas.Nat.Bits.{bit_at-lt, bit_at-zero, bit_at_or, bit_at_xor, bit_at_above, same_from_bits}
use Rattle.word_operations.specs.declared.kinds.UnaryOperation.{UnaryOperation}
use Rattle.word_operations.specs.declared.kinds.UnaryOperation.TheVariants.{Neg, Not}
use Rattle.word_operations.specs.declared.kinds.BinaryOperation.{BinaryOperation}
use Rattle.word_operations.specs.declared.kinds.BinaryOperation.TheVariants.{And, Or, Xor, Shl, ShrU, ShrS, RotL, Sub}
use Rattle.word_operations.specs.Op1.{op1_of}
use Rattle.word_operations.specs.Op2.{op2_of}
use Rattle.word_operations.specs.Casts.{zext_of, sext_of, trunc_of}
use Rattle.word_operations.specs.Width.{IsWidth}
use Rattle.base_trait.proofs.Lists.{number_told}
use Rattle.base_trait.proofs.Tests.{and_parts, at_choice}
use Rattle.base_bits.specs.declared.known.Known.{Known}
use Rattle.base_bits.specs.Known.{greatest, Describes, Fits, exact, is_exact}
use Rattle.base_bits.specs.Bitwise.{bit_cases, without_bit, turned_bit}
use Rattle.base_bits.specs.Describing.{known_bit, unknown_bit, least_describes, greatest_describes, greatest_bit, greatest_below, exact_fits, exact_describes, exact_only}
use Rattle.base_bits.specs.Counts.{count_le}
use Rattle.base_bits.specs.Logic.{bits_absorb, absorbs_bits, not_fits, not_sound, join_fits, join_sound, join_unknown_bit}
use Rattle.base_bits.specs.Moved.{moved}
use Rattle.base_bits.specs.Moves.{Moves, moved_fits, moved_sound, shl_moves, shr_u_moves, shr_s_moves, rot_l_moves, zext_moves, sext_moves, trunc_moves}
use Rattle.base_bits.specs.Join.{join_of, absorbs_known}
use Rattle.base_bits.specs.Meaning.{op1_known, op2_known, by_rule}
use Rattle.base_bits.specs.Instance.{op1_sound, op2_fits, op2_sound}
use Rattle.base_bits.specs.Best.{IsBest, IsImage, IsProduct, IsOfEither, BestBitByBit, BestShifts, BestCasts, BestJoins, ExactResults}

-- two numbers that P holds of differ in bit i
pub record Differ (P : ℕ → Type 0) (i : ℕ) : Type 0 where
  pub first : ℕ
  pub second : ℕ
  pub one : P first
  pub other : P second
  pub apart : bit_at first i ≢ bit_at second i

best_from : (w : ℕ) (P : ℕ → Type 0) (x : Known) → Fits w x → ((n : ℕ) → P n → Describes w n x) → (some : ℕ) → P some
    → ((i : ℕ) → bit_at x.m i ≡ 1 → Differ P i) → IsBest w P x
best_from w P x fits sound some here differ = record { describes = sound; fewest = few; least = least }
  where
    least : (z : Known) → Fits w z → ((n : ℕ) → P n → Describes w n z) → IsTrue (absorbs_known z x)
    least z other all = bits_absorb z x (λ i clear. elim (bit_cases x.m i) [
      | inl known ↦ (known, sym (known_bit w some x (sound some here) i known) ∙ known_bit w some z (all some here) i clear)
      | inr unknown ↦
          let d = differ i unknown in
          absurd (d.apart (known_bit w d.first z (all d.first d.one) i clear ∙ sym (known_bit w d.second z (all d.second d.other) i clear)))
    ])

    few : (z : Known) → Fits w z → ((n : ℕ) → P n → Describes w n z) → count_ones x.m ≤ count_ones z.m
    few z other all = count_le x.m z.m (λ i. elim (bit_cases z.m i) [
      | inl clear ↦ let none = (absorbs_bits z x (least z other all) i clear).0 in omega (arith, none)
      | inr set ↦ omega (arith, set, bit_at-lt x.m i)
    ]) w fits.unknown other.unknown

-- of one exact number
none_differ : (P : ℕ → Type 0) (n i : ℕ) → bit_at (exact n).m i ≡ 1 → Differ P i
none_differ P n i set = absurd (omega (arith, set, bit_at-zero i))

-- ---- bit by bit
module _ (w : ℕ) (x y : Known) (width : IsWidth w) (left : Fits w x) (right : Fits w y) where
  lows : Describes w x.v x
  lows = least_describes w x left

  lows' : Describes w y.v y
  lows' = least_describes w y right

  tops : Describes w (greatest x) x
  tops = greatest_describes w x left

  tops' : Describes w (greatest y) y
  tops' = greatest_describes w y right

  best_not : IsBest w (IsImage (op1_of Not w) w x) (op1_known Not w x)
  best_not = best_from w (IsImage (op1_of Not w) w x) (op1_known Not w x) (not_fits w x left)
      (λ n r. subst (λ k. Describes w k (op1_known Not w x)) (sym r.2) (not_sound w r.0 x left r.1))
      (op1_of Not w x.v) (x.v, lows, refl)
      (λ i set. record {
        first = op1_of Not w x.v;
        second = op1_of Not w (greatest x);
        one = (x.v, lows, refl);
        other = (greatest x, tops, refl);
        apart = λ e.
            elim (cases_lt i w) [
              | inl within ↦ omega (arith, e, turned_bit w x.v i within left.known, turned_bit w (greatest x) i within (greatest_below w x left), greatest_bit x i, set, unknown_bit w x left i set)
              | inr past ↦ omega (arith, set, bit_at_above x.m w i left.unknown past)
            ];
      })

  -- where the rule's unknown bits differ in results, the result is the best
  best_rule : (op : BinaryOperation) → ((i : ℕ) → bit_at (by_rule op w x y).m i ≡ 1 → Differ (IsProduct (op2_of op w) w x y) i)
      → IsBest w (IsProduct (op2_of op w) w x y) (op2_known op w x y)
  best_rule op differ =
      best_from w (IsProduct (op2_of op w) w x y) (op2_known op w x y) (op2_fits w width x y left right op)
      (λ n r. subst (λ k. Describes w k (op2_known op w x y)) (sym r.4) (op2_sound w width x y left right r.0 r.1 r.2 r.3 op))
      (op2_of op w x.v y.v) (x.v, y.v, lows, lows', refl)
      (at_choice (λ z. (i : ℕ) → bit_at z.m i ≡ 1 → Differ (IsProduct (op2_of op w) w x y) i) (is_exact x && is_exact y) (exact (op2_of op w x.v y.v)) (by_rule op w x y)
      (λ e. none_differ (IsProduct (op2_of op w) w x y) (op2_of op w x.v y.v)) (λ e. differ))

  best_and : IsBest w (IsProduct (op2_of And w) w x y) (op2_known And w x y)
  best_and = best_rule And (λ i set. record {
    first = bit_and x.v y.v;
    second = bit_and (greatest x) (greatest y);
    one = (x.v, y.v, lows, lows', refl);
    other = (greatest x, greatest y, tops, tops', refl);
    apart = λ e. omega (arith, e, set, without_bit (bit_and (greatest x) (greatest y)) (bit_and x.v y.v) i);
  })

  best_or : IsBest w (IsProduct (op2_of Or w) w x y) (op2_known Or w x y)
  best_or = best_rule Or (λ i set. record {
    first = bit_or x.v y.v;
    second = bit_or (greatest x) (greatest y);
    one = (x.v, y.v, lows, lows', refl);
    other = (greatest x, greatest y, tops, tops', refl);
    apart = λ e. omega (
      arith,
      e,
      set,
      without_bit (bit_or x.m y.m) (bit_or x.v y.v) i,
      bit_at_or x.m y.m i,
      bit_at_or x.v y.v i,
      bit_at_or (greatest x) (greatest y) i,
      greatest_bit x i,
      greatest_bit y i,
      bit_at-lt x.m i,
      bit_at-lt y.m i,
    );
  })

  best_xor : IsBest w (IsProduct (op2_of Xor w) w x y) (op2_known Xor w x y)
  best_xor = best_rule Xor (λ i set. elim (bit_cases x.m i) [
    | inl clear ↦
        let here : bit_at y.m i ≡ 1 = omega (arith, set, clear, bit_at_or x.m y.m i, bit_at-lt y.m i) in
        record {
          first = bit_xor x.v y.v;
          second = bit_xor x.v (greatest y);
          one = (x.v, y.v, lows, lows', refl);
          other = (x.v, greatest y, lows, tops', refl);
          apart = λ e. omega (arith, e, here, unknown_bit w y right i here, greatest_bit y i, bit_at_xor x.v y.v i, bit_at_xor x.v (greatest y) i, bit_at-lt x.v i);
        }
    | inr here ↦
        record {
          first = bit_xor x.v y.v;
          second = bit_xor (greatest x) y.v;
          one = (x.v, y.v, lows, lows', refl);
          other = (greatest x, y.v, tops, lows', refl);
          apart = λ e. omega (arith, e, here, unknown_bit w x left i here, greatest_bit x i, bit_at_xor x.v y.v i, bit_at_xor (greatest x) y.v i, bit_at-lt y.v i);
        }
  ])

pub best_bit_by_bit : BestBitByBit
best_bit_by_bit w x y width left right =
    (best_not w x y width left right, best_and w x y width left right, best_or w x y width left right, best_xor w x y width left right)

-- ---- what moves bits
module _ (from to : ℕ) (f : ℕ → ℕ) (moves : Moves from to f) (x : Known) (fits : Fits from x) where
  moved_differ : (i : ℕ) → bit_at (f x.m) i ≡ 1 → Differ (IsImage f from x) i
  moved_differ i set = record {
    first = f x.v;
    second = f (greatest x);
    one = (x.v, least_describes from x fits, refl);
    other = (greatest x, greatest_describes from x fits, refl);
    apart = λ e. elim (cases_lt i to) [
      | inl within ↦ elim (moves.source i within) [
        | inl s ↦
            let here : bit_at x.m s.0 ≡ 1 = sym (s.1 x.m fits.unknown) ∙ set in
            let low = s.1 x.v fits.known in
            let high = s.1 (greatest x) (greatest_below from x fits) in
            omega (arith, e, low, high, here, unknown_bit from x fits s.0 here, greatest_bit x s.0)
        | inr clear ↦ let none = clear x.m fits.unknown in omega (arith, none, set)
      ]
      | inr past ↦ let none = bit_at_above (f x.m) to i (moves.below x.m fits.unknown) past in omega (arith, none, set)
    ];
  }

  moved_best : IsBest to (IsImage f from x) (moved f x)
  moved_best = best_from to (IsImage f from x) (moved f x) (moved_fits from to f moves x fits)
      (λ n r. subst (λ k. Describes to k (moved f x)) (sym r.2) (moved_sound from to f moves r.0 x fits r.1))
      (f x.v) (x.v, least_describes from x fits, refl) moved_differ

pub best_casts : BestCasts
best_casts narrow wide x y widths left right = (
  moved_best narrow wide (zext_of narrow wide) (zext_moves narrow wide widths) x left,
  moved_best narrow wide (sext_of narrow wide) (sext_moves narrow wide widths) x left,
  moved_best wide narrow (trunc_of wide narrow) (trunc_moves wide narrow widths) y right,
)

-- an exact word is moved to an exact word
moved_exact : (from to : ℕ) (f : ℕ → ℕ) → Moves from to f → (n : ℕ) → moved f (exact n) ≡ exact (f n)
moved_exact from to f moves n = ap (λ k. made (f n) k) none
  where
    made : ℕ → ℕ → Known
    made v m = record { v = v; m = m }

    none : f 0 ≡ 0
    none = same_from_bits (f 0) 0 (λ i. elim (cases_lt i to) [
      | inl within ↦ elim (moves.source i within) [
        | inl s ↦ s.1 0 (pow_pos from) ∙ bit_at-zero s.0 ∙ sym (bit_at-zero i)
        | inr clear ↦ clear 0 (pow_pos from) ∙ sym (bit_at-zero i)
      ]
      | inr past ↦ bit_at_above (f 0) to i (moves.below 0 (pow_pos from)) past ∙ sym (bit_at-zero i)
    ])

-- the shift of a word by an exact number
shift_best : (w k : ℕ) (x : Known) (op : BinaryOperation) → Moves w w (λ n. op2_of op w n k) → Fits w x → by_rule op w x (exact k) ≡ moved (λ n. op2_of op w n k) x
    → IsBest w (IsImage (λ n. op2_of op w n k) w x) (op2_known op w x (exact k))
shift_best w k x op moves fits rule =
    at_choice (IsBest w (IsImage (λ n. op2_of op w n k) w x)) (is_exact x && is_exact (exact k)) (exact (op2_of op w x.v k)) (by_rule op w x (exact k))
    (λ e. subst (IsBest w (IsImage (λ n. op2_of op w n k) w x)) (same (number_told x.m 0 (and_parts (is_exact x) (is_exact (exact k)) e).0)) best)
    (λ e. subst (IsBest w (IsImage (λ n. op2_of op w n k) w x)) (sym rule) best)
  where
    best : IsBest w (IsImage (λ n. op2_of op w n k) w x) (moved (λ n. op2_of op w n k) x)
    best = moved_best w w (λ n. op2_of op w n k) moves x fits

    made : ℕ → ℕ → Known
    made v m = record { v = v; m = m }

    same : x.m ≡ 0 → moved (λ n. op2_of op w n k) x ≡ exact (op2_of op w x.v k)
    same none = ap (λ m. made (op2_of op w x.v k) (op2_of op w m k)) none ∙ moved_exact w w (λ n. op2_of op w n k) moves x.v

pub best_shifts : BestShifts
best_shifts w k x width below fits = (
  shift_best w k x Shl (shl_moves w k width below) fits refl,
  shift_best w k x ShrU (shr_u_moves w k width below) fits refl,
  shift_best w k x ShrS (shr_s_moves w k width below) fits refl,
  shift_best w k x RotL (rot_l_moves w k width below) fits refl,
)

pub best_joins : BestJoins
best_joins w x y left right =
    let lows = least_describes w x left in
    let lows' = least_describes w y right in
    let tops = greatest_describes w x left in
    let tops' = greatest_describes w y right in
    best_from w (IsOfEither w x y) (join_of x y) (join_fits w x y left right) (λ n h. join_sound w n x y left right h)
    x.v (inl lows)
    (λ i set. elim (bit_cases x.m i) [
      | inl clear ↦ elim (bit_cases y.m i) [
        | inl none ↦ record {
          first = x.v;
          second = y.v;
          one = inl lows;
          other = inr lows';
          apart = λ e. omega (arith, e, set, clear, none, join_unknown_bit x y i);
        }
        | inr here ↦ record {
          first = y.v;
          second = greatest y;
          one = inr lows';
          other = inr tops';
          apart = λ e. omega (arith, e, here, unknown_bit w y right i here, greatest_bit y i);
        }
      ]
      | inr here ↦ record {
        first = x.v;
        second = greatest x;
        one = inl lows;
        other = inl tops;
        apart = λ e. omega (arith, e, here, unknown_bit w x left i here, greatest_bit x i);
      }
    ])

pub exact_results : ExactResults
exact_results w m n width below less = (
  λ op. exact_one op,
  λ op. refl,
  λ to widths. (moved_exact w to (zext_of w to) (zext_moves w to widths) m, moved_exact w to (sext_of w to) (sext_moves w to widths) m),
  λ to widths. moved_exact w to (trunc_of w to) (trunc_moves w to widths) m,
)
  where
    -- a word without unknown bits is that of the number that it describes
    exact_from : (k : ℕ) (z : Known) → z.m ≡ 0 → Describes w k z → z ≡ exact k
    exact_from k z none d = ap₂ (λ v m. made v m) (sym (exact_only w k z none d)) none
      where
        made : ℕ → ℕ → Known
        made v m = record { v = v; m = m }

    exact_one : (op : UnaryOperation) → op1_known op w (exact m) ≡ exact (op1_of op w m)
    exact_one Not = exact_from (op1_of Not w m) (op1_known Not w (exact m)) refl (op1_sound Not w m (exact m) (exact_fits w m below) (exact_describes w m below))
    exact_one Neg = exact_from (op1_of Neg w m) (op1_known Neg w (exact m)) none (op1_sound Neg w m (exact m) (exact_fits w m below) (exact_describes w m below))
      where
        d : ℕ
        d = op2_of Sub w 0 m

        none : (op1_known Neg w (exact m)).m ≡ 0
        none =
            let more : (d + 0) % 2 ^ w ≡ d = ap (λ k. k % 2 ^ w) (omega arith) ∙ mod-eq_of_lt (mod-lt (0 + 2 ^ w - m) (pow_pos w)) in
            let less : (d + 2 ^ w - 0) % 2 ^ w ≡ d = ap (λ k. k % 2 ^ w) (omega arith) ∙ add-mod_right d (2 ^ w) ∙ mod-eq_of_lt (mod-lt (0 + 2 ^ w - m) (pow_pos w)) in
            ap₂ (λ a b. bit_or (bit_xor a b) (bit_or 0 0)) more less ∙ ap (λ a. bit_or a (bit_or 0 0)) (xor_self d)
