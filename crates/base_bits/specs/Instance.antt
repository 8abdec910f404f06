-- The laws of known bits.
use Rattle.std.proofs.Common.{◌≡◌, ℕ, ◌^◌, ◌<◌, ◌≤◌, Bool, true, false, List, length, Option, Some, None, refl, sym, ap, subst, subst₂, ◌∙◌, arith, IsTrue, ◌↔◌}
use Rattle.std.specs.Prelude.{◌==◌, ◌&&◌, nat_lt, nat_le, if◌then◌else◌, bit_and}
use Rattle.std.specs.Int.{bit_at}
use Rattle.std.proofs.lemmas.Bool.Decides.{nat_tests}
use Rattle.std.proofs.lemmas.Nat.{ones-le}
use Rattle.std.proofs.lemmas.Nat.Bits.{bit_at-lt, bit_at_ones}
use Rattle.word_operations.specs.declared.kinds.UnaryOperation.{UnaryOperation}
use Rattle.word_operations.specs.declared.kinds.UnaryOperation.TheVariants.{Neg, Not}
use Rattle.word_operations.specs.declared.kinds.BinaryOperation.{BinaryOperation}
use Rattle.word_operations.specs.declared.kinds.BinaryOperation.TheVariants.{Add, Sub, Mul, And, Or, Xor, Shl, ShrU, ShrS, RotL, DivU, DivS, RemU, RemS, MulHiU, MulHiS}
use Rattle.word_operations.specs.Op1.{op1_of}
use Rattle.word_operations.specs.Op2.{op2_of}
use Rattle.word_operations.specs.Casts.{zext_of, sext_of, trunc_of}
use Rattle.word_operations.specs.Width.{IsWidth}
use Rattle.word_operations.proofs.Fits.{op2_of_fits}
use Rattle.base_trait.specs.Laws.{Laws, WordLaws}
use Rattle.base_trait.specs.Lists.{IsAmong, IsAscending, Each}
use Rattle.base_trait.specs.NoNotes.{no_note_laws}
use Rattle.base_trait.proofs.Lists.{number_itself, number_told}
use Rattle.base_trait.proofs.Tests.{and_both, and_parts, at_choice}
use Rattle.base_bits.specs.declared.known.Known.{Known}
use Rattle.base_bits.specs.Known.{Describes, Fits, fits_word, exact, is_exact, any}
use Rattle.base_bits.specs.Describing.{describes_from, exact_fits, exact_describes, exact_only, any_fits}
use Rattle.base_bits.specs.Logic.{not_fits, not_sound, and_fits, and_sound, or_fits, or_sound, xor_fits, xor_sound, join_fits, join_sound, join_unknown_bit, join_unknown_below, join_absorbs_left, join_absorbs_right, join_least, join_keeps, bits_absorb, absorbs_itself, absorbs_on, absorbs_describes}
use Rattle.base_bits.specs.Sums.{add_fits, add_sound, sub_fits, sub_sound, neg_fits, neg_sound}
use Rattle.base_bits.specs.Moved.{moved, shifted}
use Rattle.base_bits.specs.Moves.{Moves, moved_fits, moved_sound, shl_moves, shr_u_moves, shr_s_moves, rot_l_moves, zext_moves, sext_moves, trunc_moves}
use Rattle.base_bits.specs.Ends.{compared_sound}
use Rattle.base_bits.specs.Ranges.{range_fits, range_sound}
use Rattle.base_bits.specs.Counts.{count_less}
use Rattle.base_bits.specs.Listing.{members_have, members_ascend, members_length, members_fit}
use Rattle.base_bits.specs.Join.{join_of, join_unknown, absorbs_known}
use Rattle.base_bits.specs.Members.{members_of, size_of}
use Rattle.base_bits.specs.Meaning.{bits, words, op1_known, op2_known, by_rule, the_number, may_be, rank_of}

-- ---- what fits, by the test
fits_is : (w : ℕ) (x : Known) → IsTrue (fits_word w x) ↔ Fits w x
fits_is w x = (
  λ h.
      let first = and_parts (nat_lt x.v (2 ^ w)) (nat_lt x.m (2 ^ w) && (bit_and x.v x.m == 0)) h in
      let second = and_parts (nat_lt x.m (2 ^ w)) (bit_and x.v x.m == 0) first.1 in
      record { known = let k = first.0 in grind (arith, nat_tests); unknown = let k = second.0 in grind (arith, nat_tests); apart = number_told (bit_and x.v x.m) 0 second.1 },
  λ f.
      let known = f.known in
      let unknown = f.unknown in
      and_both (nat_lt x.v (2 ^ w)) (nat_lt x.m (2 ^ w) && (bit_and x.v x.m == 0)) (grind (arith, nat_tests))
      (and_both (nat_lt x.m (2 ^ w)) (bit_and x.v x.m == 0) (grind (arith, nat_tests)) (subst (λ z. IsTrue (z == 0)) (sym f.apart) refl)),
)

-- ---- operations
any_describes : (w n : ℕ) → n < 2 ^ w → Describes w n (any w)
any_describes w n below =
    describes_from w n (any w) (any_fits w) below (λ i within clear. absurd (omega (arith, clear, bit_at_ones w i within)))

pub op1_sound : (op : UnaryOperation) (w n : ℕ) (x : Known) → Fits w x → Describes w n x → Describes w (op1_of op w n) (op1_known op w x)
op1_sound Neg w n x fits d = neg_sound w n x fits d
op1_sound Not w n x fits d = not_sound w n x fits d

pub op1_fits : (op : UnaryOperation) (w : ℕ) (x : Known) → Fits w x → Fits w (op1_known op w x)
op1_fits Neg w x fits = neg_fits w x fits
op1_fits Not w x fits = not_fits w x fits

module _ (w : ℕ) (width : IsWidth w) (x y : Known) (left : Fits w x) (right : Fits w y) where
  shifted_fits : (op : BinaryOperation) → Moves w w (λ n. op2_of op w n y.v) → Fits w (shifted op w x y)
  shifted_fits op moves =
      at_choice (Fits w) (is_exact y) (moved (λ n. op2_of op w n y.v) x) (any w)
      (λ e. moved_fits w w (λ n. op2_of op w n y.v) moves x left) (λ e. any_fits w)

  rule_fits : (op : BinaryOperation) → Fits w (by_rule op w x y)
  rule_fits And = and_fits w x y left right
  rule_fits Or = or_fits w x y left right
  rule_fits Xor = xor_fits w x y left right
  rule_fits Add = add_fits w x y left right
  rule_fits Sub = sub_fits w x y left right
  rule_fits Shl = shifted_fits Shl (shl_moves w y.v width right.known)
  rule_fits ShrU = shifted_fits ShrU (shr_u_moves w y.v width right.known)
  rule_fits ShrS = shifted_fits ShrS (shr_s_moves w y.v width right.known)
  rule_fits RotL = shifted_fits RotL (rot_l_moves w y.v width right.known)
  rule_fits Mul = any_fits w
  rule_fits DivU = any_fits w
  rule_fits DivS = any_fits w
  rule_fits RemU = any_fits w
  rule_fits RemS = any_fits w
  rule_fits MulHiU = any_fits w
  rule_fits MulHiS = any_fits w

  pub op2_fits : (op : BinaryOperation) → Fits w (op2_known op w x y)
  op2_fits op =
      at_choice (Fits w) (is_exact x && is_exact y) (exact (op2_of op w x.v y.v)) (by_rule op w x y)
      (λ e. exact_fits w (op2_of op w x.v y.v) (op2_of_fits op w x.v y.v width left.known right.known)) (λ e. rule_fits op)

  module _ (m n : ℕ) (d : Describes w m x) (e : Describes w n y) where
    result_below : (op : BinaryOperation) → op2_of op w m n < 2 ^ w
    result_below op = op2_of_fits op w m n width d.below e.below

    shifted_sound : (op : BinaryOperation) → Moves w w (λ k. op2_of op w k y.v) → Describes w (op2_of op w m n) (shifted op w x y)
    shifted_sound op moves =
        at_choice (Describes w (op2_of op w m n)) (is_exact y) (moved (λ k. op2_of op w k y.v) x) (any w)
        (λ h. subst (λ k. Describes w (op2_of op w m k) (moved (λ k. op2_of op w k y.v) x)) (sym (exact_only w n y (number_told y.m 0 h) e))
        (moved_sound w w (λ k. op2_of op w k y.v) moves m x left d))
        (λ h. any_describes w (op2_of op w m n) (result_below op))

    rule_sound : (op : BinaryOperation) → Describes w (op2_of op w m n) (by_rule op w x y)
    rule_sound And = and_sound w m n x y left right d e
    rule_sound Or = or_sound w m n x y left right d e
    rule_sound Xor = xor_sound w m n x y left right d e
    rule_sound Add = add_sound w m n x y left right d e
    rule_sound Sub = sub_sound w m n x y left right d e
    rule_sound Shl = shifted_sound Shl (shl_moves w y.v width right.known)
    rule_sound ShrU = shifted_sound ShrU (shr_u_moves w y.v width right.known)
    rule_sound ShrS = shifted_sound ShrS (shr_s_moves w y.v width right.known)
    rule_sound RotL = shifted_sound RotL (rot_l_moves w y.v width right.known)
    rule_sound Mul = any_describes w (op2_of Mul w m n) (result_below Mul)
    rule_sound DivU = any_describes w (op2_of DivU w m n) (result_below DivU)
    rule_sound DivS = any_describes w (op2_of DivS w m n) (result_below DivS)
    rule_sound RemU = any_describes w (op2_of RemU w m n) (result_below RemU)
    rule_sound RemS = any_describes w (op2_of RemS w m n) (result_below RemS)
    rule_sound MulHiU = any_describes w (op2_of MulHiU w m n) (result_below MulHiU)
    rule_sound MulHiS = any_describes w (op2_of MulHiS w m n) (result_below MulHiS)

    pub op2_sound : (op : BinaryOperation) → Describes w (op2_of op w m n) (op2_known op w x y)
    op2_sound op =
        at_choice (Describes w (op2_of op w m n)) (is_exact x && is_exact y) (exact (op2_of op w x.v y.v)) (by_rule op w x y)
        (λ h.
        let parts = and_parts (is_exact x) (is_exact y) h in
        let first = exact_only w m x (number_told x.m 0 parts.0) d in
        let second = exact_only w n y (number_told y.m 0 parts.1) e in
        subst₂ (λ a b. Describes w (op2_of op w m n) (exact (op2_of op w a b))) first second (exact_describes w (op2_of op w m n) (result_below op)))
        (λ h. rule_sound op)

-- ---- what is known of a word
number_of : (x : Known) (v : ℕ) → the_number x ≡ Some v → (x.m ≡ 0) × (x.v ≡ v)
number_of x v e = at (is_exact x) refl e
  where
    at : (b : Bool) → b ≡ is_exact x → (if b then Some x.v else None) ≡ Some v → (x.m ≡ 0) × (x.v ≡ v)
    at true h k = (number_told x.m 0 (sym h), cc)
    at false h k = cc

-- a list, where there is room for it
module _ (l : List ℕ) (size limit : ℕ) (all : length l ≡ size) where
  abbrev listed : Bool → Option (List ℕ)
  listed b = if b then Some l else None

  none_where : (b : Bool) → b ≡ nat_le size limit → (listed b ≡ None) ↔ (limit < size)
  none_where true e = (λ h. cc, λ h. absurd (grind (arith, nat_tests)))
  none_where false e = (λ h. grind (arith, nat_tests), λ h. refl)

  few_where : (b : Bool) (ns : List ℕ) → b ≡ nat_le size limit → listed b ≡ Some ns → length ns ≤ limit
  few_where true ns e d =
      let same : l ≡ ns = cc in
      subst (λ z. length z ≤ limit) same (let room : size ≤ limit = grind (arith, nat_tests) in omega (arith, all, room))
  few_where false ns e d = cc

  here_where : (P : List ℕ → Type 0) (b : Bool) (ns : List ℕ) → listed b ≡ Some ns → P l → P ns
  here_where P true ns e h = let same : l ≡ ns = cc in subst P same h
  here_where P false ns e h = cc

-- ---- widening
rank_falls : (w : ℕ) (old new : Known) → Fits w old → Fits w new → absorbs_known old new ≡ false → rank_of w (join_of old new) < rank_of w old
rank_falls w old new left right e =
    let less = count_less old.m (join_unknown old new) more w left.unknown (join_unknown_below w old new left right) apart in
    let most = ones-le w (join_unknown old new) (join_unknown_below w old new left right) in
    omega (arith, less, most)
  where
    more : (i : ℕ) → bit_at old.m i ≤ bit_at (join_unknown old new) i
    more i = omega (arith, join_unknown_bit old new i)

    apart : (old.m ≡ join_unknown old new) → ⊥
    apart same =
        let all = bits_absorb old new (λ i clear.
        let here = join_unknown_bit old new i in
        let none = sym (ap (λ z. bit_at z i) same) ∙ clear in
        (omega (arith, here, none), omega (arith, here, none, bit_at-lt old.v i, bit_at-lt new.v i))) in
        cc

pub word_laws : WordLaws Known (Unit {0}) true words
word_laws = record {
  described_fits = λ valuation w n x d. d.below;
  unseen = λ valuation other w n x e d. d;
  fits_told = λ c w x. fits_is w x;
  constant_sound = λ c valuation w n width below. exact_describes w n below;
  any_sound = λ c valuation w n width joins below. any_describes w n below;
  range_sound = λ c valuation w low high n width joins from to below. range_sound w low high width.1 (omega (arith, from, to)) below n from to;
  op1_sound = λ c valuation op w n x width fits d. op1_sound op w n x fits d;
  op2_sound = λ c valuation op w m n x y width left right d e. op2_sound w width x y left right m n d e op;
  cmp_sound = λ c valuation k w m n x y width left right d e. compared_sound k w m n x y width left right d e;
  zext_sound = λ c valuation from to n x widths fits d. moved_sound from to (zext_of from to) (zext_moves from to widths) n x fits d;
  sext_sound = λ c valuation from to n x widths fits d. moved_sound from to (sext_of from to) (sext_moves from to widths) n x fits d;
  trunc_sound = λ c valuation from to n x widths fits d. moved_sound from to (trunc_of from to) (trunc_moves from to widths) n x fits d;
  exact_fits = λ c w v x width fits e. subst (λ z. z < 2 ^ w) (number_of x v e).1 fits.known;
  exact_only = λ c valuation w n v x width fits e d. let is = number_of x v e in exact_only w n x is.0 d ∙ is.1;
  may_sound = λ c valuation w n x width fits d. subst (λ z. IsTrue (z == x.v)) (sym d.known) (number_itself x.v);
  members_hold = λ c valuation w limit n ns x width fits e d.
      here_where (members_of w x) (size_of x) limit (members_length w x fits) (IsAmong n) (nat_le (size_of x) limit) ns e (members_have w x fits n d);
  members_ascend = λ c w limit ns x width fits e.
      here_where (members_of w x) (size_of x) limit (members_length w x fits) IsAscending (nat_le (size_of x) limit) ns e (members_ascend w x fits);
  members_fit = λ c w limit ns x width fits e.
      here_where (members_of w x) (size_of x) limit (members_length w x fits) (Each (λ n. (n < 2 ^ w) × IsTrue (may_be x n))) (nat_le (size_of x) limit) ns e (members_fit w x fits);
  members_few = λ c w limit ns x width fits e. few_where (members_of w x) (size_of x) limit (members_length w x fits) (nat_le (size_of x) limit) ns refl e;
  members_none = λ c w limit x width fits. none_where (members_of w x) (size_of x) limit (members_length w x fits) (nat_le (size_of x) limit) refl;
  join_describes = λ c valuation w n x y width may left right h. join_sound w n x y left right h;
  join_absorbs = λ c w x y width may left right. (join_absorbs_left x y, join_absorbs_right x y);
  join_least = λ c w x y z width left right above h k. join_least x y z h k;
  widen_describes = λ c valuation w n x y width may left right h. join_sound w n x y left right h;
  widen_absorbs = λ c w x y width may left right. (join_absorbs_left x y, join_absorbs_right x y);
  absorbs_itself = λ c w x width fits. absorbs_itself x;
  absorbs_on = λ c w x y z width left right above h k. absorbs_on x y z h k;
  absorbs_describes = λ c valuation w n old new width left right h d. absorbs_describes w n old new left h d;
  widen_keeps = λ c w old new width joins left right h. join_keeps w old new left h;
  widen_falls = λ c w old new width joins left right e. rank_falls w old new left right e;
  rank_height = λ c w x width fits. let most = width.1 in omega (arith, most);
  is_exact = λ c w x width e fits. cc;
  not_both = λ c k w x y width e left right h. cc;
  constant_fits = λ c w n width below. exact_fits w n below;
  any_fits = λ c w width. any_fits w;
  range_fits = λ c w low high width order below. range_fits w low high width.1 order below;
  op1_fits = λ c op w x width fits. op1_fits op w x fits;
  op2_fits = λ c op w x y width left right. op2_fits w width x y left right op;
  zext_fits = λ c from to x widths fits. moved_fits from to (zext_of from to) (zext_moves from to widths) x fits;
  sext_fits = λ c from to x widths fits. moved_fits from to (sext_of from to) (sext_moves from to widths) x fits;
  trunc_fits = λ c from to x widths fits. moved_fits from to (trunc_of from to) (trunc_moves from to widths) x fits;
  join_fits = λ c w x y width left right. join_fits w x y left right;
  widen_fits = λ c w x y width left right. join_fits w x y left right;
}

pub bits_laws : Laws Known (Unit {0}) (Unit {0}) bits
bits_laws = record { words = word_laws; notes = no_note_laws true }
