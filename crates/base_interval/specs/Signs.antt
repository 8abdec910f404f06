-- Sign bits.
use Rattle.std.proofs.Common.{◌≡◌, ℕ, ◌*◌, ◌^◌, ◌<◌, Bool, if◌then◌else◌, arith, sym, subst}
use Rattle.std.specs.Prelude.{nat_le, nat_lt, ◌&&◌}
use Rattle.std.proofs.lemmas.Bool.Decides.{nat_tests}
use Rattle.word_operations.specs.declared.kinds.BinaryOperation.{BinaryOperation}
use Rattle.word_operations.specs.Op2.{op2_of}
use Rattle.base_trait.proofs.Tests.{at_choice, and_parts}
use Rattle.base_interval.specs.Range.{all}
use Rattle.base_interval.specs.Sound.{HoldsWord, IsSound, any_result}
use Rattle.base_interval.specs.declared.range.Range.{Range}

-- the low end's sign bit is clear, and the high end's is set
abbrev pub crosses : ℕ → Range → Bool
crosses w x = nat_lt (2 * x.lo) (2 ^ w) && nat_le (2 ^ w) (2 * x.hi)

-- no number has its sign bit set
abbrev pub is_low : ℕ → Range → Bool
is_low w x = nat_lt (2 * x.hi) (2 ^ w)

-- as the row says, where no number has its sign bit set; else any
abbrev pub where_low : (ℕ → Range → Range → Range) → ℕ → Range → Range → Range
where_low row w x y = if is_low w x && is_low w y then row w x y else all w

-- the row of an operation serves a signed one that is the same on words whose sign bits are clear
pub where_low_sound : (op signed_op : BinaryOperation) (row : ℕ → Range → Range → Range)
    → ((w m n : ℕ) → 2 * m < 2 ^ w → 2 * n < 2 ^ w → op2_of signed_op w m n ≡ op2_of op w m n)
    → IsSound op row → IsSound signed_op (where_low row)
where_low_sound op signed_op row same sound w m n x y h =
    let high = h.left_high in let high_too = h.right_high in
    at_choice (λ r. HoldsWord w r (op2_of signed_op w m n)) (is_low w x && is_low w y) (row w x y) (all w)
    (λ e.
    let both = and_parts (is_low w x) (is_low w y) e in
    let first = both.0 in let second = both.1 in
    let left : 2 * m < 2 ^ w = grind (arith, nat_tests) in
    let right : 2 * n < 2 ^ w = grind (arith, nat_tests) in
    subst (HoldsWord w (row w x y)) (sym (same w m n left right)) (sound w m n x y h))
    (λ e. any_result signed_op w m n x y h)
