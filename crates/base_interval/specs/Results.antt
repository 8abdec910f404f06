-- Operations and casts describe the results, which are words.
use Rattle.std.proofs.Common.{◌≡◌, ℕ, ◌^◌, ◌<◌, arith, sym, subst₂, subst}
use Rattle.std.specs.Prelude.{◌&&◌}
use Rattle.std.proofs.lemmas.Bool.Decides.{nat_tests}
use Rattle.word_operations.specs.declared.kinds.UnaryOperation.{UnaryOperation}
use Rattle.word_operations.specs.declared.kinds.UnaryOperation.TheVariants.{Neg, Not}
use Rattle.word_operations.specs.declared.kinds.BinaryOperation.{BinaryOperation}
use Rattle.word_operations.specs.declared.kinds.BinaryOperation.TheVariants.{Add, Sub, Mul, And, Or, Xor, Shl, ShrU, ShrS, RotL, DivU, DivS, RemU, RemS, MulHiU, MulHiS}
use Rattle.word_operations.specs.Op1.{op1_of}
use Rattle.word_operations.specs.Op2.{op2_of}
use Rattle.word_operations.specs.Width.{IsWidth}
use Rattle.word_operations.proofs.Fits.{op2_of_fits}
use Rattle.base_trait.proofs.Tests.{at_choice}
use Rattle.base_interval.specs.Add.{add_sound}
use Rattle.base_interval.specs.And.{and_sound}
use Rattle.base_interval.specs.DivS.{div_s_sound}
use Rattle.base_interval.specs.DivU.{div_u_sound}
use Rattle.base_interval.specs.Mul.{mul_sound}
use Rattle.base_interval.specs.MulHiS.{mul_hi_s_sound}
use Rattle.base_interval.specs.MulHiU.{mul_hi_u_sound}
use Rattle.base_interval.specs.Neg.{neg_sound}
use Rattle.base_interval.specs.Not.{not_sound}
use Rattle.base_interval.specs.Or.{or_sound}
use Rattle.base_interval.specs.RemS.{rem_s_sound}
use Rattle.base_interval.specs.RemU.{rem_u_sound}
use Rattle.base_interval.specs.RotL.{rot_l_sound}
use Rattle.base_interval.specs.Shl.{shl_sound}
use Rattle.base_interval.specs.ShrS.{shr_s_sound}
use Rattle.base_interval.specs.ShrU.{shr_u_sound}
use Rattle.base_interval.specs.Sub.{sub_sound}
use Rattle.base_interval.specs.Xor.{xor_sound}
use Rattle.base_interval.specs.Operations.{row_of, op1_range, op2_range}
use Rattle.base_interval.specs.Range.{Holds, Fits, one, is_one}
use Rattle.base_interval.specs.Sound.{AreHeld, HoldsWord, IsSound, low_of_left, low_of_right}
use Rattle.base_interval.specs.declared.range.Range.{Range}

row_sound : (op : BinaryOperation) → IsSound op (row_of op)
row_sound Add = add_sound
row_sound Sub = sub_sound
row_sound Mul = mul_sound
row_sound And = and_sound
row_sound Or = or_sound
row_sound Xor = xor_sound
row_sound Shl = shl_sound
row_sound ShrU = shr_u_sound
row_sound ShrS = shr_s_sound
row_sound RotL = rot_l_sound
row_sound DivU = div_u_sound
row_sound DivS = div_s_sound
row_sound RemU = rem_u_sound
row_sound RemS = rem_s_sound
row_sound MulHiU = mul_hi_u_sound
row_sound MulHiS = mul_hi_s_sound

pub op2_holds : (op : BinaryOperation) → IsSound op (op2_range op)
op2_holds op w m n x y h =
    let low = h.left_low in let high = h.left_high in
    let low_too = h.right_low in let high_too = h.right_high in
    at_choice (λ r. HoldsWord w r (op2_of op w m n)) (is_one x && is_one y) (one (op2_of op w x.lo y.lo)) (row_of op w x y)
    (λ e.
    let left : x.lo ≡ m = grind (arith, nat_tests) in
    let right : y.lo ≡ n = grind (arith, nat_tests) in
    let itself : HoldsWord w (one (op2_of op w m n)) (op2_of op w m n) = ((omega arith, omega arith), op2_of_fits op w m n h.width (subst (λ k. k < 2 ^ w) left (low_of_left w m n x y h)) (subst (λ k. k < 2 ^ w) right (low_of_right w m n x y h))) in
    subst₂ (λ a b. HoldsWord w (one (op2_of op w a b)) (op2_of op w m n)) (sym left) (sym right) itself)
    (λ e. row_sound op w m n x y h)

pub op1_holds : (op : UnaryOperation) (w n : ℕ) (x : Range) → IsWidth w → Fits w x → Holds x n → HoldsWord w (op1_range op w x) (op1_of op w n)
op1_holds Neg w n x width fits h = neg_sound w n x width fits h
op1_holds Not w n x width fits h = not_sound w n x width fits h

-- an interval of words that holds a number is one of the width
pub holding_fits : (w n : ℕ) (x : Range) → HoldsWord w x n → Fits w x
holding_fits w n x h = let low = h.0.0 in let high = h.0.1 in (omega arith, h.1)

-- and the number is a word
pub held_word : (w n : ℕ) (x : Range) → HoldsWord w x n → Holds x n × (n < 2 ^ w)
held_word w n x h = let high = h.0.1 in let fits = h.1 in (h.0, omega arith)

pub held : (w m n : ℕ) (x y : Range) → IsWidth w → Fits w x → Fits w y → Holds x m → Holds y n → AreHeld w x y m n
held w m n x y width fx fy hx hy = record {
  width = width;
  left_low = hx.0;
  left_high = hx.1;
  left_fits = fx.1;
  right_low = hy.0;
  right_high = hy.1;
  right_fits = fy.1;
}
