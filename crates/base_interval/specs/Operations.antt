-- The operations, by their kinds.
use Rattle.std.specs.Prelude.{ℕ, ◌&&◌, if◌then◌else◌}
use Rattle.word_operations.specs.declared.kinds.UnaryOperation.{UnaryOperation}
use Rattle.word_operations.specs.declared.kinds.UnaryOperation.TheVariants.{Neg, Not}
use Rattle.word_operations.specs.declared.kinds.BinaryOperation.{BinaryOperation}
use Rattle.word_operations.specs.declared.kinds.BinaryOperation.TheVariants.{Add, Sub, Mul, And, Or, Xor, Shl, ShrU, ShrS, RotL, DivU, DivS, RemU, RemS, MulHiU, MulHiS}
use Rattle.word_operations.specs.Op2.{op2_of}
use Rattle.base_interval.specs.Add.{add_of}
use Rattle.base_interval.specs.And.{and_of}
use Rattle.base_interval.specs.DivS.{div_s_of}
use Rattle.base_interval.specs.DivU.{div_u_of}
use Rattle.base_interval.specs.Mul.{mul_of}
use Rattle.base_interval.specs.MulHiS.{mul_hi_s_of}
use Rattle.base_interval.specs.MulHiU.{mul_hi_u_of}
use Rattle.base_interval.specs.Neg.{neg_of}
use Rattle.base_interval.specs.Not.{not_of}
use Rattle.base_interval.specs.Or.{or_of}
use Rattle.base_interval.specs.RemS.{rem_s_of}
use Rattle.base_interval.specs.RemU.{rem_u_of}
use Rattle.base_interval.specs.RotL.{rot_l_of}
use Rattle.base_interval.specs.Shl.{shl_of}
use Rattle.base_interval.specs.ShrS.{shr_s_of}
use Rattle.base_interval.specs.ShrU.{shr_u_of}
use Rattle.base_interval.specs.Sub.{sub_of}
use Rattle.base_interval.specs.Xor.{xor_of}
use Rattle.base_interval.specs.Range.{one, is_one}
use Rattle.base_interval.specs.declared.range.Range.{Range}

abbrev pub op1_range : UnaryOperation → ℕ → Range → Range
op1_range Neg w x = neg_of w x
op1_range Not w x = not_of w x

-- of intervals of which one holds several numbers
abbrev pub row_of : BinaryOperation → ℕ → Range → Range → Range
row_of Add w x y = add_of w x y
row_of Sub w x y = sub_of w x y
row_of Mul w x y = mul_of w x y
row_of And w x y = and_of w x y
row_of Or w x y = or_of w x y
row_of Xor w x y = xor_of w x y
row_of Shl w x y = shl_of w x y
row_of ShrU w x y = shr_u_of w x y
row_of ShrS w x y = shr_s_of w x y
row_of RotL w x y = rot_l_of w x y
row_of DivU w x y = div_u_of w x y
row_of DivS w x y = div_s_of w x y
row_of RemU w x y = rem_u_of w x y
row_of RemS w x y = rem_s_of w x y
row_of MulHiU w x y = mul_hi_u_of w x y
row_of MulHiS w x y = mul_hi_s_of w x y

-- two exact operands give the exact result
abbrev pub op2_range : BinaryOperation → ℕ → Range → Range → Range
op2_range op w x y = if is_one x && is_one y then one (op2_of op w x.lo y.lo) else row_of op w x y
