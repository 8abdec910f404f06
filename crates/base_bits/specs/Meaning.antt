-- The base of known bits.
use Rattle.std.specs.Prelude.{ℕ, ◌-◌, Bool, true, false, ◌==◌, ◌&&◌, nat_le, Option, Some, None, if◌then◌else◌, count_ones}
use Rattle.word_operations.specs.declared.kinds.UnaryOperation.{UnaryOperation}
use Rattle.word_operations.specs.declared.kinds.UnaryOperation.TheVariants.{Neg, Not}
use Rattle.word_operations.specs.declared.kinds.BinaryOperation.{BinaryOperation}
use Rattle.word_operations.specs.declared.kinds.BinaryOperation.TheVariants.{Add, Sub, And, Or, Xor, Shl, ShrU, ShrS, RotL}
use Rattle.word_operations.specs.Op2.{op2_of}
use Rattle.word_operations.specs.Casts.{zext_of, sext_of, trunc_of}
use Rattle.base_trait.specs.Algebra.{Algebra, Words}
use Rattle.base_trait.specs.NoNotes.{no_notes}
use Rattle.base_bits.specs.declared.known.Known.{Known}
use Rattle.base_bits.specs.Known.{without, Describes, Fits, fits_word, exact, is_exact, any}
use Rattle.base_bits.specs.Not.{not_of}
use Rattle.base_bits.specs.And.{and_of}
use Rattle.base_bits.specs.Or.{or_of}
use Rattle.base_bits.specs.Xor.{xor_of}
use Rattle.base_bits.specs.Add.{add_of}
use Rattle.base_bits.specs.Sub.{sub_of, neg_of}
use Rattle.base_bits.specs.Moved.{moved, shifted}
use Rattle.base_bits.specs.Join.{join_of, absorbs_known}
use Rattle.base_bits.specs.Compare.{compared}
use Rattle.base_bits.specs.Range.{range_of}
use Rattle.base_bits.specs.Members.{members_of, size_of}

abbrev pub op1_known : UnaryOperation → ℕ → Known → Known
op1_known Neg w x = neg_of w x
op1_known Not w x = not_of w x

-- each operation by its rule; of the others nothing is known
abbrev pub by_rule : BinaryOperation → ℕ → Known → Known → Known
by_rule And w x y = and_of x y
by_rule Or w x y = or_of x y
by_rule Xor w x y = xor_of x y
by_rule Add w x y = add_of w x y
by_rule Sub w x y = sub_of w x y
by_rule Shl w x y = shifted Shl w x y
by_rule ShrU w x y = shifted ShrU w x y
by_rule ShrS w x y = shifted ShrS w x y
by_rule RotL w x y = shifted RotL w x y
by_rule _ w x y = any w

-- two exact words give the exact result
abbrev pub op2_known : BinaryOperation → ℕ → Known → Known → Known
op2_known op w x y = if is_exact x && is_exact y then exact (op2_of op w x.v y.v) else by_rule op w x y

-- the one number
abbrev pub the_number : Known → Option ℕ
the_number x = if is_exact x then Some x.v else None

abbrev pub may_be : Known → ℕ → Bool
may_be x k = without k x.m == x.v

-- the number of known bits
abbrev pub rank_of : ℕ → Known → ℕ
rank_of w x = w - count_ones x.m

abbrev pub words : Words Known (Unit {0})
words = record {
  describes = λ valuation w n x. Describes w n x;
  fits = λ c w x. Fits w x;
  fits_test = λ c w x. fits_word w x;
  looks = false;
  constant = λ c w n. exact n;
  any = λ c w. any w;
  range = λ c w low high. range_of low high;
  op1 = λ c op w x. op1_known op w x;
  op2 = λ c op w x y. op2_known op w x y;
  cmp = λ c k w x y. compared k w x y;
  zext = λ c from to x. moved (zext_of from to) x;
  sext = λ c from to x. moved (sext_of from to) x;
  trunc = λ c from to x. moved (trunc_of from to) x;
  join = λ c w x y. join_of x y;
  widen = λ c w old new. join_of old new;
  absorbs = λ c w old new. absorbs_known old new;
  rank = λ c w x. rank_of w x;
  height = λ w. 64;
  exact = λ c w x. the_number x;
  may = λ c w x k. may_be x k;
  members = λ c w x limit. if nat_le (size_of x) limit then Some (members_of w x) else None;
  size = λ c w x. size_of x;
}

abbrev pub bits : Algebra Known (Unit {0}) (Unit {0})
bits = record { joins = true; words = words; notes = no_notes }
