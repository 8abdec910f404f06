-- What operators and keywords stand for.
use Rattle.std.specs.Prelude.{ℕ, Bool, ◌&&◌, nat_le}
use Rattle.word_operations.specs.declared.kinds.BinaryOperation.{BinaryOperation}
use Rattle.word_operations.specs.declared.kinds.WordComparison.{WordComparison}
use Rattle.syntax_lexer.specs.declared.token.Keyword.{Keyword}
use Rattle.syntax_parser.specs.declared.tree.BinOp.{BinOp}
use Rattle.spec_ir.specs.declared.term.CastKind.{CastKind}
use Rattle.spec_ir.specs.WellFormed.{is_width}

-- an operator on two operands
pub data Operator : Type 0 where
  -- `a && b` and `a || b`
  both : Operator
  either : Operator
  operation : BinaryOperation → Operator
  comparison : WordComparison → Operator

abbrev pub operator_of : BinOp → Operator
operator_of BinOp.OrElse = either
operator_of BinOp.AndAlso = both
operator_of BinOp.Eq = comparison WordComparison.Eq
operator_of BinOp.Ne = comparison WordComparison.Ne
operator_of BinOp.BitOr = operation BinaryOperation.Or
operator_of BinOp.BitXor = operation BinaryOperation.Xor
operator_of BinOp.BitAnd = operation BinaryOperation.And
operator_of BinOp.Add = operation BinaryOperation.Add
operator_of BinOp.Sub = operation BinaryOperation.Sub
operator_of BinOp.Mul = operation BinaryOperation.Mul

-- the operator of a keyword: a tree has only those from `shl` to `les`
abbrev pub keyword_operator : Keyword → Operator
keyword_operator Keyword.KwShl = operation BinaryOperation.Shl
keyword_operator Keyword.KwShru = operation BinaryOperation.ShrU
keyword_operator Keyword.KwShrs = operation BinaryOperation.ShrS
keyword_operator Keyword.KwRotl = operation BinaryOperation.RotL
keyword_operator Keyword.KwDivu = operation BinaryOperation.DivU
keyword_operator Keyword.KwDivs = operation BinaryOperation.DivS
keyword_operator Keyword.KwRemu = operation BinaryOperation.RemU
keyword_operator Keyword.KwRems = operation BinaryOperation.RemS
keyword_operator Keyword.KwMulhu = operation BinaryOperation.MulHiU
keyword_operator Keyword.KwMulhs = operation BinaryOperation.MulHiS
keyword_operator Keyword.KwLtu = comparison WordComparison.LtU
keyword_operator Keyword.KwLeu = comparison WordComparison.LeU
keyword_operator Keyword.KwLts = comparison WordComparison.LtS
keyword_operator _ = comparison WordComparison.LeS

abbrev pub cast_of : Keyword → CastKind
cast_of Keyword.KwZext = CastKind.Zero
cast_of Keyword.KwSext = CastKind.Sign
cast_of _ = CastKind.Cut

-- whether a word may be cast from one width to another
abbrev pub cast_fits : CastKind → ℕ → ℕ → Bool
cast_fits CastKind.Cut from to = is_width to && nat_le to from
cast_fits _ from to = is_width to && nat_le from to
