-- What a term is, as far as its form tells, where the variables are these.
use Rattle.std.specs.Prelude.{ℕ, ◌+◌, ◌-◌, ◌%◌, ◌^◌, ◌==◌, not, Bool, true, false, if◌then◌else◌, List, Option, Some, None, slice_get, unwrap_or}
use Rattle.word_operations.specs.declared.kinds.BinaryOperation.{BinaryOperation}
use Rattle.word_operations.specs.declared.kinds.BinaryOperation.TheVariants.{Add, Sub}
use Rattle.word_operations.specs.declared.kinds.WordComparison.{WordComparison}
use Rattle.word_operations.specs.declared.kinds.WordComparison.TheVariants.{Eq, Ne}
use Rattle.spec_ir.specs.declared.term.CastKind.{CastKind}
use Rattle.spec_ir.specs.declared.term.CastKind.TheVariants.{Zero}
use Rattle.spec_ir.specs.CoreTerms as t
use Rattle.spec_ir.specs.CoreTerms.{Core, Cores}
use Rattle.semantics_values.specs.declared.entry.KeyAt.TheVariants.{Whole, At}
use Rattle.analysis_choices.specs.declared.symbol.ShiftedCell.{ShiftedCell}
use Rattle.analysis_choices.specs.declared.symbol.Symbol.{Symbol}
use Rattle.analysis_choices.specs.declared.symbol.Symbol.TheVariants.{Other, Number, Field, Cell}

-- the cell that it is, if it is one: a field is the cell of a word
abbrev pub as_cell : Symbol → Option ShiftedCell
as_cell (Field place) = Some (record { place = place; key = Whole; plus = 0 })
as_cell (Cell cell) = Some cell
as_cell _ = None

-- a cell plus a number more, modulo 2^32
abbrev pub shifted : Option ShiftedCell → ℕ → Symbol
shifted None n = Other
shifted (Some cell) n = Cell (record cell { plus = (cell.plus + n % 2 ^ 32) % 2 ^ 32 })

-- a sum or a difference of 32 bits of a cell and a number
abbrev pub computed_of : BinaryOperation → Symbol → Symbol → Symbol
computed_of Add x (Number n) = shifted (as_cell x) n
computed_of Add (Number n) y = shifted (as_cell y) n
computed_of Sub x (Number n) = shifted (as_cell x) (2 ^ 32 - n % 2 ^ 32)
computed_of op x y = Other

abbrev pub computed : BinaryOperation → ℕ → Symbol → Symbol → Symbol
computed op w x y = if w == 32 then computed_of op x y else Other

-- Zeros in front leave a number.
abbrev pub widened : CastKind → Symbol → Symbol
widened Zero (Number n) = Number n
widened kind x = Other

-- the cell of a map of the state
abbrev pub looked_up : Symbol → Symbol → Symbol
looked_up (Field place) (Number key) = Cell (record { place = place; key = At key; plus = 0 })
looked_up x key = Other

-- whether two numbers are the same
abbrev pub compared_numbers : WordComparison → Symbol → Symbol → Option Bool
compared_numbers Eq (Number m) (Number n) = Some (m == n)
compared_numbers Ne (Number m) (Number n) = Some (not (m == n))
compared_numbers k x y = None

-- the branch that is taken, where that is known
abbrev pub taken : Option Bool → Symbol → Symbol → Symbol
taken (Some true) x y = x
taken (Some false) x y = y
taken None x y = Other

-- a constructor without fields, as a key of an enumeration
abbrev pub constructor : ℕ → Cores → Symbol
constructor k t.no_core = Number k
constructor k (t.core_then x rest) = Other

abbrev mutual
  pub symbol_of : List Symbol → Core → Symbol
  symbol_of env (t.var n) = unwrap_or (slice_get env n) Other
  symbol_of env (t.flag b) = Other
  symbol_of env (t.word w v) = Number v
  symbol_of env (t.un op w x) = Other
  symbol_of env (t.bin op w x y) = computed op w (symbol_of env x) (symbol_of env y)
  symbol_of env (t.test k w x y) = Other
  symbol_of env (t.cast kind from to x) = widened kind (symbol_of env x)
  symbol_of env (t.let_in x body) = Other
  symbol_of env (t.if_else b x y) = taken (decided env b) (symbol_of env x) (symbol_of env y)
  symbol_of env (t.choose x by arms) = Other
  symbol_of env (t.make d k args) = constructor k args
  symbol_of env (t.call f args) = Other
  symbol_of env (t.get m x k) = looked_up (symbol_of env x) (symbol_of env k)
  symbol_of env (t.put m x k v) = Other

  -- the truth value of a condition, where it is known
  pub decided : List Symbol → Core → Option Bool
  decided env (t.var n) = None
  decided env (t.flag b) = Some b
  decided env (t.word w v) = None
  decided env (t.un op w x) = None
  decided env (t.bin op w x y) = None
  decided env (t.test k w x y) = compared_numbers k (symbol_of env x) (symbol_of env y)
  decided env (t.cast kind from to x) = None
  decided env (t.let_in x body) = None
  decided env (t.if_else b x y) = None
  decided env (t.choose x by arms) = None
  decided env (t.make d k args) = None
  decided env (t.call f args) = None
  decided env (t.get m x k) = None
  decided env (t.put m x k v) = None
