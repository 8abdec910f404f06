-- Laws of decode rows.
use Rattle.std.specs.Prelude.{◌≡◌, ℕ, ◌<◌, true, None, Some, List, map, slice_get, Option}
use Rattle.syntax_parser.specs.Tree as e
use Rattle.syntax_parser.specs.Tree.{Tree}
use Rattle.spec_ir.specs.Environment.{Environment}
use Rattle.spec_ir.specs.Rows.{agrees}
use Rattle.spec_ir.specs.Specification.{Row}
use Rattle.spec_decode_rows.specs.Bits.{bits_of, row_bits, all_agree}
use Rattle.spec_decode_rows.specs.Rows.{decode_fault, rows_of}
use Rattle.spec_decode_rows.specs.Decoded.{decoded}

-- A word of 32 bits agrees with a row on every bit that the row fixes.
abbrev pub AgreesWith : e.Row → ℕ → Type 0
AgreesWith r word = all_agree (row_bits r.parts) (bits_of word 32) ≡ true

-- Where no row is wrong no word agrees with two of them.
abbrev pub RowsAreApart : Type 0
RowsAreApart = (env : Environment) (instr : Option ℕ) (tree : Tree) (i j : ℕ) (q r : e.Row) (word : ℕ) → decode_fault env instr tree ≡ None
    → i < j → slice_get (rows_of tree.items) i ≡ Some q → slice_get (rows_of tree.items) j ≡ Some r → AgreesWith q word → ¬ AgreesWith r word

-- No two of these rows have fixed parts that one word agrees with.
abbrev pub AreApart : List Row → Type 0
AreApart rows = (i j : ℕ) (q r : Row) (word : ℕ) → i < j → slice_get rows i ≡ Some q → slice_get rows j ≡ Some r → agrees word q.parts ≡ true → ¬ (agrees word r.parts ≡ true)

-- The same of the rows that are then answered.
abbrev pub DecodedRowsAreApart : Type 0
DecodedRowsAreApart = (env : Environment) (instr : Option ℕ) (tree : Tree) → decode_fault env instr tree ≡ None → AreApart (map (decoded env) (rows_of tree.items))
