-- Which row of the decode section a word meets, and the instruction that it then is.
use Rattle.std.specs.Prelude.{ℕ, Bool, ◌&&◌, Option, Some, None, List, [], ◌∷◌, map, slice_get, option_map, if◌then◌else◌}
use Rattle.std.specs.List.{list_all}
use Rattle.word_operations.specs.Cmp.{cmp_of}
use Rattle.spec_ir.specs.declared.row.WordPart.{WordPart}
use Rattle.spec_ir.specs.declared.row.WordPart.TheVariants.{Fixed, Field}
use Rattle.spec_ir.specs.declared.row.Guard.{Guard}
use Rattle.spec_ir.specs.declared.row.Arg.{Arg}
use Rattle.spec_ir.specs.declared.row.Arg.TheVariants as arg
use Rattle.spec_ir.specs.Specification.{Row}
use Rattle.semantics_values.specs.Values.{Val, word, made, vals}
pub use Rattle.spec_ir.specs.Rows.{part_width, width_sum, bits_above, agrees}

-- the widths and numbers of the fields of a word, in the order of the row
abbrev pub fields_in : ℕ → List WordPart → List (ℕ × ℕ)
fields_in code [] = []
fields_in code (Fixed v w ∷ parts) = fields_in code parts
fields_in code (Field w ∷ parts) = (w, bits_above (width_sum parts) w code) ∷ fields_in code parts

-- the width and the number that an argument names; past the fields there is nothing, of width 1
abbrev pub number_at : Option (ℕ × ℕ) → ℕ × ℕ
number_at None = (1, 0)
number_at (Some f) = f

abbrev pub number_of : List (ℕ × ℕ) → Arg → ℕ × ℕ
number_of fields (arg.Field i) = number_at (slice_get fields i)
number_of fields (arg.Word w v) = (w, v)

-- whether the fields of a word meet a guard
abbrev pub guard_holds : List (ℕ × ℕ) → Guard → Bool
guard_holds fields g = cmp_of g.c (number_at (slice_get fields g.field)).0 (number_at (slice_get fields g.field)).1 (number_of fields g.other).1

-- whether a word meets a row
abbrev pub meets_row : ℕ → Row → Bool
meets_row code row = agrees code row.parts && list_all (guard_holds (fields_in code row.parts)) row.guards

abbrev pub argument_of : List (ℕ × ℕ) → Arg → Val
argument_of fields a = word (number_of fields a).0 (number_of fields a).1

-- the instruction of a word that meets a row, where `instr` is the datatype of instructions
abbrev pub instruction_of : ℕ → ℕ → Row → Val
instruction_of instr code row = made instr row.case (vals (map (argument_of (fields_in code row.parts)) row.args))

-- the first row that a word meets
abbrev pub row_met : ℕ → List Row → Option Row
row_met code [] = None
row_met code (row ∷ rows) = if meets_row code row then Some row else row_met code rows

-- the instruction that a word is, if any
abbrev pub decoded : ℕ → List Row → ℕ → Option Val
decoded instr rows code = option_map (instruction_of instr code) (row_met code rows)
