-- Decode rows whose instructions have their type.
use Rattle.std.specs.Prelude.{ℕ, ◌^◌, Bool, true, false, ◌&&◌, nat_lt, Option, Some, None, List, [], ◌∷◌, slice_get, is_some}
use Rattle.spec_ir.specs.declared.ty.Ty.{Ty}
use Rattle.spec_ir.specs.declared.ty.Ty.TheVariants.{Word, Data as DataTy}
use Rattle.spec_ir.specs.declared.row.WordPart.{WordPart}
use Rattle.spec_ir.specs.declared.row.WordPart.TheVariants.{Fixed, Field}
use Rattle.spec_ir.specs.declared.row.Arg.{Arg}
use Rattle.spec_ir.specs.declared.row.Arg.TheVariants as arg
use Rattle.spec_ir.specs.Environment.{Environment, same_type}
use Rattle.spec_ir.specs.Specification.{Row}
use Rattle.spec_ir.specs.Texts.{case_at, fields_at}

-- the widths of the fields of parts
abbrev pub field_widths : List WordPart → List ℕ
field_widths [] = []
field_widths (Fixed v w ∷ parts) = field_widths parts
field_widths (Field w ∷ parts) = w ∷ field_widths parts

-- whether there is a field of the width of a type
abbrev pub is_word_of : Ty → Option ℕ → Bool
is_word_of ty None = false
is_word_of ty (Some w) = same_type ty (Word w)

-- whether an argument is a word of a type, where fields have these widths
abbrev pub arg_fits : List ℕ → Arg → Ty → Bool
arg_fits widths (arg.Field i) ty = is_word_of ty (slice_get widths i)
arg_fits widths (arg.Word w v) ty = same_type ty (Word w) && nat_lt v (2 ^ w)

abbrev pub args_fit : List ℕ → List Arg → List Ty → Bool
args_fit widths [] [] = true
args_fit widths (a ∷ args) (t ∷ types) = arg_fits widths a t && args_fit widths args types
args_fit widths _ _ = false

-- whether the constructor of a row is one of the datatype of instructions, and its arguments are words of the types of its fields
abbrev pub row_fits : Environment → ℕ → Row → Bool
row_fits env instr row = is_some (case_at env (DataTy instr) row.case) && args_fit (field_widths row.parts) row.args (fields_at (case_at env (DataTy instr) row.case))
