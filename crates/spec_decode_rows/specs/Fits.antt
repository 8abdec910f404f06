-- When nothing is wrong in a decode row.
use Rattle.std.specs.Prelude.{ℕ, ◌+◌, ◌^◌, Bool, true, false, not, ◌&&◌, ◌==◌, nat_lt, Option, Some, None, List, [], ◌∷◌}
use Rattle.std.specs.List.{list_all}
use Rattle.syntax_parser.specs.declared.tree.PartDecl.{PartDecl}
use Rattle.syntax_parser.specs.declared.tree.PartDecl.TheVariants.{Fixed, Named}
use Rattle.syntax_parser.specs.declared.tree.GuardDecl.{GuardDecl}
use Rattle.syntax_parser.specs.declared.tree.GuardArg.{GuardArg}
use Rattle.syntax_parser.specs.declared.tree.GuardArg.TheVariants as other
use Rattle.syntax_parser.specs.declared.tree.ArgDecl.{ArgDecl}
use Rattle.syntax_parser.specs.declared.tree.ArgDecl.TheVariants as arg
use Rattle.syntax_parser.specs.Tree.{Row}
use Rattle.spec_ir.specs.declared.ty.Ty.{Ty}
use Rattle.spec_ir.specs.declared.ty.Ty.TheVariants.{Word}
use Rattle.spec_ir.specs.Environment.{Environment, Constructor, constructor_named, same_type}
use Rattle.spec_decode_rows.specs.Fields.{RowField, fields_of, field_named}

-- ---- parts

abbrev pub part_width : PartDecl → ℕ
part_width (Fixed v w span) = w.v
part_width (Named f w span) = w.v

abbrev pub widths_sum : List PartDecl → ℕ
widths_sum [] = 0
widths_sum (p ∷ parts) = part_width p + widths_sum parts

-- no width of 0, and a number that its width has room for
abbrev pub part_fits : PartDecl → Bool
part_fits (Fixed v w span) = not (w.v == 0) && nat_lt v.v (2 ^ w.v)
part_fits (Named f w span) = not (w.v == 0)

abbrev pub parts_fit : List PartDecl → Bool
parts_fit parts = widths_sum parts == 32 && list_all part_fits parts

-- ---- guards

-- a known field of a width
abbrev pub has_width : ℕ → Option RowField → Bool
has_width w None = false
has_width w (Some f) = f.width == w

-- a number that a width has room for, or a field of this width
abbrev pub other_fits : List RowField → ℕ → GuardArg → Bool
other_fits fields w (other.Number n) = nat_lt n.v (2 ^ w)
other_fits fields w (other.Named name) = has_width w (field_named fields name.text)

-- a guard compares a known field
abbrev pub guard_fits_at : List RowField → GuardArg → Option RowField → Bool
guard_fits_at fields o None = false
guard_fits_at fields o (Some f) = other_fits fields f.width o

abbrev pub guard_fits : List RowField → GuardDecl → Bool
guard_fits fields g = guard_fits_at fields g.other (field_named fields g.field.text)

-- ---- the constructor and its arguments

abbrev pub has_type : Ty → Option RowField → Bool
has_type ty None = false
has_type ty (Some f) = same_type ty (Word f.width)

-- a known field of the type of the constructor's field, or a word of that type
abbrev pub arg_fits : List RowField → ArgDecl → Ty → Bool
arg_fits fields (arg.Named name) ty = has_type ty (field_named fields name.text)
arg_fits fields (arg.Word v w span) ty = same_type ty (Word w.v) && nat_lt v.v (2 ^ w.v)

-- as many arguments as the constructor has fields, each of the type of its field
abbrev pub args_fit : List RowField → List ArgDecl → List Ty → Bool
args_fit fields [] [] = true
args_fit fields (a ∷ args) (t ∷ types) = arg_fits fields a t && args_fit fields args types
args_fit fields _ _ = false

-- a constructor of the datatype of instructions, where there is one
abbrev pub case_fits : Option ℕ → Option Constructor → Bool
case_fits (Some instr) (Some c) = c.ty == instr
case_fits _ _ = false

abbrev pub types_of : Option Constructor → List Ty
types_of None = []
types_of (Some c) = c.fields

-- ---- the row

module _ (env : Environment) (instr : Option ℕ) where
  abbrev pub row_fits : Row → Bool
  row_fits r =
      parts_fit r.parts
      && (list_all (guard_fits (fields_of r.parts)) r.guards
      && (case_fits instr (constructor_named env r.case.text)
      && args_fit (fields_of r.parts) r.args (types_of (constructor_named env r.case.text))))
