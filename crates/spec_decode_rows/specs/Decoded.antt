-- The decode rows of a tree in which nothing is wrong.
use Rattle.std.specs.Prelude.{ℕ, Option, Some, None, List, map}
use Rattle.word_operations.specs.declared.kinds.WordComparison.{WordComparison}
use Rattle.syntax_parser.specs.declared.tree.PartDecl.{PartDecl}
use Rattle.syntax_parser.specs.declared.tree.PartDecl.TheVariants as part
use Rattle.syntax_parser.specs.declared.tree.GuardDecl.{GuardDecl}
use Rattle.syntax_parser.specs.declared.tree.GuardOp.{GuardOp}
use Rattle.syntax_parser.specs.declared.tree.GuardArg.{GuardArg}
use Rattle.syntax_parser.specs.declared.tree.GuardArg.TheVariants as other
use Rattle.syntax_parser.specs.declared.tree.ArgDecl.{ArgDecl}
use Rattle.syntax_parser.specs.declared.tree.ArgDecl.TheVariants as arg
use Rattle.syntax_parser.specs.Tree.{Row as RowTree}
use Rattle.spec_ir.specs.declared.row.WordPart.{WordPart}
use Rattle.spec_ir.specs.declared.row.Guard.{Guard}
use Rattle.spec_ir.specs.declared.row.Arg.{Arg}
use Rattle.spec_ir.specs.Environment.{Environment, Constructor, constructor_named}
use Rattle.spec_ir.specs.Specification.{Row}
use Rattle.spec_decode_rows.specs.Fields.{RowField, fields_of, field_named}

abbrev pub part_of : PartDecl → WordPart
part_of (part.Fixed v w span) = WordPart.Fixed v.v w.v
part_of (part.Named name w span) = WordPart.Field w.v

abbrev pub number_or : Option RowField → ℕ
number_or None = 0
number_or (Some f) = f.number

abbrev pub width_or : Option RowField → ℕ
width_or None = 0
width_or (Some f) = f.width

-- guards compare unsigned numbers
abbrev pub guard_comparison : GuardOp → WordComparison
guard_comparison GuardOp.Eq = WordComparison.Eq
guard_comparison GuardOp.Ne = WordComparison.Ne
guard_comparison GuardOp.Less = WordComparison.LtU

module _ (fields : List RowField) where
  -- what a field of a width is compared with
  abbrev pub other_of : ℕ → GuardArg → Arg
  other_of w (other.Number n) = Arg.Word w n.v
  other_of w (other.Named name) = Arg.Field (number_or (field_named fields name.text))

  abbrev pub guard_of : GuardDecl → Guard
  guard_of g = record { field = number_or (field_named fields g.field.text); c = guard_comparison g.op; other = other_of (width_or (field_named fields g.field.text)) g.other }

  abbrev pub arg_of : ArgDecl → Arg
  arg_of (arg.Named name) = Arg.Field (number_or (field_named fields name.text))
  arg_of (arg.Word v w span) = Arg.Word w.v v.v

abbrev pub case_or : Option Constructor → ℕ
case_or None = 0
case_or (Some c) = c.case

-- A row is taken over part by part, guard by guard and argument by argument.
abbrev pub decoded : Environment → RowTree → Row
decoded env r =
    record {
      parts = map part_of r.parts;
      guards = map (guard_of (fields_of r.parts)) r.guards;
      case = case_or (constructor_named env r.case.text);
      args = map (arg_of (fields_of r.parts)) r.args;
    }
