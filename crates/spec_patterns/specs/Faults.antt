-- Faults of a name, a count, a literal and a type.
use Rattle.std.specs.Prelude.{ℕ, ◌==◌, ◌^◌, ◌&&◌, Bool, Option, nat_lt}
use Rattle.syntax_parser.specs.declared.tree.Span.{Span}
use Rattle.syntax_parser.specs.declared.tree.Name.{Name}
use Rattle.syntax_parser.specs.declared.tree.Num.{Num}
use Rattle.spec_ir.specs.declared.ty.Ty.{Ty}
use Rattle.spec_ir.specs.declared.spec_error.SpecError.{SpecError}
use Rattle.spec_ir.specs.declared.spec_error.SpecError.TheVariants.{Unknown, Mismatch, Arity, BadWidth}
use Rattle.spec_ir.specs.Answers.{unless}
use Rattle.spec_ir.specs.Environment.{Environment, same_type}
use Rattle.spec_ir.specs.Texts.{type_text, literal_text}
use Rattle.spec_ir.specs.WellFormed.{is_width}

-- whether a number fits a width
abbrev pub fits : ℕ → ℕ → Bool
fits v w = is_width w && nat_lt v (2 ^ w)

-- nothing has this name (T1)
abbrev pub unknown : Name → SpecError
unknown name = Unknown name.span name.text

-- another count of arguments (T4)
abbrev pub count_fault : Name → ℕ → ℕ → Option SpecError
count_fault name want got = unless (want == got) (Arity name.span want got)

-- a literal that doesn't fit (T5)
abbrev pub literal_fault : Num → Num → Span → Option SpecError
literal_fault v w span = unless (fits v.v w.v) (BadWidth span (literal_text v.v w.v))

-- a part of another type than the one that is wanted (T3)
abbrev pub type_fault : Environment → Ty → Span → Ty → Option SpecError
type_fault env want span got = unless (same_type want got) (Mismatch span (type_text env want) (type_text env got))
