-- Parts that are checked.
use Rattle.std.specs.Prelude.{Some, None}
use Rattle.syntax_parser.specs.declared.tree.Span.{Span}
use Rattle.spec_ir.specs.declared.ty.Ty.{Ty}
use Rattle.spec_typing.specs.Parts.{Part}

-- a part without faults that has a type
abbrev pub fine : Span → Ty → Part
fine span ty = record { span = span; fault = None; ty = Some ty }
