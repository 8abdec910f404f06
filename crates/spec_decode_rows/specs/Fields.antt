-- The fields of a decode row.
use Rattle.std.specs.Prelude.{ℕ, ◌+◌, Option, Some, None, List, [], ◌∷◌, bytes_eq, if◌then◌else◌}
use Rattle.syntax_parser.specs.declared.tree.PartDecl.{PartDecl}
use Rattle.syntax_parser.specs.declared.tree.PartDecl.TheVariants.{Fixed, Named}

-- a field: its name, its number in the order of the row, and its width
pub record RowField : Type 0 where
  pub name : List ℕ
  pub number : ℕ
  pub width : ℕ

-- the fields of parts, numbered from n
abbrev pub fields_from : ℕ → List PartDecl → List RowField
fields_from n [] = []
fields_from n (Fixed v w span ∷ parts) = fields_from n parts
fields_from n (Named f w span ∷ parts) = record { name = f.text; number = n; width = w.v } ∷ fields_from (n + 1) parts

abbrev pub fields_of : List PartDecl → List RowField
fields_of parts = fields_from 0 parts

-- the field of a name
abbrev pub field_named : List RowField → List ℕ → Option RowField
field_named [] name = None
field_named (f ∷ fields) name = if bytes_eq f.name name then Some f else field_named fields name
