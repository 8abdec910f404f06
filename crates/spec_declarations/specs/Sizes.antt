-- Sizes of declarations.
use Rattle.std.specs.Prelude.{◌^◌, Bool, ◌&&◌, nat_lt, List, length}
use Rattle.std.specs.List.{list_all}
use Rattle.syntax_parser.specs.Tree.{Datatype, Constructor}

-- whether the numbers of fields are of 32 bits
abbrev pub has_few_fields : Constructor → Bool
has_few_fields c = nat_lt (length c.fields) (2 ^ 32)

-- whether those of constructors are too
abbrev pub is_sized : Datatype → Bool
is_sized d = nat_lt (length d.cases) (2 ^ 32) && list_all has_few_fields d.cases

abbrev pub are_sized : List Datatype → Bool
are_sized datas = list_all is_sized datas
