-- What contracts see of the names of types, and what is true of their fields.
use Rattle.std.specs.Prelude.{◌≡◌, List, map, Vec}
use Rattle.std.specs.declared.alloc.Global.{Global}
use Rattle.spec_declarations.specs.declared.type_names.TypeNames.TheInside.{Inside}
use Rattle.spec_declarations.specs.declared.type_names.Meaning.{Meaning}
use Rattle.spec_declarations.specs.Leaves.{Made}
use Rattle.spec_declarations.specs.TypeNames.{TypeTable, numerals}

abbrev pub table : Inside → TypeTable
table x = map (λ t. (t.0.now, t.1)) x.types.items

-- The widths are 1 to 64.
pub record IsReady (x : Inside) : Type 0 where
  pub widths : x.widths.items ≡ numerals 1 64

-- datatypes by the meanings of their constructors' field types
abbrev pub meanings : List (Vec (Vec Meaning Global) Global) → List Made
meanings datas = map (λ d. map (λ c. c.items) d.items) datas
