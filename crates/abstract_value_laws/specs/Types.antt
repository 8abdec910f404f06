-- Which abstract values have a type: by their form alone, whatever their words.
use Rattle.std.specs.Prelude.{ℕ, Bool, true, false, ◌&&◌, ◌==◌, Option, Some, None, List, [], ◌∷◌, slice_get}
use Rattle.spec_ir.specs.declared.ty.Ty.{Ty}
use Rattle.spec_ir.specs.declared.ty.Ty.TheVariants.{Bool as Flag, Word, Data as DataTy, Map as MapOf}
use Rattle.spec_ir.specs.declared.declared.MapType.{MapType}
use Rattle.spec_ir.specs.Environment.{Case, Data, Environment, field_types}
use Rattle.abstract_value_laws.specs.Abs.{Abs, Cases, Parts, flag, word, made, map, no_case, absent, present, no_part, part}

-- whether a map type is there, and its words have the width
abbrev pub has_width : Option MapType → ℕ → Bool
has_width None w = false
has_width (Some m) w = m.width == w

-- whether a datatype is there, and its constructors pass a test
abbrev pub of_data : Option Data → (List Case → Bool) → Bool
of_data None f = false
of_data (Some d) f = f d.cases

module _ {W N : Type 0} (env : Environment) where
  abbrev mutual
    -- whether a value has a type
    pub has_type : Abs W N → Ty → Bool
    has_type (flag t) Flag = true
    has_type (word w x) (Word u) = w == u
    has_type (made t cs) (DataTy u) = t == u && of_data (slice_get env.datas u) (have_cases cs)
    has_type (map m x) (MapOf n) = m == n && has_width (slice_get env.maps n) x.width
    has_type _ _ = false

    -- each constructor has its place, and those that are present have fields of their types
    pub have_cases : Cases W N → List Case → Bool
    have_cases no_case [] = true
    have_cases (absent cs) (d ∷ ds) = have_cases cs ds
    have_cases (present xs cs) (d ∷ ds) = have_types xs (field_types d) && have_cases cs ds
    have_cases _ _ = false

    pub have_types : Parts W N → List Ty → Bool
    have_types no_part [] = true
    have_types (part x xs) (t ∷ types) = has_type x t && have_types xs types
    have_types _ _ = false

  -- the fields of one constructor, which may be missing
  abbrev pub has_case : Option (Parts W N) → Case → Bool
  has_case None d = true
  has_case (Some xs) d = have_types xs (field_types d)
