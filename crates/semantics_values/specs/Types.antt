-- Which values have a type.
use Rattle.std.specs.Prelude.{ℕ, suc, Bool, true, false, ◌^◌, ◌&&◌, ◌==◌, nat_le, nat_lt, Option, Some, None, List, [], ◌∷◌, length, slice_get, map as map_of}
use Rattle.std.specs.List.{list_all}
use Rattle.spec_ir.specs.declared.ty.Ty.{Ty}
use Rattle.spec_ir.specs.declared.ty.Ty.TheVariants.{Bool as Flag, Word, Data as DataTy, Map as MapOf}
use Rattle.spec_ir.specs.declared.declared.MapType.{MapType}
use Rattle.spec_ir.specs.Environment.{Environment, Case, field_types}
use Rattle.spec_ir.specs.Specification.{Spec}
use Rattle.spec_ir.specs.Texts.{case_at, cases_of}
use Rattle.semantics_values.specs.declared.value.Cell.{Cell}
use Rattle.semantics_values.specs.Values.{Val, Vals, flag, word, made, map, no_val, val_then}

-- what terms of a specification may name
abbrev pub environment_of : Spec → Environment
environment_of spec = record { datas = spec.datas; maps = spec.maps; funs = map_of (λ f. record { name = f.name; params = f.params; result_type = f.result_type }) spec.funs }

-- how many keys a type has: a word of w bits 2 ^ w, an enumeration as many as it has constructors
abbrev pub key_count : Environment → Ty → ℕ
key_count env (Word w) = 2 ^ w
key_count env (DataTy t) = length (cases_of (slice_get env.datas t))
key_count env _ = 0

-- whether the keys of cells ascend, the first of them at least at a bound
abbrev pub keys_ascend : ℕ → List (ℕ × Cell) → Bool
keys_ascend least [] = true
keys_ascend least (c ∷ cells) = nat_le least c.0 && keys_ascend (suc c.0) cells

-- whether a cell holds a number of w bits
abbrev pub cell_fits : ℕ → Cell → Bool
cell_fits w cell = nat_lt cell.v (2 ^ w)

-- whether a cell stands at one of the keys, and holds a number of w bits
abbrev pub listed_fits : ℕ → ℕ → ℕ × Cell → Bool
listed_fits keys w c = nat_lt c.0 keys && cell_fits w c.1

-- whether a constructor is there, and its fields' types pass a test
abbrev pub of_case : Option Case → (List Ty → Bool) → Bool
of_case None f = false
of_case (Some c) f = f (field_types c)

module _ (env : Environment) where
  -- whether the rest and the cells are those of a map type
  abbrev pub map_fits : Option MapType → Cell → List (ℕ × Cell) → Bool
  map_fits None rest cells = false
  map_fits (Some m) rest cells = cell_fits m.width rest && (keys_ascend 0 cells && list_all (listed_fits (key_count env m.key) m.width) cells)

  abbrev mutual
    -- whether a value has a type
    pub has_type : Val → Ty → Bool
    has_type (flag b) Flag = true
    has_type (word w v) (Word u) = w == u && nat_lt v (2 ^ u)
    has_type (made t c vs) (DataTy u) = t == u && of_case (case_at env (DataTy u) c) (have_types vs)
    has_type (map m rest cells) (MapOf u) = m == u && map_fits (slice_get env.maps u) rest cells
    has_type _ _ = false

    pub have_types : Vals → List Ty → Bool
    have_types no_val [] = true
    have_types (val_then v vs) (t ∷ types) = has_type v t && have_types vs types
    have_types _ _ = false
