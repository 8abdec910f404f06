-- Texts of refusals: types, literals and patterns.
use Rattle.std.specs.Prelude.{ℕ, Bool, true, false, Option, Some, None, List, [], ◌∷◌, ◌++◌, codes, slice_get, map}
use Rattle.std.specs.Fmt.{decimal}
use Rattle.spec_match_compiler.specs.Patterns.{Pattern, Patterns, any, bind, flag_is, word_is, case_is, no_pat, pat_then}
use Rattle.spec_ir.specs.declared.ty.Ty.{Ty}
use Rattle.spec_ir.specs.declared.ty.Ty.TheVariants.{Bool as Flag, Word, Data as DataTy, Map as MapOf}
use Rattle.spec_ir.specs.declared.declared.MapType.{MapType}
use Rattle.spec_ir.specs.Environment.{Environment, Data, Case, field_types}

abbrev pub data_name : Option Data → List ℕ
data_name None = []
data_name (Some d) = d.name

abbrev pub map_name : Option MapType → List ℕ
map_name None = []
map_name (Some m) = m.name

-- the name of a type
abbrev pub type_text : Environment → Ty → List ℕ
type_text env Flag = codes "BOOL"
type_text env (Word w) = codes "INT" ++ decimal w
type_text env (DataTy t) = data_name (slice_get env.datas t)
type_text env (MapOf m) = map_name (slice_get env.maps m)

-- the literal of a number and a width
abbrev pub literal_text : ℕ → ℕ → List ℕ
literal_text v w = decimal v ++ (codes ":" ++ decimal w)

abbrev pub flag_text : Bool → List ℕ
flag_text true = codes "true"
flag_text false = codes "false"

-- a number that stands where values have a type
abbrev pub number_text : Ty → ℕ → List ℕ
number_text (Word w) v = literal_text v w
number_text _ v = []

-- a constructor of a type
abbrev pub cases_of : Option Data → List Case
cases_of None = []
cases_of (Some d) = d.cases

abbrev pub case_at : Environment → Ty → ℕ → Option Case
case_at env (DataTy t) c = slice_get (cases_of (slice_get env.datas t)) c
case_at env _ c = None

abbrev pub case_text : Option Case → List ℕ
case_text None = []
case_text (Some c) = c.name

abbrev pub fields_at : Option Case → List Ty
fields_at None = []
fields_at (Some c) = field_types c

module _ (env : Environment) where
  abbrev mutual
    -- an example, where values have a type
    pub pattern_text : Ty → Pattern → List ℕ
    pattern_text ty any = codes "_"
    pattern_text ty (bind n) = codes "_"
    pattern_text ty (flag_is b) = flag_text b
    pattern_text ty (word_is v) = number_text ty v
    pattern_text ty (case_is c ps) = case_text (case_at env ty c) ++ arguments_text (fields_at (case_at env ty c)) ps

    -- the parts in parentheses, where there are some
    pub arguments_text : List Ty → Patterns → List ℕ
    arguments_text (t ∷ ts) (pat_then p ps) = codes "(" ++ pattern_text t p ++ more_text ts ps
    arguments_text _ _ = []

    pub more_text : List Ty → Patterns → List ℕ
    more_text (t ∷ ts) (pat_then p ps) = codes ", " ++ pattern_text t p ++ more_text ts ps
    more_text _ _ = codes ")"
