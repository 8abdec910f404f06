-- What the name of a type means.
use Rattle.std.specs.Prelude.{ℕ, zero, suc, ◌+◌, Bool, ◌&&◌, nat_le, nat_lt, length, Option, Some, None, List, [], ◌∷◌, codes, bytes_eq, drop, take, if◌then◌else◌}
use Rattle.std.specs.List.{list_all}
use Rattle.std.specs.Fmt.{decimal}
use Rattle.syntax_parser.specs.Tree as e
use Rattle.syntax_parser.specs.Tree.{Item}
use Rattle.spec_ir.specs.declared.ty.Ty.{Ty}
use Rattle.spec_ir.specs.declared.ty.Ty.TheVariants.{Bool as Flag, Word, Data as DataTy, Map as MapOf}
use Rattle.spec_declarations.specs.declared.type_names.Meaning.{Meaning}
use Rattle.spec_declarations.specs.declared.type_names.Meaning.TheVariants.{Known, BadWidth, Unknown}

-- ---- `INT` and digits

abbrev pub is_digit : ℕ → Bool
is_digit b = nat_le 48 b && nat_le b 57

abbrev pub some_digits : List ℕ → Bool
some_digits bytes = nat_lt 0 (length bytes) && list_all is_digit bytes

abbrev pub is_word_name : List ℕ → Bool
is_word_name text = bytes_eq (take 3 text) (codes "INT") && some_digits (drop 3 text)

-- the decimal numerals of n numbers from w on
unfoldable pub numerals : ℕ → ℕ → List (List ℕ)
numerals w zero = []
numerals w (suc n) = decimal w ∷ numerals (w + 1) n

-- the number, from w on, of the first of these texts that is this one
abbrev pub number_from : ℕ → List (List ℕ) → List ℕ → Option ℕ
number_from w [] text = None
number_from w (t ∷ texts) text = if bytes_eq t text then Some w else number_from (w + 1) texts text

abbrev pub word_meaning : Option ℕ → Meaning
word_meaning None = BadWidth
word_meaning (Some w) = Known (Word w)

-- a width is the numeral of 1 to 64
abbrev pub word_named : List ℕ → Meaning
word_named digits = word_meaning (number_from 1 (numerals 1 64) digits)

-- ---- declared types

-- types by their names
abbrev pub TypeTable : Type 0
TypeTable = List (List ℕ × Ty)

-- the declared types with their names, datatypes numbered from d and map types from m
abbrev pub types_from : ℕ → ℕ → List Item → TypeTable
types_from d m [] = []
types_from d m (e.datatype x ∷ items) = (x.name.text, DataTy d) ∷ types_from (d + 1) m items
types_from d m (e.map_type x ∷ items) = (x.name.text, MapOf m) ∷ types_from d (m + 1) items
types_from d m (e.function x ∷ items) = types_from d m items
types_from d m (e.decode x ∷ items) = types_from d m items

abbrev pub types_of : List Item → TypeTable
types_of items = types_from 0 0 items

-- the first type of a name
abbrev pub declared_named : TypeTable → List ℕ → Meaning
declared_named [] text = Unknown
declared_named (t ∷ types) text = if bytes_eq t.0 text then Known t.1 else declared_named types text

-- What the name of a type means, where these types are declared.
unfoldable pub type_named : TypeTable → List ℕ → Meaning
type_named types text =
    if bytes_eq text (codes "BOOL") then Known Flag
    else (if is_word_name text then word_named (drop 3 text) else declared_named types text)

-- the type that a name means, where it means one
abbrev pub type_or_flag : Meaning → Ty
type_or_flag (Known t) = t
type_or_flag BadWidth = Flag
type_or_flag Unknown = Flag
