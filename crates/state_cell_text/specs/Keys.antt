-- Keys of maps, and cells of states, as text.
use Rattle.std.specs.Prelude.{ℕ, ◌+◌, ◌^◌, nat_le, nat_lt, List, [], ◌∷◌, ◌++◌, Option, Some, None, bytes_eq, codes, slice_get, if◌then◌else◌}
use Rattle.std.specs.Fmt.{decimal}
use Rattle.spec_ir.specs.declared.ty.Ty.{Ty}
use Rattle.spec_ir.specs.declared.ty.Ty.TheVariants.{Word, Data as DataTy, Map as MapOf}
use Rattle.spec_ir.specs.Environment.{Case, key_of}
use Rattle.spec_ir.specs.Specification.{Spec}
use Rattle.spec_ir.specs.Texts.{cases_of, case_text}
use Rattle.semantics_values.specs.declared.entry.KeyAt.{KeyAt}
use Rattle.semantics_values.specs.declared.entry.KeyAt.TheVariants.{Whole, Rest, At}
use Rattle.state_cell_text.specs.Digits.{decimal_number, digits_of, hex_digits, hex_number}
use Rattle.state_cell_text.specs.Places.{Field}

-- a number that has at most w bits
abbrev pub below : ℕ → Option ℕ → Option ℕ
below w None = None
below w (Some k) = if nat_lt k (2 ^ w) then Some k else None

-- the number, from n on, of the first constructor of a name
abbrev pub case_number : ℕ → List Case → List ℕ → Option ℕ
case_number n [] name = None
case_number n (c ∷ cases) name = if bytes_eq c.name name then Some n else case_number (n + 1) cases name

-- a key that is a word of w bits
abbrev pub word_number : ℕ → List ℕ → Option ℕ
word_number w text = below w (if nat_le w 8 then decimal_number text else hex_number 8 text)

module _ (spec : Spec) where
  -- The key that a text spells: a word of at most 8 bits in decimal without leading zeros, a wider one in 1 to 8 hex
  -- digits, a constructor by its name.
  abbrev pub key_number : Ty → List ℕ → Option ℕ
  key_number (Word w) text = word_number w text
  key_number (DataTy t) text = case_number 0 (cases_of (slice_get spec.datas t)) text
  key_number _ text = None

  -- the text of a key: in decimal, in a hex digit for four bits, or a constructor's name
  abbrev pub key_text : Ty → ℕ → List ℕ
  key_text (Word w) k = if nat_le w 8 then decimal k else hex_digits (digits_of w) k
  key_text (DataTy t) k = case_text (slice_get (cases_of (slice_get spec.datas t)) k)
  key_text _ k = []

  -- the keys of a field of a type
  abbrev pub keys_of : Ty → Ty
  keys_of (MapOf m) = key_of (slice_get spec.maps m)
  keys_of ty = ty

  -- what is written of a cell behind the name of its field: nothing, `[*]` or `[KEY]`
  abbrev pub key_part : Ty → KeyAt → List ℕ
  key_part ty Whole = []
  key_part ty Rest = codes "[*]"
  key_part ty (At k) = 91 ∷ (key_text ty k ++ 93 ∷ [])

  -- a cell of a field: NAME, NAME[*] or NAME[KEY]
  abbrev pub cell_text : Field → KeyAt → List ℕ
  cell_text f key = f.0 ++ key_part (keys_of f.1) key
