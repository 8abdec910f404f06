-- The cells that the text of a state gives, and what is read of them.
use Rattle.std.proofs.Common.{◌≡◌, if◌then◌else◌, ◌⊎◌, ◌+◌, ◌<◌, ◌≤◌, ◌^◌, ◌==◌, ◌&&◌, ℕ, suc, true, false, List, [], ◌∷◌, ◌++◌, Option, Some, None, refl, sym, ap, ◌∙◌, inl, inr, arith, slice_get, append_assoc, append-nil}
use Rattle.std.proofs.lemmas.Bool.{cases_Bool}
use Rattle.std.proofs.lemmas.Bool.Decides.{nat_tests}
use Rattle.std.proofs.Math.Bool.{and-false as and_false}
use Rattle.spec_ir.specs.declared.ty.Ty.{Ty}
use Rattle.spec_ir.specs.declared.ty.Ty.TheVariants.{Bool as Flag, Word, Data as DataTy, Map as MapOf}
use Rattle.spec_ir.specs.declared.declared.MapType.{MapType}
use Rattle.spec_ir.specs.Specification.{Spec}
use Rattle.semantics_values.specs.declared.entry.GivenNumber.TheVariants.{One}
use Rattle.semantics_values.specs.declared.entry.KeyAt.{KeyAt}
use Rattle.semantics_values.specs.declared.entry.KeyAt.TheVariants.{Whole, Rest, At}
use Rattle.semantics_values.specs.declared.entry.Line.{Line}
use Rattle.semantics_values.specs.declared.value.Cell.{Cell}
use Rattle.semantics_values.specs.Values.{Val, flag, word, made, map as map_of}
use Rattle.semantics.specs.Entries.{is_key as same_key}
use Rattle.state_cell_text.specs.Digits.{digits_of, hex_digits}
use Rattle.state_cell_text.specs.Keys.{key_part, key_text, keys_of}
use Rattle.state_cell_text.specs.Places.{Field, place_of}
use Rattle.state_text.specs.Forms.{CellSuffix, whole, rest, at, single, IsOnePart, begins_name, is_name, part_text}
use Rattle.state_text.specs.Lines.{lines}
use Rattle.state_text.specs.Meaning.{cells, form_says, said, single_says}
use Rattle.state_text.specs.Parsing.{form}
use Rattle.state_text.specs.Reading.{GivenCells, entry_found, is_given, read_from}
use Rattle.state_text.specs.Writing.{cell_line, field_lines, lines_as, listed_lines, map_lines, rest_line}
use Rattle.state_text.proofs.Bytes.{AllPlain, AllPlain-append, apart, begins_more, line_first, word_plain}
use Rattle.state_text.proofs.Computed.{computed, key_word, name_parts}
use Rattle.state_text.proofs.Numbers.{hex_word, number_read}
use Rattle.state_text.proofs.Runs.{given_more}

-- a cell that is printed: its field's number and name, the type of keys, the key, and a number of a width
pub record Printed : Type 0 where
  pub field : ℕ
  pub name : List ℕ
  pub keys : Ty
  pub key : KeyAt
  pub width : ℕ
  pub value : ℕ

module _ (spec : Spec) where
  abbrev pub cell_name : Printed → List ℕ
  cell_name p = p.name ++ key_part spec p.keys p.key

  abbrev pub text_of : List Printed → List ℕ
  text_of [] = []
  text_of (p ∷ ps) = cell_line (cell_name p) p.width p.value ++ text_of ps

  pub text_of-append : (ps qs : List Printed) → text_of (ps ++ qs) ≡ text_of ps ++ text_of qs
  text_of-append [] qs = refl
  text_of-append (p ∷ ps) qs = ap (λ (l : List ℕ). cell_line (cell_name p) p.width p.value ++ l) (text_of-append ps qs) ∙ sym (append_assoc (cell_line (cell_name p) p.width p.value) (text_of ps) (text_of qs))

-- ---- the printed cells of a state

module _ (i : ℕ) (name : List ℕ) where
  abbrev pub printed_rest : Ty → ℕ → ℕ → ℕ → List Printed
  printed_rest keys w default v = if v == default then [] else (record { field = i; name = name; keys = keys; key = Rest; width = w; value = v } ∷ [])

  abbrev pub printed_listed : Ty → ℕ → ℕ → List (ℕ × Cell) → List Printed
  printed_listed keys w r [] = []
  printed_listed keys w r (c ∷ cs) = if c.1.v == r then printed_listed keys w r cs else (record { field = i; name = name; keys = keys; key = At c.0; width = w; value = c.1.v } ∷ printed_listed keys w r cs)

  abbrev pub printed_map : Option MapType → Cell → List (ℕ × Cell) → List Printed
  printed_map None r cs = []
  printed_map (Some d) r cs = printed_rest d.key d.width d.default r.v ++ printed_listed d.key d.width r.v cs

module _ (spec : Spec) where
  abbrev pub printed_as : ℕ → List ℕ → Ty → Val → List Printed
  printed_as i name (Word w) (word u v) = record { field = i; name = name; keys = Word w; key = Whole; width = w; value = v } ∷ []
  printed_as i name (MapOf m) (map_of n r cs) = printed_map i name (slice_get spec.maps m) r cs
  printed_as i name _ _ = []

  abbrev pub printed : ℕ → List Field → List Val → List Printed
  printed i [] parts = []
  printed i (f ∷ fields) [] = []
  printed i (f ∷ fields) (v ∷ parts) = printed_as i f.0 f.1 v ++ printed (suc i) fields parts

  -- ---- their text

  text_listed : (i : ℕ) (f : Field) (keys : Ty) (w r : ℕ) (cs : List (ℕ × Cell)) → keys_of spec f.1 ≡ keys → listed_lines spec f w r cs ≡ text_of spec (printed_listed i f.0 keys w r cs)
  text_listed i f keys w r [] e = refl
  text_listed i f keys w r (c ∷ cs) e = elim (cases_Bool (c.1.v == r)) [
    | inl t ↦ rw t (text_listed i f keys w r cs e)
    | inr t ↦ rw (t, e) (ap (λ (l : List ℕ). cell_line (f.0 ++ key_part spec keys (At c.0)) w c.1.v ++ l) (text_listed i f keys w r cs e))
  ]

  text_rest : (i : ℕ) (f : Field) (d : MapType) (v : ℕ) → rest_line spec f d v ≡ text_of spec (printed_rest i f.0 d.key d.width d.default v)
  text_rest i f d v = elim (cases_Bool (v == d.default)) [
    | inl t ↦ rw t refl
    | inr t ↦ rw t (sym (append-nil (cell_line (f.0 ++ key_part spec d.key Rest) d.width v)))
  ]

  text_map : (i : ℕ) (f : Field) (o : Option MapType) (r : Cell) (cs : List (ℕ × Cell)) → ((d : MapType) → o ≡ Some d → keys_of spec f.1 ≡ d.key) → map_lines spec f o r cs ≡ text_of spec (printed_map i f.0 o r cs)
  text_map i f None r cs e = refl
  text_map i f (Some d) r cs e =
      rw (text_of-append spec (printed_rest i f.0 d.key d.width d.default r.v) (printed_listed i f.0 d.key d.width r.v cs), text_rest i f d r.v, text_listed i f d.key d.width r.v cs (e d refl)) refl

  text_as : (i : ℕ) (f : Field) (ty : Ty) (v : Val) → f.1 ≡ ty → lines_as spec f ty v ≡ text_of spec (printed_as i f.0 ty v)
  text_as i f (Word w) (word u v) e = sym (append-nil (cell_line (f.0 ++ []) w v))
  text_as i f (Word w) (flag b) e = refl
  text_as i f (Word w) (made t k vs) e = refl
  text_as i f (Word w) (map_of n r cs) e = refl
  text_as i f (MapOf m) (map_of n r cs) e = text_map i f (slice_get spec.maps m) r cs (λ d is. rw (e, is) refl)
  text_as i f (MapOf m) (flag b) e = refl
  text_as i f (MapOf m) (word u v) e = refl
  text_as i f (MapOf m) (made t k vs) e = refl
  text_as i f Flag v e = refl
  text_as i f (DataTy t) v e = refl

  pub text_is : (i : ℕ) (fields : List Field) (parts : List Val) → field_lines spec fields parts ≡ text_of spec (printed i fields parts)
  text_is i [] parts = refl
  text_is i (f ∷ fields) [] = refl
  text_is i (f ∷ fields) (v ∷ parts) = rw (text_of-append spec (printed_as i f.0 f.1 v) (printed (suc i) fields parts), text_as i f f.1 v refl, text_is (suc i) fields parts) refl

-- ---- reading one

-- the part that a key is written as
abbrev pub part_at : Spec → Ty → KeyAt → CellSuffix
part_at spec ty Whole = whole
part_at spec ty Rest = rest
part_at spec ty (At k) = at (key_text spec ty k)

part_is : (spec : Spec) (ty : Ty) (key : KeyAt) → key_part spec ty key ≡ part_text (part_at spec ty key)
part_is spec ty Whole = refl
part_is spec ty Rest = refl
part_is spec ty (At k) = refl

part_plain : (spec : Spec) (ty : Ty) (key : KeyAt) → IsOnePart (part_at spec ty key) → AllPlain (key_part spec ty key)
part_plain spec ty Whole one = tt
part_plain spec ty Rest one = (refl, refl, (refl, refl, (refl, refl, tt)))
part_plain spec ty (At k) one = (refl, refl, AllPlain-append (key_text spec ty k) (93 ∷ []) (word_plain (key_text spec ty k) (key_word (key_text spec ty k) one)) (refl, refl, tt))

-- a cell whose line gives its number
pub record IsReadable (spec : Spec) (p : Printed) : Type 0 where
  pub named : is_name p.name ≡ true
  pub part : IsOnePart (part_at spec p.keys p.key)
  pub some : 1 ≤ p.width
  pub narrow : p.width ≤ 64
  pub small : p.value < 2 ^ p.width
  pub says : single_says spec (place_of spec p.name) (part_at spec p.keys p.key) (One p.value) ≡ cells p.field ((p.key, One p.value) ∷ [])

module _ (spec : Spec) where
  abbrev pub AllReadable : List Printed → Type 0
  AllReadable [] = Unit {0}
  AllReadable (p ∷ ps) = IsReadable spec p × AllReadable ps

  pub AllReadable-append : (ps qs : List Printed) → AllReadable ps → AllReadable qs → AllReadable (ps ++ qs)
  AllReadable-append [] qs a b = b
  AllReadable-append (p ∷ ps) qs a b = (a.0, AllReadable-append ps qs a.1 b)

-- a line without its end
abbrev pub line_of : List ℕ → ℕ → ℕ → List ℕ
line_of cell w v = cell ++ 32 ∷ hex_digits (digits_of w) v

pub line_splits : (cell : List ℕ) (w v : ℕ) (more : List ℕ) → cell_line cell w v ++ more ≡ line_of cell w v ++ 10 ∷ more
line_splits cell w v more =
    append_assoc cell (32 ∷ (hex_digits (digits_of w) v ++ (10 ∷ []))) more
    ∙ ap (λ (l : List ℕ). cell ++ 32 ∷ l) (append_assoc (hex_digits (digits_of w) v) (10 ∷ []) more)
    ∙ sym (append_assoc cell (32 ∷ hex_digits (digits_of w) v) (10 ∷ more))

-- a line that begins with a name is not passed over
not_passed : (spec : Spec) (line : List ℕ) → begins_name line ≡ true → said spec line ≡ form_says spec (form line)
not_passed spec [] p = absurd (let bad : false ≡ true = p in cc)
not_passed spec (b ∷ line) p = rw (apart (λ c. begins_name (c ∷ line)) b 35 p refl) refl

-- what a line of a cell says
pub line_says : (spec : Spec) (name : List ℕ) (part : CellSuffix) (w v : ℕ) → is_name name ≡ true → IsOnePart part → 1 ≤ w → w ≤ 64 → v < 2 ^ w
    → said spec (line_of (name ++ part_text part) w v) ≡ single_says spec (place_of spec name) part (One v)
line_says spec name part w v named one some narrow small =
    let value = hex_digits (digits_of w) v in
    let is : line_of (name ++ part_text part) w v ≡ name ++ (part_text part ++ (32 ∷ value)) = append_assoc name (part_text part) (32 ∷ value) in
    let begins = begins_more name (part_text part ++ (32 ∷ value)) (name_parts name named).begins in
    let read : form (name ++ (part_text part ++ (32 ∷ value))) ≡ Some (single name part (One v)) =
    computed (name ++ (part_text part ++ (32 ∷ value))) (single name part (One v)) (value, (0, refl), named, one, number_read 16 w v some (omega (arith, narrow)) small) in
    rw is (not_passed spec (name ++ (part_text part ++ (32 ∷ value))) begins ∙ rw read refl)

printed_says : (spec : Spec) (p : Printed) → IsReadable spec p → said spec (line_of (cell_name spec p) p.width p.value) ≡ cells p.field ((p.key, One p.value) ∷ [])
printed_says spec p r = rw (part_is spec p.keys p.key) (line_says spec p.name (part_at spec p.keys p.key) p.width p.value r.named r.part r.some r.narrow r.small ∙ r.says)

pub line_plain : (cell : List ℕ) (w v : ℕ) → AllPlain cell → AllPlain (line_of cell w v)
line_plain cell w v p = AllPlain-append cell (32 ∷ hex_digits (digits_of w) v) p (refl, refl, word_plain (hex_digits (digits_of w) v) (hex_word (digits_of w) v))

printed_plain : (spec : Spec) (p : Printed) → IsReadable spec p → AllPlain (line_of (cell_name spec p) p.width p.value)
printed_plain spec p r =
    line_plain (cell_name spec p) p.width p.value (AllPlain-append p.name (key_part spec p.keys p.key) (word_plain p.name (name_parts p.name r.named).word) (part_plain spec p.keys p.key r.part))

-- ---- none is given twice

-- parts of a field in their order
abbrev pub rank : KeyAt → ℕ
rank Whole = 0
rank Rest = 0
rank (At k) = suc k

-- a part of a field that is not before another
abbrev pub IsFrom : ℕ → ℕ → ℕ → KeyAt → Type 0
IsFrom f r g key = (f < g) ⊎ ((f ≡ g) × (r ≤ rank key))

abbrev pub Ascends : ℕ → ℕ → List Printed → Type 0
Ascends f r [] = Unit {0}
Ascends f r (p ∷ ps) = IsFrom f r p.field p.key × Ascends p.field (suc (rank p.key)) ps

abbrev pub IsFresh : ℕ → ℕ → List Line → Type 0
IsFresh f r ls = (g : ℕ) (key : KeyAt) → IsFrom f r g key → is_given ls g key ≡ false

behind : (f r g s : ℕ) (key j : KeyAt) (h : ℕ) → IsFrom f r g key → IsFrom g (suc (rank key)) h j → IsFrom f r h j
behind f r g s key j h (inl a) (inl b) = inl (omega (arith, a, b))
behind f r g s key j h (inl a) (inr b) = inl (omega (arith, a, b.0))
behind f r g s key j h (inr a) (inl b) = inl (omega (arith, a.0, b))
behind f r g s key j h (inr a) (inr b) = inr (omega (arith, a.0, b.0), omega (arith, a.1, b.1))

other_rank : (key j : KeyAt) → suc (rank key) ≤ rank j → same_key key j ≡ false
other_rank Whole Whole h = absurd (omega (arith, h))
other_rank Whole Rest h = refl
other_rank Whole (At k) h = refl
other_rank Rest Whole h = refl
other_rank Rest Rest h = absurd (omega (arith, h))
other_rank Rest (At k) h = refl
other_rank (At k) Whole h = refl
other_rank (At k) Rest h = refl
other_rank (At k) (At j) h = grind (arith, nat_tests, h)

other_cell : (g h : ℕ) (key j : KeyAt) → IsFrom g (suc (rank key)) h j → (g == h && same_key key j) ≡ false
other_cell g h key j (inl a) = let e : (g == h) ≡ false = grind (arith, nat_tests, a) in rw e refl
other_cell g h key j (inr a) = rw (other_rank key j a.1) (and_false (g == h))

fresh_more : (ls : List Line) (l : Line) (f r : ℕ) → IsFresh f r ls → IsFrom f r l.field l.key → IsFresh l.field (suc (rank l.key)) (ls ++ l ∷ [])
fresh_more ls l f r fresh is h j later =
    rw (given_more ls l h j, fresh h j (behind f r l.field 0 l.key j h is later)) (other_cell l.field h l.key j later)

-- ---- reading them

-- the lines of cells, from number n on
abbrev pub lines_from : ℕ → List Printed → List Line
lines_from n [] = []
lines_from n (p ∷ ps) = record { field = p.field; key = p.key; given = One p.value; line = n } ∷ lines_from (n + 1) ps

pub read_on : (spec : Spec) (ps : List Printed) (n f r : ℕ) (found : GivenCells) → AllReadable spec ps → Ascends f r ps → IsFresh f r found.lines
    → read_from spec n found (lines (text_of spec ps)) ≡ entry_found (record { counter = found.counter; lines = found.lines ++ lines_from n ps })
read_on spec [] n f r found readable ascends fresh = rw (append-nil found.lines) refl
read_on spec (p ∷ ps) n f r found readable ascends fresh =
    let l : Line = record { field = p.field; key = p.key; given = One p.value; line = n } in
    let splits = line_splits (cell_name spec p) p.width p.value (text_of spec ps) in
    let first = line_first (line_of (cell_name spec p) p.width p.value) (text_of spec ps) (printed_plain spec p readable.0) in
    let on : GivenCells = record { counter = found.counter; lines = found.lines ++ l ∷ [] } in
    let more = read_on spec ps (n + 1) p.field (suc (rank p.key)) on readable.1 ascends.1 (fresh_more found.lines l f r fresh ascends.0) in
    rw (splits, first, printed_says spec p readable.0, fresh p.field p.key ascends.0) (more ∙ ap (λ (ls : List Line). entry_found (record { counter = found.counter; lines = ls })) (append_assoc found.lines (l ∷ []) (lines_from (n + 1) ps)))
