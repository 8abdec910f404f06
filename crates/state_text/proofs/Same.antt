-- The one state of the lines that the text of a state gives.
use Rattle.std.proofs.Common.{◌≡◌, if◌then◌else◌, ◌+◌, ◌<◌, ◌≤◌, ◌^◌, ◌==◌, ℕ, suc, true, false, List, [], ◌∷◌, ◌++◌, length, map, Option, Some, None, refl, sym, subst, ap, ◌∙◌, inl, inr, arith, nat_lt, nat_le, slice_get, append_assoc}
use Rattle.std.proofs.lemmas.Bool.{and_parts, cases_Bool, eqb-true as is_number}
use Rattle.std.proofs.lemmas.Bool.Decides.{nat_tests}
use Rattle.spec_ir.specs.declared.ty.Ty.{Ty}
use Rattle.spec_ir.specs.declared.ty.Ty.TheVariants.{Bool as Flag, Word, Data as DataTy, Map as MapOf}
use Rattle.spec_ir.specs.declared.declared.MapType.{MapType}
use Rattle.spec_ir.specs.Environment.{Environment}
use Rattle.spec_ir.specs.Specification.{Spec}
use Rattle.semantics_values.specs.declared.entry.GivenNumber.TheVariants.{One}
use Rattle.semantics_values.specs.declared.entry.KeyAt.{KeyAt}
use Rattle.semantics_values.specs.declared.entry.KeyAt.TheVariants.{Whole, Rest}
use Rattle.semantics_values.specs.declared.entry.Line.{Line}
use Rattle.semantics_values.specs.declared.value.Cell.{Cell}
use Rattle.semantics_values.specs.Types.{environment_of, has_type, have_types, key_count, keys_ascend, map_fits}
use Rattle.semantics_values.specs.Values.{Val, cell_at, flag, word, made, map as map_of, put_cell, vals}
use Rattle.semantics.specs.Entries.{entry_cell, entry_field, entry_fields, entry_map, given_at, named_cells}
use Rattle.state_cell_text.specs.Places.{Field}
use Rattle.state_text.specs.Laws.{AreCellTypes, IsCellType, SameValue, SameValues}
use Rattle.state_text.specs.OneState.{first_open}
use Rattle.state_text.proofs.Cells.{map_parts}
use Rattle.state_text.proofs.Printed.{Printed, lines_from, printed, printed_as, printed_listed, printed_map, printed_rest}
use Rattle.spec_match_compiler.proofs.Truth.{equal_itself as same_number}

-- ---- lines of other fields

abbrev NoField : ℕ → List Line → Type 0
NoField i [] = Unit {0}
NoField i (l ∷ ls) = ((l.field == i) ≡ false) × NoField i ls

given_skip : (i : ℕ) (key : KeyAt) (xs ys : List Line) → NoField i xs → given_at (xs ++ ys) i key ≡ given_at ys i key
given_skip i key [] ys h = refl
given_skip i key (x ∷ xs) ys h = rw h.0 (given_skip i key xs ys h.1)

given_none : (i : ℕ) (key : KeyAt) (ys : List Line) → NoField i ys → given_at ys i key ≡ None
given_none i key [] h = refl
given_none i key (y ∷ ys) h = rw h.0 (given_none i key ys h.1)

given_end : (i : ℕ) (key : KeyAt) (xs ys : List Line) → NoField i ys → given_at (xs ++ ys) i key ≡ given_at xs i key
given_end i key [] ys h = given_none i key ys h
given_end i key (x ∷ xs) ys h = rw (given_end i key xs ys h) refl

named_skip : (i : ℕ) (xs ys : List Line) → NoField i xs → named_cells (xs ++ ys) i ≡ named_cells ys i
named_skip i [] ys h = refl
named_skip i (x ∷ xs) ys h = rw h.0 (named_skip i xs ys h.1)

named_none : (i : ℕ) (ys : List Line) → NoField i ys → named_cells ys i ≡ []
named_none i [] h = refl
named_none i (y ∷ ys) h = rw h.0 (named_none i ys h.1)

named_end : (i : ℕ) (xs ys : List Line) → NoField i ys → named_cells (xs ++ ys) i ≡ named_cells xs i
named_end i [] ys h = named_none i ys h
named_end i (x ∷ xs) ys h = rw (named_end i xs ys h) refl

NoField-append : (i : ℕ) (xs ys : List Line) → NoField i xs → NoField i ys → NoField i (xs ++ ys)
NoField-append i [] ys p q = q
NoField-append i (x ∷ xs) ys p q = (p.0, NoField-append i xs ys p.1 q)

-- a field by its own lines
field_is : (env : Environment) (xs mine ys : List Line) (i : ℕ) (ty : Ty) → NoField i xs → NoField i ys → entry_field env (xs ++ (mine ++ ys)) i ty ≡ entry_field env mine i ty
field_is env xs mine ys i (Word w) p q = rw (given_skip i Whole xs (mine ++ ys) p, given_end i Whole mine ys q) refl
field_is env xs mine ys i (MapOf m) p q = go (slice_get env.maps m) where
  go : (o : Option MapType) → entry_map env (xs ++ (mine ++ ys)) i m o ≡ entry_map env mine i m o
  go None = refl
  go (Some d) = rw (given_skip i Rest xs (mine ++ ys) p, given_end i Rest mine ys q, named_skip i xs (mine ++ ys) p, named_end i mine ys q) refl
field_is env xs mine ys i Flag p q = refl
field_is env xs mine ys i (DataTy t) p q = refl

-- ---- the cells of a map that differ from the rest

abbrev differing : ℕ → List (ℕ × Cell) → List (ℕ × Cell)
differing r [] = []
differing r (c ∷ cs) = if c.1.v == r then differing r cs else ((c.0, entry_cell c.1.v) ∷ differing r cs)

abbrev IsAbove : ℕ → List (ℕ × Cell) → Type 0
IsAbove least [] = Unit {0}
IsAbove least (c ∷ cs) = (least ≤ c.0) × IsAbove (suc c.0) cs

above_less : (least low : ℕ) (cs : List (ℕ × Cell)) → low ≤ least → IsAbove least cs → IsAbove low cs
above_less least low [] le h = tt
above_less least low (c ∷ cs) le h = (omega (arith, le, h.0), h.1)

differing_above : (r least : ℕ) (cs : List (ℕ × Cell)) → keys_ascend least cs ≡ true → IsAbove least (differing r cs)
differing_above r least [] h = tt
differing_above r least (c ∷ cs) h =
    let both = and_parts (nat_le least c.0) (keys_ascend (suc c.0) cs) h in
    let here : least ≤ c.0 = grind (arith, nat_tests, both.0) in
    let more = differing_above r (suc c.0) cs both.1 in
    elim (cases_Bool (c.1.v == r)) [
      | inl e ↦ rw e (above_less (suc c.0) least (differing r cs) (omega (arith, here)) more)
      | inr e ↦ rw e (here, more)
    ]

put_front : (k : ℕ) (x : Cell) (cs : List (ℕ × Cell)) → IsAbove (suc k) cs → put_cell k x cs ≡ (k, x) ∷ cs
put_front k x [] h = refl
put_front k x (c ∷ cs) h =
    let ne : (c.0 == k) ≡ false = grind (arith, nat_tests, h.0) in
    let lt : nat_lt k c.0 ≡ true = grind (arith, nat_tests, h.0) in
    rw (ne, lt) refl

not_listed : (x : Cell) (k least : ℕ) (cs : List (ℕ × Cell)) → k < least → IsAbove least cs → cell_at x cs k ≡ x
not_listed x k least [] lt h = refl
not_listed x k least (c ∷ cs) lt h =
    let ne : (c.0 == k) ≡ false = grind (arith, nat_tests, h.0, lt) in
    rw ne (not_listed x k (suc c.0) cs (omega (arith, lt, h.0)) h.1)

-- at every key the same number
same_cells : (x : Cell) (least k : ℕ) (cs : List (ℕ × Cell)) → keys_ascend least cs ≡ true → (cell_at x cs k).v ≡ (cell_at (entry_cell x.v) (differing x.v cs) k).v
same_cells x least k [] h = refl
same_cells x least k (c ∷ cs) h =
    let both = and_parts (nat_le least c.0) (keys_ascend (suc c.0) cs) h in
    let more = same_cells x (suc c.0) k cs both.1 in
    let above = differing_above x.v (suc c.0) cs both.1 in
    elim (cases_Bool (c.0 == k)) [
      | inl e ↦ elim (cases_Bool (c.1.v == x.v)) [
        | inl f ↦
            let at : k < suc c.0 = (let same = is_number c.0 k e in omega (arith, same)) in
            rw (e, f, not_listed (entry_cell x.v) k (suc c.0) (differing x.v cs) at above) (is_number c.1.v x.v f)
        | inr f ↦ rw (e, f, e) refl
      ]
      | inr e ↦ elim (cases_Bool (c.1.v == x.v)) [
        | inl f ↦ rw (e, f) more
        | inr f ↦ rw (e, f, e) more
      ]
    ]

-- ---- the lines of a map

module _ (i : ℕ) (name : List ℕ) where
  named_listed : (n : ℕ) (keys : Ty) (w r least : ℕ) (cs : List (ℕ × Cell)) → keys_ascend least cs ≡ true → named_cells (lines_from n (printed_listed i name keys w r cs)) i ≡ differing r cs
  named_listed n keys w r least [] h = refl
  named_listed n keys w r least (c ∷ cs) h =
      let both = and_parts (nat_le least c.0) (keys_ascend (suc c.0) cs) h in
      elim (cases_Bool (c.1.v == r)) [
        | inl e ↦ rw e (named_listed n keys w r (suc c.0) cs both.1)
        | inr e ↦ rw (e, same_number i, named_listed (n + 1) keys w r (suc c.0) cs both.1) (put_front c.0 (entry_cell c.1.v) (differing r cs) (differing_above r (suc c.0) cs both.1))
      ]

  no_rest : (n : ℕ) (keys : Ty) (w r : ℕ) (cs : List (ℕ × Cell)) → given_at (lines_from n (printed_listed i name keys w r cs)) i Rest ≡ None
  no_rest n keys w r [] = refl
  no_rest n keys w r (c ∷ cs) = elim (cases_Bool (c.1.v == r)) [
    | inl e ↦ rw e (no_rest n keys w r cs)
    | inr e ↦ rw (e, same_number i) (no_rest (n + 1) keys w r cs)
  ]

  same_some : (env : Environment) (m n : ℕ) (d : MapType) (x : Cell) (cs : List (ℕ × Cell)) → keys_ascend 0 cs ≡ true
      → SameValue (map_of m x cs) (entry_map env (lines_from n (printed_rest i name d.key d.width d.default x.v ++ printed_listed i name d.key d.width x.v cs)) i m (Some d))
  same_some env m n d x cs h = elim (cases_Bool (x.v == d.default)) [
    | inl e ↦
        let same = is_number x.v d.default e in
        rw (e, no_rest n d.key d.width x.v cs, named_listed n d.key d.width x.v 0 cs h) (refl, same, λ k. rw (← same) (same_cells x 0 k cs h))
    | inr e ↦ rw (e, same_number i, named_listed (n + 1) d.key d.width x.v 0 cs h) (refl, refl, λ k. same_cells x 0 k cs h)
  ]

  same_map : (spec : Spec) (m n : ℕ) (o : Option MapType) (x : Cell) (cs : List (ℕ × Cell)) → map_fits (environment_of spec) o x cs ≡ true
      → SameValue (map_of m x cs) (entry_map (environment_of spec) (lines_from n (printed_map i name o x cs)) i m o)
  same_map spec m n None x cs fits = absurd (let bad : false ≡ true = fits in cc)
  same_map spec m n (Some d) x cs fits = same_some (environment_of spec) m n d x cs (map_parts d (key_count (environment_of spec) d.key) x cs fits).1

  same_as : (spec : Spec) (n : ℕ) (ty : Ty) (v : Val) → IsCellType spec ty → has_type (environment_of spec) v ty ≡ true → SameValue v (entry_field (environment_of spec) (lines_from n (printed_as spec i name ty v)) i ty)
  same_as spec n (Word w) (word u v) is typed = rw (same_number i) (is_number u w (and_parts (u == w) (nat_lt v (2 ^ w)) typed).0, refl)
  same_as spec n (MapOf m) (map_of k x cs) is typed =
      let both = and_parts (k == m) (map_fits (environment_of spec) (slice_get spec.maps m) x cs) typed in
      let found = same_map spec m n (slice_get spec.maps m) x cs both.1 in
      rw (is_number k m both.0) found
  same_as spec n (Word w) (flag b) is typed = absurd (let bad : false ≡ true = typed in cc)
  same_as spec n (Word w) (made t k vs) is typed = absurd (let bad : false ≡ true = typed in cc)
  same_as spec n (Word w) (map_of k x cs) is typed = absurd (let bad : false ≡ true = typed in cc)
  same_as spec n (MapOf m) (flag b) is typed = absurd (let bad : false ≡ true = typed in cc)
  same_as spec n (MapOf m) (word u v) is typed = absurd (let bad : false ≡ true = typed in cc)
  same_as spec n (MapOf m) (made t k vs) is typed = absurd (let bad : false ≡ true = typed in cc)
  same_as spec n Flag v is typed = absurd is
  same_as spec n (DataTy t) v is typed = absurd is

-- ---- the fields

abbrev AllBelow : ℕ → List Line → Type 0
AllBelow i [] = Unit {0}
AllBelow i (l ∷ ls) = (l.field < i) × AllBelow i ls

below_no : (i : ℕ) (ls : List Line) → AllBelow i ls → NoField i ls
below_no i [] h = tt
below_no i (l ∷ ls) h = (grind (arith, nat_tests, h.0), below_no i ls h.1)

below_more : (i : ℕ) (ls : List Line) → AllBelow i ls → AllBelow (suc i) ls
below_more i [] h = tt
below_more i (l ∷ ls) h = (omega (arith, h.0), below_more i ls h.1)

AllBelow-append : (i : ℕ) (xs ys : List Line) → AllBelow i xs → AllBelow i ys → AllBelow i (xs ++ ys)
AllBelow-append i [] ys p q = q
AllBelow-append i (x ∷ xs) ys p q = (p.0, AllBelow-append i xs ys p.1 q)

-- each of printed cells is of field i
abbrev AllOf : ℕ → List Printed → Type 0
AllOf i [] = Unit {0}
AllOf i (p ∷ ps) = (p.field ≡ i) × AllOf i ps

AllOf-append : (i : ℕ) (ps qs : List Printed) → AllOf i ps → AllOf i qs → AllOf i (ps ++ qs)
AllOf-append i [] qs a b = b
AllOf-append i (p ∷ ps) qs a b = (a.0, AllOf-append i ps qs a.1 b)

of_listed : (i : ℕ) (name : List ℕ) (keys : Ty) (w r : ℕ) (cs : List (ℕ × Cell)) → AllOf i (printed_listed i name keys w r cs)
of_listed i name keys w r [] = tt
of_listed i name keys w r (c ∷ cs) = elim (cases_Bool (c.1.v == r)) [
  | inl e ↦ rw e (of_listed i name keys w r cs)
  | inr e ↦ rw e (refl, of_listed i name keys w r cs)
]

of_rest : (i : ℕ) (name : List ℕ) (keys : Ty) (w d v : ℕ) → AllOf i (printed_rest i name keys w d v)
of_rest i name keys w d v = elim (cases_Bool (v == d)) [ inl e ↦ rw e tt | inr e ↦ rw e (refl, tt) ]

of_map : (i : ℕ) (name : List ℕ) (o : Option MapType) (x : Cell) (cs : List (ℕ × Cell)) → AllOf i (printed_map i name o x cs)
of_map i name None x cs = tt
of_map i name (Some d) x cs = AllOf-append i (printed_rest i name d.key d.width d.default x.v) (printed_listed i name d.key d.width x.v cs) (of_rest i name d.key d.width d.default x.v) (of_listed i name d.key d.width x.v cs)

of_as : (spec : Spec) (i : ℕ) (name : List ℕ) (ty : Ty) (v : Val) → AllOf i (printed_as spec i name ty v)
of_as spec i name (Word w) (word u v) = (refl, tt)
of_as spec i name (Word w) (flag b) = tt
of_as spec i name (Word w) (made t k vs) = tt
of_as spec i name (Word w) (map_of k x cs) = tt
of_as spec i name (MapOf m) (map_of k x cs) = of_map i name (slice_get spec.maps m) x cs
of_as spec i name (MapOf m) (flag b) = tt
of_as spec i name (MapOf m) (word u v) = tt
of_as spec i name (MapOf m) (made t k vs) = tt
of_as spec i name Flag v = tt
of_as spec i name (DataTy t) v = tt

of_below : (i n : ℕ) (ps : List Printed) → AllOf i ps → AllBelow (suc i) (lines_from n ps)
of_below i n [] h = tt
of_below i n (p ∷ ps) h = (let e = h.0 in omega (arith, e), of_below i (n + 1) ps h.1)

of_other : (i j n : ℕ) (ps : List Printed) → j < i → AllOf i ps → NoField j (lines_from n ps)
of_other i j n [] lt h = tt
of_other i j n (p ∷ ps) lt h = (let e = h.0 in grind (arith, nat_tests, e, lt), of_other i j (n + 1) ps lt h.1)

lines_from-append : (n : ℕ) (ps qs : List Printed) → lines_from n (ps ++ qs) ≡ lines_from n ps ++ lines_from (n + length ps) qs
lines_from-append n [] qs = ap (λ k. lines_from k qs) (omega arith)
lines_from-append n (p ∷ ps) qs =
    let l : Line = record { field = p.field; key = p.key; given = One p.value; line = n } in
    let e : n + 1 + length ps ≡ n + suc (length ps) = omega arith in
    ap (λ (ls : List Line). l ∷ ls) (lines_from-append (n + 1) ps qs ∙ ap (λ k. lines_from (n + 1) ps ++ lines_from k qs) e)

later_other : (spec : Spec) (i j n : ℕ) (fields : List Field) (parts : List Val) → j < i → NoField j (lines_from n (printed spec i fields parts))
later_other spec i j n [] parts lt = tt
later_other spec i j n (f ∷ fields) [] lt = tt
later_other spec i j n (f ∷ fields) (v ∷ parts) lt =
    rw (lines_from-append n (printed_as spec i f.0 f.1 v) (printed spec (suc i) fields parts))
    (NoField-append j (lines_from n (printed_as spec i f.0 f.1 v)) (lines_from (n + length (printed_as spec i f.0 f.1 v)) (printed spec (suc i) fields parts))
    (of_other i j n (printed_as spec i f.0 f.1 v) lt (of_as spec i f.0 f.1 v))
    (later_other spec (suc i) j (n + length (printed_as spec i f.0 f.1 v)) fields parts (omega (arith, lt))))

pub same_fields : (spec : Spec) (before : List Line) (i n : ℕ) (fields : List Field) (parts : List Val) → AllBelow i before → AreCellTypes spec (map (λ f. f.1) fields)
    → have_types (environment_of spec) (vals parts) (map (λ f. f.1) fields) ≡ true
    → SameValues parts (entry_fields (environment_of spec) (before ++ lines_from n (printed spec i fields parts)) i (map (λ f. f.1) fields))
same_fields spec before i n [] [] below types typed = tt
same_fields spec before i n [] (v ∷ parts) below types typed = absurd (let bad : false ≡ true = typed in cc)
same_fields spec before i n (f ∷ fields) [] below types typed = absurd (let bad : false ≡ true = typed in cc)
same_fields spec before i n (f ∷ fields) (v ∷ parts) below types typed =
    let values = and_parts (has_type (environment_of spec) v f.1) (have_types (environment_of spec) (vals parts) (map (λ g. g.1) fields)) typed in
    let ps = printed_as spec i f.0 f.1 v in
    let mine = lines_from n ps in
    let later = lines_from (n + length ps) (printed spec (suc i) fields parts) in
    let here = field_is (environment_of spec) before mine later i f.1 (below_no i before below) (later_other spec (suc i) i (n + length ps) fields parts (omega arith)) in
    let so_far = AllBelow-append (suc i) before mine (below_more i before below) (of_below i n ps (of_as spec i f.0 f.1 v)) in
    let more = same_fields spec (before ++ mine) (suc i) (n + length ps) fields parts so_far types.1 values.1 in
    subst (λ (ls : List Line). SameValues (v ∷ parts) (entry_fields (environment_of spec) (before ++ ls) i (map (λ g. g.1) (f ∷ fields)))) (sym (lines_from-append n ps (printed spec (suc i) fields parts)))
    (rw here (same_as i f.0 spec n f.1 v types.0 values.0), rw (append_assoc before mine later) at more)

-- each line gives one number
pub none_open : (n : ℕ) (ps : List Printed) → first_open (lines_from n ps) ≡ None
none_open n [] = refl
none_open n (p ∷ ps) = none_open (n + 1) ps
