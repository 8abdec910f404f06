-- States that are the same have one text.
use Rattle.std.proofs.Common.{◌≡◌, ℕ, suc, ◌<◌, ◌≤◌, Bool, true, false, Option, Some, None, List, [], ◌∷◌, ◌++◌, slice_get, refl, sym, ap, ap₂, subst, ◌∙◌, arith}
use Rattle.std.specs.Prelude.{◌==◌, if◌then◌else◌, nat_le, nat_lt}
use Rattle.std.proofs.lemmas.Bool.{ltb-true}
use Rattle.std.proofs.lemmas.Bool.Decides.{nat_tests}
use Rattle.base_trait.proofs.Tests.{and_both, and_parts}
use Rattle.spec_ir.specs.declared.ty.Ty.{Ty}
use Rattle.spec_ir.specs.declared.ty.Ty.TheVariants.{Bool as Flag, Word, Data, Map as MapOf}
use Rattle.spec_ir.specs.declared.declared.MapType.{MapType}
use Rattle.spec_ir.specs.Specification.{Spec}
use Rattle.semantics_values.specs.declared.value.Cell.{Cell}
use Rattle.semantics_values.specs.States.{State}
use Rattle.semantics_values.specs.Types.{keys_ascend}
use Rattle.semantics_values.specs.Values.{Val, flag, word, made, map, cell_at, vals}
use Rattle.semantics_values.specs.declared.entry.KeyAt.TheVariants.{Whole, At}
use Rattle.state_cell_text.specs.Keys.{cell_text}
use Rattle.state_cell_text.specs.Places.{Field, state_fields}
use Rattle.state_text.specs.Stops.{stop_line}
use Rattle.state_text.specs.Writing.{all_lines, cell_line, field_lines, lines_as, listed_line, listed_lines, map_lines, rest_line}
use Rattle.concrete_calls.specs.Same.{AllSame, AreSame}
use Rattle.concrete_emulator.specs.Laws.{AllAscend, IsSameState, KeysAscend, SameTexts}

-- ---- cells at keys
cell_here : (rest : Cell) (c : ℕ × Cell) (cells : List (ℕ × Cell)) → cell_at rest (c ∷ cells) c.0 ≡ c.1
cell_here rest c cells = let same : (c.0 == c.0) ≡ true = grind (arith, nat_tests) in ap (λ b. if b then c.1 else cell_at rest cells c.0) same

cell_behind : (rest : Cell) (c : ℕ × Cell) (cells : List (ℕ × Cell)) (k : ℕ) → c.0 < k → cell_at rest (c ∷ cells) k ≡ cell_at rest cells k
cell_behind rest c cells k h = let other : (c.0 == k) ≡ false = grind (arith, nat_tests) in ap (λ b. if b then c.1 else cell_at rest cells k) other

-- a key before all that are listed has the rest
cell_before : (rest : Cell) (cells : List (ℕ × Cell)) (low k : ℕ) → keys_ascend low cells ≡ true → k < low → cell_at rest cells k ≡ rest
cell_before rest [] low k h lt = refl
cell_before rest (c ∷ cells) low k h lt =
    let parts = and_parts (nat_le low c.0) (keys_ascend (suc c.0) cells) h in
    let from : low ≤ c.0 = grind (arith, nat_tests, parts.0) in
    let other : (c.0 == k) ≡ false = grind (arith, nat_tests) in
    ap (λ b. if b then c.1 else cell_at rest cells k) other ∙ cell_before rest cells (suc c.0) k parts.1 (omega (arith, from, lt))

first_key : (low : ℕ) (c : ℕ × Cell) (cells : List (ℕ × Cell)) → keys_ascend low (c ∷ cells) ≡ true → low ≤ c.0
first_key low c cells h = let test = (and_parts (nat_le low c.0) (keys_ascend (suc c.0) cells) h).0 in grind (arith, nat_tests)

later_keys : (low : ℕ) (c : ℕ × Cell) (cells : List (ℕ × Cell)) → keys_ascend low (c ∷ cells) ≡ true → keys_ascend (suc c.0) cells ≡ true
later_keys low c cells h = (and_parts (nat_le low c.0) (keys_ascend (suc c.0) cells) h).1

from_later : (low later : ℕ) (c : ℕ × Cell) (cells : List (ℕ × Cell)) → keys_ascend low (c ∷ cells) ≡ true → later ≤ c.0 → keys_ascend later (c ∷ cells) ≡ true
from_later low later c cells h le = let test : nat_le later c.0 ≡ true = grind (arith, nat_tests) in and_both (nat_le later c.0) (keys_ascend (suc c.0) cells) test (later_keys low c cells h)

module _ (spec : Spec) (f : Field) (w : ℕ) (rest other : Cell) (same_rest : rest.v ≡ other.v) where
  -- from a key on, the cells have the same numbers
  abbrev Agree : ℕ → List (ℕ × Cell) → List (ℕ × Cell) → Type 0
  Agree low cells listed = (k : ℕ) → low ≤ k → (cell_at rest cells k).v ≡ (cell_at other listed k).v

  abbrev lines : List (ℕ × Cell) → List ℕ
  lines cells = listed_lines spec f w rest.v cells

  abbrev line_at : ℕ → ℕ → List ℕ
  line_at k v = if v == rest.v then [] else cell_line (cell_text spec f (At k)) w v

  -- a cell with the number of the rest has no line
  no_line : (c : ℕ × Cell) → c.1.v ≡ rest.v → listed_line spec f w rest.v c ≡ []
  no_line c e = let same : (c.1.v == rest.v) ≡ true = grind (arith, nat_tests) in ap (λ b. if b then [] else cell_line (cell_text spec f (At c.0)) w c.1.v) same

  passed : (c : ℕ × Cell) (cells : List (ℕ × Cell)) → c.1.v ≡ rest.v → lines (c ∷ cells) ≡ lines cells
  passed c cells e = ap (λ l. l ++ lines cells) (no_line c e)

  number_here : (r : Cell) (c : ℕ × Cell) (cells : List (ℕ × Cell)) → (cell_at r (c ∷ cells) c.0).v ≡ c.1.v
  number_here r c cells = ap (λ x. x.v) (cell_here r c cells)

  number_behind : (r : Cell) (c : ℕ × Cell) (cells : List (ℕ × Cell)) (k : ℕ) → suc c.0 ≤ k → (cell_at r (c ∷ cells) k).v ≡ (cell_at r cells k).v
  number_behind r c cells k h = ap (λ x. x.v) (cell_behind r c cells k (omega (arith, h)))

  -- ---- nothing is listed on the left
  none_left : (low : ℕ) (listed : List (ℕ × Cell)) → keys_ascend low listed ≡ true → Agree low [] listed → lines [] ≡ lines listed
  none_left low [] h agree = refl
  none_left low (d ∷ listed) h agree =
      let from = first_key low d listed h in
      let here : d.1.v ≡ rest.v = sym (agree d.0 from ∙ number_here other d listed) in
      none_left (suc d.0) listed (later_keys low d listed h) (λ k le. agree k (omega (arith, from, le)) ∙ number_behind other d listed k le) ∙ sym (passed d listed here)

  -- ---- a cell is, before others for which it is known
  module _ (c : ℕ × Cell) (cells : List (ℕ × Cell)) (known : (low : ℕ) (listed : List (ℕ × Cell)) → keys_ascend low cells ≡ true → keys_ascend low listed ≡ true → Agree low cells listed → lines cells ≡ lines listed) where
    one_left : (low : ℕ) (listed : List (ℕ × Cell)) → keys_ascend low (c ∷ cells) ≡ true → keys_ascend low listed ≡ true → Agree low (c ∷ cells) listed → lines (c ∷ cells) ≡ lines listed
    one_left low [] h g agree =
        let from = first_key low c cells h in
        let here : c.1.v ≡ rest.v = sym (number_here rest c cells) ∙ agree c.0 from ∙ sym same_rest in
        passed c cells here ∙ known (suc c.0) [] (later_keys low c cells h) refl (λ k le. sym (number_behind rest c cells k le) ∙ agree k (omega (arith, from, le)))
    one_left low (d ∷ listed) h g agree = by (nat_lt c.0 d.0) refl (nat_lt d.0 c.0) refl (λ low h g agree. one_left low listed h g agree)
      where
        by : (b : Bool) → nat_lt c.0 d.0 ≡ b → (e : Bool) → nat_lt d.0 c.0 ≡ e → ((low : ℕ) → keys_ascend low (c ∷ cells) ≡ true → keys_ascend low listed ≡ true → Agree low (c ∷ cells) listed → lines (c ∷ cells) ≡ lines listed) → lines (c ∷ cells) ≡ lines (d ∷ listed)
        by true p e q further =
            let less : c.0 < d.0 = ltb-true c.0 d.0 p in
            let from = first_key low c cells h in
            let absent : (cell_at other (d ∷ listed) c.0).v ≡ other.v = ap (λ x. x.v) (cell_before other (d ∷ listed) d.0 c.0 (from_later low d.0 d listed g (omega arith)) less) in
            let here : c.1.v ≡ rest.v = sym (number_here rest c cells) ∙ agree c.0 from ∙ absent ∙ sym same_rest in
            passed c cells here ∙ known (suc c.0) (d ∷ listed) (later_keys low c cells h) (from_later low (suc c.0) d listed g (omega (arith, less))) (λ k le. sym (number_behind rest c cells k le) ∙ agree k (omega (arith, from, le)))
        by false p true q further =
            let less : d.0 < c.0 = ltb-true d.0 c.0 q in
            let from = first_key low d listed g in
            let absent : (cell_at rest (c ∷ cells) d.0).v ≡ rest.v = ap (λ x. x.v) (cell_before rest (c ∷ cells) c.0 d.0 (from_later low c.0 c cells h (omega arith)) less) in
            let here : d.1.v ≡ rest.v = sym (number_here other d listed) ∙ sym (agree d.0 from) ∙ absent in
            further (suc d.0) (from_later low (suc d.0) c cells h (omega (arith, less))) (later_keys low d listed g) (λ k le. agree k (omega (arith, from, le)) ∙ number_behind other d listed k le) ∙ sym (passed d listed here)
        by false p false q further =
            let one : c.0 ≡ d.0 = grind (arith, nat_tests, p, q) in
            let from = first_key low c cells h in
            let number : c.1.v ≡ d.1.v = sym (number_here rest c cells) ∙ agree c.0 from ∙ ap (λ k. (cell_at other (d ∷ listed) k).v) one ∙ number_here other d listed in
            let more : keys_ascend (suc c.0) listed ≡ true = subst (λ k. keys_ascend (suc k) listed ≡ true) (sym one) (later_keys low d listed g) in
            let later : lines cells ≡ lines listed = known (suc c.0) listed (later_keys low c cells h) more (λ k le. sym (number_behind rest c cells k le) ∙ agree k (omega (arith, from, le)) ∙ number_behind other d listed k (omega (arith, one, le))) in
            let line : listed_line spec f w rest.v c ≡ listed_line spec f w rest.v d = ap₂ line_at one number in
            ap₂ (λ x y. x ++ y) line later

  lines_same : (cells listed : List (ℕ × Cell)) (low : ℕ) → keys_ascend low cells ≡ true → keys_ascend low listed ≡ true → Agree low cells listed → lines cells ≡ lines listed
  lines_same [] listed low h g agree = none_left low listed g agree
  lines_same (c ∷ cells) listed low h g agree = one_left c cells (λ low listed h g agree. lines_same cells listed low h g agree) low listed h g agree

module _ (spec : Spec) where
  maps_same : (f : Field) (o : Option MapType) (rest other : Cell) (cells listed : List (ℕ × Cell)) → keys_ascend 0 cells ≡ true → keys_ascend 0 listed ≡ true → rest.v ≡ other.v → ((k : ℕ) → (cell_at rest cells k).v ≡ (cell_at other listed k).v)
      → map_lines spec f o rest cells ≡ map_lines spec f o other listed
  maps_same f None rest other cells listed h g e agree = refl
  maps_same f (Some d) rest other cells listed h g e agree =
      ap₂ (λ x y. x ++ y) (ap (rest_line spec f d) e) (lines_same spec f d.width rest other e cells listed 0 h g (λ k le. agree k) ∙ ap (λ v. listed_lines spec f d.width v listed) e)

  line_same : (f : Field) (ty : Ty) (p q : Val) → KeysAscend p → KeysAscend q → AreSame p q → lines_as spec f ty p ≡ lines_as spec f ty q
  line_same f (Word w) (word u n) (word v m) h g same = ap (cell_line (cell_text spec f Whole) w) same.1
  line_same f (MapOf m) (word u n) (word v k) h g same = refl
  line_same f Flag (word u n) (word v m) h g same = refl
  line_same f (Data d) (word u n) (word v m) h g same = refl
  line_same f (MapOf k) (map m rest cells) (map n other listed) h g same = maps_same f (slice_get spec.maps k) rest other cells listed h g (ap (λ c. c.v) same.1) (λ k. ap (λ c. c.v) (same.2 k))
  line_same f (Word w) (map m rest cells) (map n other listed) h g same = refl
  line_same f Flag (map m rest cells) (map n other listed) h g same = refl
  line_same f (Data d) (map m rest cells) (map n other listed) h g same = refl
  line_same f (Word w) (flag b) (flag d) h g same = refl
  line_same f (MapOf m) (flag b) (flag d) h g same = refl
  line_same f Flag (flag b) (flag d) h g same = refl
  line_same f (Data k) (flag b) (flag d) h g same = refl
  line_same f (Word w) (made t k ps) (made u j qs) h g same = refl
  line_same f (MapOf m) (made t k ps) (made u j qs) h g same = refl
  line_same f Flag (made t k ps) (made u j qs) h g same = refl
  line_same f (Data d) (made t k ps) (made u j qs) h g same = refl
  line_same f ty (flag b) (word u n) h g same = absurd same
  line_same f ty (flag b) (made t k ps) h g same = absurd same
  line_same f ty (flag b) (map m rest cells) h g same = absurd same
  line_same f ty (made t k ps) (flag b) h g same = absurd same
  line_same f ty (made t k ps) (word u n) h g same = absurd same
  line_same f ty (made t k ps) (map m rest cells) h g same = absurd same
  line_same f ty (word u n) (flag b) h g same = absurd same
  line_same f ty (word u n) (made t k ps) h g same = absurd same
  line_same f ty (word u n) (map m rest cells) h g same = absurd same
  line_same f ty (map m rest cells) (flag b) h g same = absurd same
  line_same f ty (map m rest cells) (made t k ps) h g same = absurd same
  line_same f ty (map m rest cells) (word u n) h g same = absurd same

  fields_same : (fields : List Field) (ps qs : List Val) → AllAscend ps → AllAscend qs → AllSame (vals ps) (vals qs) → field_lines spec fields ps ≡ field_lines spec fields qs
  fields_same [] ps qs h g same = refl
  fields_same (f ∷ fields) [] [] h g same = refl
  fields_same (f ∷ fields) [] (q ∷ qs) h g same = absurd same
  fields_same (f ∷ fields) (p ∷ ps) [] h g same = absurd same
  fields_same (f ∷ fields) (p ∷ ps) (q ∷ qs) h g same = ap₂ (λ x y. x ++ y) (line_same f f.1 p q h.0 g.0 same.0) (fields_same fields ps qs h.1 g.1 same.1)

  states_same : (fields : List Field) (s t : State) → AllAscend s.parts → AllAscend t.parts → IsSameState s t → all_lines spec fields s ≡ all_lines spec fields t
  states_same [] s t h g same = refl
  states_same (f ∷ fields) s t h g same = ap₂ (λ x y. x ++ y) (ap (cell_line f.0 32) same.counter) (fields_same fields s.parts t.parts h g same.parts)

pub same_texts : SameTexts
same_texts spec stop done s t h g same = ap (λ text. stop_line stop done ++ text) (states_same spec (state_fields spec) s t h g same)
