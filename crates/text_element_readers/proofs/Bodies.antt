-- What each domain reads.
use Rattle.std.proofs.Common.{◌≡◌, ℕ, ◌≤◌, Bool, true, IsTrue, List, length, Option, Some, None, Result, Ok, Err, option_map, sym, ap, subst, arith}
use Rattle.std.specs.Prelude.{◌&&◌, not, codes, if◌then◌else◌, IfOk, IfSome, IsOkAnd, OnOk}
use Rattle.base_trait.specs.Algebra.{Algebra}
use Rattle.base_trait.proofs.Tests.{and_parts}
use Rattle.support_modular_rows.specs.Submodule.{Submodule}
use Rattle.spec_ir.specs.Specification.{Spec}
use Rattle.abstract_value_laws.specs.Abs.{Parts}
use Rattle.abstract_value_laws.specs.Fits.{PartsFit}
use Rattle.domain_laws.specs.declared.field.Field.{Field}
use Rattle.domain_laws.specs.States.{StateType, has_states, same_states, state_type}
use Rattle.domain_laws.specs.Values.{FieldsFit}
use Rattle.domain_laws.specs.Calls.{is_for}
use Rattle.domain_laws.proofs.Fields.{states_told}
use Rattle.domain_affine_element_laws.specs.Elements.{SameMembers}
use Rattle.text_words.specs.Readings.{Readings}
use Rattle.text_lines.specs.Lines.{Lines}
use Rattle.text_lines.specs.Outcomes.{Reading, one}
use Rattle.text_lines.proofs.Steps.{one_shorter}
use Rattle.text_part_readers.specs.Cells.{states_read}
use Rattle.text_part_readers.specs.Parts.{part_said}
use Rattle.text_part_readers.specs.Rows.{rows_read}
use Rattle.text_element_readers.specs.Reading.{AffineRead, CellsRead, ElementReading, PairRead, both, no_first, no_second}
use Rattle.text_element_readers.proofs.Shorter.{rows_shorter, states_shorter}

-- whether a line came, and what is left
abbrev pub Came : Bool → List ℕ → Lines → Lines → Type 0
Came found name ls others = (if found then Some tt else None, others) ≡ one (part_said name) ls

came : (found : Bool) (name : List ℕ) (ls others : Lines) → found ≡ true → Came found name ls others → one (part_said name) ls ≡ (Some tt, others)
came found name ls others e h = sym (rw e at h)

came_shorter : (found : Bool) (name : List ℕ) (ls others : Lines) → Came found name ls others → length others ≤ length ls
came_shorter found name ls others h = subst (λ (r : Reading (Unit {0})). length r.1 ≤ length ls) (sym h) (one_shorter (part_said name) ls)

-- ---- cells

module _ {W N : Type 0} (readings : Readings W N) (cap : ℕ) (name : List ℕ) (spec : Spec) (code : ℕ → Bool) where
  pub cells_done : {V E : Type 0} (result : Result (Option V) E) (view : V → Parts W N) (found : Bool) (other : List ℕ) (ls others left : Lines) → found ≡ true → other ≡ name → Came found other ls others
      → IfOk result (λ r. (option_map view r, left) ≡ states_read readings code spec cap others) → IfOk result (λ r. CellsRead readings cap name spec code ls (option_map view r) left)
  cells_done (Err e) view found other ls others left is same part read = tt
  cells_done (Ok r) view found other ls others left is same part read =
      let first : one (part_said name) ls ≡ (Some tt, others) = subst (λ n. one (part_said n) ls ≡ (Some tt, others)) same (came found other ls others is part) in
      rw first read

  pub cells_fewer : {V E : Type 0} (result : Result (Option V) E) (view : V → Parts W N) (found : Bool) (other : List ℕ) (ls others left : Lines) → Came found other ls others
      → IfOk result (λ r. (option_map view r, left) ≡ states_read readings code spec cap others) → OnOk result (length left ≤ length ls)
  cells_fewer (Err e) view found other ls others left part read = tt
  cells_fewer (Ok r) view found other ls others left part read =
      let few : length left ≤ length others = subst (λ (q : Reading (Parts W N)). length q.1 ≤ length others) (sym read) (states_shorter readings code spec cap others) in
      omega (arith, few, came_shorter found other ls others part)

-- the fields are those of the domain
pub fields_same : {W N C : Type 0} (B : Algebra W N C) (t : StateType) (spec : Spec) → IsTrue (is_for B t spec) → (state_type spec).fields ≡ t.fields
fields_same B t spec h =
    let first = and_parts B.joins (not B.words.looks && (has_states spec && same_states t (state_type spec))) h in
    let second = and_parts (not B.words.looks) (has_states spec && same_states t (state_type spec)) first.1 in
    let third = and_parts (has_states spec) (same_states t (state_type spec)) second.1 in
    ap (λ s. s.fields) (sym (states_told t (state_type spec) third.1))

pub cells_fit : {W N C V E : Type 0} (B : Algebra W N C) (c d : C) (cap : ℕ) (fields others : List Field) (result : Result (Option V) E) (view : V → Parts W N) → c ≡ d → fields ≡ others
    → IfOk result (λ r. IfSome r (λ xs. FieldsFit B c cap fields (view xs))) → IfOk result (λ r. IfSome r (λ xs. FieldsFit B d cap others (view xs)))
cells_fit B c d cap fields others result view e f h =
    subst (λ fs. IfOk result (λ r. IfSome r (λ xs. FieldsFit B d cap fs (view xs)))) f (subst (λ ctx. IfOk result (λ r. IfSome r (λ xs. FieldsFit B ctx cap fields (view xs)))) e h)

-- ---- affine relations

pub rows_done : (j k : ℕ) (spec : Spec) (code : ℕ → Bool) (x : Submodule) (found : Bool) (ls others left : Lines) → j ≡ k → found ≡ true → Came found (codes "affine") ls others
    → x.k ≡ j → SameMembers j x.rows (rows_read j others).0 → left ≡ (rows_read j others).1 → AffineRead k spec code ls (Some x) left
rows_done j k spec code x found ls others left e is part cells rows lines =
    subst (λ n. AffineRead n spec code ls (Some x) left) e (rw (came found (codes "affine") ls others is part) ((cells, rows), lines))

pub rows_fewer : (j : ℕ) (found : Bool) (name : List ℕ) (ls others left : Lines) → Came found name ls others → left ≡ (rows_read j others).1 → length left ≤ length ls
rows_fewer j found name ls others left part lines =
    let few : length left ≤ length others = subst (λ (q : Lines). length q ≤ length others) (sym lines) (rows_shorter j others) in
    omega (arith, few, came_shorter found name ls others part)

-- ---- pairs

module _ {A B : Type 0} (First : ElementReading A) (Second : ElementReading B) (spec : Spec) (code : ℕ → Bool) where
  pub pair_done : {E : Type 0} (result : Result (Option (A × B)) E) (second : Result (Option B) E) (x : A) (ls others left : Lines) → First spec code ls (Some x) others → IfOk second (λ y. Second spec code others y left)
      → IfOk result (λ r. IsOkAnd second (λ y. r ≡ option_map (λ b. (x, b)) y)) → IfOk result (λ r. PairRead First Second spec code ls r left)
  pair_done (Err e) second x ls others left first read made = tt
  pair_done (Ok r) (Err e) x ls others left first read made = absurd made
  pair_done (Ok r) (Ok None) x ls others left first read made = subst (λ p. PairRead First Second spec code ls p left) (sym made) (no_second x first read)
  pair_done (Ok r) (Ok (Some y)) x ls others left first read made = subst (λ p. PairRead First Second spec code ls p left) (sym made) (both x y first read)

  pub pair_none : (ls left : Lines) → First spec code ls None left → PairRead First Second spec code ls None left
  pair_none ls left first = no_first first

-- ---- pairs of cells: parts that were read, put together

module _ {E F R Y : Type 0} (view : R → E × F) (see : Y → F) (x : E) where
  abbrev pub Put : {D : Type 0} → Result (Option R) D → Result (Option Y) D → Type 0
  Put result second = IfOk result (λ r. IsOkAnd second (λ y. option_map view r ≡ option_map (λ b. (x, see b)) y))

  pub put_has : {D : Type 0} (P : E × F → Type 0) (result : Result (Option R) D) (second : Result (Option Y) D) → IfOk second (λ y. IfSome y (λ b. P (x, see b))) → Put result second → IfOk result (λ r. IfSome r (λ z. P (view z)))
  put_has P (Err e) second has made = tt
  put_has P (Ok None) second has made = tt
  put_has P (Ok (Some z)) (Err e) has made = absurd made
  put_has P (Ok (Some z)) (Ok None) has made = absurd cc
  put_has P (Ok (Some z)) (Ok (Some y)) has made = let same : view z ≡ (x, see y) = cc in subst P (sym same) has

  module _ (First : ElementReading E) (Second : ElementReading F) (spec : Spec) (code : ℕ → Bool) where
    pub put_done : {D : Type 0} (result : Result (Option R) D) (second : Result (Option Y) D) (ls others left : Lines) → First spec code ls (Some x) others → IfOk second (λ y. Second spec code others (option_map see y) left) → Put result second
        → IfOk result (λ r. PairRead First Second spec code ls (option_map view r) left)
    put_done (Err e) second ls others left first read made = tt
    put_done (Ok r) (Err e) ls others left first read made = absurd made
    put_done (Ok r) (Ok None) ls others left first read made = subst (λ p. PairRead First Second spec code ls p left) (sym made) (no_second x first read)
    put_done (Ok r) (Ok (Some y)) ls others left first read made = subst (λ p. PairRead First Second spec code ls p left) (sym made) (both x (see y) first read)

-- values whose fields fit, and a fact beside what holds of each that was read
pub values_fit : {W N C V E : Type 0} (B : Algebra W N C) (c : C) (cap : ℕ) (fields : List Field) (result : Result (Option V) E) (view : V → Parts W N) → IfOk result (λ r. IfSome r (λ xs. FieldsFit B c cap fields (view xs)))
    → IfOk result (λ r. IfSome r (λ xs. PartsFit B c cap (view xs)))
values_fit B c cap fields (Err e) view h = tt
values_fit B c cap fields (Ok None) view h = tt
values_fit B c cap fields (Ok (Some x)) view h = h.1

pub both_hold : {V E : Type 0} (F : Type 0) (Q : V → Type 0) (result : Result (Option V) E) → F → IfOk result (λ r. IfSome r Q) → IfOk result (λ r. IfSome r (λ x. F × Q x))
both_hold F Q (Err e) f h = tt
both_hold F Q (Ok None) f h = tt
both_hold F Q (Ok (Some x)) f h = (f, h)
