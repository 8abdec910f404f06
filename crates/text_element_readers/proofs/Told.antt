-- What is read is one element, or none.
use Rattle.std.proofs.Common.{◌≡◌, ℕ, ◌≤◌, Bool, List, length, Option, Some, None, refl, sym, ap, subst, ◌∙◌, arith}
use Rattle.base_trait.specs.Algebra.{Algebra}
use Rattle.support_modular_rows.specs.Submodule.{Submodule}
use Rattle.spec_ir.specs.Specification.{Spec}
use Rattle.semantics_values.specs.States.{State}
use Rattle.abstract_value_laws.specs.Abs.{Parts}
use Rattle.fixpoint_theory.specs.Elements.{Elements}
use Rattle.fixpoint_theory.specs.Outcome.{SamePost}
use Rattle.fixpoint_theory.specs.Pairs.{paired}
use Rattle.domain_laws.specs.States.{StateType, state_type}
use Rattle.domain_laws.specs.Cells.{cells}
use Rattle.domain_affine_laws.specs.Calls.{affine_elements, cell_count}
use Rattle.text_words.specs.Readings.{Readings, TextsTell}
use Rattle.text_words.specs.Texts.{Texts}
use Rattle.text_lines.specs.Lines.{Lines}
use Rattle.text_lines.specs.Outcomes.{Reading, one}
use Rattle.text_lines.proofs.Steps.{continued}
use Rattle.text_part_readers.specs.Cells.{states_read}
use Rattle.text_part_readers.specs.Parts.{part_read, part_said}
use Rattle.text_part_readers.proofs.Fitting.{states_fit}
use Rattle.text_element_readers.specs.Reading.{AreRowsRead, ElementReading, PairRead, affine_read, both, no_first, no_second}
use Rattle.text_element_readers.specs.Laws.{CellsAreRead, PairsAreRead, ReadingLaws, RelationsAreRead}
use Rattle.text_element_readers.proofs.Shorter.{affine_shorter, cells_shorter}

-- ---- cells

module _ {W N C : Type 0} (B : Algebra W N C) (c : C) (cap : ℕ) (spec : Spec) where
  same_itself : (r : Option (Parts W N)) → SamePost (cells B c cap (state_type spec).fields) r r
  same_itself None = tt
  same_itself (Some x) = refl

  same_where : (r s : Option (Parts W N)) → r ≡ s → SamePost (cells B c cap (state_type spec).fields) r s
  same_where r s e = subst (λ t. SamePost (cells B c cap (state_type spec).fields) r t) e (same_itself r)

pub cells_are_read : {W N C : Type 0} (B : Algebra W N C) {NoteFits : (ℕ → Bool) → N → Type 0} (texts : Texts W N) (readings : Readings W N) (tell : TextsTell B NoteFits texts readings) (cap : ℕ) → CellsAreRead B readings cap
cells_are_read {W} {N} B texts readings tell cap c name spec is = record {
  one = λ code ls r s left later h k.
      let same : first_of r left ≡ first_of s later = h ∙ sym k in
      (same_where B c cap spec r s (ap (λ q. q.0) same), ap (λ q. q.1) same);
  some_reading = λ code ls. ((what code ls).0, (what code ls).1, refl);
  shorter = λ code ls r left h. subst (λ (q : Reading (Parts W N)). length q.1 ≤ length ls) (sym h) (cells_shorter readings code spec cap name ls);
  fits = λ code ls x left h.
      let read = continued (one (part_said name) ls) (λ named others. states_read readings code spec cap others) x left (sym h) in
      states_fit B c texts readings tell code spec cap read.behind left x is read.gives;
}
  where
    first_of : Option (Parts W N) → Lines → Reading (Parts W N)
    first_of r left = (r, left)

    what : (ℕ → Bool) → Lines → Reading (Parts W N)
    what code ls = part_read name (states_read readings code spec cap) ls

-- ---- affine relations

one_submodule : (t : StateType) (r s : Option Submodule) (rows : Option (List (List ℕ))) → AreRowsRead (cell_count t) r rows → AreRowsRead (cell_count t) s rows → SamePost (affine_elements t) r s
one_submodule t None None rows h k = tt
one_submodule t None (Some y) None h k = absurd k
one_submodule t None (Some y) (Some rows) h k = absurd h
one_submodule t (Some x) None None h k = absurd h
one_submodule t (Some x) None (Some rows) h k = absurd k
one_submodule t (Some x) (Some y) None h k = absurd h
one_submodule t (Some x) (Some y) (Some rows) h k = λ v. ((λ m. (k.1 v).1 ((h.1 v).0 m)), (λ m. (h.1 v).1 ((k.1 v).0 m)))

some_submodule : (k : ℕ) (rows : Option (List (List ℕ))) → (r : Option Submodule) × AreRowsRead k r rows
some_submodule k None = (None, tt)
some_submodule k (Some rows) = (Some (record { k = k; rows = rows }), (refl, λ v. ((λ m. m), (λ m. m))))

of_cells : (k : ℕ) (x : Submodule) (rows : Option (List (List ℕ))) → AreRowsRead k (Some x) rows → x.k ≡ k
of_cells k x None h = absurd h
of_cells k x (Some rows) h = h.0

pub relations_are_read : RelationsAreRead
relations_are_read t spec = record {
  one = λ code ls r s left later h k. (one_submodule t r s (affine_read (cell_count t) ls).0 h.0 k.0, h.1 ∙ sym k.1);
  some_reading = λ code ls. let some = some_submodule (cell_count t) (affine_read (cell_count t) ls).0 in (some.0, (affine_read (cell_count t) ls).1, (some.1, refl));
  shorter = λ code ls r left h. subst (λ (q : Lines). length q ≤ length ls) (sym h.1) (affine_shorter (cell_count t) ls);
  fits = λ code ls x left h. of_cells (cell_count t) x (affine_read (cell_count t) ls).0 h.0;
}

-- ---- pairs

module _ {E F : Type 0} (First : ElementReading E) (Second : ElementReading F) (A : Elements E State) (B : Elements F State) (spec : Spec) (first : ReadingLaws First A spec) (second : ReadingLaws Second B spec) where
  abbrev Pair : ElementReading (E × F)
  Pair = PairRead First Second

  one_second : (code : ℕ → Bool) (mid other : Lines) (r s : Option F) (left later : Lines) → mid ≡ other → Second spec code mid r left → Second spec code other s later → SamePost B r s × (left ≡ later)
  one_second code mid other r s left later e m n = second.one code mid r s left later m (subst (λ ls. Second spec code ls s later) (sym e) n)

  one_pair : (code : ℕ → Bool) (ls : Lines) (r s : Option (E × F)) (left later : Lines) → Pair spec code ls r left → Pair spec code ls s later → SamePost (paired A B) r s × (left ≡ later)
  one_pair code ls r s left later (no_first h) (no_first k) = (tt, (first.one code ls None None left later h k).1)
  one_pair code ls r s left later (no_first h) (no_second {mid = mid} x k n) = absurd (first.one code ls None (Some x) left mid h k).0
  one_pair code ls r s left later (no_first h) (both {mid = mid} x y k n) = absurd (first.one code ls None (Some x) left mid h k).0
  one_pair code ls r s left later (no_second {mid = mid} x h m) (no_first k) = absurd (first.one code ls (Some x) None mid later h k).0
  one_pair code ls r s left later (no_second {mid = mid} x h m) (no_second {mid = other} u k n) =
      (tt, (one_second code mid other None None left later (first.one code ls (Some x) (Some u) mid other h k).1 m n).1)
  one_pair code ls r s left later (no_second {mid = mid} x h m) (both {mid = other} u v k n) =
      absurd (one_second code mid other None (Some v) left later (first.one code ls (Some x) (Some u) mid other h k).1 m n).0
  one_pair code ls r s left later (both {mid = mid} x y h m) (no_first k) = absurd (first.one code ls (Some x) None mid later h k).0
  one_pair code ls r s left later (both {mid = mid} x y h m) (no_second {mid = other} u k n) =
      absurd (one_second code mid other (Some y) None left later (first.one code ls (Some x) (Some u) mid other h k).1 m n).0
  one_pair code ls r s left later (both {mid = mid} x y h m) (both {mid = other} u v k n) =
      let begun = first.one code ls (Some x) (Some u) mid other h k in
      let ended = one_second code mid other (Some y) (Some v) left later begun.1 m n in
      ((begun.0, ended.0), ended.1)

  behind_first : (code : ℕ → Bool) (ls mid left : Lines) (x : E) (s : Option F) → First spec code ls (Some x) mid → Second spec code mid s left → (r : Option (E × F)) × (left : Lines) × Pair spec code ls r left
  behind_first code ls mid left x None h m = (None, left, no_second x h m)
  behind_first code ls mid left x (Some y) h m = (Some (x, y), left, both x y h m)

  some_pair : (code : ℕ → Bool) (ls mid : Lines) (r : Option E) → First spec code ls r mid → (s : Option (E × F)) × (left : Lines) × Pair spec code ls s left
  some_pair code ls mid None h = (None, mid, no_first h)
  some_pair code ls mid (Some x) h = let some = second.some_reading code mid in behind_first code ls mid some.1 x some.0 h some.2

  pair_shorter : (code : ℕ → Bool) (ls : Lines) (r : Option (E × F)) (left : Lines) → Pair spec code ls r left → length left ≤ length ls
  pair_shorter code ls r left (no_first h) = first.shorter code ls None left h
  pair_shorter code ls r left (no_second {mid = mid} x h m) = omega (arith, first.shorter code ls (Some x) mid h, second.shorter code mid None left m)
  pair_shorter code ls r left (both {mid = mid} x y h m) = omega (arith, first.shorter code ls (Some x) mid h, second.shorter code mid (Some y) left m)

  pair_fits : (code : ℕ → Bool) (ls : Lines) (p : E × F) (left : Lines) → Pair spec code ls (Some p) left → A.fits p.0 × B.fits p.1
  pair_fits code ls p left (both {mid = mid} x y h m) = (first.fits code ls x mid h, second.fits code mid y left m)

pub pairs_are_read : {E F : Type 0} (First : ElementReading E) (Second : ElementReading F) (A : Elements E State) (B : Elements F State) → PairsAreRead First Second A B
pairs_are_read First Second A B spec first second = record {
  one = one_pair First Second A B spec first second;
  some_reading = λ code ls. let some = first.some_reading code ls in some_pair First Second A B spec first second code ls some.1 some.0 some.2;
  shorter = pair_shorter First Second A B spec first second;
  fits = pair_fits First Second A B spec first second;
}
