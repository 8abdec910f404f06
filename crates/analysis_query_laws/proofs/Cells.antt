-- What elements of cells tell of single cells is true.
use Rattle.std.proofs.Common.{◌≡◌, ℕ, zero, suc, ◌<◌, ◌≤◌, ◌^◌, Bool, true, false, List, [], ◌∷◌, Some, IsTrue, refl, sym, subst, arith}
use Rattle.std.specs.Prelude.{◌≢◌, ◌==◌, ◌-◌, nat_le, not, slice_get, IsSomeAnd, Option, None}
use Rattle.std.proofs.lemmas.Bool.Decides.{nat_tests}
use Rattle.word_operations.specs.Width.{IsWidth}
use Rattle.word_operations.specs.declared.kinds.WordComparison.TheVariants.{LeU}
use Rattle.base_trait.specs.Algebra.{Algebra, can_be}
use Rattle.base_trait.specs.Laws.{Laws}
use Rattle.base_trait.specs.Lists.{Each}
use Rattle.base_trait.proofs.Tests.{and_parts, at_choice}
use Rattle.abstract_map_laws.specs.Maps.{cell, cell_in}
use Rattle.abstract_map_laws.specs.declared.cell.AbstractCell.{AbstractCell}
use Rattle.abstract_map_laws.specs.Cells.{CellFits}
use Rattle.semantics_values.specs.declared.entry.KeyAt.{KeyAt}
use Rattle.semantics_values.specs.declared.entry.KeyAt.TheVariants.{Whole, Rest, At}
use Rattle.semantics_values.specs.States.{State}
use Rattle.semantics_values.specs.Values as v
use Rattle.semantics_values.specs.Values.{Val, vals}
use Rattle.abstract_value_laws.specs.Abs.{Abs, Parts, word, map, no_part, part}
use Rattle.abstract_value_laws.specs.Describes.{Describes, PartsDescribe}
use Rattle.abstract_value_laws.specs.Fits.{Fits, PartsFit}
use Rattle.domain_laws.specs.declared.field.Field.{Field}
use Rattle.domain_laws.specs.declared.field.Field.TheVariants as field
use Rattle.domain_laws.specs.Entries.{GivenFits, PlaceFits}
use Rattle.domain_laws.specs.Values.{AreOf, IsOf}
use Rattle.domain_affine_element_laws.specs.Tracked.{number_at, number_in, number_of}
use Rattle.analysis_query_laws.specs.Cells.{is_not, is_within, value_behind, word_in, word_of}
use Rattle.analysis_query_laws.specs.Laws.{CellsTellTruly, IsOfCell}
use Rattle.semantics_values.specs.declared.entry.GivenNumber.{GivenNumber}
use Rattle.semantics_values.specs.declared.entry.GivenNumber.TheVariants.{One, Range}

-- the number lies in the range
abbrev Lies : ℕ → ℕ → ℕ → Type 0
Lies lo hi n = (lo ≤ n) × (n ≤ hi)

cut_off : (p : Bool) → IsTrue p → IsTrue (not p) → ⊥
cut_off true h k = cc
cut_off false h k = cc

-- ---- words: what a test of a word tells of each number that it describes
module _ {W N C : Type 0} (B : Algebra W N C) (L : Laws W N C B) (c : C) where
  not_false : (t : _) (b : Bool) → IsTrue (can_be t b) → IsTrue (not (can_be t false)) → b ≡ true
  not_false t true h k = refl
  not_false t false h k = absurd (cut_off (can_be t false) h k)

  -- a described number lies in the range that is told
  word_lies : (lo hi w n : ℕ) (x : W) → IsWidth w → B.words.fits c w x → GivenFits w (Range lo hi) → B.words.describes [] w n x → IsTrue (is_within B c lo hi (Some (w, x))) → Lies lo hi n
  word_lies lo hi w n x width fits (order, bound) is h =
      let small : lo < 2 ^ w = omega (arith, order, bound) in
      let parts = and_parts (not (can_be (B.words.cmp c LeU w (B.words.constant c w lo) x) false)) (not (can_be (B.words.cmp c LeU w x (B.words.constant c w hi)) false)) h in
      let low = B.words.constant c w lo in
      let high = B.words.constant c w hi in
      let above = L.words.cmp_sound c [] LeU w lo n low x width (L.words.constant_fits c w lo width small) fits (L.words.constant_sound c [] w lo width small) is in
      let below = L.words.cmp_sound c [] LeU w n hi x high width fits (L.words.constant_fits c w hi width bound) is (L.words.constant_sound c [] w hi width bound) in
      let first : nat_le lo n ≡ true = not_false (B.words.cmp c LeU w low x) (nat_le lo n) above parts.0 in
      let second : nat_le n hi ≡ true = not_false (B.words.cmp c LeU w x high) (nat_le n hi) below parts.1 in
      (order_told lo n first, order_told n hi second)
    where
      order_told : (i j : ℕ) → nat_le i j ≡ true → i ≤ j
      order_told i j h = grind (arith, nat_tests)

  -- a described number is not one that the word may not be
  word_differs : (v w n : ℕ) (x : W) → IsWidth w → B.words.fits c w x → GivenFits w (One v) → B.words.describes [] w n x → IsTrue (is_not B c v (Some (w, x))) → n ≢ v
  word_differs v w n x width fits small is h e = cut_off (B.words.may c w x v) (subst (λ m. IsTrue (B.words.may c w x m)) e (L.words.may_sound c [] w n x width fits is)) h

-- ---- cells: what a test of their words tells, where numbers of their width are given
module _ {W N C : Type 0} (B : Algebra W N C) (c : C) (cap : ℕ) (given : GivenNumber) (test : Option (ℕ × W) → Bool) (Tells : ℕ → Type 0) (none : IsTrue (test None) → ⊥)
    (told : (w n : ℕ) (x : W) → IsWidth w → B.words.fits c w x → GivenFits w given → B.words.describes [] w n x → IsTrue (test (Some (w, x))) → Tells n) where
  cell_fits : (w k : ℕ) (rest : AbstractCell W N) (cells : List (ℕ × AbstractCell W N)) → CellFits B c w rest → Each (λ e. CellFits B c w e.1) cells → CellFits B c w (cell_in rest cells k)
  cell_fits w k rest [] h g = h
  cell_fits w k rest (e ∷ cells) h g = at_choice (CellFits B c w) (e.0 == k) e.1 (cell_in rest cells k) (λ _. g.0) (λ _. cell_fits w k rest cells h g.1)

  value_tells : (f : Field) (x : Abs W N) (p : Val) (key : KeyAt) → IsOf f x → Fits B c cap x → Describes B [] x p → PlaceFits f key given → IsTrue (test (word_of (Some x) key)) → Tells (number_of p key)
  value_tells (field.Word w) (word u x) (v.word t n) Whole of fits is place h = told u n x fits.0 fits.1 (subst (λ z. GivenFits z given) (sym of) place) is.1 h
  value_tells (field.Word w) (word u x) (v.word t n) Rest of fits is place h = absurd place
  value_tells (field.Word w) (word u x) (v.word t n) (At k) of fits is place h = absurd place
  value_tells (field.Word w) (word u x) p key of fits is place h = absurd is
  value_tells (field.Word w) x p key of fits is place h = absurd of
  value_tells (field.Map m keys width default) (map i x) (v.map j rest cells) (At k) of fits is place h =
      told x.width (v.cell_at rest cells k).v (cell x k).word fits.width (cell_fits x.width k x.rest x.cells fits.cells.0 fits.cells.1) (subst (λ z. GivenFits z given) (sym of.1) place.1) (is.1 k).0 h
  value_tells (field.Map m keys width default) (map i x) (v.map j rest cells) Rest of fits is place h = absurd (none h)
  value_tells (field.Map m keys width default) (map i x) (v.map j rest cells) Whole of fits is place h = absurd place
  value_tells (field.Map m keys width default) (map i x) p key of fits is place h = absurd is
  value_tells (field.Map m keys width default) x p key of fits is place h = absurd of

  values_tell : (fields : List Field) (xs : Parts W N) (ps : List Val) (n : ℕ) (key : KeyAt) → AreOf fields xs → PartsFit B c cap xs → PartsDescribe B [] xs (vals ps)
      → IsSomeAnd (slice_get fields n) (λ f. PlaceFits f key given) → IsTrue (test (word_of (value_behind xs n) key)) → Tells (number_in (slice_get ps n) key)
  values_tell [] no_part ps n key of fits is place h = absurd place
  values_tell (f ∷ fields) (part x xs) (p ∷ ps) zero key of fits is place h = value_tells f x p key of.0 fits.0 is.0 place h
  values_tell (f ∷ fields) (part x xs) (p ∷ ps) (suc n) key of fits is place h = values_tell fields xs ps n key of.1 fits.1 is.1 place h
  values_tell (f ∷ fields) (part x xs) [] n key of fits is place h = absurd is
  values_tell [] (part x xs) ps n key of fits is place h = absurd of
  values_tell (f ∷ fields) no_part ps n key of fits is place h = absurd of

  at_field : (fields : List Field) (xs : Parts W N) (s : State) (n : ℕ) (key : KeyAt) → AreOf fields xs → PartsFit B c cap xs → PartsDescribe B [] xs (vals s.parts)
      → IsOfCell fields n key given → IsTrue (test (word_in xs n key)) → Tells (number_at s (n, key))
  at_field fields xs s zero key of fits is place h = absurd place
  at_field fields xs s (suc n) key of fits is place h =
      let same : suc n - 1 ≡ n = omega arith in
      subst (λ i. Tells (number_in (slice_get s.parts i) key)) (sym same) (values_tell fields xs s.parts n key of fits is place h)

pub cells_tell_truly : {W N C : Type 0} (B : Algebra W N C) → Laws W N C B → CellsTellTruly B
cells_tell_truly B L c cap fields = record {
  ranges = λ x s n key lo hi takes fits holds place h. at_field B c cap (Range lo hi) (is_within B c lo hi) (Lies lo hi) (λ k. cc) (word_lies B L c lo hi) fields x s n key fits.0 fits.1 holds place h;
  others = λ x s n key v takes fits holds place h. at_field B c cap (One v) (is_not B c v) (λ m. m ≢ v) (λ k. cc) (word_differs B L c v) fields x s n key fits.0 fits.1 holds place h;
  sums = λ x s form takes fits holds len h. cc;
}
