-- The map of an entry.
use Rattle.std.proofs.Common.{◌≡◌, ℕ, ◌<◌, Bool, true, false, List, [], ◌∷◌, Some, None, Option, refl, sym, ap, subst, arith, IsTrue, cond, ◌⊎◌, inl, inr}
use Rattle.std.specs.Prelude.{◌==◌, ◌^◌, IfSome}
use Rattle.base_trait.specs.Algebra.{Algebra}
use Rattle.base_trait.specs.Laws.{Laws}
use Rattle.base_trait.specs.Lists.{Each}
use Rattle.base_trait.specs.declared.uses.Stamp.TheVariants as stamp
use Rattle.base_trait.proofs.Lists.{number_itself, number_told}
use Rattle.base_trait.proofs.Tests.{at_choice, decide}
use Rattle.abstract_map_laws.specs.Calls.{update_of}
use Rattle.abstract_map_laws.specs.Cells.{CellDescribes, CellFits, Held, ListsOnly}
use Rattle.abstract_map_laws.specs.Keys.{one}
use Rattle.abstract_map_laws.specs.Maps.{Describes, EachCell, Fits, Map, cell, keys}
use Rattle.abstract_map_laws.proofs.Fitting.{update_fits}
use Rattle.abstract_map_laws.proofs.Writing.{update_describes, update_lists}
use Rattle.semantics_values.specs.declared.entry.GivenNumber.{GivenNumber}
use Rattle.semantics_values.specs.declared.entry.KeyAt.{KeyAt}
use Rattle.semantics_values.specs.declared.entry.KeyAt.TheVariants.{Whole, Rest, At}
use Rattle.semantics_values.specs.declared.entry.Line.{Line}
use Rattle.semantics.specs.Entries.{given_at, given_or, is_key, one_number}
use Rattle.domain_laws.specs.declared.field.Field.TheVariants as field
use Rattle.domain_laws.specs.Entries.{GivenFits, PlaceFits}
use Rattle.domain_laws.specs.Entry.{given_cell, map_of, with_cell, with_cells}
use Rattle.domain_laws.specs.Lines.{IsField, OfField}
use Rattle.domain_laws.proofs.Described.{IsEntryHeld, cell_described, given_fits, one_held}
use Rattle.domain_laws.proofs.Keys.{update_keys}
use Rattle.domain_laws.proofs.Lines.{given_at_fits, or_fits}

other_way : (j k : ℕ) → (k == j) ≡ false → (j == k) ≡ false
other_way j k e = sorted (decide (j == k))
  where
    sorted : IsTrue (j == k) ⊎ ((j == k) ≡ false) → (j == k) ≡ false
    sorted (inl d) = let t = subst (λ i. IsTrue (i == j)) (number_told j k d) (number_itself j) in cc
    sorted (inr d) = d

-- notes of an entry list the entry alone
module _ {W N C : Type 0} (B : Algebra W N C) (L : Laws W N C B) (c : C) (cap : ℕ) (n : ℕ) where
  abbrev EntryAlone : Map W N → Type 0
  EntryAlone = EachCell (ListsOnly B (stamp.Entry ∷ []))

  cell_lists : (key : KeyAt) (g : GivenNumber) (m : Map W N) → EntryAlone m → EntryAlone (with_cell B c cap key g m)
  cell_lists Whole g m h = h
  cell_lists Rest g m h = h
  cell_lists (At k) g m h = update_lists B L c cap (stamp.Entry ∷ []) m (one k) (given_cell B c m.width g) h L.notes.entry_lists

  pub cells_list : (lines : List Line) (w : ℕ) (g : GivenNumber) → EntryAlone (with_cells B c cap n lines (map_of B c w g))
  cells_list [] w g = (L.notes.entry_lists, tt)
  cells_list (l ∷ lines) w g =
      let m = with_cells B c cap n lines (map_of B c w g) in
      at_choice EntryAlone (l.field == n) (with_cell B c cap l.key l.given m) m (λ e. cell_lists l.key l.given m (cells_list lines w g)) (λ e. cells_list lines w g)

module _ {W N C : Type 0} (B : Algebra W N C) (L : Laws W N C B) (c : C) (cap : ℕ) (joins : IsTrue B.joins) (n m bound width default : ℕ) (fine : IsField (field.Map m bound width default)) where
  abbrev Place : KeyAt → GivenNumber → Type 0
  Place = PlaceFits (field.Map m bound width default)

  -- a map of the field that fits
  pub record IsGood (x : Map W N) : Type 0 where
    pub fits : Fits B c cap x
    pub of_width : x.width ≡ width
    pub of_keys : Each (λ k. k < bound) (keys x)

  pub good_base : (g : GivenNumber) → GivenFits width g → IsGood (map_of B c width g)
  good_base g h = record {
    fits = record { width = fine.0; cells = (given_fits B L c width g fine.0 h, tt); order = tt; bound = tt; few = omega arith };
    of_width = refl;
    of_keys = tt;
  }

  good_cell : (key : KeyAt) (g : GivenNumber) (x : Map W N) → Place key g → IsGood x → IsGood (with_cell B c cap key g x)
  good_cell Whole g x h is = absurd h
  good_cell Rest g x h is = is
  good_cell (At k) g x h is =
      let below = h.0 in
      let most = fine.2 in
      let small : k < 2 ^ 32 = omega (arith, below, most) in
      let fit : CellFits B c x.width (given_cell B c x.width g) = given_fits B L c x.width g is.fits.width (subst (λ w. GivenFits w g) (sym is.of_width) h.1) in
      record {
        fits = update_fits B L c cap x (one k) (given_cell B c x.width g) (inl joins) small is.fits fit;
        of_width = is.of_width;
        of_keys = update_keys B c cap (λ i. i < bound) x k (given_cell B c x.width g) h.0 is.of_keys;
      }

  pub good_cells : (lines : List Line) (g : GivenNumber) → GivenFits width g → OfField n (field.Map m bound width default) lines → IsGood (with_cells B c cap n lines (map_of B c width g))
  good_cells [] g h of = good_base g h
  good_cells (l ∷ lines) g h of =
      let x = with_cells B c cap n lines (map_of B c width g) in
      at_choice IsGood (l.field == n) (with_cell B c cap l.key l.given x) x
      (λ e. good_cell l.key l.given x (of.0 (number_told l.field n e)) (good_cells lines g h of.1)) (λ e. good_cells lines g h of.1)

  -- ---- the map describes each concrete one whose cells are given
  module _ (valuation : List ℕ) (rest : GivenNumber) (rest_fits : GivenFits width rest) where
    abbrev AreGiven : List Line → (ℕ → Held) → Type 0
    AreGiven lines f = (k : ℕ) → IsEntryHeld width (given_or (given_at lines n (At k)) rest) (f k)

    abbrev MapDescribes : List Line → (ℕ → Held) → Type 0
    MapDescribes lines f = Describes B valuation f (with_cells B c cap n lines (map_of B c width rest))

    -- a line that names a key, in front of lines whose map describes what they give
    module _ (lines : List Line) (of : OfField n (field.Map m bound width default) lines) (before : (f : ℕ → Held) → AreGiven lines f → MapDescribes lines f) (j : ℕ) (g : GivenNumber) (place : Place (At j) g) (f : ℕ → Held)
        (are : (k : ℕ) → IsEntryHeld width (given_or (cond (j == k) (Some g) (given_at lines n (At k))) rest) (f k)) where
      abbrev x : Map W N
      x = with_cells B c cap n lines (map_of B c width rest)

      abbrev earlier : GivenNumber
      earlier = given_or (given_at lines n (At j)) rest

      -- what the lines behind give at the key
      abbrev other : ℕ → Held
      other = λ i. cond (i == j) (record { number = one_number earlier; stamp = stamp.Entry }) (f i)

      earlier_fits : GivenFits width earlier
      earlier_fits = or_fits width (given_at lines n (At j)) rest (weaken (given_at lines n (At j)) (given_at_fits n (field.Map m bound width default) (At j) lines of)) rest_fits
        where
          weaken : (o : Option GivenNumber) → IfSome o (Place (At j)) → IfSome o (GivenFits width)
          weaken None h = tt
          weaken (Some y) h = h.1

      others_given : AreGiven lines other
      others_given k =
          at_choice (IsEntryHeld width (given_or (given_at lines n (At k)) rest)) (k == j) (record { number = one_number earlier; stamp = stamp.Entry }) (f k)
          (λ e. subst (λ i. IsEntryHeld width (given_or (given_at lines n (At i)) rest) (record { number = one_number earlier; stamp = stamp.Entry })) (sym (number_told k j e)) (one_held width earlier earlier_fits))
          (λ e. subst (λ b. IsEntryHeld width (given_or (cond b (Some g) (given_at lines n (At k))) rest) (f k)) (other_way j k e) (are k))

      put_back : (k : ℕ) → cond (k == j) (f j) (other k) ≡ f k
      put_back k = at_choice (λ t. t ≡ f k) (k == j) (f j) (other k) (λ e. ap f (sym (number_told k j e))) (λ e. ap (λ b. cond b (record { number = one_number earlier; stamp = stamp.Entry }) (f k)) e)

      pub named_describes : Describes B valuation f (update_of B c cap x (one j) (given_cell B c x.width g))
      named_describes k =
          let good = good_cells lines rest rest_fits of in
          let here : IsEntryHeld width g (f j) = subst (λ b. IsEntryHeld width (given_or (cond b (Some g) (given_at lines n (At j))) rest) (f j)) (number_itself j) (are j) in
          let fit : GivenFits x.width g = subst (λ w. GivenFits w g) (sym good.of_width) place.1 in
          let held : CellDescribes B valuation x.width (f j) (given_cell B c x.width g) = cell_described B L c valuation x.width g (f j) good.fits.width joins fit (subst (λ w. IsEntryHeld w g (f j)) (sym good.of_width) here) in
          let done = update_describes B L c cap valuation other x (one j) j (f j) (given_cell B c x.width g) good.fits tt tt (given_fits B L c x.width g good.fits.width fit) (before other others_given) refl held in
          subst (λ h. CellDescribes B valuation x.width h (cell (update_of B c cap x (one j) (given_cell B c x.width g)) k)) (put_back k) (done k)

    pub cells_describe : (lines : List Line) → OfField n (field.Map m bound width default) lines → (f : ℕ → Held) → AreGiven lines f → MapDescribes lines f
    cells_describe [] of f are k = cell_described B L c valuation width rest (f k) fine.0 joins rest_fits (are k)
    cells_describe (l ∷ lines) of f are k = at_line (cells_describe lines of.1) (l.field == n) (λ e. of.0 (number_told l.field n e)) are k
      where
        at_key : ((f : ℕ → Held) → AreGiven lines f → MapDescribes lines f) → (key : KeyAt) → Place key l.given → ((k : ℕ) → IsEntryHeld width (given_or (cond (is_key key (At k)) (Some l.given) (given_at lines n (At k))) rest) (f k))
            → Describes B valuation f (with_cell B c cap key l.given (with_cells B c cap n lines (map_of B c width rest)))
        at_key before Whole place h = absurd place
        at_key before Rest place h = before f h
        at_key before (At j) place h = named_describes lines of.1 before j l.given place f h

        at_line : ((f : ℕ → Held) → AreGiven lines f → MapDescribes lines f) → (b : Bool) → (IsTrue b → Place l.key l.given)
            → ((k : ℕ) → IsEntryHeld width (given_or (cond b (cond (is_key l.key (At k)) (Some l.given) (given_at lines n (At k))) (given_at lines n (At k))) rest) (f k))
            → Describes B valuation f (cond b (with_cell B c cap l.key l.given (with_cells B c cap n lines (map_of B c width rest))) (with_cells B c cap n lines (map_of B c width rest)))
        at_line before true place h = at_key before l.key (place refl) h
        at_line before false place h = before f h
