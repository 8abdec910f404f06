-- Pieces of maps.
use Rattle.std.proofs.Common.{◌≡◌, ℕ, ◌<◌, ◌≤◌, ◌^◌, Bool, true, false, cond, List, Option, Some, None, option_map, refl, sym, subst, arith, IsTrue, inl, pow_mono}
use Rattle.std.specs.Prelude.{◌==◌, ◌&&◌, ◌||◌, nat_lt, length, IfSome, IsSomeAnd}
use Rattle.std.proofs.lemmas.Bool.Decides.{nat_tests}
use Rattle.base_trait.specs.Algebra.{Algebra}
use Rattle.base_trait.specs.Laws.{Laws}
use Rattle.base_trait.specs.Lists.{Each}
use Rattle.base_trait.specs.declared.uses.Stamp.{Stamp}
use Rattle.base_trait.proofs.Lists.{number_told}
use Rattle.base_trait.proofs.Tests.{and_parts, at_choice}
use Rattle.abstract_map_laws.specs.Cells.{CellDescribes, CellFits, Held, ListsOnly}
use Rattle.abstract_map_laws.specs.Keys.{has_key, one}
use Rattle.abstract_map_laws.specs.Maps.{Describes, EachCell, Fits, Map, cell, keys}
use Rattle.abstract_map_laws.proofs.Fitting.{update_fits}
use Rattle.abstract_map_laws.proofs.Places.{each_cell}
use Rattle.abstract_map_laws.proofs.Writing.{update_describes, update_lists}
use Rattle.domain_laws.proofs.Keys.{update_keys}
use Rattle.base_cuts.specs.Cuts.{CutLaws, Cuts}
use Rattle.domain_cell_pieces.specs.Pieces.{can_stand, map_piece, with_word}

-- what follows from what is there
pub if_mapped : {A A' : Type 0} (f : A → A') (P : A → Type 0) (Q : A' → Type 0) (o : Option A) → ((x : A) → P x → Q (f x)) → IfSome o P → IfSome (option_map f o) Q
if_mapped f P Q None g h = tt
if_mapped f P Q (Some x) g h = g x h

pub mapped_and : {A A' : Type 0} (f : A → A') (P : A → Type 0) (Q : A' → Type 0) (o : Option A) → ((x : A) → P x → Q (f x)) → IsSomeAnd o P → IsSomeAnd (option_map f o) Q
mapped_and f P Q None g h = absurd h
mapped_and f P Q (Some x) g h = g x h

module _ {W N C : Type 0} (B : Algebra W N C) (L : Laws W N C B) (K : Cuts W C) (cut : CutLaws B.words K) (joins : IsTrue B.joins) (c : C) (cap : ℕ) where
  -- the word at a key fits
  word_fits : (m : Map W N) (k : ℕ) → Fits B c cap m → B.words.fits c m.width (cell m k).word
  word_fits m k fit = each_cell (CellFits B c m.width) m.rest m.cells k fit.cells.0 fit.cells.1

  -- what a choice by a test owes
  by_test : (Q : Option (Map W N) → Type 0) (bound k low high : ℕ) (m : Map W N) → (k < bound → k < 2 ^ 32 → Q (option_map (with_word B K c cap m k) (K.meet c m.width (cell m k).word low high))) → Q (Some m)
      → Q (map_piece B K c cap bound k low high m)
  by_test Q bound k low high m f g =
      at_choice Q (can_stand B K c cap bound m k) (option_map (with_word B K c cap m k) (K.meet c m.width (cell m k).word low high)) (Some m)
      (λ e.
      let first = and_parts (nat_lt k bound) (nat_lt k (2 ^ 32) && (has_key (keys m) k || nat_lt (length m.cells) cap)) e in
      let second = and_parts (nat_lt k (2 ^ 32)) (has_key (keys m) k || nat_lt (length m.cells) cap) first.1 in
      let own = first.0 in let small = second.0 in f (grind (arith, nat_tests)) (grind (arith, nat_tests)))
      (λ e. g)

  -- what is known of a map of a field
  pub record IsMapOf (bound width : ℕ) (m : Map W N) : Type 0 where
    pub width_is : m.width ≡ width
    pub keyed : Each (λ k. k < bound) (keys m)
    pub fits : Fits B c cap m

  pub map_piece_fits : (bound width k low high : ℕ) (m : Map W N) → IsMapOf bound width m → IfSome (map_piece B K c cap bound k low high m) (IsMapOf bound width)
  map_piece_fits bound width k low high m is =
      by_test (λ o. IfSome o (IsMapOf bound width)) bound k low high m
      (λ own small. if_mapped (with_word B K c cap m k) (λ y. B.words.fits c m.width y) (IsMapOf bound width) (K.meet c m.width (cell m k).word low high)
      (λ y fy. record {
        width_is = is.width_is;
        keyed = update_keys B c cap (λ k. k < bound) m k (record { word = y; note = (cell m k).note }) own is.keyed;
        fits = update_fits B L c cap m (one k) (record { word = y; note = (cell m k).note }) (inl joins) small is.fits fy;
      })
      (cut.meet_fits c m.width low high (cell m k).word is.fits.width (word_fits m k is.fits)))
      is

  pub map_piece_lists : (stamps : List Stamp) (bound k low high : ℕ) (m : Map W N) → EachCell (ListsOnly B stamps) m → IfSome (map_piece B K c cap bound k low high m) (EachCell (ListsOnly B stamps))
  map_piece_lists stamps bound k low high m lists =
      by_test (λ o. IfSome o (EachCell (ListsOnly B stamps))) bound k low high m
      (λ own small. listed (K.meet c m.width (cell m k).word low high)) lists
    where
      listed : (o : Option W) → IfSome (option_map (with_word B K c cap m k) o) (EachCell (ListsOnly B stamps))
      listed None = tt
      listed (Some y) = update_lists B L c cap stamps m (one k) (record { word = y; note = (cell m k).note }) lists (each_cell (ListsOnly B stamps) m.rest m.cells k lists.0 lists.1)

  -- written at a key with what stands there, a concrete map is the same
  again : (valuation : List ℕ) (k : ℕ) (f : ℕ → Held) (m : Map W N) → Describes B valuation (λ j. cond (j == k) (f k) (f j)) m → Describes B valuation f m
  again valuation k f m h j = at (j == k) refl (h j)
    where
      at : (b : Bool) → (j == k) ≡ b → CellDescribes B valuation m.width (cond b (f k) (f j)) (cell m j) → CellDescribes B valuation m.width (f j) (cell m j)
      at true e d = subst (λ i. CellDescribes B valuation m.width (f i) (cell m j)) (sym (number_told j k e)) d
      at false e d = d

  pub map_piece_describes : (valuation : List ℕ) (bound k low high : ℕ) (f : ℕ → Held) (m : Map W N) → Fits B c cap m → Describes B valuation f m → low ≤ (f k).number → (f k).number ≤ high
      → IsSomeAnd (map_piece B K c cap bound k low high m) (Describes B valuation f)
  map_piece_describes valuation bound k low high f m fit d a b =
      by_test (λ o. IsSomeAnd o (Describes B valuation f)) bound k low high m
      (λ own small. mapped_and (with_word B K c cap m k) (λ y. B.words.fits c m.width y × B.words.describes valuation m.width (f k).number y) (Describes B valuation f) (K.meet c m.width (cell m k).word low high)
      (λ y h. again valuation k f (with_word B K c cap m k y)
      (update_describes B L c cap valuation f m (one k) k (f k) (record { word = y; note = (cell m k).note }) fit tt tt h.0 d refl (h.1, (d k).1)))
      (with_fits (K.meet c m.width (cell m k).word low high) (cut.meet_fits c m.width low high (cell m k).word fit.width (word_fits m k fit))
      (cut.meet_describes c valuation m.width low high (f k).number (cell m k).word fit.width (word_fits m k fit) (d k).0 a b)))
      d
    where
      with_fits : (o : Option W) → IfSome o (λ y. B.words.fits c m.width y) → IsSomeAnd o (λ y. B.words.describes valuation m.width (f k).number y)
          → IsSomeAnd o (λ y. B.words.fits c m.width y × B.words.describes valuation m.width (f k).number y)
      with_fits None h g = g
      with_fits (Some y) h g = (h, g)

  -- a number that a map describes is one of 64 bits
  pub held_small : (valuation : List ℕ) (f : ℕ → Held) (m : Map W N) (k : ℕ) → Fits B c cap m → Describes B valuation f m → (f k).number < 2 ^ 64
  held_small valuation f m k fit d =
      let below = L.words.described_fits valuation m.width (f k).number (cell m k).word (d k).0 in
      let wide : 2 ^ m.width ≤ 2 ^ 64 = pow_mono fit.width.1 in
      omega (arith, below, wide)
