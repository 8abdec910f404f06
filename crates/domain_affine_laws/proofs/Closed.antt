-- The words behind an instruction.
use Rattle.std.proofs.Common.{ℕ, zero, suc, List, [], ◌∷◌, length, sym, ◌∙◌, subst}
use Rattle.std.specs.Prelude.{◌-◌, IsSomeAnd, slice_get}
use Rattle.base_trait.specs.Lists.{Each, IsAmong}
use Rattle.semantics_values.specs.declared.entry.KeyAt.{KeyAt}
use Rattle.semantics_values.specs.declared.entry.KeyAt.TheVariants.{Whole, Rest, At}
use Rattle.semantics_values.specs.States.{State}
use Rattle.semantics_values.specs.Values as v
use Rattle.semantics_values.specs.Values.{Val, vals}
use Rattle.abstract_map_laws.specs.Cells.{CellFits}
use Rattle.abstract_map_laws.specs.Maps.{cell, cell_in}
use Rattle.abstract_map_laws.specs.declared.cell.AbstractCell.{AbstractCell}
use Rattle.abstract_value_laws.specs.Abs.{Abs, Parts, flag, word, made, map, no_part, part}
use Rattle.abstract_value_laws.specs.Describes.{Describes, PartsDescribe}
use Rattle.abstract_value_laws.specs.Fits as value
use Rattle.abstract_value_laws.specs.Fits.{PartsFit}
use Rattle.domain_laws.specs.declared.field.Field.{Field}
use Rattle.domain_laws.specs.declared.field.Field.TheVariants as field
use Rattle.domain_laws.specs.Values.{AreOf, FieldsFit, IsOf}
use Rattle.domain_affine_base.specs.Meaning.{affine}
use Rattle.domain_affine_base.specs.Words.{Fits, Stands}
use Rattle.domain_affine_base.specs.declared.word.Word.{Word}
use Rattle.domain_affine_element_laws.specs.Laws.{StandAll}
use Rattle.domain_affine_element_laws.specs.Tracked.{number_in, number_of, valuation_of}
use Rattle.domain_affine_laws.specs.Closed.{closed_words, part_at, word_at, word_in, word_of}
use Rattle.domain_affine_laws.specs.Tracked.{field_cells}
use Rattle.domain_affine_laws.proofs.Tracked.{IsCellOf, map_cell, one_less, word_cell}
use Rattle.base_trait.proofs.Tests.{at_choice}
use Rattle.std.specs.Prelude.{◌==◌}

-- ---- they stand for the numbers of the next state
module _ (valuation : List ℕ) where
  one_stands : (x : Abs Word (Unit {0})) (p : Val) (key : KeyAt) → Describes affine valuation x p → Stands valuation (word_of x key) (number_of p key)
  one_stands (word w x) (v.word u n) Whole h = h.1.0
  one_stands (word w x) (v.word u n) Rest h = tt
  one_stands (word w x) (v.word u n) (At k) h = tt
  one_stands (map m x) (v.map n rest cells) (At k) h = (h.1 k).0.0
  one_stands (map m x) (v.map n rest cells) Whole h = tt
  one_stands (map m x) (v.map n rest cells) Rest h = tt
  one_stands (flag t) p key h = tt
  one_stands (made ty cs) p key h = tt
  one_stands (word w x) _ key h = absurd h
  one_stands (map m x) _ key h = absurd h

  part_stands : (xs : Parts Word (Unit {0})) (ps : List Val) (i : ℕ) (key : KeyAt) → PartsDescribe affine valuation xs (vals ps) → Stands valuation (word_in (part_at xs i) key) (number_in (slice_get ps i) key)
  part_stands no_part ps i key h = tt
  part_stands (part x xs) [] i key h = absurd h
  part_stands (part x xs) (p ∷ ps) zero key h = one_stands x p key h.0
  part_stands (part x xs) (p ∷ ps) (suc i) key h = part_stands xs ps i key h.1

  pub closed_stand : (cells : List (ℕ × KeyAt)) (xs : Parts Word (Unit {0})) (s : State) → PartsDescribe affine valuation xs (vals s.parts) → StandAll valuation (closed_words cells xs) (valuation_of cells s)
  closed_stand [] xs s h = tt
  closed_stand (c ∷ cells) xs s h = (part_stands xs s.parts (c.0 - 1) c.1 h, closed_stand cells xs s h)

-- ---- they are words of 32 bits
module _ (c : List (ℕ × KeyAt)) (cap : ℕ) where
  cell_fits : (w k : ℕ) (rest : AbstractCell Word (Unit {0})) (es : List (ℕ × AbstractCell Word (Unit {0}))) → CellFits affine c w rest → Each (λ e. CellFits affine c w e.1) es → CellFits affine c w (cell_in rest es k)
  cell_fits w k rest [] h g = h
  cell_fits w k rest (e ∷ es) h g = at_choice (CellFits affine c w) (e.0 == k) e.1 (cell_in rest es k) (λ d. g.0) (λ d. cell_fits w k rest es h g.1)

  one_fits : (f : Field) (x : Abs Word (Unit {0})) (key : KeyAt) → IsOf f x → value.Fits affine c cap x → IsAmong key (field_cells f) → Fits (length c) 32 (word_of x key)
  one_fits (field.Word w) (word u x) key of fit h =
      let told = word_cell w key h in
      subst (λ j. Fits (length c) 32 (word_of (word u x) j)) (sym told.0) (subst (λ n. Fits (length c) n x) (of ∙ told.1) fit.1)
  one_fits (field.Map m keys width default) (map n x) key of fit h =
      let told = map_cell keys width key h in
      let k = told.1.0 in
      subst (λ j. Fits (length c) 32 (word_of (map n x) j)) (sym told.1.1)
      (subst (λ w. Fits (length c) w (cell x k).word) (of.1 ∙ told.0) (cell_fits x.width k x.rest x.cells fit.cells.0 fit.cells.1))
  one_fits _ _ key of fit h = absurd of

  part_fits : (fields : List Field) (xs : Parts Word (Unit {0})) (i : ℕ) (key : KeyAt) → AreOf fields xs → PartsFit affine c cap xs
      → IsSomeAnd (slice_get fields i) (λ f. IsAmong key (field_cells f)) → Fits (length c) 32 (word_in (part_at xs i) key)
  part_fits fields no_part i key of fit h = (tt, tt)
  part_fits [] (part x xs) i key of fit h = absurd of
  part_fits (f ∷ fields) (part x xs) zero key of fit h = one_fits f x key of.0 fit.0 h
  part_fits (f ∷ fields) (part x xs) (suc i) key of fit h = part_fits fields xs i key of.1 fit.1 h

  module _ (fields : List Field) (xs : Parts Word (Unit {0})) (fit : FieldsFit affine c cap fields xs) where
    at_fits : (n : ℕ) (key : KeyAt) → IsCellOf fields (n, key) → Fits (length c) 32 (word_at xs (n, key))
    at_fits zero key h = absurd h
    at_fits (suc i) key h = subst (λ m. Fits (length c) 32 (word_in (part_at xs m) key)) (one_less i) (part_fits fields xs i key fit.0 fit.1 h)

    pub closed_fit : (cells : List (ℕ × KeyAt)) → Each (IsCellOf fields) cells → Each (Fits (length c) 32) (closed_words cells xs)
    closed_fit [] h = tt
    closed_fit (d ∷ cells) h = (at_fits d.0 d.1 h.0, closed_fit cells h.1)
