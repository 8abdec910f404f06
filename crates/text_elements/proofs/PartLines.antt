-- The lines of parts of cells.
use Rattle.std.proofs.Common.{◌≡◌, ℕ, ◌+◌, ◌≤◌, zero, suc, List, [], ◌∷◌, ◌++◌, Some, drop, length, map, slice_get, refl, sym, subst, ap, ◌∙◌, append_assoc, append-nil}
use Rattle.std.proofs.lemmas.List.{drop_all}
use Rattle.spec_ir.specs.Specification.{Spec}
use Rattle.semantics_values.specs.declared.entry.KeyAt.TheVariants.{At}
use Rattle.abstract_map_laws.specs.declared.cell.AbstractCell.{AbstractCell}
use Rattle.abstract_map_laws.specs.Maps.{Map, keys}
use Rattle.abstract_value_laws.specs.Abs.{Abs, part, parts}
use Rattle.state_cell_text.specs.Places.{Field}
use Rattle.text_words.specs.Texts.{Texts}
use Rattle.domain_product_laws.specs.Calls.{mapped_cell, mapped_cells, mapped_map, mapped_parts, mapped_value}
use Rattle.text_elements.specs.Cells.{cell_line, listed_lines}
use Rattle.text_elements.proofs.CellLines.{listed_more}

-- values, each with its words and notes replaced
pub parts_mapped : {T V W M N : Type 0} (f : V → W) (g : M → N) (view : T → Abs V M) (xs : List T) → parts (map (λ v. mapped_value f g (view v)) xs) ≡ mapped_parts f g (parts (map view xs))
parts_mapped f g view [] = refl
parts_mapped f g view (x ∷ xs) = ap (λ ps. part (mapped_value f g (view x)) ps) (parts_mapped f g view xs)

module _ {V W M N : Type 0} (f : V → W) (g : M → N) where
  entry_at : (es : List (ℕ × AbstractCell V M)) (i at : ℕ) (x : AbstractCell V M) → slice_get es i ≡ Some (at, x) → slice_get (mapped_cells f g es) i ≡ Some (at, mapped_cell f g x)
  entry_at [] i at x h = absurd cc
  entry_at (e ∷ es) zero at x h = let same : e ≡ (at, x) = cc in ap (λ d. Some (d.0, mapped_cell f g d.1)) same
  entry_at (e ∷ es) (suc i) at x h = entry_at es i at x h

  key_at : (es : List (ℕ × AbstractCell V M)) (i k : ℕ) → slice_get (map (λ e. e.0) es) i ≡ Some k → slice_get (map (λ e. e.0) (mapped_cells f g es)) i ≡ Some k
  key_at [] i k h = absurd cc
  key_at (e ∷ es) zero k h = h
  key_at (e ∷ es) (suc i) k h = key_at es i k h

  as_many : (es : List (ℕ × AbstractCell V M)) → length (mapped_cells f g es) ≡ length es
  as_many [] = refl
  as_many (e ∷ es) = ap (λ n. suc n) (as_many es)

  module _ (texts : Texts W N) (spec : Spec) where
    -- the parts of all listed cells were appended
    pub parts_done : (field : Field) (m : Map V M) (place : ℕ) (all out : List ℕ) → length m.cells ≤ place → all ≡ out ++ listed_lines texts spec field m.width (drop place (mapped_cells f g m.cells)) → out ≡ all
    parts_done field m place all out past so_far =
        sym (so_far ∙ ap (λ es. out ++ listed_lines texts spec field m.width es) (drop_all place (mapped_cells f g m.cells) (subst (λ n. n ≤ place) (sym (as_many m.cells)) past)) ∙ append-nil out)

    -- the part of a listed cell was appended
    pub part_out : (field : Field) (m : Map V M) (place key named w : ℕ) (x : V) (note : M) (word : W) (other : N) (all out new : List ℕ)
        → slice_get m.cells place ≡ Some (named, record { word = x; note = note }) → slice_get (keys m) place ≡ Some key → w ≡ m.width → word ≡ f x → other ≡ g note
        → all ≡ out ++ listed_lines texts spec field m.width (drop place (mapped_cells f g m.cells)) → new ≡ out ++ cell_line texts spec field (At key) w (record { word = word; note = other })
        → all ≡ new ++ listed_lines texts spec field m.width (drop (place + 1) (mapped_cells f g m.cells))
    part_out field m place key named w x note word other all out new here at width is_word is_note so_far put =
        let c : AbstractCell W N = record { word = f x; note = g note } in
        let rest = listed_lines texts spec field m.width (drop (place + 1) (mapped_cells f g m.cells)) in
        let same = put ∙ ap (λ (n : ℕ). out ++ cell_line texts spec field (At key) n (record { word = word; note = other })) width ∙ ap (λ (t : W). out ++ cell_line texts spec field (At key) m.width (record { word = t; note = other })) is_word
        ∙ ap (λ (t : N). out ++ cell_line texts spec field (At key) m.width (record { word = f x; note = t })) is_note in
        so_far ∙ ap (λ (xs : List ℕ). out ++ xs) (listed_more texts spec field m.width (mapped_map f g m) place key named c (entry_at m.cells place named (record { word = x; note = note }) here) (key_at m.cells place key at))
        ∙ sym (ap (λ (xs : List ℕ). xs ++ rest) same ∙ append_assoc out (cell_line texts spec field (At key) m.width c) rest)
