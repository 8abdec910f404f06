-- What is left of an element keeps what its notes have.
use Rattle.std.proofs.Common.{ℕ, zero, suc, Bool, List, ◌∷◌, Option, Some, None, option_map}
use Rattle.std.specs.Prelude.{IfSome}
use Rattle.base_trait.specs.Algebra.{Algebra}
use Rattle.base_trait.proofs.Tests.{at_choice}
use Rattle.abstract_map_laws.specs.Keys.{one}
use Rattle.abstract_map_laws.specs.Maps.{Map, cell}
use Rattle.abstract_map_laws.proofs.Places.{each_cell}
use Rattle.semantics_values.specs.declared.entry.KeyAt.{KeyAt}
use Rattle.semantics_values.specs.declared.entry.KeyAt.TheVariants.{Whole, At}
use Rattle.abstract_value_laws.specs.Abs.{Abs, Parts, part, word, map}
use Rattle.domain_laws.specs.declared.field.Field.{Field}
use Rattle.domain_laws.specs.declared.field.Field.TheVariants as field
use Rattle.base_cuts.specs.Cuts.{Cuts}
use Rattle.fixpoint_cases.specs.Pieces.{Piece, both_there, pair_piece, whole_piece}
use Rattle.domain_cell_pieces.specs.Pieces.{can_stand, cell_piece, field_piece, map_piece, value_piece, values_piece, with_word}
use Rattle.domain_cell_pieces.proofs.Maps.{if_mapped}
use Rattle.analysis_table_laws.specs.Domains.{PiecesKeep}
use Rattle.analysis_table_laws.specs.Notes.{NotesKeep}
use Rattle.analysis_table_laws.specs.Values.{HasNotes, MapHasNotes, PartsHaveNotes}
use Rattle.analysis_table_laws.proofs.Maps.{updated_noted}

module _ {W N C : Type 0} (B : Algebra W N C) (K : Cuts W C) (c : C) (cap : ℕ) (code : ℕ → Bool) (F : N → Type 0) (notes : NotesKeep B.notes code F) where
  word_noted : (n k : ℕ) (x : Map W N) → MapHasNotes F n x → (o : Option W) → IfSome (option_map (with_word B K c cap x k) o) (MapHasNotes F n)
  word_noted n k x h None = tt
  word_noted n k x h (Some y) =
      updated_noted B c code F notes cap n x (one k) (record { word = y; note = (cell x k).note }) h (each_cell (λ z. F z.note) x.rest x.cells k h.0 h.1)

  map_noted : (n bound k low high : ℕ) (x : Map W N) → MapHasNotes F n x → IfSome (map_piece B K c cap bound k low high x) (MapHasNotes F n)
  map_noted n bound k low high x h =
      at_choice (λ o. IfSome o (MapHasNotes F n)) (can_stand B K c cap bound x k) (option_map (with_word B K c cap x k) (K.meet c x.width (cell x k).word low high)) (Some x)
      (λ e. word_noted n k x h (K.meet c x.width (cell x k).word low high)) (λ e. h)

  value_noted : (f : Field) (key : KeyAt) (low high : ℕ) (x : Abs W N) → HasNotes F x → IfSome (value_piece B K c cap f key low high x) (HasNotes F)
  value_noted (field.Word w) Whole low high (word u x) h = noted (K.meet c u x low high)
    where
      noted : (o : Option W) → IfSome (option_map (word u) o) (HasNotes F)
      noted None = tt
      noted (Some y) = tt
  value_noted (field.Map m bound width default) (At k) low high (map n x) h =
      if_mapped (map n) (MapHasNotes F n) (HasNotes F) (map_piece B K c cap bound k low high x) (λ y is. is) (map_noted n bound k low high x h)
  value_noted f key low high x h = h

  values_noted : (fields : List Field) (n : ℕ) (key : KeyAt) (low high : ℕ) (xs : Parts W N) → PartsHaveNotes F xs → IfSome (values_piece B K c cap fields n key low high xs) (PartsHaveNotes F)
  values_noted (f ∷ fields) zero key low high (part x xs) h =
      if_mapped (λ y. part y xs) (HasNotes F) (PartsHaveNotes F) (value_piece B K c cap f key low high x) (λ y is. (is, h.1)) (value_noted f key low high x h.0)
  values_noted (f ∷ fields) (suc n) key low high (part x xs) h =
      if_mapped (part x) (PartsHaveNotes F) (PartsHaveNotes F) (values_piece B K c cap fields n key low high xs) (λ ys are. (h.0, are)) (values_noted fields n key low high xs h.1)
  values_noted fields n key low high xs h = h

  field_noted : (fields : List Field) (n : ℕ) (key : KeyAt) (low high : ℕ) (xs : Parts W N) → PartsHaveNotes F xs → IfSome (field_piece B K c cap fields n key low high xs) (PartsHaveNotes F)
  field_noted fields zero key low high xs h = h
  field_noted fields (suc n) key low high xs h = values_noted fields n key low high xs h

  pub cell_pieces_keep : (fields : List Field) → PiecesKeep (cell_piece B K c cap fields) (PartsHaveNotes F)
  cell_pieces_keep fields place low high xs h = field_noted fields place.0 place.1 low high xs h

pub whole_pieces_keep : {Cell E : Type 0} (K : E → Type 0) → PiecesKeep {Cell = Cell} whole_piece K
whole_pieces_keep K cell low high x h = h

module _ {E F : Type 0} (J : E → Type 0) (K : F → Type 0) where
  both_keep : (x : Option E) (y : Option F) → IfSome x J → IfSome y K → IfSome (both_there x y) (λ z. J z.0 × K z.1)
  both_keep None y h k = tt
  both_keep (Some x) None h k = tt
  both_keep (Some x) (Some y) h k = (h, k)

  pub pair_pieces_keep : {Cell : Type 0} (first : Piece Cell E) (second : Piece Cell F) → PiecesKeep first J → PiecesKeep second K → PiecesKeep (pair_piece first second) (λ z. J z.0 × K z.1)
  pair_pieces_keep first second h k cell low high x is = both_keep (first cell low high x.0) (second cell low high x.1) (h cell low high x.0 is.0) (k cell low high x.1 is.1)
