-- Elements of cells keep that their notes have a property.
use Rattle.std.proofs.Common.{ℕ, suc, Bool, List, [], ◌∷◌, subst}
use Rattle.std.specs.Prelude.{◌==◌}
use Rattle.base_trait.specs.Algebra.{Algebra}
use Rattle.base_trait.proofs.Tests.{at_choice}
use Rattle.abstract_map_laws.specs.Keys.{one}
use Rattle.abstract_map_laws.specs.Maps.{Map}
use Rattle.semantics_values.specs.declared.entry.GivenNumber.{GivenNumber}
use Rattle.semantics_values.specs.declared.entry.KeyAt.{KeyAt}
use Rattle.semantics_values.specs.declared.entry.KeyAt.TheVariants.{Whole, Rest, At}
use Rattle.semantics_values.specs.declared.entry.Line.{Line}
use Rattle.semantics.specs.Entries.{given_rest}
use Rattle.abstract_value_laws.specs.Abs.{Abs, Cases, made, no_case, present, part}
use Rattle.domain_laws.specs.declared.field.Field.{Field}
use Rattle.domain_laws.specs.declared.field.Field.TheVariants as field
use Rattle.domain_laws.specs.States.{StateType}
use Rattle.domain_laws.specs.Calls.{behind_first, cell_calls, fields_of}
use Rattle.domain_laws.specs.Cells.{cells}
use Rattle.domain_laws.specs.Entry.{entry_values, given_cell, map_of, with_cell, with_cells}
use Rattle.analysis_table_laws.specs.Domains.{ElementsKeep}
use Rattle.analysis_table_laws.specs.Notes.{NotesKeep}
use Rattle.analysis_table_laws.specs.Values.{CaseMapsAre, HasNotes, MapHasNotes, PartsHaveNotes}
use Rattle.analysis_table_laws.proofs.Maps.{joined_noted, updated_noted, widened_noted}
use Rattle.analysis_table_laws.proofs.Merged.{joined_parts, widened_parts}

module _ {W N C : Type 0} (B : Algebra W N C) (c : C) (cap : ℕ) (code : ℕ → Bool) (F : N → Type 0) (notes : NotesKeep B.notes code F) where
  -- ---- an entry
  cell_noted : (m : ℕ) (key : KeyAt) (g : GivenNumber) (x : Map W N) → MapHasNotes F m x → MapHasNotes F m (with_cell B c cap key g x)
  cell_noted m Whole g x h = h
  cell_noted m Rest g x h = h
  cell_noted m (At k) g x h = updated_noted B c code F notes cap m x (one k) (given_cell B c x.width g) h notes.entry

  cells_noted : (m n : ℕ) (lines : List Line) (x : Map W N) → MapHasNotes F m x → MapHasNotes F m (with_cells B c cap n lines x)
  cells_noted m n [] x h = h
  cells_noted m n (l ∷ lines) x h =
      at_choice (MapHasNotes F m) (l.field == n) (with_cell B c cap l.key l.given (with_cells B c cap n lines x)) (with_cells B c cap n lines x)
      (λ e. cell_noted m l.key l.given (with_cells B c cap n lines x) (cells_noted m n lines x h)) (λ e. cells_noted m n lines x h)

  entry_noted : (lines : List Line) (n : ℕ) (fields : List Field) → PartsHaveNotes F (entry_values B c cap lines n fields)
  entry_noted lines n [] = tt
  entry_noted lines n (field.Word w ∷ fields) = (tt, entry_noted lines (suc n) fields)
  entry_noted lines n (field.Map m keys width default ∷ fields) =
      (cells_noted m n lines (map_of B c width (given_rest lines n default)) (notes.entry, tt), entry_noted lines (suc n) fields)

  -- ---- a state that closes
  behind_noted : (cs : Cases W N) → CaseMapsAre (MapHasNotes F) cs → PartsHaveNotes F (behind_first cs)
  behind_noted (present (part counter xs) no_case) h = h.0.1
  behind_noted _ h = tt

  fields_noted : (x : Abs W N) → HasNotes F x → PartsHaveNotes F (fields_of x)
  fields_noted (made ty cs) h = behind_noted cs h
  fields_noted _ h = tt

  pub cells_keep : (t : StateType) → ElementsKeep (cells B c cap t.fields) (cell_calls B c cap t) F (PartsHaveNotes F)
  cells_keep t = record {
    entry = λ lines. entry_noted lines 1 t.fields;
    opened = λ pc x h. ((tt, h), tt);
    closed = λ before value k h. fields_noted value h;
    join = λ x y h k. joined_parts B c cap (MapHasNotes F) (λ m x y h k. joined_noted B c code F notes cap m x y h k) x y h k;
    widen = λ x y h k. widened_parts B c (MapHasNotes F) (λ m x y h k. widened_noted B c code F notes m x y h k) x y h k;
    same = λ x y e h. subst (PartsHaveNotes F) e h;
  }
