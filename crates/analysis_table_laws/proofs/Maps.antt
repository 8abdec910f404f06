-- Calls on maps keep a property of notes.
use Rattle.std.proofs.Common.{ℕ, Bool}
use Rattle.base_trait.specs.Algebra.{Algebra}
use Rattle.abstract_map_laws.specs.declared.cell.AbstractCell.{AbstractCell}
use Rattle.abstract_map_laws.specs.Calls.{access_of, join_of, update_of, widen_of}
use Rattle.abstract_map_laws.specs.Cells.{join_cells, widen_cells}
use Rattle.abstract_map_laws.specs.Keys.{Keys}
use Rattle.abstract_map_laws.specs.Maps.{Map}
use Rattle.abstract_map_laws.proofs.Joining.{join_each}
use Rattle.abstract_map_laws.proofs.Reading.{access_each}
use Rattle.abstract_map_laws.proofs.Widening.{widen_each}
use Rattle.abstract_map_laws.proofs.Writing.{update_each}
use Rattle.analysis_table_laws.specs.Notes.{NotesKeep}
use Rattle.analysis_table_laws.specs.Values.{MapHasNotes}

module _ {W N C : Type 0} (B : Algebra W N C) (c : C) (code : ℕ → Bool) (F : N → Type 0) (keep : NotesKeep B.notes code F) where
  abbrev IsNoted : AbstractCell W N → Type 0
  IsNoted x = F x.note

  pub join_noted : (w : ℕ) (x y : AbstractCell W N) → F x.note → F y.note → F (join_cells B c w x y).note
  join_noted w x y h k = keep.join x.note y.note h k

  widen_noted : (w : ℕ) (x y : AbstractCell W N) → F x.note → F y.note → F (widen_cells B c w x y).note
  widen_noted w x y h k = keep.widen x.note y.note h k

  pub joined_noted : (cap m : ℕ) (x y : Map W N) → MapHasNotes F m x → MapHasNotes F m y → MapHasNotes F m (join_of B c cap x y)
  joined_noted cap m x y h k = join_each B c cap x y IsNoted (join_noted x.width) h k

  pub widened_noted : (m : ℕ) (x y : Map W N) → MapHasNotes F m x → MapHasNotes F m y → MapHasNotes F m (widen_of B c x y)
  widened_noted m x y h k = widen_each B c x y IsNoted (join_noted x.width) (widen_noted x.width) h k

  pub updated_noted : (cap m : ℕ) (x : Map W N) (ks : Keys) (z : AbstractCell W N) → MapHasNotes F m x → F z.note → MapHasNotes F m (update_of B c cap x ks z)
  updated_noted cap m x ks z h k = update_each B c cap x IsNoted (join_noted x.width) ks z h k

  pub accessed_noted : (m : ℕ) (x : Map W N) (ks : Keys) → MapHasNotes F m x → F (access_of B c x ks).note
  accessed_noted m x ks h = access_each B c x IsNoted (join_noted x.width) ks h
