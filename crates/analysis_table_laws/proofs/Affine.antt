-- Elements of affine relations have no notes, and values over their base have notes that tell nothing.
use Rattle.std.proofs.Common.{ℕ, Bool, List, [], ◌∷◌}
use Rattle.base_trait.specs.Lists.{Each}
use Rattle.abstract_map_laws.specs.declared.cell.AbstractCell.{AbstractCell}
use Rattle.abstract_value_laws.specs.Abs.{Abs, Cases, Parts, flag, word, made, map, no_case, absent, present, no_part, part}
use Rattle.domain_laws.specs.States.{StateType}
use Rattle.domain_affine_laws.specs.Calls.{affine_calls, affine_elements}
use Rattle.analysis_table_laws.specs.Domains.{ElementsKeep, HasNone}
use Rattle.analysis_table_laws.specs.Notes.{TellsNothing}
use Rattle.analysis_table_laws.specs.Values.{CaseMapsAre, HasNotes, MapHasNotes, PartMapsAre}

-- what holds of every note holds of those of every value
module _ {W N : Type 0} (F : N → Type 0) (every : (note : N) → F note) where
  each_cell : (es : List (ℕ × AbstractCell W N)) → Each (λ e. F e.1.note) es
  each_cell [] = tt
  each_cell (e ∷ es) = (every e.1.note, each_cell es)

  mutual
    pub all_noted : (x : Abs W N) → HasNotes F x
    all_noted (flag t) = tt
    all_noted (word w x) = tt
    all_noted (made t cs) = all_cases cs
    all_noted (map m x) = (every x.rest.note, each_cell x.cells)

    all_cases : (cs : Cases W N) → CaseMapsAre (MapHasNotes F) cs
    all_cases no_case = tt
    all_cases (absent cs) = all_cases cs
    all_cases (present xs cs) = (all_parts xs, all_cases cs)

    all_parts : (xs : Parts W N) → PartMapsAre (MapHasNotes F) xs
    all_parts no_part = tt
    all_parts (part x xs) = (all_noted x, all_parts xs)

pub relations_keep : (t : StateType) (code : ℕ → Bool) → ElementsKeep (affine_elements t) (affine_calls t) (TellsNothing code) HasNone
relations_keep t code = record {
  entry = λ lines. tt;
  opened = λ pc x h. all_noted (TellsNothing code) (λ note. tt) ((affine_calls t).opened pc x);
  closed = λ before value k h. tt;
  join = λ x y h k. tt;
  widen = λ x y h k. tt;
  same = λ x y e h. tt;
}
