-- The calls of a domain on elements of affine relations.
use Rattle.std.specs.Prelude.{ℕ, Bool, ◌&&◌, List, length}
use Rattle.support_modular_rows.specs.Submodule.{Submodule}
use Rattle.spec_ir.specs.Specification.{Spec}
use Rattle.semantics_values.specs.declared.entry.KeyAt.{KeyAt}
use Rattle.semantics_values.specs.States.{State}
use Rattle.fixpoint_theory.specs.Elements.{Elements}
use Rattle.domain_laws.specs.Domain.{Meaning}
use Rattle.domain_laws.specs.States.{StateType, has_states, same_states, state_type}
use Rattle.domain_laws.specs.Calls.{fields_of, made_state}
use Rattle.domain_affine_base.specs.declared.word.Word.{Word}
use Rattle.domain_affine_base.specs.declared.word.Word.TheVariants.{Const}
use Rattle.domain_affine_element_laws.specs.Closed.{closed_of}
use Rattle.domain_affine_element_laws.specs.Elements.{submodules}
use Rattle.domain_affine_element_laws.specs.Ranks.{rank_of}
use Rattle.domain_affine_element_laws.specs.Entry.{entry_of}
use Rattle.domain_affine_element_laws.specs.Tracked.{valuation_of}
use Rattle.domain_affine_laws.specs.Closed.{closed_words}
use Rattle.domain_affine_laws.specs.Entry.{entry_words}
use Rattle.domain_affine_laws.specs.Opened.{opened_values, opened_words}
use Rattle.domain_affine_laws.specs.Tracked.{tracked_cells}

module _ (t : StateType) where
  -- how many cells are tracked
  abbrev pub cell_count : ℕ
  cell_count = length (tracked_cells t)

  -- Elements over the tracked cells of the fields.
  abbrev pub affine_elements : Elements Submodule State
  affine_elements = submodules cell_count (valuation_of (tracked_cells t))

  -- The counter of an opened state is a constant, and closing drops it. There are no notes.
  abbrev pub affine_calls : Meaning Submodule Word (Unit {0}) (List (ℕ × KeyAt))
  affine_calls = record {
    context = tracked_cells t;
    valuation = valuation_of (tracked_cells t);
    entry = λ lines. entry_of cell_count (entry_words lines t.fields (tracked_cells t));
    opened = λ pc x. made_state t.number (Const pc) (opened_values (tracked_cells t) (opened_words cell_count x.rows) 1 t.fields);
    closed = λ before value. closed_of cell_count (closed_words (tracked_cells t) (fields_of value)) before;
    rank = λ x. rank_of cell_count x.rows;
  }

-- Whether elements with the states of this type are a domain for a specification: its states have this type.
abbrev pub is_for : StateType → Spec → Bool
is_for t spec = has_states spec && same_states t (state_type spec)
