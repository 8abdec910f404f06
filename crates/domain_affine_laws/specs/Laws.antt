-- What holds of elements of affine relations as a domain.
use Rattle.std.specs.Prelude.{◌≡◌, ℕ, ◌≤◌, List, [], length, map as map_of, Some, None, IsTrue, slice_get, ◌⊎◌}
use Rattle.std.specs.List.{range_with_len}
use Rattle.base_trait.specs.Lists.{Each, IsAmong}
use Rattle.spec_ir.specs.declared.ty.Ty.{Ty}
use Rattle.spec_ir.specs.Environment.{Environment}
use Rattle.spec_ir.specs.Specification.{Spec}
use Rattle.semantics_values.specs.declared.entry.KeyAt.{KeyAt}
use Rattle.semantics_values.specs.declared.entry.KeyAt.TheVariants.{At}
use Rattle.domain_affine_base.specs.Meaning.{affine}
use Rattle.domain_affine_base.specs.declared.word.Word.{Word}
use Rattle.domain_affine_element_laws.specs.Tracked.{cells_of, map_cells, tracked_of}
use Rattle.domain_laws.specs.declared.field.Field.{Field}
use Rattle.domain_laws.specs.declared.field.Field.TheVariants.{Map}
use Rattle.domain_laws.specs.Domain.{DomainLaws}
use Rattle.domain_laws.specs.Entries.{field_at}
use Rattle.domain_laws.specs.States.{StateType, fields_of}
use Rattle.domain_affine_laws.specs.Calls.{affine_calls, affine_elements, is_for}
use Rattle.domain_affine_laws.specs.Opened.{opened_cells, tracked_word}
use Rattle.domain_affine_laws.specs.Tracked.{cells_in}

-- They are a domain for each specification that they are for, where a map may list 64 cells.
abbrev pub AffineKeepsTheLaws : Type 0
AffineKeepsTheLaws = (cap : ℕ) (t : StateType) (spec : Spec) → 64 ≤ cap → IsTrue (is_for t spec) → DomainLaws affine cap spec (affine_elements t) (affine_calls t)

-- The tracked cells of fields are those of their types.
abbrev pub TypesAreTracked : Type 0
TypesAreTracked = (env : Environment) (types : List Ty) → cells_in (fields_of env types) ≡ tracked_of (map_of (cells_of env) types)

-- A tracked cell has the word at its place.
abbrev pub CellsHaveTheirWords : Type 0
CellsHaveTheirWords =
    (fields : List Field) (words : List Word) (i : ℕ) (cell : ℕ × KeyAt) → slice_get (cells_in fields) i ≡ Some cell
    → tracked_word (cells_in fields) words cell.0 cell.1 ≡ slice_get words i

-- A cell that is not tracked has none.
abbrev pub OthersHaveNone : Type 0
OthersHaveNone =
    (fields : List Field) (words : List Word) (n : ℕ) (key : KeyAt) → (IsAmong {A = ℕ × KeyAt} (n, key) (cells_in fields) → ⊥) → tracked_word (cells_in fields) words n key ≡ None

module _ (fields : List Field) (words : List Word) (n keys width : ℕ) where
  -- each key is tracked, and all are listed in their order
  abbrev pub IsWhole : Type 0
  IsWhole =
      Each (λ k. IsAmong {A = ℕ × KeyAt} (n, At k) (cells_in fields)) (range_with_len 0 keys)
      × (map_of (λ e. e.0) (opened_cells (cells_in fields) words n (map_cells keys width)) ≡ range_with_len 0 keys)

  -- no key is tracked, and none is listed
  abbrev pub IsFree : Type 0
  IsFree = ((k : ℕ) → IsAmong {A = ℕ × KeyAt} (n, At k) (cells_in fields) → ⊥) × (opened_cells (cells_in fields) words n (map_cells keys width) ≡ [])

-- A map lists all its keys, where they are tracked, or none.
abbrev pub OpensWholeMaps : Type 0
OpensWholeMaps =
    (fields : List Field) (words : List Word) (n m keys width default : ℕ) → length words ≡ length (cells_in fields) → field_at fields n ≡ Some (Map m keys width default)
    → IsWhole fields words n keys width ⊎ IsFree fields words n keys width
