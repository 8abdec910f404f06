-- The text of a block.
use Rattle.std.specs.Prelude.{◌≡◌, ℕ, ◌==◌, Bool, false, List, [], ◌∷◌, ◌++◌, Option, Some, None, codes, map, if◌then◌else◌}
use Rattle.base_trait.specs.declared.uses.Stamp.{Stamp}
use Rattle.base_trait.specs.Uses.{Seen}
use Rattle.spec_ir.specs.declared.ty.Ty.{Ty}
use Rattle.spec_ir.specs.declared.ty.Ty.TheVariants.{Map as MapOf}
use Rattle.spec_ir.specs.Specification.{Spec}
use Rattle.semantics_values.specs.declared.entry.KeyAt.{KeyAt}
use Rattle.semantics_values.specs.declared.entry.KeyAt.TheVariants.{Rest, At}
use Rattle.fixpoint_theory.specs.Table.{Listing}
use Rattle.state_cell_text.specs.Keys.{cell_text}
use Rattle.state_cell_text.specs.Places.{Field, state_fields}
use Rattle.text_words.specs.Lists.{behind_spaces}
use Rattle.text_words.specs.Notes.{stamps_text}
use Rattle.text_words.specs.Words.{number}

-- ---- addresses

-- each behind a space, and all behind a word; nothing, where there are none
abbrev pub addresses_line : List ℕ → List ℕ → List ℕ
addresses_line what [] = []
addresses_line what (at ∷ addresses) = what ++ (behind_spaces (map (number 32) (at ∷ addresses)) ++ codes "\n")

abbrev pub at_line : ℕ → List ℕ
at_line at = codes "at " ++ (number 32 at ++ codes "\n")

-- ---- uses

abbrev pub is_map : ℕ → Ty → Bool
is_map n (MapOf m) = m == n
is_map n _ = false

-- the first field of a map type
abbrev pub field_of_map : ℕ → List Field → Option Field
field_of_map n [] = None
field_of_map n (f ∷ fields) = if is_map n f.1 then Some f else field_of_map n fields

-- a key, or any
abbrev pub part_read : Option ℕ → KeyAt
part_read None = Rest
part_read (Some key) = At key

module _ (spec : Spec) where
  -- the cell that is read, and the stamps that it may have
  abbrev pub use_of : Option Field → Option ℕ → List Stamp → List ℕ
  use_of None key stamps = []
  use_of (Some f) key stamps = codes "use " ++ (cell_text spec f (part_read key) ++ (stamps_text stamps ++ codes "\n"))

  -- a use of a map that is a field
  abbrev pub use_line : Seen → List ℕ
  use_line u = use_of (field_of_map u.of_map (state_fields spec)) u.key u.stamps

  abbrev pub use_lines : List Seen → List ℕ
  use_lines [] = []
  use_lines (u ∷ uses) = use_line u ++ use_lines uses

  -- what stands behind the element: the uses, the next addresses and the exits
  abbrev pub end_lines : List Seen → List ℕ → List ℕ → List ℕ
  end_lines uses next exits = use_lines uses ++ (addresses_line (codes "next") next ++ addresses_line (codes "exit") exits)

-- The text of a block, where texts of elements are these: the address, the element, and what stands behind it.
pub record IsBlock {E : Type 0} (IsElement : E → List ℕ → Type 0) (spec : Spec) (at : ℕ) (b : Listing E) (text : List ℕ) : Type 0 where
  pub element : List ℕ
  pub is_element : IsElement b.elem element
  pub lines : text ≡ at_line at ++ (element ++ end_lines spec b.uses b.next b.exits)
