-- What a table has whose text tells it, beside what an image asks of it.
use Rattle.std.specs.Prelude.{◌≡◌, ℕ, ◌<◌, ◌^◌, Some, IfSome}
use Rattle.base_trait.specs.Lists.{Each, IsAmong}
use Rattle.base_trait.specs.Uses.{Seen}
use Rattle.spec_ir.specs.declared.ty.Ty.TheVariants.{Map as MapOf}
use Rattle.spec_ir.specs.Environment.{key_type}
use Rattle.spec_ir.specs.Specification.{Spec}
use Rattle.semantics_values.specs.Types.{environment_of, key_count}
use Rattle.fixpoint_theory.specs.Table.{Listing, Listings}
use Rattle.domain_laws.specs.States.{state_type, state_types}
use Rattle.analysis_transfer_laws.specs.Uses.{AreInOrder}
use Rattle.analysis_table_laws.specs.Notes.{HasStamps}

module _ (spec : Spec) where
  -- A use of a cell of states: of a map that is a field, at a key of its type or at any. It lists stamps.
  pub record IsUseOf (u : Seen) : Type 0 where
    pub field : IsAmong (MapOf u.of_map) (state_types spec)
    pub key : IfSome u.key (λ k. k < key_count (environment_of spec) (key_type (environment_of spec) u.of_map))
    pub stamps : HasStamps u

  module _ {E : Type 0} (K : E → Type 0) where
    -- The element has the property, exits have 32 bits, and uses are of cells of states, one a cell, in the order of the state's fields;
    -- the stamps of each ascend.
    pub record IsPrintable (b : Listing E) : Type 0 where
      pub elem : K b.elem
      pub exits : Each (λ to. to < 2 ^ 32) b.exits
      pub uses : Each IsUseOf b.uses
      pub order : AreInOrder (state_type spec).fields b.uses

    -- So is each block.
    abbrev pub IsPrintableTable : Listings E → Type 0
    IsPrintableTable t = (at : ℕ) (b : Listing E) → t at ≡ Some b → IsPrintable b
