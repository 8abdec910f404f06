-- Elements of cells: the abstract values of the fields of a state but the counter. Each call goes value by value.
use Rattle.std.specs.Prelude.{◌≡◌, ℕ, List, [], ◌∷◌, ◌++◌}
use Rattle.base_trait.specs.Algebra.{Algebra}
use Rattle.base_trait.specs.declared.uses.Stamp.{Stamp}
use Rattle.abstract_map_laws.specs.declared.cell.AbstractCell.{AbstractCell}
use Rattle.abstract_map_laws.specs.Maps.{Map}
use Rattle.semantics_values.specs.States.{State}
use Rattle.semantics_values.specs.Values.{vals}
use Rattle.abstract_value_laws.specs.Abs.{Abs, Cases, Parts, flag, word, made, map, no_case, absent, present, no_part, part}
use Rattle.abstract_value_laws.specs.Calls.{absorbs_parts, join_parts, widen_parts}
use Rattle.abstract_value_laws.specs.Describes.{PartsDescribe}
use Rattle.abstract_value_laws.specs.Shapes.{PartShapes, Shape, field_then, maps, no_field, parts_height, parts_rank, words}
use Rattle.fixpoint_theory.specs.Elements.{Elements}
use Rattle.domain_laws.specs.declared.field.Field.{Field}
use Rattle.domain_laws.specs.declared.field.Field.TheVariants as field
use Rattle.domain_laws.specs.Values.{FieldsFit}

-- the shape of a field's values
abbrev pub shape_of : Field → Shape
shape_of (field.Word w) = words w
shape_of (field.Map m keys width default) = maps m width

abbrev pub shapes_of : List Field → PartShapes
shapes_of [] = no_field
shapes_of (f ∷ fields) = field_then (shape_of f) (shapes_of fields)

module _ {W N C : Type 0} (B : Algebra W N C) where
  -- ---- the stamps that values list
  abbrev pub cell_stamps : List (ℕ × AbstractCell W N) → List Stamp
  cell_stamps [] = []
  cell_stamps (e ∷ es) = B.notes.listed e.1.note ++ cell_stamps es

  abbrev pub map_stamps : Map W N → List Stamp
  map_stamps m = B.notes.listed m.rest.note ++ cell_stamps m.cells

  abbrev mutual
    pub value_stamps : Abs W N → List Stamp
    value_stamps (flag t) = []
    value_stamps (word w x) = []
    value_stamps (made ty cs) = case_stamps cs
    value_stamps (map m x) = map_stamps x

    pub case_stamps : Cases W N → List Stamp
    case_stamps no_case = []
    case_stamps (absent cs) = case_stamps cs
    case_stamps (present xs cs) = part_stamps xs ++ case_stamps cs

    pub part_stamps : Parts W N → List Stamp
    part_stamps no_part = []
    part_stamps (part x xs) = value_stamps x ++ part_stamps xs

-- Elements of these fields. No cell is tracked, so the valuation is empty.
module _ {W N C : Type 0} (B : Algebra W N C) (c : C) (cap : ℕ) (fields : List Field) where
  abbrev pub cells : Elements (Parts W N) State
  cells = record {
    holds = λ x s. PartsDescribe B [] x (vals s.parts);
    fits = FieldsFit B c cap fields;
    same = λ x y. x ≡ y;
    join = join_parts B c cap;
    widen = widen_parts B c;
    absorbs = absorbs_parts B c;
    listed = part_stamps B;
    rank = λ stamps. parts_rank B cap c stamps (shapes_of fields);
    height = λ n. parts_height B cap n (shapes_of fields);
  }
