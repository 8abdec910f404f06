-- Elements of cells are cut as their words are.
use Rattle.std.proofs.Common.{◌≡◌, ℕ, zero, suc, refl, subst, List, [], Option, Some, None, arith, IsTrue}
use Rattle.std.specs.Prelude.{IfSome, IsSomeAnd}
use Rattle.base_trait.specs.Algebra.{Algebra}
use Rattle.base_trait.specs.Laws.{Laws}
use Rattle.base_trait.specs.Lists.{AreAmong}
use Rattle.semantics_values.specs.declared.entry.KeyAt.{KeyAt}
use Rattle.semantics_values.specs.States.{State}
use Rattle.semantics_values.specs.Values.{vals}
use Rattle.abstract_value_laws.specs.Abs.{Parts}
use Rattle.abstract_value_laws.specs.Describes.{PartsDescribe}
use Rattle.abstract_value_laws.specs.Shapes.{PartsList}
use Rattle.domain_laws.specs.declared.field.Field.{Field}
use Rattle.domain_laws.specs.Values.{FieldsFit}
use Rattle.domain_laws.specs.Cells.{cells, part_stamps}
use Rattle.domain_laws.proofs.Stamps.{all_among, parts_from, parts_to}
use Rattle.base_cuts.specs.Cuts.{CutLaws, Cuts}
use Rattle.fixpoint_cases.specs.Same.{IsSamePiece}
use Rattle.domain_cell_pieces.specs.Laws.{CellsAreCut}
use Rattle.domain_laws.specs.Pieces.{field_number}
use Rattle.domain_cell_pieces.specs.Pieces.{field_piece}
use Rattle.domain_cell_pieces.proofs.Values.{Lies, values_describe, values_fit, values_list}

module _ {W N C : Type 0} (B : Algebra W N C) (L : Laws W N C B) (K : Cuts W C) (cut : CutLaws B.words K) (joins : IsTrue B.joins) (c : C) (cap : ℕ) (fields : List Field) where
  piece_fits : (n : ℕ) (key : KeyAt) (low high : ℕ) (xs : Parts W N) → FieldsFit B c cap fields xs → IfSome (field_piece B K c cap fields n key low high xs) (FieldsFit B c cap fields)
  piece_fits zero key low high xs h = h
  piece_fits (suc n) key low high xs h = values_fit B L K cut joins c cap fields n key low high xs h

  piece_lists : (n : ℕ) (key : KeyAt) (low high : ℕ) (xs : Parts W N) → IfSome (field_piece B K c cap fields n key low high xs) (λ ys. AreAmong (part_stamps B ys) (part_stamps B xs))
  piece_lists zero key low high xs = all_among (part_stamps B xs)
  piece_lists (suc n) key low high xs = shown (field_piece B K c cap fields (suc n) key low high xs)
      (values_list B L K cut joins c cap (part_stamps B xs) fields n key low high xs (parts_to B (part_stamps B xs) xs (all_among (part_stamps B xs))))
    where
      shown : (o : Option (Parts W N)) → IfSome o (PartsList B (part_stamps B xs)) → IfSome o (λ ys. AreAmong (part_stamps B ys) (part_stamps B xs))
      shown None h = tt
      shown (Some ys) h = parts_from B (part_stamps B xs) ys h

  piece_holds : (n : ℕ) (key : KeyAt) (low high : ℕ) (xs : Parts W N) (s : State) → FieldsFit B c cap fields xs → PartsDescribe B [] xs (vals s.parts) → Lies B L K cut joins c cap low high (field_number n key s)
      → IsSomeAnd (field_piece B K c cap fields n key low high xs) (λ ys. PartsDescribe B [] ys (vals s.parts))
  piece_holds zero key low high xs s fit d lies = d
  piece_holds (suc n) key low high xs s fit d lies = values_describe B L K cut joins c cap [] fields n key low high xs (vals s.parts) fit.1 d lies

  -- There is one way to write an element of cells, so that the same is equality.
  same_pieces : (n : ℕ) (key : KeyAt) (low high : ℕ) (xs ys : Parts W N) → xs ≡ ys → IsSamePiece (cells B c cap fields) (field_piece B K c cap fields n key low high xs) (field_piece B K c cap fields n key low high ys)
  same_pieces n key low high xs ys same = subst (λ zs. IsSamePiece (cells B c cap fields) (field_piece B K c cap fields n key low high xs) (field_piece B K c cap fields n key low high zs)) same
      (itself (field_piece B K c cap fields n key low high xs))
    where
      itself : (o : Option (Parts W N)) → IsSamePiece (cells B c cap fields) o o
      itself None = tt
      itself (Some zs) = refl

pub cells_are_cut : {W N C : Type 0} (B : Algebra W N C) → Laws W N C B → CellsAreCut B
cells_are_cut B L K cut joins c cap fields = record {
  laws = record {
    number_fits = λ place s. omega arith;
    piece_fits = λ place low high xs fit. piece_fits B L K cut joins c cap fields place.0 place.1 low high xs fit;
    piece_lists = λ place low high xs fit. piece_lists B L K cut joins c cap fields place.0 place.1 low high xs;
    piece_holds = λ place low high xs s fit holds a b. piece_holds B L K cut joins c cap fields place.0 place.1 low high xs s fit holds (record { above = a; below = b });
  };
  alike = λ place low high xs ys fx fy same. same_pieces B L K cut joins c cap fields place.0 place.1 low high xs ys same;
}
