-- Elements of cells are elements of an analysis.
use Rattle.std.proofs.Common.{◌≡◌, ℕ, ◌≤◌, ◌<◌, Bool, true, false, List, [], ◌++◌, length, refl, sym, ap, ap₂, subst, ◌∙◌, arith, IsTrue, inl}
use Rattle.std.specs.Prelude.{◌&&◌}
use Rattle.base_trait.specs.Algebra.{Algebra}
use Rattle.base_trait.specs.Laws.{Laws}
use Rattle.base_trait.specs.Lists.{AreAmong}
use Rattle.base_trait.specs.declared.uses.Stamp.{Stamp}
use Rattle.base_trait.proofs.Tests.{and_both, and_parts}
use Rattle.abstract_map_laws.specs.Laws.{HasRoom}
use Rattle.semantics_values.specs.States.{State}
use Rattle.semantics_values.specs.Values.{vals}
use Rattle.abstract_value_laws.specs.Abs.{Abs, Parts, made, no_case, present, no_part, part}
use Rattle.abstract_value_laws.specs.Calls.{absorbs_parts, join_parts, widen_parts}
use Rattle.abstract_value_laws.specs.Fits.{PartsFit}
use Rattle.abstract_value_laws.specs.Shapes.{HasShape, PartShapes, PartsHave, Shape, case_then, datas, field_then, no_field, no_more, parts_height, parts_rank}
use Rattle.abstract_value_laws.proofs.Absorbing.{parts_describe, parts_itself, parts_on}
use Rattle.abstract_value_laws.proofs.Joining as joining
use Rattle.abstract_value_laws.proofs.Ranks as ranks
use Rattle.abstract_value_laws.proofs.Widening as widening
use Rattle.fixpoint_theory.specs.Elements.{ElementLaws, Elements}
use Rattle.domain_laws.specs.declared.field.Field.{Field}
use Rattle.domain_laws.specs.Values.{FieldsFit}
use Rattle.domain_laws.specs.Cells.{cells, part_stamps, shapes_of}
use Rattle.domain_laws.proofs.Kept.{have_shapes, join_are, widen_are}
use Rattle.domain_laws.proofs.Stamps.{all_among, all_left, all_right, parts_from, parts_to}

with_true : (p : Bool) → IsTrue p → IsTrue (p && true)
with_true p h = and_both p true h refl

from_true : (p : Bool) → IsTrue (p && true) → IsTrue p
from_true p h = (and_parts p true h).0

-- an element as the one tuple of a value
module _ {W N : Type 0} where
  abbrev whole : Parts W N → Abs W N
  whole xs = made 0 (present xs no_case)

  abbrev unwrapped : Abs W N → Parts W N
  unwrapped (made ty (present xs cs)) = xs
  unwrapped _ = no_part

abbrev whole_shape : List Field → Shape
whole_shape fields = datas 0 (case_then (shapes_of fields) no_more)

module _ {W N C : Type 0} (B : Algebra W N C) (L : Laws W N C B) (c : C) (cap : ℕ) (fields : List Field) where
  shaped : (x : Parts W N) → FieldsFit B c cap fields x → HasShape (whole_shape fields) (whole x)
  shaped x fit = (refl, (have_shapes fields x fit.0, tt))

  parts_bound : (stamps : List Stamp) (ss : PartShapes) (xs : Parts W N) → PartsFit B c cap xs → PartsHave ss xs → parts_rank B cap c stamps ss xs ≤ parts_height B cap (length stamps) ss
  parts_bound stamps no_field no_part fit h = omega arith
  parts_bound stamps (field_then s ss) (part x xs) fit h =
      let here = ranks.rank_height B L c cap stamps s x fit.0 h.0 in
      let later = parts_bound stamps ss xs fit.1 h.1 in
      omega (arith, here, later)
  parts_bound stamps _ _ fit h = absurd h

  pub joined_fit : (x y : Parts W N) → HasRoom B cap → FieldsFit B c cap fields x → FieldsFit B c cap fields y → FieldsFit B c cap fields (join_parts B c cap x y)
  joined_fit x y room fx fy = (join_are B c cap fields x y fx.0 fy.0, joining.parts_fit B L c cap room x y fx.1 fy.1)

  pub widened_fit : (x y : Parts W N) → FieldsFit B c cap fields x → FieldsFit B c cap fields y → FieldsFit B c cap fields (widen_parts B c x y)
  widened_fit x y fx fy = (widen_are B c fields x y fx.0 fy.0, (widening.widen_fits B L c cap (whole x) (whole y) (fx.1, tt) (fy.1, tt)).0)

  module _ (joins : IsTrue B.joins) where
    abbrev D : Elements (Parts W N) State
    D = cells B c cap fields

    join_over : (x y : Parts W N) → D.fits x → D.fits y → IsTrue (D.absorbs (D.join x y) x) × IsTrue (D.absorbs (D.join x y) y)
    join_over x y fx fy =
        let h = joining.join_absorbs B L c cap (whole_shape fields) (whole x) (whole y) joins (fx.1, tt) (fy.1, tt) (shaped x fx) (shaped y fy) in
        (from_true (absorbs_parts B c (join_parts B c cap x y) x) h.0, from_true (absorbs_parts B c (join_parts B c cap x y) y) h.1)

    widen_over : (x y : Parts W N) → D.fits x → D.fits y → IsTrue (D.absorbs (D.widen x y) x) × IsTrue (D.absorbs (D.widen x y) y)
    widen_over x y fx fy =
        let h = widening.widen_absorbs B L c cap (whole_shape fields) (whole x) (whole y) joins (fx.1, tt) (fy.1, tt) (shaped x fx) (shaped y fy) in
        (from_true (absorbs_parts B c (widen_parts B c x y) x) h.0, from_true (absorbs_parts B c (widen_parts B c x y) y) h.1)

    widen_same : (x y : Parts W N) → D.fits x → D.fits y → IsTrue (D.absorbs x y) → D.widen x y ≡ x
    widen_same x y fx fy h = ap unwrapped (widening.widen_keeps B L c cap (whole x) (whole y) joins (fx.1, tt) (fy.1, tt) (with_true (absorbs_parts B c x y) h))

    widen_less : (stamps : List Stamp) (x y : Parts W N) → D.fits x → D.fits y → AreAmong (D.listed x) stamps → AreAmong (D.listed y) stamps
        → D.absorbs x y ≡ false → D.rank stamps (D.widen x y) < D.rank stamps x
    widen_less stamps x y fx fy lx ly e =
        let falls = ranks.widen_falls B L c cap stamps (whole_shape fields) (whole x) (whole y) joins (fx.1, tt) (fy.1, tt) (shaped x fx) (shaped y fy)
        (parts_to B stamps x lx, tt) (parts_to B stamps y ly, tt) (ap (λ p. p && true) e) in
        omega (arith, falls)

    join_list : (x y : Parts W N) → AreAmong (D.listed (D.join x y)) (D.listed x ++ D.listed y)
    join_list x y =
        let stamps = part_stamps B x ++ part_stamps B y in
        parts_from B stamps (join_parts B c cap x y)
        (joining.join_lists B L c cap stamps (whole x) (whole y) (parts_to B stamps x (all_left (part_stamps B x) (part_stamps B y)), tt) (parts_to B stamps y (all_right (part_stamps B x) (part_stamps B y)), tt)).0

    widen_list : (x y : Parts W N) → AreAmong (D.listed (D.widen x y)) (D.listed x ++ D.listed y)
    widen_list x y =
        let stamps = part_stamps B x ++ part_stamps B y in
        parts_from B stamps (widen_parts B c x y)
        (widening.widen_lists B L c stamps (whole x) (whole y) (parts_to B stamps x (all_left (part_stamps B x) (part_stamps B y)), tt) (parts_to B stamps y (all_right (part_stamps B x) (part_stamps B y)), tt)).0

    pub cell_element_laws : ElementLaws (cells B c cap fields)
    cell_element_laws = record {
      join_fits = λ x y fx fy. joined_fit x y (inl joins) fx fy;
      widen_fits = λ x y fx fy. widened_fit x y fx fy;
      join_absorbs = join_over;
      widen_absorbs = widen_over;
      absorbs_itself = λ x fx. parts_itself B L c cap x fx.1;
      absorbs_on = λ x y z fx fy fz h k. parts_on B L c cap x y z fx.1 fy.1 fz.1 h k;
      absorbs_holds = λ old new s fo fn h holds. parts_describe B L c cap [] (vals s.parts) old new fo.1 fn.1 h holds;
      widen_keeps = widen_same;
      widen_falls = widen_less;
      rank_height = λ stamps x fx. parts_bound stamps (shapes_of fields) x fx.1 (have_shapes fields x fx.0);
      join_lists = λ x y fx fy. join_list x y;
      widen_lists = λ x y fx fy. widen_list x y;
      same_itself = λ x. refl;
      same_back = λ x y h. sym h;
      same_on = λ x y z h k. h ∙ k;
      same_join = λ x x' y y' fx fx' fy fy' h k. ap₂ (join_parts B c cap) h k;
      same_widen = λ x x' y y' fx fx' fy fy' h k. ap₂ (widen_parts B c) h k;
      same_absorbs = λ x x' y y' fx fx' fy fy' h k. ap₂ (absorbs_parts B c) h k;
      same_lists = λ x y h. subst (λ z. AreAmong (part_stamps B x) (part_stamps B z)) h (all_among (part_stamps B x));
      same_rank = λ stamps x y fx fy h. ap (parts_rank B cap c stamps (shapes_of fields)) h;
    }
