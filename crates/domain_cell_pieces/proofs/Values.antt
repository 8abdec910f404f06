-- Pieces of values.
use Rattle.std.proofs.Common.{ℕ, zero, suc, ◌-◌, ◌≤◌, ◌^◌, List, [], ◌∷◌, Option, Some, None, option_map, arith, IsTrue, pow_mono}
use Rattle.std.specs.Prelude.{min, IfSome, IsSomeAnd}
use Rattle.base_trait.specs.Algebra.{Algebra}
use Rattle.base_trait.specs.Laws.{Laws}
use Rattle.base_trait.specs.declared.uses.Stamp.{Stamp}
use Rattle.abstract_map_laws.specs.Cells.{ListsOnly}
use Rattle.abstract_map_laws.specs.Maps as maps
use Rattle.abstract_map_laws.specs.Maps.{EachCell, Map}
use Rattle.semantics_values.specs.declared.entry.KeyAt.{KeyAt}
use Rattle.semantics_values.specs.declared.entry.KeyAt.TheVariants.{Whole, At}
use Rattle.semantics_values.specs.Values as v
use Rattle.semantics_values.specs.Values.{Val, Vals}
use Rattle.abstract_value_laws.specs.Abs.{Abs, Parts, word, map, no_part, part}
use Rattle.abstract_value_laws.specs.Describes.{Describes, PartsDescribe, held_at}
use Rattle.abstract_value_laws.specs.Fits.{Fits, PartsFit}
use Rattle.abstract_value_laws.specs.Shapes.{ListsStamps, PartsList}
use Rattle.domain_laws.specs.declared.field.Field.{Field}
use Rattle.domain_laws.specs.declared.field.Field.TheVariants as field
use Rattle.domain_laws.specs.Values.{FieldsFit, IsOf}
use Rattle.base_cuts.specs.Cuts.{CutLaws, Cuts}
use Rattle.domain_laws.specs.Pieces.{value_number, values_number}
use Rattle.domain_cell_pieces.specs.Pieces.{map_piece, value_piece, values_piece}
use Rattle.domain_cell_pieces.proofs.Maps.{IsMapOf, held_small, if_mapped, map_piece_describes, map_piece_fits, map_piece_lists, mapped_and}

module _ {W N C : Type 0} (B : Algebra W N C) (L : Laws W N C B) (K : Cuts W C) (cut : CutLaws B.words K) (joins : IsTrue B.joins) (c : C) (cap : ℕ) where
  -- ---- a value of a field
  abbrev IsValue : Field → Abs W N → Type 0
  IsValue f x = IsOf f x × Fits B c cap x

  value_fits : (f : Field) (key : KeyAt) (low high : ℕ) (x : Abs W N) → IsValue f x → IfSome (value_piece B K c cap f key low high x) (IsValue f)
  value_fits (field.Word w) Whole low high (word u x) h =
      if_mapped (word u) (λ y. B.words.fits c u y) (IsValue (field.Word w)) (K.meet c u x low high) (λ y fy. (h.0, (h.1.0, fy))) (cut.meet_fits c u low high x h.1.0 h.1.1)
  value_fits (field.Map m bound width default) (At k) low high (map n x) h =
      if_mapped (map n) (IsMapOf B L K cut joins c cap bound width) (IsValue (field.Map m bound width default)) (map_piece B K c cap bound k low high x)
      (λ y is. ((h.0.0, is.width_is, is.keyed), is.fits))
      (map_piece_fits B L K cut joins c cap bound width k low high x (record { width_is = h.0.1; keyed = h.0.2; fits = h.1 }))
  value_fits f key low high x h = h

  value_lists : (stamps : List Stamp) (f : Field) (key : KeyAt) (low high : ℕ) (x : Abs W N) → ListsStamps B stamps x → IfSome (value_piece B K c cap f key low high x) (ListsStamps B stamps)
  value_lists stamps (field.Word w) Whole low high (word u x) h = listed (K.meet c u x low high)
    where
      listed : (o : Option W) → IfSome (option_map (word u) o) (ListsStamps B stamps)
      listed None = tt
      listed (Some y) = tt
  value_lists stamps (field.Map m bound width default) (At k) low high (map n x) h =
      if_mapped (map n) (EachCell (ListsOnly B stamps)) (ListsStamps B stamps) (map_piece B K c cap bound k low high x) (λ y is. is) (map_piece_lists B L K cut joins c cap stamps bound k low high x h)
  value_lists stamps f key low high x h = h

  -- the number of the cell, which has 64 bits, lies between
  pub record Lies (low high n : ℕ) : Type 0 where
    pub above : low ≤ min n (2 ^ 64 - 1)
    pub below : min n (2 ^ 64 - 1) ≤ high

  value_describes : (valuation : List ℕ) (f : Field) (key : KeyAt) (low high : ℕ) (x : Abs W N) (p : Val) → Fits B c cap x → Describes B valuation x p → Lies low high (value_number key p)
      → IsSomeAnd (value_piece B K c cap f key low high x) (λ y. Describes B valuation y p)
  value_describes valuation (field.Word w) Whole low high (word u x) (v.word t n) fit d lies =
      let below = L.words.described_fits valuation u n x d.1 in
      let wide : 2 ^ u ≤ 2 ^ 64 = pow_mono fit.0.1 in
      let a = lies.above in let b = lies.below in
      mapped_and (word u) (λ y. B.words.describes valuation u n y) (λ y. Describes B valuation y (v.word t n)) (K.meet c u x low high) (λ y h. (d.0, h))
      (cut.meet_describes c valuation u low high n x fit.0 fit.1 d.1 (omega (arith, below, wide, a, b)) (omega (arith, below, wide, a, b)))
  value_describes valuation (field.Word w) Whole low high (word u x) _ fit d lies = absurd d
  value_describes valuation (field.Map m bound width default) (At k) low high (map n x) (v.map t rest cells) fit d lies =
      let small = held_small B L K cut joins c cap valuation (held_at rest cells) x k fit d.1 in
      let a = lies.above in let b = lies.below in
      mapped_and (map n) (maps.Describes B valuation (held_at rest cells)) (λ y. Describes B valuation y (v.map t rest cells)) (map_piece B K c cap bound k low high x) (λ y h. (d.0, h))
      (map_piece_describes B L K cut joins c cap valuation bound k low high (held_at rest cells) x fit d.1 (omega (arith, small, a, b)) (omega (arith, small, a, b)))
  value_describes valuation (field.Map m bound width default) (At k) low high (map n x) _ fit d lies = absurd d
  value_describes valuation f key low high x p fit d lies = d

  -- ---- the values of fields
  pub values_fit : (fields : List Field) (n : ℕ) (key : KeyAt) (low high : ℕ) (xs : Parts W N) → FieldsFit B c cap fields xs → IfSome (values_piece B K c cap fields n key low high xs) (FieldsFit B c cap fields)
  values_fit (f ∷ fields) zero key low high (part x xs) h =
      if_mapped (λ y. part y xs) (IsValue f) (FieldsFit B c cap (f ∷ fields)) (value_piece B K c cap f key low high x) (λ y k. ((k.0, h.0.1), (k.1, h.1.1))) (value_fits f key low high x (h.0.0, h.1.0))
  values_fit (f ∷ fields) (suc n) key low high (part x xs) h =
      if_mapped (part x) (FieldsFit B c cap fields) (FieldsFit B c cap (f ∷ fields)) (values_piece B K c cap fields n key low high xs) (λ ys k. ((h.0.0, k.0), (h.1.0, k.1))) (values_fit fields n key low high xs (h.0.1, h.1.1))
  values_fit _ n key low high xs h = h

  pub values_list : (stamps : List Stamp) (fields : List Field) (n : ℕ) (key : KeyAt) (low high : ℕ) (xs : Parts W N) → PartsList B stamps xs
      → IfSome (values_piece B K c cap fields n key low high xs) (PartsList B stamps)
  values_list stamps (f ∷ fields) zero key low high (part x xs) h =
      if_mapped (λ y. part y xs) (ListsStamps B stamps) (PartsList B stamps) (value_piece B K c cap f key low high x) (λ y k. (k, h.1)) (value_lists stamps f key low high x h.0)
  values_list stamps (f ∷ fields) (suc n) key low high (part x xs) h =
      if_mapped (part x) (PartsList B stamps) (PartsList B stamps) (values_piece B K c cap fields n key low high xs) (λ ys k. (h.0, k)) (values_list stamps fields n key low high xs h.1)
  values_list stamps _ n key low high xs h = h

  pub values_describe : (valuation : List ℕ) (fields : List Field) (n : ℕ) (key : KeyAt) (low high : ℕ) (xs : Parts W N) (ps : Vals) → PartsFit B c cap xs → PartsDescribe B valuation xs ps
      → Lies low high (values_number n key ps) → IsSomeAnd (values_piece B K c cap fields n key low high xs) (λ ys. PartsDescribe B valuation ys ps)
  values_describe valuation (f ∷ fields) zero key low high (part x xs) (v.val_then p ps) fit d lies =
      mapped_and (λ y. part y xs) (λ y. Describes B valuation y p) (λ ys. PartsDescribe B valuation ys (v.val_then p ps)) (value_piece B K c cap f key low high x) (λ y k. (k, d.1)) (value_describes valuation f key low high x p fit.0 d.0 lies)
  values_describe valuation (f ∷ fields) (suc n) key low high (part x xs) (v.val_then p ps) fit d lies =
      mapped_and (part x) (λ ys. PartsDescribe B valuation ys ps) (λ ys. PartsDescribe B valuation ys (v.val_then p ps)) (values_piece B K c cap fields n key low high xs) (λ ys k. (d.0, k)) (values_describe valuation fields n key low high xs ps fit.1 d.1 lies)
  values_describe valuation (f ∷ fields) n key low high (part x xs) v.no_val fit d lies = absurd d
  values_describe valuation [] n key low high xs ps fit d lies = d
  values_describe valuation (f ∷ fields) zero key low high no_part ps fit d lies = d
  values_describe valuation (f ∷ fields) (suc n) key low high no_part ps fit d lies = d
