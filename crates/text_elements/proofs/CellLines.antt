-- Lists of cells and of fields, one further.
use Rattle.std.proofs.Common.{◌≡◌, ◌≤◌, ◌<◌, ℕ, ◌+◌, List, [], ◌∷◌, ◌++◌, Some, length, drop, map, min, option_map, slice_get, refl, sym, ap, ◌∙◌, inl, inr, arith, append_assoc}
use Rattle.std.specs.Prelude.{get_or, slice_index}
use Rattle.std.proofs.Math.ListN.{drop_of_length-le}
use Rattle.std.proofs.lemmas.Bool.{cases_lt}
use Rattle.std.proofs.lemmas.List.{drop_more}
use Rattle.std.proofs.lemmas.Option.{get_or_from_slice_get, slice_get_within, slice_get-map}
use Rattle.spec_ir.specs.Specification.{Spec}
use Rattle.semantics_values.specs.declared.entry.KeyAt.TheVariants.{At}
use Rattle.abstract_map_laws.specs.declared.cell.AbstractCell.{AbstractCell}
use Rattle.abstract_map_laws.specs.Maps.{Map, keys}
use Rattle.abstract_value_laws.specs.Abs.{Abs, parts}
use Rattle.state_cell_text.specs.Places.{Field}
use Rattle.text_words.specs.Texts.{Texts}
use Rattle.text_elements.specs.Cells.{cell_line, field_lines, listed_lines, value_lines}

same_key : (j k : ℕ) → Some j ≡ Some k → j ≡ k
same_key j k same = cc

module _ {W N : Type 0} (texts : Texts W N) (spec : Spec) where
  -- the line of a listed cell comes before those behind it
  pub listed_more : (f : Field) (w : ℕ) (m : Map W N) (place key named : ℕ) (c : AbstractCell W N) → slice_get m.cells place ≡ Some (named, c) → slice_get (keys m) place ≡ Some key
      → listed_lines texts spec f w (drop place m.cells) ≡ cell_line texts spec f (At key) w c ++ listed_lines texts spec f w (drop (place + 1) m.cells)
  listed_more f w m place key named c here at =
      let same : named ≡ key = same_key named key (sym (ap (option_map (λ e. e.0)) here) ∙ sym (slice_get-map (λ e. e.0) m.cells place) ∙ at) in
      let item = get_or_from_slice_get m.cells place (named, c) (named, c) here in
      let next = drop_more m.cells place (named, c) (slice_get_within m.cells place (named, c) here) in
      rw (next, item, same) refl

  no_values : (fields : List Field) → field_lines texts spec fields (parts []) ≡ []
  no_values [] = refl
  no_values (f ∷ fields) = refl

  -- behind the last field or the last value there is no line
  pub fields_done : {A : Type 0} (view : A → Abs W N) (fields : List Field) (values : List A) (i : ℕ) → min (length fields) (length values) ≤ i → field_lines texts spec (drop i fields) (parts (map view (drop i values))) ≡ []
  fields_done view fields values i done = elim (cases_lt i (length fields)) [
    | inl below ↦
        let over : length values ≤ i = omega arith in
        let none = drop_of_length-le values over in
        rw none (no_values (drop i fields))
    | inr over ↦
        let none = drop_of_length-le fields over in
        rw none refl
  ]

  -- a listed cell was appended
  pub listed_out : (f : Field) (m : Map W N) (place key w : ℕ) (x : W) (note : N) (all out new : List ℕ)
      → slice_get m.cells place ≡ Some (slice_index (keys m) place, record { word = x; note = note }) → slice_get (keys m) place ≡ Some key → w ≡ m.width
      → all ≡ out ++ listed_lines texts spec f m.width (drop place m.cells) → new ≡ out ++ cell_line texts spec f (At key) w (record { word = x; note = note })
      → all ≡ new ++ listed_lines texts spec f m.width (drop (place + 1) m.cells)
  listed_out f m place key w x note all out new here at width so_far put =
      let c : AbstractCell W N = record { word = x; note = note } in
      let rest = listed_lines texts spec f m.width (drop (place + 1) m.cells) in
      let wide = put ∙ ap (λ (n : ℕ). out ++ cell_line texts spec f (At key) n c) width in
      so_far ∙ ap (λ (xs : List ℕ). out ++ xs) (listed_more f m.width m place key (slice_index (keys m) place) c here at)
      ∙ sym (ap (λ (xs : List ℕ). xs ++ rest) wide ∙ append_assoc out (cell_line texts spec f (At key) m.width c) rest)

  -- a field was appended
  pub field_out : {A : Type 0} (view : A → Abs W N) (fields : List Field) (values : List A) (i : ℕ) (f : Field) (v : A) (all out new : List ℕ)
      → i < length fields → i < length values → f ≡ get_or fields i f → v ≡ get_or values i v → all ≡ out ++ field_lines texts spec (drop i fields) (parts (map view (drop i values)))
      → new ≡ out ++ value_lines texts spec f (view v) → all ≡ new ++ field_lines texts spec (drop (i + 1) fields) (parts (map view (drop (i + 1) values)))
  field_out view fields values i f v all out new in_fields in_values is_first is_one so_far put =
      let rest = field_lines texts spec (drop (i + 1) fields) (parts (map view (drop (i + 1) values))) in
      let first : drop i fields ≡ f ∷ drop (i + 1) fields = drop_more fields i f in_fields ∙ ap (λ g. g ∷ drop (i + 1) fields) (sym is_first) in
      let one : drop i values ≡ v ∷ drop (i + 1) values = drop_more values i v in_values ∙ ap (λ w. w ∷ drop (i + 1) values) (sym is_one) in
      let next : field_lines texts spec (drop i fields) (parts (map view (drop i values))) ≡ value_lines texts spec f (view v) ++ rest = rw (first, one) refl in
      so_far ∙ ap (λ (xs : List ℕ). out ++ xs) next ∙ sym (ap (λ (xs : List ℕ). xs ++ rest) put ∙ append_assoc out (value_lines texts spec f (view v)) rest)
