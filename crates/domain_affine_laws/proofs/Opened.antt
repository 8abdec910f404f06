-- The values of fields where an element stands.
use Rattle.std.proofs.Common.{◌≡◌, ℕ, zero, suc, ◌+◌, ◌^◌, ◌<◌, ◌≤◌, Bool, true, false, List, [], ◌∷◌, length, map as map_of, Option, Some, None, refl, sym, ap, ◌∙◌, subst, cond, arith}
use Rattle.std.specs.Prelude.{◌==◌, ◌&&◌, IfSome, IsSomeAnd, nat_le, nat_lt, slice_get, unwrap_or}
use Rattle.std.specs.List.{range_with_len}
use Rattle.word_operations.specs.Width.{IsWidth}
use Rattle.base_trait.specs.Lists.{Each, IsAmong, IsAscendingFrom}
use Rattle.std.proofs.lemmas.Bool.{ltb-true}
use Rattle.base_trait.specs.declared.uses.Stamp.{Stamp}
use Rattle.base_trait.proofs.Lists.{ascending_lower, number_told}
use Rattle.base_trait.proofs.Tests.{and_parts, at_choice}
use Rattle.abstract_map_laws.specs.declared.cell.AbstractCell.{AbstractCell}
use Rattle.abstract_map_laws.specs.Cells.{CellFits, ListsOnly}
use Rattle.abstract_map_laws.specs.Maps.{cell_in}
use Rattle.abstract_map_laws.specs.Maps.{Fits as MapFits}
use Rattle.spec_ir.specs.declared.ty.Ty.{Ty}
use Rattle.spec_ir.specs.declared.ty.Ty.TheVariants as ty
use Rattle.spec_ir.specs.declared.declared.MapType.{MapType}
use Rattle.spec_ir.specs.Environment.{Environment}
use Rattle.semantics_values.specs.declared.value.Cell.{Cell as Held}
use Rattle.semantics_values.specs.declared.entry.KeyAt.{KeyAt}
use Rattle.semantics_values.specs.declared.entry.KeyAt.TheVariants.{Whole, Rest, At}
use Rattle.semantics_values.specs.States.{State}
use Rattle.semantics_values.specs.Types.{have_types, has_type, map_fits}
use Rattle.semantics_values.specs.Values as v
use Rattle.semantics_values.specs.Values.{Val, cell_at, vals}
use Rattle.abstract_value_laws.specs.Describes.{Describes, PartsDescribe}
use Rattle.abstract_value_laws.specs.Fits as value
use Rattle.abstract_value_laws.specs.Fits.{PartsFit}
use Rattle.abstract_value_laws.specs.Shapes.{ListsStamps, PartsList}
use Rattle.domain_laws.specs.declared.field.Field.{Field}
use Rattle.domain_laws.specs.declared.field.Field.TheVariants as field
use Rattle.domain_laws.specs.States.{field_of, fields_of, map_field}
use Rattle.domain_laws.specs.Values.{FieldsFit, IsOf}
use Rattle.domain_laws.specs.Lines.{IsField}
use Rattle.domain_affine_base.specs.Meaning.{affine}
use Rattle.domain_affine_base.specs.Words.{Fits, Stands}
use Rattle.domain_affine_base.specs.declared.word.Word.{Word}
use Rattle.domain_affine_base.specs.declared.word.Word.TheVariants.{Any}
use Rattle.domain_affine_element_laws.specs.Tracked.{number_at, number_in, number_of}
use Rattle.domain_affine_laws.specs.Opened.{listed_cell, noted, opened_cells, opened_value, opened_values, tracked_word}
use Rattle.domain_affine_laws.specs.Tracked.{field_cells}
use Rattle.domain_affine_laws.proofs.Numbers.{map_small}
use Rattle.domain_affine_laws.proofs.Tracked.{IsCellOf, map_told, one_less, word_cell}
use Rattle.domain_affine_laws.proofs.Words.{EachWord, found}

-- ---- they fit
module _ (cells : List (ℕ × KeyAt)) (words : List Word) (fields : List Field) where
  abbrev k : ℕ
  k = length cells

  -- a word of 32 bits, of a cell that can be tracked
  abbrev Kept : ℕ × KeyAt → Word → Type 0
  Kept c x = IsCellOf fields c × Fits k 32 x

  -- cells of the keys from low to low + count
  record AreListed (low count : ℕ) (es : List (ℕ × AbstractCell Word (Unit {0}))) : Type 0 where
    pub ascend : IsAscendingFrom low (map_of (λ e. e.0) es)
    pub below : Each (λ i. i < low + count) (map_of (λ e. e.0) es)
    pub fit : Each (λ e. Fits k 32 e.1.word) es
    pub few : length es ≤ count

  one_more : (low count : ℕ) (o : Option Word) (es : List (ℕ × AbstractCell Word (Unit {0}))) → IfSome o (Fits k 32) → AreListed (low + 1) count es → AreListed low (suc count) (listed_cell (At low) o es)
  one_more low count o es h is = by_word o h
    where
      ends : low + 1 + count ≡ low + suc count
      ends = omega arith

      others : Each (λ i. i < low + suc count) (map_of (λ e. e.0) es)
      others = subst (λ n. Each (λ i. i < n) (map_of (λ e. e.0) es)) ends is.below

      by_word : (o : Option Word) → IfSome o (Fits k 32) → AreListed low (suc count) (listed_cell (At low) o es)
      by_word None h = record { ascend = ascending_lower (low + 1) low (map_of (λ e. e.0) es) (omega arith) is.ascend; below = others; fit = is.fit; few = (let few = is.few in omega (arith, few)) }
      by_word (Some x) h = record { ascend = (omega arith, is.ascend); below = (omega arith, others); fit = (h, is.fit); few = (let few = is.few in omega (arith, few)) }

  word_only : (o : Option Word) (c : ℕ × KeyAt) → IfSome o (Kept c) → IfSome o (Fits k 32)
  word_only None c h = tt
  word_only (Some x) c h = h.1

  module _ (kept : EachWord Kept cells words) where
    are_listed : (n low count : ℕ) → AreListed low count (opened_cells cells words n (map_of (λ j. At j) (range_with_len low count)))
    are_listed n low zero = record { ascend = tt; below = tt; fit = tt; few = omega arith }
    are_listed n low (suc count) =
        one_more low count (tracked_word cells words n (At low)) (opened_cells cells words n (map_of (λ j. At j) (range_with_len (low + 1) count)))
        (word_only (tracked_word cells words n (At low)) (n, At low) (found Kept n (At low) cells words kept)) (are_listed n (low + 1) count)

    module _ (cap : ℕ) (room : 64 ≤ cap) where
      abbrev IsGood : ℕ → ℕ → ℕ → List KeyAt → Type 0
      IsGood n keys width ks =
          MapFits affine cells cap (record { width = width; rest = noted Any; cells = opened_cells cells words n ks })
          × Each (λ j. j < keys) (map_of (λ e. e.0) (opened_cells cells words n ks))

      widths : (w : ℕ) → 32 ≡ w → (es : List (ℕ × AbstractCell Word (Unit {0}))) → Each (λ e. Fits k 32 e.1.word) es → Each (λ e. CellFits affine cells w e.1) es
      widths w e es h = subst (λ w. Each (λ e. Fits k w e.1.word) es) e h

      small : (keys : ℕ) (js : List ℕ) → keys ≤ 64 → Each (λ j. j < 0 + keys) js → Each (λ j. j < 2 ^ 32) js
      small keys [] le h = tt
      small keys (j ∷ js) le h = (let below = h.0 in omega (arith, le, below), small keys js le h.1)

      map_good : (n keys width : ℕ) → IsWidth width → (b : Bool) → b ≡ (width == 32 && nat_le keys 64) → IsGood n keys width (cond b (map_of (λ j. At j) (range_with_len 0 keys)) [])
      map_good n keys width fine false e = (record { width = fine; cells = ((tt, tt), tt); order = tt; bound = tt; few = omega arith }, tt)
      map_good n keys width fine true e =
          let told = map_told keys width (sym e) in
          let is = are_listed n 0 keys in
          let es = opened_cells cells words n (map_of (λ j. At j) (range_with_len 0 keys)) in
          let same : 0 + keys ≡ keys = omega arith in
          let few = is.few in
          let most = told.1 in (
            record { width = fine; cells = ((tt, tt), widths width (sym told.0) es is.fit); order = is.ascend; bound = small keys (map_of (λ e. e.0) es) told.1 is.below; few = omega (arith, few, most, room) },
            subst (λ m. Each (λ j. j < m) (map_of (λ e. e.0) es)) same is.below,
          )

      word_good : (i w : ℕ) (o : Option Word) → slice_get fields i ≡ Some (field.Word w) → IfSome o (Kept (suc i, Whole)) → Fits k w (unwrap_or o Any)
      word_good i w None there h = (tt, tt)
      word_good i w (Some x) there h =
          let at = subst (λ o. IsSomeAnd o (λ f. IsAmong Whole (field_cells f))) there h.0 in
          subst (λ w. Fits k w x) (sym (word_cell w Whole at).1) h.1

      value_fits : (i : ℕ) (f : Field) → slice_get fields i ≡ Some f → IsField f → IsOf f (opened_value cells words (suc i) f) × value.Fits affine cells cap (opened_value cells words (suc i) f)
      value_fits i (field.Word w) there fine = (refl, (fine, word_good i w (tracked_word cells words (suc i) Whole) there (found Kept (suc i) Whole cells words kept)))
      value_fits i (field.Map m keys width default) there fine =
          let good = map_good (suc i) keys width fine.0 (width == 32 && nat_le keys 64) refl in
          ((refl, refl, good.1), good.0)

      fit_from : (i : ℕ) (fs : List Field) → ((j : ℕ) → slice_get fs j ≡ slice_get fields (i + j)) → Each IsField fs → FieldsFit affine cells cap fs (opened_values cells words (suc i) fs)
      fit_from i [] same fine = (tt, tt)
      fit_from i (f ∷ fs) same fine =
          let here = value_fits i f (sym (same 0 ∙ ap (slice_get fields) (place i))) fine.0 in
          let later = fit_from (suc i) fs (λ j. same (suc j) ∙ ap (slice_get fields) (next i j)) fine.1 in
          ((here.0, later.0), (here.1, later.1))
        where
          place : (m : ℕ) → m + 0 ≡ m
          place m = omega arith

          next : (m j : ℕ) → m + suc j ≡ suc m + j
          next m j = omega arith

      pub opened_fit : Each IsField fields → FieldsFit affine cells cap fields (opened_values cells words 1 fields)
      opened_fit fine = fit_from 0 fields (λ j. ap (slice_get fields) (start j)) fine
        where
          start : (j : ℕ) → j ≡ 0 + j
          start j = omega arith

-- ---- they list no stamps
module _ (cells : List (ℕ × KeyAt)) (words : List Word) (stamps : List Stamp) where
  no_stamps : (es : List (ℕ × AbstractCell Word (Unit {0}))) → Each (λ e. ListsOnly affine stamps e.1) es
  no_stamps [] = tt
  no_stamps (e ∷ es) = (tt, no_stamps es)

  value_lists : (n : ℕ) (f : Field) → ListsStamps affine stamps (opened_value cells words n f)
  value_lists n (field.Word w) = tt
  value_lists n (field.Map m keys width default) = (tt, no_stamps (opened_cells cells words n (field_cells (field.Map m keys width default))))

  pub opened_list : (n : ℕ) (fields : List Field) → PartsList affine stamps (opened_values cells words n fields)
  opened_list n [] = tt
  opened_list n (f ∷ fields) = (value_lists n f, opened_list (suc n) fields)

-- ---- they describe the state
module _ (env : Environment) (cells : List (ℕ × KeyAt)) (words : List Word) (valuation : List ℕ) (s : State)
    (stand : EachWord (λ c x. Stands valuation x (number_at s c)) cells words) where
  at_word : (i : ℕ) (p : Val) (key : KeyAt) → slice_get s.parts i ≡ Some p → IfSome (tracked_word cells words (suc i) key) (λ x. Stands valuation x (number_of p key))
  at_word i p key there =
      subst (λ o. IfSome (tracked_word cells words (suc i) key) (λ x. Stands valuation x (number_in o key))) (ap (slice_get s.parts) (sym (one_less i)) ∙ there)
      (found (λ c x. Stands valuation x (number_at s c)) (suc i) key cells words stand)

  word_stands : (o : Option Word) (n : ℕ) → IfSome o (λ x. Stands valuation x n) → Stands valuation (unwrap_or o Any) n
  word_stands None n h = tt
  word_stands (Some x) n h = h

  module _ (i n : ℕ) (rest : Held) (hs : List (ℕ × Held)) (there : slice_get s.parts i ≡ Some (v.map n rest hs)) (j : ℕ) where
    listed_stands : (key : KeyAt) (o : Option Word) (es : List (ℕ × AbstractCell Word (Unit {0}))) → IfSome o (λ x. Stands valuation x (number_of (v.map n rest hs) key))
        → Stands valuation (cell_in (noted Any) es j).word (cell_at rest hs j).v → Stands valuation (cell_in (noted Any) (listed_cell key o es) j).word (cell_at rest hs j).v
    listed_stands Whole o es h g = g
    listed_stands Rest o es h g = g
    listed_stands (At m) None es h g = g
    listed_stands (At m) (Some x) es h g =
        at_choice (λ c. Stands valuation c.word (cell_at rest hs j).v) (m == j) (noted x) (cell_in (noted Any) es j)
        (λ e. subst (λ z. Stands valuation x (cell_at rest hs z).v) (number_told m j e) h) (λ e. g)

    cell_stands : (keys : List KeyAt) → Stands valuation (cell_in (noted Any) (opened_cells cells words (suc i) keys) j).word (cell_at rest hs j).v
    cell_stands [] = tt
    cell_stands (key ∷ keys) =
        listed_stands key (tracked_word cells words (suc i) key) (opened_cells cells words (suc i) keys) (at_word i (v.map n rest hs) key there) (cell_stands keys)

  map_described : (i m n : ℕ) (o : Option MapType) (rest : Held) (hs : List (ℕ × Held)) → slice_get s.parts i ≡ Some (v.map n rest hs) → map_fits env o rest hs ≡ true → n ≡ m
      → Describes affine valuation (opened_value cells words (suc i) (map_field env m o)) (v.map n rest hs)
  map_described i m n None rest hs there typed e = cc
  map_described i m n (Some d) rest hs there typed e =
      (e, λ j. ((cell_stands i n rest hs there j (field_cells (map_field env m (Some d))), map_small env d rest hs j typed), tt))

  value_described : (i : ℕ) (t : Ty) (p : Val) → IsField (field_of env t) → slice_get s.parts i ≡ Some p → has_type env p t ≡ true
      → Describes affine valuation (opened_value cells words (suc i) (field_of env t)) p
  value_described i (ty.Word w) (v.word u n) fine there typed =
      let parts = and_parts (u == w) (nat_lt n (2 ^ w)) typed in
      (number_told u w parts.0, (word_stands (tracked_word cells words (suc i) Whole) n (at_word i (v.word u n) Whole there), ltb-true n (2 ^ w) parts.1))
  value_described i (ty.Map m) (v.map n rest hs) fine there typed =
      let parts = and_parts (n == m) (map_fits env (slice_get env.maps m) rest hs) typed in
      map_described i m n (slice_get env.maps m) rest hs there parts.1 (number_told n m parts.0)
  value_described i ty.Bool p fine there typed = (let low = fine.0 in absurd (omega (arith, low)))
  value_described i (ty.Data d) p fine there typed = (let low = fine.0 in absurd (omega (arith, low)))
  value_described i (ty.Word w) _ fine there typed = cc
  value_described i (ty.Map m) _ fine there typed = cc

  described_from : (i : ℕ) (types : List Ty) (ps : List Val) → ((j : ℕ) → slice_get ps j ≡ slice_get s.parts (i + j)) → Each IsField (fields_of env types) → have_types env (vals ps) types ≡ true
      → PartsDescribe affine valuation (opened_values cells words (suc i) (fields_of env types)) (vals ps)
  described_from i [] [] same fine typed = tt
  described_from i (t ∷ types) (p ∷ ps) same fine typed =
      let parts = and_parts (has_type env p t) (have_types env (vals ps) types) typed in (
        value_described i t p fine.0 (sym (same 0 ∙ ap (slice_get s.parts) (place i))) parts.0,
        described_from (suc i) types ps (λ j. same (suc j) ∙ ap (slice_get s.parts) (next i j)) fine.1 parts.1,
      )
    where
      place : (m : ℕ) → m + 0 ≡ m
      place m = omega arith

      next : (m j : ℕ) → m + suc j ≡ suc m + j
      next m j = omega arith
  described_from i [] (p ∷ ps) same fine typed = cc
  described_from i (t ∷ types) [] same fine typed = cc

  pub opened_describe : (types : List Ty) → Each IsField (fields_of env types) → have_types env (vals s.parts) types ≡ true
      → PartsDescribe affine valuation (opened_values cells words 1 (fields_of env types)) (vals s.parts)
  opened_describe types fine typed = described_from 0 types s.parts (λ j. ap (slice_get s.parts) (start j)) fine typed
    where
      start : (j : ℕ) → j ≡ 0 + j
      start j = omega arith
