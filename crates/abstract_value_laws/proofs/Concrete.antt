-- The abstract value of a concrete one.
use Rattle.std.proofs.Common.{◌≡◌, ℕ, zero, suc, ◌<◌, ◌^◌, Bool, true, false, Option, Some, None, List, [], ◌∷◌, map as map_of, length, refl, sym, ap, subst, arith, cond, inl, inr}
use Rattle.std.specs.Prelude.{IsTrue, ◌==◌, slice_get}
use Rattle.word_operations.specs.Width.{IsWidth}
use Rattle.base_trait.specs.Algebra.{Algebra, can_be}
use Rattle.base_trait.specs.Laws.{Laws}
use Rattle.base_trait.specs.Lists.{AreAmong, Each, IsAmong, IsAscending}
use Rattle.base_trait.specs.declared.uses.Stamp.{Stamp}
use Rattle.base_trait.specs.declared.uses.Stamp.TheVariants.{Entry, At}
use Rattle.base_trait.proofs.Lists.{number_itself, number_told, among_left, among_right, are_among_at, are_among_from}
use Rattle.base_trait.proofs.Tests.{and_both, and_parts}
use Rattle.abstract_map_laws.specs.Cells.{CellDescribes, CellFits, ListsOnly}
use Rattle.abstract_map_laws.specs.Laws.{HasRoom}
use Rattle.abstract_map_laws.specs.Maps.{EachCell, Map, cell, cell_in, Describes as MapDescribes, Fits as FitsMap}
use Rattle.abstract_map_laws.proofs.Absorbing.{folded_each, folded_over}
use Rattle.abstract_map_laws.proofs.CellLaws.{cell_describes, cell_join_fits, cell_join_lists}
use Rattle.abstract_map_laws.proofs.Fitting.{folded_fits}
use Rattle.abstract_map_laws.proofs.Places.{each_cell}
use Rattle.spec_ir.specs.declared.ty.Ty.{Ty}
use Rattle.spec_ir.specs.declared.ty.Ty.TheVariants.{Bool as Flag, Word, Data as DataTy, Map as MapOf}
use Rattle.spec_ir.specs.declared.declared.MapType.{MapType}
use Rattle.spec_ir.specs.Environment.{Case, Data, Environment, field_types}
use Rattle.spec_ir.specs.Texts.{case_at, cases_of}
use Rattle.semantics_values.specs.declared.value.Cell.{Cell as ConcreteCell}
use Rattle.semantics_values.specs.Types as concrete
use Rattle.semantics_values.specs.Types.{cell_fits, key_count, keys_ascend, listed_fits, map_fits, of_case}
use Rattle.semantics_values.specs.Values as v
use Rattle.semantics_values.specs.Values.{Val, Vals}
use Rattle.abstract_value_laws.specs.Abs.{Parts, no_case}
use Rattle.abstract_value_laws.specs.Describes.{CaseDescribes, Describes, PartsDescribe, held_at}
use Rattle.abstract_value_laws.specs.Fits.{CasesFit, Fits, PartsFit}
use Rattle.abstract_value_laws.specs.Shapes.{CasesList, ListsStamps, PartsList}
use Rattle.abstract_value_laws.specs.TypeLaws.{ValueDescribes, ValueIsFit, ValueLists}
use Rattle.abstract_value_laws.specs.OfValues.{MapFits, ValueFits, ValuesFit, absent_onto, case_count, cell_of, cell_stamps, cells_of, map_at, note_of, of_value, of_values, one_case, only, stamps_in, stamps_of}
use Rattle.abstract_value_laws.specs.TypeShapes.{width_of}
use Rattle.abstract_value_laws.specs.Types.{has_type, has_width, have_cases, have_types, of_data}

only_itself : (b : Bool) → IsTrue (can_be (only b) b)
only_itself true = refl
only_itself false = refl

module _ {W N C : Type 0} (B : Algebra W N C) (L : Laws W N C B) (c : C) where
  -- ---- cells
  note_describes : (s : Stamp) → B.notes.describes s (note_of B s)
  note_describes Entry = L.notes.entry_sound
  note_describes (At a) = L.notes.at_sound a

  note_lists : (s : Stamp) (stamps : List Stamp) → IsAmong s stamps → AreAmong (B.notes.listed (note_of B s)) stamps
  note_lists Entry stamps h = are_among_from (B.notes.listed B.notes.entry) stamps (λ x a. sorted x (are_among_at (B.notes.listed B.notes.entry) (Entry ∷ []) x L.notes.entry_lists a))
    where
      sorted : (x : Stamp) → IsAmong x (Entry ∷ []) → IsAmong x stamps
      sorted x (inl e) = subst (λ t. IsAmong t stamps) (sym e) h
      sorted x (inr a) = absurd a
  note_lists (At n) stamps h = are_among_from (B.notes.listed (B.notes.at n)) stamps (λ x a. sorted x (are_among_at (B.notes.listed (B.notes.at n)) (At n ∷ []) x (L.notes.at_lists n) a))
    where
      sorted : (x : Stamp) → IsAmong x (At n ∷ []) → IsAmong x stamps
      sorted x (inl e) = subst (λ t. IsAmong t stamps) (sym e) h
      sorted x (inr a) = absurd a

  module _ (w : ℕ) (ok : IsWidth w) where
    pub cells_fit : (cells : List (ℕ × ConcreteCell)) → Each (λ e. e.1.v < 2 ^ w) cells → Each (λ e. CellFits B c w e.1) (cells_of B c w cells)
    cells_fit [] h = tt
    cells_fit (e ∷ cells) h = (L.words.constant_fits c w e.1.v ok h.0, cells_fit cells h.1)

    cells_describe : (valuation : List ℕ) (rest : ConcreteCell) (cells : List (ℕ × ConcreteCell)) (k : ℕ) → rest.v < 2 ^ w → Each (λ e. e.1.v < 2 ^ w) cells
        → CellDescribes B valuation w (held_at rest cells k) (cell_in (cell_of B c w rest) (cells_of B c w cells) k)
    cells_describe valuation rest [] k h g = (L.words.constant_sound c valuation w rest.v ok h, note_describes rest.stamp)
    cells_describe valuation rest (e ∷ cells) k h g = at (e.0 == k) (cells_describe valuation rest cells k h g.1)
      where
        at : (b : Bool) → CellDescribes B valuation w (held_at rest cells k) (cell_in (cell_of B c w rest) (cells_of B c w cells) k)
            → CellDescribes B valuation w (record { number = (cond b e.1 (v.cell_at rest cells k)).v; stamp = (cond b e.1 (v.cell_at rest cells k)).stamp }) (cond b (cell_of B c w e.1) (cell_in (cell_of B c w rest) (cells_of B c w cells) k))
        at true later = (L.words.constant_sound c valuation w e.1.v ok g.0, note_describes e.1.stamp)
        at false later = later

  pub same_keys : (w : ℕ) (cells : List (ℕ × ConcreteCell)) → map_of (λ e. e.0) (cells_of B c w cells) ≡ map_of (λ e. e.0) cells
  same_keys w [] = refl
  same_keys w (e ∷ cells) = ap (λ l. e.0 ∷ l) (same_keys w cells)

  cells_list : (w : ℕ) (cells : List (ℕ × ConcreteCell)) (stamps : List Stamp) → ((s : Stamp) → IsAmong s (cell_stamps cells) → IsAmong s stamps) → Each (λ e. ListsOnly B stamps e.1) (cells_of B c w cells)
  cells_list w [] stamps f = tt
  cells_list w (e ∷ cells) stamps f = (note_lists e.1.stamp stamps (f e.1.stamp (inl refl)), cells_list w cells stamps (λ s a. f s (inr a)))

  -- ---- maps
  abbrev unfolded : ℕ → ConcreteCell → List (ℕ × ConcreteCell) → Map W N
  unfolded w rest cells = record { width = w; rest = cell_of B c w rest; cells = cells_of B c w cells }

  module _ (cap w : ℕ) (rest : ConcreteCell) (cells : List (ℕ × ConcreteCell)) where
    map_lists : EachCell (ListsOnly B (rest.stamp ∷ cell_stamps cells)) (map_at B c cap w rest cells)
    map_lists =
        let stamps = rest.stamp ∷ cell_stamps cells in
        folded_each B c cap (unfolded w rest cells) (ListsOnly B stamps) (cell_join_lists B L c w stamps) (note_lists rest.stamp stamps (inl refl), cells_list w cells stamps (λ s a. inr a))

    module _ (fit : MapFits w rest cells) where
      pub before : EachCell (CellFits B c w) (unfolded w rest cells)
      before = (L.words.constant_fits c w rest.v fit.width fit.rest_fits, cells_fit w fit.width cells fit.cells_fit)

      after : EachCell (CellFits B c w) (map_at B c cap w rest cells)
      after = folded_each B c cap (unfolded w rest cells) (CellFits B c w) (cell_join_fits B L c w fit.width) before

      map_describes : (valuation : List ℕ) → MapDescribes B valuation (held_at rest cells) (map_at B c cap w rest cells)
      map_describes valuation k =
          cell_describes B L c w fit.width valuation (held_at rest cells k) (cell (map_at B c cap w rest cells) k) (cell (unfolded w rest cells) k)
          (each_cell (CellFits B c w) (map_at B c cap w rest cells).rest (map_at B c cap w rest cells).cells k after.0 after.1) (each_cell (CellFits B c w) (cell_of B c w rest) (cells_of B c w cells) k before.0 before.1)
          (folded_over B L c cap (unfolded w rest cells) fit.width before k) (cells_describe w fit.width valuation rest cells k fit.rest_fits fit.cells_fit)

      map_is_fit : HasRoom B cap → FitsMap B c cap (map_at B c cap w rest cells)
      map_is_fit room = folded_fits B c cap (unfolded w rest cells) room fit.width after (subst (λ ks. IsAscending ks) (sym (same_keys w cells)) fit.order)
          (subst (λ ks. Each (λ k. k < 2 ^ 32) ks) (sym (same_keys w cells)) fit.bound)

  -- ---- constructor values
  one_describes : (valuation : List ℕ) (n k : ℕ) (xs : Parts W N) (ps : Vals) → k < n → PartsDescribe B valuation xs ps → CaseDescribes B valuation (one_case n k xs) k ps
  one_describes valuation zero k xs ps h d = absurd (omega (arith, h))
  one_describes valuation (suc n) zero xs ps h d = d
  one_describes valuation (suc n) (suc k) xs ps h d = one_describes valuation n k xs ps (omega (arith, h)) d

  absent_fit : (cap n : ℕ) → CasesFit B c cap (absent_onto n no_case)
  absent_fit cap zero = tt
  absent_fit cap (suc n) = absent_fit cap n

  one_fits : (cap n k : ℕ) (xs : Parts W N) → PartsFit B c cap xs → CasesFit B c cap (one_case n k xs)
  one_fits cap zero k xs h = tt
  one_fits cap (suc n) zero xs h = (h, absent_fit cap n)
  one_fits cap (suc n) (suc k) xs h = one_fits cap n k xs h

  absent_list : (stamps : List Stamp) (n : ℕ) → CasesList B stamps (absent_onto n no_case)
  absent_list stamps zero = tt
  absent_list stamps (suc n) = absent_list stamps n

  one_lists : (stamps : List Stamp) (n k : ℕ) (xs : Parts W N) → PartsList B stamps xs → CasesList B stamps (one_case n k xs)
  one_lists stamps zero k xs h = tt
  one_lists stamps (suc n) zero xs h = (h, absent_list stamps n)
  one_lists stamps (suc n) (suc k) xs h = one_lists stamps n k xs h

  module _ (cap : ℕ) (env : Environment) where
    mutual
      describes : (valuation : List ℕ) (val : Val) → ValueFits env val → Describes B valuation (of_value B c cap env val) val
      describes valuation (v.flag b) h = only_itself b
      describes valuation (v.word w n) h = (refl, L.words.constant_sound c valuation w n h.0 h.1)
      describes valuation (v.made t k ps) h = (refl, one_describes valuation (case_count env t) k (of_values B c cap env ps) ps h.0 (all_describe valuation ps h.1))
      describes valuation (v.map m rest cells) h = (refl, map_describes cap (width_of (slice_get env.maps m)) rest cells h valuation)

      all_describe : (valuation : List ℕ) (ps : Vals) → ValuesFit env ps → PartsDescribe B valuation (of_values B c cap env ps) ps
      all_describe valuation v.no_val h = tt
      all_describe valuation (v.val_then p ps) h = (describes valuation p h.0, all_describe valuation ps h.1)

    module _ (room : HasRoom B cap) where
      mutual
        fits : (val : Val) → ValueFits env val → Fits B c cap (of_value B c cap env val)
        fits (v.flag b) h = tt
        fits (v.word w n) h = (h.0, L.words.constant_fits c w n h.0 h.1)
        fits (v.made t k ps) h = one_fits cap (case_count env t) k (of_values B c cap env ps) (all_fit ps h.1)
        fits (v.map m rest cells) h = map_is_fit cap (width_of (slice_get env.maps m)) rest cells h room

        all_fit : (ps : Vals) → ValuesFit env ps → PartsFit B c cap (of_values B c cap env ps)
        all_fit v.no_val h = tt
        all_fit (v.val_then p ps) h = (fits p h.0, all_fit ps h.1)

    mutual
      lists : (stamps : List Stamp) (val : Val) → ((s : Stamp) → IsAmong s (stamps_of val) → IsAmong s stamps) → ListsStamps B stamps (of_value B c cap env val)
      lists stamps (v.flag b) f = tt
      lists stamps (v.word w n) f = tt
      lists stamps (v.made t k ps) f = one_lists stamps (case_count env t) k (of_values B c cap env ps) (all_list stamps ps f)
      lists stamps (v.map m rest cells) f =
          let w = width_of (slice_get env.maps m) in
          folded_each B c cap (unfolded w rest cells) (ListsOnly B stamps) (cell_join_lists B L c w stamps) (note_lists rest.stamp stamps (f rest.stamp (inl refl)), cells_list w cells stamps (λ s a. f s (inr a)))

      all_list : (stamps : List Stamp) (ps : Vals) → ((s : Stamp) → IsAmong s (stamps_in ps) → IsAmong s stamps) → PartsList B stamps (of_values B c cap env ps)
      all_list stamps v.no_val f = tt
      all_list stamps (v.val_then p ps) f =
          (lists stamps p (λ s a. f s (among_left s (stamps_of p) (stamps_in ps) a)), all_list stamps ps (λ s a. f s (among_right s (stamps_of p) (stamps_in ps) a)))

-- ---- types
module _ {W N C : Type 0} (B : Algebra W N C) (c : C) (cap : ℕ) (env : Environment) where
  absent_typed : (ds : List Case) → have_cases {W = W} {N = N} env (absent_onto (length ds) no_case) ds ≡ true
  absent_typed [] = refl
  absent_typed (d ∷ ds) = absent_typed ds

  one_typed : (ds : List Case) (k : ℕ) (xs : Parts W N) (ps : Vals) → ((types : List Ty) → concrete.have_types env ps types ≡ true → have_types env xs types ≡ true) → of_case (slice_get ds k) (concrete.have_types env ps) ≡ true
      → have_cases env (one_case (length ds) k xs) ds ≡ true
  one_typed [] k xs ps f h = cc
  one_typed (d ∷ ds) zero xs ps f h = and_both (have_types env xs (field_types d)) (have_cases {W = W} {N = N} env (absent_onto (length ds) no_case) ds) (f (field_types d) h) (absent_typed ds)
  one_typed (d ∷ ds) (suc k) xs ps f h = one_typed ds k xs ps f h

  mutual
    typed : (val : Val) (ty : Ty) → concrete.has_type env val ty ≡ true → has_type env (of_value B c cap env val) ty ≡ true
    typed (v.flag b) Flag h = refl
    typed (v.word w n) (Word u) h = (and_parts (w == u) (concrete.cell_fits u (record { v = n; stamp = Entry })) h).0
    typed (v.made t k ps) (DataTy u) h =
        let p = and_parts (t == u) (of_case (case_at env (DataTy u) k) (concrete.have_types env ps)) h in
        and_both (t == u) (of_data (slice_get env.datas u) (have_cases env (one_case (case_count env t) k (of_values B c cap env ps)))) p.0
        (subst (λ z. of_data (slice_get env.datas u) (have_cases env (one_case (case_count env z) k (of_values B c cap env ps))) ≡ true) (sym (number_told t u p.0)) (at (slice_get env.datas u) p.1 (λ types r. all_typed ps types r)))
      where
        at : (o : Option Data) → of_case (slice_get (cases_of o) k) (concrete.have_types env ps) ≡ true → ((types : List Ty) → concrete.have_types env ps types ≡ true → have_types env (of_values B c cap env ps) types ≡ true)
            → of_data o (have_cases env (one_case (length (cases_of o)) k (of_values B c cap env ps))) ≡ true
        at None q f = cc
        at (Some d) q f = one_typed d.cases k (of_values B c cap env ps) ps f q
    typed (v.map m rest cells) (MapOf n) h =
        let p = and_parts (m == n) (map_fits env (slice_get env.maps n) rest cells) h in
        and_both (m == n) (has_width (slice_get env.maps n) (width_of (slice_get env.maps m))) p.0
        (subst (λ z. has_width (slice_get env.maps n) (width_of (slice_get env.maps z)) ≡ true) (sym (number_told m n p.0)) (at (slice_get env.maps n) p.1))
      where
        at : (o : Option MapType) → map_fits env o rest cells ≡ true → has_width o (width_of o) ≡ true
        at None q = cc
        at (Some d) q = number_itself d.width
    typed _ _ h = cc

    all_typed : (ps : Vals) (types : List Ty) → concrete.have_types env ps types ≡ true → have_types env (of_values B c cap env ps) types ≡ true
    all_typed v.no_val [] h = refl
    all_typed (v.val_then p ps) (t ∷ types) h =
        let q = and_parts (concrete.has_type env p t) (concrete.have_types env ps types) h in
        and_both (has_type env (of_value B c cap env p) t) (have_types env (of_values B c cap env ps) types) (typed p t q.0) (all_typed ps types q.1)
    all_typed _ _ h = cc

  pub value_is_typed : (val : Val) (ty : Ty) → concrete.has_type env val ty ≡ true → has_type env (of_value B c cap env val) ty ≡ true
  value_is_typed = typed

module _ {W N C : Type 0} (B : Algebra W N C) (L : Laws W N C B) where
  pub value_describes : ValueDescribes B
  value_describes c cap env valuation val h = describes B L c cap env valuation val h

  pub value_is_fit : ValueIsFit B
  value_is_fit c cap env val room h = fits B L c cap env room val h

  pub value_lists : ValueLists B
  value_lists c cap env val = lists B L c cap env (stamps_of val) val (λ s a. a)
