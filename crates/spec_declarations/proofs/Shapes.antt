-- The shapes of what items without faults of types declare.
use Rattle.std.proofs.Common.{◌≡◌, ℕ, zero, suc, ◌+◌, ◌<◌, ◌≤◌, ◌^◌, Bool, true, false, ◌&&◌, ltb, leb, Option, Some, None, List, [], ◌∷◌, map, filter_map, length, get_or, slice_get, unwrap_or, option_map, refl, sym, ap, ◌∙◌, subst, inl, inr, arith}
use Rattle.std.specs.List.{Contains, list_all}
use Rattle.std.specs.List.{cons_option}
use Rattle.std.proofs.lemmas.Bool.{false≢true, ltb-true, and_parts as both_of}
use Rattle.std.proofs.lemmas.Bool.Decides.{nat_tests}
use Rattle.std.proofs.lemmas.List.{length-map, get_or-map}
use Rattle.std.proofs.lemmas.List.Elements.{Contains-append_left, Contains-append_right}
use Rattle.std.proofs.lemmas.Option.{slice_get-map, slice_get_within, slice_get-get_or, get_or_from_slice_get}
use Rattle.word_operations.specs.Width.{IsWidth}
use Rattle.syntax_parser.specs.declared.tree.FieldDecl.{FieldDecl}
use Rattle.syntax_parser.specs.Tree as e
use Rattle.syntax_parser.specs.Tree.{Item, Datatype, Constructor}
use Rattle.spec_match_compiler.specs.declared.shape.Shape.{Shape}
use Rattle.spec_match_compiler.specs.Shapes.{Types, cases_of, fields_of, IsShape, AreShapes, RanksBelow, AreTypes}
use Rattle.support_reachability.specs.Graph.{IsEdge, Reaches, SameGroup, edge}
use Rattle.support_reachability.specs.Table.{IsTableOf, rank}
use Rattle.support_reachability.proofs.Ranks.{ranks_fall, joined}
use Rattle.spec_ir.specs.declared.ty.Ty.{Ty}
use Rattle.spec_ir.specs.declared.ty.Ty.TheVariants.{Bool as Flag, Word, Data as DataTy, Map as MapOf}
use Rattle.spec_ir.specs.Environment.{field_types, shape_of}
use Rattle.spec_ir.specs.WellFormed.{is_type, IsWellFormed}
use Rattle.spec_ir.proofs.Lists.{all_at}
use Rattle.spec_ir.proofs.Checks.{then_left, then_right}
use Rattle.spec_declarations.specs.declared.type_names.Meaning.{Meaning}
use Rattle.spec_declarations.specs.declared.type_names.Meaning.TheVariants.{Known, BadWidth, Unknown}
use Rattle.spec_declarations.specs.Declarations.{type_in, field_in, case_declared, data_declared, datas_from, declared, HaveCases}
use Rattle.spec_declarations.specs.Leaves.{Made, made, all_made, datatypes, data_number, held, IsKnown}
use Rattle.spec_declarations.specs.Sizes.{is_sized, has_few_fields, are_sized}
use Rattle.spec_declarations.specs.TypeNames.{types_of, type_named, type_or_flag}
use Rattle.spec_declarations.specs.Types.{field_types_fault, case_types_fault, named_fault, types_fault}
use Rattle.spec_declarations.proofs.Faultless.{meaning_fits, type_fits, datas_fit, maps_fit, signatures_fit, data_fine}

-- ---- lists

absent : {A : Type 0} {X : Type 0} (x : X) → None ≡ Some x → A
absent x h = absurd cc

there : {X : Type 0} (xs : List X) (t : ℕ) → t < length xs → (x : X) × (slice_get xs t ≡ Some x)
there [] t l = absurd (omega arith)
there (x ∷ xs) zero l = (x, refl)
there (x ∷ xs) (suc t) l = there xs t (omega arith)

contains_later : (xs : List ℕ) (y x : ℕ) → Contains xs x → Contains (y ∷ xs) x
contains_later xs y x w = (suc w.0, omega (arith, w.1), w.2)

contains_flat : (cases : Made) (c : ℕ) (fields : List Meaning) (b : ℕ) → slice_get cases c ≡ Some fields → Contains (filter_map data_number fields) b → Contains (held cases) b
contains_flat [] c fields b is w = absent fields is
contains_flat (first ∷ cases) zero fields b is w =
    Contains-append_left (filter_map data_number first) (held cases) b (subst (λ f. Contains (filter_map data_number f) b) (same is) w)
  where
    same : Some first ≡ Some fields → fields ≡ first
    same q = cc
contains_flat (first ∷ cases) (suc c) fields b is w =
    Contains-append_right (filter_map data_number first) (held cases) b (contains_flat cases c fields b is w)

module _ (items : List Item) where
  -- the shapes of a constructor's fields, and those of a datatype
  abbrev case_shapes : Constructor → List Shape
  case_shapes k = map shape_of (field_types (case_declared (types_of items) k))

  abbrev data_shapes : Datatype → List (List Shape)
  data_shapes x = map (λ c. map shape_of (field_types c)) (data_declared (types_of items) x).cases

  abbrev all_shapes : Types
  all_shapes = map data_shapes (datatypes items)

  shapes_are : (rest : List Item) → map (λ d. map (λ c. map shape_of (field_types c)) d.cases) (datas_from (types_of items) rest) ≡ map data_shapes (datatypes rest)
  shapes_are [] = refl
  shapes_are (e.datatype x ∷ rest) = ap (λ ts. data_shapes x ∷ ts) (shapes_are rest)
  shapes_are (e.map_type m ∷ rest) = shapes_are rest
  shapes_are (e.function f ∷ rest) = shapes_are rest
  shapes_are (e.decode x ∷ rest) = shapes_are rest

  datas_length : (rest : List Item) → length (datas_from (types_of items) rest) ≡ length (datatypes rest)
  datas_length [] = refl
  datas_length (e.datatype x ∷ rest) = ap suc (datas_length rest)
  datas_length (e.map_type m ∷ rest) = datas_length rest
  datas_length (e.function f ∷ rest) = datas_length rest
  datas_length (e.decode x ∷ rest) = datas_length rest

  -- a constructor of which there are shapes
  record IsFound (t c : ℕ) (shapes : List Shape) : Type 0 where
    pub datatype : Datatype
    pub constructor : Constructor
    pub is_data : slice_get (datatypes items) t ≡ Some datatype
    pub is_case : slice_get datatype.cases c ≡ Some constructor
    pub are : shapes ≡ case_shapes constructor

  found : (t c : ℕ) (shapes : List Shape) → fields_of all_shapes t c ≡ Some shapes → IsFound t c shapes
  found t c shapes h = by_data (slice_get (datatypes items) t) refl (sym (ap (λ o. slice_get (unwrap_or o []) c) (slice_get-map data_shapes (datatypes items) t)) ∙ h)
    where
      one : (k : Constructor) → Some (case_shapes k) ≡ Some shapes → shapes ≡ case_shapes k
      one k q = cc

      by_case : (x : Datatype) → slice_get (datatypes items) t ≡ Some x → (o : Option Constructor) → slice_get x.cases c ≡ o
          → option_map (λ k. map shape_of (field_types k)) (option_map (case_declared (types_of items)) o) ≡ Some shapes → IsFound t c shapes
      by_case x is None q r = absent shapes r
      by_case x is (Some k) q r = record { datatype = x; constructor = k; is_data = is; is_case = q; are = one k r }

      by_data : (o : Option Datatype) → slice_get (datatypes items) t ≡ o → slice_get (unwrap_or (option_map data_shapes o) []) c ≡ Some shapes → IsFound t c shapes
      by_data None is r = absent shapes r
      by_data (Some x) is r =
          by_case x is (slice_get x.cases c) refl
          (ap (option_map (λ k. map shape_of (field_types k))) (sym (slice_get-map (case_declared (types_of items)) x.cases c))
          ∙ sym (slice_get-map (λ k. map shape_of (field_types k)) (map (case_declared (types_of items)) x.cases) c) ∙ r)

  cases_at : (t : ℕ) (x : Datatype) → slice_get (datatypes items) t ≡ Some x → length (cases_of all_shapes t) ≡ length x.cases
  cases_at t x is =
      ap (λ o. length (unwrap_or o [])) (slice_get-map data_shapes (datatypes items) t ∙ ap (option_map data_shapes) is)
      ∙ length-map (map (case_declared (types_of items)) x.cases) (λ c. map shape_of (field_types c)) ∙ length-map x.cases (case_declared (types_of items))

  -- ---- shapes of fields

  shape_fits : (t : Ty) → is_type (declared items) t ≡ true → IsShape all_shapes (shape_of t)
  shape_fits Flag h = tt
  shape_fits (Word w) h = width h
    where
      width : (leb 1 w && leb w 64) ≡ true → IsWidth w
      width q = grind (arith, nat_tests)
  shape_fits (DataTy d) h = omega (arith, ltb-true d (length (datas_from (types_of items) items)) h, datas_length items, length-map (datatypes items) data_shapes)
  shape_fits (MapOf m) h = tt

  shapes_fit : (fields : List FieldDecl) → field_types_fault (types_of items) fields ≡ None → AreShapes all_shapes (map shape_of (map (λ f. f.1) (map (field_in (types_of items)) fields)))
  shapes_fit [] h = tt
  shapes_fit (f ∷ fields) h = (
    shape_fits (type_in (types_of items) f.ty) (type_fits items f.ty (then_left (named_fault (types_of items) f.ty) (field_types_fault (types_of items) fields) h)),
    shapes_fit fields (then_right (named_fault (types_of items) f.ty) (field_types_fault (types_of items) fields) h),
  )

  -- ranks fall where they fall to each datatype that is held
  ranks_below : (rank : ℕ → ℕ) (n : ℕ) (fields : List FieldDecl)
      → ((b : ℕ) → b < length (datatypes items) → Contains (filter_map data_number (map (λ f. type_named (types_of items) f.ty.text) fields)) b → rank b < n)
      → RanksBelow all_shapes rank n (map shape_of (map (λ f. f.1) (map (field_in (types_of items)) fields)))
  ranks_below rank n [] h = tt
  ranks_below rank n (f ∷ fields) h = first (type_named (types_of items) f.ty.text) refl h (ranks_below rank n fields)
    where
      rest : List ℕ
      rest = filter_map data_number (map (λ g. type_named (types_of items) g.ty.text) fields)

      tail : List Shape
      tail = map shape_of (map (λ g. g.1) (map (field_in (types_of items)) fields))

      first : (m : Meaning) → type_named (types_of items) f.ty.text ≡ m
          → ((b : ℕ) → b < length (datatypes items) → Contains (cons_option (data_number m) (filter_map data_number (map (λ g. type_named (types_of items) g.ty.text) fields))) b → rank b < n)
          → (((b : ℕ) → b < length (datatypes items) → Contains (filter_map data_number (map (λ g. type_named (types_of items) g.ty.text) fields)) b → rank b < n)
          → RanksBelow all_shapes rank n (map shape_of (map (λ g. g.1) (map (field_in (types_of items)) fields))))
          → RanksBelow all_shapes rank n (shape_of (type_or_flag m) ∷ map shape_of (map (λ g. g.1) (map (field_in (types_of items)) fields)))
      first (Known Flag) is k go = go k
      first (Known (Word w)) is k go = go k
      first (Known (DataTy b)) is k go = (
        k b (omega (arith, ltb-true b (length (datas_from (types_of items) items)) (meaning_fits items f.ty.text (DataTy b) is), datas_length items)) (0, omega arith, refl),
        go (λ d l w. k d l (contains_later (filter_map data_number (map (λ g. type_named (types_of items) g.ty.text) fields)) b d w)),
      )
      first (Known (MapOf m)) is k go = go k
      first BadWidth is k go = go k
      first Unknown is k go = go k

  case_fault : (cases : List Constructor) (c : ℕ) (k : Constructor) → case_types_fault (types_of items) cases ≡ None → slice_get cases c ≡ Some k → field_types_fault (types_of items) k.fields ≡ None
  case_fault [] c k h is = absent k is
  case_fault (first ∷ cases) zero k h is = subst (λ x. field_types_fault (types_of items) x.fields ≡ None) (same is) (then_left (field_types_fault (types_of items) first.fields) (case_types_fault (types_of items) cases) h)
    where
      same : Some first ≡ Some k → first ≡ k
      same q = cc
  case_fault (first ∷ cases) (suc c) k h is = case_fault cases c k (then_right (field_types_fault (types_of items) first.fields) (case_types_fault (types_of items) cases) h) is

  -- ---- well-formed

  module _ (t : List (List Bool)) (recursive large : List Bool) (table : IsTableOf (map held (all_made items)) t) (known : IsKnown (all_made items) recursive large)
      (fine : types_fault items recursive large ≡ None) (sized : are_sized (datatypes items) ≡ true) (cases : HaveCases items) where
    abbrev graph : List (List ℕ)
    graph = map held (all_made items)

    graph_length : length graph ≡ length (datatypes items)
    graph_length = length-map (all_made items) held ∙ length-map (datatypes items) (made (types_of items))

    fine_at : (d : ℕ) (x : Datatype) → slice_get (datatypes items) d ≡ Some x → (get_or recursive d false ≡ false) × (case_types_fault (types_of items) x.cases ≡ None)
    fine_at d x is =
        let r = data_fine items (datatypes items) recursive large 0 d items x fine is in
        (subst (λ n. get_or recursive n false ≡ false) plus r.0, r.1)
      where
        plus : 0 + d ≡ d
        plus = omega arith

    not_recursive : (d : ℕ) (x : Datatype) → slice_get (datatypes items) d ≡ Some x → Reaches graph d d → ⊥
    not_recursive d x is p = false≢true (sym (fine_at d x is).0 ∙ (known.recursive_is d (get_or recursive d false) (slice_get-get_or recursive d false within)).1 p)
      where
        within : d < length recursive
        within = omega (arith, slice_get_within (datatypes items) d x is, known.recursive_length, length-map (datatypes items) (made (types_of items)))

    row_at : (d : ℕ) (x : Datatype) → slice_get (datatypes items) d ≡ Some x → get_or graph d [] ≡ held (made (types_of items) x)
    row_at d x is =
        let within = slice_get_within (datatypes items) d x is in
        get_or-map held (all_made items) d [] [] (inner within) ∙ ap held (get_or-map (made (types_of items)) (datatypes items) d x [] within ∙ ap (made (types_of items)) (get_or_from_slice_get (datatypes items) d x x is))
      where
        inner : d < length (datatypes items) → d < length (all_made items)
        inner l = omega (arith, l, length-map (datatypes items) (made (types_of items)))

    falls : (d c : ℕ) (shapes : List Shape) → fields_of all_shapes d c ≡ Some shapes → RanksBelow all_shapes (rank t) (rank t d) shapes
    falls d c shapes h =
        let f = found d c shapes h in
        subst (RanksBelow all_shapes (rank t) (rank t d)) (sym f.are) (ranks_below (rank t) (rank t d) f.constructor.fields (λ b l w. lower f.datatype f.constructor f.is_data f.is_case b l w))
      where
        lower : (x : Datatype) (k : Constructor) → slice_get (datatypes items) d ≡ Some x → slice_get x.cases c ≡ Some k → (b : ℕ) → b < length (datatypes items)
            → Contains (filter_map data_number (map (λ f. type_named (types_of items) f.ty.text) k.fields)) b → rank t b < rank t d
        lower x k is_data is_case b l w =
            let fields = map (λ f. type_named (types_of items) f.ty.text) k.fields in
            let here : slice_get (made (types_of items) x) c ≡ Some fields = slice_get-map (λ q. map (λ f. type_named (types_of items) f.ty.text) q.fields) x.cases c ∙ ap (option_map (λ q. map (λ f. type_named (types_of items) f.ty.text) q.fields)) is_case in
            let step : IsEdge graph d b = subst (λ row. Contains row b) (sym (row_at d x is_data)) (contains_flat (made (types_of items) x) c fields b here w) in
            let ranks = ranks_fall graph t table in
            ranks.falls d b (omega (arith, slice_get_within (datatypes items) d x is_data, graph_length)) (omega (arith, l, graph_length)) (edge step) (apart x is_data step)
          where
            apart : (y : Datatype) → slice_get (datatypes items) d ≡ Some y → IsEdge graph d b → SameGroup graph d b → ⊥
            apart y at step (inl q) = not_recursive d y at (subst (Reaches graph d) (sym q) (edge step))
            apart y at step (inr r) = not_recursive d y at (joined graph d b d (edge step) r.1)

    are_types : AreTypes all_shapes
    are_types = record {
      some_case = λ d l. some d l;
      cases = λ d. count d (slice_get (datatypes items) d) refl;
      fields = λ d c shapes h. few d c shapes (found d c shapes h);
      shapes = λ d c shapes h. fit d c shapes (found d c shapes h);
      rank = rank t;
      falls = falls;
    }
      where
        some : (d : ℕ) → d < length all_shapes → 1 ≤ length (cases_of all_shapes d)
        some d l =
            let within : d < length (datatypes items) = omega (arith, l, length-map (datatypes items) data_shapes) in
            let x = there (datatypes items) d within in
            let one : 1 ≤ length x.0.cases = subst (λ y. 1 ≤ length y.cases) (get_or_from_slice_get (datatypes items) d x.0 x.0 x.1) (cases d x.0 within) in
            omega (arith, one, cases_at d x.0 x.1)

        sized_at : (d : ℕ) (x : Datatype) → slice_get (datatypes items) d ≡ Some x → (length x.cases < 2 ^ 32) × (list_all has_few_fields x.cases ≡ true)
        sized_at d x is =
            let p = both_of (ltb (length x.cases) (2 ^ 32)) (list_all has_few_fields x.cases) (all_at is_sized (datatypes items) d x sized is) in
            (ltb-true (length x.cases) (2 ^ 32) p.0, p.1)

        count : (d : ℕ) (o : Option Datatype) → slice_get (datatypes items) d ≡ o → length (cases_of all_shapes d) < 2 ^ 32
        count d None is =
            let none : length (cases_of all_shapes d) ≡ 0 = ap (λ o. length (unwrap_or o [])) (slice_get-map data_shapes (datatypes items) d ∙ ap (option_map data_shapes) is) in
            omega (arith, none)
        count d (Some x) is = omega (arith, (sized_at d x is).0, cases_at d x is)

        few : (d c : ℕ) (shapes : List Shape) → IsFound d c shapes → length shapes < 2 ^ 32
        few d c shapes f =
            let k = f.constructor in
            let less : length k.fields < 2 ^ 32 = ltb-true (length k.fields) (2 ^ 32) (all_at has_few_fields f.datatype.cases c k (sized_at d f.datatype f.is_data).1 f.is_case) in
            omega (arith, less, ap length f.are, length-map (field_types (case_declared (types_of items) k)) shape_of, length-map (map (field_in (types_of items)) k.fields) (λ q. q.1), length-map k.fields (field_in (types_of items)))

        fit : (d c : ℕ) (shapes : List Shape) → IsFound d c shapes → AreShapes all_shapes shapes
        fit d c shapes f =
            subst (AreShapes all_shapes) (sym f.are) (shapes_fit f.constructor.fields (case_fault f.datatype.cases c f.constructor (fine_at d f.datatype f.is_data).1 f.is_case))

    pub well_formed : IsWellFormed (declared items)
    well_formed = record {
      types = subst AreTypes (sym (shapes_are items)) are_types;
      fields = datas_fit items (datatypes items) recursive large 0 items fine;
      values = maps_fit items (datatypes items) recursive large 0 items fine;
      signatures = signatures_fit items (datatypes items) recursive large 0 items fine;
    }
