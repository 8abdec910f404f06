-- The type of states.
use Rattle.std.proofs.Common.{◌≡◌, ℕ, suc, ◌+◌, Bool, true, false, ◌&&◌, cond, eqb, leb, bytes_eq, codes, Option, Some, None, List, [], ◌∷◌, map, drop, length, slice_get, option_map, refl, sym, ap, ◌∙◌, subst, arith}
use Rattle.std.specs.List.{list_all}
use Rattle.std.proofs.lemmas.Bool.{false≢true, and_parts as both}
use Rattle.std.proofs.lemmas.Bool.Decides.{Decides-eqb}
use Rattle.std.proofs.lemmas.Option.{slice_get-map}
use Rattle.syntax_parser.specs.declared.tree.Span.{Span}
use Rattle.syntax_parser.specs.declared.tree.FieldDecl.{FieldDecl}
use Rattle.syntax_parser.specs.Tree as e
use Rattle.syntax_parser.specs.Tree.{Item, Datatype, Constructor, Function}
use Rattle.spec_ir.specs.declared.ty.Ty.{Ty}
use Rattle.spec_ir.specs.declared.ty.Ty.TheVariants.{Bool as Flag, Word, Data as DataTy, Map as MapOf}
use Rattle.spec_ir.specs.declared.spec_error.SpecError.TheVariants.{BadState, BadInterp}
use Rattle.spec_ir.specs.declared.spec.Machine.{Machine}
use Rattle.spec_ir.specs.declared.spec.SpecUse.{SpecUse}
use Rattle.spec_ir.specs.Environment.{Case, Data, field_types}
use Rattle.spec_declarations.specs.Declarations.{type_in, field_in, case_declared, data_declared, datas_from}
use Rattle.spec_declarations.specs.Leaves.{datatypes}
use Rattle.spec_declarations.specs.MachineRules.{datatype_from, are_state_fields, is_counter, is_counter_field, is_state_case, is_state, is_interp, state_fault, interp_fault, earlier, instr_in, state_in, interp_in, machine_by, machine_of}
use Rattle.spec_declarations.specs.TypeNames.{TypeTable, types_of}
use Rattle.spec_declarations.specs.Laws.{MachinesAreThere, StateIsOne}

pub some_none : {A B : Type 0} (x : A) → Some x ≡ None → B
some_none x h = absurd cc

pub none_some : {A B : Type 0} (x : A) → None ≡ Some x → B
none_some x h = absurd cc

-- ---- no fault

no_places : (a b : Option Span) → earlier a b ≡ None → (a ≡ None) × (b ≡ None)
no_places None None h = (refl, refl)
no_places (Some a) None h = some_none _ h
no_places None (Some b) h = some_none _ h
no_places (Some a) (Some b) h = choice (leb a.from b.from) h
  where
    choice : (c : Bool) → cond c (Some (BadState a)) (Some (BadInterp b)) ≡ None → (Some a ≡ None) × (Some b ≡ None)
    choice true k = some_none _ k
    choice false k = some_none _ k

a_state : (types : TypeTable) (end : ℕ) (o : Option (ℕ × Datatype)) → state_fault types end o ≡ None → (d : ℕ × Datatype) × (o ≡ Some d) × (is_state types d.1 ≡ true)
a_state types end None h = some_none _ h
a_state types end (Some d) h = (d, refl, choice (is_state types d.1) h)
  where
    choice : (c : Bool) → cond c None (Some d.1.name.span) ≡ None → c ≡ true
    choice true k = refl
    choice false k = some_none _ k

an_interp : (instr : Option (ℕ × Datatype)) (end : ℕ) (o : Option (ℕ × Function)) → interp_fault instr end o ≡ None → (f : ℕ × Function) × (o ≡ Some f) × (is_interp instr f.1 ≡ true)
an_interp instr end None h = some_none _ h
an_interp instr end (Some f) h = (f, refl, choice (is_interp instr f.1) h)
  where
    choice : (c : Bool) → cond c None (Some f.1.name.span) ≡ None → c ≡ true
    choice true k = refl
    choice false k = some_none _ k

an_instr : (o : Option (ℕ × Datatype)) (f : Function) → is_interp o f ≡ true → (i : ℕ × Datatype) × (o ≡ Some i)
an_instr None f h = absurd (false≢true h)
an_instr (Some i) f h = (i, refl)

pub machines_are_there : MachinesAreThere
machines_are_there tree h =
    let p = no_places (state_fault (types_of tree.items) tree.end (state_in tree)) (interp_fault (instr_in tree) tree.end (interp_in tree)) h in
    let s = a_state (types_of tree.items) tree.end (state_in tree) p.0 in
    let f = an_interp (instr_in tree) tree.end (interp_in tree) p.1 in
    let i = an_instr (instr_in tree) f.0.1 f.2 in (
      record { instr = i.0.0; state = s.0.0; interp = f.0.0 },
      ap (λ x. machine_by x (state_in tree) (interp_in tree)) i.1 ∙ ap (λ x. machine_by (Some i.0) x (interp_in tree)) s.1 ∙ ap (machine_by (Some i.0) (Some s.0)) f.1,
    )

-- ---- the datatype of a name

at_name : (n : ℕ) (items : List Item) (name : List ℕ) (d : ℕ × Datatype) → datatype_from n items name ≡ Some d → (j : ℕ) × (d.0 ≡ n + j) × (slice_get (datatypes items) j ≡ Some d.1)
at_name n [] name d h = none_some d h
at_name n (e.datatype x ∷ items) name d h = here (bytes_eq x.name.text name) h (λ k. at_name (n + 1) items name d k)
  where
    one : Some (n, x) ≡ Some d → (n ≡ d.0) × (x ≡ d.1)
    one q = let same : (n, x) ≡ d = cc in (ap (λ p. p.0) same, ap (λ p. p.1) same)

    here : (c : Bool) → cond c (Some (n, x)) (datatype_from (n + 1) items name) ≡ Some d
        → (datatype_from (n + 1) items name ≡ Some d → (j : ℕ) × (d.0 ≡ n + 1 + j) × (slice_get (datatypes items) j ≡ Some d.1))
        → (j : ℕ) × (d.0 ≡ n + j) × (slice_get (x ∷ datatypes items) j ≡ Some d.1)
    here true q later = let r = one q in (0, omega (arith, r.0), ap Some r.1)
    here false q later = let r = later q in (suc r.0, omega (arith, r.1), r.2)
at_name n (e.map_type m ∷ items) name d h = at_name n items name d h
at_name n (e.function f ∷ items) name d h = at_name n items name d h
at_name n (e.decode x ∷ items) name d h = at_name n items name d h

pub datas_are : (types : TypeTable) (rest : List Item) → datas_from types rest ≡ map (data_declared types) (datatypes rest)
datas_are types [] = refl
datas_are types (e.datatype x ∷ rest) = ap (λ ds. data_declared types x ∷ ds) (datas_are types rest)
datas_are types (e.map_type m ∷ rest) = datas_are types rest
datas_are types (e.function f ∷ rest) = datas_are types rest
datas_are types (e.decode x ∷ rest) = datas_are types rest

fused : (types : TypeTable) (fields : List FieldDecl) → map (λ f. f.1) (map (field_in types) fields) ≡ map (λ f. type_in types f.ty) fields
fused types [] = refl
fused types (f ∷ fields) = ap (λ ts. type_in types f.ty ∷ ts) (fused types fields)

-- ---- its one constructor

counter_is : (t : Ty) → is_counter t ≡ true → t ≡ Word 32
counter_is Flag h = absurd (false≢true h)
counter_is (Word w) h = ap Word (same h)
  where
    same : eqb w 32 ≡ true → w ≡ 32
    same q = (Decides-eqb w 32).0 q
counter_is (DataTy d) h = absurd (false≢true h)
counter_is (MapOf m) h = absurd (false≢true h)

abbrev IsState : TypeTable → List Case → Type 0
IsState types cases = (c : Case) × (rest : List Ty) × (cases ≡ c ∷ []) × (field_types c ≡ Word 32 ∷ rest) × (are_state_fields [] rest ≡ true)

one_case : (types : TypeTable) (name : List ℕ) (fields : List FieldDecl) → is_counter_field types (slice_get fields 0) && are_state_fields [] (map (λ f. type_in types f.ty) (drop 1 fields)) ≡ true
    → (rest : List Ty) × (map (λ f. f.1) (map (field_in types) fields) ≡ Word 32 ∷ rest) × (are_state_fields [] rest ≡ true)
one_case types name [] h = absurd (false≢true h)
one_case types name (f ∷ fields) h =
    let p = both (is_counter (type_in types f.ty)) (are_state_fields [] (map (λ g. type_in types g.ty) fields)) h in
    (map (λ g. type_in types g.ty) fields, ap (λ t. t ∷ map (λ g. g.1) (map (field_in types) fields)) (counter_is (type_in types f.ty) p.0) ∙ ap (λ ts. Word 32 ∷ ts) (fused types fields), p.1)

one_state : (types : TypeTable) (x : Datatype) → is_state types x ≡ true → IsState types (data_declared types x).cases
one_state types x h = cases x.cases h
  where
    cases : (cs : List Constructor) → (eqb (length cs) 1 && list_all (is_state_case types) cs) ≡ true → IsState types (map (case_declared types) cs)
    cases [] k = absurd (false≢true k)
    cases (c ∷ []) k =
        let p = both (is_state_case types c) true k in
        let r = one_case types c.name.text c.fields p.0 in
        (case_declared types c, r.0, refl, r.1, r.2)
    cases (c ∷ d ∷ cs) k = absurd (wrong (Decides-eqb (length (c ∷ d ∷ cs)) 1).0 (both (eqb (length (c ∷ d ∷ cs)) 1) (list_all (is_state_case types) (c ∷ d ∷ cs)) k).0)
      where
        wrong : (eqb (length (c ∷ d ∷ cs)) 1 ≡ true → length (c ∷ d ∷ cs) ≡ 1) → eqb (length (c ∷ d ∷ cs)) 1 ≡ true → ⊥
        wrong f q = let same = f q in omega arith

pub state_is_one : StateIsOne
state_is_one tree m d h is at =
    let types = types_of tree.items in
    let p = no_places (state_fault types tree.end (state_in tree)) (interp_fault (instr_in tree) tree.end (interp_in tree)) h in
    let s = a_state types tree.end (state_in tree) p.0 in
    let f = an_interp (instr_in tree) tree.end (interp_in tree) p.1 in
    let i = an_instr (instr_in tree) f.0.1 f.2 in
    let made : machine_of SpecUse.Machine tree ≡ Some (record { instr = i.0.0; state = s.0.0; interp = f.0.0 }) = ap (λ x. machine_by x (state_in tree) (interp_in tree)) i.1 ∙ ap (λ x. machine_by (Some i.0) x (interp_in tree)) s.1 ∙ ap (machine_by (Some i.0) (Some s.0)) f.1 in
    let place = at_name 0 tree.items (codes "State") s.0 s.1 in
    let number : m.state ≡ place.0 = number_is m (record { instr = i.0.0; state = s.0.0; interp = f.0.0 }) (sym is ∙ made) place.0 place.1 in
    let there : slice_get (datas_from types tree.items) place.0 ≡ Some (data_declared types s.0.1) = ap (λ ds. slice_get ds place.0) (datas_are types tree.items) ∙ slice_get-map (data_declared types) (datatypes tree.items) place.0 ∙ ap (option_map (data_declared types)) place.2 in
    subst (λ x. IsState types x.cases) (one (sym there ∙ ap (slice_get (datas_from types tree.items)) (sym number) ∙ at)) (one_state types s.0.1 s.2)
  where
    one : {x y : Data} → Some x ≡ Some y → x ≡ y
    one q = cc

    number_is : (a b : Machine) → Some a ≡ Some b → (j : ℕ) → b.state ≡ 0 + j → a.state ≡ j
    number_is a b q j r = let same : a ≡ b = cc in ap (λ x. x.state) same ∙ r ∙ (omega arith)
