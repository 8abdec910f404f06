-- The machine of a checked specification.
use Rattle.std.proofs.Common.{◌≡◌, ℕ, ◌+◌, ◌<◌, ◌&&◌, ◌==◌, Bool, true, false, cond, leb, bytes_eq, codes, Option, Some, None, option_map, List, [], ◌∷◌, ◌++◌, length, map, slice_get, refl, sym, ap, ◌∙◌, subst, arith}
use Rattle.std.specs.List.{list_all, list_any}
use Rattle.std.proofs.lemmas.Bool.{false≢true}
use Rattle.std.proofs.lemmas.Bool.Decides.{nat_tests}
use Rattle.std.proofs.lemmas.Option.{slice_get-map, slice_get_within}
use Rattle.std.proofs.lemmas.Slice.Eq.{bytes_eq-Decides}
use Rattle.spec_match_compiler.proofs.Truth.{and_left, and_right}
use Rattle.syntax_parser.specs.declared.tree.FieldDecl.{FieldDecl}
use Rattle.syntax_parser.specs.declared.tree.Name.{Name}
use Rattle.syntax_parser.specs.declared.tree.Span.{Span}
use Rattle.syntax_parser.specs.Tree.{Tree, Datatype, Function}
use Rattle.spec_ir.specs.declared.ty.Ty.{Ty}
use Rattle.spec_ir.specs.declared.ty.Ty.TheVariants.{Bool as Flag, Word, Data as DataTy, Map as MapOf}
use Rattle.spec_ir.specs.declared.spec_error.SpecError.TheVariants.{BadState, BadInterp}
use Rattle.spec_ir.specs.declared.spec.Machine.{Machine}
use Rattle.spec_ir.specs.declared.spec.SpecUse.{SpecUse}
use Rattle.spec_declarations.specs.declared.type_names.Meaning.TheVariants.{Known}
use Rattle.spec_declarations.specs.TypeNames.{TypeTable, types_of, type_named, type_or_flag}
use Rattle.spec_declarations.specs.Declarations.{type_in, data_declared, declared}
use Rattle.spec_declarations.specs.Leaves.{datatypes}
use Rattle.spec_declarations.specs.MachineRules.{are_state_fields, is_named, are_instr_and_state, is_interp, interp_fault, state_fault, earlier, instr_in, state_in, interp_in, machine_by, machine_of, first_fault}
use Rattle.spec_declarations.proofs.States.{some_none, datas_are}
use Rattle.spec_names.specs.Names.{names_fault, nothing}
use Rattle.spec_checker.specs.Functions.{functions}
use Rattle.semantics_laws.specs.Accepted.{is_part}
use Rattle.semantics_accepted.proofs.Names.{instr_named, state_named, datatype_at, function_at}

-- the datatypes and the function that a machine is made of
pub record PartsOf (m : Machine) (a b : Option (ℕ × Datatype)) (c : Option (ℕ × Function)) : Type 0 where
  pub i : ℕ × Datatype
  pub s : ℕ × Datatype
  pub f : ℕ × Function
  pub i_is : a ≡ Some i
  pub s_is : b ≡ Some s
  pub f_is : c ≡ Some f
  pub instr : m.instr ≡ i.0
  pub state : m.state ≡ s.0
  pub interp : m.interp ≡ f.0

pub parts_of : (m : Machine) (a b : Option (ℕ × Datatype)) (c : Option (ℕ × Function)) → machine_by a b c ≡ Some m → PartsOf m a b c
parts_of m None b c h = absurd cc
parts_of m (Some i) None c h = absurd cc
parts_of m (Some i) (Some s) None h = absurd cc
parts_of m (Some i) (Some s) (Some f) h =
    let same : record { instr = i.0; state = s.0; interp = f.0 } ≡ m = cc in
    record {
      i = i;
      s = s;
      f = f;
      i_is = refl;
      s_is = refl;
      f_is = refl;
      instr = ap (λ z. z.instr) (sym same);
      state = ap (λ z. z.state) (sym same);
      interp = ap (λ z. z.interp) (sym same);
    }

-- ---- the function of instructions

no_interp_place : (a b : Option Span) → earlier a b ≡ None → b ≡ None
no_interp_place a None h = refl
no_interp_place None (Some b) h = some_none _ h
no_interp_place (Some a) (Some b) h = at (leb a.from b.from) h
  where
    at : (c : Bool) → cond c (Some (BadState a)) (Some (BadInterp b)) ≡ None → Some b ≡ None
    at true k = some_none _ k
    at false k = some_none _ k

interp_is : (o : Option (ℕ × Datatype)) (end : ℕ) (f : ℕ × Function) → interp_fault o end (Some f) ≡ None → is_interp o f.1 ≡ true
interp_is o end f h = at (is_interp o f.1) h
  where
    at : (b : Bool) → cond b None (Some f.1.name.span) ≡ None → b ≡ true
    at true k = refl
    at false k = some_none _ k

named_is : (types : TypeTable) (name : Name) (text : List ℕ) (t : Ty) → bytes_eq name.text text ≡ true → type_named types text ≡ Known t → type_in types name ≡ t
named_is types name text t h k = ap (λ z. type_or_flag (type_named types z)) ((bytes_eq-Decides name.text text).0 h) ∙ ap type_or_flag k

two_params : (types : TypeTable) (params : List FieldDecl) (i s : Ty) → are_instr_and_state params ≡ true → type_named types (codes "Instr") ≡ Known i → type_named types (codes "State") ≡ Known s
    → map (λ p. type_in types p.ty) params ≡ i ∷ s ∷ []
two_params types [] i s h k g = absurd (false≢true h)
two_params types (p ∷ []) i s h k g = absurd (wrong (and_left (length (p ∷ []) == 2) (is_named (codes "Instr") (Some p) && is_named (codes "State") None) h))
  where
    wrong : (length (p ∷ []) == 2) ≡ true → ⊥
    wrong e = let same : length (p ∷ []) ≡ 2 = grind (arith, nat_tests) in omega arith
two_params types (p ∷ q ∷ []) i s h k g =
    let names = and_right (length (p ∷ q ∷ []) == 2) (is_named (codes "Instr") (Some p) && is_named (codes "State") (Some q)) h in
    let one = named_is types p.ty (codes "Instr") i (and_left (is_named (codes "Instr") (Some p)) (is_named (codes "State") (Some q)) names) k in
    let two = named_is types q.ty (codes "State") s (and_right (is_named (codes "Instr") (Some p)) (is_named (codes "State") (Some q)) names) g in
    ap (λ z. z ∷ type_in types q.ty ∷ []) one ∙ ap (λ z. i ∷ z ∷ []) two
two_params types (p ∷ q ∷ r ∷ rest) i s h k g = absurd (wrong (and_left (length (p ∷ q ∷ r ∷ rest) == 2) (is_named (codes "Instr") (Some p) && is_named (codes "State") (Some q)) h))
  where
    wrong : (length (p ∷ q ∷ r ∷ rest) == 2) ≡ true → ⊥
    wrong e = let same : length (p ∷ q ∷ r ∷ rest) ≡ 2 = grind (arith, nat_tests) in omega arith

-- ---- states
pub parts_are : (maps : List ℕ) (ts : List Ty) → are_state_fields maps ts ≡ true → list_all is_part ts ≡ true
parts_are maps [] h = refl
parts_are maps (Flag ∷ ts) h = absurd (false≢true h)
parts_are maps (Word w ∷ ts) h = parts_are maps ts h
parts_are maps (DataTy d ∷ ts) h = absurd (false≢true h)
parts_are maps (MapOf m ∷ ts) h = at (list_any (λ k. k == m) maps) h (parts_are (maps ++ m ∷ []) ts)
  where
    at : (b : Bool) → cond b false (are_state_fields (maps ++ m ∷ []) ts) ≡ true → (are_state_fields (maps ++ m ∷ []) ts ≡ true → list_all is_part ts ≡ true) → list_all is_part ts ≡ true
    at true k go = absurd (false≢true k)
    at false k go = go k

module _ (tree : Tree) (m : Machine) (none : names_fault tree ≡ None) (fine : first_fault tree ≡ None) (made : machine_of SpecUse.Machine tree ≡ Some m) where
  pub parts : PartsOf m (instr_in tree) (state_in tree) (interp_in tree)
  parts = parts_of m (instr_in tree) (state_in tree) (interp_in tree) made

  pub instr_is : instr_in tree ≡ Some parts.i
  instr_is = parts.i_is

  -- a datatype of a name, as it is declared
  data_at : (name : List ℕ) (d : ℕ × Datatype) (n : ℕ) → n ≡ d.0 → (j : ℕ) × (d.0 ≡ 0 + j) × (slice_get (datatypes tree.items) j ≡ Some d.1) → slice_get (declared tree.items).datas n ≡ Some (data_declared (types_of tree.items) d.1)
  data_at name d n e r =
      let place : r.0 ≡ n = omega (arith, r.1, e) in
      let there = subst (λ k. slice_get (datatypes tree.items) k ≡ Some d.1) place r.2 in
      ap (λ ds. slice_get ds n) (datas_are (types_of tree.items) tree.items) ∙ slice_get-map (data_declared (types_of tree.items)) (datatypes tree.items) n ∙ ap (option_map (data_declared (types_of tree.items))) there

  pub instr_below : m.instr < length (declared tree.items).datas
  instr_below =
      slice_get_within (declared tree.items).datas m.instr (data_declared (types_of tree.items) parts.i.1)
      (data_at (codes "Instr") parts.i m.instr parts.instr (datatype_at 0 tree.items (codes "Instr") parts.i parts.i_is))

  pub state_at : slice_get (declared tree.items).datas m.state ≡ Some (data_declared (types_of tree.items) parts.s.1)
  state_at = data_at (codes "State") parts.s m.state parts.state (datatype_at 0 tree.items (codes "State") parts.s parts.s_is)

  pub interp : Function
  interp = parts.f.1

  pub interp_at : slice_get (functions tree.items) m.interp ≡ Some parts.f.1
  interp_at =
      let r = function_at 0 tree.items (codes "interpInstr") parts.f parts.f_is in
      let place : r.0 ≡ m.interp = omega (arith, r.1, parts.interp) in
      subst (λ k. slice_get (functions tree.items) k ≡ Some parts.f.1) place r.2

  right : is_interp (Some parts.i) parts.f.1 ≡ true
  right =
      let place = no_interp_place (state_fault (types_of tree.items) tree.end (state_in tree)) (interp_fault (instr_in tree) tree.end (interp_in tree)) fine in
      interp_is (Some parts.i) tree.end parts.f (subst (λ o. interp_fault o tree.end (Some parts.f) ≡ None) parts.i_is (subst (λ o. interp_fault (instr_in tree) tree.end o ≡ None) parts.f_is place))

  state_meant : type_named (types_of tree.items) (codes "State") ≡ Known (DataTy m.state)
  state_meant = state_named nothing tree.items parts.s none parts.s_is ∙ ap (λ n. Known (DataTy n)) (sym parts.state)

  pub takes : map (λ p. type_in (types_of tree.items) p.ty) parts.f.1.params ≡ DataTy m.instr ∷ DataTy m.state ∷ []
  takes =
      let instr_meant = instr_named nothing tree.items parts.i none parts.i_is ∙ ap (λ n. Known (DataTy n)) (sym parts.instr) in
      two_params (types_of tree.items) parts.f.1.params (DataTy m.instr) (DataTy m.state) (and_left (are_instr_and_state parts.f.1.params) (bytes_eq parts.f.1.result_type.text (codes "State")) right) instr_meant state_meant

  pub returns : type_in (types_of tree.items) parts.f.1.result_type ≡ DataTy m.state
  returns = named_is (types_of tree.items) parts.f.1.result_type (codes "State") (DataTy m.state) (and_right (are_instr_and_state parts.f.1.params) (bytes_eq parts.f.1.result_type.text (codes "State")) right) state_meant

  pub number_is : parts.i.0 ≡ m.instr
  number_is = sym parts.instr
