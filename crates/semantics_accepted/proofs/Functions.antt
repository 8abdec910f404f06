-- The functions of a checked specification: their signatures, bodies and types.
use Rattle.std.proofs.Common.{◌≡◌, ℕ, zero, suc, ◌+◌, true, Some, None, option_map, List, [], ◌∷◌, length, map, slice_get, refl, sym, ap, ◌∙◌, subst, arith}
use Rattle.std.proofs.lemmas.Option.{slice_get-map, same_Some as some_signature}
use Rattle.syntax_parser.specs.declared.tree.FieldDecl.{FieldDecl}
use Rattle.syntax_parser.specs.Tree as e
use Rattle.syntax_parser.specs.Tree.{Item, Function}
use Rattle.spec_ir.specs.declared.ty.Ty.{Ty}
use Rattle.spec_ir.specs.Environment.{Environment, Signature}
use Rattle.spec_ir.specs.TermTypes.{HasType}
use Rattle.spec_ir.specs.WellFormed.{IsWellFormed, is_signature, is_scope}
use Rattle.spec_ir.specs.Specification.{Fun}
use Rattle.spec_declarations.specs.TypeNames.{TypeTable, types_of}
use Rattle.spec_declarations.specs.Declarations.{type_in, signature_declared, signatures_from, declared}
use Rattle.spec_typing.specs.Terms.{fault_in}
use Rattle.semantics_accepted.specs.Typed.{types}
use Rattle.semantics_accepted.proofs.Typing.{wanted_types_are_had}
use Rattle.spec_checker.specs.Functions.{functions, parameters, body_fault, body_of, core_of_body, bodies_fault, forms_of, terms_in}
use Rattle.spec_checker.specs.Check.{IsFun, AreFunsFrom}
use Rattle.spec_checker.proofs.Making.{signature_scope}
use Rattle.spec_ir.specs.Cores.{core_of}
use Rattle.spec_ir.proofs.Lists.{all_at}
use Rattle.spec_ir.proofs.Checks.{then_left, then_right}
use Rattle.semantics_accepted.proofs.Coring.{cores_are_those}
use Rattle.semantics_laws.specs.Total.{IsTotal}
use Rattle.semantics_laws.proofs.Turns.{signature_of}
use Rattle.semantics_accepted.proofs.Total.{total}

abbrev signed : List ℕ → List Ty → Ty → Signature
signed n p r = record { name = n; params = p; result_type = r }

signature_same : (n m : List ℕ) (p q : List Ty) (r s : Ty) → n ≡ m → p ≡ q → r ≡ s → signed n p r ≡ signed m q s
signature_same n m p q r s a b c = rw (a, b, c) refl

-- signatures are those of functions
signatures_are : (table : TypeTable) (items : List Item) → signatures_from table items ≡ map (signature_declared table) (functions items)
signatures_are table [] = refl
signatures_are table (e.function f ∷ rest) = ap (λ ss. signature_declared table f ∷ ss) (signatures_are table rest)
signatures_are table (e.datatype d ∷ rest) = signatures_are table rest
signatures_are table (e.map_type m ∷ rest) = signatures_are table rest
signatures_are table (e.decode d ∷ rest) = signatures_are table rest

pub signature_at : (table : TypeTable) (items : List Item) (k : ℕ) (f : Function) (s : Signature) → slice_get (functions items) k ≡ Some f → slice_get (signatures_from table items) k ≡ Some s → signature_declared table f ≡ s
signature_at table items k f s h g =
    some_signature (signature_declared table f) s
    (sym (ap (λ ss. slice_get ss k) (signatures_are table items) ∙ slice_get-map (signature_declared table) (functions items) k ∙ ap (option_map (signature_declared table)) h) ∙ g)

-- the types of parameters in scope
parameters_typed : (table : TypeTable) (params : List FieldDecl) → types (parameters params (map (λ p. type_in table p.ty) params)) ≡ map (λ p. type_in table p.ty) params
parameters_typed table [] = refl
parameters_typed table (p ∷ params) = ap (λ ts. type_in table p.ty ∷ ts) (parameters_typed table params)

module _ (env : Environment) (items : List Item) where
  -- ---- by their numbers
  pub record FunAt (n : ℕ) (fs : List Function) (ss : List Signature) (k : ℕ) (g : Fun) : Type 0 where
    pub f : Function
    pub s : Signature
    pub f_at : slice_get fs k ≡ Some f
    pub s_at : slice_get ss k ≡ Some s
    pub is : IsFun env items (n + k) f s g

  pub fun_at : (n : ℕ) (fs : List Function) (ss : List Signature) (gs : List Fun) → AreFunsFrom env items n fs ss gs → (k : ℕ) (g : Fun) → slice_get gs k ≡ Some g → FunAt n fs ss k g
  fun_at n [] [] [] h k g e = absurd cc
  fun_at n [] [] (x ∷ gs) h k g e = absurd h
  fun_at n [] (s ∷ ss) [] h k g e = absurd h
  fun_at n [] (s ∷ ss) (x ∷ gs) h k g e = absurd h
  fun_at n (f ∷ fs) [] [] h k g e = absurd h
  fun_at n (f ∷ fs) [] (x ∷ gs) h k g e = absurd h
  fun_at n (f ∷ fs) (s ∷ ss) [] h k g e = absurd h
  fun_at n (f ∷ fs) (s ∷ ss) (x ∷ gs) h zero g e =
      let same : x ≡ g = cc in
      let place : n ≡ n + 0 = omega arith in
      record { f = f; s = s; f_at = refl; s_at = refl; is = subst (λ z. IsFun env items (n + 0) f s z) same (subst (λ i. IsFun env items i f s x) place h.0) }
  fun_at n (f ∷ fs) (s ∷ ss) (x ∷ gs) h (suc k) g e =
      let r = fun_at (n + 1) fs ss gs h.1 k g e in
      let place : n + 1 + k ≡ n + suc k = omega arith in
      record { f = r.f; s = r.s; f_at = r.f_at; s_at = r.s_at; is = subst (λ i. IsFun env items i r.f r.s g) place r.is }

  -- the function of a tree's function
  pub fun_from : (n : ℕ) (fs : List Function) (ss : List Signature) (gs : List Fun) → AreFunsFrom env items n fs ss gs → (k : ℕ) (f : Function) → slice_get fs k ≡ Some f → (g : Fun) × (slice_get gs k ≡ Some g)
  fun_from n [] [] [] h k f e = absurd cc
  fun_from n [] [] (x ∷ gs) h k f e = absurd h
  fun_from n [] (s ∷ ss) [] h k f e = absurd h
  fun_from n [] (s ∷ ss) (x ∷ gs) h k f e = absurd h
  fun_from n (y ∷ fs) [] [] h k f e = absurd h
  fun_from n (y ∷ fs) [] (x ∷ gs) h k f e = absurd h
  fun_from n (y ∷ fs) (s ∷ ss) [] h k f e = absurd h
  fun_from n (y ∷ fs) (s ∷ ss) (x ∷ gs) h zero f e = (x, refl)
  fun_from n (y ∷ fs) (s ∷ ss) (x ∷ gs) h (suc k) f e = fun_from (n + 1) fs ss gs h.1 k f e

  pub signatures_same : (n : ℕ) (fs : List Function) (ss : List Signature) (gs : List Fun) → AreFunsFrom env items n fs ss gs → map signature_of gs ≡ ss
  signatures_same n [] [] [] h = refl
  signatures_same n [] [] (x ∷ gs) h = absurd h
  signatures_same n [] (s ∷ ss) [] h = absurd h
  signatures_same n [] (s ∷ ss) (x ∷ gs) h = absurd h
  signatures_same n (f ∷ fs) [] [] h = absurd h
  signatures_same n (f ∷ fs) [] (x ∷ gs) h = absurd h
  signatures_same n (f ∷ fs) (s ∷ ss) [] h = absurd h
  signatures_same n (f ∷ fs) (s ∷ ss) (x ∷ gs) h =
      let here : signature_of x ≡ s = signature_same x.name s.name x.params s.params x.result_type s.result_type h.0.name h.0.params h.0.result_type in
      ap (λ z. z ∷ map signature_of gs) here ∙ ap (λ zs. s ∷ zs) (signatures_same (n + 1) fs ss gs h.1)

  pub bodies_count : (n : ℕ) (fs : List Function) (ss : List Signature) (gs : List Fun) → AreFunsFrom env items n fs ss gs → length (terms_in (forms_of env fs ss)) ≡ length gs
  bodies_count n [] [] [] h = refl
  bodies_count n [] [] (x ∷ gs) h = absurd h
  bodies_count n [] (s ∷ ss) [] h = absurd h
  bodies_count n [] (s ∷ ss) (x ∷ gs) h = absurd h
  bodies_count n (f ∷ fs) [] [] h = absurd h
  bodies_count n (f ∷ fs) [] (x ∷ gs) h = absurd h
  bodies_count n (f ∷ fs) (s ∷ ss) [] h = absurd h
  bodies_count n (f ∷ fs) (s ∷ ss) (x ∷ gs) h = ap suc (bodies_count (n + 1) fs ss gs h.1)

  pub body_at : (fs : List Function) (ss : List Signature) (k : ℕ) (f : Function) (s : Signature) → slice_get fs k ≡ Some f → slice_get ss k ≡ Some s → slice_get (terms_in (forms_of env fs ss)) k ≡ Some (body_of env f s)
  body_at [] ss k f s h g = absurd cc
  body_at (x ∷ fs) [] k f s h g = absurd cc
  body_at (x ∷ fs) (y ∷ ss) zero f s h g =
      let one : x ≡ f = cc in
      let two : y ≡ s = cc in
      ap (λ z. Some (body_of env z y)) one ∙ ap (λ z. Some (body_of env f z)) two
  body_at (x ∷ fs) (y ∷ ss) (suc k) f s h g = body_at fs ss k f s h g

  pub body_fine : (fs : List Function) (ss : List Signature) (k : ℕ) (f : Function) (s : Signature) → slice_get fs k ≡ Some f → slice_get ss k ≡ Some s → bodies_fault env fs ss ≡ None → body_fault env f s ≡ None
  body_fine [] ss k f s h g none = absurd cc
  body_fine (x ∷ fs) [] k f s h g none = absurd cc
  body_fine (x ∷ fs) (y ∷ ss) zero f s h g none =
      let one : x ≡ f = cc in
      let two : y ≡ s = cc in
      subst (λ z. body_fault env f z ≡ None) two (subst (λ z. body_fault env z y ≡ None) one (then_left (body_fault env x y) (bodies_fault env fs ss) none))
  body_fine (x ∷ fs) (y ∷ ss) (suc k) f s h g none = body_fine fs ss k f s h g (then_right (body_fault env x y) (bodies_fault env fs ss) none)

-- ---- bodies have their types, and leave nothing open
module _ (items : List Item) (wf : IsWellFormed (declared items)) (f : Function) (s : Signature) (k : ℕ) (f_at : slice_get (functions items) k ≡ Some f) (s_at : slice_get (declared items).funs k ≡ Some s)
    (fine : body_fault (declared items) f s ≡ None) where
  scope_is : is_scope (declared items) (parameters f.params s.params) ≡ true
  scope_is = signature_scope (declared items) f.params s (all_at (is_signature (declared items)) (declared items).funs k s wf.signatures s_at)

  params_are : types (parameters f.params s.params) ≡ s.params
  params_are =
      let same = ap (λ z. z.params) (signature_at (types_of items) items k f s f_at s_at) in
      subst (λ ps. types (parameters f.params ps) ≡ ps) same (parameters_typed (types_of items) f.params)

  pub body_typed : HasType (declared items) s.params (body_of (declared items) f s) s.result_type
  body_typed =
      subst (λ vs. HasType (declared items) vs (body_of (declared items) f s) s.result_type) params_are
      (wanted_types_are_had (declared items) (parameters f.params s.params) f.body s.result_type wf scope_is fine)

  pub body_total : IsTotal (declared items) s.params (body_of (declared items) f s)
  body_total =
      subst (λ vs. IsTotal (declared items) vs (body_of (declared items) f s)) params_are
      (total (declared items) wf (parameters f.params s.params) f.body scope_is (then_left (fault_in (declared items) (parameters f.params s.params) f.body) _ fine))

  pub body_cored : core_of_body (declared items) f s ≡ core_of (declared items) s.params (body_of (declared items) f s)
  body_cored =
      subst (λ vs. core_of_body (declared items) f s ≡ core_of (declared items) vs (body_of (declared items) f s)) params_are
      (cores_are_those (declared items) (parameters f.params s.params) f.body wf scope_is (then_left (fault_in (declared items) (parameters f.params s.params) f.body) _ fine))
