-- A term without faults has a type of the environment.
use Rattle.std.proofs.Common.{◌≡◌, ℕ, zero, suc, ◌+◌, ◌<◌, Bool, true, false, ◌&&◌, Option, Some, None, List, [], ◌∷◌, ◌++◌, length, refl, sym, subst, ap, ◌∙◌, arith, slice_get}
use Rattle.std.proofs.lemmas.Bool.Decides.{nat_tests}
use Rattle.std.specs.List.{list_all}
use Rattle.std.specs.Prelude.{if◌then◌else◌, bytes_eq, nat_lt, option_map}
use Rattle.std.proofs.lemmas.Bool.{and_from as and_both}
use Rattle.syntax_parser.specs.Tree as e
use Rattle.syntax_parser.specs.Tree.{Term as Expr, Arms as ExprArms, Pattern}
use Rattle.syntax_parser.specs.declared.tree.Name.{Name}
use Rattle.syntax_parser.specs.declared.tree.Num.{Num}
use Rattle.syntax_parser.specs.declared.tree.PreOp.{PreOp}
use Rattle.syntax_parser.specs.declared.tree.Span.{Span}
use Rattle.spec_match_compiler.specs.Answers.{match_answer, decided, decision}
use Rattle.spec_match_compiler.proofs.Truth.{and_left, and_right}
use Rattle.spec_ir.specs.declared.ty.Ty.{Ty}
use Rattle.spec_ir.specs.declared.ty.Ty.TheVariants.{Bool as Flag, Word, Data as DataTy, Map as MapOf}
use Rattle.spec_ir.specs.declared.declared.MapType.{MapType}
use Rattle.spec_ir.specs.declared.spec_error.SpecError.{SpecError}
use Rattle.spec_ir.specs.declared.term.CastKind.{CastKind}
use Rattle.spec_ir.specs.Answers.{◌then◌, unless, within, found}
use Rattle.spec_ir.specs.Environment.{Environment, Scope, Variable, Constructor, Function, Signature, Case, Data, field_types, case_from, constructor_from, constructor_named, function_from, function_named, variable_from, variable_named, or_else, value_of, value_type, shape_of, shapes_of}
use Rattle.spec_ir.specs.WellFormed.{IsWellFormed, is_scope, is_signature, is_type, is_width}
use Rattle.spec_ir.proofs.Checks.{then_left, then_right, unless_none}
use Rattle.spec_patterns.specs.Faults.{fits, unknown, count_fault, literal_fault}
use Rattle.spec_patterns.specs.Patterns.{variables, pattern_fault}
use Rattle.spec_patterns.proofs.Steps.{fits_width}
use Rattle.spec_patterns.proofs.Variables.{all_append, variables_are_typed}
use Rattle.spec_term_forms.specs.Forms.{operator_type, prefix_type}
use Rattle.spec_term_forms.specs.Operators.{Operator, both, either, operation, comparison, operator_of, keyword_operator, cast_of, cast_fits}
use Rattle.spec_typing.specs.Parts.{Part, wanted, wanted_if, word_wanted, map_wanted, word_fault, cast_fault, match_fault}
use Rattle.spec_typing.specs.Terms.{fault_in, type_of, arms_fault, arms_type, part, rows_of, enter, type_or, operand_fault, prefix_fault, cast_to_fault, map_of, callee_fault, maker_fault}

-- ---- what is found by a name has a type of the environment

variable_fits : (env : Environment) (n : ℕ) (scope : Scope) (name : List ℕ) (x : Variable) → is_scope env scope ≡ true → variable_from n scope name ≡ Some x → is_type env x.ty ≡ true
variable_fits env n [] name x h k = absurd cc
variable_fits env n (b ∷ rest) name x h k = at (variable_from (n + 1) rest name) refl (λ y r. variable_fits env (n + 1) rest name y (and_right (is_type env b.1) (is_scope env rest) h) r) k
  where
    here : (t : Bool) → (if t then Some (record { place = n; ty = b.1 }) else None) ≡ Some x → is_type env x.ty ≡ true
    here true q =
        let same : record { place = n; ty = b.1 } ≡ x = cc in
        subst (λ (v : Variable). is_type env v.ty ≡ true) same (and_left (is_type env b.1) (is_scope env rest) h)
    here false q = absurd cc

    at : (o : Option Variable) → variable_from (n + 1) rest name ≡ o → ((y : Variable) → variable_from (n + 1) rest name ≡ Some y → is_type env y.ty ≡ true)
        → or_else o (if bytes_eq b.0 name then Some (record { place = n; ty = b.1 }) else None) ≡ Some x → is_type env x.ty ≡ true
    at None r later q = here (bytes_eq b.0 name) q
    at (Some y) r later q =
        let same : y ≡ x = cc in
        subst (λ (v : Variable). is_type env v.ty ≡ true) same (later y r)

function_fits : (env : Environment) (n : ℕ) (fs : List Signature) (name : List ℕ) (f : Function) → list_all (is_signature env) fs ≡ true → function_from n fs name ≡ Some f → is_type env f.signature.result_type ≡ true
function_fits env n [] name f h k = absurd cc
function_fits env n (s ∷ rest) name f h k = at (bytes_eq s.name name) (function_fits env (n + 1) rest name f (and_right (is_signature env s) (list_all (is_signature env) rest) h)) k
  where
    at : (t : Bool) → (function_from (n + 1) rest name ≡ Some f → is_type env f.signature.result_type ≡ true)
        → (if t then Some (record { fun = n; signature = s }) else function_from (n + 1) rest name) ≡ Some f → is_type env f.signature.result_type ≡ true
    at true later q =
        let same : record { fun = n; signature = s } ≡ f = cc in
        let own = and_left (is_signature env s) (list_all (is_signature env) rest) h in
        subst (λ (g : Function). is_type env g.signature.result_type ≡ true) same (and_right (list_all (is_type env) s.params) (is_type env s.result_type) own)
    at false later q = later q

case_number_is : (t n : ℕ) (cs : List Case) (name : List ℕ) (c : Constructor) → case_from t n cs name ≡ Some c → c.ty ≡ t
case_number_is t n [] name c h = absurd cc
case_number_is t n (x ∷ rest) name c h = at (bytes_eq x.name name) (case_number_is t (n + 1) rest name c) h
  where
    at : (b : Bool) → (case_from t (n + 1) rest name ≡ Some c → c.ty ≡ t) → (if b then Some (record { ty = t; case = n; fields = field_types x }) else case_from t (n + 1) rest name) ≡ Some c → c.ty ≡ t
    at true later k =
        let same : record { ty = t; case = n; fields = field_types x } ≡ c = cc in
        subst (λ (y : Constructor). y.ty ≡ t) same refl
    at false later k = later k

datatype_below : (t : ℕ) (ds : List Data) (name : List ℕ) (c : Constructor) → constructor_from t ds name ≡ Some c → c.ty < t + length ds
datatype_below t [] name c h = absurd cc
datatype_below t (d ∷ rest) name c h = at (case_from t 0 d.cases name) refl (datatype_below (t + 1) rest name c) h
  where
    at : (o : Option Constructor) → case_from t 0 d.cases name ≡ o → (constructor_from (t + 1) rest name ≡ Some c → c.ty < t + 1 + length rest)
        → or_else o (constructor_from (t + 1) rest name) ≡ Some c → c.ty < t + length (d ∷ rest)
    at None r later k = let l = later k in omega (arith, l)
    at (Some x) r later k =
        let same : x ≡ c = cc in
        let l = subst (λ (y : Constructor). y.ty ≡ t) same (case_number_is t 0 d.cases name x r) in
        omega (arith, l)

value_fits : (env : Environment) (maps : List MapType) (m : ℕ) → list_all (λ (d : MapType). is_width d.width) maps ≡ true → is_type env (value_of (slice_get maps m)) ≡ true
value_fits env [] m h = refl
value_fits env (d ∷ maps) zero h = and_left (is_width d.width) (list_all (λ (x : MapType). is_width x.width) maps) h
value_fits env (d ∷ maps) (suc m) h = value_fits env maps m (and_right (is_width d.width) (list_all (λ (x : MapType). is_width x.width) maps) h)

-- ---- terms

pub record TypeFound (env : Environment) (o : Option Ty) : Type 0 where
  pub ty : Ty
  pub is : o ≡ Some ty
  pub fits : is_type env ty ≡ true

module _ (env : Environment) where
  operand_part : (op : Operator) (x : Part) → operand_fault env op x ≡ None → x.fault ≡ None
  operand_part both x h = then_left x.fault _ h
  operand_part either x h = then_left x.fault _ h
  operand_part (operation op) x h = then_left x.fault _ h
  operand_part (comparison c) x h = then_left x.fault _ h

  operator_found : (op : Operator) (o : Option Ty) → TypeFound env o → TypeFound env (operator_type op o)
  operator_found both o f = record { ty = Flag; is = refl; fits = refl }
  operator_found either o f = record { ty = Flag; is = refl; fits = refl }
  operator_found (operation op) o f = f
  operator_found (comparison c) o f = record { ty = Flag; is = refl; fits = refl }

  prefix_part : (op : PreOp) (x : Part) → prefix_fault env op x ≡ None → x.fault ≡ None
  prefix_part PreOp.Bang x h = then_left x.fault _ h
  prefix_part PreOp.Tilde x h = then_left x.fault _ h
  prefix_part PreOp.Minus x h = then_left x.fault _ h

  prefix_found : (op : PreOp) (o : Option Ty) → TypeFound env o → TypeFound env (prefix_type op o)
  prefix_found PreOp.Bang o f = record { ty = Flag; is = refl; fits = refl }
  prefix_found PreOp.Tilde o f = f
  prefix_found PreOp.Minus o f = f

  cast_width : (kind : CastKind) (from to : ℕ) → cast_fits kind from to ≡ true → is_width to ≡ true
  cast_width CastKind.Cut from to h = and_left (is_width to) _ h
  cast_width CastKind.Zero from to h = and_left (is_width to) _ h
  cast_width CastKind.Sign from to h = and_left (is_width to) _ h

  -- a cast without a fault is one of a word
  cast_found : (kind : CastKind) (t : Ty) (to : Num) (span place : Span) → word_fault env place t ≡ None → cast_fault kind t to span ≡ None → is_width to.v ≡ true
  cast_found kind (Word w) to span place h k = cast_width kind w to.v (unless_none (cast_fits kind w to.v) _ k)
  cast_found kind Flag to span place h k = absurd cc
  cast_found kind (DataTy d) to span place h k = absurd cc
  cast_found kind (MapOf m) to span place h k = absurd cc

  casts : (kind : CastKind) (x : Part) (to : Num) (span : Span) → TypeFound env x.ty → cast_to_fault env kind x to span ≡ None → is_width to.v ≡ true
  unfolding cast_to_fault
  casts kind x to span f h =
      let k = rw f.is at h in
      cast_found kind f.ty to span x.span (then_right x.fault _ (then_left (x.fault then word_fault env x.span f.ty) _ k)) (then_right (x.fault then word_fault env x.span f.ty) _ k)

  cast_part : (kind : CastKind) (x : Part) (to : Num) (span : Span) → cast_to_fault env kind x to span ≡ None → x.fault ≡ None
  unfolding cast_to_fault
  cast_part kind x to span h = then_left x.fault _ (then_left (word_wanted env x) _ h)

  variable_found : (scope : Scope) (name : Name) (o : Option Variable) → is_scope env scope ≡ true → variable_named scope name.text ≡ o → found o (unknown name) (λ x. None) ≡ None → TypeFound env (option_map (λ (x : Variable). x.ty) o)
  variable_found scope name None s r h = absurd cc
  variable_found scope name (Some x) s r h = record { ty = x.ty; is = refl; fits = variable_fits env 0 scope name.text x s r }

  result_found : (wf : IsWellFormed env) (name : Name) (got : ℕ) (o : Option Function) → function_named env name.text ≡ o → found o (unknown name) (λ f. count_fault name (length f.signature.params) got) ≡ None → TypeFound env (option_map (λ (f : Function). f.signature.result_type) o)
  result_found wf name got None r h = absurd cc
  result_found wf name got (Some f) r h = record { ty = f.signature.result_type; is = refl; fits = function_fits env 0 env.funs name.text f wf.signatures r }

  below_is : (a b : ℕ) → a < b → nat_lt a b ≡ true
  below_is a b h = grind (arith, nat_tests)

  datatype_found : (name : Name) (got : ℕ) (o : Option Constructor) → constructor_named env name.text ≡ o → found o (unknown name) (λ c. count_fault name (length c.fields) got) ≡ None → TypeFound env (option_map (λ (c : Constructor). DataTy c.ty) o)
  datatype_found name got None r h = absurd cc
  datatype_found name got (Some c) r h =
      let l = datatype_below 0 env.datas name.text c r in
      record { ty = DataTy c.ty; is = refl; fits = below_is c.ty (length env.datas) (omega (arith, l)) }

  entered : (scope : Scope) (name : List ℕ) (o : Option Ty) → is_scope env scope ≡ true → TypeFound env o → is_scope env (enter scope name o) ≡ true
  entered scope name o s f =
      let fine : is_type env (type_or o) ≡ true = rw f.is f.fits in
      all_append (λ b. is_type env b.1) scope ((name, type_or o) ∷ []) s (and_both (is_type env (type_or o)) true fine refl)

  -- no match is without arms
  pub no_empty_match : (span : Span) (ty : Ty) → match_fault env span ty [] ≡ None → ⊥
  unfolding match_answer decided
  no_empty_match span ty h = cc

  pub type_found : (wf : IsWellFormed env) (scope : Scope) (x : Expr) → is_scope env scope ≡ true → fault_in env scope x ≡ None → TypeFound env (type_of env scope x)
  type_found wf scope (e.let_in name x body span) s h =
      let f = type_found wf scope x s (then_left (fault_in env scope x) _ h) in
      type_found wf (enter scope name.text (type_of env scope x)) body (entered scope name.text (type_of env scope x) s f) (then_right (fault_in env scope x) _ h)
  type_found wf scope (e.if_else c x y span) s h =
      let front = then_left (wanted env Flag (part env scope c) then fault_in env scope x) _ h in
      type_found wf scope x s (then_right (wanted env Flag (part env scope c)) _ front)
  type_found wf scope (e.binary op x y span) s h =
      let front = then_left (operand_fault env (operator_of op) (part env scope x)) _ h in
      operator_found (operator_of op) (type_of env scope x) (type_found wf scope x s (operand_part (operator_of op) (part env scope x) front))
  type_found wf scope (e.operation op x y span) s h =
      let front = then_left (operand_fault env (keyword_operator op) (part env scope x)) _ h in
      operator_found (keyword_operator op) (type_of env scope x) (type_found wf scope x s (operand_part (keyword_operator op) (part env scope x) front))
  type_found wf scope (e.prefix op x span) s h =
      prefix_found op (type_of env scope x) (type_found wf scope x s (prefix_part op (part env scope x) h))
  type_found wf scope (e.get x key span) s h =
      record { ty = value_type env (map_of (type_of env scope x)); is = refl; fits = value_fits env env.maps (map_of (type_of env scope x)) wf.values }
  type_found wf scope (e.put x key v span) s h =
      let front = then_left (map_wanted env (part env scope x)) _ (then_left (map_wanted env (part env scope x) then _) _ h) in
      type_found wf scope x s (then_left (fault_in env scope x) _ front)
  type_found wf scope (e.Term.word v w span) s h =
      record { ty = Word w.v; is = refl; fits = fits_width v.v w.v (unless_none (fits v.v w.v) _ h) }
  type_found wf scope (e.Term.flag b span) s h = record { ty = Flag; is = refl; fits = refl }
  type_found wf scope (e.var name) s h = variable_found scope name (variable_named scope name.text) s refl h
  type_found wf scope (e.call name args span) s h =
      result_found wf name _ (function_named env name.text) refl (then_left (callee_fault env name _) _ h)
  type_found wf scope (e.Term.make name args span) s h =
      datatype_found name _ (constructor_named env name.text) refl (then_left (maker_fault env name _) _ h)
  type_found wf scope (e.cast op x to span) s h =
      let fx = type_found wf scope x s (cast_part (cast_of op) (part env scope x) to span h) in
      record { ty = Word to.v; is = refl; fits = casts (cast_of op) (part env scope x) to span fx h }
  type_found wf scope (e.match_on x e.no_arm span) s h =
      absurd (no_empty_match span (type_or (type_of env scope x)) (then_right (fault_in env scope x then None) _ h))
  type_found wf scope (e.match_on x (e.arm p body place rest) span) s h =
      let ty = type_or (type_of env scope x) in
      let front = then_left (fault_in env scope x then arms_fault env scope ty None (e.arm p body place rest)) _ h in
      let fx = type_found wf scope x s (then_left (fault_in env scope x) _ front) in
      let fine : is_type env ty ≡ true = rw fx.is fx.fits in
      let arms = then_right (fault_in env scope x) _ front in
      let own = then_right (pattern_fault env ty p) _ (then_left (pattern_fault env ty p then fault_in env (scope ++ variables env ty p) body) _ arms) in
      type_found wf (scope ++ variables env ty p) body (all_append (λ b. is_type env b.1) scope (variables env ty p) s (variables_are_typed env wf ty p fine)) own
  type_found wf scope (e.paren x span) s h = type_found wf scope x s h

  -- the type that was found
  pub type_fits : (wf : IsWellFormed env) (scope : Scope) (x : Expr) (t : Ty) → is_scope env scope ≡ true → fault_in env scope x ≡ None → type_of env scope x ≡ Some t → is_type env t ≡ true
  type_fits wf scope x t s h k =
      let f = type_found wf scope x s h in
      let is_it : Some f.ty ≡ Some t = sym f.is ∙ k in
      let same : f.ty ≡ t = cc in
      subst (λ (u : Ty). is_type env u ≡ true) same f.fits

  -- arms without a type are none
  pub no_arms : (wf : IsWellFormed env) (scope : Scope) (ty : Ty) (arms : ExprArms) → is_scope env scope ≡ true → is_type env ty ≡ true → arms_fault env scope ty None arms ≡ None → arms_type env scope ty arms ≡ None → rows_of env scope ty arms ≡ []
  no_arms wf scope ty e.no_arm s f h k = refl
  no_arms wf scope ty (e.arm p body place rest) s f h k =
      let own = then_right (pattern_fault env ty p) _ (then_left (pattern_fault env ty p then fault_in env (scope ++ variables env ty p) body) _ h) in
      let t = type_found wf (scope ++ variables env ty p) body (all_append (λ b. is_type env b.1) scope (variables env ty p) s (variables_are_typed env wf ty p f)) own in
      let clash : Some t.ty ≡ None = sym t.is ∙ k in
      absurd cc

  pub name_enters : (scope : Scope) (name : List ℕ) (t : Ty) → is_scope env scope ≡ true → is_type env t ≡ true → is_scope env (scope ++ (name, t) ∷ []) ≡ true
  name_enters scope name t s f = all_append (λ b. is_type env b.1) scope ((name, t) ∷ []) s (and_both (is_type env t) true f refl)

  pub pattern_enters : (wf : IsWellFormed env) (scope : Scope) (t : Ty) (p : Pattern) → is_scope env scope ≡ true → is_type env t ≡ true → is_scope env (scope ++ variables env t p) ≡ true
  pattern_enters wf scope t p s f = all_append (λ b. is_type env b.1) scope (variables env t p) s (variables_are_typed env wf t p f)
