-- A term without a fault has its type.
use Rattle.std.proofs.Common.{◌≡◌, ℕ, ◌<◌, true, nat_le, Option, Some, None, option_map, List, [], ◌∷◌, ◌++◌, length, slice_get, refl, sym, subst, ap, ◌∙◌, arith}
use Rattle.std.specs.List.{list_all}
use Rattle.std.proofs.lemmas.Bool.Decides.{nat_tests}
use Rattle.std.proofs.lemmas.Option.{slice_get-map}
use Rattle.std.proofs.lemmas.Bool.{and_from as and_both}
use Rattle.syntax_parser.specs.Tree as e
use Rattle.syntax_parser.specs.Tree.{Term as Expr, Terms as Exprs, Arms as ExprArms, Pattern}
use Rattle.syntax_parser.specs.declared.tree.Name.{Name}
use Rattle.syntax_parser.specs.declared.tree.Num.{Num}
use Rattle.syntax_parser.specs.declared.tree.PreOp.{PreOp}
use Rattle.syntax_parser.specs.declared.tree.Span.{Span}
use Rattle.word_operations.specs.declared.kinds.UnaryOperation.{UnaryOperation}
use Rattle.spec_match_compiler.specs.Answers.{match_answer, decided}
use Rattle.spec_match_compiler.proofs.Truth.{and_left, and_right}
use Rattle.spec_ir.specs.declared.ty.Ty.{Ty}
use Rattle.spec_ir.specs.declared.ty.Ty.TheVariants.{Bool as Flag, Word, Data as DataTy, Map as MapOf}
use Rattle.spec_ir.specs.declared.declared.MapType.{MapType}
use Rattle.spec_ir.specs.declared.spec_error.SpecError.{SpecError}
use Rattle.spec_ir.specs.declared.term.CastKind.{CastKind}
use Rattle.spec_ir.specs.Answers.{◌then◌, within, found}
use Rattle.spec_ir.specs.Environment.{Environment, Scope, Variable, Function, Constructor, variable_named, function_named, constructor_named, key_type, value_type, value_of, same_type}
use Rattle.spec_ir.specs.Terms as s
use Rattle.spec_ir.specs.TermTypes.{HasType, HaveTypes, ArmsHaveType, CastFits}
use Rattle.spec_ir.specs.WellFormed.{IsWellFormed, is_type, is_scope, is_width, is_signature}
use Rattle.spec_ir.proofs.Lists.{all_at}
use Rattle.spec_ir.proofs.Checks.{then_left, then_right, unless_none, width_is}
use Rattle.spec_patterns.specs.Faults.{fits, unknown, count_fault, type_fault}
use Rattle.spec_patterns.specs.Patterns.{pattern_fault, variables, fields_of, case_number}
use Rattle.spec_patterns.proofs.Steps.{same_types, fits_width, fits_below}
use Rattle.spec_patterns.proofs.Variables.{all_append, variables_are_typed}
use Rattle.spec_patterns.proofs.Suits.{lengths as counts}
use Rattle.spec_term_forms.specs.Forms.{operator_term, operator_type, prefix_term, prefix_type, width_of}
use Rattle.spec_term_forms.specs.Operators.{Operator, both, either, operation, comparison, operator_of, keyword_operator, cast_of, cast_fits}
use Rattle.spec_typing.specs.Parts.{wanted, word_wanted, map_wanted, word_fault, map_fault, match_fault}
use Rattle.spec_typing.specs.Terms.{fault_in, type_of, term_of, part, terms_of, arms_of, arms_type, arms_fault, argument_faults, terms_len, operands_fault, prefix_fault, get_fault, put_fault, cast_to_fault, params_of, number_of, datatype_of, place_of, map_of, type_or, enter}
use Rattle.semantics_accepted.specs.Typed.{types, IsTyped}
use Rattle.semantics_accepted.specs.Laws.{TermsAreTyped, WantedTypesAreHad}
use Rattle.semantics_accepted.proofs.Named.{variable_there, function_there, constructor_fields, constructor_declared}
use Rattle.semantics_accepted.proofs.Patterned.{types_append, pattern_typed}

pub clash : {A : Type 0} {x : SpecError} → Some x ≡ None → A
clash h = absurd cc

-- ---- what is known of a part that has no fault against what is wanted of it
pub wanted_type : (env : Environment) (want : Ty) (span : Span) (first : Option SpecError) (t : Ty) → first then within (Some t) (type_fault env want span) ≡ None → want ≡ t
wanted_type env want span first t h = same_types want t (unless_none (same_type want t) _ (then_right first _ h))

word_is : (env : Environment) (span : Span) (first : Option SpecError) (t : Ty) → first then within (Some t) (word_fault env span) ≡ None → (w : ℕ) × (t ≡ Word w)
word_is env span first (Word w) h = (w, refl)
word_is env span first Flag h = clash (then_right first _ h)
word_is env span first (DataTy d) h = clash (then_right first _ h)
word_is env span first (MapOf m) h = clash (then_right first _ h)

map_is : (env : Environment) (span : Span) (first : Option SpecError) (t : Ty) → first then within (Some t) (map_fault env span) ≡ None → (m : ℕ) × (t ≡ MapOf m)
map_is env span first (MapOf m) h = (m, refl)
map_is env span first Flag h = clash (then_right first _ h)
map_is env span first (DataTy d) h = clash (then_right first _ h)
map_is env span first (Word w) h = clash (then_right first _ h)

cast_is : (kind : CastKind) (from to : ℕ) → cast_fits kind from to ≡ true → (is_width to ≡ true) × CastFits kind from to
cast_is CastKind.Cut from to h = (and_left (is_width to) (nat_le to from) h, grind (arith, nat_tests))
cast_is CastKind.Zero from to h = (and_left (is_width to) (nat_le from to) h, grind (arith, nat_tests))
cast_is CastKind.Sign from to h = (and_left (is_width to) (nat_le from to) h, grind (arith, nat_tests))

-- a match has an arm
pub some_arm : (env : Environment) (span : Span) (ty : Ty) → match_fault env span ty [] ≡ None → ⊥
unfolding match_answer decided
some_arm env span ty h = cc

module _ (env : Environment) (wf : IsWellFormed env) where
  -- ---- types of the environment
  value_is : (o : Option MapType) (m : ℕ) → slice_get env.maps m ≡ o → is_type env (value_of o) ≡ true
  value_is None m h = refl
  value_is (Some d) m h = all_at (λ x. is_width x.width) env.maps m d wf.values h

  map_declared : (m : ℕ) → is_type env (MapOf m) ≡ true → m < length env.maps
  map_declared m h = grind (arith, nat_tests)

  -- ---- parts
  abbrev Goes : Scope → Expr → Type 0
  Goes scope x = fault_in env scope x ≡ None → IsTyped env scope x

  of_type : (scope : Scope) (x : Expr) (want : Ty) → IsTyped env scope x → wanted env want (part env scope x) ≡ None → HasType env (types scope) (term_of env scope x) want
  of_type scope x want k h =
      let same = wanted_type env want (part env scope x).span (fault_in env scope x) k.ty (rw k.found at h) in
      subst (HasType env (types scope) (term_of env scope x)) (sym same) k.has

  -- of which a type is wanted
  pub part_typed : (scope : Scope) (x : Expr) (want : Ty) → Goes scope x → wanted env want (part env scope x) ≡ None → HasType env (types scope) (term_of env scope x) want
  part_typed scope x want go h = of_type scope x want (go (then_left (fault_in env scope x) _ h)) h

  pub record IsWord (scope : Scope) (x : Expr) : Type 0 where
    pub w : ℕ
    pub found : type_of env scope x ≡ Some (Word w)
    is : is_type env (Word w) ≡ true
    has : HasType env (types scope) (term_of env scope x) (Word w)

  pub word_typed : (scope : Scope) (x : Expr) → Goes scope x → word_wanted env (part env scope x) ≡ None → IsWord scope x
  word_typed scope x go h =
      let k = go (then_left (fault_in env scope x) _ h) in
      let w = word_is env (part env scope x).span (fault_in env scope x) k.ty (rw k.found at h) in
      record {
        w = w.0;
        found = k.found ∙ ap Some w.1;
        is = subst (λ t. is_type env t ≡ true) w.1 k.is;
        has = subst (HasType env (types scope) (term_of env scope x)) w.1 k.has;
      }

  pub record IsMap (scope : Scope) (x : Expr) : Type 0 where
    pub m : ℕ
    pub found : type_of env scope x ≡ Some (MapOf m)
    is : is_type env (MapOf m) ≡ true
    has : HasType env (types scope) (term_of env scope x) (MapOf m)

  pub map_typed : (scope : Scope) (x : Expr) → Goes scope x → map_wanted env (part env scope x) ≡ None → IsMap scope x
  map_typed scope x go h =
      let k = go (then_left (fault_in env scope x) _ h) in
      let m = map_is env (part env scope x).span (fault_in env scope x) k.ty (rw k.found at h) in
      record {
        m = m.0;
        found = k.found ∙ ap Some m.1;
        is = subst (λ t. is_type env t ≡ true) m.1 k.is;
        has = subst (HasType env (types scope) (term_of env scope x)) m.1 k.has;
      }

  -- ---- the productions, by their parts
  pub record IsTypedAs (scope : Scope) (found : Option Ty) (term : s.Term) : Type 0 where
    ty : Ty
    found_it : found ≡ Some ty
    is : is_type env ty ≡ true
    has : HasType env (types scope) term ty

  if_typed : (scope : Scope) (c x y : Expr) → Goes scope c → Goes scope x → Goes scope y → fault_in env scope (e.if_else c x y (part env scope c).span) ≡ None
      → IsTypedAs scope (type_of env scope x) (s.if_else (term_of env scope c) (term_of env scope x) (term_of env scope y))
  if_typed scope c x y fc fx fy h =
      let hcx = then_left (wanted env Flag (part env scope c) then fault_in env scope x) _ h in
      let hc = then_left (wanted env Flag (part env scope c)) _ hcx in
      let kx = fx (then_right (wanted env Flag (part env scope c)) _ hcx) in
      let wy = rw kx.found at (then_right (wanted env Flag (part env scope c) then fault_in env scope x) _ h) in
      record { ty = kx.ty; found_it = kx.found; is = kx.is; has = (part_typed scope c Flag fc hc, kx.has, part_typed scope y kx.ty fy wy) }

  flags_typed : (scope : Scope) (x y : Expr) → Goes scope x → Goes scope y → wanted env Flag (part env scope x) then within (type_of env scope x) (λ t. wanted env t (part env scope y)) ≡ None
      → HasType env (types scope) (term_of env scope x) Flag × HasType env (types scope) (term_of env scope y) Flag
  flags_typed scope x y fx fy h =
      let hx = then_left (wanted env Flag (part env scope x)) _ h in
      let kx = fx (then_left (fault_in env scope x) _ hx) in
      let wy = rw kx.found at (then_right (wanted env Flag (part env scope x)) _ h) in
      let same = wanted_type env Flag (part env scope x).span (fault_in env scope x) kx.ty (rw kx.found at hx) in
      (of_type scope x Flag kx hx, subst (HasType env (types scope) (term_of env scope y)) (sym same) (part_typed scope y kx.ty fy wy))

  -- two words of one width
  pub record AreWords (scope : Scope) (x y : Expr) : Type 0 where
    w : ℕ
    found : type_of env scope x ≡ Some (Word w)
    is : is_type env (Word w) ≡ true
    first : HasType env (types scope) (term_of env scope x) (Word w)
    second : HasType env (types scope) (term_of env scope y) (Word w)

  words_typed : (scope : Scope) (x y : Expr) → Goes scope x → Goes scope y → word_wanted env (part env scope x) then within (type_of env scope x) (λ t. wanted env t (part env scope y)) ≡ None
      → AreWords scope x y
  words_typed scope x y fx fy h =
      let kx = word_typed scope x fx (then_left (word_wanted env (part env scope x)) _ h) in
      let wy = rw kx.found at (then_right (word_wanted env (part env scope x)) _ h) in
      record { w = kx.w; found = kx.found; is = kx.is; first = kx.has; second = part_typed scope y (Word kx.w) fy wy }

  operator_typed : (scope : Scope) (op : Operator) (x y : Expr) → Goes scope x → Goes scope y → operands_fault env op (part env scope x) (part env scope y) ≡ None
      → IsTypedAs scope (operator_type op (type_of env scope x)) (operator_term op (width_of (type_of env scope x)) (term_of env scope x) (term_of env scope y))
  operator_typed scope both x y fx fy h =
      let k = flags_typed scope x y fx fy h in
      record { ty = Flag; found_it = refl; is = refl; has = (k.0, k.1, refl) }
  operator_typed scope either x y fx fy h =
      let k = flags_typed scope x y fx fy h in
      record { ty = Flag; found_it = refl; is = refl; has = (k.0, refl, k.1) }
  operator_typed scope (operation op) x y fx fy h =
      let k = words_typed scope x y fx fy h in
      record {
        ty = Word k.w;
        found_it = k.found;
        is = k.is;
        has = subst (λ o. HasType env (types scope) (s.bin op (width_of o) (term_of env scope x) (term_of env scope y)) (Word k.w)) (sym k.found) (k.first, k.second, refl);
      }
  operator_typed scope (comparison op) x y fx fy h =
      let k = words_typed scope x y fx fy h in
      record {
        ty = Flag;
        found_it = refl;
        is = refl;
        has = subst (λ o. HasType env (types scope) (s.test op (width_of o) (term_of env scope x) (term_of env scope y)) Flag) (sym k.found) (k.first, k.second, refl);
      }

  prefix_typed : (scope : Scope) (op : PreOp) (x : Expr) → Goes scope x → prefix_fault env op (part env scope x) ≡ None
      → IsTypedAs scope (prefix_type op (type_of env scope x)) (prefix_term op (width_of (type_of env scope x)) (term_of env scope x))
  prefix_typed scope PreOp.Bang x fx h = record { ty = Flag; found_it = refl; is = refl; has = (part_typed scope x Flag fx h, refl, refl) }
  prefix_typed scope PreOp.Tilde x fx h =
      let k = word_typed scope x fx h in
      record {
        ty = Word k.w;
        found_it = k.found;
        is = k.is;
        has = subst (λ o. HasType env (types scope) (s.un UnaryOperation.Not (width_of o) (term_of env scope x)) (Word k.w)) (sym k.found) (k.has, refl);
      }
  prefix_typed scope PreOp.Minus x fx h =
      let k = word_typed scope x fx h in
      record {
        ty = Word k.w;
        found_it = k.found;
        is = k.is;
        has = subst (λ o. HasType env (types scope) (s.un UnaryOperation.Neg (width_of o) (term_of env scope x)) (Word k.w)) (sym k.found) (k.has, refl);
      }

  cast_typed : (scope : Scope) (kind : CastKind) (x : Expr) (to : Num) (span : Span) → Goes scope x → cast_to_fault env kind (part env scope x) to span ≡ None
      → IsTypedAs scope (Some (Word to.v)) (s.cast kind (width_of (type_of env scope x)) to.v (term_of env scope x))
  unfolding cast_to_fault
  cast_typed scope kind x to span fx h =
      let k = word_typed scope x fx (then_left (word_wanted env (part env scope x)) _ h) in
      let inner = rw k.found at (then_right (word_wanted env (part env scope x)) _ h) in
      let fit = cast_is kind k.w to.v (unless_none (cast_fits kind k.w to.v) _ inner) in
      record {
        ty = Word to.v;
        found_it = refl;
        is = fit.0;
        has = subst (λ o. HasType env (types scope) (s.cast kind (width_of o) to.v (term_of env scope x)) (Word to.v)) (sym k.found) (k.has, width_is to.v fit.0, fit.1, refl);
      }

  get_typed : (scope : Scope) (x key : Expr) → Goes scope x → Goes scope key → get_fault env (part env scope x) (part env scope key) ≡ None
      → IsTypedAs scope (Some (value_type env (map_of (type_of env scope x)))) (s.get (map_of (type_of env scope x)) (term_of env scope x) (term_of env scope key))
  get_typed scope x key fx fk h =
      let k = map_typed scope x fx (then_left (map_wanted env (part env scope x)) _ h) in
      let wk = rw k.found at (then_right (map_wanted env (part env scope x)) _ h) in
      let has : HasType env (types scope) (s.get k.m (term_of env scope x) (term_of env scope key)) (value_type env k.m) =
      (map_declared k.m k.is, k.has, part_typed scope key (key_type env k.m) fk wk, refl) in
      subst (λ o. IsTypedAs scope (Some (value_type env (map_of o))) (s.get (map_of o) (term_of env scope x) (term_of env scope key))) (sym k.found)
      (record { ty = value_type env k.m; found_it = refl; is = value_is (slice_get env.maps k.m) k.m refl; has = has })

  put_typed : (scope : Scope) (x key v : Expr) → Goes scope x → Goes scope key → Goes scope v → put_fault env (part env scope x) (part env scope key) (part env scope v) ≡ None
      → IsTypedAs scope (type_of env scope x) (s.put (map_of (type_of env scope x)) (term_of env scope x) (term_of env scope key) (term_of env scope v))
  put_typed scope x key v fx fk fv h =
      let front = then_left (get_fault env (part env scope x) (part env scope key)) _ h in
      let k = map_typed scope x fx (then_left (map_wanted env (part env scope x)) _ front) in
      let wk = rw k.found at (then_right (map_wanted env (part env scope x)) _ front) in
      let wv = rw k.found at (then_right (get_fault env (part env scope x) (part env scope key)) _ h) in
      let has : HasType env (types scope) (s.put k.m (term_of env scope x) (term_of env scope key) (term_of env scope v)) (MapOf k.m) =
      (map_declared k.m k.is, k.has, part_typed scope key (key_type env k.m) fk wk, part_typed scope v (value_type env k.m) fv wv, refl) in
      subst (λ o. IsTypedAs scope o (s.put (map_of o) (term_of env scope x) (term_of env scope key) (term_of env scope v))) (sym k.found)
      (record { ty = MapOf k.m; found_it = refl; is = k.is; has = has })

  var_typed : (scope : Scope) (name : Name) (o : Option Variable) → is_scope env scope ≡ true → variable_named scope name.text ≡ o → found o (unknown name) (λ x. None) ≡ None
      → IsTypedAs scope (option_map (λ x. x.ty) o) (s.var (place_of o))
  var_typed scope name None all is h = clash h
  var_typed scope name (Some v) all is h =
      let there = variable_there scope name.text v is in
      record {
        ty = v.ty;
        found_it = refl;
        is = all_at (λ b. is_type env b.1) scope v.place (there.0, v.ty) all there.1;
        has = slice_get-map (λ b. b.1) scope v.place ∙ ap (option_map (λ b. b.1)) there.1;
      }

  -- arguments by the types of parameters or fields
  abbrev GoAll : Scope → Exprs → Type 0
  GoAll scope args = (ts : List Ty) → argument_faults env scope ts args ≡ None → length ts ≡ terms_len args → HaveTypes env (types scope) (terms_of env scope args) ts

  call_typed : (scope : Scope) (name : Name) (args : Exprs) (o : Option Function) → GoAll scope args → function_named env name.text ≡ o
      → found o (unknown name) (λ f. count_fault name (length f.signature.params) (terms_len args)) then argument_faults env scope (params_of o) args ≡ None
      → IsTypedAs scope (option_map (λ f. f.signature.result_type) o) (s.call (number_of o) (terms_of env scope args))
  call_typed scope name args None go is h = clash (then_left (Some (unknown name)) (argument_faults env scope [] args) h)
  call_typed scope name args (Some f) go is h =
      let there = function_there env name.text f is in
      let count = counts (length f.signature.params) (terms_len args) _ (then_left (count_fault name (length f.signature.params) (terms_len args)) _ h) in
      let all = go f.signature.params (then_right (count_fault name (length f.signature.params) (terms_len args)) _ h) count in
      let fits_it = all_at (is_signature env) env.funs f.fun f.signature wf.signatures there in
      record {
        ty = f.signature.result_type;
        found_it = refl;
        is = and_right (list_all (is_type env) f.signature.params) (is_type env f.signature.result_type) fits_it;
        has = (f.signature, there, all, refl);
      }

  make_typed : (scope : Scope) (name : Name) (args : Exprs) (o : Option Constructor) → GoAll scope args → constructor_named env name.text ≡ o
      → found o (unknown name) (λ c. count_fault name (length c.fields) (terms_len args)) then argument_faults env scope (fields_of o) args ≡ None
      → IsTypedAs scope (option_map (λ c. DataTy c.ty) o) (s.make (datatype_of o) (case_number o) (terms_of env scope args))
  make_typed scope name args None go is h = clash (then_left (Some (unknown name)) (argument_faults env scope [] args) h)
  make_typed scope name args (Some c) go is h =
      let count = counts (length c.fields) (terms_len args) _ (then_left (count_fault name (length c.fields) (terms_len args)) _ h) in
      let all = go c.fields (then_right (count_fault name (length c.fields) (terms_len args)) _ h) count in
      let below = constructor_declared env name.text c is in
      record {
        ty = DataTy c.ty;
        found_it = refl;
        is = grind (arith, nat_tests, below);
        has = (subst (HaveTypes env (types scope) (terms_of env scope args)) (sym (constructor_fields env name.text c is)) all, refl);
      }

  -- the scope of a body, behind the variables of a pattern
  pub behind : (scope : Scope) (ty : Ty) (p : Pattern) → is_scope env scope ≡ true → is_type env ty ≡ true → is_scope env (scope ++ variables env ty p) ≡ true
  behind scope ty p all is = all_append (λ b. is_type env b.1) scope (variables env ty p) all (variables_are_typed env wf ty p is)

  body_has : (scope : Scope) (ty : Ty) (p : Pattern) (body : Expr) (t : Ty) → HasType env (types (scope ++ variables env ty p)) (term_of env (scope ++ variables env ty p) body) t
      → HasType env (types scope ++ types (variables env ty p)) (term_of env (scope ++ variables env ty p) body) t
  body_has scope ty p body t h = subst (λ vs. HasType env vs (term_of env (scope ++ variables env ty p) body) t) (types_append scope (variables env ty p)) h

  pub enter_is : (scope : Scope) (name : List ℕ) (t : Ty) → is_scope env scope ≡ true → is_type env t ≡ true → is_scope env (enter scope name (Some t)) ≡ true
  enter_is scope name t all is = all_append (λ b. is_type env b.1) scope ((name, t) ∷ []) all (and_both (is_type env t) true is refl)

  let_typed : (scope : Scope) (name : Name) (x body : Expr) → IsTyped env scope x → (is_scope env (enter scope name.text (type_of env scope x)) ≡ true → IsTyped env (enter scope name.text (type_of env scope x)) body)
      → is_scope env scope ≡ true → IsTypedAs scope (type_of env (enter scope name.text (type_of env scope x)) body) (s.let_in (term_of env scope x) (term_of env (enter scope name.text (type_of env scope x)) body))
  let_typed scope name x body kx go all =
      let kb = go (subst (λ o. is_scope env (enter scope name.text o) ≡ true) (sym kx.found) (enter_is scope name.text kx.ty all kx.is)) in
      let vars = ap (λ o. types (enter scope name.text o)) kx.found ∙ types_append scope ((name.text, kx.ty) ∷ []) in
      record {
        ty = kb.ty;
        found_it = kb.found;
        is = kb.is;
        has = (kx.ty, kx.has, subst (λ vs. HasType env vs (term_of env (enter scope name.text (type_of env scope x)) body) kb.ty) vars kb.has);
      }

  -- a match, by its first arm and the rest
  abbrev ArmsGo : Scope → ExprArms → Type 0
  ArmsGo scope rest = (ty want : Ty) → is_type env ty ≡ true → arms_fault env scope ty (Some want) rest ≡ None → ArmsHaveType env (types scope) ty (arms_of env scope ty rest) want

  match_typed : (scope : Scope) (x : Expr) (p : Pattern) (body : Expr) (span : Span) (rest : ExprArms) → is_scope env scope ≡ true → IsTyped env scope x
      → ((ty : Ty) → is_scope env (scope ++ variables env ty p) ≡ true → Goes (scope ++ variables env ty p) body) → ArmsGo scope rest
      → arms_fault env scope (type_or (type_of env scope x)) None (e.arm p body span rest) ≡ None
      → IsTypedAs scope (arms_type env scope (type_or (type_of env scope x)) (e.arm p body span rest)) (s.match_on (term_of env scope x) (arms_of env scope (type_or (type_of env scope x)) (e.arm p body span rest)))
  match_typed scope x p body span rest all kx go_body go_rest h =
      let ha = rw kx.found at h in
      let inner = scope ++ variables env kx.ty p in
      let front = then_left (pattern_fault env kx.ty p then fault_in env inner body) _ ha in
      let kb = go_body kx.ty (behind scope kx.ty p all kx.is) (then_right (pattern_fault env kx.ty p) _ front) in
      let hr = rw kb.found at (then_right (pattern_fault env kx.ty p then fault_in env inner body) _ ha) in
      let has : HasType env (types scope) (s.match_on (term_of env scope x) (arms_of env scope kx.ty (e.arm p body span rest))) kb.ty = (
        kx.ty,
        kx.has,
        (types (variables env kx.ty p), pattern_typed env scope kx.ty p (then_left (pattern_fault env kx.ty p) _ front), body_has scope kx.ty p body kb.ty kb.has, go_rest kx.ty kb.ty kx.is hr),
      ) in
      subst (λ o. IsTypedAs scope (arms_type env scope (type_or o) (e.arm p body span rest)) (s.match_on (term_of env scope x) (arms_of env scope (type_or o) (e.arm p body span rest)))) (sym kx.found)
      (record { ty = kb.ty; found_it = kb.found; is = kb.is; has = has })

  mutual
    pub typed : (scope : Scope) (x : Expr) → is_scope env scope ≡ true → fault_in env scope x ≡ None → IsTyped env scope x
    typed scope (e.Term.word v w span) all h =
        let f = unless_none (fits v.v w.v) _ h in
        record { ty = Word w.v; found = refl; is = fits_width v.v w.v f; has = (width_is w.v (fits_width v.v w.v f), fits_below v.v w.v f, refl) }
    typed scope (e.Term.flag b span) all h = record { ty = Flag; found = refl; is = refl; has = refl }
    typed scope (e.paren x span) all h = let k = typed scope x all h in record { ty = k.ty; found = k.found; is = k.is; has = k.has }
    typed scope (e.if_else c x y span) all h =
        let k = if_typed scope c x y (λ g. typed scope c all g) (λ g. typed scope x all g) (λ g. typed scope y all g) h in
        record { ty = k.ty; found = k.found_it; is = k.is; has = k.has }
    typed scope (e.let_in name x body span) all h =
        let kx = typed scope x all (then_left (fault_in env scope x) _ h) in
        let k = let_typed scope name x body kx (λ g. typed (enter scope name.text (type_of env scope x)) body g (then_right (fault_in env scope x) _ h)) all in
        record { ty = k.ty; found = k.found_it; is = k.is; has = k.has }
    typed scope (e.binary op x y span) all h =
        let k = operator_typed scope (operator_of op) x y (λ g. typed scope x all g) (λ g. typed scope y all g) h in
        record { ty = k.ty; found = k.found_it; is = k.is; has = k.has }
    typed scope (e.operation op x y span) all h =
        let k = operator_typed scope (keyword_operator op) x y (λ g. typed scope x all g) (λ g. typed scope y all g) h in
        record { ty = k.ty; found = k.found_it; is = k.is; has = k.has }
    typed scope (e.prefix op x span) all h =
        let k = prefix_typed scope op x (λ g. typed scope x all g) h in
        record { ty = k.ty; found = k.found_it; is = k.is; has = k.has }
    typed scope (e.cast op x to span) all h =
        let k = cast_typed scope (cast_of op) x to span (λ g. typed scope x all g) h in
        record { ty = k.ty; found = k.found_it; is = k.is; has = k.has }
    typed scope (e.get x key span) all h =
        let k = get_typed scope x key (λ g. typed scope x all g) (λ g. typed scope key all g) h in
        record { ty = k.ty; found = k.found_it; is = k.is; has = k.has }
    typed scope (e.put x key v span) all h =
        let k = put_typed scope x key v (λ g. typed scope x all g) (λ g. typed scope key all g) (λ g. typed scope v all g) h in
        record { ty = k.ty; found = k.found_it; is = k.is; has = k.has }
    typed scope (e.var name) all h =
        let k = var_typed scope name (variable_named scope name.text) all refl h in
        record { ty = k.ty; found = k.found_it; is = k.is; has = k.has }
    typed scope (e.call name args span) all h =
        let k = call_typed scope name args (function_named env name.text) (λ ts g l. all_typed scope args ts all g l) refl h in
        record { ty = k.ty; found = k.found_it; is = k.is; has = k.has }
    typed scope (e.Term.make name args span) all h =
        let k = make_typed scope name args (constructor_named env name.text) (λ ts g l. all_typed scope args ts all g l) refl h in
        record { ty = k.ty; found = k.found_it; is = k.is; has = k.has }
    typed scope (e.match_on x e.no_arm span) all h =
        absurd (some_arm env span (type_or (type_of env scope x)) (then_right (fault_in env scope x then arms_fault env scope (type_or (type_of env scope x)) None e.no_arm) _ h))
    typed scope (e.match_on x (e.arm p body aspan rest) span) all h =
        let front = then_left (fault_in env scope x then arms_fault env scope (type_or (type_of env scope x)) None (e.arm p body aspan rest)) _ h in
        let kx = typed scope x all (then_left (fault_in env scope x) _ front) in
        let k = match_typed scope x p body aspan rest all kx (λ ty g j. typed (scope ++ variables env ty p) body g j) (λ ty want is j. arms_typed scope ty rest want all is j) (then_right (fault_in env scope x) _ front) in
        record { ty = k.ty; found = k.found_it; is = k.is; has = k.has }

    all_typed : (scope : Scope) (args : Exprs) (ts : List Ty) → is_scope env scope ≡ true → argument_faults env scope ts args ≡ None → length ts ≡ terms_len args → HaveTypes env (types scope) (terms_of env scope args) ts
    all_typed scope e.Terms.none [] all h l = tt
    all_typed scope e.Terms.none (t ∷ ts) all h l = absurd (omega arith)
    all_typed scope (e.Terms.more a args) [] all h l = absurd (omega arith)
    all_typed scope (e.Terms.more a args) (t ∷ ts) all h l =
        (part_typed scope a t (λ g. typed scope a all g) (then_left (wanted env t (part env scope a)) _ h), all_typed scope args ts all (then_right (wanted env t (part env scope a)) _ h) (omega arith))

    arms_typed : (scope : Scope) (ty : Ty) (arms : ExprArms) (want : Ty) → is_scope env scope ≡ true → is_type env ty ≡ true → arms_fault env scope ty (Some want) arms ≡ None
        → ArmsHaveType env (types scope) ty (arms_of env scope ty arms) want
    arms_typed scope ty e.no_arm want all is h = tt
    arms_typed scope ty (e.arm p body span rest) want all is h =
        let inner = scope ++ variables env ty p in
        let front = then_left (pattern_fault env ty p then wanted env want (part env inner body)) _ h in
        let has = part_typed inner body want (λ g. typed inner body (behind scope ty p all is) g) (then_right (pattern_fault env ty p) _ front) in (
          types (variables env ty p),
          pattern_typed env scope ty p (then_left (pattern_fault env ty p) _ front),
          body_has scope ty p body want has,
          arms_typed scope ty rest want all is (then_right (pattern_fault env ty p then wanted env want (part env inner body)) _ h),
        )

pub terms_are_typed : TermsAreTyped
terms_are_typed env scope x wf all h = typed env wf scope x all h

pub wanted_types_are_had : WantedTypesAreHad
wanted_types_are_had env scope x want wf all h = part_typed env wf scope x want (λ g. typed env wf scope x all g) h
