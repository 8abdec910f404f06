-- The core term by the tree is the core term of the typed term.
use Rattle.std.proofs.Common.{◌≡◌, ℕ, true, Option, Some, None, option_map, List, [], ◌∷◌, ◌++◌, ◌+◌, length, slice_get, unwrap_or, refl, sym, subst, ap, ◌∙◌, arith}
use Rattle.std.proofs.lemmas.Option.{slice_get-map}
use Rattle.syntax_parser.specs.Tree as e
use Rattle.syntax_parser.specs.Tree.{Term as Expr, Terms as Exprs, Arms as ExprArms, Pattern, Patterns}
use Rattle.syntax_parser.specs.declared.tree.Name.{Name}
use Rattle.syntax_parser.specs.declared.tree.Num.{Num}
use Rattle.syntax_parser.specs.declared.tree.PreOp.{PreOp}
use Rattle.syntax_parser.specs.declared.tree.Span.{Span}
use Rattle.spec_match_compiler.specs.Patterns as m
use Rattle.spec_ir.specs.declared.ty.Ty.{Ty}
use Rattle.spec_ir.specs.declared.ty.Ty.TheVariants.{Bool as Flag, Word, Data as DataTy, Map as MapOf}
use Rattle.spec_ir.specs.declared.spec_error.SpecError.{SpecError}
use Rattle.spec_ir.specs.declared.term.CastKind.{CastKind}
use Rattle.spec_ir.specs.Answers.{◌then◌, within, found}
use Rattle.spec_ir.specs.Environment.{Environment, Scope, Variable, Function, Constructor, variable_named, function_named, constructor_named, or_else}
use Rattle.spec_ir.specs.Terms as s
use Rattle.spec_ir.specs.Terms.{patterns_of}
use Rattle.spec_ir.specs.CoreTerms as c
use Rattle.spec_ir.specs.Texts.{case_at, fields_at}
use Rattle.spec_ir.specs.Cores.{tree_of, result_of, variable_types, all_variable_types, type_in, core_of, cores_of}
use Rattle.spec_ir.specs.Cores as k
use Rattle.spec_ir.specs.TermTypes.{PatternTyped, PatternsTyped}
use Rattle.spec_ir.specs.WellFormed.{IsWellFormed, is_scope, is_type}
use Rattle.spec_ir.proofs.Checks.{then_left, then_right}
use Rattle.spec_patterns.specs.Faults.{unknown, count_fault}
use Rattle.spec_patterns.specs.Patterns.{pattern_fault, pattern_of, variables, fields_of, case_number}
use Rattle.spec_patterns.proofs.Suits.{lengths as counts}
use Rattle.spec_term_forms.specs.Forms.{operator_term, operator_type, operator_core, prefix_term, prefix_type, prefix_core, width_of}
use Rattle.spec_term_forms.specs.Operators.{Operator, both, either, operation, comparison, operator_of, keyword_operator, cast_of}
use Rattle.spec_typing.specs.Parts.{wanted, wanted_if, word_wanted, map_wanted}
use Rattle.spec_typing.specs.Terms.{fault_in, type_of, term_of, part, terms_of, arms_of, arms_type, arms_fault, argument_faults, terms_len, operands_fault, operand_fault, prefix_fault, get_fault, cast_to_fault, params_of, number_of, datatype_of, place_of, map_of, type_or, enter, rows_of}
use Rattle.spec_typing.specs.Cores.{core_in, cores_in, arm_cores}
use Rattle.semantics_accepted.specs.Typed.{types, IsTyped}
use Rattle.semantics_accepted.specs.Laws.{CoresAreThose}
use Rattle.semantics_accepted.proofs.Named.{variable_there, function_there}
use Rattle.semantics_accepted.proofs.Patterned.{types_append, pattern_typed}
use Rattle.semantics_accepted.proofs.Typing.{typed, wanted_type, word_typed, map_typed, some_arm, behind, enter_is, clash}

module _ (env : Environment) where
  -- the variables of a typed pattern
  mutual
    pub variables_have : (n : ℕ) (ty : Ty) (p : m.Pattern) (vars : List Ty) → PatternTyped env n ty p vars → variable_types env ty p ≡ vars
    variables_have n ty m.any vars h = sym h
    variables_have n ty (m.bind i) vars h = sym h.1
    variables_have n Flag (m.flag_is b) vars h = sym h
    variables_have n (Word w) (m.word_is v) vars h = sym h.1
    variables_have n (DataTy t) (m.case_is i ps) vars h = all_have n (fields_at (case_at env (DataTy t) i)) ps vars h
    variables_have n ty p vars h = absurd h

    all_have : (n : ℕ) (ts : List Ty) (ps : m.Patterns) (vars : List Ty) → PatternsTyped env n ts ps vars → all_variable_types env ts ps ≡ vars
    all_have n [] m.no_pat vars h = sym h
    all_have n (t ∷ ts) (m.pat_then p ps) vars h =
        rw (variables_have n t p h.0 h.2, all_have (n + length h.0) ts ps h.1 h.3) (sym h.4)
    all_have n ts ps vars h = absurd h

  pub variables_agree : (scope : Scope) (ty : Ty) (p : Pattern) → pattern_fault env ty p ≡ None → variable_types env ty (pattern_of env scope ty p) ≡ types (variables env ty p)
  variables_agree scope ty p h = variables_have (length (types scope)) ty (pattern_of env scope ty p) (types (variables env ty p)) (pattern_typed env scope ty p h)

  -- the patterns of typed arms are the rows
  pub patterns_are : (scope : Scope) (ty : Ty) (arms : ExprArms) → patterns_of (arms_of env scope ty arms) ≡ rows_of env scope ty arms
  patterns_are scope ty e.no_arm = refl
  patterns_are scope ty (e.arm p body span rest) = ap (λ l. pattern_of env scope ty p ∷ l) (patterns_are scope ty rest)

module _ (env : Environment) (wf : IsWellFormed env) where
  abbrev Agree : Scope → Expr → Type 0
  Agree scope x = type_in env (types scope) (term_of env scope x) ≡ type_or (type_of env scope x)

  goes : (scope : Scope) (x : Expr) → is_scope env scope ≡ true → fault_in env scope x ≡ None → IsTyped env scope x
  goes scope x all h = typed env wf scope x all h

  -- the first operand, and the second
  first_fine : (op : Operator) (scope : Scope) (x y : Expr) → operands_fault env op (part env scope x) (part env scope y) ≡ None → fault_in env scope x ≡ None
  first_fine both scope x y h = then_left (fault_in env scope x) _ (then_left (wanted env Flag (part env scope x)) _ h)
  first_fine either scope x y h = then_left (fault_in env scope x) _ (then_left (wanted env Flag (part env scope x)) _ h)
  first_fine (operation op) scope x y h = then_left (fault_in env scope x) _ (then_left (word_wanted env (part env scope x)) _ h)
  first_fine (comparison op) scope x y h = then_left (fault_in env scope x) _ (then_left (word_wanted env (part env scope x)) _ h)

  -- behind a part without a fault, of which the type is wanted of another
  second_fine : (scope : Scope) (x y : Expr) → is_scope env scope ≡ true → fault_in env scope x ≡ None → within (type_of env scope x) (λ t. wanted env t (part env scope y)) ≡ None → fault_in env scope y ≡ None
  second_fine scope x y all hx h = let k = goes scope x all hx in then_left (fault_in env scope y) _ (rw k.found at h)

  both_fine : (op : Operator) (scope : Scope) (x y : Expr) → is_scope env scope ≡ true → operands_fault env op (part env scope x) (part env scope y) ≡ None → fault_in env scope y ≡ None
  both_fine op scope x y all h = second_fine scope x y all (first_fine op scope x y h) (then_right (operand_fault env op (part env scope x)) _ h)

  prefix_fine : (op : PreOp) (scope : Scope) (x : Expr) → prefix_fault env op (part env scope x) ≡ None → fault_in env scope x ≡ None
  prefix_fine PreOp.Bang scope x h = then_left (fault_in env scope x) _ h
  prefix_fine PreOp.Tilde scope x h = then_left (fault_in env scope x) _ h
  prefix_fine PreOp.Minus scope x h = then_left (fault_in env scope x) _ h

  cast_fine : (kind : CastKind) (scope : Scope) (x : Expr) (to : Num) (span : Span) → cast_to_fault env kind (part env scope x) to span ≡ None → fault_in env scope x ≡ None
  unfolding cast_to_fault
  cast_fine kind scope x to span h = then_left (fault_in env scope x) _ (then_left (word_wanted env (part env scope x)) _ h)

  -- an arm with a type that may be wanted
  body_fine : (want : Option Ty) (scope : Scope) (x : Expr) → wanted_if env want (part env scope x) ≡ None → fault_in env scope x ≡ None
  body_fine None scope x h = h
  body_fine (Some t) scope x h = then_left (fault_in env scope x) _ h

  -- a second operand of the type of the first, which is a truth value
  flag_second : (scope : Scope) (x y : Expr) → IsTyped env scope x → IsTyped env scope y → wanted env Flag (part env scope x) ≡ None → within (type_of env scope x) (λ t. wanted env t (part env scope y)) ≡ None
      → type_or (type_of env scope y) ≡ Flag
  flag_second scope x y kx ky hx hy =
      let wy = rw kx.found at hy in
      let first = wanted_type env Flag (part env scope x).span (fault_in env scope x) kx.ty (rw kx.found at hx) in
      let second = wanted_type env kx.ty (part env scope y).span (fault_in env scope y) ky.ty (rw ky.found at wy) in
      ap type_or ky.found ∙ sym (first ∙ second)

  operator_agrees : (scope : Scope) (op : Operator) (x y : Expr) → is_scope env scope ≡ true → (fault_in env scope y ≡ None → Agree scope y) → operands_fault env op (part env scope x) (part env scope y) ≡ None
      → type_in env (types scope) (operator_term op (width_of (type_of env scope x)) (term_of env scope x) (term_of env scope y)) ≡ type_or (operator_type op (type_of env scope x))
  operator_agrees scope both x y all ay h =
      let hx = then_left (wanted env Flag (part env scope x)) _ h in
      let hy = both_fine both scope x y all h in
      ay hy ∙ flag_second scope x y (goes scope x all (then_left (fault_in env scope x) _ hx)) (goes scope y all hy) hx (then_right (wanted env Flag (part env scope x)) _ h)
  operator_agrees scope either x y all ay h = refl
  operator_agrees scope (operation op) x y all ay h =
      let k = word_typed env wf scope x (λ g. goes scope x all g) (then_left (word_wanted env (part env scope x)) _ h) in
      ap (λ o. Word (width_of o)) k.found ∙ sym (ap type_or k.found)
  operator_agrees scope (comparison op) x y all ay h = refl

  prefix_agrees : (scope : Scope) (op : PreOp) (x : Expr) → is_scope env scope ≡ true → prefix_fault env op (part env scope x) ≡ None
      → type_in env (types scope) (prefix_term op (width_of (type_of env scope x)) (term_of env scope x)) ≡ type_or (prefix_type op (type_of env scope x))
  prefix_agrees scope PreOp.Bang x all h = refl
  prefix_agrees scope PreOp.Tilde x all h =
      let k = word_typed env wf scope x (λ g. goes scope x all g) h in
      ap (λ o. Word (width_of o)) k.found ∙ sym (ap type_or k.found)
  prefix_agrees scope PreOp.Minus x all h =
      let k = word_typed env wf scope x (λ g. goes scope x all g) h in
      ap (λ o. Word (width_of o)) k.found ∙ sym (ap type_or k.found)

  var_agrees : (scope : Scope) (name : Name) (o : Option Variable) → variable_named scope name.text ≡ o → found o (unknown name) (λ x. None) ≡ None
      → unwrap_or (slice_get (types scope) (place_of o)) Flag ≡ type_or (option_map (λ x. x.ty) o)
  var_agrees scope name None is h = clash h
  var_agrees scope name (Some v) is h =
      let there = variable_there scope name.text v is in
      ap (λ o. unwrap_or o Flag) (slice_get-map (λ b. b.1) scope v.place ∙ ap (option_map (λ b. b.1)) there.1)

  call_agrees : (name : Name) (n : ℕ) (rest : Option SpecError) (o : Option Function) → function_named env name.text ≡ o → found o (unknown name) (λ f. count_fault name (length f.signature.params) n) then rest ≡ None
      → result_of (slice_get env.funs (number_of o)) ≡ type_or (option_map (λ f. f.signature.result_type) o)
  call_agrees name n rest None is h = clash (then_left (Some (unknown name)) rest h)
  call_agrees name n rest (Some f) is h = ap result_of (function_there env name.text f is)

  make_agrees : (name : Name) (n : ℕ) (rest : Option SpecError) (o : Option Constructor) → found o (unknown name) (λ x. count_fault name (length x.fields) n) then rest ≡ None
      → DataTy (datatype_of o) ≡ type_or (option_map (λ x. DataTy x.ty) o)
  make_agrees name n rest None h = clash (then_left (Some (unknown name)) rest h)
  make_agrees name n rest (Some x) h = refl

  -- the scope of the body of a let, and of an arm
  pub let_types : (scope : Scope) (name : Name) (x : Expr) → Agree scope x → types scope ++ type_in env (types scope) (term_of env scope x) ∷ [] ≡ types (enter scope name.text (type_of env scope x))
  let_types scope name x a = ap (λ t. types scope ++ t ∷ []) a ∙ sym (types_append scope ((name.text, type_or (type_of env scope x)) ∷ []))

  let_scope : (scope : Scope) (name : Name) (x : Expr) → is_scope env scope ≡ true → fault_in env scope x ≡ None → is_scope env (enter scope name.text (type_of env scope x)) ≡ true
  let_scope scope name x all h =
      let k = goes scope x all h in
      subst (λ o. is_scope env (enter scope name.text o) ≡ true) (sym k.found) (enter_is env wf scope name.text k.ty all k.is)

  pub arm_types : (scope : Scope) (ty : Ty) (p : Pattern) → pattern_fault env ty p ≡ None → types scope ++ variable_types env ty (pattern_of env scope ty p) ≡ types (scope ++ variables env ty p)
  arm_types scope ty p h = ap (λ vs. types scope ++ vs) (variables_agree env scope ty p h) ∙ sym (types_append scope (variables env ty p))

  -- what a match is on has a type of the environment
  on_type : (scope : Scope) (x : Expr) → is_scope env scope ≡ true → fault_in env scope x ≡ None → is_type env (type_or (type_of env scope x)) ≡ true
  on_type scope x all h = let k = goes scope x all h in subst (λ o. is_type env (type_or o) ≡ true) (sym k.found) k.is

  match_agrees : (scope : Scope) (x : Expr) (p : Pattern) (body : Expr) (span : Span) (rest : ExprArms) → Agree scope x
      → (fault_in env (scope ++ variables env (type_or (type_of env scope x)) p) body ≡ None → Agree (scope ++ variables env (type_or (type_of env scope x)) p) body)
      → arms_fault env scope (type_or (type_of env scope x)) None (e.arm p body span rest) ≡ None
      → type_in env (types scope) (s.match_on (term_of env scope x) (arms_of env scope (type_or (type_of env scope x)) (e.arm p body span rest))) ≡ type_or (arms_type env scope (type_or (type_of env scope x)) (e.arm p body span rest))
  match_agrees scope x p body span rest ax ab h =
      let ty = type_or (type_of env scope x) in
      let inner = scope ++ variables env ty p in
      let front = then_left (pattern_fault env ty p then fault_in env inner body) _ h in
      let hp = then_left (pattern_fault env ty p) _ front in
      let vars = ap (λ t. types scope ++ variable_types env t (pattern_of env scope ty p)) ax ∙ arm_types scope ty p hp in
      ap (λ vs. type_in env vs (term_of env inner body)) vars ∙ ab (then_right (pattern_fault env ty p) _ front)

  mutual
    pub agrees : (scope : Scope) (x : Expr) → is_scope env scope ≡ true → fault_in env scope x ≡ None → Agree scope x
    agrees scope (e.Term.word v w span) all h = refl
    agrees scope (e.Term.flag b span) all h = refl
    agrees scope (e.paren x span) all h = agrees scope x all h
    agrees scope (e.if_else b x y span) all h =
        agrees scope x all (then_right (wanted env Flag (part env scope b)) _ (then_left (wanted env Flag (part env scope b) then fault_in env scope x) _ h))
    agrees scope (e.let_in name x body span) all h =
        let hx = then_left (fault_in env scope x) _ h in
        let inner = enter scope name.text (type_of env scope x) in
        ap (λ vs. type_in env vs (term_of env inner body)) (let_types scope name x (agrees scope x all hx))
        ∙ agrees inner body (let_scope scope name x all hx) (then_right (fault_in env scope x) _ h)
    agrees scope (e.binary op x y span) all h = operator_agrees scope (operator_of op) x y all (λ g. agrees scope y all g) h
    agrees scope (e.operation op x y span) all h = operator_agrees scope (keyword_operator op) x y all (λ g. agrees scope y all g) h
    agrees scope (e.prefix op x span) all h = prefix_agrees scope op x all h
    agrees scope (e.cast op x to span) all h = refl
    agrees scope (e.get x key span) all h = refl
    agrees scope (e.put x key v span) all h =
        let front = then_left (get_fault env (part env scope x) (part env scope key)) _ h in
        let k = map_typed env wf scope x (λ g. goes scope x all g) (then_left (map_wanted env (part env scope x)) _ front) in
        ap (λ o. MapOf (map_of o)) k.found ∙ sym (ap type_or k.found)
    agrees scope (e.var name) all h = var_agrees scope name (variable_named scope name.text) refl h
    agrees scope (e.call name args span) all h =
        call_agrees name (terms_len args) (argument_faults env scope (params_of (function_named env name.text)) args) (function_named env name.text) refl h
    agrees scope (e.Term.make name args span) all h =
        make_agrees name (terms_len args) (argument_faults env scope (fields_of (constructor_named env name.text)) args) (constructor_named env name.text) h
    agrees scope (e.match_on x e.no_arm span) all h =
        absurd (some_arm env span (type_or (type_of env scope x)) (then_right (fault_in env scope x then arms_fault env scope (type_or (type_of env scope x)) None e.no_arm) _ h))
    agrees scope (e.match_on x (e.arm p body aspan rest) span) all h =
        let ty = type_or (type_of env scope x) in
        let front = then_left (fault_in env scope x then arms_fault env scope ty None (e.arm p body aspan rest)) _ h in
        let hx = then_left (fault_in env scope x) _ front in
        let inner = scope ++ variables env ty p in
        match_agrees scope x p body aspan rest (agrees scope x all hx) (λ g. agrees inner body (behind env wf scope ty p all (on_type scope x all hx)) g) (then_right (fault_in env scope x) _ front)

  -- ---- core terms
  operator_cored : (vars : List Ty) (op : Operator) (w : ℕ) (x y : s.Term) (a b : c.Core) → a ≡ core_of env vars x → b ≡ core_of env vars y → operator_core op w a b ≡ core_of env vars (operator_term op w x y)
  operator_cored vars both w x y a b h g = rw (h, g) refl
  operator_cored vars either w x y a b h g = rw (h, g) refl
  operator_cored vars (operation op) w x y a b h g = rw (h, g) refl
  operator_cored vars (comparison op) w x y a b h g = rw (h, g) refl

  prefix_cored : (vars : List Ty) (op : PreOp) (w : ℕ) (x : s.Term) (a : c.Core) → a ≡ core_of env vars x → prefix_core op w a ≡ core_of env vars (prefix_term op w x)
  prefix_cored vars PreOp.Bang w x a h = rw h refl
  prefix_cored vars PreOp.Tilde w x a h = rw h refl
  prefix_cored vars PreOp.Minus w x a h = rw h refl

  abbrev Cored : Scope → Expr → Type 0
  Cored scope x = core_in env scope x ≡ core_of env (types scope) (term_of env scope x)

  counted_call : (name : Name) (n : ℕ) (rest : Option SpecError) (o : Option Function) → found o (unknown name) (λ f. count_fault name (length f.signature.params) n) then rest ≡ None → length (params_of o) ≡ n
  counted_call name n rest None h = clash (then_left (Some (unknown name)) rest h)
  counted_call name n rest (Some f) h = counts (length f.signature.params) n _ (then_left (count_fault name (length f.signature.params) n) rest h)

  counted_make : (name : Name) (n : ℕ) (rest : Option SpecError) (o : Option Constructor) → found o (unknown name) (λ x. count_fault name (length x.fields) n) then rest ≡ None → length (fields_of o) ≡ n
  counted_make name n rest None h = clash (then_left (Some (unknown name)) rest h)
  counted_make name n rest (Some x) h = counts (length x.fields) n _ (then_left (count_fault name (length x.fields) n) rest h)

  mutual
    cored : (scope : Scope) (x : Expr) → is_scope env scope ≡ true → fault_in env scope x ≡ None → Cored scope x
    cored scope (e.Term.word v w span) all h = refl
    cored scope (e.Term.flag b span) all h = refl
    cored scope (e.paren x span) all h = cored scope x all h
    cored scope (e.if_else b x y span) all h =
        let hbx = then_left (wanted env Flag (part env scope b) then fault_in env scope x) _ h in
        let hb = then_left (fault_in env scope b) _ (then_left (wanted env Flag (part env scope b)) _ hbx) in
        let hx = then_right (wanted env Flag (part env scope b)) _ hbx in
        let hy = second_fine scope x y all hx (then_right (wanted env Flag (part env scope b) then fault_in env scope x) _ h) in
        rw (cored scope b all hb, cored scope x all hx, cored scope y all hy) refl
    cored scope (e.let_in name x body span) all h =
        let hx = then_left (fault_in env scope x) _ h in
        let inner = enter scope name.text (type_of env scope x) in
        let below = cored inner body (let_scope scope name x all hx) (then_right (fault_in env scope x) _ h) in
        rw (let_types scope name x (agrees scope x all hx), cored scope x all hx, below) refl
    cored scope (e.binary op x y span) all h =
        operator_cored (types scope) (operator_of op) (width_of (type_of env scope x)) (term_of env scope x) (term_of env scope y) (core_in env scope x) (core_in env scope y)
        (cored scope x all (first_fine (operator_of op) scope x y h)) (cored scope y all (both_fine (operator_of op) scope x y all h))
    cored scope (e.operation op x y span) all h =
        operator_cored (types scope) (keyword_operator op) (width_of (type_of env scope x)) (term_of env scope x) (term_of env scope y) (core_in env scope x) (core_in env scope y)
        (cored scope x all (first_fine (keyword_operator op) scope x y h)) (cored scope y all (both_fine (keyword_operator op) scope x y all h))
    cored scope (e.prefix op x span) all h =
        prefix_cored (types scope) op (width_of (type_of env scope x)) (term_of env scope x) (core_in env scope x) (cored scope x all (prefix_fine op scope x h))
    cored scope (e.cast op x to span) all h = ap (c.cast (cast_of op) (width_of (type_of env scope x)) to.v) (cored scope x all (cast_fine (cast_of op) scope x to span h))
    cored scope (e.get x key span) all h =
        let hx = then_left (fault_in env scope x) _ (then_left (map_wanted env (part env scope x)) _ h) in
        let hk = then_left (fault_in env scope key) _ (then_right (map_wanted env (part env scope x)) _ h) in
        rw (cored scope x all hx, cored scope key all hk) refl
    cored scope (e.put x key v span) all h =
        let front = then_left (get_fault env (part env scope x) (part env scope key)) _ h in
        let hx = then_left (fault_in env scope x) _ (then_left (map_wanted env (part env scope x)) _ front) in
        let hk = then_left (fault_in env scope key) _ (then_right (map_wanted env (part env scope x)) _ front) in
        let hv = then_left (fault_in env scope v) _ (then_right (get_fault env (part env scope x) (part env scope key)) _ h) in
        rw (cored scope x all hx, cored scope key all hk, cored scope v all hv) refl
    cored scope (e.var name) all h = refl
    cored scope (e.call name args span) all h =
        let o = function_named env name.text in
        let counted = counted_call name (terms_len args) (argument_faults env scope (params_of o) args) o h in
        ap (c.call (number_of o)) (all_cored scope (params_of o) args all counted (then_right (found o (unknown name) (λ f. count_fault name (length f.signature.params) (terms_len args))) _ h))
    cored scope (e.Term.make name args span) all h =
        let o = constructor_named env name.text in
        let counted = counted_make name (terms_len args) (argument_faults env scope (fields_of o) args) o h in
        ap (c.make (datatype_of o) (case_number o)) (all_cored scope (fields_of o) args all counted (then_right (found o (unknown name) (λ x. count_fault name (length x.fields) (terms_len args))) _ h))
    cored scope (e.match_on x arms span) all h =
        let ty = type_or (type_of env scope x) in
        let front = then_left (fault_in env scope x then arms_fault env scope ty None arms) _ h in
        let hx = then_left (fault_in env scope x) _ front in
        let ha = then_right (fault_in env scope x) _ front in
        rw (agrees scope x all hx, patterns_are env scope ty arms, cored scope x all hx, arms_cored scope ty None arms all (on_type scope x all hx) ha) refl

    all_cored : (scope : Scope) (ts : List Ty) (args : Exprs) → is_scope env scope ≡ true → length ts ≡ terms_len args → argument_faults env scope ts args ≡ None → cores_in env scope args ≡ cores_of env (types scope) (terms_of env scope args)
    all_cored scope ts e.Terms.none all l h = refl
    all_cored scope [] (e.Terms.more a args) all l h = absurd (omega arith)
    all_cored scope (t ∷ ts) (e.Terms.more a args) all l h =
        let here = cored scope a all (then_left (fault_in env scope a) _ (then_left (wanted env t (part env scope a)) _ h)) in
        let rest = all_cored scope ts args all (omega arith) (then_right (wanted env t (part env scope a)) _ h) in
        rw (here, rest) refl

    arms_cored : (scope : Scope) (ty : Ty) (want : Option Ty) (arms : ExprArms) → is_scope env scope ≡ true → is_type env ty ≡ true → arms_fault env scope ty want arms ≡ None
        → arm_cores env scope ty arms ≡ k.arms_of env (types scope) ty (arms_of env scope ty arms)
    arms_cored scope ty want e.no_arm all is h = refl
    arms_cored scope ty want (e.arm p body span rest) all is h =
        let inner = scope ++ variables env ty p in
        let front = then_left (pattern_fault env ty p then wanted_if env want (part env inner body)) _ h in
        let hp = then_left (pattern_fault env ty p) _ front in
        let hb = body_fine want inner body (then_right (pattern_fault env ty p) _ front) in
        let here = cored inner body (behind env wf scope ty p all is) hb in
        let later = arms_cored scope ty (or_else want (type_of env inner body)) rest all is (then_right (pattern_fault env ty p then wanted_if env want (part env inner body)) _ h) in
        rw (arm_types scope ty p hp, here, later) refl

pub cores_are_those : CoresAreThose
cores_are_those env scope x wf all h = cored env wf scope x all h
