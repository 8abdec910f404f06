-- Faults of terms.
use Rattle.std.proofs.Common.{ℕ, ◌==◌, Bool, List, [], ◌∷◌, ◌++◌, length, Option, Some, None}
use Rattle.std.specs.Prelude.{codes}
use Rattle.std.specs.Fmt.{decimal}
use Rattle.syntax_parser.specs.declared.tree.PreOp.{PreOp}
use Rattle.syntax_parser.specs.declared.tree.Span.{Span}
use Rattle.syntax_parser.specs.declared.tree.Name.{Name}
use Rattle.syntax_parser.specs.declared.tree.Num.{Num}
use Rattle.syntax_parser.specs.Tree as e
use Rattle.syntax_parser.specs.Tree.{Function, Item, Term as Expr, Terms as Exprs, Arms as ExprArms, Pattern, Patterns}
use Rattle.spec_match_compiler.specs.Patterns as plain
use Rattle.spec_match_compiler.specs.Answers.{MatchAnswer, decision, match_answer, not_exhaustive, useless}
use Rattle.spec_ir.specs.declared.term.CastKind.{CastKind}
use Rattle.spec_ir.specs.declared.ty.Ty.{Ty}
use Rattle.spec_ir.specs.declared.ty.Ty.TheVariants.{Bool as Flag, Word, Data as DataTy, Map as MapOf}
use Rattle.spec_ir.specs.declared.spec_error.SpecError.TheVariants.{Arity, BadWidth, Mismatch}
use Rattle.spec_ir.specs.Answers.{found, unless, within, ◌then◌}
use Rattle.spec_ir.specs.Environment.{Constructor, Environment, Scope, Signature, constructor_named, function_named, key_type, or_else, same_type, shape_of, shapes_of, value_type, variable_named}
use Rattle.spec_ir.specs.Texts.{literal_text, type_text}
use Rattle.spec_term_forms.specs.Operators.{Operator, both as both_hold, cast_fits, cast_of, comparison, either, keyword_operator, operation, operator_of}
use Rattle.spec_patterns.specs.Faults.{count_fault, fits, literal_fault, type_fault, unknown}
use Rattle.spec_patterns.specs.Patterns.{fields_of, make_fault, part_faults, pattern_fault, patterns_len, variables}
use Rattle.spec_typing.specs.Parts.{Part, answer_fault, cast_fault, map_fault, map_wanted, match_fault, part_of, wanted, wanted_if, word_fault, word_wanted}
use Rattle.spec_typing.specs.Terms.{argument_faults, arms_fault, callee_fault, cast_to_fault, enter, fault_in, get_fault, if_fault, maker_fault, map_of, operand_fault, operands_fault, params_of, part, prefix_fault, put_fault, rows_of, terms_len, type_of, type_or}
use Rattle.spec_checker.specs.Functions.{bodies_fault, body_fault, functions, parameters, terms_fault}
use Rattle.state_fault_laws.proofs.Told.{IsToldIn, both, where_fails, where_found, where_there}

literal_told : (v w : Num) (span : Span) → IsToldIn (literal_fault v w span)
literal_told v w span = where_fails (fits v.v w.v) (BadWidth span (literal_text v.v w.v)) tt

count_told : (name : Name) (want got : ℕ) → IsToldIn (count_fault name want got)
count_told name want got = where_fails (want == got) (Arity name.span want got) tt

cast_told : (kind : CastKind) (from : Ty) (to : Num) (span : Span) → IsToldIn (cast_fault kind from to span)
cast_told kind (Word from) to span = where_fails (cast_fits kind from to.v) (BadWidth span (decimal to.v)) tt
cast_told kind Flag to span = tt
cast_told kind (DataTy d) to span = tt
cast_told kind (MapOf m) to span = tt

module _ (env : Environment) where
  type_told : (want : Ty) (span : Span) (got : Ty) → IsToldIn (type_fault env want span got)
  type_told want span got = where_fails (same_type want got) (Mismatch span (type_text env want) (type_text env got)) tt

  word_told : (span : Span) (got : Ty) → IsToldIn (word_fault env span got)
  word_told span (Word w) = tt
  word_told span Flag = tt
  word_told span (DataTy d) = tt
  word_told span (MapOf m) = tt

  map_told : (span : Span) (got : Ty) → IsToldIn (map_fault env span got)
  map_told span (Word w) = tt
  map_told span Flag = tt
  map_told span (DataTy d) = tt
  map_told span (MapOf m) = tt

  -- ---- patterns

  mutual
    unfolding make_fault

    pattern_told : (ty : Ty) (p : Pattern) → IsToldIn (pattern_fault env ty p)
    pattern_told ty (e.any span) = tt
    pattern_told ty (e.bind name) = tt
    pattern_told ty (e.Pattern.word v w span) = both (literal_fault v w span) (type_fault env ty span (Word w.v)) (literal_told v w span) (type_told ty span (Word w.v))
    pattern_told ty (e.Pattern.flag b span) = type_told ty span Flag
    pattern_told ty (e.Pattern.make name parts span) =
        both (found (constructor_named env name.text) (unknown name) (λ c. count_fault name (length c.fields) (patterns_len parts)) then part_faults env (fields_of (constructor_named env name.text)) parts)
        (found (constructor_named env name.text) (unknown name) (λ c. type_fault env ty span (DataTy c.ty)))
        (both (found (constructor_named env name.text) (unknown name) (λ c. count_fault name (length c.fields) (patterns_len parts))) (part_faults env (fields_of (constructor_named env name.text)) parts)
        (where_found (constructor_named env name.text) (unknown name) (λ c. count_fault name (length c.fields) (patterns_len parts)) tt (λ c. count_told name (length c.fields) (patterns_len parts)))
        (parts_told (fields_of (constructor_named env name.text)) parts))
        (where_found (constructor_named env name.text) (unknown name) (λ c. type_fault env ty span (DataTy c.ty)) tt (λ c. type_told ty span (DataTy c.ty)))

    parts_told : (types : List Ty) (parts : Patterns) → IsToldIn (part_faults env types parts)
    parts_told [] e.Patterns.none = tt
    parts_told [] (e.Patterns.more p ps) = tt
    parts_told (t ∷ ts) e.Patterns.none = tt
    parts_told (t ∷ ts) (e.Patterns.more p ps) = both (pattern_fault env t p) (part_faults env ts ps) (pattern_told t p) (parts_told ts ps)

  -- ---- parts of terms

  wanted_told : (want : Ty) (p : Part) → IsToldIn p.fault → IsToldIn (wanted env want p)
  wanted_told want p own = both p.fault (within p.ty (type_fault env want p.span)) own (where_there p.ty (type_fault env want p.span) (λ got. type_told want p.span got))

  wanted_if_told : (want : Option Ty) (p : Part) → IsToldIn p.fault → IsToldIn (wanted_if env want p)
  wanted_if_told None p own = own
  wanted_if_told (Some want) p own = wanted_told want p own

  word_wanted_told : (p : Part) → IsToldIn p.fault → IsToldIn (word_wanted env p)
  word_wanted_told p own = both p.fault (within p.ty (word_fault env p.span)) own (where_there p.ty (word_fault env p.span) (λ got. word_told p.span got))

  map_wanted_told : (p : Part) → IsToldIn p.fault → IsToldIn (map_wanted env p)
  map_wanted_told p own = both p.fault (within p.ty (map_fault env p.span)) own (where_there p.ty (map_fault env p.span) (λ got. map_told p.span got))

  answer_told : (span : Span) (ty : Ty) (answer : MatchAnswer) → IsToldIn (answer_fault env span ty answer)
  answer_told span ty (decision t) = tt
  answer_told span ty (not_exhaustive p) = tt
  answer_told span ty (useless r) = tt

  if_told : (c x y : Part) → IsToldIn c.fault → IsToldIn x.fault → IsToldIn y.fault → IsToldIn (if_fault env c x y)
  if_told c x y p q r =
      both (wanted env Flag c then x.fault) (within x.ty (λ t. wanted env t y)) (both (wanted env Flag c) x.fault (wanted_told Flag c p) q) (where_there x.ty (λ t. wanted env t y) (λ t. wanted_told t y r))

  operand_told : (op : Operator) (x : Part) → IsToldIn x.fault → IsToldIn (operand_fault env op x)
  operand_told both_hold x p = wanted_told Flag x p
  operand_told either x p = wanted_told Flag x p
  operand_told (operation op) x p = word_wanted_told x p
  operand_told (comparison c) x p = word_wanted_told x p

  operands_told : (op : Operator) (x y : Part) → IsToldIn x.fault → IsToldIn y.fault → IsToldIn (operands_fault env op x y)
  operands_told op x y p q = both (operand_fault env op x) (within x.ty (λ t. wanted env t y)) (operand_told op x p) (where_there x.ty (λ t. wanted env t y) (λ t. wanted_told t y q))

  prefix_told : (op : PreOp) (x : Part) → IsToldIn x.fault → IsToldIn (prefix_fault env op x)
  prefix_told PreOp.Bang x p = wanted_told Flag x p
  prefix_told PreOp.Tilde x p = word_wanted_told x p
  prefix_told PreOp.Minus x p = word_wanted_told x p

  get_told : (x key : Part) → IsToldIn x.fault → IsToldIn key.fault → IsToldIn (get_fault env x key)
  get_told x key p q = both (map_wanted env x) (wanted env (key_type env (map_of x.ty)) key) (map_wanted_told x p) (wanted_told (key_type env (map_of x.ty)) key q)

  put_told : (x key v : Part) → IsToldIn x.fault → IsToldIn key.fault → IsToldIn v.fault → IsToldIn (put_fault env x key v)
  put_told x key v p q r = both (get_fault env x key) (wanted env (value_type env (map_of x.ty)) v) (get_told x key p q) (wanted_told (value_type env (map_of x.ty)) v r)

  cast_to_told : (kind : CastKind) (x : Part) (to : Num) (span : Span) → IsToldIn x.fault → IsToldIn (cast_to_fault env kind x to span)
  unfolding cast_to_fault
  cast_to_told kind x to span p = both (word_wanted env x) (within x.ty (λ t. cast_fault kind t to span)) (word_wanted_told x p) (where_there x.ty (λ t. cast_fault kind t to span) (λ t. cast_told kind t to span))

  callee_told : (name : Name) (got : ℕ) → IsToldIn (callee_fault env name got)
  callee_told name got =
      where_found (function_named env name.text) (unknown name) (λ f. count_fault name (length f.signature.params) got) tt (λ f. count_told name (length f.signature.params) got)

  maker_told : (name : Name) (got : ℕ) → IsToldIn (maker_fault env name got)
  maker_told name got = where_found (constructor_named env name.text) (unknown name) (λ c. count_fault name (length c.fields) got) tt (λ c. count_told name (length c.fields) got)

  -- ---- terms

  mutual
    term_told : (scope : Scope) (x : Expr) → IsToldIn (fault_in env scope x)
    term_told scope (e.let_in name x body span) =
        both (fault_in env scope x) (fault_in env (enter scope name.text (type_of env scope x)) body) (term_told scope x) (term_told (enter scope name.text (type_of env scope x)) body)
    term_told scope (e.if_else c x y span) = if_told (part env scope c) (part env scope x) (part env scope y) (term_told scope c) (term_told scope x) (term_told scope y)
    term_told scope (e.binary op x y span) = operands_told (operator_of op) (part env scope x) (part env scope y) (term_told scope x) (term_told scope y)
    term_told scope (e.prefix op x span) = prefix_told op (part env scope x) (term_told scope x)
    term_told scope (e.get x key span) = get_told (part env scope x) (part env scope key) (term_told scope x) (term_told scope key)
    term_told scope (e.put x key v span) = put_told (part env scope x) (part env scope key) (part env scope v) (term_told scope x) (term_told scope key) (term_told scope v)
    term_told scope (e.Term.word v w span) = literal_told v w span
    term_told scope (e.Term.flag b span) = tt
    term_told scope (e.var name) = where_found (variable_named scope name.text) (unknown name) (λ x. None) tt (λ x. tt)
    term_told scope (e.call name args span) =
        both (callee_fault env name (terms_len args)) (argument_faults env scope (params_of (function_named env name.text)) args) (callee_told name (terms_len args))
        (arguments_told scope (params_of (function_named env name.text)) args)
    term_told scope (e.Term.make name args span) =
        both (maker_fault env name (terms_len args)) (argument_faults env scope (fields_of (constructor_named env name.text)) args) (maker_told name (terms_len args))
        (arguments_told scope (fields_of (constructor_named env name.text)) args)
    term_told scope (e.operation op x y span) = operands_told (keyword_operator op) (part env scope x) (part env scope y) (term_told scope x) (term_told scope y)
    term_told scope (e.cast op x to span) = cast_to_told (cast_of op) (part env scope x) to span (term_told scope x)
    term_told scope (e.match_on x arms span) =
        both (fault_in env scope x then arms_fault env scope (type_or (type_of env scope x)) None arms)
        (match_fault env span (type_or (type_of env scope x)) (rows_of env scope (type_or (type_of env scope x)) arms))
        (both (fault_in env scope x) (arms_fault env scope (type_or (type_of env scope x)) None arms) (term_told scope x) (arms_told scope (type_or (type_of env scope x)) None arms))
        (answer_told span (type_or (type_of env scope x)) (match_answer (shapes_of env) (shape_of (type_or (type_of env scope x))) (rows_of env scope (type_or (type_of env scope x)) arms)))
    term_told scope (e.paren x span) = term_told scope x

    arguments_told : (scope : Scope) (types : List Ty) (args : Exprs) → IsToldIn (argument_faults env scope types args)
    arguments_told scope [] e.Terms.none = tt
    arguments_told scope [] (e.Terms.more a args) = tt
    arguments_told scope (t ∷ ts) e.Terms.none = tt
    arguments_told scope (t ∷ ts) (e.Terms.more a args) =
        both (wanted env t (part env scope a)) (argument_faults env scope ts args) (wanted_told t (part env scope a) (term_told scope a)) (arguments_told scope ts args)

    arms_told : (scope : Scope) (ty : Ty) (want : Option Ty) (arms : ExprArms) → IsToldIn (arms_fault env scope ty want arms)
    arms_told scope ty want e.no_arm = tt
    arms_told scope ty want (e.arm p body span rest) =
        let inner = scope ++ variables env ty p in
        both (pattern_fault env ty p then wanted_if env want (part env inner body)) (arms_fault env scope ty (or_else want (type_of env inner body)) rest)
        (both (pattern_fault env ty p) (wanted_if env want (part env inner body)) (pattern_told ty p) (wanted_if_told want (part env inner body) (term_told inner body)))
        (arms_told scope ty (or_else want (type_of env inner body)) rest)

  -- ---- bodies

  body_told : (f : Function) (s : Signature) → IsToldIn (body_fault env f s)
  body_told f s =
      wanted_told s.result_type (part env (parameters f.params s.params) f.body) (term_told (parameters f.params s.params) f.body)

  bodies_told : (fs : List Function) (ss : List Signature) → IsToldIn (bodies_fault env fs ss)
  bodies_told [] ss = tt
  bodies_told (f ∷ fs) [] = tt
  bodies_told (f ∷ fs) (s ∷ ss) = both (body_fault env f s) (bodies_fault env fs ss) (body_told f s) (bodies_told fs ss)

  pub terms_told : (items : List Item) → IsToldIn (terms_fault env items)
  terms_told items = bodies_told (functions items) env.funs
