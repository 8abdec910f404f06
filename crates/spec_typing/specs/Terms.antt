-- Terms: the first fault, the type, and the typed term.
use Rattle.std.specs.Prelude.{ℕ, suc, Bool, true, false, Option, Some, None, List, [], ◌∷◌, ◌++◌, length, option_map, option_and_then}
use Rattle.syntax_parser.specs.declared.tree.PreOp.{PreOp}
use Rattle.syntax_parser.specs.declared.tree.Span.{Span}
use Rattle.syntax_parser.specs.Tree as e
use Rattle.syntax_parser.specs.Tree.{Term as Expr, Terms as Exprs, Arms as ExprArms, Pattern}
use Rattle.syntax_parser.specs.declared.tree.Name.{Name}
use Rattle.syntax_parser.specs.declared.tree.Num.{Num}
use Rattle.spec_match_compiler.specs.Patterns as plain
use Rattle.spec_ir.specs.declared.ty.Ty.{Ty}
use Rattle.spec_ir.specs.declared.ty.Ty.TheVariants.{Bool as Flag, Word, Data as DataTy, Map as MapOf}
use Rattle.spec_ir.specs.declared.spec_error.SpecError.{SpecError}
use Rattle.spec_ir.specs.declared.term.CastKind.{CastKind}
use Rattle.spec_ir.specs.Answers.{found, within, ◌then◌}
use Rattle.spec_ir.specs.Environment.{Environment, Scope, Variable, Constructor, Function, variable_named, constructor_named, function_named, key_type, value_type, or_else}
use Rattle.spec_ir.specs.Terms as s
use Rattle.spec_ir.specs.Terms.{Term, Terms, Arms}
use Rattle.spec_term_forms.specs.Forms.{operator_term, operator_type, prefix_term, prefix_type, width_of}
use Rattle.spec_term_forms.specs.Operators.{Operator, both, either, operation, comparison, operator_of, keyword_operator, cast_of}
use Rattle.spec_patterns.specs.Faults.{unknown, count_fault, literal_fault}
use Rattle.spec_patterns.specs.Patterns.{pattern_fault, variables, pattern_of, fields_of, case_number}
use Rattle.spec_typing.specs.Parts.{Part, part_of, cast_fault, wanted, wanted_if, word_wanted, map_wanted, match_fault}

-- how many terms there are
abbrev pub terms_len : Exprs → ℕ
terms_len e.Terms.none = 0
terms_len (e.Terms.more t ts) = suc (terms_len ts)

-- what is read off what was found
abbrev pub place_of : Option Variable → ℕ
place_of None = 0
place_of (Some x) = x.place

abbrev pub params_of : Option Function → List Ty
params_of None = []
params_of (Some f) = f.signature.params

abbrev pub number_of : Option Function → ℕ
number_of None = 0
number_of (Some f) = f.fun

abbrev pub datatype_of : Option Constructor → ℕ
datatype_of None = 0
datatype_of (Some c) = c.ty

-- the type that is there, its map type
abbrev pub type_or : Option Ty → Ty
type_or None = Flag
type_or (Some t) = t

abbrev pub map_of : Option Ty → ℕ
map_of (Some (MapOf m)) = m
map_of _ = 0

abbrev pub enter : Scope → List ℕ → Option Ty → Scope
enter scope name ty = scope ++ (name, type_or ty) ∷ []

module _ (env : Environment) where
  abbrev mutual
    -- The type of a term without faults: where parts have to be of one type, the first of them fixes it. Of a term with a fault it
    -- means nothing, and nothing below looks at it.
    pub type_of : Scope → Expr → Option Ty
    type_of scope (e.let_in name x body span) = type_of (enter scope name.text (type_of scope x)) body
    type_of scope (e.if_else c x y span) = type_of scope x
    type_of scope (e.binary op x y span) = operator_type (operator_of op) (type_of scope x)
    type_of scope (e.prefix op x span) = prefix_type op (type_of scope x)
    type_of scope (e.get x key span) = Some (value_type env (map_of (type_of scope x)))
    type_of scope (e.put x key v span) = type_of scope x
    type_of scope (e.Term.word v w span) = Some (Word w.v)
    type_of scope (e.Term.flag b span) = Some Flag
    type_of scope (e.var name) = option_map (λ x. x.ty) (variable_named scope name.text)
    type_of scope (e.call name args span) = option_map (λ f. f.signature.result_type) (function_named env name.text)
    type_of scope (e.Term.make name args span) = option_map (λ c. DataTy c.ty) (constructor_named env name.text)
    type_of scope (e.operation op x y span) = operator_type (keyword_operator op) (type_of scope x)
    type_of scope (e.cast op x to span) = Some (Word to.v)
    type_of scope (e.match_on x arms span) = arms_type scope (type_or (type_of scope x)) arms
    type_of scope (e.paren x span) = type_of scope x

    -- that of the first arm, where the values that are matched have a type
    pub arms_type : Scope → Ty → ExprArms → Option Ty
    arms_type scope ty e.no_arm = None
    arms_type scope ty (e.arm p body span rest) = type_of (scope ++ variables env ty p) body

  -- ---- the rule of each production, by its parts

  abbrev pub if_fault : Part → Part → Part → Option SpecError
  if_fault c x y = wanted env Flag c then x.fault then within x.ty (λ t. wanted env t y)

  -- the first operand: a truth value or a word
  abbrev pub operand_fault : Operator → Part → Option SpecError
  operand_fault both x = wanted env Flag x
  operand_fault either x = wanted env Flag x
  operand_fault _ x = word_wanted env x

  -- and another of its type
  abbrev pub operands_fault : Operator → Part → Part → Option SpecError
  operands_fault op x y = operand_fault op x then within x.ty (λ t. wanted env t y)

  abbrev pub prefix_fault : PreOp → Part → Option SpecError
  prefix_fault PreOp.Bang x = wanted env Flag x
  prefix_fault _ x = word_wanted env x

  abbrev pub get_fault : Part → Part → Option SpecError
  get_fault x key = map_wanted env x then wanted env (key_type env (map_of x.ty)) key

  abbrev pub put_fault : Part → Part → Part → Option SpecError
  put_fault x key v = get_fault x key then wanted env (value_type env (map_of x.ty)) v

  unfoldable pub cast_to_fault : CastKind → Part → Num → Span → Option SpecError
  cast_to_fault kind x to span = word_wanted env x then within x.ty (λ t. cast_fault kind t to span)

  -- the name and the count of arguments
  abbrev pub callee_fault : Name → ℕ → Option SpecError
  callee_fault name got = found (function_named env name.text) (unknown name) (λ f. count_fault name (length f.signature.params) got)

  abbrev pub maker_fault : Name → ℕ → Option SpecError
  maker_fault name got = found (constructor_named env name.text) (unknown name) (λ c. count_fault name (length c.fields) got)

  abbrev mutual
    -- The first fault of a term: parts from left to right, and then its own.
    pub fault_in : Scope → Expr → Option SpecError
    fault_in scope (e.let_in name x body span) = fault_in scope x then fault_in (enter scope name.text (type_of scope x)) body
    fault_in scope (e.if_else c x y span) = if_fault (part_of c (fault_in scope c) (type_of scope c)) (part_of x (fault_in scope x) (type_of scope x)) (part_of y (fault_in scope y) (type_of scope y))
    fault_in scope (e.binary op x y span) = operands_fault (operator_of op) (part_of x (fault_in scope x) (type_of scope x)) (part_of y (fault_in scope y) (type_of scope y))
    fault_in scope (e.prefix op x span) = prefix_fault op (part_of x (fault_in scope x) (type_of scope x))
    fault_in scope (e.get x key span) = get_fault (part_of x (fault_in scope x) (type_of scope x)) (part_of key (fault_in scope key) (type_of scope key))
    fault_in scope (e.put x key v span) = put_fault (part_of x (fault_in scope x) (type_of scope x)) (part_of key (fault_in scope key) (type_of scope key)) (part_of v (fault_in scope v) (type_of scope v))
    fault_in scope (e.Term.word v w span) = literal_fault v w span
    fault_in scope (e.Term.flag b span) = None
    fault_in scope (e.var name) = found (variable_named scope name.text) (unknown name) (λ x. None)
    fault_in scope (e.call name args span) = callee_fault name (terms_len args) then argument_faults scope (params_of (function_named env name.text)) args
    fault_in scope (e.Term.make name args span) = maker_fault name (terms_len args) then argument_faults scope (fields_of (constructor_named env name.text)) args
    fault_in scope (e.operation op x y span) = operands_fault (keyword_operator op) (part_of x (fault_in scope x) (type_of scope x)) (part_of y (fault_in scope y) (type_of scope y))
    fault_in scope (e.cast op x to span) = cast_to_fault (cast_of op) (part_of x (fault_in scope x) (type_of scope x)) to span
    fault_in scope (e.match_on x arms span) =
        fault_in scope x
        then arms_fault scope (type_or (type_of scope x)) None arms
        then match_fault env span (type_or (type_of scope x)) (rows_of scope (type_or (type_of scope x)) arms)
    fault_in scope (e.paren x span) = fault_in scope x

    -- of arguments, by the types of the parameters or fields
    pub argument_faults : Scope → List Ty → Exprs → Option SpecError
    argument_faults scope (t ∷ ts) (e.Terms.more a args) = wanted env t (part_of a (fault_in scope a) (type_of scope a)) then argument_faults scope ts args
    argument_faults scope _ _ = None

    -- of arms, where the values that are matched have a type, and of bodies the type that the first one fixes is wanted
    pub arms_fault : Scope → Ty → Option Ty → ExprArms → Option SpecError
    arms_fault scope ty want e.no_arm = None
    arms_fault scope ty want (e.arm p body span rest) =
        pattern_fault env ty p
        then wanted_if env want (part_of body (fault_in (scope ++ variables env ty p) body) (type_of (scope ++ variables env ty p) body))
        then arms_fault scope ty (or_else want (type_of (scope ++ variables env ty p) body)) rest

    -- the typed patterns of arms
    pub rows_of : Scope → Ty → ExprArms → List plain.Pattern
    rows_of scope ty e.no_arm = []
    rows_of scope ty (e.arm p body span rest) = pattern_of env scope ty p ∷ rows_of scope ty rest

  -- a part of a term in a scope
  abbrev pub part : Scope → Expr → Part
  part scope x = part_of x (fault_in scope x) (type_of scope x)

  -- the rule of a match, by what it is on
  abbrev pub matched_fault : Scope → Part → ExprArms → Span → Option SpecError
  matched_fault scope x arms span =
      x.fault
      then arms_fault scope (type_or x.ty) None arms
      then match_fault env span (type_or x.ty) (rows_of scope (type_or x.ty) arms)

  -- of an arm, with the type that is wanted of its body, where one is
  abbrev pub arm_fault : Scope → Ty → Option Ty → Pattern → Expr → Option SpecError
  arm_fault scope ty want p body = pattern_fault env ty p then wanted_if env want (part (scope ++ variables env ty p) body)

  abbrev mutual
    -- The typed term of a term without faults.
    pub term_of : Scope → Expr → Term
    term_of scope (e.let_in name x body span) = s.let_in (term_of scope x) (term_of (enter scope name.text (type_of scope x)) body)
    term_of scope (e.if_else c x y span) = s.if_else (term_of scope c) (term_of scope x) (term_of scope y)
    term_of scope (e.binary op x y span) = operator_term (operator_of op) (width_of (type_of scope x)) (term_of scope x) (term_of scope y)
    term_of scope (e.prefix op x span) = prefix_term op (width_of (type_of scope x)) (term_of scope x)
    term_of scope (e.get x key span) = s.get (map_of (type_of scope x)) (term_of scope x) (term_of scope key)
    term_of scope (e.put x key v span) = s.put (map_of (type_of scope x)) (term_of scope x) (term_of scope key) (term_of scope v)
    term_of scope (e.Term.word v w span) = s.word w.v v.v
    term_of scope (e.Term.flag b span) = s.flag b
    term_of scope (e.var name) = s.var (place_of (variable_named scope name.text))
    term_of scope (e.call name args span) = s.call (number_of (function_named env name.text)) (terms_of scope args)
    term_of scope (e.Term.make name args span) = s.make (datatype_of (constructor_named env name.text)) (case_number (constructor_named env name.text)) (terms_of scope args)
    term_of scope (e.operation op x y span) = operator_term (keyword_operator op) (width_of (type_of scope x)) (term_of scope x) (term_of scope y)
    term_of scope (e.cast op x to span) = s.cast (cast_of op) (width_of (type_of scope x)) to.v (term_of scope x)
    term_of scope (e.match_on x arms span) = s.match_on (term_of scope x) (arms_of scope (type_or (type_of scope x)) arms)
    term_of scope (e.paren x span) = term_of scope x

    pub terms_of : Scope → Exprs → Terms
    terms_of scope e.Terms.none = s.no_term
    terms_of scope (e.Terms.more t ts) = s.term_then (term_of scope t) (terms_of scope ts)

    pub arms_of : Scope → Ty → ExprArms → Arms
    arms_of scope ty e.no_arm = s.no_arm
    arms_of scope ty (e.arm p body span rest) = s.arm_then (pattern_of env scope ty p) (term_of (scope ++ variables env ty p) body) (arms_of scope ty rest)
