-- A term without a fault leaves nothing open.
use Rattle.std.proofs.Common.{◌≡◌, true, Option, Some, None, List, [], ◌∷◌, ◌++◌, length, refl, sym, ap, ◌∙◌, subst, arith}
use Rattle.syntax_parser.specs.declared.tree.Name.{Name}
use Rattle.syntax_parser.specs.declared.tree.Num.{Num}
use Rattle.syntax_parser.specs.declared.tree.PreOp.{PreOp}
use Rattle.syntax_parser.specs.declared.tree.Span.{Span}
use Rattle.syntax_parser.specs.Tree as e
use Rattle.syntax_parser.specs.Tree.{Term as Expr, Terms as Exprs, Arms as ExprArms, Pattern}
use Rattle.spec_match_compiler.specs.Answers.{match_answer}
use Rattle.spec_match_compiler.specs.Picks.{Choice, numbered, first_match, picks}
use Rattle.spec_ir.specs.declared.ty.Ty.{Ty}
use Rattle.spec_ir.specs.declared.ty.Ty.TheVariants.{Bool as Flag}
use Rattle.spec_ir.specs.declared.term.CastKind.{CastKind}
use Rattle.spec_ir.specs.Answers.{◌then◌, within, found}
use Rattle.spec_ir.specs.Environment.{Environment, Scope, Function, Constructor, function_named, constructor_named, or_else, shape_of, shapes_of}
use Rattle.spec_ir.specs.Terms as s
use Rattle.spec_ir.specs.Cores.{tree_of, type_in}
use Rattle.spec_ir.specs.WellFormed.{IsWellFormed, is_type, is_scope}
use Rattle.spec_ir.proofs.Checks.{then_left, then_right}
use Rattle.spec_patterns.specs.Faults.{unknown, count_fault}
use Rattle.spec_patterns.specs.Patterns.{pattern_fault, variables, fields_of, case_number}
use Rattle.spec_patterns.proofs.Found.{constructor_there}
use Rattle.spec_patterns.proofs.Suits.{lengths as counts}
use Rattle.spec_term_forms.specs.Forms.{operator_term, prefix_term, width_of}
use Rattle.spec_term_forms.specs.Operators.{Operator, both, either, operation, comparison, operator_of, keyword_operator, cast_of}
use Rattle.spec_typing.specs.Parts.{Part, wanted, wanted_if, word_wanted, map_wanted, match_fault}
use Rattle.spec_typing.specs.Terms.{fault_in, type_of, term_of, terms_of, part, arms_of, arms_fault, argument_faults, rows_of, terms_len, operand_fault, operands_fault, get_fault, cast_to_fault, params_of, datatype_of, type_or, enter}
use Rattle.spec_typing.proofs.Rows.{rows_suit}
use Rattle.semantics_accepted.specs.Typed.{types, IsTyped}
use Rattle.semantics_accepted.proofs.Coring.{patterns_are, agrees, let_types, arm_types}
use Rattle.semantics_accepted.proofs.Typing.{clash, typed, behind}
use Rattle.semantics.specs.Steps.{shown}
use Rattle.semantics_laws.specs.Total.{HasOneType, AreDecided, IsTotal, AreTotal, AreTotalArms}
use Rattle.semantics_accepted.proofs.Exhaustive.{case_there, takes_all}
use Rattle.semantics_accepted.proofs.Alone.{operand_part, prefix_part, alone, entered_is}

module _ (env : Environment) (wf : IsWellFormed env) where
  abbrev Goes : Scope → Expr → Type 0
  Goes scope x = fault_in env scope x ≡ None → IsTotal env (types scope) (term_of env scope x)

  -- ---- parts without a fault
  within_part : (o : Option Ty) (t : Ty) (y : Part) → o ≡ Some t → within o (λ u. wanted env u y) ≡ None → y.fault ≡ None
  within_part None t y e h = absurd cc
  within_part (Some u) t y e h = then_left y.fault _ h

  cast_part : (kind : CastKind) (x : Part) (to : Num) (span : Span) → cast_to_fault env kind x to span ≡ None → x.fault ≡ None
  unfolding cast_to_fault
  cast_part kind x to span h = then_left x.fault _ (then_left (word_wanted env x) _ h)

  if_part : (o : Option Ty) (x : Part) → wanted_if env o x ≡ None → x.fault ≡ None
  if_part None x h = h
  if_part (Some t) x h = then_left x.fault _ h

  -- ---- the productions, by their parts
  operator_total : (scope : Scope) (op : Operator) (x y : Expr) → is_scope env scope ≡ true → Goes scope x → Goes scope y → operands_fault env op (part env scope x) (part env scope y) ≡ None
      → IsTotal env (types scope) (operator_term op (width_of (type_of env scope x)) (term_of env scope x) (term_of env scope y))
  operator_total scope op x y all gx gy h = at op (gx hx) (gy (within_part (type_of env scope x) kx.ty (part env scope y) kx.found (then_right (operand_fault env op (part env scope x)) _ h)))
    where
      hx : fault_in env scope x ≡ None
      hx = operand_part env wf op (part env scope x) (then_left (operand_fault env op (part env scope x)) _ h)

      kx : IsTyped env scope x
      kx = typed env wf scope x all hx

      at : (op : Operator) → IsTotal env (types scope) (term_of env scope x) → IsTotal env (types scope) (term_of env scope y) → IsTotal env (types scope) (operator_term op (width_of (type_of env scope x)) (term_of env scope x) (term_of env scope y))
      at both tx ty = (tx, ty, tt)
      at either tx ty = (tx, tt, ty)
      at (operation o) tx ty = (tx, ty)
      at (comparison o) tx ty = (tx, ty)

  prefix_total : (scope : Scope) (op : PreOp) (x : Expr) → IsTotal env (types scope) (term_of env scope x) → IsTotal env (types scope) (prefix_term op (width_of (type_of env scope x)) (term_of env scope x))
  prefix_total scope PreOp.Bang x tx = (tx, tt, tt)
  prefix_total scope PreOp.Tilde x tx = tx
  prefix_total scope PreOp.Minus x tx = tx

  abbrev GoAll : Scope → Exprs → Type 0
  GoAll scope args = (ts : List Ty) → argument_faults env scope ts args ≡ None → length ts ≡ terms_len args → AreTotal env (types scope) (terms_of env scope args)

  call_total : (scope : Scope) (name : Name) (args : Exprs) (o : Option Function) → GoAll scope args
      → found o (unknown name) (λ f. count_fault name (length f.signature.params) (terms_len args)) then argument_faults env scope (params_of o) args ≡ None → AreTotal env (types scope) (terms_of env scope args)
  call_total scope name args None go h = clash (then_left (Some (unknown name)) (argument_faults env scope [] args) h)
  call_total scope name args (Some f) go h =
      let count = counts (length f.signature.params) (terms_len args) _ (then_left (count_fault name (length f.signature.params) (terms_len args)) _ h) in
      go f.signature.params (then_right (count_fault name (length f.signature.params) (terms_len args)) _ h) count

  make_total : (scope : Scope) (name : Name) (args : Exprs) (o : Option Constructor) → GoAll scope args → constructor_named env name.text ≡ o
      → found o (unknown name) (λ c. count_fault name (length c.fields) (terms_len args)) then argument_faults env scope (fields_of o) args ≡ None
      → IsTotal env (types scope) (s.make (datatype_of o) (case_number o) (terms_of env scope args))
  make_total scope name args None go is h = clash (then_left (Some (unknown name)) (argument_faults env scope [] args) h)
  make_total scope name args (Some c) go is h =
      let count = counts (length c.fields) (terms_len args) _ (then_left (count_fault name (length c.fields) (terms_len args)) _ h) in
      (case_there env c.ty c.case _ (constructor_there env name.text c is), go c.fields (then_right (count_fault name (length c.fields) (terms_len args)) _ h) count)

  -- a term has no other type than the one that is computed
  one_type : (scope : Scope) (x : Expr) → is_scope env scope ≡ true → fault_in env scope x ≡ None → HasOneType env (types scope) (term_of env scope x)
  one_type scope x all h = λ t k. agrees env wf scope x all h ∙ ap type_or (alone env wf scope x all h t k)

  -- ---- matches
  arms_decided : (scope : Scope) (span : Span) (ty : Ty) (arms : ExprArms) (want : Option Ty) → is_type env ty ≡ true → arms_fault env scope ty want arms ≡ None → match_fault env span ty (rows_of env scope ty arms) ≡ None
      → AreDecided env ty (arms_of env scope ty arms)
  arms_decided scope span ty arms want is h k p has =
      subst (λ ps. (c : Choice) × (first_match (numbered 0 ps) (shown p) ≡ Some c) × (picks (tree_of (match_answer (shapes_of env) (shape_of ty) ps)) (shown p) ≡ Some c)) (sym (patterns_are env scope ty arms))
      (takes_all env wf span ty (rows_of env scope ty arms) is (rows_suit env scope ty arms want h) k p has)

  abbrev IsMatchTotal : Scope → Ty → s.Arms → Type 0
  IsMatchTotal scope ty arms = AreDecided env ty arms × AreTotalArms env (types scope) ty arms

  match_total : (scope : Scope) (x : Expr) (arms : ExprArms) (span : Span) → is_scope env scope ≡ true → fault_in env scope x ≡ None
      → ((ty : Ty) → is_type env ty ≡ true → arms_fault env scope ty None arms ≡ None → AreTotalArms env (types scope) ty (arms_of env scope ty arms))
      → arms_fault env scope (type_or (type_of env scope x)) None arms ≡ None → match_fault env span (type_or (type_of env scope x)) (rows_of env scope (type_or (type_of env scope x)) arms) ≡ None
      → IsMatchTotal scope (type_in env (types scope) (term_of env scope x)) (arms_of env scope (type_or (type_of env scope x)) arms)
  match_total scope x arms span all hx go h m =
      let k = typed env wf scope x all hx in
      let from = type_or (type_of env scope x) in
      let fine : is_type env from ≡ true = subst (λ o. is_type env (type_or o) ≡ true) (sym k.found) k.is in
      subst (λ z. IsMatchTotal scope z (arms_of env scope from arms)) (sym (agrees env wf scope x all hx)) (arms_decided scope span from arms None fine h m, go from fine h)

  mutual
    pub total : (scope : Scope) (x : Expr) → is_scope env scope ≡ true → fault_in env scope x ≡ None → IsTotal env (types scope) (term_of env scope x)
    total scope (e.Term.word v w span) all h = tt
    total scope (e.Term.flag b span) all h = tt
    total scope (e.var name) all h = tt
    total scope (e.paren x span) all h = total scope x all h
    total scope (e.if_else c x y span) all h =
        let hcx = then_left (wanted env Flag (part env scope c) then fault_in env scope x) _ h in
        let hc = then_left (wanted env Flag (part env scope c)) _ hcx in
        let hx = then_right (wanted env Flag (part env scope c)) _ hcx in
        let kx = typed env wf scope x all hx in
        let hy = within_part (type_of env scope x) kx.ty (part env scope y) kx.found (then_right (wanted env Flag (part env scope c) then fault_in env scope x) _ h) in
        (total scope c all (then_left (fault_in env scope c) _ hc), total scope x all hx, total scope y all hy)
    total scope (e.let_in name x body span) all h =
        let hx = then_left (fault_in env scope x) _ h in
        let kx = typed env wf scope x all hx in
        let inner = total (enter scope name.text (type_of env scope x)) body (entered_is env wf scope name.text x all kx) (then_right (fault_in env scope x) _ h) in
        let vars = let_types env wf scope name x (agrees env wf scope x all hx) in
        (total scope x all hx, one_type scope x all hx, subst (λ vs. IsTotal env vs (term_of env (enter scope name.text (type_of env scope x)) body)) (sym vars) inner)
    total scope (e.binary op x y span) all h = operator_total scope (operator_of op) x y all (λ g. total scope x all g) (λ g. total scope y all g) h
    total scope (e.operation op x y span) all h = operator_total scope (keyword_operator op) x y all (λ g. total scope x all g) (λ g. total scope y all g) h
    total scope (e.prefix op x span) all h = prefix_total scope op x (total scope x all (prefix_part env wf op (part env scope x) h))
    total scope (e.cast op x to span) all h = total scope x all (cast_part (cast_of op) (part env scope x) to span h)
    total scope (e.get x key span) all h =
        let hx = then_left (fault_in env scope x) _ (then_left (map_wanted env (part env scope x)) _ h) in
        let hk = then_left (fault_in env scope key) _ (then_right (map_wanted env (part env scope x)) _ h) in
        (total scope x all hx, total scope key all hk)
    total scope (e.put x key v span) all h =
        let front = then_left (get_fault env (part env scope x) (part env scope key)) _ h in
        let hx = then_left (fault_in env scope x) _ (then_left (map_wanted env (part env scope x)) _ front) in
        let hk = then_left (fault_in env scope key) _ (then_right (map_wanted env (part env scope x)) _ front) in
        let hv = then_left (fault_in env scope v) _ (then_right (get_fault env (part env scope x) (part env scope key)) _ h) in
        (total scope x all hx, total scope key all hk, total scope v all hv)
    total scope (e.call name args span) all h = call_total scope name args (function_named env name.text) (λ ts g l. all_total scope args ts all g l) h
    total scope (e.Term.make name args span) all h = make_total scope name args (constructor_named env name.text) (λ ts g l. all_total scope args ts all g l) refl h
    total scope (e.match_on x arms span) all h =
        let from = type_or (type_of env scope x) in
        let front = then_left (fault_in env scope x then arms_fault env scope from None arms) _ h in
        let hx = then_left (fault_in env scope x) _ front in
        let all_of = match_total scope x arms span all hx (λ ty is g. arms_total scope ty arms None all is g) (then_right (fault_in env scope x) _ front) (then_right (fault_in env scope x then arms_fault env scope from None arms) _ h) in
        (total scope x all hx, one_type scope x all hx, all_of.0, all_of.1)

    all_total : (scope : Scope) (args : Exprs) (ts : List Ty) → is_scope env scope ≡ true → argument_faults env scope ts args ≡ None → length ts ≡ terms_len args → AreTotal env (types scope) (terms_of env scope args)
    all_total scope e.Terms.none ts all h l = tt
    all_total scope (e.Terms.more a args) [] all h l = absurd (omega arith)
    all_total scope (e.Terms.more a args) (t ∷ ts) all h l =
        (total scope a all (then_left (fault_in env scope a) _ (then_left (wanted env t (part env scope a)) _ h)), all_total scope args ts all (then_right (wanted env t (part env scope a)) _ h) (omega arith))

    arms_total : (scope : Scope) (ty : Ty) (arms : ExprArms) (want : Option Ty) → is_scope env scope ≡ true → is_type env ty ≡ true → arms_fault env scope ty want arms ≡ None → AreTotalArms env (types scope) ty (arms_of env scope ty arms)
    arms_total scope ty e.no_arm want all is h = tt
    arms_total scope ty (e.arm p body span rest) want all is h =
        let inner = scope ++ variables env ty p in
        let own = pattern_fault env ty p then wanted_if env want (part env inner body) in
        let front = then_left own _ h in
        let hp = then_left (pattern_fault env ty p) _ front in
        let hb = if_part want (part env inner body) (then_right (pattern_fault env ty p) _ front) in
        let kb = total inner body (behind env wf scope ty p all is) hb in
        (subst (λ vs. IsTotal env vs (term_of env inner body)) (sym (arm_types env wf scope ty p hp)) kb, arms_total scope ty rest (or_else want (type_of env inner body)) all is (then_right own _ h))
