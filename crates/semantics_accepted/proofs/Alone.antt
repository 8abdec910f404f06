-- A term without a fault has one type: the one that is found for it.
use Rattle.std.proofs.Common.{◌≡◌, ℕ, true, Option, Some, None, List, [], ◌∷◌, ◌++◌, length, sym, ap, ◌∙◌, subst}
use Rattle.std.proofs.lemmas.Option.{same_Some as same_signature}
use Rattle.syntax_parser.specs.declared.tree.PreOp.{PreOp}
use Rattle.syntax_parser.specs.Tree as e
use Rattle.syntax_parser.specs.Tree.{Term as Expr, Arms as ExprArms, Pattern}
use Rattle.spec_ir.specs.declared.ty.Ty.{Ty}
use Rattle.spec_ir.specs.declared.ty.Ty.TheVariants.{Bool as Flag, Word}
use Rattle.spec_ir.specs.Answers.{◌then◌}
use Rattle.spec_ir.specs.Environment.{Environment, Scope}
use Rattle.spec_ir.specs.Terms as s
use Rattle.spec_ir.specs.TermTypes.{HasType, PatternTyped}
use Rattle.spec_ir.specs.WellFormed.{IsWellFormed, is_type, is_scope}
use Rattle.spec_ir.proofs.Checks.{then_left, then_right}
use Rattle.spec_patterns.specs.Patterns.{pattern_fault, pattern_of, variables}
use Rattle.spec_term_forms.specs.Forms.{operator_term, operator_type, prefix_term, prefix_type, width_of}
use Rattle.spec_term_forms.specs.Operators.{Operator, both, either, operation, comparison, operator_of, keyword_operator}
use Rattle.spec_typing.specs.Parts.{Part, wanted, map_wanted}
use Rattle.spec_typing.specs.Terms.{fault_in, type_of, term_of, part, arms_fault, operand_fault, prefix_fault, get_fault, type_or, enter}
use Rattle.semantics_accepted.specs.Typed.{types, IsTyped}
use Rattle.semantics_accepted.proofs.Coring.{variables_have, variables_agree}
use Rattle.semantics_accepted.proofs.Patterned.{types_append}
use Rattle.semantics_accepted.proofs.Typing.{typed, some_arm, behind, enter_is}

module _ (env : Environment) (wf : IsWellFormed env) where
  -- ---- parts without a fault
  pub operand_part : (op : Operator) (x : Part) → operand_fault env op x ≡ None → x.fault ≡ None
  operand_part both x h = then_left x.fault _ h
  operand_part either x h = then_left x.fault _ h
  operand_part (operation op) x h = then_left x.fault _ h
  operand_part (comparison op) x h = then_left x.fault _ h

  pub prefix_part : (op : PreOp) (x : Part) → prefix_fault env op x ≡ None → x.fault ≡ None
  prefix_part PreOp.Bang x h = then_left x.fault _ h
  prefix_part PreOp.Tilde x h = then_left x.fault _ h
  prefix_part PreOp.Minus x h = then_left x.fault _ h

  -- a type that is found is the type
  abbrev pub Finds : Scope → Expr → Type 0
  Finds scope x = (t : Ty) → HasType env (types scope) (term_of env scope x) t → type_of env scope x ≡ Some t

  found_again : (scope : Scope) (x : Expr) (t : Ty) (k : IsTyped env scope x) → k.ty ≡ t → type_of env scope x ≡ Some t
  found_again scope x t k same = k.found ∙ ap Some same

  operator_alone : (scope : Scope) (op : Operator) (x y : Expr) (t : Ty) → Finds scope x → HasType env (types scope) (operator_term op (width_of (type_of env scope x)) (term_of env scope x) (term_of env scope y)) t
      → operator_type op (type_of env scope x) ≡ Some t
  operator_alone scope both x y t find h = ap Some (sym h.2)
  operator_alone scope either x y t find h = ap Some (sym h.1)
  operator_alone scope (operation op) x y t find h = find (Word (width_of (type_of env scope x))) h.0 ∙ ap Some (sym h.2)
  operator_alone scope (comparison op) x y t find h = ap Some (sym h.2)

  prefix_alone : (scope : Scope) (op : PreOp) (x : Expr) (t : Ty) → Finds scope x → HasType env (types scope) (prefix_term op (width_of (type_of env scope x)) (term_of env scope x)) t → prefix_type op (type_of env scope x) ≡ Some t
  prefix_alone scope PreOp.Bang x t find h = ap Some (sym h.1)
  prefix_alone scope PreOp.Tilde x t find h = find (Word (width_of (type_of env scope x))) h.0 ∙ ap Some (sym h.1)
  prefix_alone scope PreOp.Minus x t find h = find (Word (width_of (type_of env scope x))) h.0 ∙ ap Some (sym h.1)

  -- the names in scope in a body behind a name, and behind a pattern
  pub entered : (scope : Scope) (name : List ℕ) (o : Option Ty) (t : Ty) → o ≡ Some t → types (enter scope name o) ≡ types scope ++ t ∷ []
  entered scope name o t h = ap (λ z. types (enter scope name z)) h ∙ types_append scope ((name, t) ∷ [])

  pub entered_is : (scope : Scope) (name : List ℕ) (x : Expr) → is_scope env scope ≡ true → IsTyped env scope x → is_scope env (enter scope name (type_of env scope x)) ≡ true
  entered_is scope name x all k = subst (λ o. is_scope env (enter scope name o) ≡ true) (sym k.found) (enter_is env wf scope name k.ty all k.is)

  let_alone : (scope : Scope) (name : List ℕ) (x body : Expr) (t : Ty) → Finds scope x → Finds (enter scope name (type_of env scope x)) body
      → HasType env (types scope) (s.let_in (term_of env scope x) (term_of env (enter scope name (type_of env scope x)) body)) t → type_of env (enter scope name (type_of env scope x)) body ≡ Some t
  let_alone scope name x body t find inner h =
      inner t (subst (λ vs. HasType env vs (term_of env (enter scope name (type_of env scope x)) body) t) (sym (entered scope name (type_of env scope x) h.0 (find h.0 h.1))) h.2)

  -- the first arm decides
  arm_alone : (scope : Scope) (from : Ty) (p : Pattern) (body : Expr) (more : List Ty) (t : Ty) → pattern_fault env from p ≡ None → Finds (scope ++ variables env from p) body
      → PatternTyped env (length (types scope)) from (pattern_of env scope from p) more → HasType env (types scope ++ more) (term_of env (scope ++ variables env from p) body) t → type_of env (scope ++ variables env from p) body ≡ Some t
  arm_alone scope from p body more t fault find h k =
      let same = sym (variables_have env (length (types scope)) from (pattern_of env scope from p) more h) ∙ variables_agree env scope from p fault in
      find t (subst (λ vs. HasType env vs (term_of env (scope ++ variables env from p) body) t) (ap (λ zs. types scope ++ zs) same ∙ sym (types_append scope (variables env from p))) k)

  type_is : (o : Option Ty) (t : Ty) → o ≡ Some t → type_or o ≡ t
  type_is o t h = ap type_or h

  pub alone : (scope : Scope) (x : Expr) → is_scope env scope ≡ true → fault_in env scope x ≡ None → Finds scope x
  alone scope (e.Term.word v w span) all h t k = ap Some (sym k.2)
  alone scope (e.Term.flag b span) all h t k = ap Some (sym k)
  alone scope (e.paren x span) all h t k = alone scope x all h t k
  alone scope (e.if_else c x y span) all h t k =
      let front = then_left (wanted env Flag (part env scope c) then fault_in env scope x) _ h in
      alone scope x all (then_right (wanted env Flag (part env scope c)) _ front) t k.1
  alone scope (e.let_in name x body span) all h t k =
      let hx = then_left (fault_in env scope x) _ h in
      let kx = typed env wf scope x all hx in
      let_alone scope name.text x body t (alone scope x all hx) (alone (enter scope name.text (type_of env scope x)) body (entered_is scope name.text x all kx) (then_right (fault_in env scope x) _ h)) k
  alone scope (e.binary op x y span) all h t k =
      operator_alone scope (operator_of op) x y t (alone scope x all (operand_part (operator_of op) (part env scope x) (then_left (operand_fault env (operator_of op) (part env scope x)) _ h))) k
  alone scope (e.operation op x y span) all h t k =
      operator_alone scope (keyword_operator op) x y t (alone scope x all (operand_part (keyword_operator op) (part env scope x) (then_left (operand_fault env (keyword_operator op) (part env scope x)) _ h))) k
  alone scope (e.prefix op x span) all h t k = prefix_alone scope op x t (alone scope x all (prefix_part op (part env scope x) h)) k
  alone scope (e.cast op x to span) all h t k = ap Some (sym k.3)
  alone scope (e.get x key span) all h t k = ap Some (sym k.3)
  alone scope (e.put x key v span) all h t k =
      let front = then_left (get_fault env (part env scope x) (part env scope key)) _ h in
      alone scope x all (then_left (fault_in env scope x) _ (then_left (map_wanted env (part env scope x)) _ front)) _ k.1 ∙ ap Some (sym k.4)
  alone scope (e.var name) all h t k =
      let j = typed env wf scope (e.var name) all h in
      j.found ∙ sym j.has ∙ k
  alone scope (e.call name args span) all h t k =
      let j = typed env wf scope (e.call name args span) all h in
      let same = same_signature j.has.0 k.0 (sym j.has.1 ∙ k.1) in
      found_again scope (e.call name args span) t j (j.has.3 ∙ ap (λ z. z.result_type) same ∙ sym k.3)
  alone scope (e.Term.make name args span) all h t k =
      let j = typed env wf scope (e.Term.make name args span) all h in
      found_again scope (e.Term.make name args span) t j (j.has.1 ∙ sym k.1)
  alone scope (e.match_on x e.no_arm span) all h t k =
      absurd (some_arm env span (type_or (type_of env scope x)) (then_right (fault_in env scope x then arms_fault env scope (type_or (type_of env scope x)) None e.no_arm) _ h))
  alone scope (e.match_on x (e.arm p body place rest) span) all h t k =
      let from = type_or (type_of env scope x) in
      let front = then_left (fault_in env scope x then arms_fault env scope from None (e.arm p body place rest)) _ h in
      let hx = then_left (fault_in env scope x) _ front in
      let kx = typed env wf scope x all hx in
      let own = then_left (pattern_fault env from p then fault_in env (scope ++ variables env from p) body) _ (then_right (fault_in env scope x) _ front) in
      let is : is_type env from ≡ true = subst (λ o. is_type env (type_or o) ≡ true) (sym kx.found) kx.is in
      let same : k.0 ≡ from = sym (type_is (type_of env scope x) k.0 (alone scope x all hx k.0 k.1)) in
      arm_alone scope from p body k.2.0 t (then_left (pattern_fault env from p) _ own) (alone (scope ++ variables env from p) body (behind env wf scope from p all is) (then_right (pattern_fault env from p) _ own))
      (subst (λ z. PatternTyped env (length (types scope)) z (pattern_of env scope from p) k.2.0) same k.2.1) k.2.2
