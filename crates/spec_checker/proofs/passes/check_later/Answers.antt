use Rattle.std.proofs.Common.{◌≡◌, None, Some, inl, inr, map, ap, subst, rules}
use Rattle.syntax_parser.specs.View.{item, tree as tree_of}
use Rattle.spec_ir.specs.Views.{environment}
use Rattle.spec_declarations.specs.MachineRules.{instr_of}
use Rattle.spec_decode_rows.specs.Rows.{decode_fault}
use Rattle.spec_checker.specs.Check.{functions_pass}
use Rattle.spec_checker.proofs.passes.check_later.Goals as goal

pub returns-in-Ok-clause-accepted : goal.returns-in-Ok-clause-accepted
returns-in-Ok-clause-accepted c =
    let t = tree_of c.args.tree.now in
    let made = c.in_ok-environment.environment in
    let is : made ≡ environment c.args.declarations.now = search rules in
    let number : c.in_ok-instr.instr ≡ instr_of t = search rules in
    let items = ap (map item) c.deref.ensures.value in
    let funs = subst (λ x. (functions_pass x t.items).none) is (subst (λ i. (functions_pass made i).none) items c.in_ok-funs.ensures.accepted) in
    let rows = subst (λ x. decode_fault x (instr_of t) t ≡ None) is (subst (λ n. decode_fault made n t ≡ None) number c.in-Ok.ensures.answer) in
    (funs, rows)

pub returns-clause-fault : goal.returns-clause-fault
returns-clause-fault c =
    let t = tree_of c.args.tree.now in
    let made = c.in_ok-environment.environment in
    let is : made ≡ environment c.args.declarations.now = search rules in
    let number : c.in_ok-instr.instr ≡ instr_of t = search rules in
    let items = ap (map item) c.deref.ensures.value in
    let funs = subst (λ x. (functions_pass x t.items).none) is (subst (λ i. (functions_pass made i).none) items c.in_ok-funs.ensures.accepted) in
    elim c.in-Err.ensures.answer [
      | inl f ↦ inl (inr (funs, subst (λ x. decode_fault x (instr_of t) t ≡ Some c.in-Err.e) is (subst (λ n. decode_fault made n t ≡ Some c.in-Err.e) number f)))
      | inr m ↦ inr m
    ]
