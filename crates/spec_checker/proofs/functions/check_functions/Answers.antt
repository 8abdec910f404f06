use Rattle.std.proofs.Common.{◌≡◌, ◌∙◌, None, List, length, map, ap, sym, subst, arith, rules}
use Rattle.std.proofs.lemmas.List.{length-map}
use Rattle.syntax_parser.specs.View.{function, item}
use Rattle.spec_ir.specs.Views.{fun_of, signature_of}
use Rattle.spec_calls.specs.Groups.{AreGroups}
use Rattle.spec_calls.specs.Recursion.{NoRecursionFault}
use Rattle.spec_checker.specs.Check.{AreFuns}
use Rattle.spec_checker.specs.Functions.{bodies_fault, forms_of, forms, functions, terms_in}
use Rattle.spec_checker.specs.Steps.{made}
use Rattle.spec_checker.specs.Views.{form}
use Rattle.spec_checker.proofs.Making.{are_funs, groups_count}
use Rattle.spec_checker.proofs.functions.check_functions.Goals as goal

pub checked_functions-requires : goal.checked_functions-requires
checked_functions-requires c =
    let fs = map form c.in_ok-forms.forms.items in
    let g = subst (λ xs. AreGroups (terms_in (map form xs)) c.in_ok-groups.groups.items) c.deref-3.ensures.value c.in_ok-groups.ensures.groups in
    let n = groups_count fs c.in_ok-groups.groups.items g in
    let m = length-map c.in_ok-forms.forms.items form in
    let k : length c.in_ok-forms.forms.items ≡ length c.args.signatures.now = search rules in
    ap length c.deref-4.ensures.value ∙ (n ∙ m ∙ k)

pub returns-clause-accepted : goal.returns-clause-accepted
returns-clause-accepted c =
    let env = c.args.environment.now in
    let items = map item c.args.items.now in
    let ss = map signature_of c.args.signatures.now in
    let fns = map (λ f. function f.now) c.in_ok-functions.functions.items in
    let bs = map form c.in_ok-forms.forms.items in
    let fs_are : fns ≡ functions items = search rules in
    let fine : bodies_fault env fns ss ≡ None = search rules in
    let made_forms : bs ≡ forms_of env fns ss = search rules in
    let are : bs ≡ forms env items = made_forms ∙ (ap (λ f. forms_of env f ss) fs_are ∙ ap (forms_of env (functions items)) c.requires.signatures) in (
      sym (ap (λ f. bodies_fault env f ss) fs_are ∙ ap (bodies_fault env (functions items)) c.requires.signatures) ∙ fine,
      subst (λ b. NoRecursionFault (terms_in b)) are (subst (λ xs. NoRecursionFault (terms_in (map form xs))) c.deref-3.ensures.value c.in_ok-groups.ensures.recursion),
    )

pub returns-clause-funs : goal.returns-clause-funs
returns-clause-funs c =
    let env = c.args.environment.now in
    let items = map item c.args.items.now in
    let ss = map signature_of c.args.signatures.now in
    let fns = map (λ f. function f.now) c.in_ok-functions.functions.items in
    let bs = map form c.in_ok-forms.forms.items in
    let gs = c.in_ok-groups.groups.items in
    let fs_are : fns ≡ functions items = search rules in
    let made_forms : bs ≡ forms_of env fns ss = search rules in
    let are : bs ≡ forms env items = made_forms ∙ (ap (λ f. forms_of env f ss) fs_are ∙ ap (forms_of env (functions items)) c.requires.signatures) in
    let g = subst (λ xs. AreGroups (terms_in (map form xs)) gs) c.deref-3.ensures.value c.in_ok-groups.ensures.groups in
    let n = groups_count bs gs g in
    let m = length-map c.in_ok-forms.forms.items form in
    let k : length c.in_ok-forms.forms.items ≡ length c.args.signatures.now = search rules in
    let l = length-map c.args.signatures.now signature_of in
    let same : length env.funs ≡ length c.args.signatures.now = sym (ap length c.requires.signatures) ∙ l in
    let out : map fun_of c.in_ok-checked_functions.field-0.items ≡ made ss bs gs = search rules in
    let all : map fun_of c.in_ok-checked_functions.field-0.items ≡ made env.funs (forms env items) gs = out ∙ (ap (λ s. made s bs gs) c.requires.signatures ∙ ap (λ b. made env.funs b gs) are) in
    subst (AreFuns env items) (sym all) (are_funs env items gs (c.requires.count ∙ sym same) (n ∙ m ∙ k ∙ sym same) (subst (λ b. AreGroups (terms_in b) gs) are g))
