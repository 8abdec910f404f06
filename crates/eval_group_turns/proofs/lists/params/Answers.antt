use Rattle.std.proofs.Common.{◌≡◌, ◌<◌, ◌≤◌, Some, None, length, sym, ap, subst, refl, ◌∙◌, rules}
use Rattle.std.specs.Prelude.{option_map, slice_get}
use Rattle.std.proofs.lemmas.Option.{slice_get-map, slice_get_past, slice_get_read}
use Rattle.spec_ir.specs.Views.{fun_of}
use Rattle.abstract_semantics.specs.Terms.{params_in}
use Rattle.eval_group_turns.proofs.lists.params.Goals as goal

pub returns-in-Some : goal.returns-in-Some
returns-in-Some c =
    let funs = c.deref.result.now in
    let fun = c.args.fun in
    let f = c.in-Some.f.now in
    let within : fun < length funs = search rules in
    let found : slice_get c.args.spec.now.funs.items fun ≡ Some f = subst (λ fs. slice_get fs fun ≡ Some f) c.deref.ensures.value (slice_get_read funs (length funs) fun f refl within c.in-Some.ensures.lookup.1) in
    c.deref-in-Some.ensures.value ∙ sym (ap params_in (slice_get-map fun_of c.args.spec.now.funs.items fun ∙ ap (option_map fun_of) found))

pub returns-in-None : goal.returns-in-None
returns-in-None c =
    let funs = c.deref.result.now in
    let fun = c.args.fun in
    let past : length funs ≤ fun = search rules in
    let none : slice_get c.args.spec.now.funs.items fun ≡ None = subst (λ fs. slice_get fs fun ≡ None) c.deref.ensures.value (slice_get_past funs fun past) in
    sym (ap params_in (slice_get-map fun_of c.args.spec.now.funs.items fun ∙ ap (option_map fun_of) none))
