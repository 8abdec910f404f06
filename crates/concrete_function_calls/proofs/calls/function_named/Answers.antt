use Rattle.std.proofs.Common.{ℕ, Some, ap, sym, ◌∙◌}
use Rattle.std.specs.Prelude.{bytes_eq, position}
use Rattle.spec_ir.specs.Views.{fun_of}
use Rattle.spec_ir.specs.declared.spec.Fun.{Fun}
use Rattle.concrete_function_calls.proofs.Steps.{position-map}
use Rattle.concrete_function_calls.proofs.calls.function_named.Goals as goal

pub returns-in-Ok-clause-value : goal.returns-in-Ok-clause-value
returns-in-Ok-clause-value c =
    let name = c.args.name.now in
    ap (λ (n : ℕ). Some n) c.in-Ok.ensures.1 ∙ c.in-Some.ensures ∙ ap (position (λ (f : Fun). bytes_eq f.name name)) c.deref.ensures.value
    ∙ sym (position-map (λ f. bytes_eq f.name name) fun_of c.args.spec.now.funs.items)

pub returns-in-None-clause-value : goal.returns-in-None-clause-value
returns-in-None-clause-value c =
    let name = c.args.name.now in
    c.in-None.ensures ∙ ap (position (λ (f : Fun). bytes_eq f.name name)) c.deref.ensures.value ∙ sym (position-map (λ f. bytes_eq f.name name) fun_of c.args.spec.now.funs.items)
