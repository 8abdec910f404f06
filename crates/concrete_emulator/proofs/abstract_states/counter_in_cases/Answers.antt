use Rattle.std.proofs.Common.{◌≡◌, None, Some, get_or, option_map, ap, sym, ◌∙◌}
use Rattle.abstract_value.specs.Constructors.{spread}
use Rattle.concrete_emulator.proofs.Counters.{first_is, none_is}
use Rattle.concrete_emulator.proofs.abstract_states.counter_in_cases.Goals as goal

pub returns-in-Some : goal.returns-in-Some
returns-in-Some c =
    let cs = spread c.args.constructors.now in
    let found : get_or cs 0 None ≡ Some c.in-Some.fields.now = sym c.fields.ensures ∙ ap (λ o. option_map (λ f. f.now) o) c.in-Some.is in
    c.counter_in_fields.ensures ∙ first_is cs c.in-Some.fields.now found

pub returns-in-None : goal.returns-in-None
returns-in-None c =
    let cs = spread c.args.constructors.now in
    let none : get_or cs 0 None ≡ None = sym c.fields.ensures ∙ ap (λ o. option_map (λ f. f.now) o) c.in-None.is in
    none_is cs none
