use Rattle.std.proofs.Common.{◌≡◌, ◌∙◌, ◌<◌, length, map, option_map, refl, sym, ap, subst, rules}
use Rattle.std.proofs.Math.ListN.{get_or}
use Rattle.std.proofs.lemmas.Option.{slice_get-map, slice_get_read}
use Rattle.std.proofs.lemmas.List.{length-map}
use Rattle.spec_ir.specs.Views.{fun_of, specification}
use Rattle.semantics_values.specs.Types.{environment_of}
use Rattle.abstract_value_laws.specs.Abs.{parts}
use Rattle.abstract_value_laws.specs.Types.{have_types}
use Rattle.abstract_value.specs.View.{abs}
use Rattle.abstract_semantics.specs.Terms.{params_in, params_of}
use Rattle.eval_memo.proofs.steps.are_arguments.Goals as goal

pub returns : goal.returns
returns g c =
    let spec = specification c.args.spec.now in
    let funs = c.args.spec.now.funs.items in
    let f = c.index-f.result.now in
    let within : c.args.fun < length funs = subst (λ n. c.args.fun < n) (length-map funs fun_of) c.requires.there in
    let is : f ≡ get_or funs c.args.fun f = search rules in
    let params : params_of spec c.args.fun ≡ f.params.items = ap params_in (slice_get-map fun_of funs c.args.fun ∙ ap (option_map fun_of) (slice_get_read funs (length funs) c.args.fun f refl within is)) in
    let here : c.have_types.result ≡ have_types (environment_of spec) (parts (map abs c.args.args.now)) f.params.items = search rules in
    here ∙ ap (λ ts. have_types (environment_of spec) (parts (map abs c.args.args.now)) ts) (sym params)
