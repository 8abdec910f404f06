use Rattle.std.proofs.Common.{◌≡◌, ◌∙◌, ◌<◌, length, option_map, refl, sym, ap, subst, rules}
use Rattle.std.proofs.lemmas.List.{length-map}
use Rattle.std.proofs.Math.ListN.{get_or}
use Rattle.std.proofs.lemmas.Option.{slice_get-map, slice_get_read}
use Rattle.spec_ir.specs.Views.{specification}
use Rattle.eval_code.specs.Lowered.{lowered_fun}
use Rattle.eval_code.specs.Views.{fun_code}
use Rattle.eval_memo.proofs.steps.body_of.Goals as goal

pub returns : goal.returns
returns g c =
    let bodies = c.args.setting.now.cir.now.funs.items in
    let spec = specification c.args.setting.now.spec.now in
    let t = c.index.result.now in
    let many : length bodies ≡ length spec.funs = sym (length-map bodies fun_code) ∙ ap (λ ts. length ts) c.requires.setting.code_is ∙ length-map spec.funs (lowered_fun spec) in
    let within : c.args.fun < length bodies = subst (λ n. c.args.fun < n) (sym many) c.requires.there in
    let is : t ≡ get_or bodies c.args.fun t = search rules in
    ap (option_map (λ f. f.body)) (slice_get-map fun_code bodies c.args.fun ∙ ap (option_map fun_code) (slice_get_read bodies (length bodies) c.args.fun t refl within is))
