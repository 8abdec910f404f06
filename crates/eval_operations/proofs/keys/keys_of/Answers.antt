use Rattle.std.proofs.Common.{◌≡◌, Some, map, ap, sym, ◌∙◌, rules}
use Rattle.abstract_map_laws.specs.Maps.{keys}
use Rattle.abstract_map.specs.View as view
use Rattle.abstract_value.specs.View.{abs, cases_of}
use Rattle.abstract_value.proofs.Views.{abs_Data}
use Rattle.abstract_semantics.specs.Keys.{case_keys, cases_from, keys_of}
use Rattle.eval_operations.proofs.keys.keys_of.Goals as goal

pub returns-in_ok-case_keys-in-Data : goal.returns-in_ok-case_keys-in-Data
returns-in_ok-case_keys-in-Data g c =
    let is = ap abs c.in-Data.is ∙ abs_Data c.in-Data._ty c.in-Data.cases in
    let here : view.keys_of c.in_ok-case_keys-in-Data.field-0 ≡ case_keys (cases_from 0 (cases_of c.in-Data.cases)) (keys c.args.m.now) = search rules in
    ap (λ k. Some k) here ∙ sym (ap (λ x. keys_of g.B.Base.algebra c.args.ctx.now c.args.m.now x) is)
