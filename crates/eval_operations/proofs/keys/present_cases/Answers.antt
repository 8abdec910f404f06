use Rattle.std.proofs.Common.{◌≡◌, ◌<◌, None, Option, map, option_map, length, get_or, ap, sym, subst, ◌∙◌, rules}
use Rattle.std.specs.Prelude.{is_some}
use Rattle.abstract_value.specs.Constructors.{spread}
use Rattle.abstract_value.specs.View.{cases_of}
use Rattle.abstract_value.proofs.Places.{at_itself, still_some}
use Rattle.abstract_semantics.specs.Keys.{cases_from}
use Rattle.eval_operations.proofs.Picking.{case_next}
use Rattle.eval_operations.proofs.keys.present_cases.Goals as goal

pub loop-i-preserved : goal.loop-i-preserved
loop-i-preserved g c =
    let xs = spread c.args.cases.now in
    let i = c.loop-i.i in
    let below : i < length xs = subst (λ n. i < n) c.len-i-end.ensures c.loop-i-test.true in
    let x = get_or xs i None in
    let there : c.is_some.result ≡ is_some x = (search rules) ∙ sym (still_some (λ f. f.now) c.fields.result) ∙ ap is_some c.fields.ensures in
    case_next xs (cases_from 0 (cases_of c.args.cases.now)) c.loop-i.present.items c.push_if.new.picked.items i x c.is_some.result below (at_itself xs i None below) there c.in_ok-push_if.ensures c.loop-i.invariant
