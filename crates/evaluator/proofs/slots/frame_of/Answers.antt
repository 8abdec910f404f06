use Rattle.std.proofs.Common.{◌≡◌, ◌∙◌, ◌+◌, ◌<◌, ◌++◌, ◌∷◌, [], length, map, drop, sym, ap, rules}
use Rattle.abstract_value.specs.View.{abs}
use Rattle.evaluator.proofs.slots.frame_of.Goals as goal
use Rattle.spec_match_compiler.proofs.Loops.{drop_here, pushed}

pub loop-arg-preserved : goal.loop-arg-preserved
loop-arg-preserved g c =
    let xs = c.args.args.now in
    let i = c.loop-arg.arg-index in
    let x = c.arg-item.result in
    let z = c.in_ok-copy.field-0 in
    let done = c.loop-arg.frame.items in
    let within : i < length xs = search rules in
    let here : drop i xs ≡ x ∷ drop (i + 1) xs = drop_here xs i x c.arg-item.is within in
    let out : c.put.new.list.items ≡ done ++ z ∷ [] = search rules in
    let same : abs z ≡ abs x = search rules in
    ap (λ o. map abs o ++ map abs (drop (i + 1) xs)) out ∙ pushed abs done z (map abs (drop (i + 1) xs)) ∙ ap (λ v. map abs done ++ v ∷ map abs (drop (i + 1) xs)) same ∙ sym (ap (λ d. map abs done ++ map abs d) here) ∙ c.loop-arg.invariant
