use Rattle.std.proofs.Common.{◌-◌, ◌+◌, ◌++◌, ◌∙◌, ap, map, take, drop, length, arith}
use Rattle.std.proofs.lemmas.List.{length-drop, take_all}
use Rattle.abstract_value.specs.View.{abs}
use Rattle.domain_cuts.proofs.Placing.{around_seen}
use Rattle.domain_cuts.proofs.elements.with_value.Goals as goal

pub returns : goal.returns
returns g c =
    let xs = c.args.xs.now in let n = c.args.n in let second = c.put.new.list.items in
    let behind = length-drop (n + 1) xs in
    around_seen (λ v. abs v) xs n c.args.x c.push_copies.new.out.items second c.push_copies-2.new.out.items
    (c.in_ok-push_copies.ensures ∙ ap (λ l. map abs l ++ map abs (take n xs)) c.new-out.ensures.items) c.in_ok-put.ensures.items
    (c.in_ok-push_copies-2.ensures ∙ ap (λ l. map abs second ++ map abs l) (take_all (length xs - (n + 1)) (drop (n + 1) xs) (omega (arith, behind))))
