use Rattle.std.proofs.Common.{◌≡◌, Some, None, [], ◌∷◌, ◌++◌, replicate, ap, ◌∙◌, rules}
use Rattle.eval_group_turns.specs.Views.{each_abs}
use Rattle.eval_group_turns.proofs.Functions.{only_seen}
use Rattle.eval_group_turns.proofs.groups.only.Goals as goal

pub returns : goal.returns
returns g c =
    let pushed : c.put-2.new.list.items ≡ c.loop-function.out.items ++ Some c.args.args ∷ [] = c.in_ok-put-2.ensures.items in
    let ends : c.loop-function._function ≡ c.args.fun = search rules in
    ap each_abs (pushed ∙ ap (λ l. l ++ Some c.args.args ∷ []) c.loop-function.invariant ∙ ap (λ n. replicate n None ++ Some c.args.args ∷ []) ends) ∙ only_seen c.args.fun c.args.args
