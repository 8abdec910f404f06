use Rattle.std.proofs.Common.{◌≡◌, ◌∙◌, [], ◌∷◌, ◌++◌, rules, ap}
use Rattle.eval_code_lowering.specs.declared.decisions.DecisionTest.{DecisionTest}
use Rattle.eval_code_lowering.specs.Asked.{asked_first}
use Rattle.eval_code_lowering.proofs.Asking.{asked_last}
use Rattle.eval_code_lowering.proofs.decisions.with_asked.Goals as goal

pub returns : goal.returns
returns c t =
    let q : DecisionTest = record { at = c.args.at; number = c.args.number; yes = c.args.yes } in
    let pushed : c.push.new.self.items ≡ c.args.asked.items ++ q ∷ [] = search rules in
    ap (λ l. asked_first l t) pushed ∙ asked_last c.args.asked.items q t
