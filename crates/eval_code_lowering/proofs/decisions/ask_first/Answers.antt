use Rattle.std.proofs.Common.{◌≡◌, ◌∙◌, [], ◌∷◌, ◌++◌, rules, sym, ap}
use Rattle.spec_match_compiler.specs.Views.{tree}
use Rattle.eval_code_lowering.specs.Asked.{asked_first, asked_of}
use Rattle.eval_code_lowering.proofs.Asking.{asked_last}
use Rattle.eval_code_lowering.proofs.decisions.ask_first.Goals as goal

pub loop-question-preserved : goal.loop-question-preserved
loop-question-preserved c =
    let q = c.in-Some.question in
    let rest = c.pop.new.self.items in
    let split : c.loop-question.asked.items ≡ rest ++ q ∷ [] = search rules in
    let before : asked_first c.loop-question.asked.items (tree c.loop-question.decision) ≡ asked_first rest (asked_of q (tree c.loop-question.decision)) = rw split (asked_last rest q (tree c.loop-question.decision)) in
    ap (asked_first rest) c.in_ok-decision.ensures ∙ sym before ∙ c.loop-question.invariant
