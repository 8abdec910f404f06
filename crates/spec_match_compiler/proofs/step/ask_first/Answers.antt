use Rattle.std.proofs.Common.{◌≡◌, [], ◌∷◌, ◌++◌, map, rules, sym, ap, ◌∙◌}
use Rattle.std.proofs.lemmas.List.{map-append}
use Rattle.spec_match_compiler.specs.Decisions.{on_word}
use Rattle.spec_match_compiler.specs.Steps.{asked_first}
use Rattle.spec_match_compiler.specs.Views.{tree, question}
use Rattle.spec_match_compiler.proofs.Nodes.{asked_last}
use Rattle.spec_match_compiler.proofs.step.ask_first.Goals as goal

pub loop-question-preserved : goal.loop-question-preserved
loop-question-preserved c =
    let q = c.in-Some.question in
    let rest = map question c.pop.new.self.items in
    let split : c.loop-question.questions.items ≡ c.pop.new.self.items ++ q ∷ [] = search rules in
    let before : asked_first (map question c.loop-question.questions.items) (tree c.loop-question.decision) ≡ asked_first rest (on_word q.at.steps.items q.value (tree q.yes) (tree c.loop-question.decision)) =
    rw (split, map-append) (asked_last rest (question q) (tree c.loop-question.decision)) in
    ap (asked_first rest) c.in_ok-decision.ensures ∙ sym before ∙ c.loop-question.invariant
