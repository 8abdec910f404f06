use Rattle.std.proofs.Common.{◌≡◌, ◌∙◌, ◌++◌, map, option_map, sym, ap, rules}
use Rattle.base_trait.specs.Uses.{uses_of}
use Rattle.abstract_value.specs.View.{abs}
use Rattle.support_tail_fixpoint.specs.Answer.{gives}
use Rattle.abstract_semantics.specs.Answers.{behind}
use Rattle.eval_memo.proofs.steps.recall_call.Goals as goal

pub returns-in_ok-copy_some-in-Some-clause-value : goal.returns-in_ok-copy_some-in-Some-clause-value
returns-in_ok-copy_some-in-Some-clause-value g c =
    let outcome = c.in-Some.outcome.now in
    let l = uses_of c.args.log.now in
    let v = c.in_ok-copy_some-in-Some.field-0 in
    let told : (g.K.Known.calls c.args.setting.now.ctx.now) c.args.fun (map abs c.args.args.now) ≡ gives (option_map abs outcome.value) (uses_of outcome.reads) = c.in-Some.ensures.there (g.K.Known.calls c.args.setting.now.ctx.now) c.requires.memo in
    let appended : uses_of c.append.new.log ≡ l ++ uses_of outcome.reads = search rules in
    let copied : option_map abs v ≡ option_map abs outcome.value = search rules in
    ap (λ r. behind l r) told ∙ ap (λ o. gives o (l ++ uses_of outcome.reads)) (sym copied) ∙ ap (λ m. gives (option_map abs v) m) (sym appended)
