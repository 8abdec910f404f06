use Rattle.std.proofs.Common.{Some, ap, ◌∙◌, rules}
use Rattle.abstract_map.specs.View as view
use Rattle.abstract_value.specs.View.{abs}
use Rattle.abstract_value.proofs.Views.{abs_Map}
use Rattle.abstract_semantics.specs.Keys as keys
use Rattle.eval_operations.proofs.Putting.{put_is}
use Rattle.eval_operations.proofs.maps.put_word.Goals as goal

pub returns-in_ok-put_at-in-Some-clause-value : goal.returns-in_ok-put_at-in-Some-clause-value
returns-in_ok-put_at-in-Some-clause-value g c =
    ap (λ z. Some z) (abs_Map _ _ c.args.map c.in_ok-put_at-in-Some.field-0)
    ∙ put_is g.B.Base.algebra c.args.ctx.now g.B.Base.CAP c.args.at c.args.map c.args.m.now c.args.word.now (view.keys_of c.in-Some.keys) (keys.keys_of g.B.Base.algebra c.args.ctx.now c.args.m.now (abs c.args.key.now)) c.in_ok-put_at-in-Some.field-0 (search rules) (search rules) (search rules)
