use Rattle.std.proofs.Common.{◌≡◌, ◌∙◌, [], map, ap}
use Rattle.spec_match_compiler.specs.Views.{pat}
use Rattle.spec_typing.proofs.Types.{no_empty_match}
use Rattle.spec_term_steps.proofs.matches.finish_match.Goals as goal

pub unreachable-requires : goal.unreachable-requires
unreachable-requires c =
    let none : map pat c.deref.result.now ≡ [] = ap (map pat) c.deref.ensures.value ∙ c.requires.none c.in_default.is in
    no_empty_match c.args.environment.now c.args.span c.args.x.ty (rw none at c.in-Ok.ensures.answer)
