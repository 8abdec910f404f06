use Rattle.std.proofs.Common.{◌≡◌, Some, rules}
use Rattle.abstract_value.specs.View.{abs}
use Rattle.abstract_semantics.specs.Choices as choices
use Rattle.eval_operations.proofs.Steps.{found_fits}
use Rattle.eval_operations.proofs.places.word_there.Goals as goal

pub word_of-requires : goal.word_of-requires
word_of-requires g c =
    let found : choices.abs_at c.args.place.now.steps.items (abs c.args.x.now) ≡ Some (abs c.in-Some.v.now) = search rules in
    record { fits = found_fits g.B.Base.algebra c.args.ctx.now g.B.Base.CAP c.args.place.now.steps.items (abs c.args.x.now) (abs c.in-Some.v.now) c.requires.fits found }
