use Rattle.std.proofs.Common.{◌≡◌, Some, option_map, slice_get, sym, ap, ◌∙◌}
use Rattle.std.proofs.lemmas.Option.{slice_get-get_or, slice_get-map, slice_get_past}
use Rattle.abstract_value_laws.specs.Fits.{Fits}
use Rattle.abstract_value.specs.View.{abs}
use Rattle.eval_operations.proofs.Fitting.{all_at}
use Rattle.eval_nodes.proofs.operands.at_slot.Goals as goal

pub returns-in-Some-clause-fits : goal.returns-in-Some-clause-fits
returns-in-Some-clause-fits g c =
    let xs = c.args.frame.now in
    let v = c.in-Some.v.now in
    let found : slice_get xs c.args.s ≡ Some v = slice_get-get_or xs c.args.s v c.in-Some.ensures.lookup.3.0 ∙ ap (λ y. Some y) (sym c.in-Some.ensures.lookup.1) in
    all_at (λ v. Fits g.B.Base.algebra c.args._ctx.now g.B.Base.CAP (abs v)) xs c.args.s v c.requires.frame found

pub returns-in-None-clause-value : goal.returns-in-None-clause-value
returns-in-None-clause-value g c =
    let xs = c.args.frame.now in
    sym (slice_get-map (λ v. abs v) xs c.args.s ∙ ap (option_map (λ v. abs v)) (slice_get_past xs c.args.s c.in-None.ensures.lookup.3))
