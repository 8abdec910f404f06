use Rattle.std.proofs.Common.{◌≡◌, Some, None, sym, subst, ap, ◌∙◌, rules}
use Rattle.std.specs.Prelude.{option_map, slice_get}
use Rattle.std.proofs.lemmas.Option.{slice_get-map}
use Rattle.abstract_value_laws.specs.Fits.{Fits}
use Rattle.abstract_value.specs.View.{abs}
use Rattle.eval_operations.proofs.Fitting.{all_at}
use Rattle.eval_operations.proofs.constructors.looked_up.Goals as goal

pub returns-in_ok-copy-in-Some-clause-value : goal.returns-in_ok-copy-in-Some-clause-value
returns-in_ok-copy-in-Some-clause-value g c =
    let found : slice_get c.args.env.now c.args.n ≡ Some c.in-Some.v.now = search rules in
    let same : abs c.in_ok-copy-in-Some.field-0 ≡ abs c.in-Some.v.now = search rules in
    ap (λ z. Some z) same ∙ sym (slice_get-map (λ v. abs v) c.args.env.now c.args.n ∙ ap (λ o. option_map (λ v. abs v) o) found)

pub returns-in_ok-copy-in-Some-clause-fits : goal.returns-in_ok-copy-in-Some-clause-fits
returns-in_ok-copy-in-Some-clause-fits g c =
    let found : slice_get c.args.env.now c.args.n ≡ Some c.in-Some.v.now = search rules in
    let same : abs c.in_ok-copy-in-Some.field-0 ≡ abs c.in-Some.v.now = search rules in
    let fits = Fits g.B.Base.algebra c.args.ctx.now g.B.Base.CAP in
    subst fits (sym same) (all_at (λ v. fits (abs v)) c.args.env.now c.args.n c.in-Some.v.now c.requires.fits found)

pub returns-in-None-clause-value : goal.returns-in-None-clause-value
returns-in-None-clause-value g c =
    let none : slice_get c.args.env.now c.args.n ≡ None = search rules in
    sym (slice_get-map (λ v. abs v) c.args.env.now c.args.n ∙ ap (λ o. option_map (λ v. abs v) o) none)
