use Rattle.std.proofs.Common.{◌≡◌, ◌+◌, ◌∷◌, ◌++◌, [], Some, None, drop, map, ap, sym, subst, ◌∙◌, rules}
use Rattle.std.specs.Prelude.{All, option_map}
use Rattle.std.proofs.lemmas.List.Elements.{All-push}
use Rattle.std.proofs.lemmas.List.{map_push as seen_push}
use Rattle.spec_match_compiler.specs.Views.{bound}
use Rattle.abstract_value_laws.specs.Fits.{Fits}
use Rattle.abstract_value.specs.View.{abs}
use Rattle.abstract_semantics.specs.Choices as choices
use Rattle.eval_operations.proofs.Steps.{found_fits, named_next, named_nothing}
use Rattle.eval_operations.proofs.places.abs_named.Goals as goal

pub returns-in-None-clause-value : goal.returns-in-None-clause-value
returns-in-None-clause-value g c =
    let bind = c.bind-item.result in
    let none : choices.abs_at (bound bind).1 (abs c.args.x.now) ≡ None = search rules in
    sym (named_nothing bound (abs c.args.x.now) c.args.binds.now c.loop-bind.bind-index bind c.loop-bind-test.true c.bind-item.is (map abs c.loop-bind.named.items) _ none c.loop-bind.invariant.whole)

pub loop-bind-preserved : goal.loop-bind-preserved
loop-bind-preserved g c =
    let B = g.B.Base.algebra in
    let fits = Fits B c.args.ctx.now g.B.Base.CAP in
    let x = abs c.args.x.now in
    let bind = c.bind-item.result in
    let out = c.loop-bind.named.items in
    let found : choices.abs_at (bound bind).1 x ≡ Some (abs c.in-Some.v.now) = search rules in
    let same : abs c.in_ok-copy-in-Some.field-0 ≡ abs c.in-Some.v.now = c.in_ok-copy-in-Some.ensures in
    let pushed : c.put.new.list.items ≡ out ++ c.in_ok-copy-in-Some.field-0 ∷ [] = c.in_ok-put-in-Some.ensures.items in
    let seen = ap (map abs) pushed ∙ seen_push (λ v. abs v) out c.in_ok-copy-in-Some.field-0 ∙ ap (λ z. map abs out ++ z ∷ []) same in
    record {
      whole = named_next bound x c.args.binds.now c.loop-bind.bind-index bind c.loop-bind-test.true c.bind-item.is (abs c.in-Some.v.now) (map abs out) _ found c.loop-bind.invariant.whole
          ∙ ap (λ o. option_map (λ ys. o ++ ys) (choices.abs_named x (map bound (drop (c.loop-bind.bind-index + 1) c.args.binds.now)))) (sym seen);
      fits = subst (All (λ v. fits (abs v))) (sym pushed) (All-push (λ v. fits (abs v)) out c.in_ok-copy-in-Some.field-0 c.loop-bind.invariant.fits
          (subst fits (sym same) (found_fits B c.args.ctx.now g.B.Base.CAP (bound bind).1 x (abs c.in-Some.v.now) c.requires.fits found)));
    }
