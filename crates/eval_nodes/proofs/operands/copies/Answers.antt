use Rattle.std.proofs.Common.{◌≡◌, ◌+◌, ◌++◌, [], ◌∷◌, Some, map, drop, get_or, slice_get, rules, ap, ◌∙◌, sym, subst}
use Rattle.std.specs.Prelude.{All, option_map}
use Rattle.std.proofs.lemmas.List.{map_push as seen_push}
use Rattle.std.proofs.lemmas.List.Elements.{All-push}
use Rattle.semantics_laws.specs.Places.{all_of}
use Rattle.abstract_value_laws.specs.Fits.{Fits}
use Rattle.abstract_value.specs.View.{abs}
use Rattle.eval_nodes.proofs.Copying.{all_next}
use Rattle.eval_nodes.proofs.operands.copies.Goals as goal

pub loop-i-preserved : goal.loop-i-preserved
loop-i-preserved g c =
    let fits = Fits g.B.Base.algebra c.args.ctx.now g.B.Base.CAP in
    let at = slice_get (map abs c.args.frame.now) in
    let out = c.loop-i.out.items in
    let found : at (get_or c.args.slots.now c.loop-i.i 0) ≡ Some (abs c.in-Some.v.now) = search rules in
    let same : abs c.in_ok-copy.field-0 ≡ abs c.in-Some.v.now = c.in_ok-copy.ensures in
    let pushed : c.put.new.list.items ≡ out ++ c.in_ok-copy.field-0 ∷ [] = c.in_ok-put.ensures.items in
    let seen = ap (map abs) pushed ∙ seen_push (λ v. abs v) out c.in_ok-copy.field-0 ∙ ap (λ z. map abs out ++ z ∷ []) same in
    record {
      whole = ap (λ o. option_map (λ ys. o ++ ys) (all_of at (drop (c.loop-i.i + 1) c.args.slots.now))) seen ∙ all_next at c.args.slots.now c.loop-i.i 0 (abs c.in-Some.v.now) (map abs out) _ c.loop-i-test.true found c.loop-i.invariant.whole;
      fits = subst (All (λ v. fits (abs v))) (sym pushed) (All-push (λ v. fits (abs v)) out c.in_ok-copy.field-0 c.loop-i.invariant.fits (subst fits (sym same) c.in-Some.ensures.fits));
    }
