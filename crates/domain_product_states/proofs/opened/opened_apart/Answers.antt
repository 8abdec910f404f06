use Rattle.std.proofs.Common.{◌≡◌, map, max, ap, subst, sym, ◌∙◌}
use Rattle.spec_ir.specs.Views.{specification}
use Rattle.base_product.specs.Meaning.{paired}
use Rattle.abstract_value_laws.specs.Abs.{parts}
use Rattle.domain_laws.specs.Values.{FieldsFit}
use Rattle.domain_laws.specs.Calls.{made_state}
use Rattle.abstract_map.proofs.Whole.{if_ok}
use Rattle.abstract_value.specs.View.{abs}
use Rattle.domain_product_laws.specs.Calls.{zip_parts}
use Rattle.domain_cells.specs.Views.{context_of, states_of}
use Rattle.domain_product_states.specs.Parts.{pair_of_cells}
use Rattle.domain_product_states.proofs.Made.{first_fits, second_fits, sides_fit, sides_meet}
use Rattle.domain_product_states.proofs.opened.opened_apart.Goals as goal

pub zip_values-requires : goal.zip_values-requires
zip_values-requires g c =
    let A = g.A.Base.algebra in
    let B = g.B.Base.algebra in
    let m = g.A.Base.CAP in
    let n = g.B.Base.CAP in
    let k = context_of c.args.states.now in
    let t = states_of c.args.states.now in
    let x = parts (map abs c.args.xs.now) in
    let y = parts (map abs c.args.ys.now) in
    record {
      left = first_fits A B m n k t c.shared.result.now c.shared.ensures x c.requires.first;
      right = second_fits A B m n k t c.shared.result.now c.shared.ensures y c.requires.second;
      widths = sides_meet A B m n g.met.A.Base.capacity g.met.B.Base.capacity k t (specification c.args.spec.now) c.requires.made g.met.A.Base.laws g.met.B.Base.laws x y c.requires.first c.requires.second;
    }

pub open-opened-requires-clause-fits : goal.open-opened-requires-clause-fits
open-opened-requires-clause-fits g c =
    let A = g.A.Base.algebra in
    let B = g.B.Base.algebra in
    let m = g.A.Base.CAP in
    let n = g.B.Base.CAP in
    let k = context_of c.args.states.now in
    let t = states_of c.args.states.now in
    let x = parts (map abs c.args.xs.now) in
    let y = parts (map abs c.args.ys.now) in
    let is = c.in_ok-values.ensures.value ∙ ap (λ z. zip_parts A B z (max m n) x y) c.shared.ensures in
    subst (FieldsFit (paired A B) k (max m n) t.fields) (sym is) (sides_fit A B m n g.met.A.Base.capacity g.met.B.Base.capacity k t (specification c.args.spec.now) c.requires.made g.met.A.Base.laws g.met.B.Base.laws x y c.requires.first c.requires.second)

pub returns : goal.returns
returns g c =
    let A = g.A.Base.algebra in
    let B = g.B.Base.algebra in
    let m = g.A.Base.CAP in
    let n = g.B.Base.CAP in
    let k = context_of c.args.states.now in
    let t = states_of c.args.states.now in
    let x = parts (map abs c.args.xs.now) in
    let y = parts (map abs c.args.ys.now) in
    let z = parts (map abs c.in_ok-values.values.items) in
    let is = c.in_ok-values.ensures.value ∙ ap (λ z. zip_parts A B z (max m n) x y) c.shared.ensures in
    if_ok (λ r. abs r ≡ made_state t.number ((paired A B).words.constant k 32 c.args.pc) z) (λ r. abs r ≡ (pair_of_cells A B k m n (max m n) t).opened c.args.pc (x, y)) c.open-opened.result
    (λ r h. h ∙ ap (λ v. made_state t.number ((paired A B).words.constant k 32 c.args.pc) v) is) c.open-opened.ensures.value
