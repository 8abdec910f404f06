use Rattle.std.proofs.Common.{◌≡◌}
use Rattle.abstract_value_laws.specs.Calls.{widen_parts}
use Rattle.domain_laws.specs.Values.{FieldsFit}
use Rattle.abstract_map.proofs.Whole.{if_ok}
use Rattle.domain_cells.specs.Views.{context_of, states_of}
use Rattle.domain_product_states.specs.Views.{seen}
use Rattle.domain_product_states.proofs.Made.{first_fits, second_fits, widened_fits, widened_is}
use Rattle.domain_product_states.proofs.domain.PairedStatesDomain.widen.Goals as goal

pub widened_both-requires : goal.widened_both-requires
widened_both-requires g c =
    let A = g.A.Base.algebra in
    let B = g.B.Base.algebra in
    let m = g.A.Base.CAP in
    let n = g.B.Base.CAP in
    let k = context_of c.args.self.now.states in
    let t = states_of c.args.self.now.states in
    let x = seen c.args.old.now in
    let y = seen c.args.new.now in
    let shared = c.shared.result.now in
    let same = c.shared.ensures in
    record {
      first = (first_fits A B m n k t shared same x.0 c.requires.old.0, first_fits A B m n k t shared same y.0 c.requires.new.0);
      second = (second_fits A B m n k t shared same x.1 c.requires.old.1, second_fits A B m n k t shared same y.1 c.requires.new.1);
    }

pub returns-clause-value : goal.returns-clause-value
returns-clause-value g c =
    let A = g.A.Base.algebra in
    let B = g.B.Base.algebra in
    let m = g.A.Base.CAP in
    let n = g.B.Base.CAP in
    let k = context_of c.args.self.now.states in
    let t = states_of c.args.self.now.states in
    let x = seen c.args.old.now in
    let y = seen c.args.new.now in
    let shared = c.shared.result.now in
    if_ok (λ r. seen r ≡ (widen_parts A shared.0 x.0 y.0, widen_parts B shared.1 x.1 y.1)) (λ r. ((seen r).0 ≡ widen_parts A k.0 x.0 y.0) × ((seen r).1 ≡ widen_parts B k.1 x.1 y.1)) c.widened_both.result
    (λ r h. widened_is A B m n k t shared c.shared.ensures x y (seen r) h) c.widened_both.ensures

pub returns-clause-fits : goal.returns-clause-fits
returns-clause-fits g c =
    let A = g.A.Base.algebra in
    let B = g.B.Base.algebra in
    let m = g.A.Base.CAP in
    let n = g.B.Base.CAP in
    let k = context_of c.args.self.now.states in
    let t = states_of c.args.self.now.states in
    let x = seen c.args.old.now in
    let y = seen c.args.new.now in
    let shared = c.shared.result.now in
    if_ok (λ r. seen r ≡ (widen_parts A shared.0 x.0 y.0, widen_parts B shared.1 x.1 y.1)) (λ r. FieldsFit A k.0 m t.fields (seen r).0 × FieldsFit B k.1 n t.fields (seen r).1) c.widened_both.result
    (λ r h. widened_fits A B m n k t shared c.shared.ensures x y (seen r) g.met.A.Base.laws g.met.B.Base.laws c.requires.old c.requires.new h) c.widened_both.ensures
