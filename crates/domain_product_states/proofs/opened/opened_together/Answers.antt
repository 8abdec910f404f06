use Rattle.std.proofs.Common.{◌≡◌, map, max}
use Rattle.base_product.specs.Meaning.{paired}
use Rattle.abstract_value_laws.specs.Abs.{parts}
use Rattle.domain_laws.specs.Calls.{made_state}
use Rattle.abstract_map.proofs.Whole.{if_ok}
use Rattle.abstract_value.specs.View.{abs}
use Rattle.domain_cells.specs.Views.{context_of, states_of}
use Rattle.domain_product_states.specs.Parts.{both_parts, pair_of_cells}
use Rattle.domain_product_states.proofs.Made.{opened_is}
use Rattle.domain_product_states.proofs.Values.{fields_both}
use Rattle.domain_product_states.proofs.opened.opened_together.Goals as goal

pub open-requires-clause-fits : goal.open-requires-clause-fits
open-requires-clause-fits g c =
    fields_both g.A.Base.algebra g.B.Base.algebra (context_of c.args.states.now) g.A.Base.CAP g.B.Base.CAP (states_of c.args.states.now).fields (parts (map abs c.args.values.now.items)) c.requires.first c.requires.second

pub returns : goal.returns
returns g c =
    let A = g.A.Base.algebra in
    let B = g.B.Base.algebra in
    let m = g.A.Base.CAP in
    let n = g.B.Base.CAP in
    let k = context_of c.args.states.now in
    let t = states_of c.args.states.now in
    let z = parts (map abs c.args.values.now.items) in
    if_ok (λ r. abs r ≡ made_state t.number ((paired A B).words.constant k 32 c.args.pc) z) (λ r. abs r ≡ (pair_of_cells A B k m n (max m n) t).opened c.args.pc (both_parts z)) c.open.result
    (λ r h. opened_is A B m n k t c.args.pc z (abs r) c.requires.first c.requires.second h) c.open.ensures.value
