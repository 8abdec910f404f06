use Rattle.domain_cells.specs.Views.{context_of, states_of}
use Rattle.domain_product_states.specs.Views.{seen}
use Rattle.domain_product_states.proofs.Made.{absorbed_is, both_leaves, first_fits, second_fits}
use Rattle.domain_product_states.proofs.domain.PairedStatesDomain.absorbs.Goals as goal

pub absorbed_both-requires : goal.absorbed_both-requires
absorbed_both-requires g c =
    let A = g.A.Base.algebra in
    let B = g.B.Base.algebra in
    let m = g.A.Base.CAP in
    let n = g.B.Base.CAP in
    let k = context_of c.args.self.now.states in
    let t = states_of c.args.self.now.states in
    let x = seen c.args.old.now in
    let y = seen c.args.new.now in
    let shared = c.shared.result.now in
    let same = c.shared.ensures in
    record {
      leaves = both_leaves A B m n k t x c.requires.old;
      old = (first_fits A B m n k t shared same x.0 c.requires.old.0, second_fits A B m n k t shared same x.1 c.requires.old.1);
      new = (first_fits A B m n k t shared same y.0 c.requires.new.0, second_fits A B m n k t shared same y.1 c.requires.new.1);
    }

pub returns : goal.returns
returns g c = record {
  value = absorbed_is g.A.Base.algebra g.B.Base.algebra g.A.Base.CAP g.B.Base.CAP (context_of c.args.self.now.states) (states_of c.args.self.now.states) c.shared.result.now c.shared.ensures (seen c.args.old.now) (seen c.args.new.now) c.absorbed_both.result c.absorbed_both.ensures;
}
