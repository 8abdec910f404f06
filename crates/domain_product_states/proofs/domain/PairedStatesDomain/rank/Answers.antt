use Rattle.std.proofs.Common.{◌-◌, ◌^◌}
use Rattle.domain_cells.specs.Views.{context_of, states_of}
use Rattle.domain_product_states.specs.Views.{seen}
use Rattle.domain_product_states.proofs.Made.{both_leaves, first_fits, ranked_is, second_fits}
use Rattle.domain_product_states.proofs.domain.PairedStatesDomain.rank.Goals as goal

pub ranked_both-requires : goal.ranked_both-requires
ranked_both-requires g c =
    let A = g.A.Base.algebra in
    let B = g.B.Base.algebra in
    let m = g.A.Base.CAP in
    let n = g.B.Base.CAP in
    let k = context_of c.args.self.now.states in
    let t = states_of c.args.self.now.states in
    let x = seen c.args.x.now in
    let shared = c.shared.result.now in
    let same = c.shared.ensures in
    record {
      leaves = (both_leaves A B m n k t x c.requires.fits).0;
      first = first_fits A B m n k t shared same x.0 c.requires.fits.0;
      second = second_fits A B m n k t shared same x.1 c.requires.fits.1;
    }

pub returns : goal.returns
returns g c = record {
  value = ranked_is g.A.Base.algebra g.B.Base.algebra g.A.Base.CAP g.B.Base.CAP (context_of c.args.self.now.states) (states_of c.args.self.now.states) c.shared.result.now c.shared.ensures (seen c.args.x.now) c.ranked_both.result (2 ^ 64 - 1) c.ranked_both.ensures;
}
