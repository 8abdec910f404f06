use Rattle.std.proofs.Common.{◌≡◌, Some, sym}
use Rattle.abstract_value.specs.View.{abs}
use Rattle.base_trait.specs.Uses.{uses_of}
use Rattle.domain_laws.specs.States.{state_type}
use Rattle.analysis_transfer_laws.specs.Transfer.{counter_of}
use Rattle.analysis_transfer.specs.Analysis.{problem}
use Rattle.analysis_transfer.proofs.Counters.{counter_fits}
use Rattle.analysis_transfer.proofs.Outcomes.{counted, instead, uncounted}
use Rattle.analysis_transfer.proofs.analysis.ImageAnalysis.outcome_of_state.Goals as goal

pub outcome_behind-requires : goal.outcome_behind-requires
outcome_behind-requires g c =
    let B = g.D.B.Base.algebra in
    let M = g.D.Domain.meaning c.args.self.now.domain.now in
    let found : counter_of (abs c.args.state.now) ≡ Some (c.in-Some._w, c.in-Some.counter.now) = sym c.in-Some.ensures in
    let is = c.requires.state (c.in-Some._w, c.in-Some.counter.now) found in
    record {
      ready = c.requires.ready;
      context = c.requires.context;
      fits = c.requires.fits;
      state = is;
      counter = (counter_fits B M.context g.D.B.Base.CAP (state_type (problem c.args.self.now).spec) (abs c.args.state.now) (c.in-Some._w, c.in-Some.counter.now) is found).1;
    }

pub returns-in-Some : goal.returns-in-Some
returns-in-Some g c =
    let B = g.D.B.Base.algebra in
    let it = c.args.self.now in
    let D = g.D.Domain.elements it.domain.now in
    let M = g.D.Domain.meaning it.domain.now in
    let y = abs c.args.state.now in
    let found : counter_of y ≡ Some (c.in-Some._w, c.in-Some.counter.now) = sym c.in-Some.ensures in
    let is = c.requires.state (c.in-Some._w, c.in-Some.counter.now) found in
    let bits = (counter_fits B M.context g.D.B.Base.CAP (state_type (problem it).spec) y (c.in-Some._w, c.in-Some.counter.now) is found).0 in
    instead D g.D.Domain.view c.outcome_behind.result _ _ (counted B M (problem it) (g.D.Domain.view c.args.before.now) y (uses_of c.args.log.now) c.in-Some._w c.in-Some.counter.now found bits) c.outcome_behind.ensures

pub returns-in-None : goal.returns-in-None
returns-in-None g c =
    let it = c.args.self.now in
    let M = g.D.Domain.meaning it.domain.now in
    instead (g.D.Domain.elements it.domain.now) g.D.Domain.view c.outcome_without_state.result _ _
    (uncounted g.D.B.Base.algebra M (problem it) (g.D.Domain.view c.args.before.now) (abs c.args.state.now) (uses_of c.args.log.now) (sym c.in-None.ensures)) c.outcome_without_state.ensures
