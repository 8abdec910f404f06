use Rattle.std.proofs.Common.{◌≡◌, ◌+◌, ◌++◌, ◌∷◌, [], vec_len, arith, sym, subst, rules}
use Rattle.fixpoint_theory.specs.WorklistState.{IsLegal, worklist_state}
use Rattle.fixpoint_theory.proofs.Potential.{legal_traces_are_short}
use Rattle.fixpoint_worklist.specs.Likeness.{AllLike}
use Rattle.fixpoint_worklist.specs.Views.{worklist_state_in}
use Rattle.fixpoint_worklist.proofs.Traces.{full_like, push_legal, push_like, room_for_one, stops_too_many, stops_undecodable}
use Rattle.fixpoint_worklist.proofs.run.run.Goals as goal

pub returns-in_err-step-clause-most : goal.returns-in_err-step-clause-most
returns-in_err-step-clause-most g c =
    let A = g.A.Analyser.analysis c.args.analyser.now in
    let least = c.in-Some.ensures.least in
    let room = room_for_one A (g.met.A.Analyser.laws c.args.analyser.now c.requires.ready) c.loop-at.trace.items (worklist_state_in g.A.Analyser.view c.loop-at.work) c.in-Some.at least.0 c.loop-at.invariant.legal c.loop-at.invariant.like least.1 in
    let more = c.step.ensures.most in
    let so_far = c.loop-at.invariant.steps in
    omega (arith, room, more, so_far)

pub returns-in_err-push-in-Moved-clause-most : goal.returns-in_err-push-in-Moved-clause-most
returns-in_err-push-in-Moved-clause-most g c =
    let A = g.A.Analyser.analysis c.args.analyser.now in
    let least = c.in-Some.ensures.least in
    let room = room_for_one A (g.met.A.Analyser.laws c.args.analyser.now c.requires.ready) c.loop-at.trace.items (worklist_state_in g.A.Analyser.view c.loop-at.work) c.in-Some.at least.0 c.loop-at.invariant.legal c.loop-at.invariant.like least.1 in
    let more = c.step.ensures.most in
    let so_far = c.loop-at.invariant.steps in
    omega (arith, room, more, so_far)

pub returns-in-Undecodable-clause-most : goal.returns-in-Undecodable-clause-most
returns-in-Undecodable-clause-most g c =
    let A = g.A.Analyser.analysis c.args.analyser.now in
    let least = c.in-Some.ensures.least in
    let room = room_for_one A (g.met.A.Analyser.laws c.args.analyser.now c.requires.ready) c.loop-at.trace.items (worklist_state_in g.A.Analyser.view c.loop-at.work) c.in-Some.at least.0 c.loop-at.invariant.legal c.loop-at.invariant.like least.1 in
    let more = c.step.ensures.most in
    let so_far = c.loop-at.invariant.steps in
    omega (arith, room, more, so_far)

pub returns-in-TooMany-clause-most : goal.returns-in-TooMany-clause-most
returns-in-TooMany-clause-most g c =
    let A = g.A.Analyser.analysis c.args.analyser.now in
    let least = c.in-Some.ensures.least in
    let room = room_for_one A (g.met.A.Analyser.laws c.args.analyser.now c.requires.ready) c.loop-at.trace.items (worklist_state_in g.A.Analyser.view c.loop-at.work) c.in-Some.at least.0 c.loop-at.invariant.legal c.loop-at.invariant.like least.1 in
    let more = c.step.ensures.most in
    let so_far = c.loop-at.invariant.steps in
    omega (arith, room, more, so_far)

pub returns-in-Undecodable-clause-value : goal.returns-in-Undecodable-clause-value
returns-in-Undecodable-clause-value g c =
    let A = g.A.Analyser.analysis c.args.analyser.now in
    let least = c.in-Some.ensures.least in
    let value = rw c.in-Undecodable.is at c.in_ok-step.ensures.value in
    (c.loop-at.invariant.legal, stops_undecodable A (g.met.A.Analyser.laws c.args.analyser.now c.requires.ready) c.loop-at.trace.items (worklist_state_in g.A.Analyser.view c.loop-at.work) c.in-Some.at c.in-Undecodable.word least.0 c.loop-at.invariant.fine c.loop-at.invariant.like least.1 value)

pub returns-in-TooMany-clause-value : goal.returns-in-TooMany-clause-value
returns-in-TooMany-clause-value g c =
    let A = g.A.Analyser.analysis c.args.analyser.now in
    let least = c.in-Some.ensures.least in
    let value = rw c.in-TooMany.is at c.in_ok-step.ensures.value in
    let stopped = stops_too_many A (g.met.A.Analyser.laws c.args.analyser.now c.requires.ready) c.loop-at.trace.items (worklist_state_in g.A.Analyser.view c.loop-at.work) c.in-Some.at c.in-TooMany.shown least.0 c.loop-at.invariant.fine c.loop-at.invariant.like least.1 value in
    (stopped.0, (c.loop-at.invariant.legal, stopped.1))

pub returns-clause-value : goal.returns-clause-value
returns-clause-value g c =
    let A = g.A.Analyser.analysis c.args.analyser.now in
    record {
      legal = c.loop-at.invariant.legal;
      complete = full_like A (g.met.A.Analyser.laws c.args.analyser.now c.requires.ready) (worklist_state_in g.A.Analyser.view c.loop-at.work) (worklist_state A c.loop-at.trace.items) c.loop-at.invariant.like (rw c.in_default.is at c.first.ensures.none);
      like = c.loop-at.invariant.like;
    }

pub returns-clause-most : goal.returns-clause-most
returns-clause-most g c =
    let A = g.A.Analyser.analysis c.args.analyser.now in
    let short = legal_traces_are_short A (g.met.A.Analyser.laws c.args.analyser.now c.requires.ready) c.loop-at.trace.items c.loop-at.invariant.legal in
    let so_far = c.loop-at.invariant.steps in
    omega (arith, short, so_far)

pub loop-at-smaller : goal.loop-at-smaller
loop-at-smaller g c =
    let A = g.A.Analyser.analysis c.args.analyser.now in
    let least = c.in-Some.ensures.least in
    let room = room_for_one A (g.met.A.Analyser.laws c.args.analyser.now c.requires.ready) c.loop-at.trace.items (worklist_state_in g.A.Analyser.view c.loop-at.work) c.in-Some.at least.0 c.loop-at.invariant.legal c.loop-at.invariant.like least.1 in
    let longer : vec_len c.push.new.self ≡ vec_len c.loop-at.trace + 1 = search rules in
    omega (arith, room, longer)

pub loop-at-preserved : goal.loop-at-preserved
loop-at-preserved g c =
    let A = g.A.Analyser.analysis c.args.analyser.now in
    let laws = g.met.A.Analyser.laws c.args.analyser.now c.requires.ready in
    let least = c.in-Some.ensures.least in
    let value = rw c.in-Moved.is at c.in_ok-step.ensures.value in
    let pushed : c.push.new.self.items ≡ c.loop-at.trace.items ++ c.in-Some.at ∷ [] = search rules in
    let longer : vec_len c.push.new.self ≡ vec_len c.loop-at.trace + 1 = search rules in
    record {
      legal = subst (IsLegal A) (sym pushed) (push_legal A laws c.loop-at.trace.items (worklist_state_in g.A.Analyser.view c.loop-at.work) c.in-Some.at least.0 c.loop-at.invariant.fine c.loop-at.invariant.legal c.loop-at.invariant.like least.1 value.0);
      like = subst (λ trace. AllLike A (worklist_state_in g.A.Analyser.view c.step.new.work) (worklist_state A trace)) (sym pushed) (push_like A laws c.loop-at.trace.items (worklist_state_in g.A.Analyser.view c.loop-at.work) (worklist_state_in g.A.Analyser.view c.step.new.work) c.in-Some.at c.loop-at.invariant.fine c.loop-at.invariant.like value.1);
      fine = c.in_ok-step.ensures.fine;
      settled = c.in_ok-step.ensures.settled;
      reached = c.in_ok-step.ensures.reached;
      steps = let so_far = c.loop-at.invariant.steps in let one = (rw c.in-Moved.is at c.in_ok-step.ensures.one) tt in omega (arith, so_far, one, longer);
    }

pub returns-clause-complete : goal.returns-clause-complete
returns-clause-complete g c = rw c.in_default.is at c.first.ensures.none
