use Rattle.std.proofs.Common.{◌≡◌, ◌∙◌, map, ap, refl}
use Rattle.base_trait.specs.Uses.{seen}
use Rattle.fixpoint_theory.specs.Code.{inside, outside}
use Rattle.fixpoint_theory.specs.Outcome.{addresses}
use Rattle.fixpoint_theory.specs.Views.{arriving}
use Rattle.fixpoint_worklist.specs.Settled.{told_listing}
use Rattle.fixpoint_worklist.specs.Views.{worklist_state_in}
use Rattle.fixpoint_worklist.proofs.Arrivals.{sent_tells}
use Rattle.fixpoint_worklist.proofs.step.send_cases.Goals as goal

pub send_arrivals-requires-clause-told : goal.send_arrivals-requires-clause-told
send_arrivals-requires-clause-told g c =
    let A = g.A.Analyser.analysis c.args.analyser.now in
    let laws = g.met.A.Analyser.laws c.args.analyser.now c.requires.ready in
    let view = g.A.Analyser.view in
    let xs = map (arriving view) c.args.arrivals.now in
    let next : c.in_ok-next.next.items ≡ inside A.code (addresses xs) = c.in_ok-next.ensures ∙ ap (inside A.code) (c.deref.ensures.value ∙ c.in_ok-addresses.ensures) in
    let exits : c.in_ok-exits.exits.items ≡ outside A.code (addresses xs) = c.in_ok-exits.ensures ∙ ap (outside A.code) (c.deref-2.ensures.value ∙ c.in_ok-addresses.ensures) in
    sent_tells A laws c.args.at (λ e. told_listing e (record { next = c.in_ok-next.next; exits = c.in_ok-exits.exits; uses = c.args.uses })) xs (map seen c.args.uses.items)
    (worklist_state_in view c.args.work.now c.args.at) (λ e. (next, exits, refl)) c.requires.given
