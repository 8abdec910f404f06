use Rattle.std.proofs.Common.{map, option_map}
use Rattle.base_trait.specs.Uses.{seen}
use Rattle.fixpoint_theory.specs.Outcome.{moves, sends}
use Rattle.fixpoint_worklist.specs.Views.{count_in, worklist_state_in}
use Rattle.fixpoint_theory.specs.Views.{arriving}
use Rattle.fixpoint_worklist.proofs.Arrivals.{many_from, stepped_from}
use Rattle.fixpoint_worklist.proofs.step.step.Goals as goal

pub returns-in-Many-clause-value : goal.returns-in-Many-clause-value
returns-in-Many-clause-value g c =
    many_from (g.A.Analyser.analysis c.args.analyser.now) (worklist_state_in g.A.Analyser.view c.args.work.now) c.args.at (count_in c.args.work.now.changes c.args.at) (g.A.Analyser.view c.in-Some.block.now.elem) c.in-Many.shown
    (map seen c.in-Made.made.uses.items) c.in-Some.ensures.some (rw c.in-Many.is at (rw c.in-Made.is at c.in_ok-word.ensures.value))

pub returns-clause-value : goal.returns-clause-value
returns-clause-value g c =
    stepped_from (g.A.Analyser.analysis c.args.analyser.now) (g.met.A.Analyser.laws c.args.analyser.now c.requires.ready) (worklist_state_in g.A.Analyser.view c.args.work.now) (worklist_state_in g.A.Analyser.view c.send.new.work)
    c.args.at (count_in c.args.work.now.changes c.args.at) (g.A.Analyser.view c.in-Some.block.now.elem) (moves c.in-List.targets.items (option_map g.A.Analyser.view c.in-Made.made.post) (map seen c.in-Made.made.uses.items))
    c.in-Some.ensures.some c.requires.fine (rw c.in-List.is at (rw c.in-Made.is at c.in_ok-word.ensures.fits)) (rw c.in-List.is at (rw c.in-Made.is at c.in_ok-word.ensures.value)) tt (rw c.deref-4.ensures.value at c.in_ok-send.ensures.value)

pub returns-in-Sent-clause-value : goal.returns-in-Sent-clause-value
returns-in-Sent-clause-value g c =
    stepped_from (g.A.Analyser.analysis c.args.analyser.now) (g.met.A.Analyser.laws c.args.analyser.now c.requires.ready) (worklist_state_in g.A.Analyser.view c.args.work.now) (worklist_state_in g.A.Analyser.view c.send_cases.new.work)
    c.args.at (count_in c.args.work.now.changes c.args.at) (g.A.Analyser.view c.in-Some.block.now.elem) (sends (map (arriving g.A.Analyser.view) c.in-Sent.arrivals.items) (map seen c.in-Sent.uses.items))
    c.in-Some.ensures.some c.requires.fine (rw c.in-Sent.is at c.in_ok-word.ensures.fits) (rw c.in-Sent.is at c.in_ok-word.ensures.value) tt (rw c.deref.ensures.value at c.in_ok-send_cases-in-Sent.ensures.value)
