use Rattle.std.proofs.Common.{◌≡◌, ◌∙◌, map, ap, subst, sym}
use Rattle.base_trait.specs.Uses.{seen}
use Rattle.fixpoint_theory.specs.Outcome.{addresses}
use Rattle.fixpoint_theory.specs.Verdicts.{ListsTargets, open_at}
use Rattle.fixpoint_theory.specs.Views.{arriving, listing, listings}
use Rattle.fixpoint_table_check.proofs.Sameness.{sent_open_fault, sent_use_fault}
use Rattle.fixpoint_table_check.proofs.fault.fault_of_cases.Goals as goal

pub returns-then-not-are_same_uses : goal.returns-then-not-are_same_uses
returns-then-not-are_same_uses g c =
    let A = g.A.Analyser.analysis c.args.analyser.now in
    let laws = g.met.A.Analyser.laws c.args.analyser.now c.requires.ready in
    let view = g.A.Analyser.view in
    let t = listings view c.args.table.now in
    let b = listing view c.args.block.now in
    let xs = map (arriving view) c.args.arrivals.now in
    let lists = subst (ListsTargets A t b) (c.deref.ensures.value ∙ c.in_ok-targets.ensures) (c.in_ok-lists_targets.ensures.0 c.if-not-branch.false) in
    let uses = rw c.deref-2.ensures.value at c.are_same_uses.ensures in
    sym (sent_use_fault A laws t c.requires.table c.args.at b xs (map seen c.args.uses.now) lists (λ eq. let test = uses.1 eq in let no = c.if-not-are_same_uses.true in cc))

pub returns-in-Some : goal.returns-in-Some
returns-in-Some g c =
    let A = g.A.Analyser.analysis c.args.analyser.now in
    let laws = g.met.A.Analyser.laws c.args.analyser.now c.requires.ready in
    let view = g.A.Analyser.view in
    let t = listings view c.args.table.now in
    let b = listing view c.args.block.now in
    let xs = map (arriving view) c.args.arrivals.now in
    let lists = subst (ListsTargets A t b) (c.deref.ensures.value ∙ c.in_ok-targets.ensures) (c.in_ok-lists_targets.ensures.0 c.if-not-branch.false) in
    let uses = rw c.deref-2.ensures.value at (c.are_same_uses.ensures.0 c.if-not-are_same_uses.false) in
    ap (open_at A t c.args.at) c.in-Some.ensures ∙ sym (sent_open_fault A laws t c.requires.table c.args.at b xs (map seen c.args.uses.now) lists uses)

pub returns : goal.returns
returns g c =
    let A = g.A.Analyser.analysis c.args.analyser.now in
    let laws = g.met.A.Analyser.laws c.args.analyser.now c.requires.ready in
    let view = g.A.Analyser.view in
    let t = listings view c.args.table.now in
    let b = listing view c.args.block.now in
    let xs = map (arriving view) c.args.arrivals.now in
    let lists = subst (ListsTargets A t b) (c.deref.ensures.value ∙ c.in_ok-targets.ensures) (c.in_ok-lists_targets.ensures.0 c.if-not-branch.false) in
    let uses = rw c.deref-2.ensures.value at (c.are_same_uses.ensures.0 c.if-not-are_same_uses.false) in
    ap (open_at A t c.args.at) (rw c.in-None.is at c.first_open_sent.ensures) ∙ sym (sent_open_fault A laws t c.requires.table c.args.at b xs (map seen c.args.uses.now) lists uses)
