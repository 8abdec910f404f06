use Rattle.std.proofs.Common.{◌∙◌, None, Some, map, option_map, ap, sym}
use Rattle.base_trait.specs.Uses.{seen}
use Rattle.fixpoint_theory.specs.Outcome.{moves}
use Rattle.fixpoint_theory.specs.Verdicts.{open_at}
use Rattle.fixpoint_theory.specs.Views.{listing, listings}
use Rattle.fixpoint_theory.specs.Outcome.{sends}
use Rattle.fixpoint_theory.specs.Verdicts.{fault_of}
use Rattle.fixpoint_theory.specs.Views.{arriving}
use Rattle.fixpoint_table_check.proofs.Sameness.{fault_same, if_fault, open_fault, use_fault}
use Rattle.fixpoint_table_check.proofs.fault.fault_of.Goals as goal

pub returns-then-not-are_same_uses-clause-value : goal.returns-then-not-are_same_uses-clause-value
returns-then-not-are_same_uses-clause-value g c =
    let A = g.A.Analyser.analysis c.args.analyser.now in
    let laws = g.met.A.Analyser.laws c.args.analyser.now c.requires.ready in
    let t = listings g.A.Analyser.view c.args.table.now in
    let b = listing g.A.Analyser.view c.args.block.now in
    let told = A.transfer c.args.at (g.A.Analyser.view c.args.block.now.elem) in
    let targets = c.in-List.targets.items in
    let us = map seen c.in-Made.made.uses.items in
    let same = (rw c.in-List.is at (rw c.in-Made.is at c.in_ok-word.ensures.value)) in
    let fits = (rw c.in-List.is at (rw c.in-Made.is at c.in_ok-word.ensures.fits)) in
    let fits_told = laws.transfer_fits c.args.at (g.A.Analyser.view c.args.block.now.elem) c.requires.code c.requires.fits in
    let lists = rw c.deref-2.ensures.value at (c.in_ok-lists_targets.ensures.0 c.if-not-branch.false) in
    let post = option_map g.A.Analyser.view c.in-Made.made.post in
    let uses = rw c.deref-4.ensures.value at (rw c.deref-3.ensures.value at c.are_same_uses.ensures) in
    sym (use_fault A laws t c.requires.table c.args.at b targets post us lists (λ eq. let test = uses.1 eq in let no = c.if-not-are_same_uses.true in cc))
    ∙ fault_same A laws t c.requires.table c.args.at b (moves targets post us) told fits fits_told same

pub returns-in_default-clause-value : goal.returns-in_default-clause-value
returns-in_default-clause-value g c =
    let A = g.A.Analyser.analysis c.args.analyser.now in
    let laws = g.met.A.Analyser.laws c.args.analyser.now c.requires.ready in
    let t = listings g.A.Analyser.view c.args.table.now in
    let b = listing g.A.Analyser.view c.args.block.now in
    let told = A.transfer c.args.at (g.A.Analyser.view c.args.block.now.elem) in
    let targets = c.in-List.targets.items in
    let us = map seen c.in-Made.made.uses.items in
    let same = (rw c.in_default.is at (rw c.in-List.is at (rw c.in-Made.is at c.in_ok-word.ensures.value))) in
    let fits = (rw c.in_default.is at (rw c.in-List.is at (rw c.in-Made.is at c.in_ok-word.ensures.fits))) in
    let fits_told = laws.transfer_fits c.args.at (g.A.Analyser.view c.args.block.now.elem) c.requires.code c.requires.fits in
    let lists = rw c.deref-2.ensures.value at (c.in_ok-lists_targets.ensures.0 c.if-not-branch.false) in
    let uses = rw c.deref-4.ensures.value at (rw c.deref-3.ensures.value at (c.are_same_uses.ensures.0 c.if-not-are_same_uses.false)) in
    sym (open_fault A laws t c.requires.table c.args.at b targets None us lists uses)
    ∙ fault_same A laws t c.requires.table c.args.at b (moves targets None us) told fits fits_told same

pub returns-in-Some-first_open-clause-value : goal.returns-in-Some-first_open-clause-value
returns-in-Some-first_open-clause-value g c =
    let A = g.A.Analyser.analysis c.args.analyser.now in
    let laws = g.met.A.Analyser.laws c.args.analyser.now c.requires.ready in
    let t = listings g.A.Analyser.view c.args.table.now in
    let b = listing g.A.Analyser.view c.args.block.now in
    let told = A.transfer c.args.at (g.A.Analyser.view c.args.block.now.elem) in
    let targets = c.in-List.targets.items in
    let us = map seen c.in-Made.made.uses.items in
    let same = (rw c.in-Some.is at (rw c.in-List.is at (rw c.in-Made.is at c.in_ok-word.ensures.value))) in
    let fits = (rw c.in-Some.is at (rw c.in-List.is at (rw c.in-Made.is at c.in_ok-word.ensures.fits))) in
    let fits_told = laws.transfer_fits c.args.at (g.A.Analyser.view c.args.block.now.elem) c.requires.code c.requires.fits in
    let lists = rw c.deref-2.ensures.value at (c.in_ok-lists_targets.ensures.0 c.if-not-branch.false) in
    let post = Some (g.A.Analyser.view c.in-Some.post) in
    let uses = rw c.deref-4.ensures.value at (rw c.deref-3.ensures.value at (c.are_same_uses.ensures.0 c.if-not-are_same_uses.false)) in
    let first = rw c.deref-5.ensures.value at c.in-Some-first_open.ensures in
    ap (open_at A t c.args.at) first
    ∙ sym (open_fault A laws t c.requires.table c.args.at b targets post us lists uses)
    ∙ fault_same A laws t c.requires.table c.args.at b (moves targets post us) told fits fits_told same

pub returns-clause-value : goal.returns-clause-value
returns-clause-value g c =
    let A = g.A.Analyser.analysis c.args.analyser.now in
    let laws = g.met.A.Analyser.laws c.args.analyser.now c.requires.ready in
    let t = listings g.A.Analyser.view c.args.table.now in
    let b = listing g.A.Analyser.view c.args.block.now in
    let told = A.transfer c.args.at (g.A.Analyser.view c.args.block.now.elem) in
    let targets = c.in-List.targets.items in
    let us = map seen c.in-Made.made.uses.items in
    let same = (rw c.in-Some.is at (rw c.in-List.is at (rw c.in-Made.is at c.in_ok-word.ensures.value))) in
    let fits = (rw c.in-Some.is at (rw c.in-List.is at (rw c.in-Made.is at c.in_ok-word.ensures.fits))) in
    let fits_told = laws.transfer_fits c.args.at (g.A.Analyser.view c.args.block.now.elem) c.requires.code c.requires.fits in
    let lists = rw c.deref-2.ensures.value at (c.in_ok-lists_targets.ensures.0 c.if-not-branch.false) in
    let post = Some (g.A.Analyser.view c.in-Some.post) in
    let uses = rw c.deref-4.ensures.value at (rw c.deref-3.ensures.value at (c.are_same_uses.ensures.0 c.if-not-are_same_uses.false)) in
    let first = rw c.deref-5.ensures.value at (rw c.in-None.is at c.first_open.ensures) in
    ap (open_at A t c.args.at) first
    ∙ sym (open_fault A laws t c.requires.table c.args.at b targets post us lists uses)
    ∙ fault_same A laws t c.requires.table c.args.at b (moves targets post us) told fits fits_told same

pub returns-in-Sent-clause-value : goal.returns-in-Sent-clause-value
returns-in-Sent-clause-value g c =
    let A = g.A.Analyser.analysis c.args.analyser.now in
    let laws = g.met.A.Analyser.laws c.args.analyser.now c.requires.ready in
    let view = g.A.Analyser.view in
    let t = listings view c.args.table.now in
    let b = listing view c.args.block.now in
    let told = A.transfer c.args.at (view c.args.block.now.elem) in
    let given = sends (map (arriving view) c.in-Sent.arrivals.items) (map seen c.in-Sent.uses.items) in
    let same = rw c.in-Sent.is at c.in_ok-word.ensures.value in
    let fits = rw c.in-Sent.is at c.in_ok-word.ensures.fits in
    let fits_told = laws.transfer_fits c.args.at (view c.args.block.now.elem) c.requires.code c.requires.fits in
    if_fault c.fault_of_cases.result (fault_of A t c.args.at b given) (fault_of A t c.args.at b told)
    (rw c.deref-in-Sent.ensures.value at (rw c.deref.ensures.value at c.fault_of_cases.ensures))
    (fault_same A laws t c.requires.table c.args.at b given told fits fits_told same)
