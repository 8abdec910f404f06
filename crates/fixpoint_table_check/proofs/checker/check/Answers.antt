use Rattle.std.proofs.Common.{◌≡◌, ◌∙◌, ℕ, ◌∷◌, [], ◌++◌, map, Some, nat_cmp, option_map, ap, sym, subst, refl, arith, length-append, append-nil}
use Rattle.std.specs.BTreeMap.{get}
use Rattle.std.specs.Map.Iter.{deref_pair}
use Rattle.std.proofs.lemmas.List.{map-append}
use Rattle.std.proofs.lemmas.List.Elements.{All-push}
use Rattle.std.proofs.lemmas.Map.Iter.{rest_so_far}
use Rattle.fixpoint_theory.specs.Verdicts.{IsFirstFault, Stands}
use Rattle.fixpoint_theory.specs.Views.{listing, listings}
use Rattle.fixpoint_theory.specs.declared.table.Block.{Block}
use Rattle.fixpoint_theory.proofs.Soundness.{closed_tables_are_sound}
use Rattle.fixpoint_theory.proofs.Verdicts.{accepted_are_closed, closed_told, fault_none, fault_some, means_from, verdicts_mean}
use Rattle.fixpoint_table_check.specs.Standing.{AllStand}
use Rattle.fixpoint_table_check.proofs.Entries.{at_seam, closed_from, earlier_stands}
use Rattle.fixpoint_table_check.proofs.checker.check.Goals as goal

pub fault_of-requires-clause-code : goal.fault_of-requires-clause-code
fault_of-requires-clause-code g c =
    let split : c.args.table.now.blocks.entries ≡ map deref_pair c.loop-at.yielded ++ (c.in-Some.at.now, c.in-Some.block.now) ∷ c.next.new.self =
    sym (c.into_iter-at-iterator.ensures.into_iter_gives ∙ c.iter-at-items.ensures.rest) ∙ rest_so_far deref_pair c.loop-at.yielded c.into_iter-at-iterator.result c.loop-at.at-iterator c.loop-at.yielded_by
    ∙ ap (λ es. map deref_pair c.loop-at.yielded ++ es) c.in-Some.ensures.steps in
    let found = at_seam (λ (e : ℕ × Block _). get nat_cmp c.args.table.now.blocks e.0 ≡ Some e.1) c.args.table.now.blocks.entries (map deref_pair c.loop-at.yielded) c.next.new.self (c.in-Some.at.now, c.in-Some.block.now) split c.iter-at-items.ensures.found in
    let listed = ap (option_map (listing g.A.Analyser.view)) found in
    (c.requires.table c.in-Some.at.now (listing g.A.Analyser.view c.in-Some.block.now) listed).0

pub fault_of-requires-clause-fits : goal.fault_of-requires-clause-fits
fault_of-requires-clause-fits g c =
    let split : c.args.table.now.blocks.entries ≡ map deref_pair c.loop-at.yielded ++ (c.in-Some.at.now, c.in-Some.block.now) ∷ c.next.new.self =
    sym (c.into_iter-at-iterator.ensures.into_iter_gives ∙ c.iter-at-items.ensures.rest) ∙ rest_so_far deref_pair c.loop-at.yielded c.into_iter-at-iterator.result c.loop-at.at-iterator c.loop-at.yielded_by
    ∙ ap (λ es. map deref_pair c.loop-at.yielded ++ es) c.in-Some.ensures.steps in
    let found = at_seam (λ (e : ℕ × Block _). get nat_cmp c.args.table.now.blocks e.0 ≡ Some e.1) c.args.table.now.blocks.entries (map deref_pair c.loop-at.yielded) c.next.new.self (c.in-Some.at.now, c.in-Some.block.now) split c.iter-at-items.ensures.found in
    let listed = ap (option_map (listing g.A.Analyser.view)) found in
    (c.requires.table c.in-Some.at.now (listing g.A.Analyser.view c.in-Some.block.now) listed).1

pub returns-in-Some-2-clause-value : goal.returns-in-Some-2-clause-value
returns-in-Some-2-clause-value g c =
    let A = g.A.Analyser.analysis c.args.analyser.now in
    let laws = g.met.A.Analyser.laws c.args.analyser.now c.requires.ready in
    let t = listings g.A.Analyser.view c.args.table.now in
    let split : c.args.table.now.blocks.entries ≡ map deref_pair c.loop-at.yielded ++ (c.in-Some.at.now, c.in-Some.block.now) ∷ c.next.new.self =
    sym (c.into_iter-at-iterator.ensures.into_iter_gives ∙ c.iter-at-items.ensures.rest) ∙ rest_so_far deref_pair c.loop-at.yielded c.into_iter-at-iterator.result c.loop-at.at-iterator c.loop-at.yielded_by
    ∙ ap (λ es. map deref_pair c.loop-at.yielded ++ es) c.in-Some.ensures.steps in
    let found = at_seam (λ (e : ℕ × Block _). get nat_cmp c.args.table.now.blocks e.0 ≡ Some e.1) c.args.table.now.blocks.entries (map deref_pair c.loop-at.yielded) c.next.new.self (c.in-Some.at.now, c.in-Some.block.now) split c.iter-at-items.ensures.found in
    let listed = ap (option_map (listing g.A.Analyser.view)) found in
    let entry = closed_told A t A.entry A.start (sym (c.in_ok-is_entry_open.ensures) ∙ c.if-branch.false) in
    let here = c.requires.table c.in-Some.at.now (listing g.A.Analyser.view c.in-Some.block.now) listed in
    let b = listing g.A.Analyser.view c.in-Some.block.now in
    let fault = rw c.in-Some-2.is at c.in_ok-verdict.ensures.value in
    let first : IsFirstFault A t c.in-Some-2.verdict = record {
      at = c.in-Some.at.now;
      block = b;
      listed = listed;
      fault = fault_some A t c.in-Some.at.now b (A.transfer c.in-Some.at.now b.elem) c.in-Some-2.verdict (laws.transfer_targets c.in-Some.at.now b.elem here.0 here.1) (sym fault);
      earlier = earlier_stands g.A.Analyser.view A c.args.table.now (map deref_pair c.loop-at.yielded) c.next.new.self c.in-Some.at.now c.in-Some.block.now split c.iter-at-items.ensures.ordered c.loop-at.invariant.stand;
      entry = entry;
    } in
    let means = (verdicts_mean A laws t c.requires.table c.in-Some-2.verdict).1 (means_from A t c.in-Some-2.verdict first) in
    sym means

pub returns-in-Some-2-clause-accepted : goal.returns-in-Some-2-clause-accepted
returns-in-Some-2-clause-accepted g c =
    let A = g.A.Analyser.analysis c.args.analyser.now in
    let laws = g.met.A.Analyser.laws c.args.analyser.now c.requires.ready in
    let t = listings g.A.Analyser.view c.args.table.now in
    let split : c.args.table.now.blocks.entries ≡ map deref_pair c.loop-at.yielded ++ (c.in-Some.at.now, c.in-Some.block.now) ∷ c.next.new.self =
    sym (c.into_iter-at-iterator.ensures.into_iter_gives ∙ c.iter-at-items.ensures.rest) ∙ rest_so_far deref_pair c.loop-at.yielded c.into_iter-at-iterator.result c.loop-at.at-iterator c.loop-at.yielded_by
    ∙ ap (λ es. map deref_pair c.loop-at.yielded ++ es) c.in-Some.ensures.steps in
    let found = at_seam (λ (e : ℕ × Block _). get nat_cmp c.args.table.now.blocks e.0 ≡ Some e.1) c.args.table.now.blocks.entries (map deref_pair c.loop-at.yielded) c.next.new.self (c.in-Some.at.now, c.in-Some.block.now) split c.iter-at-items.ensures.found in
    let listed = ap (option_map (listing g.A.Analyser.view)) found in
    let entry = closed_told A t A.entry A.start (sym (c.in_ok-is_entry_open.ensures) ∙ c.if-branch.false) in
    let here = c.requires.table c.in-Some.at.now (listing g.A.Analyser.view c.in-Some.block.now) listed in
    let b = listing g.A.Analyser.view c.in-Some.block.now in
    let fault = rw c.in-Some-2.is at c.in_ok-verdict.ensures.value in
    let first : IsFirstFault A t c.in-Some-2.verdict = record {
      at = c.in-Some.at.now;
      block = b;
      listed = listed;
      fault = fault_some A t c.in-Some.at.now b (A.transfer c.in-Some.at.now b.elem) c.in-Some-2.verdict (laws.transfer_targets c.in-Some.at.now b.elem here.0 here.1) (sym fault);
      earlier = earlier_stands g.A.Analyser.view A c.args.table.now (map deref_pair c.loop-at.yielded) c.next.new.self c.in-Some.at.now c.in-Some.block.now split c.iter-at-items.ensures.ordered c.loop-at.invariant.stand;
      entry = entry;
    } in
    let means = (verdicts_mean A laws t c.requires.table c.in-Some-2.verdict).1 (means_from A t c.in-Some-2.verdict first) in
    let right = accepted_are_closed A laws t c.requires.table in
    (λ same. right.0 (means ∙ same), λ closed. sym means ∙ right.1 closed)

pub returns-in-Some-2-clause-sound : goal.returns-in-Some-2-clause-sound
returns-in-Some-2-clause-sound g c same =
    let ready = c.requires.ready in
    closed_tables_are_sound (g.A.Analyser.analysis c.args.analyser.now) (g.A.Analyser.machine c.args.analyser.now) (g.met.A.Analyser.laws c.args.analyser.now ready) (g.met.A.Described.sound c.args.analyser.now ready)
    (listings g.A.Analyser.view c.args.table.now) c.requires.table ((returns-in-Some-2-clause-accepted g c).0 same)

pub loop-at-preserved : goal.loop-at-preserved
loop-at-preserved g c =
    let A = g.A.Analyser.analysis c.args.analyser.now in
    let laws = g.met.A.Analyser.laws c.args.analyser.now c.requires.ready in
    let t = listings g.A.Analyser.view c.args.table.now in
    let b = listing g.A.Analyser.view c.in-Some.block.now in
    let none = rw c.in_default.is at c.in_ok-verdict.ensures.value in
    let stands = fault_none A t c.in-Some.at.now b (A.transfer c.in-Some.at.now b.elem) (sym none) in
    let pushed = map-append deref_pair c.loop-at.yielded ((c.in-Some.at, c.in-Some.block) ∷ []) in
    record {
      stand = subst (AllStand g.A.Analyser.view A c.args.table.now) (sym pushed)
          (All-push (λ (e : ℕ × Block _). Stands A t (listing g.A.Analyser.view e.1) (A.transfer e.0 (g.A.Analyser.view e.1.elem))) (map deref_pair c.loop-at.yielded) (c.in-Some.at.now, c.in-Some.block.now) c.loop-at.invariant.stand stands);
      steps = let so_far = c.loop-at.invariant.steps in let one = (rw c.in_default.is at c.in_ok-verdict.ensures.one) refl in
          let longer = length-append c.loop-at.yielded ((c.in-Some.at, c.in-Some.block) ∷ []) in omega (arith, so_far, one, longer);
    }

pub returns-clause-value : goal.returns-clause-value
returns-clause-value g c =
    let A = g.A.Analyser.analysis c.args.analyser.now in
    let laws = g.met.A.Analyser.laws c.args.analyser.now c.requires.ready in
    let t = listings g.A.Analyser.view c.args.table.now in
    let whole : c.args.table.now.blocks.entries ≡ map deref_pair c.loop-at.yielded =
    sym (c.into_iter-at-iterator.ensures.into_iter_gives ∙ c.iter-at-items.ensures.rest) ∙ rest_so_far deref_pair c.loop-at.yielded c.into_iter-at-iterator.result c.loop-at.at-iterator c.loop-at.yielded_by
    ∙ ap (λ es. map deref_pair c.loop-at.yielded ++ es) c.in-None.ensures.steps.0 ∙ append-nil (map deref_pair c.loop-at.yielded) in
    let entry = closed_told A t A.entry A.start (sym (c.in_ok-is_entry_open.ensures) ∙ c.if-branch.false) in
    let closed = closed_from g.A.Analyser.view A c.args.table.now c.iter-at-items.ensures.ordered entry (subst (AllStand g.A.Analyser.view A c.args.table.now) (sym whole) c.loop-at.invariant.stand) in
    sym ((accepted_are_closed A laws t c.requires.table).1 closed)

pub returns-clause-accepted : goal.returns-clause-accepted
returns-clause-accepted g c =
    let A = g.A.Analyser.analysis c.args.analyser.now in
    let laws = g.met.A.Analyser.laws c.args.analyser.now c.requires.ready in
    let t = listings g.A.Analyser.view c.args.table.now in
    let whole : c.args.table.now.blocks.entries ≡ map deref_pair c.loop-at.yielded =
    sym (c.into_iter-at-iterator.ensures.into_iter_gives ∙ c.iter-at-items.ensures.rest) ∙ rest_so_far deref_pair c.loop-at.yielded c.into_iter-at-iterator.result c.loop-at.at-iterator c.loop-at.yielded_by
    ∙ ap (λ es. map deref_pair c.loop-at.yielded ++ es) c.in-None.ensures.steps.0 ∙ append-nil (map deref_pair c.loop-at.yielded) in
    let entry = closed_told A t A.entry A.start (sym (c.in_ok-is_entry_open.ensures) ∙ c.if-branch.false) in
    let closed = closed_from g.A.Analyser.view A c.args.table.now c.iter-at-items.ensures.ordered entry (subst (AllStand g.A.Analyser.view A c.args.table.now) (sym whole) c.loop-at.invariant.stand) in
    (λ same. closed, λ also. refl)

pub returns-clause-sound : goal.returns-clause-sound
returns-clause-sound g c same =
    let ready = c.requires.ready in
    closed_tables_are_sound (g.A.Analyser.analysis c.args.analyser.now) (g.A.Analyser.machine c.args.analyser.now) (g.met.A.Analyser.laws c.args.analyser.now ready) (g.met.A.Described.sound c.args.analyser.now ready)
    (listings g.A.Analyser.view c.args.table.now) c.requires.table ((returns-clause-accepted g c).0 same)
