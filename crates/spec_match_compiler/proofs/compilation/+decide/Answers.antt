use Rattle.std.proofs.Common.{◌≡◌, ◌+◌, ◌<◌, [], ◌∷◌, ◌++◌, map, take, drop, sym, ◌∙◌, rules, arith}
use Rattle.std.proofs.lemmas.Result.{err_from_is_err_and}
use Rattle.std.proofs.lemmas.List.{map-append, length-map}
use Rattle.spec_match_compiler.specs.declared.step.RowStep.TheVariants.{Asked}
use Rattle.spec_match_compiler.specs.Decisions.{trees}
use Rattle.spec_match_compiler.specs.Knowledge.{others, put}
use Rattle.spec_match_compiler.specs.Rule.{flag_test, still, outcomes, example, IsTree, no_row}
use Rattle.spec_match_compiler.specs.Steps.{IsStep, AsksWord, MayShow}
use Rattle.spec_match_compiler.specs.Refusals.{FailsWith}
use Rattle.spec_match_compiler.specs.Views.{types, tree, knowledge, candidate, pat, question}
use Rattle.spec_match_compiler.proofs.Weight.{total}
use Rattle.spec_match_compiler.proofs.Kept.{still_limits, still_can}
use Rattle.spec_match_compiler.proofs.Nodes.{asked_last, more_trees, trees_len, fails_after}
use Rattle.spec_match_compiler.proofs.Deciding.{split_known, step_falls, step_limits, no_rows, take_known, first_is, second_is, no_falls, no_limits, no_rows_limits, no_can, no_tree_is, no_fails, yes_shown, yes_fails}
use Rattle.spec_match_compiler.proofs.Newest.{newest_still}
use Rattle.spec_match_compiler.proofs.compilation.+decide.Goals as goal

pub after-decide-requires : goal.after-decide-requires
after-decide-requires t c =
    let rows = map candidate c.args.left.now in
    let k = knowledge c.args.known.now in
    let at = c.args.at.now in
    let o = knowledge c.args.there.now in
    let s = c.requires.there in
    let next : knowledge c.in_ok-next.next ≡ put k at o = search rules in
    let kept : map candidate c.in_ok-still_left.still_left.items ≡ still rows (knowledge c.in_ok-next.next) = search rules in
    let less : total (map candidate c.in_ok-still_left.still_left.items) (knowledge c.in_ok-next.next) < total rows k =
    rw (kept, next) (step_falls (types c.args.sig.now) rows k o at s.0 s.1 s.2 s.3 c.requires.can s.4) in
    (omega (arith, less, c.decreases), (c.requires.sig, (rw kept (still_limits rows (knowledge c.in_ok-next.next) c.requires.rows), (rw next (step_limits (types c.args.sig.now) rows k o at s.0 s.1 s.2 s.3 c.requires.sig c.requires.known s.4), rw kept (still_can rows (knowledge c.in_ok-next.next))))))

pub arms-after-requires : goal.arms-after-requires
arms-after-requires t c =
    let a = c.requires.asks in
    let there : MayShow (types c.args.sig.now) (map candidate c.args.left.now) (knowledge c.args.known.now) c.args.at.now (knowledge c.there-item.result) =
    (a.0, take c.loop-there.there-index (map knowledge c.args.outcomes.now), map knowledge (drop (c.loop-there.there-index + 1) c.args.outcomes.now), a.1, sym a.2 ∙ split_known c.args.outcomes.now c.loop-there.there-index c.there-item.result c.there-item.is (omega arith)) in
    (omega (arith, c.decreases), (c.requires.sig, (c.requires.rows, (c.requires.known, (c.requires.can, there)))))

pub arms-returns-in_err-after : goal.arms-returns-in_err-after
arms-returns-in_err-after t c =
    let rows = map candidate c.args.left.now in
    let k = knowledge c.args.known.now in
    let o = knowledge c.there-item.result in
    let a = c.requires.asks in
    let split = sym a.2 ∙ split_known c.args.outcomes.now c.loop-there.there-index c.there-item.result c.there-item.is (omega arith) in
    let deeper : FailsWith (types c.args.sig.now) (still rows (put k c.args.at.now o)) (put k c.args.at.now o) c.in_err-after.field-0.0 = c.in_err-after.ensures in
    let outer : FailsWith (types c.args.sig.now) rows k c.in_err-after.field-0.0 =
    fails_after (types c.args.sig.now) rows k o c.args.at.now a.0 _ _ (trees (map tree c.loop-there.arms.items)) c.in_err-after.field-0.0 a.1 split c.loop-there.invariant deeper in
    let p = err_from_is_err_and c.from_residual.result c.from_residual.ensures.1 in
    rw (p.1, p.2) outer

pub arms-loop-there-preserved : goal.arms-loop-there-preserved
arms-loop-there-preserved t c =
    let rows = map candidate c.args.left.now in
    let k = knowledge c.args.known.now in
    let at = c.args.at.now in
    let o = knowledge c.there-item.result in
    let deeper : IsTree (types c.args.sig.now) (still rows (put k at o)) (put k at o) (tree c.in_ok-after.field-0) = c.in_ok-after.ensures in
    let more : c.push.new.self.items ≡ c.loop-there.arms.items ++ c.in_ok-after.field-0 ∷ [] = search rules in
    let longer : take (c.loop-there.there-index + 1) (map knowledge c.args.outcomes.now) ≡ take c.loop-there.there-index (map knowledge c.args.outcomes.now) ++ o ∷ [] =
    take_known c.args.outcomes.now c.loop-there.there-index c.there-item.result c.there-item.is (omega arith) in
    rw (more, map-append, longer) (more_trees (types c.args.sig.now) rows k at _ (map tree c.loop-there.arms.items) o (tree c.in_ok-after.field-0) c.loop-there.invariant deeper)

pub decide-loop-questions-smaller : goal.decide-loop-questions-smaller
decide-loop-questions-smaller t c =
    let rows = map candidate c.loop-questions.rows.items in
    let k = knowledge c.loop-questions.now in
    let s : IsStep (types c.args.sig.now) rows k (Asked c.in-Asked.question c.in-Asked.left c.in-Asked.known) =
    rw (c.as_slice.ensures.value, c.in-Asked.is) at c.in_ok-last.ensures in
    no_falls (types c.args.sig.now) rows k c.in-Asked.question c.in-Asked.left c.in-Asked.known s c.loop-questions.invariant.can

pub decide-loop-questions-preserved : goal.decide-loop-questions-preserved
decide-loop-questions-preserved t c =
    let all = types c.args.sig.now in
    let rows = map candidate c.loop-questions.rows.items in
    let k = knowledge c.loop-questions.now in
    let q = c.in-Asked.question in
    let left = c.in-Asked.left in
    let known = c.in-Asked.known in
    let s : IsStep all rows k (Asked q left known) = rw (c.as_slice.ensures.value, c.in-Asked.is) at c.in_ok-last.ensures in
    let more : c.push.new.self.items ≡ c.loop-questions.questions.items ++ q ∷ [] = search rules in
    let last = asked_last (map question c.loop-questions.questions.items) (question q) in
    let less = no_falls all rows k q left known s c.loop-questions.invariant.can in
    record {
      trees = λ a h. rw (more, map-append, last a) (c.loop-questions.invariant.trees _ (no_tree_is all rows k q left known s a h));
      fails = λ e h. c.loop-questions.invariant.fails e (no_fails all rows k q left known s e h);
      limits = no_rows_limits all rows k q left known s c.loop-questions.invariant.limits;
      known = no_limits all rows k q left known s c.requires.sig c.loop-questions.invariant.known;
      can = no_can all rows k q left known s;
      less = omega (arith, less, c.loop-questions.invariant.less);
    }

pub first_step-returns-in_default : goal.first_step-returns-in_default
first_step-returns-in_default t c =
    let rows = no_rows c.args.left.now c.in_default.ensures.value in
    let is : pat c.in_ok-example.field-0 ≡ example (knowledge c.args.known.now) = search rules in
    rw (rows, is) (no_row (knowledge c.args.known.now))

pub step_by-test_node-requires : goal.step_by-test_node-requires
step_by-test_node-requires t c =
    let rows = map candidate c.args.left.now in
    let items : map knowledge c.deref-in-Flag.result.now ≡ outcomes (types c.args.sig.now) flag_test = search rules in
    let len = trees_len (types c.args.sig.now) rows (knowledge c.args.known.now) _ _ (map tree c.in_ok-arms-in-Flag.arms.items) c.in_ok-arms-in-Flag.ensures in
    rw length-map at (rw items at len)

pub step_by_word-after-requires : goal.step_by_word-after-requires
step_by_word-after-requires t c =
    let all = types c.args.sig.now in
    let rows = map candidate c.args.left.now in
    let k = knowledge c.args.known.now in
    let asks : AsksWord all rows k c.as_slice.result.now c.args.value (map knowledge c.args.outcomes.now) = rw c.as_slice.ensures.value c.requires.asks in
    let there = yes_shown all rows k c.as_slice.result.now c.args.value c.args.outcomes.now asks c.index-outcomes-0.result c.index-outcomes-0.is in
    (omega (arith, c.decreases), (c.requires.sig, (c.requires.rows, (c.requires.known, (c.requires.can, there)))))

pub step_by_word-returns-in_err-yes : goal.step_by_word-returns-in_err-yes
step_by_word-returns-in_err-yes t c =
    let all = types c.args.sig.now in
    let rows = map candidate c.args.left.now in
    let k = knowledge c.args.known.now in
    let asks : AsksWord all rows k c.as_slice.result.now c.args.value (map knowledge c.args.outcomes.now) = rw c.as_slice.ensures.value c.requires.asks in
    let outer = yes_fails all rows k c.as_slice.result.now c.args.value c.args.outcomes.now asks c.index-outcomes-0.result c.index-outcomes-0.is c.in_err-yes.field-0.0 c.in_err-yes.ensures in
    let p = err_from_is_err_and c.from_residual.result c.from_residual.ensures.1 in
    rw (p.1, p.2) outer

pub step_by_word-returns : goal.step_by_word-returns
step_by_word-returns t c =
    let all = types c.args.sig.now in
    let rows = map candidate c.args.left.now in
    let k = knowledge c.args.known.now in
    let at = c.args.at.steps.items in
    let n = c.args.value in
    let a = c.requires.asks in
    let yes_is = first_is _ _ c.args.outcomes.now c.index-outcomes-0.result a.3 c.index-outcomes-0.is in
    let no_is = second_is _ _ c.args.outcomes.now c.index-outcomes-1.result a.3 c.index-outcomes-1.is in
    let yes_there : IsTree all (still rows (put k c.as_slice.result.now (knowledge c.index-outcomes-0.result))) (put k c.as_slice.result.now (knowledge c.index-outcomes-0.result)) (tree c.in_ok-yes.yes) = c.in_ok-yes.ensures in
    let next_there : knowledge c.in_ok-next.next ≡ put k c.as_slice-2.result.now (knowledge c.index-outcomes-1.result) = c.in_ok-next.ensures in
    let next = rw (c.as_slice-2.ensures.value, no_is) at next_there in
    let kept_there : map candidate c.in_ok-still_left.still_left.items ≡ still rows (put k c.as_slice-3.result.now (others 64 (n ∷ []))) = c.in_ok-still_left.ensures in
    let kept = rw c.as_slice-3.ensures.value at kept_there in
    (a.0, a.1, a.2, rw (c.as_slice.ensures.value, yes_is) at yes_there, next, rw (kept, next) (newest_still rows k at 64 a.0 n a.1 a.2 c.requires.can))
