use Rattle.std.proofs.Common.{◌≡◌, ◌∙◌, ◌+◌, false, true, drop, length, map, option_map, slice_get, refl, sym, ap, subst, arith}
use Rattle.std.specs.Prelude.{All, IfSome}
use Rattle.std.proofs.lemmas.List.Elements.{All-append, All-map, All-nil}
use Rattle.base_trait.specs.Uses.{uses_of}
use Rattle.abstract_value_laws.specs.Fits.{Fits}
use Rattle.abstract_value.specs.View.{abs}
use Rattle.support_tail_fixpoint.specs.Answer.{gives}
use Rattle.abstract_semantics.specs.Calls.{AreArguments}
use Rattle.eval_code.specs.Code.{nodes}
use Rattle.eval_code.specs.Views.{end, node, stretch, tail}
use Rattle.eval_plans.specs.Plans.{both}
use Rattle.eval_plans.specs.Views.{plan}
use Rattle.eval_plans.proofs.Planned.{plan_Arm, plan_Both, plan_Nothing}
use Rattle.eval_memo.specs.declared.error.EvalError.TheVariants as error
use Rattle.eval_memo.specs.Memos.{IsNew, entries}
use Rattle.eval_memo.specs.Ready.{ArgsOf}
use Rattle.eval_memo.specs.Settings.{group_of, spec_of}
use Rattle.eval_memo.proofs.Answering.{err_is}
use Rattle.eval_activation.specs.Views.{all_abs}
use Rattle.evaluator.specs.Views.{arms, branch}
use Rattle.evaluator.proofs.Activating.{activation_deep, activation_done, begin_done, begin_failed, begin_gave, begin_goes_on, begun, due_fit, goes_again, still_active, turn_failed, turn_taken}
use Rattle.evaluator.proofs.Arming.{branch_asks, end_plan_fits, node_plan_fits, tail_asks, ways_ask}
use Rattle.evaluator.proofs.Bodies.{args_here, body_failed, body_gave, first_body, next_failed, next_gave, no_body, no_body_left, some_body}
use Rattle.evaluator.proofs.Branching.{branch_failed, branch_gave, no_branch}
use Rattle.evaluator.proofs.Calling.{call_failed, call_kept, call_not_kept, call_recalled, call_without_memory, ends_by_call}
use Rattle.evaluator.proofs.Ending.{ends_by, no_memory}
use Rattle.evaluator.proofs.Falling.{less_room, no_more_room, same_room}
use Rattle.evaluator.proofs.Fitting.{all_viewed, are_arguments}
use Rattle.evaluator.proofs.Going.{first_failed, first_fits, first_joined, going_first, last_failed, last_joined, none_left, rest_smaller}
use Rattle.evaluator.proofs.Growing.{grown_then, log_alone, no_more}
use Rattle.evaluator.proofs.Nested.{again_gave, choice_failed, choice_gave, choice_none, end_failed, end_gave, slot_gave, stretch_failed, stretch_gave, stretch_none, tail_failed, tail_none, turn_gave, value_failed, value_gave, way_gave, way_none}
use Rattle.evaluator.proofs.Running.{all_or_not, all_ran, next_node, no_next_node, node_failed, node_none, node_ran, nodes_end_by, nodes_without_memory, none_ran}
use Rattle.evaluator.proofs.Turning.{args_fit, body_asks, body_is}
use Rattle.eval_code.specs.Asks.{EndAsksWithin}
use Rattle.eval_nodes.proofs.NodeForms.{node_Call, node_Get, plain_form}
use Rattle.evaluator.specs.Arms.{BranchAsksWithin, end_plan, node_plan}
use Rattle.evaluator.proofs.CodeForms.{choice_form, end_Again, end_Slot, stretch_is, tail_is, way_form}
use Rattle.evaluator.proofs.NodeValues.{call_node, no_function_there, no_slot_there, plain_node, read_node, slots_called}
use Rattle.evaluator.proofs.Starting.{is_there, not_there}
use Rattle.evaluator.proofs.evaluate.+eval.Goals as goal

-- ---- nodes, one after another

pub run_nodes-loop-n-init : goal.run_nodes-loop-n-init
run_nodes-loop-n-init g t c = none_ran c.requires.known.fits c.requires.known.memo

pub run_nodes-evaluate_node-requires : goal.run_nodes-evaluate_node-requires
run_nodes-evaluate_node-requires g t c κs within = (
  same_room c.args.room t 10 11 (omega arith) c.decreases,
  (within.0, (within.1.0, (within.1.1.0, (within.1.1.1.0, (within.1.1.1.1.0, (within.1.1.1.1.1, record { ready = c.requires.known.ready; fits = c.loop-n.invariant.fits; memo = c.loop-n.invariant.memo })))))),
)

pub run_nodes-returns-in_err-v : goal.run_nodes-returns-in_err-v
run_nodes-returns-in_err-v g t c =
    nodes_end_by (err_is c.from_residual.result c.in_err-v.field-0.0 c.from_residual.ensures) (node_failed c.loop-n.invariant (node c.n-item.result) (nodes (map node (drop (c.loop-n.n-index + 1) c.args.nodes.now))) (next_node node c.args.nodes.now c.loop-n.n-index c.n-item.result c.n-item.is c.loop-n-test.true) c.in_err-v.ensures)

pub run_nodes-returns-in-None : goal.run_nodes-returns-in-None
run_nodes-returns-in-None g t c = node_none c.loop-n.invariant (node c.n-item.result) (nodes (map node (drop (c.loop-n.n-index + 1) c.args.nodes.now))) (next_node node c.args.nodes.now c.loop-n.n-index c.n-item.result c.n-item.is c.loop-n-test.true) c.in_ok-v.ensures c.in-None.is

pub run_nodes-returns-in_err-push_value-in-Some : goal.run_nodes-returns-in_err-push_value-in-Some
run_nodes-returns-in_err-push_value-in-Some g t c =
    nodes_end_by (err_is c.from_residual-in_err-push_value-in-Some.result error.NoMemory c.from_residual-in_err-push_value-in-Some.ensures) (nodes_without_memory c.loop-n.invariant c.in_ok-v.ensures.memo c.in_ok-v.ensures.grown)

pub run_nodes-loop-n-preserved : goal.run_nodes-loop-n-preserved
run_nodes-loop-n-preserved g t c = node_ran c.loop-n.invariant (node c.n-item.result) (nodes (map node (drop (c.loop-n.n-index + 1) c.args.nodes.now))) (next_node node c.args.nodes.now c.loop-n.n-index c.n-item.result c.n-item.is c.loop-n-test.true) c.in_ok-v.field-0 c.in-Some.v c.in_ok-v.ensures c.in-Some.is c.in_ok-push_value-in-Some.ensures

pub run_nodes-returns : goal.run_nodes-returns
run_nodes-returns g t c = all_ran c.loop-n.invariant (no_next_node node c.args.nodes.now c.loop-n.n-index c.loop-n-test.false)

-- ---- a node

pub evaluate_node-evaluate_choice-requires : goal.evaluate_node-evaluate_choice-requires
evaluate_node-evaluate_choice-requires g t c κs within = (
  same_room c.args.room t 9 10 (omega arith) c.decreases,
  (within.0, (within.1.0, (within.1.1.0, (within.1.1.1.0, (within.1.1.1.1.0, (within.1.1.1.1.1, (c.requires.known, choice_form c.args.n.now c.in-If.is))))))),
)

pub evaluate_node-evaluate_call-requires : goal.evaluate_node-evaluate_call-requires
evaluate_node-evaluate_call-requires g t c κs within = (
  same_room c.args.room t 9 10 (omega arith) c.decreases,
  (within.0, (within.1.0, (within.1.1.0, (within.1.1.1.0, (within.1.1.1.1.0, (within.1.1.1.1.1, record { ready = c.requires.known.ready; fits = subst (All (λ v. Fits g.B.Base.algebra c.args.setting.now.ctx.now g.B.Base.CAP (abs v))) (sym c.deref.ensures.value) c.requires.known.fits; memo = c.requires.known.memo })))))),
)

pub evaluate_node-returns-in-Call : goal.evaluate_node-returns-in-Call
evaluate_node-returns-in-Call g t c =
    let is = ap node c.in-Call.is ∙ node_Call c.in-Call.fun c.in-Call.args in
    let frame : c.deref.result.now ≡ c.args.frame.now.items = c.deref.ensures.value in
    let args : c.deref-in-Call.result.now ≡ c.in-Call.args.items = c.deref-in-Call.ensures.value in
    call_node (node c.args.n.now) c.in-Call.fun c.in-Call.args.items is (rw (frame, args) at c.evaluate_call.ensures)

pub evaluate_node-read_on-requires : goal.evaluate_node-read_on-requires
evaluate_node-read_on-requires g t c = record { frame = subst (All (λ v. Fits g.B.Base.algebra c.args.setting.now.ctx.now g.B.Base.CAP (abs v))) (sym c.deref-in-Get.ensures.value) c.requires.known.fits }

pub evaluate_node-returns-in_err-read_on-in-Get : goal.evaluate_node-returns-in_err-read_on-in-Get
evaluate_node-returns-in_err-read_on-in-Get g t c = ends_by (err_is c.from_residual.result error.NoMemory c.from_residual.ensures) (no_memory c.requires.known.memo (log_alone (uses_of c.args.log.now) (uses_of c.read_on.new.log) (entries c.args.memo.now) c.read_on.ensures.grown))

pub evaluate_node-returns-in_ok-read_on-in-Get : goal.evaluate_node-returns-in_ok-read_on-in-Get
evaluate_node-returns-in_ok-read_on-in-Get g t c =
    let is = ap node c.in-Get.is ∙ node_Get c.in-Get.map c.in-Get.x c.in-Get.key in
    let frame : c.deref-in-Get.result.now ≡ c.args.frame.now.items = c.deref-in-Get.ensures.value in
    read_node (node c.args.n.now) c.in-Get.map c.in-Get.x c.in-Get.key c.in_ok-read_on-in-Get.field-0 is (rw frame at c.in_ok-read_on-in-Get.ensures.value) c.in_ok-read_on-in-Get.ensures.fits c.read_on.ensures.grown c.requires.known.memo

pub evaluate_node-plain_value-requires : goal.evaluate_node-plain_value-requires
evaluate_node-plain_value-requires g t c = record { frame = subst (All (λ v. Fits g.B.Base.algebra c.args.setting.now.ctx.now g.B.Base.CAP (abs v))) (sym c.deref-in-Flag.ensures.value) c.requires.known.fits }

pub evaluate_node-returns-in_err-plain_value-in-Flag : goal.evaluate_node-returns-in_err-plain_value-in-Flag
evaluate_node-returns-in_err-plain_value-in-Flag g t c = ends_by (err_is c.from_residual-in_err-plain_value-in-Flag.result error.NoMemory c.from_residual-in_err-plain_value-in-Flag.ensures) (no_memory c.requires.known.memo (no_more (uses_of c.args.log.now) (entries c.args.memo.now)))

pub evaluate_node-returns-in_ok-plain_value-in-Flag : goal.evaluate_node-returns-in_ok-plain_value-in-Flag
evaluate_node-returns-in_ok-plain_value-in-Flag g t c =
    let frame : c.deref-in-Flag.result.now ≡ c.args.frame.now.items = c.deref-in-Flag.ensures.value in
    plain_node (node c.args.n.now) c.in_ok-plain_value-in-Flag.field-0 (plain_form c.args.n.now c.in-Flag.is) (rw frame at c.in_ok-plain_value-in-Flag.ensures.value) c.in_ok-plain_value-in-Flag.ensures.fits c.requires.known.memo

-- ---- a choice

pub evaluate_choice-plan_node-requires : goal.evaluate_choice-plan_node-requires
evaluate_choice-plan_node-requires g t c = record { frame = subst (All (λ v. Fits g.B.Base.algebra c.args.setting.now.ctx.now g.B.Base.CAP (abs v))) (sym c.deref.ensures.value) c.requires.known.fits }

pub evaluate_choice-returns-in_err-plan : goal.evaluate_choice-returns-in_err-plan
evaluate_choice-returns-in_err-plan g t c = ends_by (err_is c.from_residual.result error.NoMemory c.from_residual.ensures) (no_memory c.requires.known.memo (no_more (uses_of c.args.log.now) (entries c.args.memo.now)))

pub evaluate_choice-returns-in_default : goal.evaluate_choice-returns-in_default
evaluate_choice-returns-in_default g t c = choice_none (node c.args.n.now) c.requires.choice (option_map plan c.in_ok-plan.field-0) (c.in_ok-plan.ensures ∙ ap (λ xs. node_plan g.B.Base.algebra c.args.setting.now.ctx.now (map abs xs) (node c.args.n.now)) c.deref.ensures.value) (ap (option_map plan) c.in_default.is) c.requires.known.memo

pub evaluate_choice-evaluate_plan-requires : goal.evaluate_choice-evaluate_plan-requires
evaluate_choice-evaluate_plan-requires g t c κs within = (
  same_room c.args.room t 0 9 (omega arith) c.decreases,
  (within.0, (within.1.0, (within.1.1.0, (within.1.1.1.0, (within.1.1.1.1.0, (within.1.1.1.1.1, (c.requires.known, (tt, node_plan_fits g.B.Base.algebra c.args.setting.now.ctx.now g.B.Base.CAP c.args.frame.now.items (node c.args.n.now) (plan c.in-Some.plan) c.requires.known.fits (sym (c.in_ok-plan.ensures ∙ ap (λ xs. node_plan g.B.Base.algebra c.args.setting.now.ctx.now (map abs xs) (node c.args.n.now)) c.deref.ensures.value) ∙ ap (option_map plan) c.in-Some.is))))))))),
)

pub evaluate_choice-returns-in_err-given : goal.evaluate_choice-returns-in_err-given
evaluate_choice-returns-in_err-given g t c = ends_by (err_is c.from_residual-in_err-given.result c.in_err-given.field-0.0 c.from_residual-in_err-given.ensures) (choice_failed (node c.args.n.now) c.requires.choice (option_map plan c.in_ok-plan.field-0) (c.in_ok-plan.ensures ∙ ap (λ xs. node_plan g.B.Base.algebra c.args.setting.now.ctx.now (map abs xs) (node c.args.n.now)) c.deref.ensures.value) (plan c.in-Some.plan) (ap (option_map plan) c.in-Some.is) c.in_err-given.ensures)

pub evaluate_choice-returns : goal.evaluate_choice-returns
evaluate_choice-returns g t c = choice_gave (node c.args.n.now) c.requires.choice (option_map plan c.in_ok-plan.field-0) (c.in_ok-plan.ensures ∙ ap (λ xs. node_plan g.B.Base.algebra c.args.setting.now.ctx.now (map abs xs) (node c.args.n.now)) c.deref.ensures.value) (plan c.in-Some.plan) (ap (option_map plan) c.in-Some.is) 0 c.in_ok-given.given c.value_in.result c.in_ok-given.ensures c.value_in.ensures

-- ---- a call on slots

pub evaluate_call-returns-then-fun-len : goal.evaluate_call-returns-then-fun-len
evaluate_call-returns-then-fun-len g t c = no_function_there (map abs c.args.frame.now) c.args.fun c.args.args.now c.requires.known.ready (not_there c.args.setting.now (spec_of c.args.setting.now) c.len.result c.args.fun refl c.len.ensures c.if-fun-len.true) c.requires.known.memo

pub evaluate_call-copies-requires : goal.evaluate_call-copies-requires
evaluate_call-copies-requires g t c = record { frame = c.requires.known.fits }

pub evaluate_call-returns-in_err-args : goal.evaluate_call-returns-in_err-args
evaluate_call-returns-in_err-args g t c = ends_by (err_is c.from_residual.result error.NoMemory c.from_residual.ensures) (no_memory c.requires.known.memo (no_more (uses_of c.args.log.now) (entries c.args.memo.now)))

pub evaluate_call-returns-in_default : goal.evaluate_call-returns-in_default
evaluate_call-returns-in_default g t c = no_slot_there (map abs c.args.frame.now) c.args.fun c.args.args.now (sym c.in_ok-args.ensures.value ∙ ap (option_map all_abs) c.in_default.is) c.requires.known.memo

pub evaluate_call-value_of_call-requires : goal.evaluate_call-value_of_call-requires
evaluate_call-value_of_call-requires g t c κs within = (
  same_room c.args.room t 8 9 (omega arith) c.decreases,
  (within.0, (within.1.0, (within.1.1.0, (within.1.1.1.0, (within.1.1.1.1.0, (within.1.1.1.1.1, (record { ready = c.requires.known.ready; fits = All-nil (λ v. Fits g.B.Base.algebra c.args.setting.now.ctx.now g.B.Base.CAP (abs v)); memo = c.requires.known.memo }, (is_there c.args.setting.now c.len.result c.args.fun c.len.ensures c.if-fun-len.false, All-map (Fits g.B.Base.algebra c.args.setting.now.ctx.now g.B.Base.CAP) (λ v. abs v) c.in-Some.args.items (subst (λ o. IfSome o (λ vs. All (λ v. Fits g.B.Base.algebra c.args.setting.now.ctx.now g.B.Base.CAP (abs v)) vs.items)) c.in-Some.is c.in_ok-args.ensures.fits))))))))),
)

pub evaluate_call-returns : goal.evaluate_call-returns
evaluate_call-returns g t c = slots_called (map abs c.args.frame.now) c.args.fun c.args.args.now (sym c.in_ok-args.ensures.value ∙ ap (option_map all_abs) c.in-Some.is) c.value_of_call.ensures

-- ---- a stretch

pub evaluate_stretch-returns-then-room-eq0 : goal.evaluate_stretch-returns-then-room-eq0
evaluate_stretch-returns-then-room-eq0 g t c = no_memory c.requires.known.memo (no_more (uses_of c.args.log.now) (entries c.args.memo.now))

pub evaluate_stretch-run_nodes-requires : goal.evaluate_stretch-run_nodes-requires
evaluate_stretch-run_nodes-requires g t c κs within = (
  less_room c.args.room t 11 1 (omega arith) (omega (arith, c.if-room-eq0.false)) c.decreases,
  (within.0, (within.1.0, (within.1.1.0, (within.1.1.1.0, (within.1.1.1.1.0, (within.1.1.1.1.1, c.requires.known)))))),
)

pub evaluate_stretch-returns-in_err-all : goal.evaluate_stretch-returns-in_err-all
evaluate_stretch-returns-in_err-all g t c = ends_by (err_is c.from_residual.result c.in_err-all.field-0.0 c.from_residual.ensures) (stretch_failed (stretch c.args.s.now) (nodes (map node c.args.s.now.nodes.items)) c.args.s.now.slot (stretch_is c.args.s.now) (rw c.deref.ensures.value at c.in_err-all.ensures))

pub evaluate_stretch-returns-then-not-all : goal.evaluate_stretch-returns-then-not-all
evaluate_stretch-returns-then-not-all g t c = stretch_none (stretch c.args.s.now) (nodes (map node c.args.s.now.nodes.items)) c.args.s.now.slot (stretch_is c.args.s.now) c.len-outer.result (all_or_not c.if-not-all.true (rw c.deref.ensures.value at c.in_ok-all.ensures)) (c.len-outer.ensures ∙ c.args.frame.now.ok.0) c.truncate.ensures.items

pub evaluate_stretch-copy_slot-requires : goal.evaluate_stretch-copy_slot-requires
evaluate_stretch-copy_slot-requires g t c = record { frame = subst (All (λ v. Fits g.B.Base.algebra c.args.setting.now.ctx.now g.B.Base.CAP (abs v))) (sym c.deref-2.ensures.value) c.in_ok-all.ensures.fits }

pub evaluate_stretch-returns-in_err-v : goal.evaluate_stretch-returns-in_err-v
evaluate_stretch-returns-in_err-v g t c = ends_by (err_is c.from_residual-in_err-v.result error.NoMemory c.from_residual-in_err-v.ensures) (no_memory c.in_ok-all.ensures.memo c.in_ok-all.ensures.grown)

pub evaluate_stretch-returns : goal.evaluate_stretch-returns
evaluate_stretch-returns g t c = stretch_gave (stretch c.args.s.now) (nodes (map node c.args.s.now.nodes.items)) c.args.s.now.slot (stretch_is c.args.s.now) c.len-outer.result c.in_ok-v.v (all_or_not c.if-not-all.false (rw c.deref.ensures.value at c.in_ok-all.ensures)) (c.in_ok-v.ensures.value ∙ ap (λ xs. slice_get (map abs xs) c.args.s.now.slot) c.deref-2.ensures.value) c.in_ok-v.ensures.fits (c.len-outer.ensures ∙ c.args.frame.now.ok.0) c.truncate-2.ensures.items

-- ---- a tail

pub evaluate_tail-returns-then-room-eq0 : goal.evaluate_tail-returns-then-room-eq0
evaluate_tail-returns-then-room-eq0 g t c = no_memory c.requires.known.memo (no_more (uses_of c.args.log.now) (entries c.args.memo.now))

pub evaluate_tail-run_nodes-requires : goal.evaluate_tail-run_nodes-requires
evaluate_tail-run_nodes-requires g t c κs within = (
  less_room c.args.room t 11 1 (omega arith) (omega (arith, c.if-room-eq0.false)) c.decreases,
  (within.0, (within.1.0, (within.1.1.0, (within.1.1.1.0, (within.1.1.1.1.0, (within.1.1.1.1.1, c.requires.known)))))),
)

pub evaluate_tail-returns-in_err-all : goal.evaluate_tail-returns-in_err-all
evaluate_tail-returns-in_err-all g t c = ends_by (err_is c.from_residual.result c.in_err-all.field-0.0 c.from_residual.ensures) (tail_failed (tail c.args.t.now) (nodes (map node c.args.t.now.nodes.items)) (end c.args.t.now.end) (tail_is c.args.t.now) (rw c.deref.ensures.value at c.in_err-all.ensures))

pub evaluate_tail-returns-then-not-all : goal.evaluate_tail-returns-then-not-all
evaluate_tail-returns-then-not-all g t c = tail_none (tail c.args.t.now) (nodes (map node c.args.t.now.nodes.items)) (end c.args.t.now.end) (tail_is c.args.t.now) c.len-outer.result (all_or_not c.if-not-all.true (rw c.deref.ensures.value at c.in_ok-all.ensures)) (c.len-outer.ensures ∙ c.args.frame.now.ok.0) c.truncate.ensures.items

pub evaluate_tail-evaluate_end-requires : goal.evaluate_tail-evaluate_end-requires
evaluate_tail-evaluate_end-requires g t c κs within = (
  less_room c.args.room t 1 1 (omega arith) (omega (arith, c.if-room-eq0.false)) c.decreases,
  (within.0, (within.1.0, (within.1.1.0, (within.1.1.1.0, (within.1.1.1.1.0, (within.1.1.1.1.1, (record { ready = c.requires.known.ready; fits = c.in_ok-all.ensures.fits; memo = c.in_ok-all.ensures.memo }, tail_asks (length (spec_of c.args.setting.now).funs) (group_of c.args.setting.now) c.args.group (tail c.args.t.now) (nodes (map node c.args.t.now.nodes.items)) (end c.args.t.now.end) (tail_is c.args.t.now) c.requires.asks))))))),
)

pub evaluate_tail-returns-in_err-given : goal.evaluate_tail-returns-in_err-given
evaluate_tail-returns-in_err-given g t c = ends_by (err_is c.from_residual-in_err-given.result c.in_err-given.field-0.0 c.from_residual-in_err-given.ensures) (end_failed (tail c.args.t.now) (nodes (map node c.args.t.now.nodes.items)) (end c.args.t.now.end) (tail_is c.args.t.now) (all_or_not c.if-not-all.false (rw c.deref.ensures.value at c.in_ok-all.ensures)) c.in_err-given.ensures)

pub evaluate_tail-returns : goal.evaluate_tail-returns
evaluate_tail-returns g t c = end_gave (tail c.args.t.now) (nodes (map node c.args.t.now.nodes.items)) (end c.args.t.now.end) (tail_is c.args.t.now) (all_or_not c.if-not-all.false (rw c.deref.ensures.value at c.in_ok-all.ensures)) c.len-outer.result c.in_ok-given.ensures (c.len-outer.ensures ∙ c.args.frame.now.ok.0) c.truncate-2.ensures.items

-- ---- the end of a tail

pub evaluate_end-copy_slot-requires : goal.evaluate_end-copy_slot-requires
evaluate_end-copy_slot-requires g t c = record { frame = subst (All (λ v. Fits g.B.Base.algebra c.args.setting.now.ctx.now g.B.Base.CAP (abs v))) (sym c.deref.ensures.value) c.requires.known.fits }

pub evaluate_end-returns-in_err-v-in-Slot : goal.evaluate_end-returns-in_err-v-in-Slot
evaluate_end-returns-in_err-v-in-Slot g t c = ends_by (err_is c.from_residual.result error.NoMemory c.from_residual.ensures) (no_memory c.requires.known.memo (no_more (uses_of c.args.log.now) (entries c.args.memo.now)))

pub evaluate_end-leaf-requires : goal.evaluate_end-leaf-requires
evaluate_end-leaf-requires g t c = c.in_ok-v-in-Slot.ensures.fits

pub evaluate_end-returns-in_ok-v-in-Slot : goal.evaluate_end-returns-in_ok-v-in-Slot
evaluate_end-returns-in_ok-v-in-Slot g t c = slot_gave (end c.args.e.now) c.in-Slot.s c.in_ok-v-in-Slot.v c.leaf.result (ap end c.in-Slot.is ∙ end_Slot c.in-Slot.s) (c.in_ok-v-in-Slot.ensures.value ∙ ap (λ xs. slice_get (map abs xs) c.in-Slot.s) c.deref.ensures.value) c.leaf.ensures.value c.leaf.ensures.fits c.requires.known.memo

pub evaluate_end-ask_turn-requires-clause-frame : goal.evaluate_end-ask_turn-requires-clause-frame
evaluate_end-ask_turn-requires-clause-frame g t c = subst (All (λ v. Fits g.B.Base.algebra c.args.setting.now.ctx.now g.B.Base.CAP (abs v))) (sym c.deref-in-Again.ensures.value) c.requires.known.fits

pub evaluate_end-ask_turn-requires-clause-there : goal.evaluate_end-ask_turn-requires-clause-there
evaluate_end-ask_turn-requires-clause-there g t c = (subst (EndAsksWithin (length (spec_of c.args.setting.now).funs) (group_of c.args.setting.now) c.args.group) (ap end c.in-Again.is ∙ end_Again c.in-Again.fun c.in-Again.args) c.requires.asks).0

pub evaluate_end-ask_turn-requires-clause-of_group : goal.evaluate_end-ask_turn-requires-clause-of_group
evaluate_end-ask_turn-requires-clause-of_group g t c = (subst (EndAsksWithin (length (spec_of c.args.setting.now).funs) (group_of c.args.setting.now) c.args.group) (ap end c.in-Again.is ∙ end_Again c.in-Again.fun c.in-Again.args) c.requires.asks).1

pub evaluate_end-returns-in_err-ask_turn-in-Again : goal.evaluate_end-returns-in_err-ask_turn-in-Again
evaluate_end-returns-in_err-ask_turn-in-Again g t c = ends_by (err_is c.from_residual-in_err-ask_turn-in-Again.result error.NoMemory c.from_residual-in_err-ask_turn-in-Again.ensures) (no_memory c.requires.known.memo (no_more (uses_of c.args.log.now) (entries c.args.memo.now)))

pub evaluate_end-returns-in_ok-ask_turn-in-Again : goal.evaluate_end-returns-in_ok-ask_turn-in-Again
evaluate_end-returns-in_ok-ask_turn-in-Again g t c =
    let frame : c.deref-in-Again.result.now ≡ c.args.frame.now.items = c.deref-in-Again.ensures.value in
    let args : c.deref-in-Again-2.result.now ≡ c.in-Again.args.items = c.deref-in-Again-2.ensures.value in
    again_gave (end c.args.e.now) c.in-Again.fun c.in-Again.args.items c.in_ok-ask_turn-in-Again.field-0 (ap end c.in-Again.is ∙ end_Again c.in-Again.fun c.in-Again.args) (rw (frame, args) at c.in_ok-ask_turn-in-Again.ensures.value) c.in_ok-ask_turn-in-Again.ensures.fits c.requires.known.memo

pub evaluate_end-plan_end-requires : goal.evaluate_end-plan_end-requires
evaluate_end-plan_end-requires g t c = record { frame = subst (All (λ v. Fits g.B.Base.algebra c.args.setting.now.ctx.now g.B.Base.CAP (abs v))) (sym c.deref-in-If.ensures.value) c.requires.known.fits }

pub evaluate_end-returns-in_err-plan-in-If : goal.evaluate_end-returns-in_err-plan-in-If
evaluate_end-returns-in_err-plan-in-If g t c = ends_by (err_is c.from_residual-in_err-plan-in-If.result error.NoMemory c.from_residual-in_err-plan-in-If.ensures) (no_memory c.requires.known.memo (no_more (uses_of c.args.log.now) (entries c.args.memo.now)))

pub evaluate_end-returns-in_default : goal.evaluate_end-returns-in_default
evaluate_end-returns-in_default g t c = way_none (end c.args.e.now) (way_form c.args.e.now c.in-If.is) (option_map plan c.in_ok-plan-in-If.field-0) (c.in_ok-plan-in-If.ensures ∙ ap (λ xs. end_plan g.B.Base.algebra c.args.setting.now.ctx.now (map abs xs) (end c.args.e.now)) c.deref-in-If.ensures.value) (ap (option_map plan) c.in_default.is) c.requires.known.memo

pub evaluate_end-evaluate_plan-requires : goal.evaluate_end-evaluate_plan-requires
evaluate_end-evaluate_plan-requires g t c κs within = (
  same_room c.args.room t 0 1 (omega arith) c.decreases,
  (within.0, (within.1.0, (within.1.1.0, (within.1.1.1.0, (within.1.1.1.1.0, (within.1.1.1.1.1, (c.requires.known, (ways_ask (length (spec_of c.args.setting.now).funs) (group_of c.args.setting.now) c.args.group (end c.args.e.now) c.requires.asks, end_plan_fits g.B.Base.algebra c.args.setting.now.ctx.now g.B.Base.CAP c.args.frame.now.items (end c.args.e.now) (plan c.in-Some.plan) c.requires.known.fits (sym (c.in_ok-plan-in-If.ensures ∙ ap (λ xs. end_plan g.B.Base.algebra c.args.setting.now.ctx.now (map abs xs) (end c.args.e.now)) c.deref-in-If.ensures.value) ∙ ap (option_map plan) c.in-Some.is))))))))),
)

pub evaluate_end-returns-in-Some : goal.evaluate_end-returns-in-Some
evaluate_end-returns-in-Some g t c = way_gave (end c.args.e.now) (way_form c.args.e.now c.in-If.is) (option_map plan c.in_ok-plan-in-If.field-0) (c.in_ok-plan-in-If.ensures ∙ ap (λ xs. end_plan g.B.Base.algebra c.args.setting.now.ctx.now (map abs xs) (end c.args.e.now)) c.deref-in-If.ensures.value) (plan c.in-Some.plan) (ap (option_map plan) c.in-Some.is) c.evaluate_plan.ensures

-- ---- a branch

pub evaluate_branch-evaluate_stretch-requires : goal.evaluate_branch-evaluate_stretch-requires
evaluate_branch-evaluate_stretch-requires g t c κs within = (
  same_room c.args.room t 1 2 (omega arith) c.decreases,
  (within.0, (within.1.0, (within.1.1.0, (within.1.1.1.0, (within.1.1.1.1.0, (within.1.1.1.1.1, c.requires.known)))))),
)

pub evaluate_branch-returns-in_err-v-in-Value : goal.evaluate_branch-returns-in_err-v-in-Value
evaluate_branch-returns-in_err-v-in-Value g t c = ends_by (err_is c.from_residual.result c.in_err-v-in-Value.field-0.0 c.from_residual.ensures) (value_failed (branch c.args.branch) (stretch c.in-Value.s.now) (ap branch c.in-Value.is) c.in_err-v-in-Value.ensures)

pub evaluate_branch-leaf-requires : goal.evaluate_branch-leaf-requires
evaluate_branch-leaf-requires g t c = c.in_ok-v-in-Value.ensures.fits

pub evaluate_branch-returns-in_ok-v-in-Value : goal.evaluate_branch-returns-in_ok-v-in-Value
evaluate_branch-returns-in_ok-v-in-Value g t c = value_gave (branch c.args.branch) (stretch c.in-Value.s.now) c.in_ok-v-in-Value.v c.leaf.result (ap branch c.in-Value.is) c.in_ok-v-in-Value.ensures c.leaf.ensures.value c.leaf.ensures.fits

pub evaluate_branch-evaluate_tail-requires : goal.evaluate_branch-evaluate_tail-requires
evaluate_branch-evaluate_tail-requires g t c κs within = (
  same_room c.args.room t 1 2 (omega arith) c.decreases,
  (within.0, (within.1.0, (within.1.1.0, (within.1.1.1.0, (within.1.1.1.1.0, (within.1.1.1.1.1, (c.requires.known, subst (BranchAsksWithin (length (spec_of c.args.setting.now).funs) (group_of c.args.setting.now) c.args.group) (ap branch c.in-Turn.is) c.requires.asks))))))),
)

pub evaluate_branch-returns-in-Turn : goal.evaluate_branch-returns-in-Turn
evaluate_branch-returns-in-Turn g t c = turn_gave (branch c.args.branch) (tail c.in-Turn.t.now) (ap branch c.in-Turn.is) c.evaluate_tail.ensures

-- ---- plans

pub evaluate_plan-returns-then-room-eq0 : goal.evaluate_plan-returns-then-room-eq0
evaluate_plan-returns-then-room-eq0 g t c = no_memory c.requires.known.memo (no_more (uses_of c.args.log.now) (entries c.args.memo.now))

pub evaluate_plan-loop-rest-init : goal.evaluate_plan-loop-rest-init
evaluate_plan-loop-rest-init g t c = going_first c.new-firsts.ensures.items c.requires.plan c.requires.known.memo

pub evaluate_plan-joined_all-requires-clause-setting : goal.evaluate_plan-joined_all-requires-clause-setting
evaluate_plan-joined_all-requires-clause-setting g t c = c.requires.known.ready

pub evaluate_plan-joined_all-requires-clause-firsts : goal.evaluate_plan-joined_all-requires-clause-firsts
evaluate_plan-joined_all-requires-clause-firsts g t c = c.loop-rest.invariant.firsts_fit

pub evaluate_plan-joined_all-requires-clause-last : goal.evaluate_plan-joined_all-requires-clause-last
evaluate_plan-joined_all-requires-clause-last g t c = tt

pub evaluate_plan-returns-in_err-joined_all-in-Nothing : goal.evaluate_plan-returns-in_err-joined_all-in-Nothing
evaluate_plan-returns-in_err-joined_all-in-Nothing g t c =
    ends_by (err_is c.from_residual.result error.NoMemory c.from_residual.ensures) (no_memory c.loop-rest.invariant.memo c.loop-rest.invariant.grown)

pub evaluate_plan-returns-in-Nothing : goal.evaluate_plan-returns-in-Nothing
evaluate_plan-returns-in-Nothing g t c =
    none_left c.loop-rest.invariant c.in_ok-joined_all-in-Nothing.field-0 (ap plan c.in-Nothing.is ∙ plan_Nothing g.row.B.Denot g.row.B-Word.Denot g.row.B-Note.Denot g.row.B-Ctx.Denot) c.in_ok-joined_all-in-Nothing.ensures.value c.in_ok-joined_all-in-Nothing.ensures.fits

pub evaluate_plan-evaluate_arm-requires : goal.evaluate_plan-evaluate_arm-requires
evaluate_plan-evaluate_arm-requires g t c κs within =
    let s = c.args.setting.now in
    let inv = c.loop-rest.invariant in
    let is = ap plan c.in-Arm.is ∙ plan_Arm c.in-Arm.number c.in-Arm.named in (
      less_room c.args.room t 3 0 (omega arith) (omega (arith, c.if-room-eq0.false)) c.decreases,
      (within.0, (within.1.0, (within.1.1.0, (within.1.1.1.0, (within.1.1.1.1.0, (within.1.1.1.1.1, (record { ready = c.requires.known.ready; fits = rw inv.env c.requires.known.fits; memo = inv.memo }, (c.requires.asks, rw is at inv.plan)))))))),
    )

pub evaluate_plan-returns-in-Err : goal.evaluate_plan-returns-in-Err
evaluate_plan-returns-in-Err g t c = last_failed c.loop-rest.invariant c.in-Arm.number (map abs c.in-Arm.named.items) (ap plan c.in-Arm.is ∙ plan_Arm c.in-Arm.number c.in-Arm.named) c.in-Err.ensures

pub evaluate_plan-joined_all-requires-in-Arm-clause-setting : goal.evaluate_plan-joined_all-requires-in-Arm-clause-setting
evaluate_plan-joined_all-requires-in-Arm-clause-setting g t c = c.requires.known.ready

pub evaluate_plan-joined_all-requires-in-Arm-clause-firsts : goal.evaluate_plan-joined_all-requires-in-Arm-clause-firsts
evaluate_plan-joined_all-requires-in-Arm-clause-firsts g t c = c.loop-rest.invariant.firsts_fit

pub evaluate_plan-joined_all-requires-in-Arm-clause-last : goal.evaluate_plan-joined_all-requires-in-Arm-clause-last
evaluate_plan-joined_all-requires-in-Arm-clause-last g t c = c.in-Ok.ensures.fits

pub evaluate_plan-returns-in_err-joined_all-in-Arm : goal.evaluate_plan-returns-in_err-joined_all-in-Arm
evaluate_plan-returns-in_err-joined_all-in-Arm g t c =
    ends_by (err_is c.from_residual-in_err-joined_all-in-Arm.result error.NoMemory c.from_residual-in_err-joined_all-in-Arm.ensures) (no_memory c.in-Ok.ensures.memo (grown_then c.loop-rest.invariant.grown c.in-Ok.ensures.grown))

pub evaluate_plan-returns-in-Arm : goal.evaluate_plan-returns-in-Arm
evaluate_plan-returns-in-Arm g t c =
    last_joined c.loop-rest.invariant c.in-Arm.number (map abs c.in-Arm.named.items) (ap plan c.in-Arm.is ∙ plan_Arm c.in-Arm.number c.in-Arm.named) c.in-Ok.last c.in_ok-joined_all-in-Arm.field-0 c.in-Ok.ensures c.in_ok-joined_all-in-Arm.ensures.value c.in_ok-joined_all-in-Arm.ensures.fits

pub evaluate_plan-evaluate_plan-requires : goal.evaluate_plan-evaluate_plan-requires
evaluate_plan-evaluate_plan-requires g t c κs within =
    let b = g.B.Base.algebra in
    let s = c.args.setting.now in
    let inv = c.loop-rest.invariant in
    let rest = plan c.loop-rest.rest in
    let first = plan c.in-Both.first.value in
    let second = plan c.in-Both.second.value in
    let taken : plan c.into_inner-plan.result ≡ first = ap plan c.into_inner-plan.ensures in
    let is : rest ≡ both first second = ap plan c.in-Both.is ∙ plan_Both c.in-Both.first c.in-Both.second in (
      less_room c.args.room t 0 0 (omega arith) (omega (arith, c.if-room-eq0.false)) c.decreases,
      (within.0, (within.1.0, (within.1.1.0, (within.1.1.1.0, (within.1.1.1.1.0, (within.1.1.1.1.1, (record { ready = c.requires.known.ready; fits = rw inv.env c.requires.known.fits; memo = inv.memo }, (c.requires.asks, first_fits b g.B.Base.CAP s rest first second (plan c.into_inner-plan.result) is taken inv.plan)))))))),
    )

pub evaluate_plan-returns-in-Err-evaluate_plan : goal.evaluate_plan-returns-in-Err-evaluate_plan
evaluate_plan-returns-in-Err-evaluate_plan g t c =
    first_failed c.loop-rest.invariant (plan c.in-Both.first.value) (plan c.in-Both.second.value) (plan c.into_inner-plan.result) (ap plan c.in-Both.is ∙ plan_Both c.in-Both.first c.in-Both.second) (ap plan c.into_inner-plan.ensures) c.in-Err-evaluate_plan.ensures

pub evaluate_plan-returns-in-Err-pushed : goal.evaluate_plan-returns-in-Err-pushed
evaluate_plan-returns-in-Err-pushed g t c = no_memory c.in-Ok-evaluate_plan.ensures.memo (grown_then c.loop-rest.invariant.grown c.in-Ok-evaluate_plan.ensures.grown)

pub evaluate_plan-loop-rest-smaller : goal.evaluate_plan-loop-rest-smaller
evaluate_plan-loop-rest-smaller g t c =
    rest_smaller (plan c.loop-rest.rest) (plan c.in-Both.first.value) (plan c.in-Both.second.value) (plan c.into_inner-rest.result) (ap plan c.in-Both.is ∙ plan_Both c.in-Both.first c.in-Both.second) (ap plan c.into_inner-rest.ensures)

pub evaluate_plan-loop-rest-preserved : goal.evaluate_plan-loop-rest-preserved
evaluate_plan-loop-rest-preserved g t c =
    first_joined c.loop-rest.invariant (plan c.in-Both.first.value) (plan c.in-Both.second.value) (plan c.into_inner-plan.result) (ap plan c.in-Both.is ∙ plan_Both c.in-Both.first c.in-Both.second) (ap plan c.into_inner-plan.ensures)
    c.in-Ok-evaluate_plan.given (plan c.into_inner-rest.result) (ap plan c.into_inner-rest.ensures) c.in-Ok-pushed.firsts.items c.in-Ok-pushed.ensures c.in-Ok-evaluate_plan.ensures

-- ---- arm

pub evaluate_arm-returns-in_default : goal.evaluate_arm-returns-in_default
evaluate_arm-returns-in_default g t c = no_branch (arms c.args.arms) c.args.number (map abs c.args.named.items) (sym (ap (option_map branch) c.in_default.is) ∙ c.arm_at.ensures) c.requires.known.memo

pub evaluate_arm-returns-in_err-append_all : goal.evaluate_arm-returns-in_err-append_all
evaluate_arm-returns-in_err-append_all g t c = ends_by (err_is c.from_residual.result error.NoMemory c.from_residual.ensures) (no_memory c.requires.known.memo (no_more (uses_of c.args.log.now) (entries c.args.memo.now)))

pub evaluate_arm-evaluate_branch-requires : goal.evaluate_arm-evaluate_branch-requires
evaluate_arm-evaluate_branch-requires g t c κs within =
    let b = g.B.Base.algebra in
    let cap = g.B.Base.CAP in
    let s = c.args.setting.now in
    let named = c.args.named.items in
    let here = sym c.in-Some.ensures in
    let fits = subst (All (λ v. Fits b s.ctx.now cap (abs v))) (sym c.in_ok-append_all.ensures) (All-append (λ v. Fits b s.ctx.now cap (abs v)) c.args.frame.now.items named c.requires.known.fits (all_viewed (Fits b s.ctx.now cap) abs named c.requires.named)) in (
      same_room c.args.room t 2 3 (omega arith) c.decreases,
      (within.0, (within.1.0, (within.1.1.0, (within.1.1.1.0, (within.1.1.1.1.0, (within.1.1.1.1.1, (record { ready = c.requires.known.ready; fits = fits; memo = c.requires.known.memo }, branch_asks (length (spec_of s).funs) (group_of s) c.args.group (arms c.args.arms) c.args.number (branch c.in-Some.branch) c.requires.asks here))))))),
    )

pub evaluate_arm-returns-in_err-given : goal.evaluate_arm-returns-in_err-given
evaluate_arm-returns-in_err-given g t c =
    ends_by (err_is c.from_residual-in_err-given.result c.in_err-given.field-0.0 c.from_residual-in_err-given.ensures) (branch_failed (arms c.args.arms) c.args.number c.args.named.items (branch c.in-Some.branch) c.in-Some.ensures c.in_ok-append_all.ensures c.in_err-given.ensures)

pub evaluate_arm-returns : goal.evaluate_arm-returns
evaluate_arm-returns g t c = branch_gave (arms c.args.arms) c.args.number c.args.named.items (branch c.in-Some.branch) c.in-Some.ensures c.in_ok-append_all.ensures c.len-outer.result (c.len-outer.ensures ∙ c.args.frame.now.ok.0) c.truncate.ensures.items c.in_ok-given.ensures

-- ---- turn

pub evaluate_turn-loop-i-init : goal.evaluate_turn-loop-i-init
evaluate_turn-loop-i-init g t c = first_body c.requires.args c.requires.known.memo

pub evaluate_turn-evaluate_member-requires : goal.evaluate_turn-evaluate_member-requires
evaluate_turn-evaluate_member-requires g t c κs within =
    let s = c.args.setting.now in
    let inv = c.loop-i.invariant in (
      same_room c.args.room t 3 5 (omega arith) c.decreases,
      (within.0, (within.1.0, (within.1.1.0, (within.1.1.1.0, (within.1.1.1.1.0, (within.1.1.1.1.1, (record { ready = c.requires.known.ready; fits = All-nil (λ v. Fits g.B.Base.algebra s.ctx.now g.B.Base.CAP (abs v)); memo = inv.memo }, (args_here inv c.index-args-i.result c.index-args-i.is c.loop-i-test.true, inv.fits)))))))),
    )

pub evaluate_turn-returns-in_err-out : goal.evaluate_turn-returns-in_err-out
evaluate_turn-returns-in_err-out g t c = ends_by (err_is c.from_residual.result c.in_err-out.field-0.0 c.from_residual.ensures) (next_failed c.loop-i.invariant c.index-args-i.result c.index-args-i.is c.loop-i-test.true c.in_err-out.ensures)

pub evaluate_turn-loop-i-preserved : goal.evaluate_turn-loop-i-preserved
evaluate_turn-loop-i-preserved g t c = next_gave c.loop-i.invariant c.index-args-i.result c.index-args-i.is c.loop-i-test.true c.in_ok-out.ensures

pub evaluate_turn-returns : goal.evaluate_turn-returns
evaluate_turn-returns g t c = no_body_left c.loop-i.invariant c.loop-i-test.false

-- ---- a function of the group

pub evaluate_member-evaluate_body-requires : goal.evaluate_member-evaluate_body-requires
evaluate_member-evaluate_body-requires g t c κs within =
    let b = g.B.Base.algebra in
    let cap = g.B.Base.CAP in
    let s = c.args.setting.now in
    let there = subst (λ o. IfSome (option_map all_abs o) (ArgsOf b cap s c.args.group c.args.number)) c.in-Some.is c.requires.args in
    let are = subst (λ xs. ArgsOf b cap s c.args.group c.args.number (map abs xs)) (sym c.deref.ensures.value) there in (
      same_room c.args.room t 2 3 (omega arith) c.decreases,
      (within.0, (within.1.0, (within.1.1.0, (within.1.1.1.0, (within.1.1.1.1.0, (within.1.1.1.1.1, (c.requires.known, (are, c.requires.first)))))))),
    )

pub evaluate_member-returns-in-Some : goal.evaluate_member-returns-in-Some
evaluate_member-returns-in-Some g t c = some_body c.args.group c.args.number c.args.first c.in-Some.args c.deref.result.now c.in-Some.is c.deref.ensures.value c.evaluate_body.ensures

pub evaluate_member-returns-in-None : goal.evaluate_member-returns-in-None
evaluate_member-returns-in-None g t c = no_body c.args.group c.args.number c.in-None.is c.requires.first c.requires.known.memo

-- ---- body

pub evaluate_body-returns-in-Err : goal.evaluate_body-returns-in-Err
evaluate_body-returns-in-Err g t c = no_memory c.requires.known.memo (no_more (uses_of c.args.log.now) (entries c.args.memo.now))

pub evaluate_body-body_of-t-requires-clause-setting : goal.evaluate_body-body_of-t-requires-clause-setting
evaluate_body-body_of-t-requires-clause-setting g t c = c.requires.known.ready

pub evaluate_body-body_of-t-requires-clause-there : goal.evaluate_body-body_of-t-requires-clause-there
evaluate_body-body_of-t-requires-clause-there g t c = c.requires.args.there

pub evaluate_body-evaluate_tail-given-requires : goal.evaluate_body-evaluate_tail-given-requires
evaluate_body-evaluate_tail-given-requires g t c κs within =
    let b = g.B.Base.algebra in
    let cap = g.B.Base.CAP in
    let s = c.args.setting.now in
    let i = c.args.number in
    let xs = map abs c.args.args.now in
    let ready = c.requires.known.ready in
    let are = c.requires.args in
    let copied : map abs c.in-Ok.frame.items ≡ xs = c.in-Ok.ensures in
    let fits = all_viewed (Fits b s.ctx.now cap) abs c.in-Ok.frame.items (subst (All (Fits b s.ctx.now cap)) (sym copied) (args_fit b cap s xs are.are.fit)) in (
      same_room c.args.room t 1 2 (omega arith) c.decreases,
      (within.0, (within.1.0, (within.1.1.0, (within.1.1.1.0, (within.1.1.1.1.0, (within.1.1.1.1.1, (record { ready = ready; fits = fits; memo = c.requires.known.memo }, body_asks b cap s g.K.Specified.spec (g.K.Known.calls s.ctx.now) ready c.args.group i (tail c.body_of-t.result.now) c.body_of-t.ensures are.of_group))))))),
    )

pub evaluate_body-returns-in-Err-given : goal.evaluate_body-returns-in-Err-given
evaluate_body-returns-in-Err-given g t c =
    body_failed c.args.group c.args.number c.args.first c.args.args.now (tail c.body_of-t.result.now) (body_is g.B.Base.algebra g.B.Base.CAP c.args.setting.now g.K.Specified.spec (g.K.Known.calls c.args.setting.now.ctx.now) c.requires.known.ready c.args.group c.args.number (tail c.body_of-t.result.now) c.body_of-t.ensures (map abs c.args.args.now) c.requires.args) c.in-Ok.ensures c.in-Err-given.ensures

pub evaluate_body-join_given-requires-clause-setting : goal.evaluate_body-join_given-requires-clause-setting
evaluate_body-join_given-requires-clause-setting g t c = c.requires.known.ready

pub evaluate_body-join_given-requires-clause-left : goal.evaluate_body-join_given-requires-clause-left
evaluate_body-join_given-requires-clause-left g t c = c.requires.first

pub evaluate_body-join_given-requires-clause-right : goal.evaluate_body-join_given-requires-clause-right
evaluate_body-join_given-requires-clause-right g t c = c.in-Ok-given.ensures.fits

pub evaluate_body-returns-in_err-join_given-in-Ok-given : goal.evaluate_body-returns-in_err-join_given-in-Ok-given
evaluate_body-returns-in_err-join_given-in-Ok-given g t c = ends_by (err_is c.from_residual.result error.NoMemory c.from_residual.ensures) (no_memory c.in-Ok-given.ensures.memo c.in-Ok-given.ensures.grown)

pub evaluate_body-returns-in_ok-join_given-in-Ok-given : goal.evaluate_body-returns-in_ok-join_given-in-Ok-given
evaluate_body-returns-in_ok-join_given-in-Ok-given g t c =
    body_gave c.args.group c.args.number c.args.first c.args.args.now (tail c.body_of-t.result.now) (body_is g.B.Base.algebra g.B.Base.CAP c.args.setting.now g.K.Specified.spec (g.K.Known.calls c.args.setting.now.ctx.now) c.requires.known.ready c.args.group c.args.number (tail c.body_of-t.result.now) c.body_of-t.ensures (map abs c.args.args.now) c.requires.args) c.in-Ok.ensures c.in-Ok-given.given c.in_ok-join_given-in-Ok-given.field-0 c.in-Ok-given.ensures c.in_ok-join_given-in-Ok-given.ensures.value c.in_ok-join_given-in-Ok-given.ensures.fits

-- ---- call

pub value_of_call-recall_call-requires-clause-setting : goal.value_of_call-recall_call-requires-clause-setting
value_of_call-recall_call-requires-clause-setting g t c = c.requires.known.ready

pub value_of_call-recall_call-requires-clause-there : goal.value_of_call-recall_call-requires-clause-there
value_of_call-recall_call-requires-clause-there g t c = c.requires.there

pub value_of_call-recall_call-requires-clause-memo : goal.value_of_call-recall_call-requires-clause-memo
value_of_call-recall_call-requires-clause-memo g t c = c.requires.known.memo.true_of

pub value_of_call-returns-in-Err : goal.value_of_call-returns-in-Err
value_of_call-returns-in-Err g t c = call_without_memory c.requires.known.memo c.recall_call.ensures.grown

pub value_of_call-returns-in-Ok-Some : goal.value_of_call-returns-in-Ok-Some
value_of_call-returns-in-Ok-Some g t c =
    call_recalled c.requires.known.ready c.requires.there c.requires.args c.requires.known.memo c.deref.ensures.value c.in-Ok-Some.field-0-is c.in-Ok-Some.ensures.value c.in-Ok-Some.ensures.held c.recall_call.ensures.grown

pub value_of_call-evaluate_activation-requires : goal.value_of_call-evaluate_activation-requires
value_of_call-evaluate_activation-requires g t c κs within =
    let b = g.B.Base.algebra in
    let s = c.args.setting.now in
    let f = c.args.fun in
    let args = c.args.args.items in
    let same : map abs c.deref-2.result.now ≡ map abs args = ap (λ zs. map abs zs) c.deref-2.ensures.value in
    let typed = rw c.deref.ensures.value at (c.in-Ok-None.ensures.typed c.in-Ok-None.field-0-is) in
    let are = subst (AreArguments b s.ctx.now g.B.Base.CAP (spec_of s) f) (sym same) (are_arguments b g.B.Base.CAP s f (map abs args) c.requires.args typed) in (
      no_more_room c.args.room t c.saturating_sub-room.result 7 8 (omega arith) (omega (arith, c.saturating_sub-room.ensures)) c.decreases,
      (within.0, (within.1.0, (within.1.1.0, (within.1.1.1.0, (within.1.1.1.1.0, (within.1.1.1.1.1, (record { ready = c.requires.known.ready; fits = All-nil (λ v. Fits b s.ctx.now g.B.Base.CAP (abs v)); memo = c.requires.known.memo }, (c.requires.there, (are, c.new-own.ensures))))))))),
    )

pub value_of_call-returns-in-Err-evaluate_activation : goal.value_of_call-returns-in-Err-evaluate_activation
value_of_call-returns-in-Err-evaluate_activation g t c =
    call_failed (ap (λ zs. map abs zs) c.deref-2.ensures.value) (subst (λ xs. IsNew c.args.fun (map abs xs) (entries c.args.memo.now)) c.deref.ensures.value (c.in-Ok-None.ensures.unknown c.in-Ok-None.field-0-is)) c.recall_call.ensures.grown c.in-Err-evaluate_activation.ensures

pub value_of_call-record_call-requires-clause-memo : goal.value_of_call-record_call-requires-clause-memo
value_of_call-record_call-requires-clause-memo g t c = c.in-Ok.ensures.memo

pub value_of_call-record_call-requires-clause-value : goal.value_of_call-record_call-requires-clause-value
value_of_call-record_call-requires-clause-value g t c =
    let on = g.K.Known.calls c.args.setting.now.ctx.now in
    subst (λ xs. on c.args.fun xs ≡ gives (option_map abs c.in-Ok.value) (uses_of c.evaluate_activation.new.own)) (ap (λ zs. map abs zs) c.deref-2.ensures.value) c.in-Ok.ensures.value

pub value_of_call-returns-in_err-record_call-in-Ok : goal.value_of_call-returns-in_err-record_call-in-Ok
value_of_call-returns-in_err-record_call-in-Ok g t c =
    ends_by_call (err_is c.from_residual.result error.NoMemory c.from_residual.ensures)
    (call_not_kept (ap (λ zs. map abs zs) c.deref-2.ensures.value) (subst (λ xs. IsNew c.args.fun (map abs xs) (entries c.args.memo.now)) c.deref.ensures.value (c.in-Ok-None.ensures.unknown c.in-Ok-None.field-0-is)) c.recall_call.ensures.grown
    c.in-Ok.ensures c.record_call.ensures.memo c.record_call.ensures.grown c.in_err-record_call-in-Ok.ensures.unchanged)

pub value_of_call-returns-in_ok-record_call-in-Ok : goal.value_of_call-returns-in_ok-record_call-in-Ok
value_of_call-returns-in_ok-record_call-in-Ok g t c =
    call_kept (ap (λ zs. map abs zs) c.deref-2.ensures.value) (subst (λ xs. IsNew c.args.fun (map abs xs) (entries c.args.memo.now)) c.deref.ensures.value (c.in-Ok-None.ensures.unknown c.in-Ok-None.field-0-is)) c.recall_call.ensures.grown
    c.in-Ok.ensures c.record_call.ensures.memo c.record_call.ensures.grown c.requires.known.ready c.requires.there c.requires.args (c.in-Ok-None.ensures.new c.in-Ok-None.field-0-is) c.in_ok-record_call-in-Ok.ensures.value c.in_ok-record_call-in-Ok.ensures.log c.in_ok-record_call-in-Ok.ensures.kept

-- ---- activation

pub evaluate_activation-evaluate_body-requires : goal.evaluate_activation-evaluate_body-requires
evaluate_activation-evaluate_body-requires g t c κs within =
    let s = c.args.setting.now in (
      same_room c.args.room t 2 7 (omega arith) c.decreases,
      (within.0, (within.1.0, (within.1.1.0, (within.1.1.1.0, (within.1.1.1.1.0, (within.1.1.1.1.1, (record { ready = c.requires.known.ready; fits = All-nil (λ v. Fits g.B.Base.algebra s.ctx.now g.B.Base.CAP (abs v)); memo = c.requires.known.memo }, (record { there = c.requires.there; of_group = sym c.group_of-group.ensures; are = c.requires.args }, tt)))))))),
    )

pub evaluate_activation-returns-in_err-given : goal.evaluate_activation-returns-in_err-given
evaluate_activation-returns-in_err-given g t c =
    ends_by (err_is c.from_residual.result c.in_err-given.field-0.0 c.from_residual.ensures) (begin_failed g.met.B.Base.laws c.requires.known.ready c.requires.there c.requires.args c.requires.own c.group_of-group.ensures c.in_err-given.ensures)

pub evaluate_activation-evaluate_further_turns-requires : goal.evaluate_activation-evaluate_further_turns-requires
evaluate_activation-evaluate_further_turns-requires g t c κs within =
    let s = c.args.setting.now in
    let gave = begin_gave g.met.B.Base.laws c.requires.known.ready c.requires.there c.requires.args c.requires.own c.group_of-group.ensures c.in_ok-given.ensures in (
      same_room c.args.room t 6 7 (omega arith) c.decreases,
      (within.0, (within.1.0, (within.1.1.0, (within.1.1.1.0, (within.1.1.1.1.0, (within.1.1.1.1.1, (record { ready = c.requires.known.ready; fits = All-nil (λ v. Fits g.B.Base.algebra s.ctx.now g.B.Base.CAP (abs v)); memo = c.in_ok-given.ensures.memo }, (c.requires.there, (c.requires.args, gave))))))))),
    )

pub evaluate_activation-returns-then-asks_again : goal.evaluate_activation-returns-then-asks_again
evaluate_activation-returns-then-asks_again g t c =
    begin_goes_on g.met.B.Base.laws c.requires.known.ready c.requires.there c.requires.args c.requires.own c.group_of-group.ensures c.in_ok-given.ensures c.evaluate_further_turns.ensures

pub evaluate_activation-returns : goal.evaluate_activation-returns
evaluate_activation-returns g t c =
    begin_done g.met.B.Base.laws c.requires.known.ready c.requires.there c.requires.args c.requires.own c.group_of-group.ensures c.in_ok-given.ensures c.value_in.result c.asks_again.result c.asks_again.ensures c.if-asks_again.false c.value_in.ensures

-- ---- an activation that goes on

pub evaluate_further_turns-begin-requires-clause-setting : goal.evaluate_further_turns-begin-requires-clause-setting
evaluate_further_turns-begin-requires-clause-setting g t c = c.requires.known.ready

pub evaluate_further_turns-begin-requires-clause-there : goal.evaluate_further_turns-begin-requires-clause-there
evaluate_further_turns-begin-requires-clause-there g t c = c.requires.there

pub evaluate_further_turns-begin-requires-clause-args : goal.evaluate_further_turns-begin-requires-clause-args
evaluate_further_turns-begin-requires-clause-args g t c = c.requires.args

pub evaluate_further_turns-returns-in-Err : goal.evaluate_further_turns-returns-in-Err
evaluate_further_turns-returns-in-Err g t c = no_memory c.requires.known.memo (no_more (uses_of c.args.own.now) (entries c.args.memo.now))

pub evaluate_further_turns-loop-value-init : goal.evaluate_further_turns-loop-value-init
evaluate_further_turns-loop-value-init g t c = begun c.in-Ok.ensures.goes c.in-Ok.ensures.first c.requires.first c.requires.known.memo

pub evaluate_further_turns-advance-requires-clause-setting : goal.evaluate_further_turns-advance-requires-clause-setting
evaluate_further_turns-advance-requires-clause-setting g t c = c.requires.known.ready

pub evaluate_further_turns-advance-requires-clause-there : goal.evaluate_further_turns-advance-requires-clause-there
evaluate_further_turns-advance-requires-clause-there g t c = c.requires.there

pub evaluate_further_turns-advance-requires-clause-taken : goal.evaluate_further_turns-advance-requires-clause-taken
evaluate_further_turns-advance-requires-clause-taken g t c = turn_taken c.loop-value.invariant

pub evaluate_further_turns-returns-in-Ok-Done : goal.evaluate_further_turns-returns-in-Ok-Done
evaluate_further_turns-returns-in-Ok-Done g t c =
    activation_done c.loop-value.invariant c.advance.new.activity c.in-Ok-Done.field-0 c.in-Ok-Done.ensures.after c.in-Ok-Done.value c.in-Ok-Done.field-0-is
    (c.requires.known.ready.results c.args.fun (map abs c.args.args.now) c.requires.there c.requires.args)

pub evaluate_further_turns-returns-in-Ok-OutOfFuel : goal.evaluate_further_turns-returns-in-Ok-OutOfFuel
evaluate_further_turns-returns-in-Ok-OutOfFuel g t c = activation_deep c.loop-value.invariant c.advance.new.activity c.in-Ok-OutOfFuel.field-0 c.in-Ok-OutOfFuel.ensures.after c.in-Ok-OutOfFuel.field-0-is

pub evaluate_further_turns-returns-in-Err-advance : goal.evaluate_further_turns-returns-in-Err-advance
evaluate_further_turns-returns-in-Err-advance g t c = no_memory c.loop-value.invariant.memo c.loop-value.invariant.grown

pub evaluate_further_turns-args_of-args-requires : goal.evaluate_further_turns-args_of-args-requires
evaluate_further_turns-args_of-args-requires g t c = record { running = (goes_again c.loop-value.invariant c.advance.new.activity c.in-Ok-Again.field-0 c.in-Ok-Again.ensures.after c.in-Ok-Again.field-0-is).running }

pub evaluate_further_turns-evaluate_turn-requires : goal.evaluate_further_turns-evaluate_turn-requires
evaluate_further_turns-evaluate_turn-requires g t c κs within =
    let s = c.args.setting.now in
    let inv = c.loop-value.invariant in
    let fit = due_fit inv c.advance.new.activity c.in-Ok-Again.field-0 c.in-Ok-Again.ensures.after c.in-Ok-Again.field-0-is c.group_of-group.ensures c.args_of-args.ensures g.met.B.Base.laws c.requires.known.ready c.requires.there in (
      same_room c.args.room t 5 6 (omega arith) c.decreases,
      (within.0, (within.1.0, (within.1.1.0, (within.1.1.1.0, (within.1.1.1.1.0, (within.1.1.1.1.1, (record { ready = c.requires.known.ready; fits = All-nil (λ v. Fits g.B.Base.algebra s.ctx.now g.B.Base.CAP (abs v)); memo = inv.memo }, fit))))))),
    )

pub evaluate_further_turns-returns-in-Err-evaluate_turn : goal.evaluate_further_turns-returns-in-Err-evaluate_turn
evaluate_further_turns-returns-in-Err-evaluate_turn g t c =
    turn_failed c.loop-value.invariant c.advance.new.activity c.in-Ok-Again.field-0 c.in-Ok-Again.ensures.after c.in-Ok-Again.field-0-is c.group_of-group.ensures c.args_of-args.ensures g.met.B.Base.laws c.requires.known.ready c.requires.there c.in-Err-evaluate_turn.ensures

pub evaluate_further_turns-loop-value-smaller : goal.evaluate_further_turns-loop-value-smaller
evaluate_further_turns-loop-value-smaller g t c = c.in-Ok-Again.ensures.falls c.in-Ok-Again.field-0-is

pub evaluate_further_turns-loop-value-preserved : goal.evaluate_further_turns-loop-value-preserved
evaluate_further_turns-loop-value-preserved g t c = still_active c.loop-value.invariant c.advance.new.activity c.in-Ok-Again.field-0 c.in-Ok-Again.ensures.after c.in-Ok-Again.field-0-is c.group_of-group.ensures c.args_of-args.ensures c.in-Ok-evaluate_turn.ensures
