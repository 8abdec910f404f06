use Rattle.std.proofs.Common.{refl, sym, ◌∙◌}
use Rattle.spec_match_compiler.specs.Views.{knowledge}
use Rattle.spec_match_compiler.proofs.Grown.{kept_grown, left_out, still_out}
use Rattle.spec_match_compiler.proofs.candidate.remaining_candidates.Goals.{then-can_match+in_ok-push, else-can_match}
use Rattle.spec_match_compiler.proofs.candidate.remaining_candidates.Goals as goal

pub loop-row-init : goal.loop-row-init
loop-row-init c = rw c.new-out.ensures.items refl

pub loop-row-preserved : goal.loop-row-preserved
loop-row-preserved c =
    let rows = c.args.left.now in
    let k = knowledge c.args.known.now in
    elim c.if-can_match.branch [
      | then-can_match+in_ok-push w ↦ rw w.out-is (kept_grown rows k c.loop-row.row-index c.row-item.result c.row-item.is c.loop-row-test.true c.loop-row.out.items w.push.new.self.items w.in_ok-push.ensures.items (sym c.can_match.ensures ∙ w.if-can_match.true) ∙ c.loop-row.invariant)
      | else-can_match w ↦ rw w.out-is (left_out rows k c.loop-row.row-index c.row-item.result c.row-item.is c.loop-row-test.true c.loop-row.out.items (sym c.can_match.ensures ∙ w.if-can_match.false) ∙ c.loop-row.invariant)
    ]

pub returns : goal.returns
returns c = still_out _ c.loop-row.out.items c.args.left.now (knowledge c.args.known.now) c.loop-row.row-index c.loop-row-test.false c.loop-row.invariant
