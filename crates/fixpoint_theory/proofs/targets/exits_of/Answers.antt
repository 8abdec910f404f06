use Rattle.std.proofs.Common.{ℕ, Bool, true, false, ap, sym, ◌∙◌, append-nil}
use Rattle.std.specs.Prelude.{not}
use Rattle.fixpoint_theory.specs.Code.{is_code}
use Rattle.fixpoint_theory.proofs.Kept.{kept_more}
use Rattle.fixpoint_theory.proofs.targets.exits_of.Goals as goal
use Rattle.fixpoint_theory.proofs.targets.exits_of.Goals.{then-not-is_code+in_ok-push, else-not-is_code}

pub loop-to-preserved : goal.loop-to-preserved
loop-to-preserved g c =
    let test : ℕ → Bool = λ a. not (is_code (g.A.Analyser.analysis c.args.analyser.now).code a) in
    elim c.if-not-is_code.branch [
      | then-not-is_code+in_ok-push w ↦
          kept_more test c.args.targets.now c.loop-to.to-index true c.loop-to.exits.items c.if-not-is_code.exits.items c.loop-to-test.true
          (ap not (sym c.is_code.ensures ∙ w.if-not-is_code.true)) c.loop-to.invariant
          (ap (λ v. v.items) w.exits-is ∙ w.in_ok-push.ensures.items)
      | else-not-is_code w ↦
          kept_more test c.args.targets.now c.loop-to.to-index false c.loop-to.exits.items c.if-not-is_code.exits.items c.loop-to-test.true
          (ap not (sym c.is_code.ensures ∙ w.if-not-is_code.false)) c.loop-to.invariant
          (ap (λ v. v.items) w.exits-is ∙ sym (append-nil c.loop-to.exits.items))
    ]
