use Rattle.std.proofs.Common.{◌+◌, refl, ap, sym, ◌∙◌, subst}
use Rattle.support_modular_rows.specs.Values.{Forgotten}
use Rattle.support_modular_rows.proofs.Forgets.{forgotten_none}
use Rattle.support_modular_rows.proofs.Steps.{forget_known, forget_more}
use Rattle.support_modular_rows.proofs.forms.forget.Goals as goal
use Rattle.support_modular_rows.proofs.forms.forget.Goals.{then-is_none, else-is_none}

pub loop-cell-init : goal.loop-cell-init
loop-cell-init c = record { same = refl; cells = forgotten_none c.args.forms.now (c.args.into.now.k + 1) c.args.into.now.rows }

pub loop-cell-preserved : goal.loop-cell-preserved
loop-cell-preserved c =
    let k = c.args.into.now.k in
    let fs = c.args.forms.now in
    let old = c.args.into.now.rows in
    let x = c.index-forms-cell.result in
    elim c.if-is_none.branch [
      | then-is_none w ↦ record {
        same = ap (λ s. s.k) w.into-is ∙ w.havoc.ensures.same ∙ c.loop-cell.invariant.same;
        cells = subst (λ s. Forgotten c.args.forms.now (c.args.into.now.k + 1) (c.loop-cell.cell + 1) c.args.into.now.rows s.rows) (sym w.into-is)
            (forget_more k c.loop-cell.cell fs x c.is_none.result old c.loop-cell.into w.havoc.new.self c.index-forms-cell.is c.loop-cell-test.true c.requires.forms c.is_none.ensures w.if-is_none.true
            c.loop-cell.invariant.same w.havoc.ensures.members c.loop-cell.invariant.cells);
      }
      | else-is_none w ↦ record {
        same = ap (λ s. s.k) w.into-is ∙ c.loop-cell.invariant.same;
        cells = subst (λ s. Forgotten c.args.forms.now (c.args.into.now.k + 1) (c.loop-cell.cell + 1) c.args.into.now.rows s.rows) (sym w.into-is)
            (forget_known k c.loop-cell.cell fs x c.is_none.result old c.loop-cell.into.rows c.index-forms-cell.is c.loop-cell-test.true c.is_none.ensures w.if-is_none.false c.loop-cell.invariant.cells);
      }
    ]
