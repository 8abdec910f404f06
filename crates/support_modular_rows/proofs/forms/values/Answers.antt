use Rattle.std.proofs.Common.{◌≢◌, ◌<◌, ◌+◌, sym, ◌∙◌, subst, arith, Some, None, slice_get, unwrap_or, get_or-set_other}
use Rattle.std.proofs.Math.ListN.{length-set}
use Rattle.support_modular_rows.specs.Forms.{HasEntry}
use Rattle.support_modular_rows.proofs.Entries.{form_read, entries_more}
use Rattle.support_modular_rows.proofs.forms.values.Goals as goal
use Rattle.support_modular_rows.proofs.forms.values.Goals.{in-Some, in-None}

pub loop-i-preserved : goal.loop-i-preserved
loop-i-preserved c =
    let lt : c.loop-i.i < 64 = omega arith in
    let ne : 0 ≢ c.loop-i.i + 1 = omega arith in
    let form = form_read c.args.forms.now c.loop-i.i c.index-forms-i.result c.index-forms-i.is c.loop-i-test.true in
    let here : HasEntry (unwrap_or (slice_get c.args.forms.now c.loop-i.i) None) c.args.row.now c.match-forms-i.image =
    elim c.match-forms-i.branch [
      | in-Some w ↦
          subst (λ f. HasEntry f c.args.row.now c.match-forms-i.image) (sym (form ∙ w.in-Some.is))
          (subst (λ y. HasEntry (Some w.in-Some.form) c.args.row.now y) (sym w.image-is) w.value.ensures)
      | in-None w ↦ subst (λ f. HasEntry f c.args.row.now c.match-forms-i.image) (sym (form ∙ w.in-None.is)) w.image-is
    ] in
    record {
      size = length-set _ _ _ ∙ c.loop-i.invariant.size;
      first = get_or-set_other c.loop-i.image (c.loop-i.i + 1) 0 c.match-forms-i.image 0 ne ∙ c.loop-i.invariant.first;
      cells = entries_more c.args.forms.now c.args.row.now c.loop-i.image c.loop-i.i c.match-forms-i.image c.loop-i.invariant.size lt c.loop-i.invariant.cells here;
    }
