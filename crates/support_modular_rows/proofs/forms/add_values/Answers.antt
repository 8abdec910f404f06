use Rattle.std.proofs.Common.{◌≡◌, ◌+◌, ◌<◌, ℕ, refl, ap, ◌∙◌, length, get_or, arith}
use Rattle.support_modular_rows.specs.Forms.{HasEntry}
use Rattle.support_modular_rows.specs.Values.{form_at}
use Rattle.support_modular_rows.proofs.Steps.{values_start, values_step}
use Rattle.support_modular_rows.proofs.forms.add_values.Goals as goal

pub loop-i-init : goal.loop-i-init
loop-i-init c = record { same = refl; images = values_start c.args.from.now.k c.args.forms.now c.args.into.now.rows c.requires.new }

pub loop-i-preserved : goal.loop-i-preserved
loop-i-preserved c =
    let same : c.loop-i.into.k ≡ c.args.from.now.k = c.loop-i.invariant.same ∙ c.requires.columns in
    let cells : (i : ℕ) → i < c.args.from.now.k → HasEntry (form_at c.args.forms.now i) c.row.result.now (get_or c.values-image.result (i + 1) 0) =
    λ i lt. c.values-image.ensures.cells i (let w : i < length c.args.forms.now = omega arith in w) in
    record {
      same = c.insert-grew.ensures.same ∙ c.loop-i.invariant.same;
      images = values_step c.args.from.now c.loop-i.into c.insert-grew.new.self c.args.forms.now c.loop-i.i (length c.args.forms.now + 1) c.row.result.now c.values-image.result
          same c.row.ensures.item c.row.ensures.len c.values-image.ensures.first cells (ap (λ n. n + 1) c.requires.forms) c.insert-grew.ensures.members c.loop-i.invariant.images;
    }
