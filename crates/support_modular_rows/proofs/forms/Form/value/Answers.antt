use Rattle.std.proofs.Common.{◌≡◌, ◌≤◌, ◌+◌, ◌%◌, ◌^◌, min, length, drop, ap, ◌∙◌, arith}
use Rattle.support_modular_rows.specs.Submodule.{dot}
use Rattle.support_modular_rows.proofs.Dots.{dot_end}
use Rattle.support_modular_rows.proofs.forms.Form.value.Goals as goal

pub returns : goal.returns
returns c =
    let form_is : c.as_slice-form.result.now ≡ c.args.self.now = c.as_slice-form.ensures.value ∙ c.self.view_is in
    let past : min (length c.as_slice-form.result.now) (length c.args.row.now) ≤ c.loop-i.i = omega arith in
    let none = dot_end c.loop-i.i c.as_slice-form.result.now c.args.row.now past in
    let whole : c.loop-i.sum ≡ c.loop-i.sum + dot (drop c.loop-i.i c.as_slice-form.result.now) (drop c.loop-i.i c.args.row.now) = omega arith in
    ap (λ y. y % 2 ^ 32) whole ∙ c.loop-i.invariant ∙ ap (λ cs. dot cs c.args.row.now % 2 ^ 32) form_is
