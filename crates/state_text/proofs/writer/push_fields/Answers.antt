use Rattle.std.proofs.Common.{◌∙◌, ◌≤◌, length, min, sym, arith, append-nil}
use Rattle.std.specs.String.{string_bytes}
use Rattle.spec_ir.specs.Views.{specification}
use Rattle.state_text.proofs.Fields.{fields_done}
use Rattle.state_text.proofs.writer.push_fields.Goals as goal

pub returns : goal.returns
returns c =
    let end : min (length c.args.fields.now) (length c.args.parts.now) ≤ c.loop-i.i = omega (arith, c.min-i-end.ensures) in
    let done = fields_done (specification c.args.spec.now) c.args.fields.now c.args.parts.now c.loop-i.i end in
    let h = rw done at c.loop-i.invariant in
    sym (h ∙ append-nil (string_bytes c.loop-i.out))
