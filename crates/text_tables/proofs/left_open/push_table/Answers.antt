use Rattle.std.proofs.Common.{◌∙◌}
use Rattle.std.specs.String.{string_bytes}
use Rattle.spec_ir.specs.Views.{specification}
use Rattle.fixpoint_theory.specs.Views.{listings}
use Rattle.fixpoint_open_tables.specs.Endings.{ends_in}
use Rattle.text_tables.proofs.OpenBlocking.{with_head}
use Rattle.text_tables.proofs.left_open.push_table.Goals as goal

pub returns : goal.returns
returns g c =
    let spec = specification c.args.spec.now in
    with_head g.D.WriteElement.word_text (g.D.WriteElement.IsText spec) spec c.args.image.now c.args.base.now (listings (λ x. x) c.args.table.now) (ends_in c.args.endings.now)
    _ (string_bytes c.args.out.now) (string_bytes c.push_head.new.out) (string_bytes c.push_blocks.new.out) (c.deref.ensures.value ∙ c.in_ok-addresses.ensures) c.in_ok-push_head.ensures c.in_ok-push_blocks.ensures
