use Rattle.std.specs.Prelude.{None}
use Rattle.std.specs.String.{string_bytes}
use Rattle.spec_ir.specs.Views.{specification}
use Rattle.fixpoint_theory.specs.Views.{listing}
use Rattle.fixpoint_open_tables.specs.Endings.{ends_in}
use Rattle.text_tables.proofs.OpenBlocking.{with_ending}
use Rattle.text_tables.proofs.left_open.push_open_block.Goals as goal

pub returns : goal.returns
returns g c =
    let spec = specification c.args.spec.now in
    let ends = ends_in c.args.endings.now in
    with_ending g.D.WriteElement.word_text (g.D.WriteElement.IsText spec) spec (λ a. None) ends c.args.at (listing (λ x. x) c.args.block.now) (ends c.args.at)
    (string_bytes c.args.out.now) (string_bytes c.push_block.new.out) (string_bytes c.push_ending.new.out) c.in_ok-push_block.ensures c.in_ok-push_ending.ensures
