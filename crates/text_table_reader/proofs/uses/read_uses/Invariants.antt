use Rattle.std.proofs.Common.{◌≡◌, [], length, map}
use Rattle.base_trait.specs.Uses.{seen}
use Rattle.spec_ir.specs.Views.{specification}
use Rattle.text_lines.specs.Outcomes.{all_said}
use Rattle.text_table_reader.specs.Ends.{is_word_of, next_use}
use Rattle.text_table_reader.proofs.uses.read_uses.Given as goal

abbrev pub invariant-uses : goal.invariant-uses
invariant-uses l =
    all_said (next_use (specification l.at.spec.now) (is_word_of l.at.image.now) l.at.fields.now) [] l.fn.lines
    ≡ all_said (next_use (specification l.at.spec.now) (is_word_of l.at.image.now) l.at.fields.now) (map seen l.uses.items) l.lines

abbrev pub decreases-uses : goal.decreases-uses
decreases-uses l = length l.lines
