use Rattle.std.proofs.Common.{length, ap, ◌∙◌, refl}
use Rattle.spec_declarations.proofs.Numerals.{numerals_length}
use Rattle.spec_declarations.proofs.type_names.word_meaning.Goals as goal

pub loop-width-init : goal.loop-width-init
loop-width-init c = record { found = refl; next = refl; count = ap length c.requires ∙ numerals_length 1 64 }
