-- Which words agree with the parts of a decode row.
use Rattle.std.specs.Prelude.{ℕ, ◌+◌, ◌^◌, ◌/◌, ◌%◌, Bool, true, ◌&&◌, ◌==◌, List, [], ◌∷◌}
use Rattle.spec_ir.specs.declared.row.WordPart.{WordPart}
use Rattle.spec_ir.specs.declared.row.WordPart.TheVariants.{Fixed, Field}

abbrev pub part_width : WordPart → ℕ
part_width (Fixed v w) = w
part_width (Field w) = w

abbrev pub width_sum : List WordPart → ℕ
width_sum [] = 0
width_sum (p ∷ parts) = part_width p + width_sum parts

-- bit n of a number, the least significant being bit 0
abbrev pub bit : ℕ → ℕ → Bool
bit v n = ((v / 2 ^ n) % 2) == 1

-- the number in the w bits of a word that stand above n lower ones
abbrev pub bits_above : ℕ → ℕ → ℕ → ℕ
bits_above n w code = (code / 2 ^ n) % 2 ^ w

-- Whether a word agrees with each fixed part. The first part is the most significant bits.
abbrev pub agrees : ℕ → List WordPart → Bool
agrees code [] = true
agrees code (Fixed v w ∷ parts) = bits_above (width_sum parts) w code == v && agrees code parts
agrees code (Field w ∷ parts) = agrees code parts
