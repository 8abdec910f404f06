-- The bits that a decode row fixes.
use Rattle.std.specs.Prelude.{ℕ, zero, suc, Bool, true, false, ◌&&◌, Option, Some, None, List, [], ◌∷◌, ◌++◌, replicate}
pub use Rattle.spec_ir.specs.Rows.{bit}
use Rattle.syntax_parser.specs.declared.tree.PartDecl.{PartDecl}
use Rattle.syntax_parser.specs.declared.tree.PartDecl.TheVariants.{Fixed, Named}

-- the w low bits of a number, the most significant first
abbrev pub bits_of : ℕ → ℕ → List (Option Bool)
bits_of v zero = []
bits_of v (suc w) = Some (bit v w) ∷ bits_of v w

-- the bits of a part: those of its number, or as many that are free
abbrev pub part_bits : PartDecl → List (Option Bool)
part_bits (Fixed v w span) = bits_of v.v w.v
part_bits (Named f w span) = replicate w.v None

-- the bits of a row, the most significant first
abbrev pub row_bits : List PartDecl → List (Option Bool)
row_bits [] = []
row_bits (p ∷ parts) = part_bits p ++ row_bits parts

-- two bits agree but where both are fixed, to different values
abbrev pub bits_agree : Option Bool → Option Bool → Bool
bits_agree (Some true) (Some false) = false
bits_agree (Some false) (Some true) = false
bits_agree _ _ = true

abbrev pub all_agree : List (Option Bool) → List (Option Bool) → Bool
all_agree (a ∷ as_) (b ∷ bs) = bits_agree a b && all_agree as_ bs
all_agree _ _ = true
