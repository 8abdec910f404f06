-- Which elements of each base their texts tell.
use Rattle.std.specs.Prelude.{ℕ, Bool, List}
use Rattle.base_trait.specs.declared.uses.Stamp.{Stamp}
use Rattle.support_command_line.specs.declared.bases.BaseName.{BaseName}
use Rattle.support_command_line.specs.declared.bases.BaseName.TheVariants as b
use Rattle.abstract_value_laws.specs.Abs.{Parts}
use Rattle.domain_laws.specs.States.{StateType}
use Rattle.text_words.specs.Readings.{NothingFits, StampsFit}
use Rattle.analysis_table_laws.specs.Domains.{HasNone}
use Rattle.analysis_table_laws.specs.Values.{PartsHaveNotes}
use Rattle.program_domains.specs.Named.{domain_of}

-- What is asked of elements, where a test tells the addresses of code words.
abbrev pub Asks : Type 0 → Type 1
Asks E = (ℕ → Bool) → E → Type 0

-- of cells whose notes tell nothing
abbrev pub plain_cells : {W : Type 0} → Asks (Parts W (Unit {0}))
plain_cells code = PartsHaveNotes (NothingFits code)

-- of cells with stamps: each note has some, the entry first, then code addresses, ascending
abbrev pub stamped_cells : {W : Type 0} → Asks (Parts W (List Stamp))
stamped_cells code = PartsHaveNotes (StampsFit code)

-- of relations nothing
abbrev pub no_cells : {E : Type 0} → Asks E
no_cells code = HasNone

-- of both parts
abbrev pub both_parts : {E F : Type 0} → Asks E → Asks F → Asks (E × F)
both_parts first second code x = first code x.0 × second code x.1

abbrev pub IsPrintableIn : (t : StateType) (base : BaseName) → Asks (domain_of t base).Element
IsPrintableIn t b.Const = plain_cells
IsPrintableIn t b.KSet = plain_cells
IsPrintableIn t b.Interval = plain_cells
IsPrintableIn t b.Affine = no_cells
IsPrintableIn t b.DefUse = stamped_cells
IsPrintableIn t b.ConstInterval = both_parts plain_cells plain_cells
IsPrintableIn t b.KSetInterval = both_parts plain_cells plain_cells
IsPrintableIn t b.KSetAffine = both_parts plain_cells no_cells
IsPrintableIn t b.KSetDefUse = both_parts plain_cells stamped_cells
IsPrintableIn t b.IntervalAffine = both_parts plain_cells no_cells
IsPrintableIn t b.IntervalDefUse = both_parts plain_cells stamped_cells
IsPrintableIn t b.AffineDefUse = both_parts no_cells stamped_cells
IsPrintableIn t b.Bits = plain_cells
IsPrintableIn t b.KSetBits = both_parts plain_cells plain_cells
IsPrintableIn t b.IntervalBits = both_parts plain_cells plain_cells
IsPrintableIn t b.BitsDefUse = both_parts plain_cells stamped_cells
IsPrintableIn t b.Strides = plain_cells
IsPrintableIn t b.StridesAffine = both_parts plain_cells no_cells
IsPrintableIn t b.StridesDefUse = both_parts plain_cells stamped_cells
