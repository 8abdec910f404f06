-- The base of definitions and uses: words are sets of at most one number, and notes are sets of stamps.
use Rattle.std.specs.Prelude.{ℕ, true, List, Option}
use Rattle.base_trait.specs.Algebra.{Algebra}
use Rattle.base_trait.specs.declared.uses.Stamp.{Stamp}
use Rattle.base_kset.specs.Meaning.{words}
use Rattle.base_defuse.specs.Notes.{stamp_notes}

abbrev pub defuse : Algebra (Option (List ℕ)) (List Stamp) (Unit {0})
defuse = record { joins = true; words = words 1; notes = stamp_notes }
