-- Operations on one word, and casts that change numbers.
use Rattle.std.specs.Prelude.{ℕ}
use Rattle.word_operations.specs.Op1.{op1_of}
use Rattle.word_operations.specs.Casts.{sext_of, trunc_of}
use Rattle.word_operations.specs.Width.{IsWidth}
use Rattle.base_trait.specs.Laws.{IsExtension}
use Rattle.base_strides.specs.Rows.{op1_row, sext_row, trunc_row}
use Rattle.base_strides.specs.declared.changes.Change.{Change}
use Rattle.base_strides.specs.declared.changes.Change.TheVariants.{Operation, Sign, Cut}
use Rattle.base_strides.specs.declared.stretch.Stretch.{Stretch}

-- what becomes of a number, and of a stretch
abbrev pub changed : Change → ℕ → ℕ
changed (Operation op w) = op1_of op w
changed (Sign from to) = sext_of from to
changed (Cut from to) = trunc_of from to

abbrev pub changed_stretch : Change → Stretch → Stretch
changed_stretch (Operation op w) = op1_row op w
changed_stretch (Sign from to) = sext_row from to
changed_stretch (Cut from to) = trunc_row to

abbrev pub width_before : Change → ℕ
width_before (Operation op w) = w
width_before (Sign from to) = from
width_before (Cut from to) = from

abbrev pub width_after : Change → ℕ
width_after (Operation op w) = w
width_after (Sign from to) = to
width_after (Cut from to) = to

abbrev pub IsChange : Change → Type 0
IsChange (Operation op w) = IsWidth w
IsChange (Sign from to) = IsExtension from to
IsChange (Cut from to) = IsExtension to from
