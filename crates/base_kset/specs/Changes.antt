-- What becomes of one number.
use Rattle.std.specs.Prelude.{ℕ}
use Rattle.word_operations.specs.Op1.{op1_of}
use Rattle.word_operations.specs.Casts.{zext_of, sext_of, trunc_of}
use Rattle.word_operations.specs.Width.{IsWidth}
use Rattle.base_trait.specs.Laws.{IsExtension}
use Rattle.base_kset.specs.declared.changes.Change.{Change}
use Rattle.base_kset.specs.declared.changes.Change.TheVariants.{Operation, Zero, Sign, Cut}

abbrev pub changed : Change → ℕ → ℕ
changed (Operation op w) x = op1_of op w x
changed (Zero from to) x = zext_of from to x
changed (Sign from to) x = sext_of from to x
changed (Cut from to) x = trunc_of from to x

abbrev pub width_before : Change → ℕ
width_before (Operation op w) = w
width_before (Zero from to) = from
width_before (Sign from to) = from
width_before (Cut from to) = from

abbrev pub width_after : Change → ℕ
width_after (Operation op w) = w
width_after (Zero from to) = to
width_after (Sign from to) = to
width_after (Cut from to) = to

abbrev pub IsChange : Change → Type 0
IsChange (Operation op w) = IsWidth w
IsChange (Zero from to) = IsExtension from to
IsChange (Sign from to) = IsExtension from to
IsChange (Cut from to) = IsExtension to from
