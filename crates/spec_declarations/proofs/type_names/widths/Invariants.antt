use Rattle.std.proofs.Common.{◌≡◌, ◌-◌, ◌++◌}
use Rattle.spec_declarations.specs.TypeNames.{numerals}
use Rattle.spec_declarations.proofs.type_names.widths.Given as goal

abbrev pub invariant-loop-w : goal.invariant-loop-w
invariant-loop-w l = l.texts.items ++ numerals l.w (65 - l.w) ≡ numerals 1 64
