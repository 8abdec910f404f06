use Rattle.std.proofs.Common.{◌≡◌, ◌+◌, drop, length}
use Rattle.spec_declarations.specs.TypeNames.{number_from}
use Rattle.spec_declarations.proofs.type_names.word_meaning.Given as goal

abbrev pub invariant-loop-width : goal.invariant-loop-width
invariant-loop-width l = record {
  found : number_from 1 l.widths l.digits ≡ number_from l.w (drop l.width-index l.widths) l.digits;
  next : l.w ≡ l.width-index + 1;
  count : length l.widths ≡ 64;
}
