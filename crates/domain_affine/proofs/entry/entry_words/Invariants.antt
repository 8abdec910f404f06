use Rattle.std.proofs.Common.{◌≡◌, take}
use Rattle.domain_affine_laws.specs.Entry.{entry_words}
use Rattle.domain_affine.proofs.entry.entry_words.Given as goal

abbrev pub invariant-loop-cell : goal.invariant-loop-cell
invariant-loop-cell l = l.words.items ≡ entry_words l.lines l.fields (take l.cell-index l.cell-items)
