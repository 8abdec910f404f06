-- What the code's answers are as those of the definitions.
use Rattle.std.specs.Prelude.{◌≡◌, List, ℕ, Result, Ok, Err, map}
use Rattle.std.specs.Borrow.{Bor}
use Rattle.base_trait.specs.Uses.{seen}
use Rattle.text_lines.specs.Lines.{Lines, lines}
use Rattle.text_table_reader.specs.Heads.{Faulty}
use Rattle.text_table_reader.specs.Ends as ends
use Rattle.text_table_reader.specs.declared.block.End.{End}
use Rattle.text_table_reader.specs.declared.head.HeadStop.{HeadStop}
use Rattle.text_table_reader.specs.declared.head.HeadStop.TheVariants.{At, NoMemory}

-- Lines are left, or the first faulty one is this, where memory lasts.
abbrev pub Leaves : Result (Bor (List ℕ)) HeadStop → Result Lines Faulty → Type 0
Leaves (Ok rest) want = want ≡ Ok (lines rest.now)
Leaves (Err (At rule left)) want = want ≡ Err (record { rule = rule; left = lines left.now })
Leaves (Err NoMemory) want = Unit {0}

-- what stands behind an element, and the lines behind that
abbrev pub end_of : End → Lines → ends.End
end_of e ls = record { uses = map seen e.uses.items; next = e.next.items; exits = e.exits.items; left = ls }
