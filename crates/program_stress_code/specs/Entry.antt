-- Where made code begins.
use Rattle.std.specs.Prelude.{ℕ, List, ◌++◌, codes}

-- the address of its first word
abbrev pub code_base : ℕ
code_base = 65536

-- An entry there, in which two cells, of which the code reads and writes the first, are given so.
abbrev pub entry_with : List ℕ → List ℕ
entry_with given = codes "pc 00010000\ngpr[3] " ++ given ++ codes "\ncr[2] " ++ given ++ codes "\nspr[LR] fffffffc\n"

-- the entry that is analysed: both may be any number
abbrev pub entry_text : List ℕ
entry_text = entry_with (codes "any")

-- the same with 0 in place of any, from which the code runs
abbrev pub start_text : List ℕ
start_text = entry_with (codes "0")
