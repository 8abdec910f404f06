-- What a line says, as plain data.
use Rattle.std.specs.Prelude.{◌≡◌, ◌+◌, ◌<◌, ◌^◌, true, length}
use Rattle.state_text.specs.declared.said.Said.{Said as SaidOf}
use Rattle.state_text.specs.declared.said.Said.TheVariants as code
use Rattle.state_text.specs.Meaning.{Said, nothing, counter, cell, cells, faulty, given_fits, run_cells}

abbrev pub said_of : SaidOf → Said
said_of code.Nothing = nothing
said_of (code.Counter given) = counter given
said_of (code.Cell field key given) = cell field key given
said_of (code.Run field first bytes) = cells field (run_cells first bytes.items)
said_of (code.Faulty f) = faulty f

-- The program counter has 32 bits, and the keys of a run have 64.
abbrev pub HasRoom : SaidOf → Type 0
HasRoom (code.Run field first bytes) = first + length bytes.items < 2 ^ 64
HasRoom (code.Counter given) = given_fits given 32 ≡ true
HasRoom _ = Unit {0}
