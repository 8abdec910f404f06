-- The cell that a slice is asked for.
use Rattle.std.specs.Prelude.{◌≡◌, ℕ, List, Option, Some, None, Result, Ok, Err}
use Rattle.spec_ir.specs.Specification.{Spec}
use Rattle.text_slices.specs.Asked.{asked}
use Rattle.text_slices.specs.declared.slice_cell.SliceCell.{SliceCell}
use Rattle.program_common.specs.Outcome.{Refusal, bad_words}

-- a cell, or that the words are bad
abbrev pub some_cell : Option SliceCell → Result SliceCell Refusal
some_cell None = Err bad_words
some_cell (Some cell) = Ok cell

-- The cell that a text is: NAME[KEY] of a map field of the states and one of its keys, or NAME[*] of one. Else the words are bad.
abbrev pub CellOf : Spec → List ℕ → Result SliceCell Refusal → Type 0
CellOf spec text found = found ≡ some_cell (asked spec text)
