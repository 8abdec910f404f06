-- The sixth pass: decode rows.
use Rattle.std.specs.Prelude.{ℕ, Bool, Option, Some, None, List, [], ◌∷◌, ◌++◌, if◌then◌else◌}
use Rattle.syntax_parser.specs.Tree as e
use Rattle.syntax_parser.specs.Tree.{Row, Item, Tree}
use Rattle.spec_ir.specs.declared.spec_error.SpecError.{SpecError}
use Rattle.spec_ir.specs.declared.spec_error.SpecError.TheVariants.{BadPattern, Overlap}
use Rattle.spec_ir.specs.Answers.{unless, ◌then◌}
use Rattle.spec_ir.specs.Environment.{Environment}
use Rattle.spec_decode_rows.specs.Fits.{row_fits}
use Rattle.spec_decode_rows.specs.Bits.{row_bits, all_agree}

-- an earlier row: the bits that it fixes, and its constructor
pub record EarlierRow : Type 0 where
  pub bits : List (Option Bool)
  pub case : List ℕ

abbrev pub earlier_of : Row → EarlierRow
earlier_of r = record { bits = row_bits r.parts; case = r.case.text }

-- The first earlier row that agrees with a row on every bit that both fix (T13). Guards are left aside.
abbrev pub overlap_fault : List EarlierRow → Row → Option SpecError
overlap_fault [] r = None
overlap_fault (q ∷ earlier) r = if all_agree q.bits (row_bits r.parts) then Some (Overlap r.span q.case r.case.text) else overlap_fault earlier r

module _ (env : Environment) (instr : Option ℕ) where
  -- a row behind earlier ones: it is wrong in itself (T12), or overlaps one of them
  abbrev pub row_fault : List EarlierRow → Row → Option SpecError
  row_fault earlier r = unless (row_fits env instr r) (BadPattern r.span) then overlap_fault earlier r

  abbrev pub rows_fault : List EarlierRow → List Row → Option SpecError
  rows_fault earlier [] = None
  rows_fault earlier (r ∷ rows) = row_fault earlier r then rows_fault (earlier ++ earlier_of r ∷ []) rows

-- the rows of a tree: there is one section at most
abbrev pub rows_of : List Item → List Row
rows_of [] = []
rows_of (e.decode d ∷ items) = d.rows
rows_of (_ ∷ items) = rows_of items

-- The first fault of decode rows, where the datatype of instructions has this number.
abbrev pub decode_fault : Environment → Option ℕ → Tree → Option SpecError
decode_fault env instr tree = rows_fault env instr [] (rows_of tree.items)
