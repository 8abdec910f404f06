-- What is read of lines as an element of each domain.
use Rattle.std.specs.Prelude.{◌≡◌, ℕ, Bool, List, Option, Some, None, codes}
use Rattle.support_modular_rows.specs.Submodule.{Submodule}
use Rattle.domain_affine_element_laws.specs.Elements.{SameMembers}
use Rattle.spec_ir.specs.Specification.{Spec}
use Rattle.abstract_value_laws.specs.Abs.{Parts}
use Rattle.text_words.specs.Readings.{Readings}
use Rattle.text_lines.specs.Lines.{Lines}
use Rattle.text_lines.specs.Outcomes.{Reading}
use Rattle.text_part_readers.specs.Cells.{states_read}
use Rattle.text_part_readers.specs.Parts.{part_read}
use Rattle.text_part_readers.specs.Rows.{rows_read}

-- Of a specification's states, where this tells the addresses of code words: from these lines on, an element and the lines behind it;
-- or none, and the lines from the first faulty one on.
abbrev pub ElementReading : Type 0 → Type 1
ElementReading E = Spec → (ℕ → Bool) → Lines → Option E → Lines → Type 0

-- ---- cells

abbrev pub CellsRead : {W N : Type 0} → Readings W N → ℕ → List ℕ → ElementReading (Parts W N)
CellsRead readings cap name spec code ls r rest = (r, rest) ≡ part_read name (states_read readings code spec cap) ls

-- ---- affine relations

abbrev pub all_rows : List (List ℕ) × Lines → Reading (List (List ℕ))
all_rows read = (Some read.0, read.1)

-- the rows of an element over k cells
abbrev pub affine_read : ℕ → Lines → Reading (List (List ℕ))
affine_read k ls = part_read (codes "affine") (λ others. all_rows (rows_read k others)) ls

-- The submodule is that of the rows, if there are some; they may be others than its own.
abbrev pub AreRowsRead : ℕ → Option Submodule → Option (List (List ℕ)) → Type 0
AreRowsRead k None None = Unit {0}
AreRowsRead k (Some x) (Some rows) = (x.k ≡ k) × SameMembers k x.rows rows
AreRowsRead k _ _ = ⊥

abbrev pub AffineRead : ℕ → ElementReading Submodule
AffineRead k spec code ls r rest = AreRowsRead k r (affine_read k ls).0 × (rest ≡ (affine_read k ls).1)

-- ---- pairs: the first part, then the second

pub data PairRead {A B : Type 0} (First : ElementReading A) (Second : ElementReading B) (spec : Spec) (code : ℕ → Bool) (ls : Lines) : Option (A × B) → Lines → Type 0 where
  no_first : {rest : Lines} → First spec code ls None rest → PairRead First Second spec code ls None rest
  no_second : {mid rest : Lines} (x : A) → First spec code ls (Some x) mid → Second spec code mid None rest → PairRead First Second spec code ls None rest
  both : {mid rest : Lines} (x : A) (y : B) → First spec code ls (Some x) mid → Second spec code mid (Some y) rest → PairRead First Second spec code ls (Some (x, y)) rest
