-- Something is read of lines.
use Rattle.std.proofs.Common.{◌≡◌, ◌∙◌, ℕ, zero, suc, ◌+◌, ◌≤◌, ◌<◌, Bool, true, false, cond, List, [], ◌∷◌, Option, Some, None, length, ap, refl, sym, subst, arith}
use Rattle.spec_ir.specs.Specification.{Spec}
use Rattle.fixpoint_theory.specs.Elements.{Elements}
use Rattle.fixpoint_theory.specs.Table.{Listing}
use Rattle.fixpoint_open_tables.specs.declared.ending.Ending.{Ending}
use Rattle.text_lines.specs.Lines.{Lines, first_line}
use Rattle.text_element_readers.specs.Laws.{ReadingLaws}
use Rattle.text_element_readers.specs.Reading.{ElementReading}
use Rattle.text_element_readers.specs.Words.{WordReading}
use Rattle.text_table_reader.specs.Blocks.{AreRead, BlockRead, block, listed, no_address, no_element, none, onto, stopped}
use Rattle.text_table_reader.specs.Starts.{read_at, read_at_of, with_lines}
use Rattle.text_table_reader.specs.Endings.{read_ending}
use Rattle.text_table_reader.specs.Ends.{read_end}

-- ---- the lines behind an address
pub first_shorter : (ls : Lines) (cut : List ℕ × Lines) → first_line ls ≡ Some cut → length cut.1 < length ls
first_shorter [] cut e = cc
first_shorter (None ∷ ls) cut e = cc
first_shorter (Some line ∷ ls) cut e = let same : (line, ls) ≡ cut = cc in subst (λ (c : List ℕ × Lines). length c.1 < length (Some line ∷ ls)) same (omega arith)

with_lines_are : (code : ℕ → Bool) (ls : Lines) (o : Option ℕ) (at : ℕ) (later : Lines) → with_lines code ls o ≡ Some (at, later) → ls ≡ later
with_lines_are code ls None at later e = cc
with_lines_are code ls (Some a) at later e = let pair : (a, ls) ≡ (at, later) = cc in ap (λ (p : ℕ × Lines). p.1) pair

pub at_shorter : (code : ℕ → Bool) (low : ℕ) (ls : Lines) (at : ℕ) (later : Lines) → read_at code low ls ≡ Some (at, later) → length later < length ls
at_shorter code low ls at later e = from (first_line ls) refl e
  where
    from : (o : Option (List ℕ × Lines)) → first_line ls ≡ o → read_at_of code low o ≡ Some (at, later) → length later < length ls
    from None is e = cc
    from (Some cut) is e = subst (λ z. length z < length ls) (with_lines_are code cut.1 _ at later e) (first_shorter ls cut is)

module _ {E W S : Type 0} (Reads : ElementReading E) (word_in : WordReading W) (D : Elements E S) (spec : Spec) (laws : ReadingLaws Reads D spec) (code : ℕ → Bool)
    (shorter : (ls : Lines) → length (read_ending word_in (read_end spec code ls)).1 ≤ length ls) where
  abbrev Reading : ℕ → Lines → Type 0
  Reading low ls = (blocks : List (ℕ × Listing E)) × (ends : List (ℕ × Option (Ending W))) × (fault : Option Lines) × AreRead Reads word_in spec code low ls blocks ends fault

  -- a block with its ending, or none
  pub data SomeBlock (low : ℕ) (ls : Lines) : Type 0 where
    no_block : (left : Lines) → BlockRead Reads word_in spec code low ls None None left → SomeBlock low ls
    one_block : (b : ℕ × Listing E) (ending : Option (Ending W)) (left : Lines) → BlockRead Reads word_in spec code low ls (Some b) ending left → SomeBlock low ls

  some_block : (low : ℕ) (ls : Lines) → SomeBlock low ls
  some_block low ls = at (read_at code low ls) refl
    where
      read : (a : ℕ) (later : Lines) → read_at code low ls ≡ Some (a, later) → (r : Option E) (left : Lines) → Reads spec code later r left → SomeBlock low ls
      read a later e None left is = no_block left (no_element e is)
      read a later e (Some x) left is =
          let end = read_ending word_in (read_end spec code left) in
          one_block (a, listed x (read_end spec code left)) end.0 end.1 (block x e is)

      at : (o : Option (ℕ × Lines)) → read_at code low ls ≡ o → SomeBlock low ls
      at None e = no_block ls (no_address e)
      at (Some p) e = let found = laws.some_reading code p.1 in read p.0 p.1 e found.0 found.1 found.2

  block_shorter : (low : ℕ) (ls left : Lines) (b : ℕ × Listing E) (ending : Option (Ending W)) → BlockRead Reads word_in spec code low ls (Some b) ending left → length left < length ls
  block_shorter low ls left b ending (block {at = a} {later = l} {end = u} x e r) =
      let first = at_shorter code low ls a l e in
      let own = laws.shorter code l (Some x) u r in
      let last = shorter u in
      omega (arith, first, own, last)

  from_lines : (n low : ℕ) (ls : Lines) → length ls ≤ n → Reading low ls
  from_lines n low [] le = ([], [], None, none)
  from_lines zero low (l ∷ ls) le = absurd (omega (arith, le))
  from_lines (suc n) low (l ∷ ls) le = at (some_block low (l ∷ ls)) (λ low later small. from_lines n low later small)
    where
      at : SomeBlock low (l ∷ ls) → ((low : ℕ) (later : Lines) → length later ≤ n → Reading low later) → Reading low (l ∷ ls)
      at (no_block left is) go = ([], [], Some left, stopped (λ empty. cc) is)
      at (one_block b ending left is) go =
          let small = block_shorter low (l ∷ ls) left b ending is in
          let rest = go (b.0 + 1) left (omega (arith, small, le)) in
          ((b.0, b.1) ∷ rest.0, (b.0, ending) ∷ rest.1, rest.2, onto is rest.3)

  pub something_is_read : (low : ℕ) (ls : Lines) → Reading low ls
  something_is_read low ls = from_lines (length ls) low ls (omega arith)
