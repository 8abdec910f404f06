-- Work is bounded by the blocks of a text in one domain as in another, where what is read in the first is read in the other.
use Rattle.std.proofs.Common.{◌≡◌, ◌+◌, ℕ, Bool, List, Option, Some, None, inl, inr, subst}
use Rattle.spec_ir.specs.Specification.{Spec}
use Rattle.code_image.specs.Image.{Image}
use Rattle.fixpoint_theory.specs.Table.{Listing, Listings}
use Rattle.text_lines.specs.Lines.{Lines}
use Rattle.text_element_readers.specs.Reading.{ElementReading}
use Rattle.text_element_readers.specs.Words.{WordReading}
use Rattle.fixpoint_open_tables.specs.Endings.{Endings}
use Rattle.fixpoint_open_tables.specs.declared.ending.Ending.{Ending}
use Rattle.text_table_reader.specs.Blocks.{AreRead, BlockRead, block, none, onto}
use Rattle.text_table_reader.specs.Ends.{is_word_of}
use Rattle.text_table_reader.specs.Tables.{IsOpenTableIn}
use Rattle.program_domains.specs.Domains.{DomainOf}
use Rattle.program_domains.specs.Work.{IsOpenWorkOn, IsWorkOn}

module _ {E W : Type 0} (First Other : ElementReading E) (word : WordReading W) (spec : Spec) (code : ℕ → Bool) (to : (ls : Lines) (r : Option E) (left : Lines) → First spec code ls r left → Other spec code ls r left) where
  block_too : (low : ℕ) (ls left : Lines) (b : ℕ × Listing E) (ending : Option (Ending W)) → BlockRead First word spec code low ls (Some b) ending left → BlockRead Other word spec code low ls (Some b) ending left
  block_too low ls left b ending (block {later = l} {end = u} x e r) = block x e (to l (Some x) u r)

  blocks_too : (low : ℕ) (ls : Lines) (blocks : List (ℕ × Listing E)) (ends : List (ℕ × Option (Ending W))) → AreRead First word spec code low ls blocks ends None → AreRead Other word spec code low ls blocks ends None
  blocks_too low ls blocks ends none = none
  blocks_too low ls blocks ends (onto {at = a} {later = l} {b = b} {ending = o} {blocks = bs} {ends = es} r rest) = onto (block_too low ls l (a, b) o r) (blocks_too (a + 1) l bs es rest)

module _ {E W N C : Type 0} (first other : DomainOf E W N C) (to : (spec : Spec) (is_word : ℕ → Bool) (ls : Lines) (r : Option E) (left : Lines) → first.Reads spec is_word ls r left → other.Reads spec is_word ls r left)
    (words : first.word_in ≡ other.word_in) (image : Image) (base : List ℕ) where
  -- what is read in the first is read in the other
  abbrev read_on : (spec : Spec) (bytes : List ℕ) (table : Listings E) (ends : Endings W) → IsOpenTableIn first.Reads first.word_in spec base image bytes table ends → IsOpenTableIn other.Reads other.word_in spec base image bytes table ends
  read_on spec bytes table ends is = record {
    blocks = is.blocks;
    ends = is.ends;
    later = is.later;
    head = is.head;
    are_read = subst (λ w. AreRead other.Reads w spec (is_word_of image) 0 is.later is.blocks is.ends None) words
        (blocks_too first.Reads other.Reads first.word_in spec (is_word_of image) (to spec (is_word_of image)) 0 is.later is.blocks is.ends is.are_read);
    table = is.table;
    end_so = is.end_so;
  }

  pub work_on : (spec : Spec) (bytes : List ℕ) (old new : ℕ) → IsWorkOn first image base spec bytes old new → IsWorkOn other image base spec bytes old new
  work_on spec bytes old new (inl small) = inl small
  work_on spec bytes old new (inr (table, is, small)) = inr (table, read_on spec bytes table (λ a. None) is, small)

  -- where blocks may be left open
  pub open_work_on : (spec : Spec) (bytes : List ℕ) (old new : ℕ) → IsOpenWorkOn first image base spec bytes old new → IsOpenWorkOn other image base spec bytes old new
  open_work_on spec bytes old new (inl small) = inl small
  open_work_on spec bytes old new (inr (table, ends, is, small)) = inr (table, ends, read_on spec bytes table ends is, small)
