-- The blocks of a table, read.
use Rattle.std.specs.Prelude.{◌≡◌, ◌≢◌, ℕ, Bool, ◌==◌, ◌+◌, List, [], ◌∷◌, Option, Some, None, IsTrue, if◌then◌else◌}
use Rattle.spec_ir.specs.Specification.{Spec}
use Rattle.fixpoint_theory.specs.Table.{Listing, Listings}
use Rattle.fixpoint_open_tables.specs.Endings.{Endings}
use Rattle.fixpoint_open_tables.specs.declared.ending.Ending.{Ending}
use Rattle.text_lines.specs.Lines.{Lines}
use Rattle.text_element_readers.specs.Reading.{ElementReading}
use Rattle.text_element_readers.specs.Words.{WordReading}
use Rattle.text_table_reader.specs.Endings.{endings_in, read_ending}
use Rattle.text_table_reader.specs.Ends.{End, read_end}
use Rattle.text_table_reader.specs.Starts.{read_at}

-- what is listed of an address
abbrev pub listed : {E : Type 0} → E → End → Listing E
listed x end = record { elem = x; next = end.next; exits = end.exits; uses = end.uses }

-- blocks by their addresses
abbrev pub listings_of : {E : Type 0} → List (ℕ × Listing E) → Listings E
listings_of [] a = None
listings_of (b ∷ blocks) a = if b.0 == a then Some b.1 else listings_of blocks a

module _ {E W : Type 0} (Reads : ElementReading E) (word_in : WordReading W) (spec : Spec) (is_word : ℕ → Bool) where
  -- Of lines: a block at an address that is at least so great, with its ending, if it has one, and the lines behind it; or none, and the lines from the
  -- first faulty one on.
  pub data BlockRead (low : ℕ) (ls : Lines) : Option (ℕ × Listing E) → Option (Ending W) → Lines → Type 0 where
    no_address : read_at is_word low ls ≡ None → BlockRead low ls None None ls
    no_element : {at : ℕ} {later left : Lines} → read_at is_word low ls ≡ Some (at, later) → Reads spec is_word later None left → BlockRead low ls None None left
    block : {at : ℕ} {later end : Lines} (x : E) → read_at is_word low ls ≡ Some (at, later) → Reads spec is_word later (Some x) end
        → BlockRead low ls (Some (at, listed x (read_end spec is_word end))) (read_ending word_in (read_end spec is_word end)).0 (read_ending word_in (read_end spec is_word end)).1

  -- Blocks from an address on, and how each ends, as lines have them to their end; or those before the first faulty line, and the lines from it on.
  pub data AreRead : ℕ → Lines → List (ℕ × Listing E) → List (ℕ × Option (Ending W)) → Option Lines → Type 0 where
    none : {low : ℕ} → AreRead low [] [] [] None
    stopped : {low : ℕ} {ls left : Lines} → ls ≢ [] → BlockRead low ls None None left → AreRead low ls [] [] (Some left)
    onto : {low at : ℕ} {ls later : Lines} {b : Listing E} {ending : Option (Ending W)} {blocks : List (ℕ × Listing E)} {ends : List (ℕ × Option (Ending W))} {fault : Option Lines}
        → BlockRead low ls (Some (at, b)) ending later → AreRead (at + 1) later blocks ends fault → AreRead low ls ((at, b) ∷ blocks) ((at, ending) ∷ ends) fault

  -- The lines are the blocks of a table, with these endings.
  pub record AreBlocksOf (ls : Lines) (t : Listings E) (endings : Endings W) : Type 0 where
    pub blocks : List (ℕ × Listing E)
    pub ends : List (ℕ × Option (Ending W))
    pub are_read : AreRead 0 ls blocks ends None
    pub table : (a : ℕ) → t a ≡ listings_of blocks a
    pub end_so : (a : ℕ) → endings a ≡ endings_in ends a

  -- From these lines on they are none.
  pub record AreFaultyFrom (ls left : Lines) : Type 0 where
    pub blocks : List (ℕ × Listing E)
    pub ends : List (ℕ × Option (Ending W))
    pub are_read : AreRead 0 ls blocks ends (Some left)

  -- either, by whether there is a table
  abbrev pub AreReadAs : Lines → Option (Listings E × Endings W) → Lines → Type 0
  AreReadAs ls None left = AreFaultyFrom ls left
  AreReadAs ls (Some (t, endings)) left = AreBlocksOf ls t endings

-- Blocks stand at addresses of code words, and their elements fit.
abbrev pub BlocksFit : {E : Type 0} → (ℕ → Bool) → (E → Type 0) → Listings E → Type 0
BlocksFit {E} is_word Fits t = (at : ℕ) (b : Listing E) → t at ≡ Some b → IsTrue (is_word at) × Fits b.elem
