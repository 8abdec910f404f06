-- Tables of elements that are read are those of what the elements are seen as.
use Rattle.std.proofs.Common.{◌≡◌, ◌∙◌, ℕ, ◌+◌, Bool, true, false, cond, List, [], ◌∷◌, Option, Some, None, option_map, ap, inl, inr, refl, sym}
use Rattle.std.specs.Prelude.{◌==◌}
use Rattle.spec_ir.specs.Specification.{Spec}
use Rattle.code_image.specs.Image.{Image}
use Rattle.fixpoint_theory.specs.Table.{Listing, Listings}
use Rattle.fixpoint_open_tables.specs.Endings.{Endings}
use Rattle.fixpoint_open_tables.specs.declared.ending.Ending.{Ending}
use Rattle.text_faults.specs.declared.table_error.TableError.{TableError}
use Rattle.text_lines.specs.Lines.{Lines, lines}
use Rattle.text_element_readers.specs.Reading.{ElementReading}
use Rattle.text_element_readers.specs.Words.{WordReading}
use Rattle.text_table_reader.specs.Blocks.{AreRead, BlockRead, block, listings_of, no_address, no_element, none, onto, stopped}
use Rattle.text_table_reader.specs.Ends.{is_word_of}
use Rattle.text_table_reader.specs.Heads.{Faulty}
use Rattle.text_table_reader.specs.Tables.{IsErrorIn, IsFaulty, IsOpenTableIn, IsTableIn}

module _ {X E : Type 0} (view : X → E) where
  -- a block, its element seen so
  abbrev pub seen_listing : Listing X → Listing E
  seen_listing b = record { elem = view b.elem; next = b.next; exits = b.exits; uses = b.uses }

  abbrev pub seen_blocks : List (ℕ × Listing X) → List (ℕ × Listing E)
  seen_blocks [] = []
  seen_blocks (b ∷ blocks) = (b.0, seen_listing b.1) ∷ seen_blocks blocks

  seen_at : (blocks : List (ℕ × Listing X)) (a : ℕ) → listings_of (seen_blocks blocks) a ≡ option_map seen_listing (listings_of blocks a)
  seen_at [] a = refl
  seen_at (b ∷ blocks) a = tested (b.0 == a) (seen_at blocks a)
    where
      tested : (p : Bool) → listings_of (seen_blocks blocks) a ≡ option_map seen_listing (listings_of blocks a)
          → cond p (Some (seen_listing b.1)) (listings_of (seen_blocks blocks) a) ≡ option_map seen_listing (cond p (Some b.1) (listings_of blocks a))
      tested true rest = refl
      tested false rest = rest

  module _ {W : Type 0} (Own : ElementReading X) (Reads : ElementReading E) (word_in : WordReading W) (spec : Spec) (code : ℕ → Bool) (to : (ls : Lines) (r : Option X) (left : Lines) → Own spec code ls r left → Reads spec code ls (option_map view r) left) where
    none_seen : (low : ℕ) (ls left : Lines) → BlockRead Own word_in spec code low ls None None left → BlockRead Reads word_in spec code low ls None None left
    none_seen low ls left (no_address e) = no_address e
    none_seen low ls left (no_element {later = l} {left = u} e r) = no_element e (to l None u r)

    block_seen : (low : ℕ) (ls left : Lines) (b : ℕ × Listing X) (ending : Option (Ending W)) → BlockRead Own word_in spec code low ls (Some b) ending left
        → BlockRead Reads word_in spec code low ls (Some (b.0, seen_listing b.1)) ending left
    block_seen low ls left b ending (block {later = l} {end = u} x e r) = block (view x) e (to l (Some x) u r)

    blocks_seen : (low : ℕ) (ls : Lines) (blocks : List (ℕ × Listing X)) (ends : List (ℕ × Option (Ending W))) (fault : Option Lines) → AreRead Own word_in spec code low ls blocks ends fault
        → AreRead Reads word_in spec code low ls (seen_blocks blocks) ends fault
    blocks_seen low ls blocks ends fault none = none
    blocks_seen low ls blocks ends fault (stopped {left = u} some r) = stopped some (none_seen low ls u r)
    blocks_seen low ls blocks ends fault (onto {at = a} {later = l} {b = b} {ending = x} {blocks = bs} {ends = es} {fault = p} r rest) = onto (block_seen low ls l (a, b) x r) (blocks_seen (a + 1) l bs es p rest)

module _ {X E W : Type 0} (view : X → E) (Own : ElementReading X) (Reads : ElementReading E) (word_in : WordReading W) (spec : Spec) (name : List ℕ) (image : Image)
    (to : (ls : Lines) (r : Option X) (left : Lines) → Own spec (is_word_of image) ls r left → Reads spec (is_word_of image) ls (option_map view r) left) where
  pub open_table_seen : (bytes : List ℕ) (t : Listings X) (u : Listings E) (endings : Endings W) → ((a : ℕ) → u a ≡ option_map (seen_listing view) (t a))
      → IsOpenTableIn Own word_in spec name image bytes t endings → IsOpenTableIn Reads word_in spec name image bytes u endings
  open_table_seen bytes t u endings same h = record {
    blocks = seen_blocks view h.blocks;
    ends = h.ends;
    later = h.later;
    head = h.head;
    are_read = blocks_seen view Own Reads word_in spec (is_word_of image) to 0 h.later h.blocks h.ends None h.are_read;
    table = λ a. same a ∙ ap (option_map (seen_listing view)) (h.table a) ∙ sym (seen_at view h.blocks a);
    end_so = h.end_so;
  }

  pub table_seen : (bytes : List ℕ) (t : Listings X) (u : Listings E) → ((a : ℕ) → u a ≡ option_map (seen_listing view) (t a)) → IsTableIn Own word_in spec name image bytes t → IsTableIn Reads word_in spec name image bytes u
  table_seen bytes t u same h = open_table_seen bytes t u (λ a. None) same h

  pub error_seen : (bytes : List ℕ) (error : TableError) → IsErrorIn Own word_in spec name image bytes error → IsErrorIn Reads word_in spec name image bytes error
  error_seen bytes error h = record { fault = h.fault; faulty = at h.faulty; is = h.is }
    where
      at : IsFaulty Own word_in spec name image (lines bytes) h.fault → IsFaulty Reads word_in spec name image (lines bytes) h.fault
      at (inl e) = inl e
      at (inr f) = inr (record {
        blocks = seen_blocks view f.blocks;
        ends = f.ends;
        later = f.later;
        left = f.left;
        head = f.head;
        are_read = blocks_seen view Own Reads word_in spec (is_word_of image) to 0 f.later f.blocks f.ends (Some f.left) f.are_read;
        is = f.is;
      })
