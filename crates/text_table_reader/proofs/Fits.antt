-- Blocks that are read are at code addresses, and their elements fit.
use Rattle.std.proofs.Common.{◌≡◌, ℕ, ◌+◌, ◌≤◌, Bool, true, false, cond, List, [], ◌∷◌, Option, Some, None, IsTrue, ap, refl, sym, subst}
use Rattle.std.specs.Prelude.{◌==◌, ◌&&◌, codes, nat_le}
use Rattle.std.specs.Option.{option_and_then}
use Rattle.std.proofs.lemmas.Bool.{leb-true}
use Rattle.base_trait.specs.Lists.{Each}
use Rattle.base_trait.proofs.Lists.{number_told}
use Rattle.base_trait.proofs.Tests.{and_parts}
use Rattle.spec_ir.specs.Specification.{Spec}
use Rattle.fixpoint_theory.specs.Elements.{Elements}
use Rattle.fixpoint_theory.specs.Table.{Listing}
use Rattle.fixpoint_open_tables.specs.declared.ending.Ending.{Ending}
use Rattle.text_lines.specs.Lines.{Lines, first_line}
use Rattle.text_words.specs.Reading.{behind, number_in}
use Rattle.text_element_readers.specs.Laws.{ReadingLaws}
use Rattle.text_element_readers.specs.Reading.{ElementReading}
use Rattle.text_element_readers.specs.Words.{WordReading}
use Rattle.text_table_reader.specs.Blocks.{AreRead, BlockRead, block, listings_of, no_address, no_element, none, onto, stopped}
use Rattle.text_table_reader.specs.Starts.{address_from, at_said, read_at, read_at_of, with_lines}

module _ (code : ℕ → Bool) (low : ℕ) where
  -- an address that is read: at least so great, and that of a code word
  abbrev IsAddress : ℕ → Type 0
  IsAddress at = (low ≤ at) × IsTrue (code at)

  from_code : (o : Option ℕ) (at : ℕ) → address_from code low o ≡ Some at → IsAddress at
  from_code None at e = cc
  from_code (Some n) at e = tested (nat_le low n && code n) refl e
    where
      tested : (b : Bool) → (nat_le low n && code n) ≡ b → cond b (Some n) None ≡ Some at → IsAddress at
      tested true is e = let same : n ≡ at = cc in let both = and_parts (nat_le low n) (code n) is in subst IsAddress same (leb-true low n both.0, both.1)
      tested false is e = cc

  with_code : (ls : Lines) (line : List ℕ) (at : ℕ) (later : Lines) (o : Option ℕ) → at_said code low line ≡ o → with_lines code ls o ≡ Some (at, later) → IsAddress at
  with_code ls line at later None is e = cc
  with_code ls line at later (Some a) is e =
      let pair : (a, ls) ≡ (at, later) = cc in
      subst IsAddress (ap (λ (p : ℕ × Lines). p.0) pair) (from_code (option_and_then (number_in 32) (behind (codes "at ") line)) a is)

  pub at_code : (ls : Lines) (at : ℕ) (later : Lines) → read_at code low ls ≡ Some (at, later) → IsAddress at
  at_code ls at later e = from (first_line ls) e
    where
      from : (o : Option (List ℕ × Lines)) → read_at_of code low o ≡ Some (at, later) → IsAddress at
      from None e = cc
      from (Some cut) e = with_code cut.1 cut.0 at later (at_said code low cut.0) refl e

module _ {E W S : Type 0} (Reads : ElementReading E) (word_in : WordReading W) (D : Elements E S) (spec : Spec) (laws : ReadingLaws Reads D spec) (code : ℕ → Bool) where
  abbrev IsFit : ℕ × Listing E → Type 0
  IsFit b = IsTrue (code b.0) × D.fits b.1.elem

  block_fits : (low : ℕ) (ls left : Lines) (b : ℕ × Listing E) (ending : Option (Ending W)) → BlockRead Reads word_in spec code low ls (Some b) ending left → IsFit b
  block_fits low ls left b ending (block {at = a} {later = l} {end = u} x e r) = ((at_code code low ls a l e).1, laws.fits code l x u r)

  blocks_fit : (low : ℕ) (ls : Lines) (blocks : List (ℕ × Listing E)) (ends : List (ℕ × Option (Ending W))) (fault : Option Lines) → AreRead Reads word_in spec code low ls blocks ends fault → Each IsFit blocks
  blocks_fit low ls blocks ends fault none = tt
  blocks_fit low ls blocks ends fault (stopped some r) = tt
  blocks_fit low ls blocks ends fault (onto {at = a} {later = l} {b = b} {ending = x} {blocks = bs} {ends = es} {fault = p} r rest) = (block_fits low ls l (a, b) x r, blocks_fit (a + 1) l bs es p rest)

  listed_fits : (blocks : List (ℕ × Listing E)) → Each IsFit blocks → (at : ℕ) (b : Listing E) → listings_of blocks at ≡ Some b → IsTrue (code at) × D.fits b.elem
  listed_fits [] each at b e = cc
  listed_fits (c ∷ blocks) each at b e = tested (c.0 == at) refl e (listed_fits blocks each.1 at b)
    where
      tested : (p : Bool) → (c.0 == at) ≡ p → cond p (Some c.1) (listings_of blocks at) ≡ Some b → (listings_of blocks at ≡ Some b → IsTrue (code at) × D.fits b.elem) → IsTrue (code at) × D.fits b.elem
      tested true is e more = let same : c.1 ≡ b = cc in (subst (λ z. IsTrue (code z)) (number_told c.0 at is) each.0.0, subst (λ (z : Listing E). D.fits z.elem) same each.0.1)
      tested false is e more = more e

  pub read_blocks_fit : (low : ℕ) (ls : Lines) (blocks : List (ℕ × Listing E)) (ends : List (ℕ × Option (Ending W))) (fault : Option Lines) → AreRead Reads word_in spec code low ls blocks ends fault
      → (at : ℕ) (b : Listing E) → listings_of blocks at ≡ Some b → IsTrue (code at) × D.fits b.elem
  read_blocks_fit low ls blocks ends fault h at b e = listed_fits blocks (blocks_fit low ls blocks ends fault h) at b e
