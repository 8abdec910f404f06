-- A check makes at most one transfer for each address that the text of a table lists.
use Rattle.std.proofs.Common.{◌≡◌, ◌∙◌, ℕ, suc, ◌+◌, ◌≤◌, Bool, true, false, cond, List, [], ◌∷◌, Option, Some, None, option_map, length, map, IsTrue, ap, arith, inr, refl, sym, subst}
use Rattle.std.proofs.lemmas.Bool.{leb-true}
use Rattle.std.specs.Prelude.{◌==◌, ◌||◌, ◌&&◌, nat_le, codes}
use Rattle.std.specs.BTreeMap.{IsOrdered, btree_map_len, get}
use Rattle.std.specs.Option.{option_and_then}
use Rattle.std.specs.Ordering.{nat_cmp}
use Rattle.base_trait.specs.Lists.{IsAscendingFrom}
use Rattle.base_trait.proofs.Tests.{and_parts}
use Rattle.spec_ir.specs.Specification.{Spec}
use Rattle.code_image.specs.Image.{Image}
use Rattle.fixpoint_theory.specs.Code.{is_code}
use Rattle.fixpoint_theory.specs.Table.{Listing}
use Rattle.fixpoint_theory.specs.Views.{listing, listings}
use Rattle.fixpoint_theory.specs.declared.table.Block.{Block}
use Rattle.fixpoint_theory.specs.declared.table.Table.{Table}
use Rattle.text_lines.specs.Lines.{Lines, first_line}
use Rattle.text_words.specs.Reading.{behind, number_in}
use Rattle.text_element_readers.specs.Reading.{ElementReading}
use Rattle.text_element_readers.specs.Words.{WordReading}
use Rattle.fixpoint_open_tables.specs.Endings.{Endings}
use Rattle.fixpoint_open_tables.specs.declared.ending.Ending.{Ending}
use Rattle.text_table_reader.specs.Blocks.{AreRead, BlockRead, block, listings_of, onto}
use Rattle.text_table_reader.specs.Ends.{is_word_of}
use Rattle.text_table_reader.specs.Starts.{address_from, at_said, read_at, read_at_of, with_lines}
use Rattle.text_table_reader.specs.Tables.{IsOpenTableIn, IsTableIn}
use Rattle.text_table_reader.proofs.Views.{seen_listing, table_seen}
use Rattle.program_domains.specs.Work.{IsWorkOn}
use Rattle.program_domain_tasks.specs.Own.{Own, as_defined}
use Rattle.fixpoint_worklist.proofs.Tables.{few_places}

-- ---- the addresses of blocks that are read ascend
module _ (code : ℕ → Bool) (low : ℕ) where
  from_low : (o : Option ℕ) (at : ℕ) → address_from code low o ≡ Some at → low ≤ at
  from_low None at e = cc
  from_low (Some n) at e = tested (nat_le low n && code n) refl e
    where
      tested : (b : Bool) → (nat_le low n && code n) ≡ b → cond b (Some n) None ≡ Some at → low ≤ at
      tested true is e = let same : n ≡ at = cc in let at_least = leb-true low n (and_parts (nat_le low n) (code n) is).0 in omega (arith, same, at_least)
      tested false is e = cc

  with_low : (ls : Lines) (line : List ℕ) (at : ℕ) (later : Lines) (o : Option ℕ) → at_said code low line ≡ o → with_lines code ls o ≡ Some (at, later) → low ≤ at
  with_low ls line at later None is e = cc
  with_low ls line at later (Some a) is e =
      let pair : (a, ls) ≡ (at, later) = cc in
      subst (λ z. low ≤ z) (ap (λ (p : ℕ × Lines). p.0) pair) (from_low (option_and_then (number_in 32) (behind (codes "at ") line)) a is)

  at_low : (ls : Lines) (at : ℕ) (later : Lines) → read_at code low ls ≡ Some (at, later) → low ≤ at
  at_low ls at later e = from (first_line ls) e
    where
      from : (o : Option (List ℕ × Lines)) → read_at_of code low o ≡ Some (at, later) → low ≤ at
      from None e = cc
      from (Some cut) e = with_low cut.1 cut.0 at later (at_said code low cut.0) refl e

-- the addresses of blocks
abbrev places : {X : Type 0} → List (ℕ × Listing X) → List ℕ
places blocks = map (λ b. b.0) blocks

module _ {X W : Type 0} (Reads : ElementReading X) (word_in : WordReading W) (spec : Spec) (code : ℕ → Bool) where
  block_low : (low : ℕ) (ls left : Lines) (b : ℕ × Listing X) (ending : Option (Ending W)) → BlockRead Reads word_in spec code low ls (Some b) ending left → low ≤ b.0
  block_low low ls left b ending (block {at = a} {later = l} x e r) = at_low code low ls a l e

  places_ascend : (low : ℕ) (ls : Lines) (blocks : List (ℕ × Listing X)) (ends : List (ℕ × Option (Ending W))) → AreRead Reads word_in spec code low ls blocks ends None → IsAscendingFrom low (places blocks)
  places_ascend low ls [] ends h = tt
  places_ascend low ls (b ∷ blocks) ends (onto {at = a} {later = l} {b = x} {ending = e} {ends = es} r rest) = (block_low low ls l (a, x) e r, places_ascend (a + 1) l blocks es rest)

listed_place : {X : Type 0} (blocks : List (ℕ × Listing X)) (a : ℕ) (b : Listing X) → listings_of blocks a ≡ Some b → IsTrue (is_code (places blocks) a)
listed_place [] a b e = cc
listed_place (c ∷ blocks) a b e = tested (c.0 == a) e (listed_place blocks a b)
  where
    tested : (p : Bool) → cond p (Some c.1) (listings_of blocks a) ≡ Some b → (listings_of blocks a ≡ Some b → IsTrue (is_code (places blocks) a)) → IsTrue (p || is_code (places blocks) a)
    tested true e more = refl
    tested false e more = more e

places_length : {X : Type 0} (blocks : List (ℕ × Listing X)) → length (places blocks) ≡ length blocks
places_length [] = refl
places_length (b ∷ blocks) = ap (λ (n : ℕ). suc n) (places_length blocks)

-- There are at most as many blocks as were read.
pub few_read : {X E W : Type 0} (view : X → E) (Reads : ElementReading E) (word : WordReading W) (spec : Spec) (image : Image) (base bytes : List ℕ) (table : Table X) (ends : Endings W)
    (is : IsOpenTableIn Reads word spec base image bytes (listings view table) ends) → IsOrdered nat_cmp table.blocks → btree_map_len table.blocks ≤ length is.blocks
few_read view Reads word spec image base bytes table ends is ordered =
    let few = few_places (places is.blocks) table.blocks (places_ascend Reads word spec (is_word_of image) 0 is.later is.blocks is.ends is.are_read) ordered
    (λ a b got. listed_place is.blocks a (listing view b) (sym (is.table a) ∙ ap (option_map (listing view)) got)) in
    let same = places_length is.blocks in
    omega (arith, few, same)

-- what a table lists, as its elements are seen
module _ {X E : Type 0} (view : X → E) where
  block_seen : (found : Option (Block X)) → option_map (listing view) found ≡ option_map (seen_listing view) (option_map (listing (λ x. x)) found)
  block_seen None = refl
  block_seen (Some b) = refl

  pub listings_seen : (t : Table X) (a : ℕ) → listings view t a ≡ option_map (seen_listing view) (listings (λ x. x) t a)
  listings_seen t a = block_seen (get nat_cmp t.blocks a)

module _ {X E W N C : Type 0} (own : Own X E W N C) (spec : Spec) (image : Image) (base bytes : List ℕ) (table : Table X) where
  pub own_works : IsTableIn own.Reads own.word_in spec base image bytes (listings (λ x. x) table) → IsOrdered nat_cmp table.blocks
      → (old new : ℕ) → new ≤ old + btree_map_len table.blocks → IsWorkOn (as_defined own) image base spec bytes old new
  own_works is ordered old new most =
      let seen = table_seen own.view own.Reads (as_defined own).Reads own.word_in spec base image (λ ls r left is. (r, refl, is)) bytes (listings (λ x. x) table) (listings own.view table) (listings_seen own.view table) is in
      let few = few_read own.view (as_defined own).Reads own.word_in spec image base bytes table (λ a. None) seen ordered in
      inr (listings own.view table, seen, omega (arith, most, few))
