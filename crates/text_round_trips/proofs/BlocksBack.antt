-- Blocks are read as they are written.
use Rattle.std.proofs.Common.{◌≡◌, ◌∙◌, ◌+◌, ◌<◌, ◌≤◌, ◌^◌, ◌==◌, ℕ, Bool, true, cond, List, [], ◌∷◌, ◌++◌, Option, Some, None, IsTrue, refl, sym, ap, subst, inl, inr, append_assoc, arith}
use Rattle.std.specs.Prelude.{◌&&◌, nat_le}
use Rattle.std.proofs.lemmas.Bool.{and_from, cases_Bool, eq-eqb, le-leb}
use Rattle.std.proofs.lemmas.Option.{none-some}
use Rattle.base_trait.specs.Lists.{Each, IsAmong, IsAscendingFrom}
use Rattle.base_trait.proofs.Lists.{ascending_lower, number_told}
use Rattle.word_operations.specs.Width.{IsWidth}
use Rattle.spec_ir.specs.Specification.{Spec}
use Rattle.fixpoint_theory.specs.Elements.{Elements}
use Rattle.fixpoint_theory.specs.Table.{Listing, Listings}
use Rattle.fixpoint_open_tables.specs.Endings.{Endings}
use Rattle.fixpoint_open_tables.specs.declared.ending.Ending.{Ending}
use Rattle.text_words.specs.Digits.{number_back}
use Rattle.text_lines.specs.Lines.{Lines, lines}
use Rattle.text_lines.specs.Outcomes.{Reading}
use Rattle.text_elements.specs.Parts.{ElementText}
use Rattle.text_element_readers.specs.Reading.{ElementReading}
use Rattle.text_element_readers.specs.Words.{WordReading}
use Rattle.text_round_trips.specs.RoundTrips.{RoundTrips}
use Rattle.text_round_trips.specs.Words.{WordsTell}
use Rattle.text_tables.specs.Blocks.{at_line, end_lines}
use Rattle.text_tables.specs.Open as texts
use Rattle.text_tables.specs.Open.{AreOpenBlocks, IsOpenAt, IsOpenBlock, ending_text}
use Rattle.text_table_reader.specs.Blocks.{AreRead, BlockRead, block, listed, listings_of, none, onto}
use Rattle.text_table_reader.specs.Endings.{endings_in, read_ending}
use Rattle.text_table_reader.specs.Ends.{End, read_end}
use Rattle.text_table_reader.specs.Starts.{address_from, read_at, with_lines}
use Rattle.text_round_trips.specs.Fields.{HasUseTexts}
use Rattle.text_round_trips.specs.Writable.{AreEndingsOf, IsWritable, MayEnd, MayEndAt}
use Rattle.text_round_trips.proofs.EndLines.{end_back, end_behind}
use Rattle.text_round_trips.proofs.Endings.{ending_back, ending_behind}
use Rattle.text_round_trips.proofs.HeadsBack as heads
use Rattle.text_round_trips.proofs.HeadsBack.{AreBlockLines, at_first}

-- ---- the address of a block

at_back : (code : ℕ → Bool) (low at : ℕ) (more : List ℕ) → low ≤ at → IsTrue (code at) → at < 2 ^ 32 → read_at code low (lines (at_line at ++ more)) ≡ Some (at, lines more)
at_back code low at more least word below =
    let width : IsWidth 32 = (omega arith, omega arith) in
    let passes : (nat_le low at && code at) ≡ true = and_from (nat_le low at) (code at) (le-leb low at least) word in
    ap (read_at code low) (at_first at more)
    ∙ ap (λ o. with_lines code (lines more) (address_from code low o)) (number_back 32 at width below)
    ∙ ap (λ test. with_lines code (lines more) (cond test (Some at) None)) passes

-- ---- the blocks that are listed

module _ {E : Type 0} (t : Listings E) where
  abbrev found_at : ℕ → Option (Listing E) → List (ℕ × Listing E) → List (ℕ × Listing E)
  found_at a None blocks = blocks
  found_at a (Some b) blocks = (a, b) ∷ blocks

  -- what is listed of addresses
  abbrev pub found : List ℕ → List (ℕ × Listing E)
  found [] = []
  found (a ∷ addresses) = found_at a (t a) (found addresses)

  none_found : (addresses : List ℕ) (a : ℕ) → t a ≡ None → listings_of (found addresses) a ≡ None
  none_found [] a missing = refl
  none_found (x ∷ addresses) a missing = at (t x) refl (none_found addresses a missing)
    where
      at : (o : Option (Listing E)) → t x ≡ o → listings_of (found addresses) a ≡ None → listings_of (found_at x o (found addresses)) a ≡ None
      at None e rest = rest
      at (Some b) e rest = elim (cases_Bool (x == a)) [
        | inl same ↦ absurd (none-some b (sym missing ∙ subst (λ n. t n ≡ Some b) (number_told x a same) e))
        | inr apart ↦ rw apart rest
      ]

  some_found : (addresses : List ℕ) (a : ℕ) (b : Listing E) → IsAmong a addresses → t a ≡ Some b → listings_of (found addresses) a ≡ Some b
  some_found [] a b among there = absurd among
  some_found (x ∷ addresses) a b among there = at (t x) refl among (λ k. some_found addresses a b k there)
    where
      at : (o : Option (Listing E)) → t x ≡ o → IsAmong a (x ∷ addresses) → (IsAmong a addresses → listings_of (found addresses) a ≡ Some b) → listings_of (found_at x o (found addresses)) a ≡ Some b
      at None e (inl same) rest = absurd (none-some b (sym e ∙ subst (λ n. t n ≡ Some b) same there))
      at None e (inr k) rest = rest k
      at (Some c) e (inl same) rest =
          let own : (x == a) ≡ true = eq-eqb x a (sym same) in
          let listed : Some c ≡ Some b = sym e ∙ subst (λ n. t n ≡ Some b) same there in
          ap (λ test. cond test (Some c) (listings_of (found addresses) a)) own ∙ listed
      at (Some c) e (inr k) rest = elim (cases_Bool (x == a)) [
        | inl same ↦
            let listed : Some c ≡ Some b = sym e ∙ subst (λ n. t n ≡ Some b) (sym (number_told x a same)) there in
            ap (λ test. cond test (Some c) (listings_of (found addresses) a)) same ∙ listed
        | inr apart ↦ ap (λ test. cond test (Some c) (listings_of (found addresses) a)) apart ∙ rest k
      ]

  -- a table that lists some addresses alone is that of what is listed of them
  pub table_is : (addresses : List ℕ) → ((a : ℕ) (b : Listing E) → t a ≡ Some b → IsAmong a addresses) → (a : ℕ) → t a ≡ listings_of (found addresses) a
  table_is addresses within a = at (t a) refl
    where
      at : (o : Option (Listing E)) → t a ≡ o → t a ≡ listings_of (found addresses) a
      at None e = e ∙ sym (none_found addresses a e)
      at (Some b) e = e ∙ sym (some_found addresses a b (within a b e) e)

-- ---- how they end

module _ {E W : Type 0} (t : Listings E) (m : Endings W) where
  abbrev ended_at : ℕ → Option (Listing E) → List (ℕ × Option (Ending W)) → List (ℕ × Option (Ending W))
  ended_at a None ends = ends
  ended_at a (Some b) ends = (a, m a) ∷ ends

  -- how the blocks end that are listed of addresses
  abbrev pub ended : List ℕ → List (ℕ × Option (Ending W))
  ended [] = []
  ended (a ∷ addresses) = ended_at a (t a) (ended addresses)

  no_ending : (addresses : List ℕ) (a : ℕ) → m a ≡ None → endings_in (ended addresses) a ≡ None
  no_ending [] a lacks = refl
  no_ending (x ∷ addresses) a lacks = at (t x) (no_ending addresses a lacks)
    where
      at : (o : Option (Listing E)) → endings_in (ended addresses) a ≡ None → endings_in (ended_at x o (ended addresses)) a ≡ None
      at None rest = rest
      at (Some b) rest = elim (cases_Bool (x == a)) [
        | inl same ↦ rw same (ap m (number_told x a same) ∙ lacks)
        | inr apart ↦ rw apart rest
      ]

  some_ending : (addresses : List ℕ) (a : ℕ) (b : Listing E) → IsAmong a addresses → t a ≡ Some b → endings_in (ended addresses) a ≡ m a
  some_ending [] a b among there = absurd among
  some_ending (x ∷ addresses) a b among there = at (t x) refl among (λ k. some_ending addresses a b k there)
    where
      at : (o : Option (Listing E)) → t x ≡ o → IsAmong a (x ∷ addresses) → (IsAmong a addresses → endings_in (ended addresses) a ≡ m a) → endings_in (ended_at x o (ended addresses)) a ≡ m a
      at None e (inl same) rest = absurd (none-some b (sym e ∙ subst (λ n. t n ≡ Some b) same there))
      at None e (inr k) rest = rest k
      at (Some c) e (inl same) rest =
          let own : (x == a) ≡ true = eq-eqb x a (sym same) in
          ap (λ test. cond test (m x) (endings_in (ended addresses) a)) own ∙ ap m (sym same)
      at (Some c) e (inr k) rest = elim (cases_Bool (x == a)) [
        | inl same ↦ ap (λ test. cond test (m x) (endings_in (ended addresses) a)) same ∙ ap m (number_told x a same)
        | inr apart ↦ ap (λ test. cond test (m x) (endings_in (ended addresses) a)) apart ∙ rest k
      ]

  -- the endings of a table that lists some addresses alone are those of what is listed of them
  pub endings_are : (addresses : List ℕ) → ((a : ℕ) (b : Listing E) → t a ≡ Some b → IsAmong a addresses) → ((a : ℕ) → t a ≡ None → m a ≡ None) → (a : ℕ) → m a ≡ endings_in (ended addresses) a
  endings_are addresses within outside a = at (t a) refl
    where
      at : (o : Option (Listing E)) → t a ≡ o → m a ≡ endings_in (ended addresses) a
      at None e = outside a e ∙ sym (no_ending addresses a (outside a e))
      at (Some b) e = sym (some_ending addresses a b (within a b e) e)

-- ---- what is written of blocks

module _ {E W : Type 0} (word_text : ℕ → W → List ℕ) where
  -- it begins with the line of an address, if it is not empty
  pub blocks_begin : (IsElement : E → List ℕ → Type 0) (spec : Spec) (t : Listings E) (m : Endings W) (addresses text : List ℕ) → AreOpenBlocks word_text IsElement spec t m addresses text → AreBlockLines text
  blocks_begin IsElement spec t m addresses text texts.none = heads.none
  blocks_begin IsElement spec t m addresses text (texts.onto {at = a} {addresses = others} first rest is more) = at (t a) is (blocks_begin IsElement spec t m others rest more)
    where
      at : (o : Option (Listing E)) → IsOpenAt word_text IsElement spec a o (m a) first → AreBlockLines rest → AreBlockLines (first ++ rest)
      at None is behind = subst (λ text. AreBlockLines (text ++ rest)) (sym is) behind
      at (Some b) is behind =
          let own = is.is_block in
          let tail = own.element ++ end_lines spec b.uses b.next b.exits in
          let end = ending_text word_text (m a) in
          let spelled : first ++ rest ≡ at_line a ++ (tail ++ (end ++ rest)) =
          ap (λ t. t ++ rest) (is.lines ∙ ap (λ t. t ++ end) own.lines) ∙ append_assoc (at_line a ++ tail) end rest ∙ append_assoc (at_line a) tail (end ++ rest) in
          subst AreBlockLines (sym spelled) (heads.begun a (tail ++ (end ++ rest)))

module _ {E W S : Type 0} (Reads : ElementReading E) (word_in : WordReading W) (IsText : ElementText E) (word_text : ℕ → W → List ℕ) (D : Elements E S) (K : (ℕ → Bool) → E → Type 0) (Fits : W → Type 0) (spec : Spec)
    (trips : RoundTrips Reads IsText D K spec) (words : WordsTell word_text word_in Fits) (has : HasUseTexts spec) (code : ℕ → Bool) (words_below : (a : ℕ) → IsTrue (code a) → a < 2 ^ 32)
    (t : Listings E) (m : Endings W) (writable : IsWritable D K spec code t) (may : AreEndingsOf Fits t m) where
  each_below : (xs : List ℕ) → Each (λ a. IsTrue (code a)) xs → Each (λ a. a < 2 ^ 32) xs
  each_below [] each = tt
  each_below (x ∷ xs) each = (words_below x each.0, each_below xs each.1)

  listed_as : (x : E) (b : Listing E) (ending : Option (Ending W)) (low a : ℕ) (ls mid left : Lines) (e : End) → b.elem ≡ x → e ≡ record { uses = b.uses; next = b.next; exits = b.exits; left = mid }
      → read_ending word_in (record { uses = b.uses; next = b.next; exits = b.exits; left = mid }) ≡ (ending, left)
      → BlockRead Reads word_in spec code low ls (Some (a, listed x e)) (read_ending word_in e).0 (read_ending word_in e).1 → BlockRead Reads word_in spec code low ls (Some (a, b)) ending left
  listed_as x b ending low a ls mid left e same is ended h =
      let whole : End = record { uses = b.uses; next = b.next; exits = b.exits; left = mid } in
      subst (λ z. BlockRead Reads word_in spec code low ls (Some (a, listed z whole)) ending left) (sym same)
      (subst (λ (q : Reading (Ending W)). BlockRead Reads word_in spec code low ls (Some (a, listed x whole)) q.0 q.1) ended
      (subst (λ z. BlockRead Reads word_in spec code low ls (Some (a, listed x z)) (read_ending word_in z).0 (read_ending word_in z).1) is h))

  block_back : (low a : ℕ) (b : Listing E) (text more : List ℕ) → low ≤ a → t a ≡ Some b → IsOpenBlock word_text (IsText spec) spec a b (m a) text → AreBlockLines more
      → BlockRead Reads word_in spec code low (lines (text ++ more)) (Some (a, b)) (m a) (lines more)
  block_back low a b text more least there opened blocks =
      let is = opened.is_block in
      let fits = writable.fits a b there in
      let printable = writable.printable a b there in
      let own = writable.of_code a b there in
      let may_end : MayEnd Fits (m a) b.next b.exits = subst (MayEndAt Fits (m a)) there (may a) in
      let ends = end_lines spec b.uses b.next b.exits in
      let last = ending_text word_text (m a) ++ more in
      let behind = ends ++ last in
      let spelled : text ++ more ≡ at_line a ++ (is.element ++ behind) =
      ap (λ t. t ++ more) (opened.lines ∙ ap (λ t. t ++ ending_text word_text (m a)) is.lines) ∙ append_assoc (at_line a ++ (is.element ++ ends)) (ending_text word_text (m a)) more
      ∙ append_assoc (at_line a) (is.element ++ ends) last ∙ ap (λ t. at_line a ++ t) (append_assoc is.element ends last) in
      let lines_behind = ending_behind word_text word_in Fits words (m a) more blocks in
      let element = trips.back code b.elem is.element behind fits.1 printable.elem is.is_element (end_behind spec has code b.uses b.next b.exits last lines_behind printable.order printable.uses own.stamps) in
      let end = end_back spec has code b.uses b.next b.exits last lines_behind printable.order printable.uses own.stamps own.next.0 (each_below b.next own.next.1) own.next.1 own.exits printable.exits in
      listed_as b.elem b (m a) low a (lines (text ++ more)) (lines last) (lines more) (read_end spec code (lines behind)) refl end (ending_back word_text word_in Fits words b.uses more blocks (m a) b.next b.exits may_end)
      (block b.elem (ap (λ t. read_at code low (lines t)) spelled ∙ at_back code low a (is.element ++ behind) least fits.0 (words_below a fits.0)) element)

  pub blocks_back : (addresses : List ℕ) (low : ℕ) (text : List ℕ) → IsAscendingFrom low addresses → AreOpenBlocks word_text (IsText spec) spec t m addresses text
      → AreRead Reads word_in spec code low (lines text) (found t addresses) (ended t m addresses) None
  blocks_back [] low text ascend texts.none = none
  blocks_back (a ∷ addresses) low text ascend (texts.onto first rest is more) = at (t a) refl is (λ least ascend. blocks_back addresses least rest ascend more)
    where
      at : (o : Option (Listing E)) → t a ≡ o → IsOpenAt word_text (IsText spec) spec a o (m a) first
          → ((least : ℕ) → IsAscendingFrom least addresses → AreRead Reads word_in spec code least (lines rest) (found t addresses) (ended t m addresses) None)
          → AreRead Reads word_in spec code low (lines (first ++ rest)) (found_at t a o (found t addresses)) (ended_at t m a o (ended t m addresses)) None
      at None e is read =
          let least = ascend.0 in
          let lower = ascending_lower (a + 1) low addresses (omega (arith, least)) ascend.1 in
          subst (λ text. AreRead Reads word_in spec code low (lines (text ++ rest)) (found t addresses) (ended t m addresses) None) (sym is) (read low lower)
      at (Some b) e is read =
          onto (block_back low a b first rest ascend.0 e is (blocks_begin word_text (IsText spec) spec t m addresses rest more)) (read (a + 1) ascend.1)
