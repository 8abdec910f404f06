-- What is read of lines is one list of blocks, up to how their elements are written.
use Rattle.std.proofs.Common.{◌≡◌, ◌∙◌, ℕ, ◌+◌, Bool, true, false, cond, List, [], ◌∷◌, Option, Some, None, ap, refl, sym, subst}
use Rattle.std.specs.Prelude.{◌==◌}
use Rattle.base_trait.proofs.Tests.{at_choice}
use Rattle.spec_ir.specs.Specification.{Spec}
use Rattle.fixpoint_theory.specs.Elements.{Elements}
use Rattle.fixpoint_theory.specs.Table.{Listing, Listings}
use Rattle.fixpoint_open_tables.specs.declared.ending.Ending.{Ending}
use Rattle.text_lines.specs.Lines.{Lines}
use Rattle.text_element_readers.specs.Laws.{ReadingLaws}
use Rattle.text_element_readers.specs.Reading.{ElementReading}
use Rattle.text_element_readers.specs.Words.{WordReading}
use Rattle.text_table_reader.specs.Blocks.{AreRead, BlockRead, block, listed, listings_of, no_address, no_element, none, onto, stopped}
use Rattle.text_table_reader.specs.Starts.{read_at}
use Rattle.text_table_reader.specs.Endings.{read_ending}
use Rattle.text_table_reader.specs.Ends.{read_end}
use Rattle.text_table_reader.specs.Readings.{AreAlikeAt, IsSameListing}

-- ---- blocks that are alike
abbrev pub AreSameBlocks : {E S : Type 0} → Elements E S → List (ℕ × Listing E) → List (ℕ × Listing E) → Type 0
AreSameBlocks D [] [] = Unit {0}
AreSameBlocks D (b ∷ bs) (c ∷ cs) = (b.0 ≡ c.0) × IsSameListing D b.1 c.1 × AreSameBlocks D bs cs
AreSameBlocks D _ _ = ⊥

pub blocks_alike : {E S : Type 0} (D : Elements E S) (bs cs : List (ℕ × Listing E)) → AreSameBlocks D bs cs → (a : ℕ) → AreAlikeAt D (listings_of bs a) (listings_of cs a)
blocks_alike D [] [] h a = tt
blocks_alike D (b ∷ bs) (c ∷ cs) h a =
    subst (λ n. AreAlikeAt D (cond (b.0 == a) (Some b.1) (listings_of bs a)) (cond (n == a) (Some c.1) (listings_of cs a))) h.0 (at (b.0 == a) (blocks_alike D bs cs h.2 a))
  where
    at : (p : Bool) → AreAlikeAt D (listings_of bs a) (listings_of cs a) → AreAlikeAt D (cond p (Some b.1) (listings_of bs a)) (cond p (Some c.1) (listings_of cs a))
    at true rest = h.1
    at false rest = rest
blocks_alike D [] (c ∷ cs) h a = absurd h
blocks_alike D (b ∷ bs) [] h a = absurd h

-- what is found is one address, and one list of lines
found_one : (o : Option (ℕ × Lines)) (a b : ℕ) (l m : Lines) → o ≡ Some (a, l) → o ≡ Some (b, m) → (a ≡ b) × (l ≡ m)
found_one o a b l m e f =
    let some : Some (a, l) ≡ Some (b, m) = sym e ∙ f in
    let pair : (a, l) ≡ (b, m) = cc in
    (ap (λ (p : ℕ × Lines). p.0) pair, ap (λ (p : ℕ × Lines). p.1) pair)

module _ {E W S : Type 0} (Reads : ElementReading E) (word_in : WordReading W) (D : Elements E S) (spec : Spec) (laws : ReadingLaws Reads D spec) (code : ℕ → Bool) where
  abbrev Reading : ℕ → Lines → List (ℕ × Listing E) → List (ℕ × Option (Ending W)) → Option Lines → Type 0
  Reading low ls blocks ends fault = AreRead Reads word_in spec code low ls blocks ends fault

  -- how the block ends whose other lines these are, and the lines behind it
  abbrev end_at : Lines → Option (Ending W) × Lines
  end_at ls = read_ending word_in (read_end spec code ls)

  listed_same : (x y : E) (left later : Lines) → D.same x y → left ≡ later → IsSameListing D (listed x (read_end spec code left)) (listed y (read_end spec code later))
  listed_same x y left later same e = record {
    elem = same;
    next = ap (λ ls. (read_end spec code ls).next) e;
    exits = ap (λ ls. (read_end spec code ls).exits) e;
    uses = ap (λ ls. (read_end spec code ls).uses) e;
  }

  -- a block that is read is one, and so are the lines behind it
  AreSameBlock : Option (ℕ × Listing E) → Option (ℕ × Listing E) → Type 0
  AreSameBlock None None = Unit {0}
  AreSameBlock (Some b) (Some c) = (b.0 ≡ c.0) × IsSameListing D b.1 c.1
  AreSameBlock _ _ = ⊥

  block_is_one : (low : ℕ) (ls : Lines) (r s : Option (ℕ × Listing E)) (first second : Option (Ending W)) (left later : Lines)
      → BlockRead Reads word_in spec code low ls r first left → BlockRead Reads word_in spec code low ls s second later → AreSameBlock r s × (first ≡ second) × (left ≡ later)
  unfolding AreSameBlock
  block_is_one low ls r s first second left later (no_address e) (no_address f) = (tt, refl, refl)
  block_is_one low ls r s first second left later (no_address e) (no_element f q) = absurd cc
  block_is_one low ls r s first second left later (no_address e) (block y f q) = absurd cc
  block_is_one low ls r s first second left later (no_element e q) (no_address f) = absurd cc
  block_is_one low ls r s first second left later (no_element {at = a} {later = l} {left = u} e q) (no_element {at = b} {later = m} {left = v} f p) =
      let same = (found_one (read_at code low ls) a b l m e f).1 in
      (tt, refl, (laws.one code l None None u v q (subst (λ z. Reads spec code z None v) (sym same) p)).1)
  block_is_one low ls r s first second left later (no_element {at = a} {later = l} {left = u} e q) (block {at = b} {later = m} {end = v} y f p) =
      let same = (found_one (read_at code low ls) a b l m e f).1 in
      absurd (laws.one code l None (Some y) u v q (subst (λ z. Reads spec code z (Some y) v) (sym same) p)).0
  block_is_one low ls r s first second left later (block x e q) (no_address f) = absurd cc
  block_is_one low ls r s first second left later (block {at = a} {later = l} {end = u} x e q) (no_element {at = b} {later = m} {left = v} f p) =
      let same = (found_one (read_at code low ls) a b l m e f).1 in
      absurd (laws.one code l (Some x) None u v q (subst (λ z. Reads spec code z None v) (sym same) p)).0
  block_is_one low ls r s first second left later (block {at = a} {later = l} {end = u} x e q) (block {at = b} {later = m} {end = v} y f p) =
      let found = found_one (read_at code low ls) a b l m e f in
      let both = laws.one code l (Some x) (Some y) u v q (subst (λ z. Reads spec code z (Some y) v) (sym found.1) p) in
      ((found.0, listed_same x y u v both.0 both.1), ap (λ z. (end_at z).0) both.1, ap (λ z. (end_at z).1) both.1)

  -- no block is read of no lines
  no_block : (low : ℕ) (b : ℕ × Listing E) (ending : Option (Ending W)) (left : Lines) → BlockRead Reads word_in spec code low [] (Some b) ending left → ⊥
  no_block low b ending left (block x e q) = cc

  pub reads_are_one : (low : ℕ) (ls : Lines) (bs cs : List (ℕ × Listing E)) (es fs : List (ℕ × Option (Ending W))) (fault other : Option Lines) → Reading low ls bs es fault → Reading low ls cs fs other
      → AreSameBlocks D bs cs × (es ≡ fs) × (fault ≡ other)
  unfolding AreSameBlock
  reads_are_one low ls bs cs es fs fault other none none = (tt, refl, refl)
  reads_are_one low ls bs cs es fs fault other none (stopped some r) = absurd (some refl)
  reads_are_one low ls bs cs es fs fault other none (onto {at = a} {later = l} {b = b} {ending = x} r rest) = absurd (no_block low (a, b) x l r)
  reads_are_one low ls bs cs es fs fault other (stopped some r) none = absurd (some refl)
  reads_are_one low ls bs cs es fs fault other (stopped {left = u} some r) (stopped {left = v} others q) = (tt, refl, ap (λ z. Some z) (block_is_one low ls None None None None u v r q).2)
  reads_are_one low ls bs cs es fs fault other (stopped {left = u} some r) (onto {at = a} {later = l} {b = b} {ending = x} q rest) = absurd (block_is_one low ls None (Some (a, b)) None x u l r q).0
  reads_are_one low ls bs cs es fs fault other (onto {at = a} {later = l} {b = b} {ending = x} r rest) none = absurd (no_block low (a, b) x l r)
  reads_are_one low ls bs cs es fs fault other (onto {at = a} {later = l} {b = b} {ending = x} r rest) (stopped {left = u} some q) = absurd (block_is_one low ls (Some (a, b)) None x None l u r q).0
  reads_are_one low ls bs cs es fs fault other (onto {at = a} {later = l} {b = b} {ending = x} {blocks = bs'} {ends = es'} {fault = p} r rest) (onto {at = c} {later = m} {b = d} {ending = y} {blocks = cs'} {ends = fs'} {fault = p'} q more) =
      let one = block_is_one low ls (Some (a, b)) (Some (c, d)) x y l m r q in
      let own : Reading (a + 1) l cs' fs' p' = subst (λ z. Reading (a + 1) z cs' fs' p') (sym one.2) (subst (λ z. Reading (z + 1) m cs' fs' p') (sym one.0.0) more) in
      let later = reads_are_one (a + 1) l bs' cs' es' fs' p p' rest own in
      let ends : (a, x) ∷ es' ≡ (c, y) ∷ fs' = ap (λ (z : ℕ). (z, x) ∷ es') one.0.0 ∙ ap (λ (z : Option (Ending W)). (c, z) ∷ es') one.1 ∙ ap (λ (z : List (ℕ × Option (Ending W))). (c, y) ∷ z) later.1 in
      ((one.0.0, one.0.1, later.0), ends, later.2)
