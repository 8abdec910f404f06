-- Blocks that are read one after another.
use Rattle.std.proofs.Common.{◌≡◌, ◌≢◌, ◌==◌, ◌+◌, ◌<◌, ◌≤◌, ℕ, Bool, true, false, cond, List, [], ◌∷◌, ◌++◌, Option, Some, None, option_map, IsTrue, refl, sym, ap, subst, ◌∙◌, inl, inr, arith, append_assoc}
use Rattle.std.specs.Ordering.{is_eq, nat_cmp}
use Rattle.std.specs.Option.{option_or}
use Rattle.std.proofs.lemmas.Bool.{cases_Bool, eq-eqb, eqb-true}
use Rattle.std.proofs.lemmas.Bool.Decides.{nat_tests}
use Rattle.std.proofs.lemmas.List.{append-nil}
use Rattle.std.proofs.lemmas.Option.{none-some, same_Some}
use Rattle.std.specs.BTreeMap.{BTreeMap, Updates, get}
use Rattle.base_trait.specs.Lists.{Each}
use Rattle.spec_ir.specs.Specification.{Spec}
use Rattle.fixpoint_theory.specs.declared.table.Block.{Block}
use Rattle.fixpoint_theory.specs.Views.{listing, listings}
use Rattle.fixpoint_theory.specs.Table.{Listing, Listings}
use Rattle.fixpoint_open_tables.specs.Endings.{Endings, ends_in}
use Rattle.fixpoint_open_tables.specs.Gathering.{IsPut}
use Rattle.fixpoint_open_tables.specs.declared.ending.Ending.{Ending}
use Rattle.text_lines.specs.Lines.{Lines}
use Rattle.text_element_readers.specs.Reading.{ElementReading}
use Rattle.text_element_readers.specs.Words.{WordReading}
use Rattle.text_table_reader.specs.Blocks.{AreBlocksOf, AreFaultyFrom, AreRead, BlockRead, BlocksFit, listings_of, none, onto, stopped}
use Rattle.text_table_reader.specs.Endings.{endings_in}

-- the test of keys is that of numbers
pub same_key : (k q : ℕ) → is_eq (nat_cmp k q) ≡ (k == q)
same_key k q = grind (arith, nat_tests)

module _ {E : Type 0} where
  or_none : (o : Option (Listing E)) → option_or o None ≡ o
  or_none None = refl
  or_none (Some b) = refl

  -- one more block is found where none was before
  listings_more : (done : List (ℕ × Listing E)) (at : ℕ) (b : Listing E) (a : ℕ) → listings_of (done ++ (at, b) ∷ []) a ≡ option_or (listings_of done a) (cond (at == a) (Some b) None)
  listings_more [] at b a = refl
  listings_more (e ∷ done) at b a = elim (cases_Bool (e.0 == a)) [
    | inl h ↦ rw h refl
    | inr h ↦ rw h (listings_more done at b a)
  ]

-- ---- endings

module _ {W : Type 0} where
  -- they stand before an address
  abbrev pub AreBefore : ℕ → List (ℕ × Option (Ending W)) → Type 0
  AreBefore low ends = Each (λ e. e.0 < low) ends

  later_before : (at low : ℕ) (ends : List (ℕ × Option (Ending W))) → low ≤ at → AreBefore low ends → AreBefore at ends
  later_before at low [] h each = tt
  later_before at low (e ∷ ends) h each = let first = each.0 in (omega (arith, first, h), later_before at low ends h each.1)

  more_before : (at : ℕ) (ending : Option (Ending W)) (ends : List (ℕ × Option (Ending W))) → AreBefore at ends → AreBefore (at + 1) (ends ++ (at, ending) ∷ [])
  more_before at ending [] each = (omega arith, tt)
  more_before at ending (e ∷ ends) each = let first = each.0 in (omega (arith, first), more_before at ending ends each.1)

  none_behind : (low a : ℕ) (ends : List (ℕ × Option (Ending W))) → AreBefore low ends → low ≤ a → endings_in ends a ≡ None
  none_behind low a [] each h = refl
  none_behind low a (e ∷ ends) each h =
      let first = each.0 in
      let apart : (e.0 == a) ≡ false = grind (arith, nat_tests, first, h) in
      rw apart (none_behind low a ends each.1 h)

  own_ending : (at : ℕ) (ending : Option (Ending W)) (ends : List (ℕ × Option (Ending W))) → AreBefore at ends → endings_in (ends ++ (at, ending) ∷ []) at ≡ ending
  own_ending at ending [] each = let same : (at == at) ≡ true = eq-eqb at at refl in rw same refl
  own_ending at ending (e ∷ ends) each =
      let first = each.0 in
      let apart : (e.0 == at) ≡ false = grind (arith, nat_tests, first) in
      rw apart (own_ending at ending ends each.1)

  other_ending : (at a : ℕ) (ending : Option (Ending W)) (ends : List (ℕ × Option (Ending W))) → (at == a) ≡ false → endings_in (ends ++ (at, ending) ∷ []) a ≡ endings_in ends a
  other_ending at a ending [] apart = rw apart refl
  other_ending at a ending (e ∷ ends) apart = elim (cases_Bool (e.0 == a)) [
    | inl h ↦ rw h refl
    | inr h ↦ rw h (other_ending at a ending ends apart)
  ]

  -- what there is where the ending of a block is added that had none
  pub ending_put : (m n : List (ℕ × Ending W)) (at : ℕ) (ending : Option (Ending W)) → IsPut m n at ending → ends_in m at ≡ None
      → (a : ℕ) → ends_in n a ≡ cond (at == a) ending (ends_in m a)
  ending_put m n at None put lacks a = elim (cases_Bool (at == a)) [
    | inl h ↦ let same : at ≡ a = eqb-true at a h in ap (λ k. ends_in k a) put ∙ subst (λ z. ends_in m z ≡ None) same lacks ∙ rw h refl
    | inr h ↦ ap (λ k. ends_in k a) put ∙ rw h refl
  ]
  ending_put m n at (Some x) put lacks a = put a

  pub no_endings : (m : List (ℕ × Ending W)) → m ≡ [] → (a : ℕ) → ends_in m a ≡ None
  no_endings m e a = rw e refl

-- ---- what is read so far

module _ {E W : Type 0} (Reads : ElementReading E) (word_in : WordReading W) (spec : Spec) (is_word : ℕ → Bool) (Fits : E → Type 0) (first : Lines) where
  -- What is read so far, where these lines are left, and the table and the endings are those of the blocks that were read.
  pub record SoFar (low : ℕ) (ls : Lines) (t : Listings E) (m : Endings W) : Type 0 where
    pub blocks : List (ℕ × Listing E)
    pub ends : List (ℕ × Option (Ending W))
    pub whole : (more : List (ℕ × Listing E)) (others : List (ℕ × Option (Ending W))) (fault : Option Lines) → AreRead Reads word_in spec is_word low ls more others fault
        → AreRead Reads word_in spec is_word 0 first (blocks ++ more) (ends ++ others) fault
    pub table : (a : ℕ) → t a ≡ listings_of blocks a
    pub end_so : (a : ℕ) → m a ≡ endings_in ends a
    pub above : (a : ℕ) → low ≤ a → t a ≡ None
    pub before : AreBefore low ends
    pub fits : BlocksFit is_word Fits t

  -- nothing
  pub begun : (t : Listings E) (m : Endings W) → ((a : ℕ) → t a ≡ None) → ((a : ℕ) → m a ≡ None) → SoFar 0 first t m
  begun t m empty nowhere = record {
    blocks = [];
    ends = [];
    whole = λ more others fault h. h;
    table = empty;
    end_so = nowhere;
    above = λ a h. empty a;
    before = tt;
    fits = λ at b e. absurd (none-some b (sym (empty at) ∙ e));
  }

  module _ (low : ℕ) (ls : Lines) (t : Listings E) (m : Endings W) (so_far : SoFar low ls t m) where
    -- no ending is known of what comes
    pub none_to_come : (a : ℕ) → low ≤ a → m a ≡ None
    none_to_come a h = so_far.end_so a ∙ none_behind low a so_far.ends so_far.before h

    -- one block more
    module _ (at : ℕ) (b : Listing E) (ending : Option (Ending W)) (later : Lines) (u : Listings E) (n : Endings W)
        (read : BlockRead Reads word_in spec is_word low ls (Some (at, b)) ending later) (least : low ≤ at)
        (put : (a : ℕ) → u a ≡ cond (at == a) (Some b) (t a)) (ended : (a : ℕ) → n a ≡ cond (at == a) ending (m a)) (word : IsTrue (is_word at)) (fit : Fits b.elem) where
      more_table : (a : ℕ) → u a ≡ listings_of (so_far.blocks ++ (at, b) ∷ []) a
      more_table a = elim (cases_Bool (at == a)) [
        | inl h ↦
            let same : at ≡ a = eqb-true at a h in
            let before : listings_of so_far.blocks a ≡ None = sym (so_far.table a) ∙ so_far.above a (omega (arith, same, least)) in
            put a ∙ rw h (sym (listings_more so_far.blocks at b a ∙ rw (before, h) refl))
        | inr h ↦ put a ∙ rw h (so_far.table a ∙ sym (listings_more so_far.blocks at b a ∙ rw h (or_none (listings_of so_far.blocks a))))
      ]

      all_before : AreBefore at so_far.ends
      all_before = later_before at low so_far.ends least so_far.before

      more_ends : (a : ℕ) → n a ≡ endings_in (so_far.ends ++ (at, ending) ∷ []) a
      more_ends a = elim (cases_Bool (at == a)) [
        | inl h ↦ ended a ∙ rw h (sym (subst (λ z. endings_in (so_far.ends ++ (at, ending) ∷ []) z ≡ ending) (eqb-true at a h) (own_ending at ending so_far.ends all_before)))
        | inr h ↦ ended a ∙ rw h (so_far.end_so a ∙ sym (other_ending at a ending so_far.ends h))
      ]

      more_above : (a : ℕ) → at + 1 ≤ a → u a ≡ None
      more_above a far =
          let apart : (at == a) ≡ false = grind (arith, nat_tests, far) in
          put a ∙ rw apart (so_far.above a (omega (arith, far, least)))

      more_fits : BlocksFit is_word Fits u
      more_fits a c e = elim (cases_Bool (at == a)) [
        | inl h ↦
            let same : at ≡ a = eqb-true at a h in
            let is : b ≡ c = same_Some b c (sym (rw h at (put a)) ∙ e) in
            subst (λ z. IsTrue (is_word z) × Fits c.elem) same (word, subst (λ z. Fits z.elem) is fit)
        | inr h ↦ so_far.fits a c (sym (rw h at (put a)) ∙ e)
      ]

      more_whole : (more : List (ℕ × Listing E)) (others : List (ℕ × Option (Ending W))) (fault : Option Lines) → AreRead Reads word_in spec is_word (at + 1) later more others fault
          → AreRead Reads word_in spec is_word 0 first ((so_far.blocks ++ (at, b) ∷ []) ++ more) ((so_far.ends ++ (at, ending) ∷ []) ++ others) fault
      more_whole more others fault h =
          subst (λ es. AreRead Reads word_in spec is_word 0 first ((so_far.blocks ++ (at, b) ∷ []) ++ more) es fault) (sym (append_assoc so_far.ends ((at, ending) ∷ []) others))
          (subst (λ bs. AreRead Reads word_in spec is_word 0 first bs (so_far.ends ++ (at, ending) ∷ others) fault) (sym (append_assoc so_far.blocks ((at, b) ∷ []) more))
          (so_far.whole ((at, b) ∷ more) ((at, ending) ∷ others) fault (onto read h)))

      pub one_more : SoFar (at + 1) later u n
      one_more = record {
        blocks = so_far.blocks ++ (at, b) ∷ [];
        ends = so_far.ends ++ (at, ending) ∷ [];
        whole = more_whole;
        table = more_table;
        end_so = more_ends;
        above = more_above;
        before = more_before at ending so_far.ends all_before;
        fits = more_fits;
      }

    -- no line is left
    pub to_the_end : ls ≡ [] → AreBlocksOf Reads word_in spec is_word first t m
    to_the_end empty = record {
      blocks = so_far.blocks ++ [];
      ends = so_far.ends ++ [];
      are_read = so_far.whole [] [] None (subst (λ l. AreRead Reads word_in spec is_word low l [] [] None) (sym empty) none);
      table = λ a. so_far.table a ∙ ap (λ bs. listings_of bs a) (sym (append-nil so_far.blocks));
      end_so = λ a. so_far.end_so a ∙ ap (λ es. endings_in es a) (sym (append-nil so_far.ends));
    }

    -- a line is faulty
    pub to_a_fault : (left : Lines) → ls ≢ [] → BlockRead Reads word_in spec is_word low ls None None left → AreFaultyFrom Reads word_in spec is_word first left
    to_a_fault left some read = record { blocks = so_far.blocks ++ []; ends = so_far.ends ++ []; are_read = so_far.whole [] [] (Some left) (stopped some read) }

-- ---- the blocks of the code

module _ {E : Type 0} where
  -- what a map of blocks lists
  abbrev pub listed_in : BTreeMap ℕ (Block E) → Listings E
  listed_in m = listings (λ x. x) (record { blocks = m })

  pub none_yet : (m : BTreeMap ℕ (Block E)) → m.entries ≡ [] → (a : ℕ) → listed_in m a ≡ None
  none_yet m e a = rw e refl

  mapped_choice : (test : Bool) (b : Block E) (o : Option (Block E)) → option_map (listing (λ x. x)) (cond test (Some b) o) ≡ cond test (Some (listing (λ x. x) b)) (option_map (listing (λ x. x)) o)
  mapped_choice true b o = refl
  mapped_choice false b o = refl

  pub one_put : (m n : BTreeMap ℕ (Block E)) (at : ℕ) (b : Block E) → Updates nat_cmp m n at (Some b) → (a : ℕ) → listed_in n a ≡ cond (at == a) (Some (listing (λ x. x) b)) (listed_in m a)
  one_put m n at b update a =
      ap (option_map (listing (λ x. x))) (update.0 a) ∙ ap (λ t. option_map (listing (λ x. x)) (cond t (Some b) (get nat_cmp m a))) (same_key at a) ∙ mapped_choice (at == a) b (get nat_cmp m a)
