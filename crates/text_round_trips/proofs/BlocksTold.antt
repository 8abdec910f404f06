-- Blocks that are read are those of a text.
use Rattle.std.proofs.Common.{◌≡◌, ◌∙◌, ◌+◌, ◌<◌, ◌≤◌, ◌==◌, ℕ, Bool, true, false, cond, List, [], ◌∷◌, ◌++◌, Option, Some, None, IsTrue, refl, sym, ap, subst, inl, inr, arith}
use Rattle.std.specs.Prelude.{◌&&◌, codes, nat_le}
use Rattle.std.specs.Option.{option_and_then}
use Rattle.std.proofs.lemmas.Bool.{and_parts, cases_Bool, eqb-true, leb-true}
use Rattle.std.proofs.lemmas.Bool.Decides.{nat_tests}
use Rattle.std.proofs.lemmas.Option.{cond_some, none-some, same_Some}
use Rattle.base_trait.specs.Lists.{Each, IsAmong, IsAscendingFrom}
use Rattle.base_trait.specs.Uses.{Seen}
use Rattle.base_trait.proofs.Lists.{ascending_above}
use Rattle.spec_ir.specs.Specification.{Spec}
use Rattle.fixpoint_theory.specs.Elements.{Elements}
use Rattle.fixpoint_theory.specs.Table.{Listing, Listings}
use Rattle.fixpoint_open_tables.specs.Endings.{Endings}
use Rattle.fixpoint_open_tables.specs.declared.ending.Ending.{Ending}
use Rattle.text_words.specs.Digits.{number_tells}
use Rattle.text_words.specs.Fronts.{behind_tells}
use Rattle.text_words.specs.Options.{followed}
use Rattle.text_words.specs.Reading.{behind, number_in}
use Rattle.text_words.specs.Readings.{StampFits}
use Rattle.text_words.specs.Words.{number}
use Rattle.analysis_table_laws.specs.Tables.{IsPrintable, IsUseOf}
use Rattle.text_lines.specs.Lines.{Lines, first_line, text_of}
use Rattle.text_lines.proofs.Steps.{first_is}
use Rattle.text_elements.specs.Parts.{ElementText}
use Rattle.text_element_readers.specs.Reading.{ElementReading}
use Rattle.text_element_readers.specs.Words.{WordReading}
use Rattle.text_round_trips.specs.RoundTrips.{RoundTrips}
use Rattle.text_round_trips.specs.Words.{WordsTell}
use Rattle.text_tables.specs.Blocks.{at_line, end_lines}
use Rattle.text_tables.specs.Open as texts
use Rattle.text_tables.specs.Open.{AreOpenBlocks, IsOpenAt, IsOpenBlock, ending_text}
use Rattle.text_table_reader.specs.Blocks.{AreRead, BlockRead, block, listings_of, none, onto, stopped}
use Rattle.text_table_reader.specs.Endings.{endings_in, read_ending}
use Rattle.text_table_reader.specs.Ends.{read_end}
use Rattle.text_table_reader.specs.Starts.{address_from, at_said, read_at, read_at_of, with_lines}
use Rattle.text_round_trips.specs.Fields.{HasUseTexts}
use Rattle.text_round_trips.specs.Writable.{IsBlockOfCode, MayEnd, MayEndAt}
use Rattle.text_round_trips.proofs.Added.{Adds, adds_as, adds_both, adds_front, adds_line, adds_nothing}
use Rattle.text_round_trips.proofs.Ends.{IsUseHere}
use Rattle.text_round_trips.proofs.EndLines.{end_told}
use Rattle.text_round_trips.proofs.Endings.{ending_told}

-- ---- the address of a block

-- What is told of the address of a block.
record AtTold (code : ℕ → Bool) (low : ℕ) (ls : Lines) (at : ℕ) (later : Lines) : Type 0 where
  adds : Adds (at_line at) ls later
  least : low ≤ at
  word : IsTrue (code at)

module _ (code : ℕ → Bool) (low : ℕ) where
  address_told : (o : Option ℕ) (at : ℕ) → address_from code low o ≡ Some at → (o ≡ Some at) × (low ≤ at) × IsTrue (code at)
  address_told None at h = absurd (none-some at h)
  address_told (Some n) at h =
      let keeps = cond_some (nat_le low n && code n) n at h in
      let both = and_parts (nat_le low n) (code n) keeps.0 in
      subst (λ m. (Some n ≡ Some m) × (low ≤ m) × IsTrue (code m)) keeps.1 (refl, leb-true low n both.0, both.1)

  line_told : (line : List ℕ) (at : ℕ) → at_said code low line ≡ Some at → (at_line at ≡ line ++ codes "\n") × (low ≤ at) × IsTrue (code at)
  line_told line at h =
      let from = address_told (option_and_then (number_in 32) (behind (codes "at ") line)) at h in
      let inner = followed (number_in 32) (behind (codes "at ") line) at from.0 in
      let digits = number_tells 32 inner.from at inner.gives in
      let text : codes "at " ++ number 32 at ≡ line = ap (λ t. codes "at " ++ t) digits.0 ∙ behind_tells (codes "at ") line inner.from inner.is in
      (ap (λ t. t ++ codes "\n") text, from.1, from.2)

  with_told : (line : List ℕ) (others : Lines) (o : Option ℕ) (at : ℕ) (later : Lines) → at_said code low line ≡ o → with_lines code others o ≡ Some (at, later) → AtTold code low (Some line ∷ others) at later
  with_told line others None at later is h = absurd (none-some (at, later) h)
  with_told line others (Some a) at later is h =
      let pair : (a, others) ≡ (at, later) = same_Some (a, others) (at, later) h in
      let told = line_told line a is in
      subst (λ (p : ℕ × Lines). AtTold code low (Some line ∷ others) p.0 p.1) pair
      (record { adds = adds_as (line ++ codes "\n") (at_line a) (Some line ∷ others) others (sym told.0) (adds_line line others); least = told.1; word = told.2 })

  at_from : (ls : Lines) (at : ℕ) (later : Lines) (first : Option (List ℕ × Lines)) → first_line ls ≡ first → read_at_of code low first ≡ Some (at, later) → AtTold code low ls at later
  at_from ls at later None is h = absurd (none-some (at, later) h)
  at_from ls at later (Some cut) is h = subst (λ l. AtTold code low l at later) (sym (first_is ls cut is)) (with_told cut.0 cut.1 (at_said code low cut.0) at later refl h)

  at_told : (ls : Lines) (at : ℕ) (later : Lines) → read_at code low ls ≡ Some (at, later) → AtTold code low ls at later
  at_told ls at later h = at_from ls at later (first_line ls) refl h

-- ---- blocks with their texts

module _ {E W : Type 0} (word_text : ℕ → W → List ℕ) (IsElement : E → List ℕ → Type 0) (spec : Spec) where
  -- The text of blocks, one after another, with their endings.
  pub data AreWritten : List (ℕ × Listing E) → List (ℕ × Option (Ending W)) → List ℕ → Type 0 where
    nothing : AreWritten [] [] []
    more : {b : ℕ × Listing E} {ending : Option (Ending W)} {blocks : List (ℕ × Listing E)} {ends : List (ℕ × Option (Ending W))} (first rest : List ℕ)
        → IsOpenBlock word_text IsElement spec b.0 b.1 ending first → AreWritten blocks ends rest → AreWritten (b ∷ blocks) ((b.0, ending) ∷ ends) (first ++ rest)

  -- blocks at ascending addresses of code words
  abbrev pub AreOfCode : (ℕ → Bool) → ℕ → List (ℕ × Listing E) → Type 0
  AreOfCode code low [] = Unit {0}
  AreOfCode code low (b ∷ blocks) = (low ≤ b.0) × IsTrue (code b.0) × AreOfCode code (b.0 + 1) blocks

  none_below : (code : ℕ → Bool) (blocks : List (ℕ × Listing E)) (low a : ℕ) → AreOfCode code low blocks → a < low → listings_of blocks a ≡ None
  none_below code [] low a of_code below = refl
  none_below code (b ∷ blocks) low a of_code below =
      let least = of_code.0 in
      let apart : (b.0 == a) ≡ false = grind (arith, nat_tests, least, below) in
      rw apart (none_below code blocks (b.0 + 1) a of_code.2 (omega (arith, least, below)))

  module _ (code : ℕ → Bool) (t : Listings E) (m : Endings W) where
    -- the addresses have each word from one on
    abbrev Covers : ℕ → List ℕ → Type 0
    Covers low addresses = (a : ℕ) → low ≤ a → IsTrue (code a) → IsAmong a addresses

    -- the table and the endings are those of the blocks from an address on
    abbrev IsFrom : ℕ → List (ℕ × Listing E) → List (ℕ × Option (Ending W)) → Type 0
    IsFrom low blocks ends = (a : ℕ) → low ≤ a → (t a ≡ listings_of blocks a) × (m a ≡ endings_in ends a)

    covers_behind : (low x : ℕ) (addresses : List ℕ) → low ≤ x → Covers low (x ∷ addresses) → Covers (x + 1) addresses
    covers_behind low x addresses least covers a above word = at (covers a (omega (arith, least, above)) word)
      where
        at : IsAmong a (x ∷ addresses) → IsAmong a addresses
        at (inl e) = absurd (omega (arith, e, above))
        at (inr k) = k

    -- blocks among the addresses of words are what is written of those
    pub are_blocks : (addresses : List ℕ) (low : ℕ) (blocks : List (ℕ × Listing E)) (ends : List (ℕ × Option (Ending W))) (text : List ℕ) → IsAscendingFrom low addresses → Covers low addresses → AreOfCode code low blocks
        → IsFrom low blocks ends → AreWritten blocks ends text → AreOpenBlocks word_text IsElement spec t m addresses text
    are_blocks [] low [] ends text ascend covers of_code same nothing = texts.none
    are_blocks [] low (b ∷ blocks) ends text ascend covers of_code same written = absurd (covers b.0 of_code.0 of_code.1)
    are_blocks (x ∷ addresses) low [] ends text ascend covers of_code same nothing =
        let least = ascend.0 in
        texts.onto [] [] (subst (λ o. IsOpenAt word_text IsElement spec x o (m x) []) (sym (same x ascend.0).0) refl)
        (are_blocks addresses (x + 1) [] [] [] ascend.1 (covers_behind low x addresses ascend.0 covers) tt (λ a above. same a (omega (arith, least, above))) nothing)
    are_blocks (x ∷ addresses) low (b ∷ blocks) ends text ascend covers of_code same (more {ending = ending} {ends = es} first rest is written) =
        let least = ascend.0 in
        let behind = covers_behind low x addresses ascend.0 covers in
        elim (cases_Bool (b.0 == x)) [
          | inl e ↦
              let here : b.0 ≡ x = eqb-true b.0 x e in
              let found : t x ≡ Some b.1 = (same x ascend.0).0 ∙ ap (λ test. cond test (Some b.1) (listings_of blocks x)) e in
              let ended : m x ≡ ending = (same x ascend.0).1 ∙ ap (λ test. cond test ending (endings_in es x)) e in
              let others : IsFrom (x + 1) blocks es = λ a above.
              let apart : (b.0 == a) ≡ false = grind (arith, nat_tests, here, above) in
              let so = same a (omega (arith, least, above)) in
              (so.0 ∙ ap (λ test. cond test (Some b.1) (listings_of blocks a)) apart, so.1 ∙ ap (λ test. cond test ending (endings_in es a)) apart) in
              texts.onto first rest
              (subst (λ o. IsOpenAt word_text IsElement spec x o (m x) first) (sym found)
              (subst (λ z. IsOpenBlock word_text IsElement spec x b.1 z first) (sym ended) (subst (λ n. IsOpenBlock word_text IsElement spec n b.1 ending first) here is)))
              (are_blocks addresses (x + 1) blocks es rest ascend.1 behind (subst (λ n. AreOfCode code (n + 1) blocks) here of_code.2) others written)
          | inr e ↦
              let above : x + 1 ≤ b.0 = later (covers b.0 of_code.0 of_code.1) e in
              let missing : t x ≡ None = (same x ascend.0).0 ∙ none_below code (b ∷ blocks) b.0 x (omega arith, of_code.1, of_code.2) (omega (arith, above)) in
              texts.onto [] (first ++ rest) (subst (λ o. IsOpenAt word_text IsElement spec x o (m x) []) (sym missing) refl)
              (are_blocks addresses (x + 1) (b ∷ blocks) ((b.0, ending) ∷ es) (first ++ rest) ascend.1 behind (above, of_code.1, of_code.2) (λ a up. same a (omega (arith, least, up))) (more first rest is written))
        ]
      where
        later : IsAmong b.0 (x ∷ addresses) → (b.0 == x) ≡ false → x + 1 ≤ b.0
        later (inl same) e = absurd (let one : (b.0 == x) ≡ true = grind (arith, nat_tests, same) in let bad : true ≡ false = sym one ∙ e in cc)
        later (inr k) e = ascending_above (x + 1) b.0 addresses ascend.1 k

-- ---- what is read

module _ {E W S : Type 0} (Reads : ElementReading E) (word_in : WordReading W) (IsText : ElementText E) (word_text : ℕ → W → List ℕ) (D : Elements E S) (K : (ℕ → Bool) → E → Type 0) (Fits : W → Type 0) (spec : Spec)
    (trips : RoundTrips Reads IsText D K spec) (words : WordsTell word_text word_in Fits) (has : HasUseTexts spec) (code : ℕ → Bool) where
  -- What is told of a block by its lines.
  pub record BlockTold (low : ℕ) (ls : Lines) (b : ℕ × Listing E) (ending : Option (Ending W)) (later : Lines) : Type 0 where
    pub text : List ℕ
    pub is : IsOpenBlock word_text (IsText spec) spec b.0 b.1 ending text
    pub adds : Adds text ls later
    pub least : low ≤ b.0
    pub word : IsTrue (code b.0)
    pub printable : IsPrintable spec (K code) b.1
    pub of_code : IsBlockOfCode code b.1
    pub may : MayEnd Fits ending b.1.next b.1.exits

  uses_of : (uses : List Seen) → Each (IsUseHere spec has code) uses → Each (IsUseOf spec) uses × Each (λ u. Each (StampFits code) u.stamps) uses
  uses_of [] each = (tt, tt)
  uses_of (u ∷ uses) each = let rest = uses_of uses each.1 in ((each.0.is_use, rest.0), (each.0.stamps, rest.1))

  pub block_told : (low : ℕ) (ls later : Lines) (b : ℕ × Listing E) (ending : Option (Ending W)) → BlockRead Reads word_in spec code low ls (Some b) ending later → BlockTold low ls b ending later
  block_told low ls later b ending (block {at = at} {later = behind} {end = end} x e r) =
      let first = at_told code low ls at behind e in
      let element = trips.told code behind end x r in
      let own = adds_front element.front behind end element.are element.whole in
      let last = end_told spec has code end in
      let left = read_end spec code end in
      let tail = end_lines spec left.uses left.next left.exits in
      let uses = uses_of left.uses last.uses in
      let open_end = read_ending word_in left in
      let ended = ending_told word_text word_in Fits words left in
      let block_text = at_line at ++ (text_of element.front ++ tail) in
      record {
        text = block_text ++ ending_text word_text open_end.0;
        is = record { block = block_text; is_block = record { element = text_of element.front; is_element = element.text; lines = refl }; lines = refl };
        adds = adds_both block_text (ending_text word_text open_end.0) ls left.left open_end.1
            (adds_both (at_line at) (text_of element.front ++ tail) ls behind left.left first.adds (adds_both (text_of element.front) tail behind end left.left own last.adds)) ended.adds;
        least = first.least;
        word = first.word;
        printable = record { elem = trips.printable code behind end x r; exits = last.exits.1; uses = uses.0; order = last.order };
        of_code = record { next = last.next; exits = last.exits.0; stamps = uses.1 };
        may = ended.may;
      }

  -- blocks with their endings, each of which it may have
  abbrev pub MayAllEnd : List (ℕ × Listing E) → List (ℕ × Option (Ending W)) → Type 0
  MayAllEnd [] [] = Unit {0}
  MayAllEnd (b ∷ blocks) (e ∷ ends) = (b.0 ≡ e.0) × MayEnd Fits e.1 b.1.next b.1.exits × MayAllEnd blocks ends
  MayAllEnd _ _ = ⊥

  -- so it is of the table and the endings that they are
  pub may_each_end : (blocks : List (ℕ × Listing E)) (ends : List (ℕ × Option (Ending W))) → MayAllEnd blocks ends → (a : ℕ) → MayEndAt Fits (endings_in ends a) (listings_of blocks a)
  may_each_end [] [] all a = refl
  may_each_end [] (e ∷ ends) all a = absurd all
  may_each_end (b ∷ blocks) [] all a = absurd all
  may_each_end (b ∷ blocks) (e ∷ ends) all a =
      subst (λ n. MayEndAt Fits (cond (n == a) e.1 (endings_in ends a)) (cond (b.0 == a) (Some b.1) (listings_of blocks a))) all.0 (at (b.0 == a) (may_each_end blocks ends all.2 a))
    where
      at : (p : Bool) → MayEndAt Fits (endings_in ends a) (listings_of blocks a) → MayEndAt Fits (cond p e.1 (endings_in ends a)) (cond p (Some b.1) (listings_of blocks a))
      at true rest = all.1
      at false rest = rest

  -- What is told of blocks by their lines.
  pub record BlocksTold (low : ℕ) (ls : Lines) (blocks : List (ℕ × Listing E)) (ends : List (ℕ × Option (Ending W))) : Type 0 where
    pub text : List ℕ
    pub written : AreWritten word_text (IsText spec) spec blocks ends text
    pub adds : Adds text ls []
    pub of_code : AreOfCode word_text (IsText spec) spec code low blocks
    pub each : Each (λ b. IsPrintable spec (K code) b.1 × IsBlockOfCode code b.1) blocks
    pub may : MayAllEnd blocks ends

  pub blocks_told : (low : ℕ) (ls : Lines) (blocks : List (ℕ × Listing E)) (ends : List (ℕ × Option (Ending W))) (fault : Option Lines) → AreRead Reads word_in spec code low ls blocks ends fault → fault ≡ None
      → BlocksTold low ls blocks ends
  blocks_told low ls blocks ends fault none e = record { text = []; written = nothing; adds = adds_nothing []; of_code = tt; each = tt; may = tt }
  blocks_told low ls blocks ends fault (stopped {left = left} some r) e = absurd (none-some left (sym e))
  blocks_told low ls blocks ends fault (onto {at = at} {later = later} {b = b} {ending = x} {blocks = bs} {ends = es} {fault = f} r rest) e =
      let first = block_told low ls later (at, b) x r in
      let others = blocks_told (at + 1) later bs es f rest e in
      record {
        text = first.text ++ others.text;
        written = more first.text others.text first.is others.written;
        adds = adds_both first.text others.text ls later [] first.adds others.adds;
        of_code = (first.least, first.word, others.of_code);
        each = ((first.printable, first.of_code), others.each);
        may = (refl, first.may, others.may);
      }
