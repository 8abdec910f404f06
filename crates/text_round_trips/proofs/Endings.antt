-- How a block ends that is left open is told by its line, and read as it is written.
use Rattle.std.proofs.Common.{◌≡◌, ◌∙◌, ◌<◌, ◌^◌, ℕ, Bool, true, false, List, [], ◌∷◌, ◌++◌, Option, Some, None, option_map, IsTrue, if◌then◌else◌, refl, sym, ap, subst, append_assoc, arith}
use Rattle.std.specs.Prelude.{codes}
use Rattle.std.specs.Option.{option_and_then, option_or}
use Rattle.std.proofs.lemmas.Option.{none-some, same_Some}
use Rattle.word_operations.specs.Width.{IsWidth}
use Rattle.base_trait.specs.Uses.{Seen}
use Rattle.fixpoint_open_tables.specs.declared.ending.Ending.{Ending}
use Rattle.fixpoint_open_tables.specs.declared.ending.Ending.TheVariants.{Open, Undecodable}
use Rattle.text_words.specs.Digits.{number_back, number_tells}
use Rattle.text_words.specs.Fronts.{behind_back, behind_tells}
use Rattle.text_words.specs.Options.{followed, mapped}
use Rattle.text_words.specs.Reading.{behind, number_in}
use Rattle.text_words.specs.Words.{number}
use Rattle.text_lines.specs.Lines.{Lines, lines}
use Rattle.text_lines.specs.Outcomes.{Reading, one, taken}
use Rattle.text_lines.proofs.Steps.{one_left, one_taken}
use Rattle.text_tables.specs.Open.{ending_line, ending_text}
use Rattle.text_element_readers.specs.Words.{WordReading}
use Rattle.text_round_trips.specs.Words.{WordsTell}
use Rattle.text_table_reader.specs.Endings.{ending_said, may_end, open_said, read_ending, undecodable_said}
use Rattle.text_table_reader.specs.Ends.{End}
use Rattle.text_round_trips.specs.Writable.{EndingFits, MayEnd}
use Rattle.text_round_trips.proofs.Added.{Adds, adds_as, adds_line, adds_nothing}
use Rattle.text_round_trips.proofs.EndLines.{AreLinesBehind, blocks, none_of_blocks, opened, undecoded, word_line}
use Rattle.text_round_trips.proofs.HeadsBack.{AreBlockLines, number_inside}

-- a block that may end has neither next addresses nor exits
no_targets : (next exits : List ℕ) → may_end next exits ≡ true → (next ≡ []) × (exits ≡ [])
no_targets [] [] h = (refl, refl)
no_targets [] (x ∷ exits) h = absurd (let bad : false ≡ true = h in cc)
no_targets (x ∷ next) exits h = absurd (let bad : false ≡ true = h in cc)

module _ {W : Type 0} (word_text : ℕ → W → List ℕ) (word_in : WordReading W) (Fits : W → Type 0) (words : WordsTell word_text word_in Fits) where
  -- ---- told

  -- What is told of an ending by its line.
  abbrev IsLineOf : List ℕ → Ending W → Type 0
  IsLineOf line ending = (ending_line word_text ending ≡ line ++ codes "\n") × EndingFits Fits ending

  -- a word and a text behind it, which are a line
  joined : (word text from line : List ℕ) → text ≡ from → word ++ from ≡ line → word ++ (text ++ codes "\n") ≡ line ++ codes "\n"
  joined word text from line same whole = sym (append_assoc word text (codes "\n")) ∙ ap (λ (t : List ℕ). (word ++ t) ++ codes "\n") same ∙ ap (λ (t : List ℕ). t ++ codes "\n") whole

  open_told : (line : List ℕ) (ending : Ending W) → open_said word_in line ≡ Some ending → IsLineOf line ending
  open_told line ending h =
      let shown = mapped (λ x. Open x) (option_and_then word_in (behind (codes "open ") line)) ending h in
      let text = followed word_in (behind (codes "open ") line) shown.from shown.is in
      let word = words.tells text.from shown.from text.gives in
      subst (IsLineOf line) shown.gives (joined (codes "open ") (word_text 32 shown.from) text.from line word.0 (behind_tells (codes "open ") line text.from text.is), word.1)

  undecodable_told : (line : List ℕ) (ending : Ending W) → undecodable_said line ≡ Some ending → IsLineOf line ending
  undecodable_told line ending h =
      let code = mapped (λ x. Undecodable x) (option_and_then (number_in 32) (behind (codes "undecodable ") line)) ending h in
      let text = followed (number_in 32) (behind (codes "undecodable ") line) code.from code.is in
      let digits = number_tells 32 text.from code.from text.gives in
      subst (IsLineOf line) code.gives (joined (codes "undecodable ") (number 32 code.from) text.from line digits.0 (behind_tells (codes "undecodable ") line text.from text.is), digits.1)

  either_told : (line : List ℕ) (ending : Ending W) (first : Option (Ending W)) → open_said word_in line ≡ first → option_or first (undecodable_said line) ≡ Some ending → IsLineOf line ending
  either_told line ending None is h = undecodable_told line ending h
  either_told line ending (Some x) is h = open_told line ending (is ∙ h)

  -- What is told of how a block ends.
  pub record EndingTold (e : End) (read : Reading (Ending W)) : Type 0 where
    pub adds : Adds (ending_text word_text read.0) e.left read.1
    pub may : MayEnd Fits read.0 e.next e.exits

  line_told : (e : End) (read : Reading (Ending W)) → (e.next ≡ []) × (e.exits ≡ []) → one (ending_said word_in) e.left ≡ read → EndingTold e read
  line_told e (None, others) none h = record { adds = subst (Adds [] e.left) (one_left (ending_said word_in) e.left others h) (adds_nothing e.left); may = tt }
  line_told e (Some ending, others) none h =
      let first = one_taken (ending_said word_in) e.left others ending h in
      let told = either_told first.0 ending (open_said word_in first.0) refl first.2 in
      record {
        adds = subst (λ l. Adds (ending_line word_text ending) l others) (sym first.1) (adds_as (first.0 ++ codes "\n") (ending_line word_text ending) (Some first.0 ∷ others) others (sym told.0) (adds_line first.0 others));
        may = (none.0, none.1, told.1);
      }

  pub ending_told : (e : End) → EndingTold e (read_ending word_in e)
  ending_told e = at (may_end e.next e.exits) refl
    where
      at : (b : Bool) → may_end e.next e.exits ≡ b → EndingTold e (if b then one (ending_said word_in) e.left else (None, e.left))
      at true is = line_told e (one (ending_said word_in) e.left) (no_targets e.next e.exits is) refl
      at false is = record { adds = adds_nothing e.left; may = tt }

  -- ---- back

  wide : IsWidth 32
  wide = (omega arith, omega arith)

  open_back : (x : W) → Fits x → ending_said word_in (codes "open " ++ word_text 32 x) ≡ Some (Open x)
  open_back x fits =
      let other = undecodable_said (codes "open " ++ word_text 32 x) in
      ap (λ o. option_or (option_map (λ shown. Open shown) (option_and_then word_in o)) other) (behind_back (codes "open ") (word_text 32 x)) ∙ ap (λ o. option_or (option_map (λ shown. Open shown) o) other) (words.back x fits)

  undecodable_back : (code : ℕ) → code < 2 ^ 32 → ending_said word_in (codes "undecodable " ++ number 32 code) ≡ Some (Undecodable code)
  undecodable_back code small =
      let first = open_said word_in (codes "undecodable " ++ number 32 code) in
      ap (λ o. option_or first (option_map (λ word. Undecodable word) (option_and_then (number_in 32) o))) (behind_back (codes "undecodable ") (number 32 code))
      ∙ ap (λ o. option_or first (option_map (λ word. Undecodable word) o)) (number_back 32 code wide small)

  -- the lines of a block that has no next addresses and no exits
  abbrev end_with : List Seen → List ℕ → List ℕ → Lines → End
  end_with uses next exits ls = record { uses = uses; next = next; exits = exits; left = ls }

  module _ (uses : List Seen) (more : List ℕ) (behind_it : AreBlockLines more) where
    nothing_back : (b : Bool) → (if b then one (ending_said word_in) (lines more) else (None, lines more)) ≡ (None, lines more)
    nothing_back true = none_of_blocks (ending_said word_in) (λ tail. refl) more behind_it
    nothing_back false = refl

    some_back : (ending : Ending W) → EndingFits Fits ending → read_ending word_in (end_with uses [] [] (lines (ending_line word_text ending ++ more))) ≡ (Some ending, lines more)
    some_back (Open x) fits =
        ap (one (ending_said word_in)) (word_line (codes "open ") (word_text 32 x) more refl (words.inside x))
        ∙ ap (taken (Some (codes "open " ++ word_text 32 x) ∷ lines more) (lines more)) (open_back x fits)
    some_back (Undecodable code) fits =
        ap (one (ending_said word_in)) (word_line (codes "undecodable ") (number 32 code) more refl (number_inside code))
        ∙ ap (taken (Some (codes "undecodable " ++ number 32 code) ∷ lines more) (lines more)) (undecodable_back code fits)

    pub ending_back : (ending : Option (Ending W)) (next exits : List ℕ) → MayEnd Fits ending next exits
        → read_ending word_in (end_with uses next exits (lines (ending_text word_text ending ++ more))) ≡ (ending, lines more)
    ending_back None next exits may = nothing_back (may_end next exits)
    ending_back (Some ending) next exits may =
        subst (λ n. read_ending word_in (end_with uses n exits (lines (ending_line word_text ending ++ more))) ≡ (Some ending, lines more)) (sym may.0)
        (subst (λ x. read_ending word_in (end_with uses [] x (lines (ending_line word_text ending ++ more))) ≡ (Some ending, lines more)) (sym may.1) (some_back ending may.2))

  -- what is written of how a block ends does not go on with its other lines
  pub ending_behind : (ending : Option (Ending W)) (more : List ℕ) → AreBlockLines more → AreLinesBehind (ending_text word_text ending ++ more)
  ending_behind None more is = blocks is
  ending_behind (Some (Open x)) more is = opened (word_text 32 x) more (words.inside x)
  ending_behind (Some (Undecodable code)) more is = undecoded (number 32 code) more (number_inside code)
