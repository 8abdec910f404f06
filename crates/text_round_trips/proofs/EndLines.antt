-- All that stands behind an element is told by its text, and read as it is written.
use Rattle.std.proofs.Common.{◌≡◌, ◌∙◌, ◌<◌, ◌^◌, ℕ, Bool, true, List, [], ◌∷◌, ◌++◌, map, Option, Some, None, IsTrue, refl, sym, ap, subst, inl, inr, append_assoc, arith}
use Rattle.std.specs.Prelude.{codes}
use Rattle.std.specs.List.{list_all}
use Rattle.base_trait.specs.Lists.{Each, IsAscending}
use Rattle.base_trait.specs.Uses.{Seen}
use Rattle.spec_ir.specs.Specification.{Spec}
use Rattle.domain_laws.specs.declared.field.Field.{Field}
use Rattle.domain_laws.specs.States.{state_type}
use Rattle.analysis_transfer_laws.specs.Uses.{AreInOrder}
use Rattle.text_words.specs.Inside.{both_all}
use Rattle.text_words.specs.Lists.{behind_spaces}
use Rattle.text_words.specs.Readings.{StampFits}
use Rattle.text_words.specs.Words.{number}
use Rattle.analysis_table_laws.specs.Tables.{IsUseOf}
use Rattle.text_lines.specs.Lines.{Lines, is_inside, lines}
use Rattle.text_lines.specs.Outcomes.{one, taken}
use Rattle.text_round_trips.specs.RoundTrips.{IsBehindElement}
use Rattle.text_tables.specs.Blocks.{addresses_line, end_lines, use_lines}
use Rattle.text_table_reader.specs.Ends.{End, addresses_said, next_use, read_addresses, read_end, read_uses, with_exits, with_next, with_uses}
use Rattle.text_round_trips.specs.Fields.{HasUseTexts}
use Rattle.text_round_trips.proofs.Added.{Adds, adds_both, first_line_of}
use Rattle.text_round_trips.proofs.Ends.{IsUseHere, addresses_back, addresses_told, some_line, spaces_inside, uses_back, uses_in_order, uses_told}
use Rattle.text_round_trips.proofs.HeadsBack.{AreBlockLines, at_first, begun, none}
use Rattle.text_round_trips.proofs.UseLines.{use_back}

-- ---- lines of another form

none_of : {X : Type 0} (said : List ℕ → Option X) (text line : List ℕ) (others : Lines) → lines text ≡ Some line ∷ others → said line ≡ None → one said (lines text) ≡ (None, lines text)
none_of said text line others e nothing = subst (λ ls. one said ls ≡ (None, ls)) (sym e) (ap (λ o. taken (Some line ∷ others) others o) nothing)

pub none_of_blocks : {X : Type 0} (said : List ℕ → Option X) → ((tail : List ℕ) → said (codes "at " ++ tail) ≡ None) → (more : List ℕ) → AreBlockLines more → one said (lines more) ≡ (None, lines more)
none_of_blocks said nothing more none = refl
none_of_blocks said nothing more (begun at others) = none_of said more (codes "at " ++ number 32 at) (lines others) (at_first at others) (nothing (number 32 at))

-- a word and a text behind it, as a line
pub word_line : (word text more : List ℕ) → IsTrue (list_all is_inside word) → IsTrue (list_all is_inside text) → lines ((word ++ (text ++ codes "\n")) ++ more) ≡ Some (word ++ text) ∷ lines more
word_line word text more own inside = first_line_of (word ++ (text ++ codes "\n")) (word ++ text) more (sym (append_assoc word text (codes "\n"))) (both_all is_inside word text own inside)

-- What may stand behind uses, next addresses and exits: an ending, or other blocks.
pub data AreLinesBehind : List ℕ → Type 0 where
  blocks : {more : List ℕ} → AreBlockLines more → AreLinesBehind more
  opened : (text more : List ℕ) → IsTrue (list_all is_inside text) → AreLinesBehind ((codes "open " ++ (text ++ codes "\n")) ++ more)
  undecoded : (text more : List ℕ) → IsTrue (list_all is_inside text) → AreLinesBehind ((codes "undecodable " ++ (text ++ codes "\n")) ++ more)

-- lines of these forms say nothing
pub record SaysNothing {X : Type 0} (said : List ℕ → Option X) : Type 0 where
  pub at : (tail : List ℕ) → said (codes "at " ++ tail) ≡ None
  pub of_open : (tail : List ℕ) → said (codes "open " ++ tail) ≡ None
  pub of_undecodable : (tail : List ℕ) → said (codes "undecodable " ++ tail) ≡ None

none_behind : {X : Type 0} (said : List ℕ → Option X) → SaysNothing said → (more : List ℕ) → AreLinesBehind more → one said (lines more) ≡ (None, lines more)
none_behind said nothing more (blocks b) = none_of_blocks said nothing.at more b
none_behind said nothing more (opened text others inside) =
    none_of said ((codes "open " ++ (text ++ codes "\n")) ++ others) (codes "open " ++ text) (lines others) (word_line (codes "open ") text others refl inside) (nothing.of_open text)
none_behind said nothing more (undecoded text others inside) =
    none_of said ((codes "undecodable " ++ (text ++ codes "\n")) ++ others) (codes "undecodable " ++ text) (lines others) (word_line (codes "undecodable ") text others refl inside) (nothing.of_undecodable text)

none_of_addresses : {X : Type 0} (said : List ℕ → Option X) (what : List ℕ) → IsTrue (list_all is_inside what) → ((tail : List ℕ) → said (what ++ tail) ≡ None)
    → (xs more : List ℕ) → one said (lines more) ≡ (None, lines more) → one said (lines (addresses_line what xs ++ more)) ≡ (None, lines (addresses_line what xs ++ more))
none_of_addresses said what inside nothing [] more rest = rest
none_of_addresses said what inside nothing (x ∷ xs) more rest =
    let spaces = behind_spaces (map (number 32) (x ∷ xs)) in
    let first = first_line_of (addresses_line what (x ∷ xs)) (what ++ spaces) more (some_line what (x ∷ xs) (omega arith)) (both_all is_inside what spaces inside (spaces_inside (x ∷ xs))) in
    none_of said (addresses_line what (x ∷ xs) ++ more) (what ++ spaces) (lines more) first (nothing spaces)

module _ (spec : Spec) (has : HasUseTexts spec) (code : ℕ → Bool) where
  abbrev fields : List Field
  fields = (state_type spec).fields

  -- What is told of all that stands behind an element.
  pub record EndTold (ls : Lines) (e : End) : Type 0 where
    pub adds : Adds (end_lines spec e.uses e.next e.exits) ls e.left
    pub uses : Each (IsUseHere spec has code) e.uses
    pub order : AreInOrder fields e.uses
    pub next : IsAscending e.next × Each (λ a. IsTrue (code a)) e.next
    pub exits : IsAscending e.exits × Each (λ a. a < 2 ^ 32) e.exits

  pub end_told : (ls : Lines) → EndTold ls (read_end spec code ls)
  end_told ls =
      let uses = uses_told spec has code ls in
      let order = uses_in_order spec has code ls in
      let read = read_uses spec code fields ls in
      let next = addresses_told (codes "next") code read.1 in
      let read_next = read_addresses (codes "next ") code read.1 in
      let exits = addresses_told (codes "exit") (λ a. true) read_next.1 in
      let read_exits = read_addresses (codes "exit ") (λ a. true) read_next.1 in
      let next_line = addresses_line (codes "next") read_next.0 in
      let exit_line = addresses_line (codes "exit") read_exits.0 in
      record {
        adds = adds_both (use_lines spec read.0) (next_line ++ exit_line) ls read.1 read_exits.1 uses.adds (adds_both next_line exit_line read.1 read_next.1 read_exits.1 next.adds exits.adds);
        uses = uses.each;
        order = order;
        next = (next.ascending, next.each);
        exits = (exits.ascending, exits.below);
      }

  -- ---- back

  module _ (uses : List Seen) (next exits more : List ℕ) (behind : AreLinesBehind more) (order : AreInOrder fields uses) (each : Each (IsUseOf spec) uses) (stamps : Each (λ u. Each (StampFits code) u.stamps) uses) where
    abbrev next_line : List ℕ
    next_line = addresses_line (codes "next") next

    abbrev exit_line : List ℕ
    exit_line = addresses_line (codes "exit") exits

    pub end_behind : IsBehindElement (end_lines spec uses next exits ++ more)
    end_behind = of_uses uses order each stamps
      where
        of_blocks : (text : List ℕ) → AreBlockLines text → IsBehindElement text
        of_blocks text none = inl refl
        of_blocks text (begun at others) = inr refl

        of_lines : (text : List ℕ) → AreLinesBehind text → IsBehindElement text
        of_lines text (blocks b) = of_blocks text b
        of_lines text (opened word others inside) = inr refl
        of_lines text (undecoded word others inside) = inr refl

        of_exits : (xs : List ℕ) → IsBehindElement (addresses_line (codes "exit") xs ++ more)
        of_exits [] = of_lines more behind
        of_exits (x ∷ xs) = inr refl

        of_next : (xs : List ℕ) → IsBehindElement ((addresses_line (codes "next") xs ++ exit_line) ++ more)
        of_next [] = of_exits exits
        of_next (x ∷ xs) = inr refl

        of_uses : (list : List Seen) → AreInOrder fields list → Each (IsUseOf spec) list → Each (λ u. Each (StampFits code) u.stamps) list → IsBehindElement ((use_lines spec list ++ (next_line ++ exit_line)) ++ more)
        of_uses [] order each stamps = of_next next
        of_uses (u ∷ list) order each stamps =
            let read = use_back spec has code u each.0 order.1 stamps.0 in
            subst (λ line. IsBehindElement (((line ++ use_lines spec list) ++ (next_line ++ exit_line)) ++ more)) (sym read.text) (inr refl)

    pub end_back : IsAscending next → Each (λ a. a < 2 ^ 32) next → Each (λ a. IsTrue (code a)) next → IsAscending exits → Each (λ a. a < 2 ^ 32) exits
        → read_end spec code (lines (end_lines spec uses next exits ++ more)) ≡ record { uses = uses; next = next; exits = exits; left = lines more }
    end_back ascending below own exits_ascend exits_below =
        let behind_next = exit_line ++ more in
        let behind_uses = next_line ++ behind_next in
        let no_exits = none_behind (addresses_said (codes "exit ") (λ a. true)) no_exit more behind in
        let no_next = none_of_addresses (addresses_said (codes "next ") code) (codes "exit") refl (λ tail. refl) exits more (none_behind (addresses_said (codes "next ") code) no_next_line more behind) in
        let no_uses = λ (longer : List Seen). none_of_addresses (next_use spec code fields longer) (codes "next") refl (λ tail. refl) next behind_next
        (none_of_addresses (next_use spec code fields longer) (codes "exit") refl (λ tail. refl) exits more (none_behind (next_use spec code fields longer) (no_use longer) more behind)) in
        let spelled : end_lines spec uses next exits ++ more ≡ use_lines spec uses ++ behind_uses =
        append_assoc (use_lines spec uses) (next_line ++ exit_line) more ∙ ap (λ t. use_lines spec uses ++ t) (append_assoc next_line exit_line more) in
        ap (λ t. read_end spec code (lines t)) spelled
        ∙ ap (with_uses code) (uses_back spec has code uses behind_uses no_uses order each stamps)
        ∙ ap (with_next uses) (addresses_back (codes "next") code refl behind_next no_next next ascending below own)
        ∙ ap (with_exits uses next) (addresses_back (codes "exit") (λ a. true) refl more no_exits exits exits_ascend exits_below (each_true exits))
      where
        no_exit : SaysNothing (addresses_said (codes "exit ") (λ a. true))
        no_exit = record { at = λ tail. refl; of_open = λ tail. refl; of_undecodable = λ tail. refl }

        no_next_line : SaysNothing (addresses_said (codes "next ") code)
        no_next_line = record { at = λ tail. refl; of_open = λ tail. refl; of_undecodable = λ tail. refl }

        no_use : (longer : List Seen) → SaysNothing (next_use spec code fields longer)
        no_use longer = record { at = λ tail. refl; of_open = λ tail. refl; of_undecodable = λ tail. refl }

        each_true : (xs : List ℕ) → Each (λ a. IsTrue true) xs
        each_true [] = tt
        each_true (x ∷ xs) = (refl, each_true xs)
