-- What stands behind an element is told by its text, and read as it is written.
use Rattle.std.proofs.Common.{◌≡◌, ◌∙◌, ◌≤◌, ◌<◌, ◌^◌, ℕ, Bool, cond, List, [], ◌∷◌, ◌++◌, length, map, Option, Some, None, IsTrue, refl, sym, ap, subst, append_assoc, append-nil, arith}
use Rattle.std.specs.Prelude.{codes}
use Rattle.std.specs.List.{list_all}
use Rattle.std.specs.Option.{option_and_then}
use Rattle.std.proofs.lemmas.Option.{cond_some}
use Rattle.base_trait.specs.Lists.{Each, IsAscending}
use Rattle.base_trait.specs.Stamps.{AreAscending}
use Rattle.base_trait.specs.Uses.{Seen}
use Rattle.base_trait.proofs.Lists.{all_told}
use Rattle.spec_ir.specs.Specification.{Spec}
use Rattle.domain_laws.specs.declared.field.Field.{Field}
use Rattle.domain_laws.specs.States.{state_type}
use Rattle.analysis_transfer_laws.specs.Uses.{AreInOrder}
use Rattle.text_words.specs.Fronts.{behind_back, behind_tells}
use Rattle.text_words.specs.Inside.{both_all}
use Rattle.text_words.specs.Lists.{behind_spaces}
use Rattle.text_words.specs.Options.{followed}
use Rattle.text_words.specs.Reading.{addresses_in, behind}
use Rattle.text_words.specs.Readings.{StampFits}
use Rattle.text_words.specs.Words.{number}
use Rattle.text_words.proofs.AddressesTold.{addresses_tell}
use Rattle.analysis_table_laws.specs.Tables.{IsUseOf}
use Rattle.text_lines.specs.Lines.{Lines, is_inside, lines}
use Rattle.text_lines.specs.Outcomes.{Reading, all_said, go_on, one, taken}
use Rattle.text_lines.proofs.Steps.{all_keep, ends_there, one_left, one_taken}
use Rattle.text_tables.specs.Blocks.{addresses_line, use_line, use_lines}
use Rattle.text_table_reader.specs.Ends.{addresses_said, is_use_behind, kept, kept_use, next_use, or_empty, read_addresses, read_uses, use_said}
use Rattle.text_round_trips.specs.Fields.{HasUseTexts}
use Rattle.text_round_trips.proofs.Added.{Adds, adds_as, adds_both, adds_line, adds_nothing, first_line_of}
use Rattle.text_round_trips.proofs.HeadsBack.{number_inside}
use Rattle.text_round_trips.proofs.UseLines.{use_back, use_told}

-- ---- addresses that were read

-- What is told of addresses by their line.
pub record AddressesAre (what : List ℕ) (test : ℕ → Bool) (ls : Lines) (read : List ℕ × Lines) : Type 0 where
  pub adds : Adds (addresses_line what read.0) ls read.1
  pub ascending : IsAscending read.0
  pub below : Each (λ a. a < 2 ^ 32) read.0
  pub each : Each (λ a. IsTrue (test a)) read.0

-- the line of some addresses
pub some_line : (what xs : List ℕ) → 1 ≤ length xs → addresses_line what xs ≡ (what ++ behind_spaces (map (number 32) xs)) ++ codes "\n"
some_line what [] some = absurd (omega (arith, some))
some_line what (x ∷ xs) some = sym (append_assoc what (behind_spaces (map (number 32) (x ∷ xs))) (codes "\n"))

module _ (what : List ℕ) (test : ℕ → Bool) where
  abbrev word : List ℕ
  word = what ++ codes " "

  line_told : (line xs : List ℕ) (others : Lines) → addresses_said word test line ≡ Some xs → AddressesAre what test (Some line ∷ others) (xs, others)
  line_told line xs others h =
      let passed = followed (kept test) (option_and_then addresses_in (behind word line)) xs h in
      let keeps = cond_some (list_all test passed.from) passed.from xs passed.gives in
      let inner = followed addresses_in (behind word line) passed.from passed.is in
      let front = behind_tells word line inner.from inner.is in
      let told = addresses_tell.tells inner.from passed.from inner.gives in
      let text : (what ++ behind_spaces (map (number 32) passed.from)) ++ codes "\n" ≡ line ++ codes "\n" =
      ap (λ t. t ++ codes "\n") (ap (λ t. what ++ t) told.text_is ∙ sym (append_assoc what (codes " ") inner.from) ∙ front) in
      subst (λ ys. AddressesAre what test (Some line ∷ others) (ys, others)) keeps.1 (record {
        adds = adds_as (line ++ codes "\n") (addresses_line what passed.from) (Some line ∷ others) others (sym (some_line what passed.from told.some ∙ text)) (adds_line line others);
        ascending = told.ascending;
        below = told.below;
        each = (all_told test passed.from).0 keeps.0;
      })

  read_told : (ls : Lines) (read : Reading (List ℕ)) → one (addresses_said word test) ls ≡ read → AddressesAre what test ls (or_empty read)
  read_told ls (None, others) h =
      subst (λ l. AddressesAre what test ls ([], l)) (one_left (addresses_said word test) ls others h) (record { adds = adds_nothing ls; ascending = tt; below = tt; each = tt })
  read_told ls (Some xs, others) h =
      let first = one_taken (addresses_said word test) ls others xs h in
      subst (λ l. AddressesAre what test l (xs, others)) (sym first.1) (line_told first.0 xs others first.2)

  pub addresses_told : (ls : Lines) → AddressesAre what test ls (read_addresses word test ls)
  addresses_told ls = read_told ls (one (addresses_said word test) ls) refl

-- ---- addresses that were written

pub spaces_inside : (xs : List ℕ) → IsTrue (list_all is_inside (behind_spaces (map (number 32) xs)))
spaces_inside [] = refl
spaces_inside (x ∷ xs) = both_all is_inside (number 32 x) (behind_spaces (map (number 32) xs)) (number_inside x) (spaces_inside xs)

module _ (what : List ℕ) (test : ℕ → Bool) (inside : IsTrue (list_all is_inside what)) (more : List ℕ) (stops : one (addresses_said (what ++ codes " ") test) (lines more) ≡ (None, lines more)) where
  said_back : (x : ℕ) (xs : List ℕ) → IsAscending (x ∷ xs) → Each (λ a. a < 2 ^ 32) (x ∷ xs) → Each (λ a. IsTrue (test a)) (x ∷ xs)
      → addresses_said (what ++ codes " ") test (what ++ behind_spaces (map (number 32) (x ∷ xs))) ≡ Some (x ∷ xs)
  said_back x xs ascending below each =
      let text = number 32 x ++ behind_spaces (map (number 32) xs) in
      let spelled : what ++ behind_spaces (map (number 32) (x ∷ xs)) ≡ (what ++ codes " ") ++ text = sym (append_assoc what (codes " ") text) in
      ap (addresses_said (what ++ codes " ") test) spelled
      ∙ ap (λ o. option_and_then (kept test) (option_and_then addresses_in o)) (behind_back (what ++ codes " ") text)
      ∙ ap (option_and_then (kept test)) (addresses_tell.back x xs ascending below)
      ∙ ap (λ passed. cond passed (Some (x ∷ xs)) None) ((all_told test (x ∷ xs)).1 each)

  pub addresses_back : (xs : List ℕ) → IsAscending xs → Each (λ a. a < 2 ^ 32) xs → Each (λ a. IsTrue (test a)) xs
      → read_addresses (what ++ codes " ") test (lines (addresses_line what xs ++ more)) ≡ (xs, lines more)
  addresses_back [] ascending below each = ap or_empty stops
  addresses_back (x ∷ xs) ascending below each =
      let line = what ++ behind_spaces (map (number 32) (x ∷ xs)) in
      let first = first_line_of (addresses_line what (x ∷ xs)) line more (some_line what (x ∷ xs) (omega arith)) (both_all is_inside what (behind_spaces (map (number 32) (x ∷ xs))) inside (spaces_inside (x ∷ xs))) in
      ap (read_addresses (what ++ codes " ") test) first
      ∙ ap (λ said. or_empty (taken (Some line ∷ lines more) (lines more) said)) (said_back x xs ascending below each)

-- ---- uses that were read

module _ (spec : Spec) (has : HasUseTexts spec) (code : ℕ → Bool) where
  abbrev fields : List Field
  fields = (state_type spec).fields

  -- What is told of a use.
  pub record IsUseHere (u : Seen) : Type 0 where
    pub is_use : IsUseOf spec u
    pub stamps : Each (StampFits code) u.stamps

  -- a use behind others is told by its line, and comes behind them
  next_told : (given : List Seen) (line : List ℕ) (u : Seen) → next_use spec code fields given line ≡ Some u → (use_line spec u ≡ line ++ codes "\n") × IsUseHere u × AreAscending u.stamps × IsTrue (is_use_behind fields given u)
  next_told given line u h =
      let said = followed (kept_use fields given) (use_said spec code line) u h in
      let keeps = cond_some (is_use_behind fields given said.from) said.from u said.gives in
      let told = use_told spec has code line said.from said.is in
      subst (λ v. (use_line spec v ≡ line ++ codes "\n") × IsUseHere v × AreAscending v.stamps × IsTrue (is_use_behind fields given v)) keeps.1
      (told.text, record { is_use = told.is_use; stamps = told.stamps }, told.ascending, keeps.0)

  -- What is told of uses that go on with those given.
  record UsesAre (given : List Seen) (ls : Lines) (read : List Seen × Lines) : Type 0 where
    more : List Seen
    are : read.0 ≡ given ++ more
    adds : Adds (use_lines spec more) ls read.1
    each : Each IsUseHere more

  no_more : (given : List Seen) (ls : Lines) → UsesAre given ls (given, ls)
  no_more given ls = record { more = []; are = sym (append-nil given); adds = adds_nothing ls; each = tt }

  uses_from : (given : List Seen) (ls : Lines) → UsesAre given ls (all_said (next_use spec code fields) given ls)
  uses_from given [] = no_more given []
  uses_from given (None ∷ ls) = no_more given (None ∷ ls)
  uses_from given (Some line ∷ ls) = at (next_use spec code fields given line) refl (λ u. uses_from (given ++ u ∷ []) ls)
    where
      at : (o : Option Seen) → next_use spec code fields given line ≡ o → ((u : Seen) → UsesAre (given ++ u ∷ []) ls (all_said (next_use spec code fields) (given ++ u ∷ []) ls))
          → UsesAre given (Some line ∷ ls) (go_on given (Some line ∷ ls) o (λ longer. all_said (next_use spec code fields) longer ls))
      at None e next = no_more given (Some line ∷ ls)
      at (Some u) e next =
          let rest = next u in
          let here = next_told given line u e in
          let left = (all_said (next_use spec code fields) (given ++ u ∷ []) ls).1 in
          record {
            more = u ∷ rest.more;
            are = rest.are ∙ append_assoc given (u ∷ []) rest.more;
            adds = adds_both (use_line spec u) (use_lines spec rest.more) (Some line ∷ ls) ls left (adds_as (line ++ codes "\n") (use_line spec u) (Some line ∷ ls) ls (sym here.0) (adds_line line ls)) rest.adds;
            each = (here.1, rest.each);
          }

  -- one more in order
  order_more : (given : List Seen) (u : Seen) → AreInOrder fields given → IsTrue (is_use_behind fields given u) → AreAscending u.stamps → AreInOrder fields (given ++ u ∷ [])
  order_more [] u order behind ascending = (tt, ascending, tt)
  order_more (last ∷ []) u order behind ascending = (behind, order.1, (tt, ascending, tt))
  order_more (first ∷ second ∷ uses) u order behind ascending = (order.0, order.1, order_more (second ∷ uses) u order.2 behind ascending)

  pub uses_in_order : (ls : Lines) → AreInOrder fields (read_uses spec code fields ls).0
  uses_in_order ls =
      all_keep (AreInOrder fields) (next_use spec code fields) (λ given line u order h. let told = next_told given line u h in order_more given u order told.3 told.2) [] ls tt

  -- What is told of all uses.
  pub record UsesTold (ls : Lines) (read : List Seen × Lines) : Type 0 where
    pub adds : Adds (use_lines spec read.0) ls read.1
    pub each : Each IsUseHere read.0

  uses_told_from : (ls : Lines) (read : List Seen × Lines) → UsesAre [] ls read → UsesTold ls read
  uses_told_from ls read told = record {
    adds = subst (λ uses. Adds (use_lines spec uses) ls read.1) (sym told.are) told.adds;
    each = subst (Each IsUseHere) (sym told.are) told.each;
  }

  pub uses_told : (ls : Lines) → UsesTold ls (read_uses spec code fields ls)
  uses_told ls = uses_told_from ls (read_uses spec code fields ls) (uses_from [] ls)

  -- ---- uses that were written

  -- each use of a list in order comes behind those before it
  behind_from : (given : List Seen) (u : Seen) (uses : List Seen) → AreInOrder fields (given ++ u ∷ uses) → IsTrue (is_use_behind fields given u)
  behind_from [] u uses order = refl
  behind_from (last ∷ []) u uses order = order.0
  behind_from (first ∷ second ∷ given) u uses order = behind_from (second ∷ given) u uses order.2

  stamps_ascend : (given : List Seen) (u : Seen) (uses : List Seen) → AreInOrder fields (given ++ u ∷ uses) → AreAscending u.stamps
  stamps_ascend [] u uses order = order.1
  stamps_ascend (first ∷ given) u uses order = stamps_ascend given u uses order.2

  uses_back_from : (given uses : List Seen) (more : List ℕ) → ((longer : List Seen) → one (next_use spec code fields longer) (lines more) ≡ (None, lines more))
      → AreInOrder fields (given ++ uses) → Each (IsUseOf spec) uses → Each (λ u. Each (StampFits code) u.stamps) uses
      → all_said (next_use spec code fields) given (lines (use_lines spec uses ++ more)) ≡ (given ++ uses, lines more)
  uses_back_from given [] more stops order each stamps =
      ends_there (next_use spec code fields) given (lines more) (lines more) (stops given) ∙ ap (λ (list : List Seen). (list, lines more)) (sym (append-nil given))
  uses_back_from given (u ∷ uses) more stops order each stamps =
      let read = use_back spec has code u each.0 (stamps_ascend given u uses order) stamps.0 in
      let line = codes "use " ++ read.words in
      let others = use_lines spec uses ++ more in
      let said : next_use spec code fields given line ≡ Some u =
      ap (option_and_then (kept_use fields given)) read.said ∙ ap (λ behind. cond behind (Some u) None) (behind_from given u uses order) in
      ap (λ t. all_said (next_use spec code fields) given (lines t)) (append_assoc (use_line spec u) (use_lines spec uses) more)
      ∙ ap (all_said (next_use spec code fields) given) (first_line_of (use_line spec u) line others read.text read.inside)
      ∙ ap (λ o. go_on given (Some line ∷ lines others) o (λ longer. all_said (next_use spec code fields) longer (lines others))) said
      ∙ uses_back_from (given ++ u ∷ []) uses more stops (subst (AreInOrder fields) (sym (append_assoc given (u ∷ []) uses)) order) each.1 stamps.1
      ∙ ap (λ (list : List Seen). (list, lines more)) (append_assoc given (u ∷ []) uses)

  pub uses_back : (uses : List Seen) (more : List ℕ) → ((longer : List Seen) → one (next_use spec code fields longer) (lines more) ≡ (None, lines more))
      → AreInOrder fields uses → Each (IsUseOf spec) uses → Each (λ u. Each (StampFits code) u.stamps) uses
      → read_uses spec code fields (lines (use_lines spec uses ++ more)) ≡ (uses, lines more)
  uses_back uses more stops order each stamps = uses_back_from [] uses more stops order each stamps
