-- The text of a state is an entry of which that state is the one state.
use Rattle.std.proofs.Common.{◌≡◌, ◌+◌, ◌%◌, ◌<◌, ◌≤◌, ◌^◌, ◌==◌, ◌&&◌, ℕ, true, not, List, [], ◌∷◌, ◌++◌, length, map, Some, Ok, refl, sym, subst, ap, ◌∙◌, arith, nat_lt, append_assoc, append-nil, codes}
use Rattle.std.proofs.lemmas.Bool.{and_parts, not-true as not_true}
use Rattle.std.proofs.lemmas.Bool.Decides.{nat_tests}
use Rattle.std.proofs.lemmas.Fmt.{decimal_by_steps}
use Rattle.std.specs.Fmt.{decimal}
use Rattle.std.specs.List.{list_all}
use Rattle.spec_ir.specs.Specification.{Spec}
use Rattle.semantics_values.specs.declared.entry.GivenNumber.TheVariants.{One}
use Rattle.semantics_values.specs.States.{State}
use Rattle.semantics_values.specs.Types.{environment_of, have_types}
use Rattle.semantics_values.specs.Values.{vals}
use Rattle.semantics.specs.Entries.{entry_fields, one_state_of}
use Rattle.state_cell_text.specs.Digits.{hex_digits}
use Rattle.state_cell_text.specs.Places.{Field, place_at, place_from, place_of, state_fields}
use Rattle.state_text.specs.declared.stop.Stop.{Stop}
use Rattle.state_text.specs.declared.stop.Stop.TheVariants.{Bound, Left, Undecodable, Turns}
use Rattle.state_text.specs.Forms.{is_name, whole}
use Rattle.state_text.specs.Laws.{AreCellTypes, HasFields, IsEntryOf, IsStateOf, RoundTrip, SameValues, all_differ, are_names}
use Rattle.state_text.specs.Lines.{lines}
use Rattle.state_text.specs.Meaning.{counter, said}
use Rattle.state_text.specs.OneState.{types_behind}
use Rattle.state_text.specs.Reading.{Entry, GivenCells, none_found, read, read_from}
use Rattle.state_text.specs.Stops.{stop_line, stop_name, stop_place, stopped_text, word_digits}
use Rattle.state_text.specs.Writing.{all_lines, state_text}
use Rattle.state_text.proofs.Bytes.{AllPlain, AllPlain-append, line_first, word_plain}
use Rattle.state_text.proofs.Cells.{ascends, readable}
use Rattle.state_text.proofs.Computed.{name_parts}
use Rattle.state_text.proofs.Names.{ArePlaced, placed}
use Rattle.state_text.proofs.Numbers.{hex_word}
use Rattle.state_text.proofs.Printed.{line_of, line_plain, line_says, line_splits, lines_from, printed, read_on, text_is, text_of}
use Rattle.state_text.proofs.Same.{none_open, same_fields}

-- ---- the program counter

counter_says : (spec : Spec) (f : Field) (pc : ℕ) → is_name f.0 ≡ true → place_of spec f.0 ≡ place_at spec 0 f.1 → pc < 2 ^ 32 → said spec (line_of f.0 32 pc) ≡ counter (One pc)
counter_says spec f pc named is small =
    let fits : nat_lt pc (2 ^ 32) ≡ true = grind (arith, nat_tests, small) in
    let says = line_says spec f.0 whole 32 pc named tt (omega arith) (omega arith) small in
    (rw (append-nil f.0) at says) ∙ rw (is, fits) refl

-- ---- a state

-- an entry that is read from line number n on, and its one state
abbrev IsReadFrom : Spec → ℕ → State → List ℕ → Type 0
IsReadFrom spec n s text = (e : Entry) × (read_from spec n none_found (lines text) ≡ Ok e) × IsEntryOf spec s e

read_state : (spec : Spec) (s : State) (n : ℕ) (all : List Field) → state_fields spec ≡ all → 1 ≤ length all → length all ≤ 2 ^ 32 → are_names (map (λ f. f.0) all) ≡ true
    → AreCellTypes spec (types_behind all) → s.pc < 2 ^ 32 → have_types (environment_of spec) (vals s.parts) (types_behind all) ≡ true → IsReadFrom spec n s (all_lines spec all s)
read_state spec s n [] is some few names types small typed = absurd (omega (arith, some))
read_state spec s n (f ∷ fields) is some few names types small typed =
    let parts = and_parts (list_all is_name (map (λ g. g.0) (f ∷ fields))) (all_differ (map (λ g. g.0) (f ∷ fields))) names in
    let named = and_parts (is_name f.0) (list_all is_name (map (λ g. g.0) fields)) parts.0 in
    let found : ArePlaced spec (place_of spec) 0 (f ∷ fields) = subst (λ (all : List Field). ArePlaced spec (place_from spec 0 all) 0 (f ∷ fields)) (sym is) (placed spec 0 (f ∷ fields) parts.1) in
    let ps = printed spec 1 fields s.parts in
    let first = line_first (line_of f.0 32 s.pc) (text_of spec ps) (line_plain f.0 32 s.pc (word_plain f.0 (name_parts f.0 named.0).word)) in
    let at_counter : GivenCells = record { counter = Some (One s.pc); lines = [] } in
    let rest = read_on spec ps (n + 1) 0 0 at_counter (readable spec 1 fields s.parts found.1 named.1 types typed (omega arith) (omega (arith, few))) (ascends spec 1 0 0 fields s.parts (omega arith) typed) (λ g key h. refl) in
    let e : Entry = record { pc = s.pc; lines = lines_from (n + 1) ps } in
    let text = text_is spec 1 fields s.parts in
    let read : read_from spec n none_found (lines (all_lines spec (f ∷ fields) s)) ≡ Ok e =
    rw (text, line_splits f.0 32 s.pc (text_of spec ps), first, counter_says spec f s.pc named.0 found.0 small) rest in
    let one = one_state_of (environment_of spec) (types_behind (state_fields spec)) s.pc (lines_from (n + 1) ps) in
    let same : SameValues s.parts one.parts =
    subst (λ (all : List Field). SameValues s.parts (entry_fields (environment_of spec) (lines_from (n + 1) ps) 1 (types_behind all))) (sym is) (same_fields spec [] 1 (n + 1) fields s.parts tt types typed) in
    (e, read, record { one = one; only = rw (none_open (n + 1) ps) refl; same = record { counter = refl; parts = same } })

from_line : (spec : Spec) (s : State) (n : ℕ) → HasFields spec → IsStateOf spec s → IsReadFrom spec n s (state_text spec s)
from_line spec s n has is = read_state spec s n (state_fields spec) refl has.some has.few has.names has.types is.counter is.typed

-- ---- a stop

plain_text : (xs : List ℕ) → list_all (λ b. not (b == 10) && not (b == 13)) xs ≡ true → AllPlain xs
plain_text [] h = tt
plain_text (b ∷ xs) h =
    let both = and_parts (not (b == 10) && not (b == 13)) (list_all (λ c. not (c == 10) && not (c == 13)) xs) h in
    let one = and_parts (not (b == 10)) (not (b == 13)) both.0 in
    (not_true (b == 10) one.0, not_true (b == 13) one.1, plain_text xs both.1)

digit_plain : (d : ℕ) → d < 10 → AllPlain ((48 + d) ∷ [])
digit_plain d h = (grind (arith, nat_tests, h), grind (arith, nat_tests, h), tt)

decimal_plain : (n : ℕ) → n < 2 ^ 64 → AllPlain (decimal n)
decimal_plain = decimal_by_steps (λ n ds. AllPlain ds) digit_plain (λ n ds h p. AllPlain-append ds ((48 + n % 10) ∷ []) p (digit_plain (n % 10) (omega arith)))

digits_plain : (v : ℕ) → AllPlain (word_digits v)
unfolding word_digits
digits_plain v = word_plain (hex_digits 8 v) (hex_word 8 v)

name_plain : (stop : Stop) → AllPlain (stop_name stop)
name_plain Bound = plain_text (codes "bound") refl
name_plain Left = plain_text (codes "left") refl
name_plain (Undecodable at word) = plain_text (codes "undecodable") refl
name_plain (Turns at) = plain_text (codes "calls") refl

place_plain : (stop : Stop) → AllPlain (stop_place stop)
place_plain Bound = tt
place_plain Left = tt
place_plain (Undecodable at word) =
    AllPlain-append (codes " at ") (word_digits at ++ (codes " word " ++ word_digits word)) (plain_text (codes " at ") refl)
    (AllPlain-append (word_digits at) (codes " word " ++ word_digits word) (digits_plain at) (AllPlain-append (codes " word ") (word_digits word) (plain_text (codes " word ") refl) (digits_plain word)))
place_plain (Turns at) = AllPlain-append (codes " at ") (word_digits at) (plain_text (codes " at ") refl) (digits_plain at)

-- the line of a stop without its end
abbrev stop_body : Stop → ℕ → List ℕ
stop_body stop done = codes "# stop " ++ (stop_name stop ++ (codes " steps " ++ (decimal done ++ stop_place stop)))

body_plain : (stop : Stop) (done : ℕ) → done < 2 ^ 64 → AllPlain (stop_body stop done)
body_plain stop done small =
    AllPlain-append (codes "# stop ") (stop_name stop ++ (codes " steps " ++ (decimal done ++ stop_place stop))) (plain_text (codes "# stop ") refl)
    (AllPlain-append (stop_name stop) (codes " steps " ++ (decimal done ++ stop_place stop)) (name_plain stop)
    (AllPlain-append (codes " steps ") (decimal done ++ stop_place stop) (plain_text (codes " steps ") refl)
    (AllPlain-append (decimal done) (stop_place stop) (decimal_plain done small) (place_plain stop))))

five : (a b c d e more : List ℕ) → (a ++ (b ++ (c ++ (d ++ (e ++ (10 ∷ [])))))) ++ more ≡ (a ++ (b ++ (c ++ (d ++ e)))) ++ (10 ∷ more)
five a b c d e more = simp append_assoc refl

stop_splits : (stop : Stop) (done : ℕ) (more : List ℕ) → stop_line stop done ++ more ≡ stop_body stop done ++ (10 ∷ more)
stop_splits stop done more = five (codes "# stop ") (stop_name stop) (codes " steps ") (decimal done) (stop_place stop) more

behind_stop : (spec : Spec) (stop : Stop) (done : ℕ) (s : State) → done < 2 ^ 64 → lines (stopped_text spec stop done s) ≡ stop_body stop done ∷ lines (state_text spec s)
behind_stop spec stop done s small = ap lines (stop_splits stop done (state_text spec s)) ∙ line_first (stop_body stop done) (state_text spec s) (body_plain stop done small)

after_stop : (spec : Spec) (stop : Stop) (done : ℕ) (s : State) → done < 2 ^ 64 → HasFields spec → IsStateOf spec s → (e : Entry) × (read spec (stopped_text spec stop done s) ≡ Ok e) × IsEntryOf spec s e
after_stop spec stop done s small has is =
    let found = from_line spec s 2 has is in
    (found.0, ap (read_from spec 1 none_found) (behind_stop spec stop done s small) ∙ found.1, found.2)

pub round_trip : RoundTrip
round_trip = record { state = λ spec s has is. from_line spec s 1 has is; stopped = after_stop }
