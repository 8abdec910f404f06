-- A block, read.
use Rattle.std.proofs.Common.{◌≡◌, ◌≤◌, ℕ, Bool, true, false, List, [], length, Option, Some, None, codes, if◌then◌else◌, refl, sym, subst, arith}
use Rattle.spec_ir.specs.Specification.{Spec}
use Rattle.domain_laws.specs.States.{state_type}
use Rattle.fixpoint_open_tables.specs.declared.ending.Ending.{Ending}
use Rattle.text_lines.specs.Lines.{Lines}
use Rattle.text_lines.specs.Outcomes.{Reading, one}
use Rattle.text_lines.proofs.Steps.{all_shorter, one_shorter}
use Rattle.text_element_readers.specs.Reading.{ElementReading}
use Rattle.text_element_readers.specs.Words.{WordReading}
use Rattle.text_table_reader.specs.Blocks.{BlockRead, block, listed, no_address, no_element}
use Rattle.text_table_reader.specs.Endings.{ending_said, may_end, read_ending}
use Rattle.text_table_reader.specs.Ends.{End, addresses_said, next_use, or_empty, read_addresses, read_end, read_uses}
use Rattle.text_table_reader.specs.Starts.{read_at}

module _ {E W : Type 0} (Reads : ElementReading E) (word_in : WordReading W) (spec : Spec) (is_word : ℕ → Bool) (low : ℕ) (ls : Lines) where
  -- the first line names no address
  pub not_there : (left : Lines) → None ≡ read_at is_word low ls → left ≡ ls → BlockRead Reads word_in spec is_word low ls None None left
  not_there left none same = subst (λ l. BlockRead Reads word_in spec is_word low ls None None l) (sym same) (no_address (sym none))

  module _ (at : ℕ) (later : Lines) (there : Some (at, later) ≡ read_at is_word low ls) where
    -- no element stands there
    pub not_read : (left : Lines) (r : Option E) → r ≡ None → Reads spec is_word later r left → BlockRead Reads word_in spec is_word low ls None None left
    not_read left r none read = no_element (sym there) (subst (λ x. Reads spec is_word later x left) none read)

    pub whole : (end left : Lines) (r : Option E) (x : E) (e : End) (ending : Option (Ending W)) → r ≡ Some x → Reads spec is_word later r end → e ≡ read_end spec is_word end
        → (ending, left) ≡ read_ending word_in e → BlockRead Reads word_in spec is_word low ls (Some (at, listed x e)) ending left
    whole end left r x e ending some read is last =
        subst (λ (q : Reading (Ending W)). BlockRead Reads word_in spec is_word low ls (Some (at, listed x e)) q.0 q.1) (sym last)
        (subst (λ f. BlockRead Reads word_in spec is_word low ls (Some (at, listed x f)) (read_ending word_in f).0 (read_ending word_in f).1) (sym is)
        (block x (sym there) (subst (λ y. Reads spec is_word later y end) some read)))

-- ---- lines are used up

or_empty_left : (r : Reading (List ℕ)) → (or_empty r).1 ≡ r.1
or_empty_left (None, ls) = refl
or_empty_left (Some addresses, ls) = refl

addresses_shorter : (word : List ℕ) (test : ℕ → Bool) (ls : Lines) → length (read_addresses word test ls).1 ≤ length ls
addresses_shorter word test ls = rw (or_empty_left (one (addresses_said word test) ls)) (one_shorter (addresses_said word test) ls)

pub end_shorter : (spec : Spec) (is_word : ℕ → Bool) (ls : Lines) → length (read_end spec is_word ls).left ≤ length ls
end_shorter spec is_word ls =
    let uses = read_uses spec is_word (state_type spec).fields ls in
    let next = read_addresses (codes "next ") is_word uses.1 in
    let first : length uses.1 ≤ length ls = all_shorter (next_use spec is_word (state_type spec).fields) [] ls in
    let second : length next.1 ≤ length uses.1 = addresses_shorter (codes "next ") is_word uses.1 in
    let third : length (read_addresses (codes "exit ") (λ a. true) next.1).1 ≤ length next.1 = addresses_shorter (codes "exit ") (λ a. true) next.1 in
    omega (arith, first, second, third)

pub left_shorter : (spec : Spec) (is_word : ℕ → Bool) (e : End) (ls : Lines) → e ≡ read_end spec is_word ls → length e.left ≤ length ls
left_shorter spec is_word e ls is = subst (λ f. length f.left ≤ length ls) (sym is) (end_shorter spec is_word ls)

module _ {W : Type 0} (word_in : WordReading W) where
  ending_shorter : (e : End) → length (read_ending word_in e).1 ≤ length e.left
  ending_shorter e = at (may_end e.next e.exits)
    where
      at : (b : Bool) → length (if b then one (ending_said word_in) e.left else (None, e.left)).1 ≤ length e.left
      at true = one_shorter (ending_said word_in) e.left
      at false = omega arith
