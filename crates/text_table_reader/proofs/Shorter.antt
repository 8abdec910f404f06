-- What stands behind an element leaves some of its lines.
use Rattle.std.proofs.Common.{◌≡◌, ℕ, ◌≤◌, ◌<◌, Bool, List, [], ◌∷◌, ◌++◌, Option, Some, None, length, refl, subst, sym, arith}
use Rattle.std.specs.Prelude.{codes, true, false, if◌then◌else◌}
use Rattle.base_trait.specs.Uses.{Seen}
use Rattle.spec_ir.specs.Specification.{Spec}
use Rattle.domain_laws.specs.States.{state_type}
use Rattle.text_lines.specs.Lines.{Lines}
use Rattle.text_lines.specs.Outcomes.{Reading, all_said, go_on, one, taken}
use Rattle.text_element_readers.specs.Words.{WordReading}
use Rattle.text_table_reader.specs.Endings.{ending_said, may_end, read_ending}
use Rattle.text_table_reader.specs.Ends.{End, addresses_said, next_use, or_empty, read_addresses, read_end, read_uses}

module _ {X : Type 0} where
  taken_shorter : (ls later : Lines) (o : Option X) → length later ≤ length ls → length (taken ls later o).1 ≤ length ls
  taken_shorter ls later None small = omega arith
  taken_shorter ls later (Some x) small = small

  one_shorter : (said : List ℕ → Option X) (ls : Lines) → length (one said ls).1 ≤ length ls
  one_shorter said [] = omega arith
  one_shorter said (None ∷ ls) = omega arith
  one_shorter said (Some line ∷ ls) = taken_shorter (Some line ∷ ls) ls (said line) (omega arith)

  all_shorter : (said : List X → List ℕ → Option X) (given : List X) (ls : Lines) → length (all_said said given ls).1 ≤ length ls
  all_shorter said given [] = omega arith
  all_shorter said given (None ∷ ls) = omega arith
  all_shorter said given (Some line ∷ ls) = from (said given line) (λ more. all_shorter said more ls)
    where
      from : (o : Option X) → ((more : List X) → length (all_said said more ls).1 ≤ length ls) → length (go_on given (Some line ∷ ls) o (λ more. all_said said more ls)).1 ≤ length (Some line ∷ ls)
      from None go = omega arith
      from (Some x) go = let small = go (given ++ x ∷ []) in omega (arith, small)

emptied : (r : Reading (List ℕ)) → (or_empty r).1 ≡ r.1
emptied (None, ls) = refl
emptied (Some addresses, ls) = refl

addresses_shorter : (word : List ℕ) (test : ℕ → Bool) (ls : Lines) → length (read_addresses word test ls).1 ≤ length ls
addresses_shorter word test ls = subst (λ z. length z ≤ length ls) (sym (emptied (one (addresses_said word test) ls))) (one_shorter (addresses_said word test) ls)

pub end_shorter : (spec : Spec) (is_word : ℕ → Bool) (ls : Lines) → length (read_end spec is_word ls).left ≤ length ls
end_shorter spec is_word ls =
    let uses = all_shorter (next_use spec is_word (state_type spec).fields) [] ls in
    let behind_uses = (read_uses spec is_word (state_type spec).fields ls).1 in
    let next = addresses_shorter (codes "next ") is_word behind_uses in
    let behind_next = (read_addresses (codes "next ") is_word behind_uses).1 in
    let exits = addresses_shorter (codes "exit ") (λ a. true) behind_next in
    omega (arith, uses, next, exits)

-- so does how a block ends, behind that
module _ {W : Type 0} (word_in : WordReading W) where
  ending_at_most : (e : End) → length (read_ending word_in e).1 ≤ length e.left
  ending_at_most e = at (may_end e.next e.exits)
    where
      at : (b : Bool) → length (if b then one (ending_said word_in) e.left else (None, e.left)).1 ≤ length e.left
      at true = one_shorter (ending_said word_in) e.left
      at false = omega arith

  pub ending_shorter : (spec : Spec) (is_word : ℕ → Bool) (ls : Lines) → length (read_ending word_in (read_end spec is_word ls)).1 ≤ length ls
  ending_shorter spec is_word ls =
      let end = end_shorter spec is_word ls in
      let last = ending_at_most (read_end spec is_word ls) in
      omega (arith, end, last)
