-- Listed cells, one further.
use Rattle.std.proofs.Common.{◌≡◌, ℕ, ◌+◌, ◌<◌, ◌≤◌, Bool, true, false, List, [], ◌∷◌, ◌++◌, length, nat_lt, Option, Some, None, refl, sym, ap, ◌∙◌, arith}
use Rattle.std.proofs.lemmas.Bool.Decides.{nat_tests}
use Rattle.spec_ir.specs.declared.ty.Ty.{Ty}
use Rattle.spec_ir.specs.Specification.{Spec}
use Rattle.abstract_map_laws.specs.declared.cell.AbstractCell.{AbstractCell}
use Rattle.text_words.specs.Readings.{Readings}
use Rattle.text_lines.specs.Lines.{Lines}
use Rattle.text_lines.specs.Outcomes.{Reading, all_said, one}
use Rattle.text_lines.proofs.Steps.{ends_there, goes_on}
use Rattle.text_part_readers.specs.Cells.{listed_said, next_said}
use Rattle.text_part_readers.specs.Keys.{last_key}

pub last_of_more : {A : Type 0} (es : List (ℕ × A)) (e : ℕ × A) → last_key (es ++ e ∷ []) ≡ Some e.0
last_of_more [] e = refl
last_of_more (d ∷ []) e = refl
last_of_more (c ∷ d ∷ es) e = last_of_more (d ∷ es) e

-- the last key is that of one more cell
pub last_more : {A : Type 0} (given longer : List (ℕ × A)) (x : ℕ × A) → longer ≡ given ++ x ∷ [] → Some x.0 ≡ last_key longer
last_more given longer x is = rw is (sym (last_of_more given x))

room : (n cap : ℕ) → n < cap → nat_lt n cap ≡ true
room n cap h = grind (arith, nat_tests, h)

no_room : (n cap : ℕ) → cap ≤ n → nat_lt n cap ≡ false
no_room n cap h = grind (arith, nat_tests, h)

-- what says the same reads the same
same_one : {X : Type 0} (f g : List ℕ → Option X) → ((line : List ℕ) → f line ≡ g line) → (ls : Lines) → one f ls ≡ one g ls
same_one f g same [] = refl
same_one f g same (None ∷ ls) = refl
same_one f g same (Some line ∷ ls) = rw (same line) refl

module _ {W N : Type 0} (readings : Readings W N) (code : ℕ → Bool) (spec : Spec) (cap : ℕ) (name : List ℕ) (ty : Ty) (w : ℕ) where
  -- a listed cell was read
  pub listed_more : (given longer : List (ℕ × AbstractCell W N)) (last : Option ℕ) (x : ℕ × AbstractCell W N) (ls others : Lines) (whole : List (ℕ × AbstractCell W N) × Lines) → length given < cap → last ≡ last_key given
      → (Some x, others) ≡ one (listed_said readings code spec name ty w last) ls → longer ≡ given ++ x ∷ []
      → whole ≡ all_said (next_said readings code spec cap name ty w) given ls → whole ≡ all_said (next_said readings code spec cap name ty w) longer others
  listed_more given longer last x ls others whole few is_last read is so_far =
      let said = next_said readings code spec cap name ty w in
      let first : one (said given) ls ≡ (Some x, others) = same_one (said given) (listed_said readings code spec name ty w last) (λ line. rw (room (length given) cap few, ← is_last) refl) ls ∙ sym read in
      rw is (so_far ∙ goes_on said given ls others x first)

  -- no further one was
  pub listed_done : (given : List (ℕ × AbstractCell W N)) (last : Option ℕ) (ls others : Lines) (whole : List (ℕ × AbstractCell W N) × Lines) → length given < cap → last ≡ last_key given
      → (None, others) ≡ one (listed_said readings code spec name ty w last) ls
      → whole ≡ all_said (next_said readings code spec cap name ty w) given ls → (given, others) ≡ whole
  listed_done given last ls others whole few is_last read so_far =
      let said = next_said readings code spec cap name ty w in
      let first : one (said given) ls ≡ (None, others) = same_one (said given) (listed_said readings code spec name ty w last) (λ line. rw (room (length given) cap few, ← is_last) refl) ls ∙ sym read in
      sym (so_far ∙ ends_there said given ls others first)

  -- there is no room for more
  pub listed_full : (given : List (ℕ × AbstractCell W N)) (ls : Lines) (whole : List (ℕ × AbstractCell W N) × Lines) → cap ≤ length given
      → whole ≡ all_said (next_said readings code spec cap name ty w) given ls → (given, ls) ≡ whole
  listed_full given [] whole full so_far = sym so_far
  listed_full given (None ∷ ls) whole full so_far = sym so_far
  listed_full given (Some line ∷ ls) whole full so_far = let step = rw (no_room (length given) cap full) at so_far in sym step
