-- Lines that say something as long as they go on.
use Rattle.std.proofs.Common.{◌≡◌, ◌==◌, ℕ, true, false, List, [], ◌∷◌, ◌++◌, Option, Some, None, refl, sym, ap, ◌∙◌, append_assoc, append-nil}
use Rattle.std.specs.List.{list_all}
use Rattle.std.proofs.lemmas.Bool.{and_parts, not-true}
use Rattle.text_lines.specs.Lines.{Lines, is_inside, lines, onto}
use Rattle.text_lines.specs.Outcomes.{all_said, go_on}
use Rattle.text_round_trips.specs.RoundTrips.{AreInFront}
use Rattle.text_round_trips.proofs.Fronts.{line_in_front, nothing_in_front, texts_in_front}

-- ---- what was read is what the lines say

module _ {X : Type 0} (write : X → List ℕ) where
  -- the texts of several, one behind the other
  abbrev pub texts_of : List X → List ℕ
  texts_of [] = []
  texts_of (x ∷ xs) = write x ++ texts_of xs

  -- What was read behind those given, and the lines of it.
  pub record SaidInFront (given : List X) (ls : Lines) (r : List X × Lines) : Type 0 where
    pub more : List X
    pub items : r.0 ≡ given ++ more
    pub in_front : AreInFront (λ t. t ≡ texts_of more) ls r.1

  no_more : (given : List X) (ls : Lines) → SaidInFront given ls (given, ls)
  no_more given ls = record { more = []; items = sym (append-nil given); in_front = nothing_in_front ls }

  module _ (said : List X → List ℕ → Option X) (told : (given : List X) (line : List ℕ) (x : X) → said given line ≡ Some x → write x ≡ line ++ 10 ∷ []) where
    one_more : (given : List X) (line : List ℕ) (ls : Lines) (found : Option X) → said given line ≡ found → ((longer : List X) → SaidInFront longer ls (all_said said longer ls))
        → SaidInFront given (Some line ∷ ls) (go_on given (Some line ∷ ls) found (λ longer. all_said said longer ls))
    one_more given line ls None is rest = no_more given (Some line ∷ ls)
    one_more given line ls (Some x) is rest =
        let so = rest (given ++ x ∷ []) in
        record {
          more = x ∷ so.more;
          items = so.items ∙ append_assoc given (x ∷ []) so.more;
          in_front = texts_in_front (write x) (texts_of so.more) (Some line ∷ ls) ls (all_said said (given ++ x ∷ []) ls).1 (line_in_front (λ t. t ≡ write x) line (Some line ∷ ls) ls refl (sym (told given line x is))) so.in_front;
        }

    pub all_told : (given : List X) (ls : Lines) → SaidInFront given ls (all_said said given ls)
    all_told given [] = no_more given []
    all_told given (None ∷ ls) = no_more given (None ∷ ls)
    all_told given (Some line ∷ ls) = one_more given line ls (said given line) refl (λ longer. all_told longer ls)

-- ---- where they end

-- The first line begins so, if there is a whole one.
abbrev pub Begins : List ℕ → Lines → Type 0
Begins front [] = Unit {0}
Begins front (None ∷ ls) = Unit {0}
Begins front (Some line ∷ ls) = (tail : List ℕ) × (line ≡ front ++ tail)

begins_here : (ls : Lines) → Begins [] ls
begins_here [] = tt
begins_here (None ∷ ls) = tt
begins_here (Some line ∷ ls) = (line, refl)

begins_onto : (b : ℕ) (front : List ℕ) (ls : Lines) → Begins front ls → Begins (b ∷ front) (onto b ls)
begins_onto b front [] h = tt
begins_onto b front (None ∷ ls) h = tt
begins_onto b front (Some line ∷ ls) (tail, e) = (tail, ap (λ (t : List ℕ). b ∷ t) e)

-- a text that begins without an end of a line
pub begins : (front rest : List ℕ) → list_all is_inside front ≡ true → Begins front (lines (front ++ rest))
begins [] rest h = begins_here (lines rest)
begins (b ∷ front) rest h =
    let both = and_parts (is_inside b) (list_all is_inside front) h in
    let apart : (b == 10) ≡ false = not-true (b == 10) both.0 in
    rw apart (begins_onto b front (lines (front ++ rest)) (begins front rest both.1))

-- a line that says nothing ends them
pub stops : {X : Type 0} (said : List X → List ℕ → Option X) (given : List X) (front : List ℕ) (ls : Lines) → ((tail : List ℕ) → said given (front ++ tail) ≡ None) → Begins front ls → all_said said given ls ≡ (given, ls)
stops said given front [] none h = refl
stops said given front (None ∷ ls) none h = refl
stops said given front (Some line ∷ ls) none (tail, e) = rw (e, none tail) refl
