-- Lines in front of others, and their texts.
use Rattle.std.proofs.Common.{◌≡◌, ℕ, true, false, List, [], ◌∷◌, ◌++◌, Some, None, refl, sym, ap, subst, ◌∙◌, append_assoc}
use Rattle.text_lines.specs.Lines.{Lines, all_end, text_of}
use Rattle.text_round_trips.specs.RoundTrips.{AreInFront}

both_end : (front next : Lines) → all_end front ≡ true → all_end next ≡ true → all_end (front ++ next) ≡ true
both_end [] next h k = k
both_end (None ∷ front) next h k = h
both_end (Some line ∷ front) next h k = both_end front next h k

text_of_both : (front next : Lines) → all_end front ≡ true → text_of (front ++ next) ≡ text_of front ++ text_of next
text_of_both [] next h = refl
text_of_both (None ∷ front) next h = absurd (let bad : false ≡ true = h in cc)
text_of_both (Some line ∷ front) next h = ap (λ (t : List ℕ). line ++ 10 ∷ t) (text_of_both front next h) ∙ sym (append_assoc line (10 ∷ text_of front) (text_of next))

-- one line
pub line_in_front : (Is : List ℕ → Type 0) (line : List ℕ) (ls rest : Lines) → ls ≡ Some line ∷ rest → Is (line ++ 10 ∷ []) → AreInFront Is ls rest
line_in_front Is line ls rest e is = record { front = Some line ∷ []; are = e; whole = refl; text = is }

-- none
pub nothing_in_front : (ls : Lines) → AreInFront (λ t. t ≡ []) ls ls
nothing_in_front ls = record { front = []; are = refl; whole = refl; text = refl }

-- lines in front of lines in front of others
pub both_in_front : (First Second Is : List ℕ → Type 0) (ls mid rest : Lines) → ((a b : List ℕ) → First a → Second b → Is (a ++ b)) → AreInFront First ls mid → AreInFront Second mid rest → AreInFront Is ls rest
both_in_front First Second Is ls mid rest joined first second = record {
  front = first.front ++ second.front;
  are = first.are ∙ ap (λ (ms : Lines). first.front ++ ms) second.are ∙ sym (append_assoc first.front second.front rest);
  whole = both_end first.front second.front first.whole second.whole;
  text = subst Is (sym (text_of_both first.front second.front first.whole)) (joined (text_of first.front) (text_of second.front) first.text second.text);
}

-- of which the texts are known
pub texts_in_front : (a b : List ℕ) (ls mid rest : Lines) → AreInFront (λ t. t ≡ a) ls mid → AreInFront (λ t. t ≡ b) mid rest → AreInFront (λ t. t ≡ a ++ b) ls rest
texts_in_front a b ls mid rest first second =
    both_in_front (λ t. t ≡ a) (λ t. t ≡ b) (λ t. t ≡ a ++ b) ls mid rest (λ s t e f. ap (λ (x : List ℕ). x ++ t) e ∙ ap (λ (y : List ℕ). a ++ y) f) first second

-- the same lines, whose text is said otherwise
pub otherwise : (Is Other : List ℕ → Type 0) (ls rest : Lines) → ((t : List ℕ) → Is t → Other t) → AreInFront Is ls rest → AreInFront Other ls rest
otherwise Is Other ls rest so lines = record { front = lines.front; are = lines.are; whole = lines.whole; text = so (text_of lines.front) lines.text }
