-- What is read of lines, line by line.
use Rattle.std.proofs.Common.{◌≡◌, ◌<◌, ◌≤◌, ℕ, List, [], ◌∷◌, ◌++◌, length, Option, Some, None, refl, sym, ap, ◌∙◌, subst, arith, append_assoc}
use Rattle.std.proofs.lemmas.Option.{none-some, same_Some}
use Rattle.text_lines.specs.Lines.{Lines, first_line}
use Rattle.text_lines.specs.Outcomes.{Reading, all_said, go_on, one, taken, taken_first, then_read}

-- ---- the first line

line_of : Option (List ℕ × Lines) → List ℕ
line_of None = []
line_of (Some p) = p.0

lines_behind : Option (List ℕ × Lines) → Lines
lines_behind None = []
lines_behind (Some p) = p.1

pub first_is : (ls : Lines) (p : List ℕ × Lines) → first_line ls ≡ Some p → ls ≡ Some p.0 ∷ p.1
unfolding line_of lines_behind
first_is [] p h = absurd (cc)
first_is (None ∷ ls) p h = absurd (cc)
first_is (Some line ∷ ls) p h = ap (λ l. Some l ∷ ls) (ap line_of h) ∙ ap (λ more. Some p.0 ∷ more) (ap lines_behind h)

module _ {X : Type 0} where
  what : Reading X → Option X
  what r = r.0

  left : Reading X → Lines
  left r = r.1

  -- a reading of something
  abbrev pub some_reading : X → Lines → Reading X
  some_reading x ls = (Some x, ls)

  -- ---- one line

  taken_is : (ls others more : Lines) (found : Option X) (x : X) → taken ls more found ≡ (Some x, others) → (found ≡ Some x) × (more ≡ others)
  unfolding what left
  taken_is ls others more None x h = absurd (none-some x (ap what h))
  taken_is ls others more (Some y) x h = (ap what h, ap left h)

  taken_none : (ls others more : Lines) (found : Option X) → taken ls more found ≡ (None, others) → (found ≡ None) × (ls ≡ others)
  unfolding what left
  taken_none ls others more None h = (refl, ap left h)
  taken_none ls others more (Some y) h = absurd (none-some y (sym (ap what h)))

  -- what one line says is taken with the line
  pub one_taken : (said : List ℕ → Option X) (ls others : Lines) (x : X) → one said ls ≡ (Some x, others) → (line : List ℕ) × (ls ≡ Some line ∷ others) × (said line ≡ Some x)
  unfolding what
  one_taken said [] others x h = absurd (none-some x (ap what h))
  one_taken said (None ∷ ls) others x h = absurd (none-some x (ap what h))
  one_taken said (Some line ∷ ls) others x h = let is = taken_is (Some line ∷ ls) others ls (said line) x h in (line, ap (λ more. Some line ∷ more) is.1, is.0)

  -- where it says nothing, no line is
  pub one_left : (said : List ℕ → Option X) (ls others : Lines) → one said ls ≡ (None, others) → ls ≡ others
  unfolding left
  one_left said [] others h = ap left h
  one_left said (None ∷ ls) others h = ap left h
  one_left said (Some line ∷ ls) others h = (taken_none (Some line ∷ ls) others ls (said line) h).1

  pub one_is : (said : List ℕ → Option X) (line : List ℕ) (ls : Lines) (x : X) → said line ≡ Some x → one said (Some line ∷ ls) ≡ (Some x, ls)
  one_is said line ls x h = rw h refl

  -- ---- lines that go on

  pub goes_on : (said : List X → List ℕ → Option X) (given : List X) (ls others : Lines) (x : X) → one (said given) ls ≡ (Some x, others) → all_said said given ls ≡ all_said said (given ++ x ∷ []) others
  goes_on said given ls others x h = let (line, is, found) = one_taken (said given) ls others x h in rw is (rw found refl)

  pub ends_there : (said : List X → List ℕ → Option X) (given : List X) (ls others : Lines) → one (said given) ls ≡ (None, others) → all_said said given ls ≡ (given, others)
  ends_there said given [] others h = ap (λ (ls : Lines). (given, ls)) (one_left (said given) [] others h)
  ends_there said given (None ∷ ls) others h = ap (λ (ls : Lines). (given, ls)) (one_left (said given) (None ∷ ls) others h)
  ends_there said given (Some line ∷ ls) others h =
      let is = taken_none (Some line ∷ ls) others ls (said given line) h in
      rw is.0 (ap (λ (more : Lines). (given, more)) is.1)

  kept : (P : List X → Type 0) (given : List X) (ls : Lines) (found : Option X) (others : List X → List X × Lines) → P given → ((x : X) → found ≡ Some x → P (others (given ++ x ∷ [])).0) → P (go_on given ls found others).0
  kept P given ls None others so step = so
  kept P given ls (Some x) others so step = step x refl

  -- what holds of those given, and of one more with each line, holds of all
  module _ (P : List X → Type 0) (said : List X → List ℕ → Option X) (step : (given : List X) (line : List ℕ) (x : X) → P given → said given line ≡ Some x → P (given ++ x ∷ [])) where
    pub all_keep : (given : List X) (ls : Lines) → P given → P (all_said said given ls).0
    all_keep given [] so = so
    all_keep given (None ∷ ls) so = so
    all_keep given (Some line ∷ ls) so = kept P given (Some line ∷ ls) (said given line) (λ longer. all_said said longer ls) so (λ y e. all_keep (given ++ y ∷ []) ls (step given line y so e))

  -- ---- lines are used up

  shorter_found : (said : List X → List ℕ → Option X) (given : List X) (line : List ℕ) (ls : Lines) (x : Option X) → ((longer : List X) → length (all_said said longer ls).1 ≤ length ls)
      → length (go_on given (Some line ∷ ls) x (λ longer. all_said said longer ls)).1 ≤ length (Some line ∷ ls)
  shorter_found said given line ls None h = omega arith
  shorter_found said given line ls (Some y) h = omega (arith, h (given ++ y ∷ []))

  pub all_shorter : (said : List X → List ℕ → Option X) (given : List X) (ls : Lines) → length (all_said said given ls).1 ≤ length ls
  all_shorter said given [] = omega arith
  all_shorter said given (None ∷ ls) = omega arith
  all_shorter said given (Some line ∷ ls) = shorter_found said given line ls (said given line) (λ longer. all_shorter said longer ls)

  pub one_shorter : (said : List ℕ → Option X) (ls : Lines) → length (one said ls).1 ≤ length ls
  one_shorter said [] = omega arith
  one_shorter said (None ∷ ls) = omega arith
  one_shorter said (Some line ∷ ls) = by (said line)
    where
      by : (found : Option X) → length (taken (Some line ∷ ls) ls found).1 ≤ length (Some line ∷ ls)
      by None = omega arith
      by (Some x) = omega arith

  -- ---- one reading behind another

  -- what a reading behind another gives, where it gives something
  pub record Continued {Y : Type 0} (r : Reading X) (next : X → Lines → Reading Y) (y : Y) (others : Lines) : Type 0 where
    pub found : X
    pub behind : Lines
    pub is : r ≡ (Some found, behind)
    pub gives : next found behind ≡ (Some y, others)

  pub continued : {Y : Type 0} (r : Reading X) (next : X → Lines → Reading Y) (y : Y) (others : Lines) → then_read r next ≡ (Some y, others) → Continued r next y others
  continued (None, ls) next y others h = absurd (none-some y (ap (λ q. q.0) h))
  continued (Some x, ls) next y others h = record { found = x; behind = ls; is = refl; gives = h }

  pub what_is : (x y : X) (ls others : Lines) → some_reading x ls ≡ some_reading y others → x ≡ y
  unfolding what
  what_is x y ls others h = same_Some x y (ap what h)
