-- What is read of lines.
use Rattle.std.specs.Prelude.{ℕ, List, [], ◌∷◌, ◌++◌, Option, Some, None}
use Rattle.text_lines.specs.Lines.{Lines, first_line}

-- What is read, and the lines behind it; or none, and the lines from the first faulty one on.
abbrev pub Reading : Type 0 → Type 0
Reading X = Option X × Lines

module _ {X : Type 0} where
  abbrev pub taken : Lines → Lines → Option X → Reading X
  taken ls others None = (None, ls)
  taken ls others (Some x) = (Some x, others)

  abbrev pub taken_first : (List ℕ → Option X) → Lines → Option (List ℕ × Lines) → Reading X
  taken_first said ls None = (None, ls)
  taken_first said ls (Some p) = taken ls p.1 (said p.0)

  -- the first line, where it says something
  abbrev pub one : (List ℕ → Option X) → Lines → Reading X
  one said ls = taken_first said ls (first_line ls)

  abbrev pub go_on : List X → Lines → Option X → (List X → List X × Lines) → List X × Lines
  go_on given ls None others = (given, ls)
  go_on given ls (Some x) others = others (given ++ x ∷ [])

  -- Those given, and behind them what lines say, as long as they go on; what the next line says may depend on those before it.
  abbrev pub all_said : (List X → List ℕ → Option X) → List X → Lines → List X × Lines
  all_said said given [] = (given, [])
  all_said said given (None ∷ ls) = (given, None ∷ ls)
  all_said said given (Some line ∷ ls) = go_on given (Some line ∷ ls) (said given line) (λ longer. all_said said longer ls)

  -- what is read behind this
  abbrev pub then_read : {Y : Type 0} → Reading X → (X → Lines → Reading Y) → Reading Y
  then_read (None, ls) next = (None, ls)
  then_read (Some x, ls) next = next x ls
