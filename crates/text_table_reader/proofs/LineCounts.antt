-- How many lines a text has.
use Rattle.std.proofs.Common.{◌==◌, ◌+◌, ◌≤◌, ℕ, List, [], ◌∷◌, length, Some, None, inl, inr, arith}
use Rattle.std.proofs.lemmas.Bool.{cases_Bool}
use Rattle.text_lines.specs.Lines.{Lines, lines, onto}

onto_few : (b : ℕ) (ls : Lines) (n : ℕ) → length ls ≤ n → length (onto b ls) ≤ n + 1
onto_few b [] n h = omega arith
onto_few b (None ∷ ls) n h = omega (arith, h)
onto_few b (Some line ∷ ls) n h = omega (arith, h)

-- each line has a byte
pub few_lines : (bytes : List ℕ) → length (lines bytes) ≤ length bytes
few_lines [] = omega arith
few_lines (b ∷ bytes) =
    let less = few_lines bytes in
    elim (cases_Bool (b == 10)) [
      | inl e ↦ rw e (omega (arith, less))
      | inr e ↦ rw e (let more = onto_few b (lines bytes) (length bytes) less in omega (arith, more))
    ]
