-- Which row matches first, and which row a decision tree picks.
use Rattle.std.specs.Prelude.{ℕ, zero, suc, ◌+◌, ◌==◌, true, false, Option, Some, None, List, [], ◌∷◌, option_and_then, if◌then◌else◌}
use Rattle.spec_match_compiler.specs.Values.{Value, Place, flag, word, made, value_at}
use Rattle.spec_match_compiler.specs.Patterns.{Pattern}
use Rattle.spec_match_compiler.specs.Meets.{meets, bindings}
use Rattle.spec_match_compiler.specs.Decisions.{Decision, Decisions, row, on_case, on_word, on_flag, no_tree, tree_then}

-- a row's number and pattern
abbrev pub Row : Type 0
Row = ℕ × Pattern

-- the rows by their numbers, from n
abbrev pub numbered : ℕ → List Pattern → List Row
numbered n [] = []
numbered n (p ∷ ps) = (n, p) ∷ numbered (n + 1) ps

-- a row's number, and its variables with the places that they name
abbrev pub Choice : Type 0
Choice = ℕ × List (ℕ × Place)

-- the first of the rows that a value meets
abbrev pub first_match : List Row → Value → Option Choice
first_match [] v = None
first_match (r ∷ rows) v = if meets r.1 v then Some (r.0, bindings [] r.1) else first_match rows v

-- which branch, by the value at the tested place
abbrev pub case_at : Option Value → Option ℕ
case_at (Some (made c parts)) = Some c
case_at _ = None

abbrev pub word_branch : Option Value → ℕ → Option Choice → Option Choice → Option Choice
word_branch (Some (word m)) n a b = if m == n then a else b
word_branch _ n a b = None

abbrev pub flag_branch : Option Value → Option Choice → Option Choice → Option Choice
flag_branch (Some (flag true)) a b = a
flag_branch (Some (flag false)) a b = b
flag_branch _ a b = None

abbrev mutual
  -- what a tree picks for a value
  pub picks : Decision → Value → Option Choice
  picks (row r binds) v = Some (r, binds)
  picks (on_case at arms) v = option_and_then (λ c. arm_at arms c v) (case_at (value_at v at))
  picks (on_word at n a b) v = word_branch (value_at v at) n (picks a v) (picks b v)
  picks (on_flag at a b) v = flag_branch (value_at v at) (picks a v) (picks b v)

  -- what arm number c picks
  pub arm_at : Decisions → ℕ → Value → Option Choice
  arm_at no_tree c v = None
  arm_at (tree_then t ts) zero v = picks t v
  arm_at (tree_then t ts) (suc c) v = arm_at ts c v
