-- What compiling a match answers.
use Rattle.std.specs.Prelude.{◌≡◌, ℕ, ◌<◌, true, Option, Some, None, Result, Ok, Err, List, length}
use Rattle.spec_match_compiler.specs.declared.shape.Shape.{Shape}
use Rattle.spec_match_compiler.specs.declared.decision.Decision.{Decision}
use Rattle.spec_match_compiler.specs.declared.match_error.MatchError.{MatchError}
use Rattle.spec_match_compiler.specs.declared.match_error.MatchError.TheVariants.{NotExhaustive, Useless, NoMemory}
use Rattle.spec_match_compiler.specs.Values.{Value, Place}
use Rattle.spec_match_compiler.specs.Patterns.{Pattern}
use Rattle.spec_match_compiler.specs.Shapes.{Types, HasShape}
use Rattle.spec_match_compiler.specs.Meets.{meets}
use Rattle.spec_match_compiler.specs.Picks.{Choice, numbered, first_match, picks}
use Rattle.spec_match_compiler.specs.Decisions as plain
use Rattle.spec_match_compiler.specs.Knowledge.{unknown}
use Rattle.spec_match_compiler.specs.Rule.{IsTree, Fails}
use Rattle.spec_match_compiler.specs.Answers.{MatchAnswer, decision, not_exhaustive, useless}
use Rattle.spec_match_compiler.specs.Views.{pat, tree}

module _ (types : Types) (shape : Shape) (rows : List Pattern) where
  -- the first of the rows, by its number from 0, that a value meets
  abbrev pub first_of : Value → Option Choice
  first_of v = first_match (numbered 0 rows) v

  -- The tree of the rule.
  abbrev pub IsTreeOf : plain.Decision → Type 0
  IsTreeOf t = IsTree types (numbered 0 rows) (unknown shape) t

  -- For each value of the shape the tree picks the first row that matches, with its bindings.
  abbrev pub PicksTheFirst : plain.Decision → Type 0
  PicksTheFirst t = (v : Value) → HasShape types shape v → picks t v ≡ first_of v

  -- Every value of the shape meets some row.
  abbrev pub IsExhaustive : Type 0
  IsExhaustive = (v : Value) → HasShape types shape v → (c : Choice) × (first_of v ≡ Some c)

  -- Some value meets row r, and none above it.
  abbrev pub IsOfUse : ℕ → Type 0
  IsOfUse r = (v : Value) × (binds : List (ℕ × Place)) × HasShape types shape v × (first_of v ≡ Some (r, binds))

  -- Some value of the shape meets the example, and none that does meets a row.
  abbrev pub IsUnmatched : Pattern → Type 0
  IsUnmatched p =
      ((v : Value) × HasShape types shape v × (meets p v ≡ true))
      × ((v : Value) → HasShape types shape v → meets p v ≡ true → first_of v ≡ None)

  -- Why a match is refused.
  abbrev pub IsRefusal : MatchError → Type 0
  IsRefusal (NotExhaustive p) = Fails types (numbered 0 rows) (unknown shape) (pat p) × IsUnmatched (pat p)
  IsRefusal (Useless r) =
      IsExhaustive × (r < length rows) × (¬ IsOfUse r) × ((q : ℕ) → q < r → IsOfUse q)
  IsRefusal NoMemory = Unit {0}

-- What a call answers is what the match leads to, or memory ran out.
abbrev pub Answers : Result Decision MatchError → MatchAnswer → Type 0
Answers (Ok d) a = a ≡ decision (tree d)
Answers (Err (NotExhaustive p)) a = a ≡ not_exhaustive (pat p)
Answers (Err (Useless r)) a = a ≡ useless r
Answers (Err NoMemory) a = Unit {0}
