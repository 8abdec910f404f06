-- Pieces of elements, up to how these are written.
use Rattle.std.specs.Prelude.{◌≡◌, ℕ, if◌then◌else◌, List, [], ◌++◌, Option, None, Some}
use Rattle.fixpoint_theory.specs.Elements.{Elements}
use Rattle.fixpoint_cases.specs.Lists.{if_there}
use Rattle.fixpoint_cases.specs.Narrowing.{narrows}
use Rattle.fixpoint_cases.specs.Pieces.{Piece, pieces}
use Rattle.fixpoint_cases.specs.Same.{AreSame}

-- the later list is the earlier one, and behind it what is the same as the piece, if there is one
abbrev pub Joins : {E S : Type 0} → Elements E S → List E → List E → Option E → Type 0
Joins {E} {S} D before after piece = (more : List E) × (after ≡ before ++ more) × AreSame D more (if_there piece [])

-- the pieces by a choice, where it narrows the element
abbrev pub narrower : {Cell E S : Type 0} → Elements E S → Piece Cell E → Cell × List ℕ → E → Option (List E)
narrower D piece c x = if narrows D piece c x then Some (pieces piece c.0 c.1 x) else None
