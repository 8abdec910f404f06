-- What elements of a domain have, where notes have a property.
use Rattle.std.specs.Prelude.{ℕ, List, ⊤, IfSome}
use Rattle.semantics_values.specs.declared.entry.Line.{Line}
use Rattle.abstract_value_laws.specs.Abs.{Abs}
use Rattle.fixpoint_theory.specs.Elements.{Elements}
use Rattle.fixpoint_cases.specs.Pieces.{Piece}
use Rattle.domain_laws.specs.Domain.{Meaning}
use Rattle.analysis_table_laws.specs.Values.{HasNotes}

-- A property K of elements that the calls of a domain keep, where values have notes with the property F.
pub record ElementsKeep {E S W N C : Type 0} (D : Elements E S) (M : Meaning E W N C) (F : N → Type 0) (K : E → Type 0) : Type 0 where
  pub entry : (lines : List Line) → K (M.entry lines)
  pub opened : (pc : ℕ) (x : E) → K x → HasNotes F (M.opened pc x)
  pub closed : (before : E) (value : Abs W N) → K before → HasNotes F value → K (M.closed before value)
  pub join : (x y : E) → K x → K y → K (D.join x y)
  pub widen : (old new : E) → K old → K new → K (D.widen old new)
  pub same : (x y : E) → D.same x y → K x → K y

-- what an element has that has no notes
abbrev pub HasNone : {E : Type 0} → E → Type 0
HasNone x = ⊤

-- What is left of an element has the property too.
abbrev pub PiecesKeep : {Cell E : Type 0} → Piece Cell E → (E → Type 0) → Type 0
PiecesKeep {Cell} {E} piece K = (cell : Cell) (low high : ℕ) (x : E) → K x → IfSome (piece cell low high x) K
