-- Elements of a domain are split, whatever is chosen by addresses, and alike.
use Rattle.std.specs.Prelude.{ℕ}
use Rattle.semantics_values.specs.declared.entry.KeyAt.{KeyAt}
use Rattle.semantics_values.specs.States.{State}
use Rattle.fixpoint_theory.specs.Elements.{ElementLaws, Elements}
use Rattle.fixpoint_cases.specs.ByCases.{MergeLaws}
use Rattle.fixpoint_cases.specs.Cases.{IsSplit}
use Rattle.fixpoint_cases.specs.Narrowing.{first_narrowing}
use Rattle.fixpoint_cases.specs.Pieces.{Piece}
use Rattle.fixpoint_cases.specs.Same.{SplitsAlike}
use Rattle.fixpoint_cases.proofs.Pieces.{choices_split}
use Rattle.fixpoint_cases.proofs.SamePieces.{first_choices_split_alike}
use Rattle.domain_laws.specs.Pieces.{AreCut, number_of}
use Rattle.domain_laws.specs.States.{state_type}
use Rattle.analysis_transfer_laws.specs.Analysis.{of_states}
use Rattle.analysis_transfer_laws.specs.Problem.{Problem}
use Rattle.analysis_transfer_laws.specs.Uses.{merged_uses}
use Rattle.analysis_cases.proofs.Analyses as cases
use Rattle.analysis_cases.proofs.Analyses.{alike_of_states, split_of_states}
use Rattle.analysis_cuts.specs.Analysis.{choices_at, split_of}

module _ {E : Type 0} (D : Elements E State) (laws : ElementLaws D) (piece : Piece (ℕ × KeyAt) E) (cut : AreCut D piece) (p : Problem) where
  pub are_split : IsSplit D (split_of p D piece)
  are_split = (choices_split D number_of piece cut.laws).1 (λ a x. first_narrowing D piece (choices_at p a) x)

  pub are_alike : SplitsAlike D (split_of p D piece)
  are_alike = first_choices_split_alike D number_of piece (choices_at p) laws cut.laws cut.alike

  -- of states that have their type
  pub states_are_split : IsSplit (of_states p.spec D) (split_of p D piece)
  states_are_split = split_of_states p.spec D (split_of p D piece) are_split

  pub states_are_alike : SplitsAlike (of_states p.spec D) (split_of p D piece)
  states_are_alike = alike_of_states p.spec D (split_of p D piece) are_alike

pub uses_merge : (p : Problem) → MergeLaws (merged_uses (state_type p.spec).fields)
uses_merge p = cases.uses_merge p
