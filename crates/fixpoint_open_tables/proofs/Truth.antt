-- What an analysis that is left open answers.
use Rattle.std.proofs.Common.{ℕ, subst}
use Rattle.fixpoint_theory.specs.Analysis.{Analysis}
use Rattle.fixpoint_theory.specs.Outcome.{Moves, Outcome, moves, sends, too_many, undecodable}
use Rattle.fixpoint_theory.specs.WorklistState.{IsStopped, WorklistState}
use Rattle.fixpoint_theory.specs.Table.{FitsImage, Listings}
use Rattle.fixpoint_open_tables.specs.LeftOpen.{left_open, opened}

module _ {E W S : Type 0} (A : Analysis E W S) where
  opened_moves : (o : Outcome E W) → Moves (opened o)
  opened_moves (undecodable word) = tt
  opened_moves (too_many shown uses) = tt
  opened_moves (moves targets post uses) = tt
  opened_moves (sends arrivals uses) = tt

  -- no transfer stops the analysis
  pub never_stops : (p : WorklistState E) (a : ℕ) (given : Outcome E W) → IsStopped (left_open A) p a given → ⊥
  never_stops p a given h = h.0 (subst Moves h.1.2 (opened_moves (A.transfer a h.1.0.elem)))

  -- a table of the image is one, left open or not
  pub fits_image : (t : Listings E) → FitsImage (left_open A) t → FitsImage A t
  fits_image t fits a b is = let here = fits a b is in record { code = here.code; stamps = here.stamps; next = here.next; exits = here.exits; uses = here.uses }
