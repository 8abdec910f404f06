-- What holds of every analysis whose tables are left open.
use Rattle.std.specs.Prelude.{◌≡◌, ◌↔◌}
use Rattle.fixpoint_theory.specs.Analysis.{Analysis}
use Rattle.fixpoint_theory.specs.Runs.{IsSound, IsSoundTable, Machine}
use Rattle.fixpoint_theory.specs.Table.{IsClosed, Listings, TableFits}
use Rattle.fixpoint_theory.specs.declared.verdict.Verdict.{Verdict}
use Rattle.fixpoint_theory.specs.declared.verdict.Verdict.TheVariants.{Accepted}
use Rattle.fixpoint_open_tables.specs.Endings.{Endings, IsClosedButOpen, IsNowhereOpen}
use Rattle.fixpoint_open_tables.specs.Runs.{IsSoundUntilOpen}
use Rattle.fixpoint_open_tables.specs.Verdicts.{IsVerdict}

module _ {E W S : Type 0} (A : Analysis E W S) where
  -- What a table says that is closed but open holds of every run until it is at an open address.
  abbrev pub OpenTablesAreSound : Machine S → Type 0
  OpenTablesAreSound M = IsSound A M → (t : Listings E) (ends : Endings W) → TableFits A t → IsClosedButOpen A t ends → IsSoundUntilOpen A M t ends

  -- A table of which no address is open is closed but open exactly where it is closed.
  abbrev pub ClosedIfNowhereOpen : Type 0
  ClosedIfNowhereOpen = (t : Listings E) (ends : Endings W) → IsNowhereOpen ends → IsClosedButOpen A t ends ↔ IsClosed A t

  -- It is then sound until open exactly where it is sound.
  abbrev pub SoundIfNowhereOpen : Machine S → Type 0
  SoundIfNowhereOpen M = (t : Listings E) (ends : Endings W) → IsNowhereOpen ends → IsSoundUntilOpen A M t ends ↔ IsSoundTable A M t

  -- A verdict is `Accepted` exactly where the table is closed but open, and there is one.
  abbrev pub AcceptedAreClosedButOpen : Type 0
  AcceptedAreClosedButOpen =
      (t : Listings E) (ends : Endings W) (v : Verdict W) → TableFits A t → IsVerdict A t ends v → (v ≡ Accepted) ↔ IsClosedButOpen A t ends

  abbrev pub VerdictsAreOne : Type 0
  VerdictsAreOne = (t : Listings E) (ends : Endings W) (v w : Verdict W) → IsVerdict A t ends v → IsVerdict A t ends w → v ≡ w
