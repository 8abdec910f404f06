-- The verdict on a table with its endings.
use Rattle.std.specs.Prelude.{◌≡◌, ℕ, ◌<◌, ◌≤◌, ◌⊎◌}
use Rattle.fixpoint_theory.specs.Analysis.{Analysis}
use Rattle.fixpoint_theory.specs.Table.{Listings}
use Rattle.fixpoint_theory.specs.Verdicts.{verdict_of}
use Rattle.fixpoint_theory.specs.declared.verdict.Verdict.{Verdict}
use Rattle.fixpoint_theory.specs.declared.verdict.Verdict.TheVariants.{Accepted, Entry, Open, Undecodable, TooManyTargets, Targets, Use}
use Rattle.fixpoint_open_tables.specs.Endings.{Endings, endings_of}
use Rattle.fixpoint_open_tables.specs.LeftOpen.{left_open}

-- The address lies before the block that a verdict refuses, or is its own.
abbrev pub IsUpTo : {W : Type 0} → ℕ → Verdict W → Type 0
IsUpTo a Accepted = Unit {0}
IsUpTo a Entry = ⊥
IsUpTo a (Open from to) = a ≤ from
IsUpTo a (Undecodable where_ word) = a ≤ where_
IsUpTo a (TooManyTargets where_ shown) = a ≤ where_
IsUpTo a (Targets where_) = a ≤ where_
IsUpTo a (Use where_) = a ≤ where_

-- What is left of a verdict where the ending at an address is wrong: as if the targets were wrong there, if that comes first.
abbrev pub IsSettled : {W : Type 0} → ℕ → Verdict W → Verdict W → Type 0
IsSettled a v settled = (IsUpTo a v × (settled ≡ Targets a)) ⊎ ((IsUpTo a v → ⊥) × (settled ≡ v))

module _ {E W S : Type 0} (A : Analysis E W S) (t : Listings E) (ends : Endings W) where
  -- the verdict without endings
  abbrev pub closing : Verdict W
  closing = verdict_of (left_open A) t

  -- the ending at an address is that of its transfer, or there is none
  abbrev pub IsEnding : ℕ → Type 0
  IsEnding a = ends a ≡ endings_of A t a

  -- The endings are right as far as the table stands, and the verdict is that on the table.
  pub record IsOfTable (v : Verdict W) : Type 0 where
    pub verdict : v ≡ closing
    pub endings : (a : ℕ) → IsUpTo a closing → IsEnding a

  -- The least address at which the ending is wrong comes first: it is as if the targets were wrong there.
  pub record IsOfEnding (v : Verdict W) : Type 0 where
    pub address : ℕ
    pub up_to : IsUpTo address closing
    pub wrong : IsEnding address → ⊥
    pub least : (a : ℕ) → a < address → IsEnding a
    pub verdict : v ≡ Targets address

  -- What the verdict is.
  abbrev pub IsVerdict : Verdict W → Type 0
  IsVerdict v = IsOfTable v ⊎ IsOfEnding v
