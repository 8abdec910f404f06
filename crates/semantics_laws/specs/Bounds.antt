-- The direct meaning at other bounds on turns.
use Rattle.std.specs.Prelude.{◌≡◌, ℕ, ◌≤◌, List, ⊤}
use Rattle.base_trait.specs.Uses.{Read}
use Rattle.spec_ir.specs.Specification.{Spec}
use Rattle.semantics_values.specs.Values.{Val}
use Rattle.semantics.specs.Outcomes as o
use Rattle.semantics.specs.Outcomes.{Outcome}
use Rattle.semantics.specs.Direct.{run}
use Rattle.semantics.specs.Runs.{meaning}

-- What isn't deep is the other one too.
abbrev pub Settles : {A : Type 0} → Outcome A → Outcome A → Type 0
Settles (o.deep i) p = ⊤
Settles o.wrong p = p ≡ o.wrong
Settles (o.gives x l) p = p ≡ o.gives x l

-- A call that isn't deep is the same at every greater bound on turns: the value, and the reads. At any depth of
-- calls of other groups, and so in the meaning.
pub record BoundsSettle : Type 0 where
  pub at_a_depth : (spec : Spec) (a d e n i : ℕ) (args : List Val) (l : List Read) → d ≤ e → Settles (run spec a d n i args l) (run spec a e n i args l)
  pub in_the_meaning : (spec : Spec) (a d e i : ℕ) (args : List Val) (l : List Read) → d ≤ e → Settles (meaning spec a d i args l) (meaning spec a e i args l)
