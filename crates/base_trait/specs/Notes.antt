-- The calls of notes.
use Rattle.std.specs.Prelude.{◌≡◌, refl}
use Rattle.base_trait.specs.Algebra.{Notes}

-- both have the same calls
pub record HaveSameCalls {N : Type 0} (A B : Notes N) : Type 0 where
  pub entry : A.entry ≡ B.entry
  pub at : A.at ≡ B.at
  pub join : A.join ≡ B.join
  pub widen : A.widen ≡ B.widen
  pub absorbs : A.absorbs ≡ B.absorbs
  pub reads : A.reads ≡ B.reads

-- notes have their own calls
pub own_calls : {N : Type 0} (A : Notes N) → HaveSameCalls A A
own_calls A = record { entry = refl; at = refl; join = refl; widen = refl; absorbs = refl; reads = refl }
