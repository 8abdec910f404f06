-- What arguments absorb.
use Rattle.std.specs.Prelude.{IsTrue}
use Rattle.support_tail_fixpoint.specs.declared.policy.Policy.{Policy}
use Rattle.support_tail_fixpoint.specs.declared.policy.Policy.TheVariants.{Stop, Widen}
use Rattle.support_tail_fixpoint.specs.Moves.{Moves}

-- Joins and widenings of arguments that fit absorb both.
pub record Absorbing {A O : Type 0} (m : Moves A O) (Fits : A → Type 0) : Type 0 where
  pub join_absorbs : (x y : A) → Fits x → Fits y → IsTrue (m.absorbs (m.join_args x y) x) × IsTrue (m.absorbs (m.join_args x y) y)
  pub widen_absorbs : (old new : A) → Fits old → Fits new
      → IsTrue (m.absorbs (m.widen_args old new) old) × IsTrue (m.absorbs (m.widen_args old new) new)

-- Under `Widen`, joins and widenings absorb.
abbrev pub AbsorbingUnder : {A O : Type 0} → Moves A O → (A → Type 0) → Policy → Type 0
AbsorbingUnder m Fits (Stop turns) = Unit {0}
AbsorbingUnder m Fits (Widen unroll delay) = Absorbing m Fits

-- Of arguments that fit, absorption is reflexive and transitive.
pub record AbsorptionOrders {A O : Type 0} (m : Moves A O) (Fits : A → Type 0) : Type 0 where
  pub absorbs_itself : (x : A) → Fits x → IsTrue (m.absorbs x x)
  pub absorbs_on : (x y z : A) → Fits x → Fits y → Fits z → IsTrue (m.absorbs x y) → IsTrue (m.absorbs y z) → IsTrue (m.absorbs x z)
