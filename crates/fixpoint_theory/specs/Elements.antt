-- What abstract elements are: their operations as functions, and which states an element describes.
use Rattle.std.specs.Prelude.{◌≡◌, ℕ, ◌≤◌, ◌<◌, Bool, false, List, ◌++◌, length, IsTrue, ◌⊎◌}
use Rattle.base_trait.specs.Lists.{AreAmong}
use Rattle.base_trait.specs.declared.uses.Stamp.{Stamp}

-- The meaning of elements E over states S.
pub record Elements (E S : Type 0) : Type 1 where
  -- the state is one that the element stands for
  pub holds : E → S → Type 0
  -- which elements are lent and given
  pub fits : E → Type 0
  -- whether two elements are one, whatever stands for them: both ways to write one submodule
  pub same : E → E → Type 0
  pub join : E → E → E
  -- the old element, then the new one
  pub widen : E → E → E
  pub absorbs : E → E → Bool
  -- the stamps that the element lists
  pub listed : E → List Stamp
  -- what falls where an element is widened, by a list of stamps, and the most that it can be at a length of that list
  pub rank : List Stamp → E → ℕ
  pub height : ℕ → ℕ

pub record ElementLaws {E S : Type 0} (D : Elements E S) : Type 0 where
  -- ---- results fit
  pub join_fits : (x y : E) → D.fits x → D.fits y → D.fits (D.join x y)
  pub widen_fits : (old new : E) → D.fits old → D.fits new → D.fits (D.widen old new)
  -- ---- join and widening are upper bounds
  pub join_absorbs : (x y : E) → D.fits x → D.fits y → IsTrue (D.absorbs (D.join x y) x) × IsTrue (D.absorbs (D.join x y) y)
  pub widen_absorbs : (old new : E) → D.fits old → D.fits new → IsTrue (D.absorbs (D.widen old new) old) × IsTrue (D.absorbs (D.widen old new) new)
  -- ---- absorption
  pub absorbs_itself : (x : E) → D.fits x → IsTrue (D.absorbs x x)
  pub absorbs_on : (x y z : E) → D.fits x → D.fits y → D.fits z → IsTrue (D.absorbs x y) → IsTrue (D.absorbs y z) → IsTrue (D.absorbs x z)
  pub absorbs_holds : (old new : E) (s : S) → D.fits old → D.fits new → IsTrue (D.absorbs old new) → D.holds new s → D.holds old s
  -- ---- widening ends: by each list of stamps that holds those of both sides
  pub widen_keeps : (old new : E) → D.fits old → D.fits new → IsTrue (D.absorbs old new) → D.same (D.widen old new) old
  pub widen_falls : (stamps : List Stamp) (old new : E) → D.fits old → D.fits new → AreAmong (D.listed old) stamps → AreAmong (D.listed new) stamps
      → D.absorbs old new ≡ false → D.rank stamps (D.widen old new) < D.rank stamps old
  pub rank_height : (stamps : List Stamp) (x : E) → D.fits x → D.rank stamps x ≤ D.height (length stamps)
  -- ---- no call lists a stamp that it was not lent
  pub join_lists : (x y : E) → D.fits x → D.fits y → AreAmong (D.listed (D.join x y)) (D.listed x ++ D.listed y)
  pub widen_lists : (old new : E) → D.fits old → D.fits new → AreAmong (D.listed (D.widen old new)) (D.listed old ++ D.listed new)
  -- ---- what is the same is an equivalence that each call keeps
  pub same_itself : (x : E) → D.same x x
  pub same_back : (x y : E) → D.same x y → D.same y x
  pub same_on : (x y z : E) → D.same x y → D.same y z → D.same x z
  pub same_join : (x x' y y' : E) → D.fits x → D.fits x' → D.fits y → D.fits y' → D.same x x' → D.same y y' → D.same (D.join x y) (D.join x' y')
  pub same_widen : (x x' y y' : E) → D.fits x → D.fits x' → D.fits y → D.fits y' → D.same x x' → D.same y y' → D.same (D.widen x y) (D.widen x' y')
  pub same_absorbs : (x x' y y' : E) → D.fits x → D.fits x' → D.fits y → D.fits y' → D.same x x' → D.same y y' → D.absorbs x y ≡ D.absorbs x' y'
  pub same_lists : (x y : E) → D.same x y → AreAmong (D.listed x) (D.listed y)
  pub same_rank : (stamps : List Stamp) (x y : E) → D.fits x → D.fits y → D.same x y → D.rank stamps x ≡ D.rank stamps y

module _ {E S : Type 0} (D : Elements E S) where
  -- What a join and a widening describe: what either side does.
  abbrev pub BoundsHold : Type 0
  BoundsHold =
      (x y : E) (s : S) → D.fits x → D.fits y → D.holds x s ⊎ D.holds y s → D.holds (D.join x y) s × D.holds (D.widen x y) s

  -- Elements that are the same describe the same states.
  abbrev pub SameElementsHold : Type 0
  SameElementsHold = (x y : E) (s : S) → D.fits x → D.fits y → D.same x y → D.holds x s → D.holds y s
