-- What holds of values over any base.
use Rattle.std.specs.Prelude.{◌≡◌, ℕ, ◌<◌, ◌≤◌, false, List, length, ◌⊎◌, IsTrue}
use Rattle.base_trait.specs.Algebra.{Algebra}
use Rattle.base_trait.specs.declared.uses.Stamp.{Stamp}
use Rattle.abstract_map_laws.specs.Laws.{HasRoom}
use Rattle.semantics_values.specs.Values.{Val}
use Rattle.abstract_value_laws.specs.Abs.{Abs}
use Rattle.abstract_value_laws.specs.Calls.{absorbs_of, join_of, widen_of}
use Rattle.abstract_value_laws.specs.Describes.{Describes}
use Rattle.abstract_value_laws.specs.Fits.{Fits}
use Rattle.abstract_value_laws.specs.Shapes.{HasShape, ListsStamps, Shape, height_of, rank_of}

module _ {W N C : Type 0} (B : Algebra W N C) where
  -- ---- describing

  -- What absorbs describes all that the other describes.
  abbrev pub AbsorbsDescribes : Type 0
  AbsorbsDescribes = (c : C) (cap : ℕ) (valuation : List ℕ) (v : Val) (old new : Abs W N)
      → Fits B c cap old → Fits B c cap new → IsTrue (absorbs_of B c old new) → Describes B valuation new v → Describes B valuation old v

  -- A join describes what either side describes.
  abbrev pub JoinDescribes : Type 0
  JoinDescribes = (c : C) (cap : ℕ) (valuation : List ℕ) (v : Val) (s : Shape) (x y : Abs W N)
      → IsTrue B.joins → Fits B c cap x → Fits B c cap y → HasShape s x → HasShape s y → Describes B valuation x v ⊎ Describes B valuation y v → Describes B valuation (join_of B c cap x y) v

  abbrev pub WidenDescribes : Type 0
  WidenDescribes = (c : C) (cap : ℕ) (valuation : List ℕ) (v : Val) (s : Shape) (old new : Abs W N)
      → IsTrue B.joins → Fits B c cap old → Fits B c cap new → HasShape s old → HasShape s new → Describes B valuation old v ⊎ Describes B valuation new v → Describes B valuation (widen_of B c old new) v

  -- ---- absorption

  abbrev pub AbsorbsItself : Type 0
  AbsorbsItself = (c : C) (cap : ℕ) (x : Abs W N) → Fits B c cap x → IsTrue (absorbs_of B c x x)

  abbrev pub AbsorbsOn : Type 0
  AbsorbsOn = (c : C) (cap : ℕ) (x y z : Abs W N) → Fits B c cap x → Fits B c cap y → Fits B c cap z
      → IsTrue (absorbs_of B c x y) → IsTrue (absorbs_of B c y z) → IsTrue (absorbs_of B c x z)

  abbrev pub JoinAbsorbs : Type 0
  JoinAbsorbs = (c : C) (cap : ℕ) (s : Shape) (x y : Abs W N) → IsTrue B.joins → Fits B c cap x → Fits B c cap y → HasShape s x → HasShape s y
      → IsTrue (absorbs_of B c (join_of B c cap x y) x) × IsTrue (absorbs_of B c (join_of B c cap x y) y)

  abbrev pub WidenAbsorbs : Type 0
  WidenAbsorbs = (c : C) (cap : ℕ) (s : Shape) (old new : Abs W N) → IsTrue B.joins → Fits B c cap old → Fits B c cap new → HasShape s old → HasShape s new
      → IsTrue (absorbs_of B c (widen_of B c old new) old) × IsTrue (absorbs_of B c (widen_of B c old new) new)

  -- ---- widening ends

  abbrev pub WidenKeeps : Type 0
  WidenKeeps = (c : C) (cap : ℕ) (old new : Abs W N) → IsTrue B.joins → Fits B c cap old → Fits B c cap new → IsTrue (absorbs_of B c old new) → widen_of B c old new ≡ old

  abbrev pub WidenFalls : Type 0
  WidenFalls = (c : C) (cap : ℕ) (stamps : List Stamp) (s : Shape) (old new : Abs W N) → IsTrue B.joins → Fits B c cap old → Fits B c cap new → HasShape s old → HasShape s new
      → ListsStamps B stamps old → ListsStamps B stamps new → absorbs_of B c old new ≡ false → rank_of B cap c stamps s (widen_of B c old new) < rank_of B cap c stamps s old

  abbrev pub RankHeight : Type 0
  RankHeight = (c : C) (cap : ℕ) (stamps : List Stamp) (s : Shape) (x : Abs W N) → Fits B c cap x → HasShape s x → rank_of B cap c stamps s x ≤ height_of B cap (length stamps) s

  -- ---- results fit, have the shape, and list no other stamps

  abbrev pub JoinFits : Type 0
  JoinFits = (c : C) (cap : ℕ) (x y : Abs W N) → HasRoom B cap → Fits B c cap x → Fits B c cap y → Fits B c cap (join_of B c cap x y)

  abbrev pub WidenFits : Type 0
  WidenFits = (c : C) (cap : ℕ) (old new : Abs W N) → Fits B c cap old → Fits B c cap new → Fits B c cap (widen_of B c old new)

  abbrev pub JoinShapes : Type 0
  JoinShapes = (c : C) (cap : ℕ) (s : Shape) (x y : Abs W N) → HasShape s x → HasShape s y → HasShape s (join_of B c cap x y)

  abbrev pub WidenShapes : Type 0
  WidenShapes = (c : C) (s : Shape) (old new : Abs W N) → HasShape s old → HasShape s new → HasShape s (widen_of B c old new)

  abbrev pub JoinLists : Type 0
  JoinLists = (c : C) (cap : ℕ) (stamps : List Stamp) (x y : Abs W N) → ListsStamps B stamps x → ListsStamps B stamps y → ListsStamps B stamps (join_of B c cap x y)

  abbrev pub WidenLists : Type 0
  WidenLists = (c : C) (stamps : List Stamp) (old new : Abs W N) → ListsStamps B stamps old → ListsStamps B stamps new → ListsStamps B stamps (widen_of B c old new)
