-- What holds of maps over any base.
use Rattle.std.specs.Prelude.{◌≡◌, ℕ, ◌^◌, ◌<◌, ◌≤◌, ◌==◌, false, List, length, ◌⊎◌, IsTrue, if◌then◌else◌}
use Rattle.base_trait.specs.Algebra.{Algebra}
use Rattle.base_trait.specs.declared.uses.Stamp.{Stamp}
use Rattle.abstract_map_laws.specs.declared.cell.AbstractCell.{AbstractCell}
use Rattle.abstract_map_laws.specs.Cells.{Held, CellDescribes, CellFits, ListsOnly}
use Rattle.abstract_map_laws.specs.Keys.{Keys, IsKeyed, either_key}
use Rattle.abstract_map_laws.specs.Maps.{Map, keys, Describes, Fits, EachCell, MayBe, MayUse, AreListed}
use Rattle.abstract_map_laws.specs.Calls.{access_of, update_of, join_of, widen_of, absorbs_of, rank_of, height_of}

module _ {W N C : Type 0} (B : Algebra W N C) where
  -- ---- describing

  -- What is read at a key that may be meant describes the concrete cell.
  abbrev pub AccessDescribes : Type 0
  AccessDescribes = (c : C) (cap : ℕ) (valuation : List ℕ) (f : ℕ → Held) (m : Map W N) (ks : Keys) (k : ℕ)
      → Fits B c cap m → MayUse B ks → Describes B valuation f m → MayBe m ks k
      → CellDescribes B valuation m.width (f k) (access_of B c m ks)

  -- A cell that is written at a key that may be meant describes what is written there, and the map what was elsewhere.
  abbrev pub UpdateDescribes : Type 0
  UpdateDescribes = (c : C) (cap : ℕ) (valuation : List ℕ) (f : ℕ → Held) (m : Map W N) (ks : Keys) (k : ℕ) (h : Held) (x : AbstractCell W N)
      → Fits B c cap m → MayUse B ks → AreListed m ks → CellFits B c m.width x → Describes B valuation f m → MayBe m ks k → CellDescribes B valuation m.width h x
      → Describes B valuation (λ j. if j == k then h else f j) (update_of B c cap m ks x)

  -- What absorbs describes all that the other describes.
  abbrev pub AbsorbsDescribes : Type 0
  AbsorbsDescribes = (c : C) (cap : ℕ) (valuation : List ℕ) (f : ℕ → Held) (old new : Map W N)
      → Fits B c cap old → Fits B c cap new → old.width ≡ new.width → IsTrue (absorbs_of B c old new) → Describes B valuation f new → Describes B valuation f old

  abbrev pub JoinDescribes : Type 0
  JoinDescribes = (c : C) (cap : ℕ) (valuation : List ℕ) (f : ℕ → Held) (m n : Map W N)
      → IsTrue B.joins → Fits B c cap m → Fits B c cap n → m.width ≡ n.width
      → Describes B valuation f m ⊎ Describes B valuation f n → Describes B valuation f (join_of B c cap m n)

  abbrev pub WidenDescribes : Type 0
  WidenDescribes = (c : C) (cap : ℕ) (valuation : List ℕ) (f : ℕ → Held) (old new : Map W N)
      → IsTrue B.joins → Fits B c cap old → Fits B c cap new → old.width ≡ new.width
      → Describes B valuation f old ⊎ Describes B valuation f new → Describes B valuation f (widen_of B c old new)

  -- ---- absorption

  abbrev pub AbsorbsItself : Type 0
  AbsorbsItself = (c : C) (cap : ℕ) (m : Map W N) → Fits B c cap m → IsTrue (absorbs_of B c m m)

  abbrev pub AbsorbsOn : Type 0
  AbsorbsOn = (c : C) (cap : ℕ) (x y z : Map W N) → Fits B c cap x → Fits B c cap y → Fits B c cap z → x.width ≡ y.width → y.width ≡ z.width
      → IsTrue (absorbs_of B c x y) → IsTrue (absorbs_of B c y z) → IsTrue (absorbs_of B c x z)

  abbrev pub JoinAbsorbs : Type 0
  JoinAbsorbs = (c : C) (cap : ℕ) (m n : Map W N) → IsTrue B.joins → Fits B c cap m → Fits B c cap n → m.width ≡ n.width
      → IsTrue (absorbs_of B c (join_of B c cap m n) m) × IsTrue (absorbs_of B c (join_of B c cap m n) n)

  -- What absorbs both sides absorbs the join, where nothing is folded.
  abbrev pub JoinLeast : Type 0
  JoinLeast = (c : C) (cap : ℕ) (m n z : Map W N) → Fits B c cap m → Fits B c cap n → Fits B c cap z → m.width ≡ n.width → z.width ≡ m.width
      → length (either_key (keys m) (keys n)) ≤ cap
      → IsTrue (absorbs_of B c z m) → IsTrue (absorbs_of B c z n) → IsTrue (absorbs_of B c z (join_of B c cap m n))

  abbrev pub WidenAbsorbs : Type 0
  WidenAbsorbs = (c : C) (cap : ℕ) (old new : Map W N) → IsTrue B.joins → Fits B c cap old → Fits B c cap new → old.width ≡ new.width
      → IsTrue (absorbs_of B c (widen_of B c old new) old) × IsTrue (absorbs_of B c (widen_of B c old new) new)

  -- ---- widening ends

  abbrev pub WidenKeeps : Type 0
  WidenKeeps = (c : C) (cap : ℕ) (old new : Map W N) → IsTrue B.joins → Fits B c cap old → Fits B c cap new → old.width ≡ new.width
      → IsTrue (absorbs_of B c old new) → widen_of B c old new ≡ old

  abbrev pub WidenFalls : Type 0
  WidenFalls = (c : C) (cap : ℕ) (stamps : List Stamp) (old new : Map W N) → IsTrue B.joins → Fits B c cap old → Fits B c cap new → old.width ≡ new.width
      → EachCell (ListsOnly B stamps) old → EachCell (ListsOnly B stamps) new
      → absorbs_of B c old new ≡ false → rank_of B c stamps (widen_of B c old new) < rank_of B c stamps old

  abbrev pub RankHeight : Type 0
  RankHeight = (c : C) (cap : ℕ) (stamps : List Stamp) (m : Map W N) → Fits B c cap m → rank_of B c stamps m ≤ height_of B cap m.width (length stamps)

  -- ---- results fit, and list no other stamps

  -- where a base does not join, cap is no less than the number of keys
  abbrev pub HasRoom : ℕ → Type 0
  HasRoom cap = IsTrue B.joins ⊎ (2 ^ 32 ≤ cap)

  abbrev pub AccessFits : Type 0
  AccessFits = (c : C) (cap : ℕ) (m : Map W N) (ks : Keys) → Fits B c cap m → CellFits B c m.width (access_of B c m ks)

  abbrev pub AccessLists : Type 0
  AccessLists = (c : C) (stamps : List Stamp) (m : Map W N) (ks : Keys) → EachCell (ListsOnly B stamps) m → ListsOnly B stamps (access_of B c m ks)

  abbrev pub UpdateFits : Type 0
  UpdateFits = (c : C) (cap : ℕ) (m : Map W N) (ks : Keys) (x : AbstractCell W N) → HasRoom cap → IsKeyed ks → Fits B c cap m → CellFits B c m.width x → Fits B c cap (update_of B c cap m ks x)

  abbrev pub UpdateLists : Type 0
  UpdateLists = (c : C) (cap : ℕ) (stamps : List Stamp) (m : Map W N) (ks : Keys) (x : AbstractCell W N) → EachCell (ListsOnly B stamps) m → ListsOnly B stamps x
      → EachCell (ListsOnly B stamps) (update_of B c cap m ks x)

  abbrev pub JoinFits : Type 0
  JoinFits = (c : C) (cap : ℕ) (m n : Map W N) → HasRoom cap → Fits B c cap m → Fits B c cap n → m.width ≡ n.width → Fits B c cap (join_of B c cap m n)

  abbrev pub JoinLists : Type 0
  JoinLists = (c : C) (cap : ℕ) (stamps : List Stamp) (m n : Map W N) → EachCell (ListsOnly B stamps) m → EachCell (ListsOnly B stamps) n
      → EachCell (ListsOnly B stamps) (join_of B c cap m n)

  abbrev pub WidenFits : Type 0
  WidenFits = (c : C) (cap : ℕ) (old new : Map W N) → Fits B c cap old → Fits B c cap new → old.width ≡ new.width → Fits B c cap (widen_of B c old new)

  abbrev pub WidenLists : Type 0
  WidenLists = (c : C) (stamps : List Stamp) (old new : Map W N) → EachCell (ListsOnly B stamps) old → EachCell (ListsOnly B stamps) new
      → EachCell (ListsOnly B stamps) (widen_of B c old new)
