-- Maps as plain data: the width of the words, the cell of each listed key, ascending, and the rest.
use Rattle.std.specs.Prelude.{◌≡◌, ℕ, ◌^◌, ◌<◌, ◌≤◌, ◌==◌, false, List, [], ◌∷◌, map, length, ◌⊎◌, IsTrue, if◌then◌else◌, ⊤}
use Rattle.word_operations.specs.Width.{IsWidth}
use Rattle.base_trait.specs.Algebra.{Algebra}
use Rattle.base_trait.specs.Lists.{IsAmong, Each, IsAscending}
use Rattle.abstract_map_laws.specs.declared.cell.AbstractCell.{AbstractCell}
use Rattle.abstract_map_laws.specs.Cells.{Held, CellDescribes, CellFits}
use Rattle.abstract_map_laws.specs.Keys.{Keys, one, some}

pub record Map (W N : Type 0) : Type 0 where
  pub width : ℕ
  pub rest : AbstractCell W N
  pub cells : List (ℕ × AbstractCell W N)

module _ {W N : Type 0} where
  -- the listed keys
  abbrev pub keys : Map W N → List ℕ
  keys m = map (λ e. e.0) m.cells

  -- the cell at a key among listed ones, else the rest
  abbrev pub cell_in : AbstractCell W N → List (ℕ × AbstractCell W N) → ℕ → AbstractCell W N
  cell_in rest [] k = rest
  cell_in rest (e ∷ es) k = if e.0 == k then e.1 else cell_in rest es k

  -- the cell at a key
  abbrev pub cell : Map W N → ℕ → AbstractCell W N
  cell m = cell_in m.rest m.cells

  -- listed cells by their keys
  abbrev pub cells_at : List ℕ → (ℕ → AbstractCell W N) → List (ℕ × AbstractCell W N)
  cells_at ks f = map (λ k. (k, f k)) ks

  -- P holds of the rest and of each listed cell
  abbrev pub EachCell : (AbstractCell W N → Type 0) → Map W N → Type 0
  EachCell P m = P m.rest × Each (λ e. P e.1) m.cells

  -- in the map, the key is one that may be meant
  abbrev pub MayBe : Map W N → Keys → ℕ → Type 0
  MayBe m (one j) k = k ≡ j
  MayBe m (some ks all_listed) k = IsAmong k ks ⊎ ((all_listed ≡ false) × (IsAmong k (keys m) → ⊥))

  -- the keys that are named among several are listed ones
  abbrev pub AreListed : Map W N → Keys → Type 0
  AreListed m (one k) = ⊤
  AreListed m (some ks all_listed) = Each (λ k. IsAmong k (keys m)) ks

module _ {W N C : Type 0} (B : Algebra W N C) where
  -- the map describes a concrete one, given by its cell at each key
  abbrev pub Describes : List ℕ → (ℕ → Held) → Map W N → Type 0
  Describes valuation f m = (k : ℕ) → CellDescribes B valuation m.width (f k) (cell m k)

  -- words fit the width, keys ascend below 2^32, and at most cap are listed
  pub record Fits (c : C) (cap : ℕ) (m : Map W N) : Type 0 where
    pub width : IsWidth m.width
    pub cells : EachCell (CellFits B c m.width) m
    pub order : IsAscending (keys m)
    pub bound : Each (λ k. k < 2 ^ 32) (keys m)
    pub few : length m.cells ≤ cap

  -- where the key is one, or the base joins
  abbrev pub MayUse : Keys → Type 0
  MayUse (one k) = ⊤
  MayUse (some ks all_listed) = IsTrue B.joins
