-- Maps before there is room for their cells.
use Rattle.std.specs.Prelude.{◌^◌, ◌<◌}
use Rattle.word_operations.specs.Width.{IsWidth}
use Rattle.base_trait.specs.Algebra.{Algebra}
use Rattle.base_trait.specs.Lists.{Each, IsAscending}
use Rattle.abstract_map_laws.specs.Cells.{CellFits}
use Rattle.abstract_map_laws.specs.Maps.{Map, EachCell, keys}

-- the map fits, but may list more cells than there is room for
pub record FitsUnfolded {W N C : Type 0} (B : Algebra W N C) (c : C) (m : Map W N) : Type 0 where
  pub width : IsWidth m.width
  pub cells : EachCell (CellFits B c m.width) m
  pub order : IsAscending (keys m)
  pub bound : Each (λ k. k < 2 ^ 32) (keys m)
