-- Maps of bytes.
use Rattle.std.specs.Prelude.{◌≡◌, ℕ}
use Rattle.base_trait.specs.Algebra.{Algebra}
use Rattle.abstract_map_laws.specs.Maps.{Map, Fits}

-- a map that fits, of words of eight bits
pub record IsOfBytes {W N C : Type 0} (B : Algebra W N C) (c : C) (cap : ℕ) (m : Map W N) : Type 0 where
  pub fits : Fits B c cap m
  pub width : m.width ≡ 8
