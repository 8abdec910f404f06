-- Uses of cells, and which reads they cover.
use Rattle.std.specs.Prelude.{◌≡◌, ℕ, List, [], ◌∷◌, Option, Some, None, ◌⊎◌, ⊤, map}
use Rattle.base_trait.specs.Lists.{IsAmong, IsGrown}
use Rattle.base_trait.specs.declared.uses.Stamp.{Stamp}
use Rattle.base_trait.specs.declared.uses.Use.{Use}
use Rattle.base_trait.specs.declared.uses.Log.{Log}

-- a use: of a map, at a key or, where there is none, at any, of a cell with one of these stamps
pub record Seen : Type 0 where
  pub of_map : ℕ
  pub key : Option ℕ
  pub stamps : List Stamp

-- what a `Use` says
abbrev pub seen : Use → Seen
seen u = record { of_map = u.map; key = u.key; stamps = u.from.items }

-- what a `Log` says
abbrev pub uses_of : Log → List Seen
uses_of log = map seen log.uses.items

-- a read of the cell of a map at a key, which has a stamp
pub record Read : Type 0 where
  pub of_map : ℕ
  pub key : ℕ
  pub stamp : Stamp

-- the key is the one that is named, if one is
abbrev pub IsKey : Option ℕ → ℕ → Type 0
IsKey None k = ⊤
IsKey (Some named) k = named ≡ k

-- a use covers a read of its map at its key, where it lists the stamp
pub record Covers (u : Seen) (r : Read) : Type 0 where
  pub of_map : u.of_map ≡ r.of_map
  pub key : IsKey u.key r.key
  pub stamp : IsAmong r.stamp u.stamps

-- one of the uses covers the read
abbrev pub AreCovering : List Seen → Read → Type 0
AreCovering [] r = ⊥
AreCovering (u ∷ us) r = Covers u r ⊎ AreCovering us r

-- What a log covers it covers as it grows.
abbrev pub GrownLogsCover : Type 0
GrownLogsCover = (old new : List Seen) (r : Read) → IsGrown old new → AreCovering old r → AreCovering new r
