-- Tables that are alike.
use Rattle.std.specs.Prelude.{◌≡◌, ◌<◌, ℕ, IsSome, Option, Some, None}
use Rattle.fixpoint_theory.specs.Elements.{Elements}
use Rattle.fixpoint_theory.specs.Table.{Listing, Listings}
use Rattle.fixpoint_open_tables.specs.Endings.{Endings}

module _ {E S : Type 0} (D : Elements E S) where
  -- The same is listed, up to how elements are written.
  pub record IsSameListing (b c : Listing E) : Type 0 where
    pub elem : D.same b.elem c.elem
    pub next : b.next ≡ c.next
    pub exits : b.exits ≡ c.exits
    pub uses : b.uses ≡ c.uses

  abbrev pub AreAlikeAt : Option (Listing E) → Option (Listing E) → Type 0
  AreAlikeAt None None = Unit {0}
  AreAlikeAt (Some b) (Some c) = IsSameListing b c
  AreAlikeAt _ _ = ⊥

  -- at each address
  abbrev pub AreAlike : Listings E → Listings E → Type 0
  AreAlike t u = (at : ℕ) → AreAlikeAt (t at) (u at)

-- The first address whose block is left open.
pub record IsFirstOpen {W : Type 0} (ends : Endings W) (at : ℕ) : Type 0 where
  pub is_open : IsSome (ends at)
  pub least : (a : ℕ) → a < at → ends a ≡ None
