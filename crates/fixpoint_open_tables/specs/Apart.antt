-- Where two maps of endings differ.
use Rattle.std.specs.Prelude.{◌≡◌, ℕ, min, Option, Some, None}

-- what the first has, the second has too
abbrev pub HasToo : {X : Type 0} → Option X → Option X → Type 0
HasToo None y = Unit {0}
HasToo (Some x) y = y ≡ Some x

-- the lesser of two, or the one that there is
abbrev pub least_of : Option ℕ → Option ℕ → Option ℕ
least_of None y = y
least_of (Some a) None = Some a
least_of (Some a) (Some b) = Some (min a b)
