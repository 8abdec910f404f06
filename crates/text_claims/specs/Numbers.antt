-- The numbers of claims, in hex digits of either case.
use Rattle.std.specs.Prelude.{ℕ, ◌==◌, nat_le, List, [], ◌∷◌, Option, Some, None, if◌then◌else◌}
use Rattle.state_cell_names.specs.Names.{split_once}
use Rattle.state_cell_text.specs.Digits.{hex_number}

abbrev pub behind_dot : List ℕ → Option ℕ
behind_dot [] = None
behind_dot (b ∷ bytes) = if b == 46 then hex_number 16 bytes else None

abbrev pub in_order : Option ℕ → Option ℕ → Option (ℕ × ℕ)
in_order (Some lo) (Some hi) = if nat_le lo hi then Some (lo, hi) else None
in_order _ _ = None

abbrev pub ends_of : Option (List ℕ × List ℕ) → Option (ℕ × ℕ)
ends_of None = None
ends_of (Some (low, more)) = in_order (hex_number 16 low) (behind_dot more)

-- the ends of `LO..HI`, where LO is at most HI; each has 1 to 16 digits
abbrev pub ends : List ℕ → Option (ℕ × ℕ)
ends text = ends_of (split_once 46 text)
