-- The values that are matched.
use Rattle.std.specs.Prelude.{ℕ, zero, suc, Bool, Option, Some, None, List, [], ◌∷◌, ◌==◌, if◌then◌else◌}

mutual
  pub data Value : Type 0 where
    flag : Bool → Value
    word : ℕ → Value
    -- a constructor by its number, with its fields
    made : ℕ → Values → Value
    -- what no pattern looks into
    thing : ℕ → Value

  pub data Values : Type 0 where
    no_value : Values
    value_then : Value → Values → Values

-- A place in a value: constructors and fields of them, from the outermost.
abbrev pub Place : Type 0
Place = List (ℕ × ℕ)

abbrev mutual
  -- the value at a place
  pub value_at : Value → Place → Option Value
  value_at v [] = Some v
  value_at (made c vs) (step ∷ place) = if c == step.0 then part_at vs step.1 place else None
  value_at _ _ = None

  -- the value at a place of field i
  pub part_at : Values → ℕ → Place → Option Value
  part_at (value_then v vs) zero place = value_at v place
  part_at (value_then v vs) (suc i) place = part_at vs i place
  part_at no_value i place = None
