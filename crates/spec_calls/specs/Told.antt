-- What a table of which functions reach which tells: calls within a group outside tail position, and groups.
use Rattle.std.specs.Prelude.{◌≡◌, ℕ, ◌+◌, Bool, not, ◌&&◌, Option, Some, None, List, [], ◌∷◌, length, slice_get, if◌then◌else◌}
use Rattle.std.specs.List.{list_any}
use Rattle.support_reachability.specs.Table.{same_group, group, says}
use Rattle.spec_calls.specs.declared.call.Call.{Call}
use Rattle.spec_calls.specs.declared.group.Group.{Group}

-- whether one of the calls of function f is of its own group and outside tail position
abbrev pub calls_inside : List (List Bool) → ℕ → List Call → Bool
calls_inside t f cs = list_any (λ c. not c.tail && same_group t f c.fun) cs

-- the first function that has such a call, by the calls of each from function n on
abbrev pub first_inside : List (List Bool) → ℕ → List (List Call) → Option ℕ
first_inside t n [] = None
first_inside t n (cs ∷ rest) = if calls_inside t n cs then Some n else first_inside t (n + 1) rest

-- The groups of n functions, as the table tells them.
pub record AreTold (t : List (List Bool)) (n : ℕ) (groups : List Group) : Type 0 where
  pub all : length groups ≡ n
  pub each : (f : ℕ) (g : Group) → slice_get groups f ≡ Some g → (g.number ≡ group t f) × (g.loops ≡ says t f f)
