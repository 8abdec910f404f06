-- How many variables a decision names for each row.
use Rattle.std.specs.Prelude.{◌≡◌, ℕ, ◌<◌, List, Option, None, length, slice_index_or}
use Rattle.spec_match_compiler.specs.Decisions.{Decision}
use Rattle.eval_code.specs.Lowered.{named_first}

-- These are the numbers of the rows below a number, none where the decision does not pick the row.
pub record AreNamed (count : ℕ) (by : Decision) (named : List (Option ℕ)) : Type 0 where
  pub long : length named ≡ count
  pub each : (r : ℕ) → r < count → slice_index_or named r None ≡ named_first r by
