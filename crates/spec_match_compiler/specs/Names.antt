-- Which rows a tree names.
use Rattle.std.specs.Prelude.{ℕ, Bool, false, ◌||◌, ◌==◌}
use Rattle.spec_match_compiler.specs.Decisions.{Decision, Decisions, row, on_case, on_word, on_flag, no_tree, tree_then}

abbrev mutual
  -- whether a tree may choose row r
  pub names : Decision → ℕ → Bool
  names (row n binds) r = n == r
  names (on_case at arms) r = some_names arms r
  names (on_word at n a b) r = names a r || names b r
  names (on_flag at a b) r = names a r || names b r

  pub some_names : Decisions → ℕ → Bool
  some_names no_tree r = false
  some_names (tree_then t ts) r = names t r || some_names ts r
