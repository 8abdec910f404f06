-- When a value meets a pattern, and what its variables name.
use Rattle.std.specs.Prelude.{ℕ, ◌+◌, Bool, true, false, not, ◌&&◌, ◌==◌, List, [], ◌∷◌, ◌++◌}
use Rattle.spec_match_compiler.specs.Values.{Value, Values, Place, flag, word, made, no_value, value_then}
use Rattle.spec_match_compiler.specs.Patterns.{Pattern, Patterns, any, bind, flag_is, word_is, case_is, no_pat, pat_then}

-- whether two truth values are the same
abbrev pub same_flag : Bool → Bool → Bool
same_flag true b = b
same_flag false b = not b

abbrev mutual
  pub meets : Pattern → Value → Bool
  meets any v = true
  meets (bind n) v = true
  meets (flag_is b) (flag c) = same_flag b c
  meets (word_is n) (word m) = n == m
  meets (case_is c ps) (made d vs) = c == d && all_meet ps vs
  meets _ _ = false

  pub all_meet : Patterns → Values → Bool
  all_meet no_pat no_value = true
  all_meet (pat_then p ps) (value_then v vs) = meets p v && all_meet ps vs
  all_meet _ _ = false

abbrev mutual
  -- the variables of a pattern that stands at a place, each with the place that it names
  pub bindings : Place → Pattern → List (ℕ × Place)
  bindings at (bind n) = (n, at) ∷ []
  bindings at (case_is c ps) = part_bindings at c 0 ps
  bindings at _ = []

  -- those of the fields of constructor c, from field i on
  pub part_bindings : Place → ℕ → ℕ → Patterns → List (ℕ × Place)
  part_bindings at c i no_pat = []
  part_bindings at c i (pat_then p ps) = bindings (at ++ (c, i) ∷ []) p ++ part_bindings at c (i + 1) ps
