-- A pattern as plain data.
use Rattle.std.specs.Prelude.{ℕ, suc, Bool, List, [], ◌∷◌}

mutual
  pub data Pattern : Type 0 where
    any : Pattern
    bind : ℕ → Pattern
    flag_is : Bool → Pattern
    word_is : ℕ → Pattern
    case_is : ℕ → Patterns → Pattern

  pub data Patterns : Type 0 where
    no_pat : Patterns
    pat_then : Pattern → Patterns → Patterns

abbrev pub pats : List Pattern → Patterns
pats [] = no_pat
pats (p ∷ ps) = pat_then p (pats ps)

-- how many there are
abbrev pub pats_len : Patterns → ℕ
pats_len no_pat = 0
pats_len (pat_then p ps) = suc (pats_len ps)
