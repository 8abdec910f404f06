-- What is known of a value after some tests, as plain data.
use Rattle.std.specs.Prelude.{ℕ, zero, suc, Bool, List, [], ◌∷◌, map}
use Rattle.spec_match_compiler.specs.declared.shape.Shape.{Shape}
use Rattle.spec_match_compiler.specs.Values.{Place}

mutual
  pub data Knowledge : Type 0 where
    -- its shape alone
    unknown : Shape → Knowledge
    -- the truth value that it is
    flag_known : Bool → Knowledge
    -- the number that it is
    word_known : ℕ → Knowledge
    -- the numbers that it isn't, of its width, in the order in which they were tested
    others : ℕ → List ℕ → Knowledge
    -- its constructor, and what is known of the fields
    case_known : ℕ → Parts → Knowledge

  pub data Parts : Type 0 where
    no_part : Parts
    part_then : Knowledge → Parts → Parts

abbrev pub parts : List Knowledge → Parts
parts [] = no_part
parts (k ∷ ks) = part_then k (parts ks)

-- fields of which the shapes alone are known
abbrev pub unknowns : List Shape → Parts
unknowns shapes = parts (map unknown shapes)

abbrev mutual
  -- what is known once `there` is known at a place
  pub put : Knowledge → Place → Knowledge → Knowledge
  put k [] there = there
  put (case_known c ks) (step ∷ place) there = case_known c (put_part ks step.1 place there)
  put k (step ∷ place) there = k

  pub put_part : Parts → ℕ → Place → Knowledge → Parts
  put_part no_part i place there = no_part
  put_part (part_then k ks) zero place there = part_then (put k place there) ks
  put_part (part_then k ks) (suc i) place there = part_then k (put_part ks i place there)
