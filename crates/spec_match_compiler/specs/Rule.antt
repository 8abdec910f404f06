-- The rule by which rows become a decision tree.
use Rattle.std.specs.Prelude.{◌≡◌, ℕ, zero, suc, ◌+◌, ◌^◌, ◌==◌, nat_lt, nat_le, Bool, true, false, not, ◌&&◌, Option, Some, None, List, [], ◌∷◌, ◌++◌, length, filter, option_map, if◌then◌else◌}
use Rattle.spec_match_compiler.specs.declared.shape.Shape.{Shape}
use Rattle.spec_match_compiler.specs.declared.shape.Shape.TheVariants.{Bool as Flag, Word, Data}
use Rattle.std.specs.List.{list_any}
use Rattle.spec_match_compiler.specs.Values.{Place}
use Rattle.spec_match_compiler.specs.Patterns.{Pattern, Patterns, any, flag_is, word_is, case_is, no_pat, pat_then}
use Rattle.spec_match_compiler.specs.Shapes.{Types, cases_of}
use Rattle.spec_match_compiler.specs.Meets.{same_flag, bindings}
use Rattle.spec_match_compiler.specs.Picks.{Row}
use Rattle.spec_match_compiler.specs.Decisions.{Decision, Decisions, row, on_case, on_word, on_flag, no_tree, tree_then}
use Rattle.spec_match_compiler.specs.Knowledge.{Knowledge, Parts, unknown, flag_known, word_known, others, case_known, no_part, part_then, unknowns, put}

abbrev pub is_among : ℕ → List ℕ → Bool
is_among n ns = list_any (λ m. m == n) ns

abbrev mutual
  -- whether a pattern can still match
  pub can_match : Pattern → Knowledge → Bool
  can_match (flag_is b) (flag_known c) = same_flag b c
  can_match (word_is n) (word_known m) = n == m
  can_match (word_is n) (others w ns) = not (is_among n ns)
  can_match (case_is c ps) (case_known d ks) = c == d && all_can_match ps ks
  can_match _ _ = true

  pub all_can_match : Patterns → Parts → Bool
  all_can_match (pat_then p ps) (part_then k ks) = can_match p k && all_can_match ps ks
  all_can_match _ _ = true

-- What a test asks of the value at a place.
pub data Test : Type 0 where
  -- whether it is true
  flag_test : Test
  -- whether it is the last number, where it has this width and is none of those tested before
  word_test : ℕ → List ℕ → ℕ → Test
  -- which constructor of this type it has
  case_test : ℕ → Test

-- the test that a pattern asks for where it stands, if what is known there doesn't settle it
abbrev pub test_here : Pattern → Knowledge → Option Test
test_here (flag_is b) (unknown Flag) = Some flag_test
test_here (word_is n) (unknown (Word w)) = Some (word_test w [] n)
test_here (word_is n) (others w ns) = if nat_lt (length ns + 1) (2 ^ w) then Some (word_test w ns n) else None
test_here (case_is c ps) (unknown (Data t)) = Some (case_test t)
test_here _ _ = None

-- a place, and a test there
abbrev pub PendingTest : Type 0
PendingTest = Place × Test

-- a place in field i of constructor c
abbrev pub below : ℕ → ℕ → PendingTest → PendingTest
below c i found = ((c, i) ∷ found.0, found.1)

-- the outermost of two, and of equally deep ones the left
abbrev pub outermost : Option PendingTest → Option PendingTest → Option PendingTest
outermost None y = y
outermost (Some x) None = Some x
outermost (Some x) (Some y) = if nat_le (length x.0) (length y.0) then Some x else Some y

abbrev mutual
  -- the first position of a pattern that is still to be tested, outermost first, then from left to
  -- right, and its test
  pub first_test : Pattern → Knowledge → Option PendingTest
  first_test (case_is c ps) (case_known d ks) = first_below None d 0 ps ks
  first_test p k = option_map (λ test. ([], test)) (test_here p k)

  -- the first of `best` and those in the fields of constructor c from field i on
  pub first_below : Option PendingTest → ℕ → ℕ → Patterns → Parts → Option PendingTest
  first_below best c i (pat_then p ps) (part_then k ks) =
      first_below (outermost best (option_map (below c i) (first_test p k))) c (i + 1) ps ks
  first_below best c i _ _ = best

-- constructors from number c on, as known
abbrev pub made_known : ℕ → List (List Shape) → List Knowledge
made_known c [] = []
made_known c (fields ∷ cases) = case_known c (unknowns fields) ∷ made_known (c + 1) cases

-- what a test may show at its place, in order
abbrev pub outcomes : Types → Test → List Knowledge
outcomes types flag_test = flag_known true ∷ (flag_known false ∷ [])
outcomes types (word_test w ns n) = word_known n ∷ (others w (ns ++ n ∷ []) ∷ [])
outcomes types (case_test t) = made_known 0 (cases_of types t)

-- the rows that can still match, in their order
abbrev pub still : List Row → Knowledge → List Row
still rows k = filter (λ r. can_match r.1 k) rows

-- the least number from n on that isn't among ns, or n + fuel
abbrev pub least_from : ℕ → ℕ → List ℕ → ℕ
least_from zero n ns = n
least_from (suc fuel) n ns = if is_among n ns then least_from fuel (n + 1) ns else n

-- the least number that isn't among ns
abbrev pub least_other : List ℕ → ℕ
least_other ns = least_from (length ns) 0 ns

abbrev mutual
  -- what is known, as a pattern
  pub example : Knowledge → Pattern
  example (unknown s) = any
  example (flag_known b) = flag_is b
  example (word_known n) = word_is n
  example (others w ns) = word_is (least_other ns)
  example (case_known c ks) = case_is c (examples ks)

  pub examples : Parts → Patterns
  examples no_part = no_pat
  examples (part_then k ks) = pat_then (example k) (examples ks)

module _ (types : Types) where
  abbrev mutual
    -- The tree of the rule, for the rows that are left, by what is known.
    pub IsTree : List Row → Knowledge → Decision → Type 0
    IsTree [] k t = ⊥
    IsTree (first ∷ rest) k (row r binds) =
        (first_test first.1 k ≡ None) × (r ≡ first.0) × (binds ≡ bindings [] first.1)
    IsTree (first ∷ rest) k (on_flag at a b) =
        (first_test first.1 k ≡ Some (at, flag_test))
        × IsTree (still (first ∷ rest) (put k at (flag_known true))) (put k at (flag_known true)) a
        × IsTree (still (first ∷ rest) (put k at (flag_known false))) (put k at (flag_known false)) b
    IsTree (first ∷ rest) k (on_word at n a b) = (w : ℕ) × (ns : List ℕ)
        × (first_test first.1 k ≡ Some (at, word_test w ns n))
        × IsTree (still (first ∷ rest) (put k at (word_known n))) (put k at (word_known n)) a
        × IsTree (still (first ∷ rest) (put k at (others w (ns ++ n ∷ [])))) (put k at (others w (ns ++ n ∷ []))) b
    IsTree (first ∷ rest) k (on_case at arms) = (t : ℕ)
        × (first_test first.1 k ≡ Some (at, case_test t))
        × AreTrees (first ∷ rest) k at (made_known 0 (cases_of types t)) arms

    -- the trees for what a test at a place may show
    pub AreTrees : List Row → Knowledge → Place → List Knowledge → Decisions → Type 0
    AreTrees rows k at [] no_tree = Unit {0}
    AreTrees rows k at (there ∷ later) (tree_then t ts) =
        IsTree (still rows (put k at there)) (put k at there) t × AreTrees rows k at later ts
    AreTrees rows k at _ _ = ⊥

  -- The example of the first failure, for the rows that are left, by what is known.
  pub data Fails : List Row → Knowledge → Pattern → Type 0 where
    -- no row is left
    no_row : (k : Knowledge) → Fails [] k (example k)
    -- a test may show what no row is left for, and nothing that it may show earlier fails
    after_test : (first : Row) (rest : List Row) (k there : Knowledge) (at : Place) (test : Test) (earlier later : List Knowledge) (ts : Decisions) (p : Pattern)
        → first_test first.1 k ≡ Some (at, test)
        → outcomes types test ≡ earlier ++ there ∷ later
        → AreTrees (first ∷ rest) k at earlier ts
        → Fails (still (first ∷ rest) (put k at there)) (put k at there) p
        → Fails (first ∷ rest) k p
