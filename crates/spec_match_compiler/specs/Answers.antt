-- What a match leads to, as a function: the decision of the rule, the example that no row takes, or
-- a row of no use.
use Rattle.std.specs.Prelude.{ℕ, zero, suc, ◌+◌, Option, Some, None, List, [], ◌∷◌, ◌++◌, length, if◌then◌else◌}
use Rattle.spec_match_compiler.specs.declared.shape.Shape.{Shape}
use Rattle.spec_match_compiler.specs.Values.{Place}
use Rattle.spec_match_compiler.specs.Patterns.{Pattern, Patterns, any, flag_is, word_is, case_is, no_pat, pat_then}
use Rattle.spec_match_compiler.specs.Shapes.{Types}
use Rattle.spec_match_compiler.specs.Meets.{bindings}
use Rattle.spec_match_compiler.specs.Picks.{Row, numbered}
use Rattle.spec_match_compiler.specs.Decisions.{Decision, trees, row, on_case, on_word, on_flag}
use Rattle.spec_match_compiler.specs.Knowledge.{Knowledge, unknown, put}
use Rattle.spec_match_compiler.specs.Rule.{Test, PendingTest, flag_test, word_test, case_test, first_test, outcomes, still, example}
use Rattle.spec_match_compiler.specs.Names.{names}

-- a tree, the example of the first failure, or more tests than were looked at
pub data Decided : Type 0 where
  tree : Decision → Decided
  fails : Pattern → Decided
  deeper : Decided

pub data Arms : Type 0 where
  made : List Decision → Arms
  missing : Pattern → Arms
  cut : Arms

abbrev pub arm_before : Decided → Arms → Arms
arm_before (fails p) rest = missing p
arm_before deeper rest = cut
arm_before (tree t) (missing p) = missing p
arm_before (tree t) cut = cut
arm_before (tree t) (made ts) = made (t ∷ ts)

abbrev pub all_arms : (Knowledge → Decided) → List Knowledge → Arms
all_arms f [] = made []
all_arms f (k ∷ ks) = arm_before (f k) (all_arms f ks)

abbrev pub node : Place → Test → List Decision → Decided
node at (word_test w ns n) (a ∷ (b ∷ [])) = tree (on_word at n a b)
node at flag_test (a ∷ (b ∷ [])) = tree (on_flag at a b)
node at (case_test t) ts = tree (on_case at (trees ts))
node at _ _ = deeper

abbrev pub tested : Place → Test → Arms → Decided
tested at test (missing p) = fails p
tested at test cut = deeper
tested at test (made ts) = node at test ts

-- what is next for the rows that are left, where `go` is what follows
abbrev pub next : Types → (List Row → Knowledge → Decided) → List Row → Knowledge → Option PendingTest → Decided
next types go [] k test = fails (example k)
next types go (first ∷ rest) k None = tree (row first.0 (bindings [] first.1))
next types go (first ∷ rest) k (Some found) =
    tested found.0 found.1 (all_arms (λ there. go (still (first ∷ rest) (put k found.0 there)) (put k found.0 there)) (outcomes types found.1))

abbrev pub test_of : List Row → Knowledge → Option PendingTest
test_of [] k = None
test_of (first ∷ rest) k = first_test first.1 k

-- the rule, to a depth of n tests
unfoldable pub decided : Types → ℕ → List Row → Knowledge → Decided
decided types zero rows k = deeper
decided types (suc n) rows k = next types (decided types n) rows k (test_of rows k)

-- What a match leads to.
pub data MatchAnswer : Type 0 where
  decision : Decision → MatchAnswer
  not_exhaustive : Pattern → MatchAnswer
  useless : ℕ → MatchAnswer

-- the first of n rows from r on that a tree doesn't name
abbrev pub first_unnamed : Decision → ℕ → ℕ → Option ℕ
first_unnamed t r zero = None
first_unnamed t r (suc n) = if names t r then first_unnamed t (r + 1) n else Some r

abbrev pub with_rows : Decision → Option ℕ → MatchAnswer
with_rows t None = decision t
with_rows t (Some r) = useless r

abbrev pub answer_by : Decided → ℕ → MatchAnswer
answer_by (fails p) n = not_exhaustive p
answer_by deeper n = not_exhaustive any
answer_by (tree t) n = with_rows t (first_unnamed t 0 n)

abbrev mutual
  -- how many positions of a pattern may be tested
  pub size : Pattern → ℕ
  size (flag_is b) = 1
  size (word_is n) = 1
  size (case_is c ps) = suc (sizes ps)
  size _ = 0

  pub sizes : Patterns → ℕ
  sizes no_pat = 0
  sizes (pat_then p ps) = size p + sizes ps

-- how many positions of rows may be tested: each test is one of them
abbrev pub all_sizes : List Pattern → ℕ
all_sizes [] = 0
all_sizes (p ∷ rows) = size p + all_sizes rows

unfoldable pub match_answer : Types → Shape → List Pattern → MatchAnswer
match_answer types shape rows = answer_by (decided types (suc (all_sizes rows)) (numbered 0 rows) (unknown shape)) (length rows)
