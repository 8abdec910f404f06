-- Laws of the rule.
use Rattle.std.specs.Prelude.{◌≡◌, ℕ, suc, List}
use Rattle.spec_match_compiler.specs.declared.shape.Shape.{Shape}
use Rattle.spec_match_compiler.specs.Knowledge.{Knowledge, unknown}
use Rattle.spec_match_compiler.specs.Patterns.{Pattern}
use Rattle.spec_match_compiler.specs.Picks.{Row, numbered}
use Rattle.spec_match_compiler.specs.Rule.{IsTree, Fails}
use Rattle.spec_match_compiler.specs.Answers.{tree, fails, deeper, decided, all_sizes}
use Rattle.spec_match_compiler.specs.Shapes.{Types}
use Rattle.spec_match_compiler.specs.Decisions.{Decision}

-- For the rows that are left, by what is known, the rule gives one answer.
pub record IsSettled (types : Types) (rows : List Row) (k : Knowledge) : Type 0 where
  -- one tree at most
  pub one_tree : (t u : Decision) → IsTree types rows k t → IsTree types rows k u → t ≡ u
  -- one example at most
  pub one_example : (p q : Pattern) → Fails types rows k p → Fails types rows k q → p ≡ q
  -- and not both
  pub not_both : (t : Decision) (p : Pattern) → IsTree types rows k t → ¬ Fails types rows k p

-- The rule gives one answer for any types, rows and knowledge.
abbrev pub RuleIsSettled : Type 0
RuleIsSettled = (types : Types) (rows : List Row) (k : Knowledge) → IsSettled types rows k

-- What `decided` gives at any depth is the rule's, and it looks deep enough for all tests of a match.
pub record DecidedIsTheRules : Type 0 where
  pub a_tree : (types : Types) (n : ℕ) (rows : List Row) (k : Knowledge) (t : Decision) → decided types n rows k ≡ tree t → IsTree types rows k t
  pub an_example : (types : Types) (n : ℕ) (rows : List Row) (k : Knowledge) (p : Pattern) → decided types n rows k ≡ fails p → Fails types rows k p
  pub enough : (types : Types) (shape : Shape) (rows : List Pattern) → ¬ decided types (suc (all_sizes rows)) (numbered 0 rows) (unknown shape) ≡ deeper
