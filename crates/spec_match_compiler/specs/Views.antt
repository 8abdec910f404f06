-- What the types of the crate are as plain data.
use Rattle.std.specs.Prelude.{ℕ, map}
use Rattle.spec_match_compiler.specs.declared.shape.Sig.{Sig}
use Rattle.spec_match_compiler.specs.declared.pattern.Pattern.{Pattern, fold-Pattern}
use Rattle.spec_match_compiler.specs.declared.pattern.Pattern.TheOpen.{Pattern-F}
use Rattle.spec_match_compiler.specs.declared.decision.Path.{Path}
use Rattle.spec_match_compiler.specs.declared.decision.Decision.{Decision, fold-Decision}
use Rattle.spec_match_compiler.specs.declared.decision.Decision.TheOpen.{Decision-F}
use Rattle.spec_match_compiler.specs.declared.knowledge.Knowledge.{Knowledge, fold-Knowledge}
use Rattle.spec_match_compiler.specs.declared.knowledge.Knowledge.TheOpen.{Knowledge-F}
use Rattle.spec_match_compiler.specs.declared.knowledge.Test.{Test}
use Rattle.spec_match_compiler.specs.declared.knowledge.Test.TheVariants.{Flag, Word, Case}
use Rattle.spec_match_compiler.specs.declared.knowledge.PendingTest.{PendingTest}
use Rattle.spec_match_compiler.specs.declared.candidate.Candidate.{Candidate}
use Rattle.spec_match_compiler.specs.declared.step.Question.{Question}
use Rattle.spec_match_compiler.specs.Values.{Place}
use Rattle.spec_match_compiler.specs.Picks.{Row}
use Rattle.spec_match_compiler.specs.Rule.{Test as Asked, PendingTest as FoundAt, flag_test, word_test, case_test}
use Rattle.spec_match_compiler.specs.Shapes.{Types}
use Rattle.spec_match_compiler.specs.Patterns as plain_patterns
use Rattle.spec_match_compiler.specs.Patterns.{pats, any, bind, flag_is, word_is, case_is}
use Rattle.spec_match_compiler.specs.Decisions as plain_decisions
use Rattle.spec_match_compiler.specs.Decisions.{trees, row, on_case, on_word, on_flag}
use Rattle.spec_match_compiler.specs.Knowledge as plain_knowledge
use Rattle.spec_match_compiler.specs.Knowledge.{parts, unknown, flag_known, word_known, others, case_known}

abbrev pub types : Sig → Types
types sig = map (λ cases. map (λ fields. fields.items) cases.items) sig.datas.items

abbrev pub pattern_step : Pattern-F plain_patterns.Pattern → plain_patterns.Pattern
pattern_step Pattern-F.Any = any
pattern_step (Pattern-F.Bind n) = bind n
pattern_step (Pattern-F.Flag b) = flag_is b
pattern_step (Pattern-F.Word n) = word_is n
pattern_step (Pattern-F.Case c ps) = case_is c (pats ps.items)

abbrev pub pat : Pattern → plain_patterns.Pattern
pat = fold-Pattern plain_patterns.Pattern pattern_step

-- a variable and the place that it names
abbrev pub bound : ℕ × Path → ℕ × Place
bound b = (b.0, b.1.steps.items)

abbrev pub decision_step : Decision-F plain_decisions.Decision → plain_decisions.Decision
decision_step (Decision-F.Row r binds) = row r (map bound binds.items)
decision_step (Decision-F.OnCase at arms) = on_case at.steps.items (trees arms.items)
decision_step (Decision-F.OnWord at n a b) = on_word at.steps.items n a.value b.value
decision_step (Decision-F.OnFlag at a b) = on_flag at.steps.items a.value b.value

abbrev pub tree : Decision → plain_decisions.Decision
tree = fold-Decision plain_decisions.Decision decision_step

abbrev pub known_step : Knowledge-F plain_knowledge.Knowledge → plain_knowledge.Knowledge
known_step (Knowledge-F.Unknown s) = unknown s
known_step (Knowledge-F.Flag b) = flag_known b
known_step (Knowledge-F.Word n) = word_known n
known_step (Knowledge-F.Others w ns) = others w ns.items
known_step (Knowledge-F.Made c ks) = case_known c (parts ks.items)

abbrev pub knowledge : Knowledge → plain_knowledge.Knowledge
knowledge = fold-Knowledge plain_knowledge.Knowledge known_step

abbrev pub test : Test → Asked
test Flag = flag_test
test (Word w ns n) = word_test w ns.items n
test (Case t) = case_test t

abbrev pub found : PendingTest → FoundAt
found f = (f.at.items, test f.test)

abbrev pub candidate : Candidate → Row
candidate r = (r.number, pat r.pattern.now)

-- the place, the number, and what follows where it is there
abbrev pub question : Question → Place × ℕ × plain_decisions.Decision
question q = (q.at.steps.items, q.value, tree q.yes)
