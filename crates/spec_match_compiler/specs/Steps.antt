-- Steps of the compilation: what a test asks of the rows that are left, and what its answers lead to.
use Rattle.std.specs.Prelude.{◌≡◌, ℕ, Some, List, [], ◌∷◌, ◌++◌, map}
use Rattle.spec_match_compiler.specs.declared.step.RowStep.{RowStep}
use Rattle.spec_match_compiler.specs.declared.step.RowStep.TheVariants.{Settled, Asked}
use Rattle.spec_match_compiler.specs.Values.{Place}
use Rattle.spec_match_compiler.specs.Shapes.{Types}
use Rattle.spec_match_compiler.specs.Picks.{Row}
use Rattle.spec_match_compiler.specs.Decisions.{Decision, on_word}
use Rattle.spec_match_compiler.specs.Knowledge.{Knowledge, word_known, others, put}
use Rattle.spec_match_compiler.specs.Rule.{Test, word_test, first_test, outcomes, still, IsTree}
use Rattle.spec_match_compiler.specs.Views.{tree, knowledge, candidate}

-- The tree that asks whether words at places are numbers, in this order, each with what follows
-- where it is, and is t where none is.
abbrev pub asked_first : List (Place × ℕ × Decision) → Decision → Decision
asked_first [] t = t
asked_first (q ∷ questions) t = on_word q.0 q.1 q.2 (asked_first questions t)

-- The first row asks for this test first.
abbrev pub AsksFirst : List Row → Knowledge → Place → Test → Type 0
AsksFirst [] k at test = ⊥
AsksFirst (first ∷ rest) k at test = first_test first.1 k ≡ Some (at, test)

module _ (types : Types) (rows : List Row) (k : Knowledge) where
  -- The test that the first row asks for first may show this.
  abbrev pub MayShow : Place → Knowledge → Type 0
  MayShow at there = (test : Test) × (earlier : List Knowledge) × (later : List Knowledge)
      × AsksFirst rows k at test
      × (outcomes types test ≡ earlier ++ there ∷ later)

  -- The test that the first row asks for first may show these, in this order.
  abbrev pub AsksFor : Place → List Knowledge → Type 0
  AsksFor at shown = (test : Test) × AsksFirst rows k at test × (shown ≡ outcomes types test)

  -- The first row asks first whether the word at a place is n, and the test may show these.
  abbrev pub AsksWord : Place → ℕ → List Knowledge → Type 0
  AsksWord at n shown = (w : ℕ) × (ns : List ℕ)
      × AsksFirst rows k at (word_test w ns n)
      × (shown ≡ word_known n ∷ (others w (ns ++ n ∷ []) ∷ []))

  -- What the first row leads to by the rule.
  abbrev pub IsStep : RowStep → Type 0
  IsStep (Settled d) = IsTree types rows k (tree d)
  IsStep (Asked q left known) = (w : ℕ) × (ns : List ℕ)
      × AsksFirst rows k q.at.steps.items (word_test w ns q.value)
      × IsTree types (still rows (put k q.at.steps.items (word_known q.value))) (put k q.at.steps.items (word_known q.value)) (tree q.yes)
      × (knowledge known ≡ put k q.at.steps.items (others w (ns ++ q.value ∷ [])))
      × (map candidate left.items ≡ still rows (knowledge known))
