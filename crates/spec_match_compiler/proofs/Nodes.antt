-- The trees of a test's answers, together.
use Rattle.std.proofs.Common.{◌≡◌, ℕ, suc, List, [], ◌∷◌, ◌++◌, length, refl, ap}
use Rattle.spec_match_compiler.specs.declared.match_error.MatchError.{MatchError}
use Rattle.spec_match_compiler.specs.declared.match_error.MatchError.TheVariants.{NotExhaustive, Useless, NoMemory}
use Rattle.spec_match_compiler.specs.Values.{Place}
use Rattle.spec_match_compiler.specs.Shapes.{Types}
use Rattle.spec_match_compiler.specs.Picks.{Row}
use Rattle.spec_match_compiler.specs.Decisions.{Decision, Decisions, trees, on_case, on_word, on_flag}
use Rattle.spec_match_compiler.specs.Knowledge.{Knowledge, word_known, others, put}
use Rattle.spec_match_compiler.specs.Rule.{Test, flag_test, word_test, case_test, still, outcomes, IsTree, AreTrees, after_test}
use Rattle.spec_match_compiler.specs.Steps.{AsksFirst, asked_first}
use Rattle.spec_match_compiler.specs.Refusals.{FailsWith}
use Rattle.spec_match_compiler.specs.Views.{pat}

-- one more question
pub asked_last : (questions : List (Place × ℕ × Decision)) (q : Place × ℕ × Decision) (t : Decision) → asked_first (questions ++ q ∷ []) t ≡ asked_first questions (on_word q.0 q.1 q.2 t)
asked_last [] q t = refl
asked_last (p ∷ questions) q t = ap (on_word p.0 p.1 p.2) (asked_last questions q t)

module _ (types : Types) where
  pub more_trees : (rows : List Row) (k : Knowledge) (at : Place) (os : List Knowledge) (ts : List Decision) (o : Knowledge) (t : Decision)
      → AreTrees types rows k at os (trees ts) → IsTree types (still rows (put k at o)) (put k at o) t → AreTrees types rows k at (os ++ o ∷ []) (trees (ts ++ t ∷ []))
  more_trees rows k at [] [] o t h g = (g, tt)
  more_trees rows k at (p ∷ os) (s ∷ ts) o t h g = (h.0, more_trees rows k at os ts o t h.1 g)
  more_trees rows k at [] (s ∷ ts) o t h g = absurd h
  more_trees rows k at (p ∷ os) [] o t h g = absurd h

  pub trees_len : (rows : List Row) (k : Knowledge) (at : Place) (os : List Knowledge) (ts : List Decision) → AreTrees types rows k at os (trees ts) → length ts ≡ length os
  trees_len rows k at [] [] h = refl
  trees_len rows k at (p ∷ os) (s ∷ ts) h = ap suc (trees_len rows k at os ts h.1)
  trees_len rows k at [] (s ∷ ts) h = absurd h
  trees_len rows k at (p ∷ os) [] h = absurd h

  pub tree_of_case : (rows : List Row) (k : Knowledge) (at : Place) (t : ℕ) (ts : List Decision) → AsksFirst rows k at (case_test t)
      → AreTrees types rows k at (outcomes types (case_test t)) (trees ts) → IsTree types rows k (on_case at (trees ts))
  tree_of_case [] k at t ts asks h = absurd asks
  tree_of_case (first ∷ rest) k at t ts asks h = (t, asks, h)

  pub tree_of_flag : (rows : List Row) (k : Knowledge) (at : Place) (a b : Decision) → AsksFirst rows k at flag_test
      → AreTrees types rows k at (outcomes types flag_test) (trees (a ∷ (b ∷ []))) → IsTree types rows k (on_flag at a b)
  tree_of_flag [] k at a b asks h = absurd asks
  tree_of_flag (first ∷ rest) k at a b asks h = (asks, h.0, h.1.0)

  pub tree_of_word : (rows : List Row) (k : Knowledge) (at : Place) (w n : ℕ) (ns : List ℕ) (a b : Decision) → AsksFirst rows k at (word_test w ns n)
      → IsTree types (still rows (put k at (word_known n))) (put k at (word_known n)) a
      → IsTree types (still rows (put k at (others w (ns ++ n ∷ [])))) (put k at (others w (ns ++ n ∷ []))) b
      → IsTree types rows k (on_word at n a b)
  tree_of_word [] k at w n ns a b asks h g = absurd asks
  tree_of_word (first ∷ rest) k at w n ns a b asks h g = (w, ns, asks, h, g)

  pub fails_after : (rows : List Row) (k o : Knowledge) (at : Place) (test : Test) (earlier later : List Knowledge) (ts : Decisions) (e : MatchError)
      → AsksFirst rows k at test → outcomes types test ≡ earlier ++ o ∷ later → AreTrees types rows k at earlier ts
      → FailsWith types (still rows (put k at o)) (put k at o) e → FailsWith types rows k e
  fails_after [] k o at test earlier later ts e asks split trees_are h = absurd asks
  fails_after (first ∷ rest) k o at test earlier later ts (NotExhaustive p) asks split trees_are h = after_test first rest k o at test earlier later ts (pat p) asks split trees_are h
  fails_after (first ∷ rest) k o at test earlier later ts (Useless r) asks split trees_are h = h
  fails_after (first ∷ rest) k o at test earlier later ts NoMemory asks split trees_are h = h
