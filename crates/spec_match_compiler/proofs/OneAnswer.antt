-- The rule gives one answer.
use Rattle.std.proofs.Common.{◌≡◌, ℕ, ◌⊎◌, inl, inr, true, false, Option, Some, List, [], ◌∷◌, ◌++◌, refl, sym, ap, ◌∙◌, subst}
use Rattle.spec_match_compiler.specs.Knowledge.{Knowledge, flag_known, word_known, others, put}
use Rattle.spec_match_compiler.specs.Laws.{RuleIsSettled}
use Rattle.spec_match_compiler.specs.Patterns.{Pattern}
use Rattle.spec_match_compiler.specs.Picks.{Row}
use Rattle.spec_match_compiler.specs.Rule.{PendingTest, Test, flag_test, word_test, case_test, first_test, still, made_known, outcomes, example, IsTree, AreTrees, Fails, no_row, after_test}
use Rattle.spec_match_compiler.specs.Shapes.{Types, cases_of}
use Rattle.spec_match_compiler.specs.Decisions.{Decision, Decisions, row, on_case, on_word, on_flag, no_tree, tree_then}
use Rattle.spec_match_compiler.specs.Values.{Place}

-- ---- what two answers of one search agree on
same_found : (x : Option PendingTest) (f g : PendingTest) → x ≡ Some f → x ≡ Some g → f ≡ g
same_found x f g h e = cc

same_place : (x : Option PendingTest) (at other : Place) (test test' : Test) → x ≡ Some (at, test) → x ≡ Some (other, test') → at ≡ other
same_place x at other test test' h g = ap (λ (z : PendingTest). z.0) (same_found x (at, test) (other, test') h g)

same_test : (x : Option PendingTest) (at other : Place) (test test' : Test) → x ≡ Some (at, test) → x ≡ Some (other, test') → test ≡ test'
same_test x at other test test' h g = ap (λ (z : PendingTest). z.1) (same_found x (at, test) (other, test') h g)

same_width : (w u n m : ℕ) (ns ms : List ℕ) → word_test w ns n ≡ word_test u ms m → w ≡ u
same_width w u n m ns ms h = cc

same_tested : (w u n m : ℕ) (ns ms : List ℕ) → word_test w ns n ≡ word_test u ms m → ns ≡ ms
same_tested w u n m ns ms h = cc

same_number : (w u n m : ℕ) (ns ms : List ℕ) → word_test w ns n ≡ word_test u ms m → n ≡ m
same_number w u n m ns ms h = cc

same_type : (t u : ℕ) → case_test t ≡ case_test u → t ≡ u
same_type t u h = cc

module _ (types : Types) where
  -- a tree for what a test shows
  abbrev IsUnder : List Row → Knowledge → Place → Knowledge → Decision → Type 0
  IsUnder rows k at there t = IsTree types (still rows (put k at there)) (put k at there) t

  mutual
    one_tree : (rows : List Row) (k : Knowledge) (t u : Decision) → IsTree types rows k t → IsTree types rows k u → t ≡ u
    one_tree [] k t u h g = absurd h
    one_tree (first ∷ rest) k (row r binds) (row s named) h g = rw (h.1, h.2, g.1, g.2) refl
    one_tree (first ∷ rest) k (row r binds) (on_flag at a b) h g = cc
    one_tree (first ∷ rest) k (row r binds) (on_word at n a b) h g = let asked = g.2 in cc
    one_tree (first ∷ rest) k (row r binds) (on_case at arms) h g = let asked = g.1 in cc
    one_tree (first ∷ rest) k (on_flag at a b) (row r binds) h g = cc
    one_tree (first ∷ rest) k (on_flag at a b) (on_flag other c d) h g =
        let place = same_place (first_test first.1 k) at other flag_test flag_test h.0 g.0 in
        let left = one_tree (still (first ∷ rest) (put k at (flag_known true))) (put k at (flag_known true)) a c h.1 (subst (λ z. IsUnder (first ∷ rest) k z (flag_known true) c) (sym place) g.1) in
        let right = one_tree (still (first ∷ rest) (put k at (flag_known false))) (put k at (flag_known false)) b d h.2 (subst (λ z. IsUnder (first ∷ rest) k z (flag_known false) d) (sym place) g.2) in
        rw (place, left, right) refl
    one_tree (first ∷ rest) k (on_flag at a b) (on_word other n c d) h g = let test = same_test (first_test first.1 k) at other flag_test (word_test g.0 g.1 n) h.0 g.2 in cc
    one_tree (first ∷ rest) k (on_flag at a b) (on_case other arms) h g = let test = same_test (first_test first.1 k) at other flag_test (case_test g.0) h.0 g.1 in cc
    one_tree (first ∷ rest) k (on_word at n a b) (row r binds) h g = let asked = h.2 in cc
    one_tree (first ∷ rest) k (on_word at n a b) (on_flag other c d) h g = let test = same_test (first_test first.1 k) at other (word_test h.0 h.1 n) flag_test h.2 g.0 in cc
    one_tree (first ∷ rest) k (on_word at n a b) (on_word other m c d) h g =
        let place = same_place (first_test first.1 k) at other (word_test h.0 h.1 n) (word_test g.0 g.1 m) h.2 g.2 in
        let test = same_test (first_test first.1 k) at other (word_test h.0 h.1 n) (word_test g.0 g.1 m) h.2 g.2 in
        let width = same_width h.0 g.0 n m h.1 g.1 test in
        let tested = same_tested h.0 g.0 n m h.1 g.1 test in
        let number = same_number h.0 g.0 n m h.1 g.1 test in
        let yes_side = subst (λ z. IsUnder (first ∷ rest) k z (word_known m) c) (sym place) g.3 in
        let left = one_tree (still (first ∷ rest) (put k at (word_known n))) (put k at (word_known n)) a c h.3 (subst (λ z. IsUnder (first ∷ rest) k at (word_known z) c) (sym number) yes_side) in
        let shown : others h.0 (h.1 ++ n ∷ []) ≡ others g.0 (g.1 ++ m ∷ []) = rw (width, tested, number) refl in
        let no_side = subst (λ z. IsUnder (first ∷ rest) k z (others g.0 (g.1 ++ m ∷ [])) d) (sym place) g.4 in
        let right = one_tree (still (first ∷ rest) (put k at (others h.0 (h.1 ++ n ∷ [])))) (put k at (others h.0 (h.1 ++ n ∷ []))) b d h.4 (subst (λ z. IsUnder (first ∷ rest) k at z d) (sym shown) no_side) in
        rw (place, number, left, right) refl
    one_tree (first ∷ rest) k (on_word at n a b) (on_case other arms) h g = let test = same_test (first_test first.1 k) at other (word_test h.0 h.1 n) (case_test g.0) h.2 g.1 in cc
    one_tree (first ∷ rest) k (on_case at arms) (row r binds) h g = let asked = h.1 in cc
    one_tree (first ∷ rest) k (on_case at arms) (on_flag other c d) h g = let test = same_test (first_test first.1 k) at other (case_test h.0) flag_test h.1 g.0 in cc
    one_tree (first ∷ rest) k (on_case at arms) (on_word other m c d) h g = let test = same_test (first_test first.1 k) at other (case_test h.0) (word_test g.0 g.1 m) h.1 g.2 in cc
    one_tree (first ∷ rest) k (on_case at arms) (on_case other more) h g =
        let place = same_place (first_test first.1 k) at other (case_test h.0) (case_test g.0) h.1 g.1 in
        let test = same_test (first_test first.1 k) at other (case_test h.0) (case_test g.0) h.1 g.1 in
        let type = same_type h.0 g.0 test in
        let there = subst (λ z. AreTrees types (first ∷ rest) k z (made_known 0 (cases_of types g.0)) more) (sym place) g.2 in
        let same = one_trees (first ∷ rest) k at (made_known 0 (cases_of types h.0)) arms more h.2 (subst (λ z. AreTrees types (first ∷ rest) k at (made_known 0 (cases_of types z)) more) (sym type) there) in
        rw (place, same) refl

    one_trees : (rows : List Row) (k : Knowledge) (at : Place) (os : List Knowledge) (ts us : Decisions) → AreTrees types rows k at os ts → AreTrees types rows k at os us → ts ≡ us
    one_trees rows k at [] no_tree no_tree h g = refl
    one_trees rows k at [] no_tree (tree_then u us) h g = absurd g
    one_trees rows k at [] (tree_then t ts) us h g = absurd h
    one_trees rows k at (o ∷ os) no_tree us h g = absurd h
    one_trees rows k at (o ∷ os) (tree_then t ts) no_tree h g = absurd g
    one_trees rows k at (o ∷ os) (tree_then t ts) (tree_then u us) h g =
        rw (one_tree (still rows (put k at o)) (put k at o) t u h.0 g.0, one_trees rows k at os ts us h.1 g.1) refl

  -- ---- a tree has a tree for all that its test may show
  abbrev HasArms : List Row → Knowledge → Place → Test → Type 0
  HasArms rows k at test = (ts : Decisions) × AreTrees types rows k at (outcomes types test) ts

  arms_of : (first : Row) (rest : List Row) (k : Knowledge) (t : Decision) (at : Place) (test : Test) → IsTree types (first ∷ rest) k t → first_test first.1 k ≡ Some (at, test) → HasArms (first ∷ rest) k at test
  arms_of first rest k (row r binds) at test h asks = cc
  arms_of first rest k (on_flag other a b) at test h asks =
      let place = same_place (first_test first.1 k) other at flag_test test h.0 asks in
      let same = same_test (first_test first.1 k) other at flag_test test h.0 asks in
      subst (λ z. HasArms (first ∷ rest) k at z) same (subst (λ z. HasArms (first ∷ rest) k z flag_test) place (tree_then a (tree_then b no_tree), (h.1, (h.2, tt))))
  arms_of first rest k (on_word other n a b) at test h asks =
      let place = same_place (first_test first.1 k) other at (word_test h.0 h.1 n) test h.2 asks in
      let same = same_test (first_test first.1 k) other at (word_test h.0 h.1 n) test h.2 asks in
      subst (λ z. HasArms (first ∷ rest) k at z) same (subst (λ z. HasArms (first ∷ rest) k z (word_test h.0 h.1 n)) place (tree_then a (tree_then b no_tree), (h.3, (h.4, tt))))
  arms_of first rest k (on_case other arms) at test h asks =
      let place = same_place (first_test first.1 k) other at (case_test h.0) test h.1 asks in
      let same = same_test (first_test first.1 k) other at (case_test h.0) test h.1 asks in
      subst (λ z. HasArms (first ∷ rest) k at z) same (subst (λ z. HasArms (first ∷ rest) k z (case_test h.0)) place (arms, h.2))

  arm_for : (rows : List Row) (k there : Knowledge) (at : Place) (earlier later : List Knowledge) (ts : Decisions) → AreTrees types rows k at (earlier ++ there ∷ later) ts → (t : Decision) × IsUnder rows k at there t
  arm_for rows k there at [] later no_tree h = absurd h
  arm_for rows k there at [] later (tree_then t ts) h = (t, h.0)
  arm_for rows k there at (o ∷ earlier) later no_tree h = absurd h
  arm_for rows k there at (o ∷ earlier) later (tree_then t ts) h = arm_for rows k there at earlier later ts h.1

  not_both : (rows : List Row) (k : Knowledge) (p : Pattern) (t : Decision) → Fails types rows k p → IsTree types rows k t → ⊥
  not_both _ _ _ t (no_row k) h = h
  not_both _ _ _ t (after_test first rest k there at test earlier later ts p asks split are fails) h =
      let arms = arms_of first rest k t at test h asks in
      let arm = arm_for (first ∷ rest) k there at earlier later arms.0 (subst (λ os. AreTrees types (first ∷ rest) k at os arms.0) split arms.1) in
      not_both (still (first ∷ rest) (put k at there)) (put k at there) p arm.0 fails arm.1

  -- ---- two failures are one
  -- where a list is split in two ways, the places are the same, or the one lies before the other
  splits : (x y : Knowledge) (xs ys more rest : List Knowledge) → xs ++ x ∷ more ≡ ys ++ y ∷ rest
      → (x ≡ y) ⊎ (((later : List Knowledge) × (ys ≡ xs ++ x ∷ later)) ⊎ ((later : List Knowledge) × (xs ≡ ys ++ y ∷ later)))
  splits x y [] [] more rest h = inl cc
  splits x y [] (z ∷ ys) more rest h = let same : x ≡ z = cc in inr (inl (ys, rw same refl))
  splits x y (z ∷ xs) [] more rest h = let same : z ≡ y = cc in inr (inr (xs, rw same refl))
  splits x y (z ∷ xs) (w ∷ ys) more rest h =
      let same : z ≡ w = cc in
      let tails : xs ++ x ∷ more ≡ ys ++ y ∷ rest = cc in
      sorted same (splits x y xs ys more rest tails)
    where
      sorted : z ≡ w → (x ≡ y) ⊎ (((later : List Knowledge) × (ys ≡ xs ++ x ∷ later)) ⊎ ((later : List Knowledge) × (xs ≡ ys ++ y ∷ later)))
          → (x ≡ y) ⊎ (((later : List Knowledge) × (w ∷ ys ≡ (z ∷ xs) ++ x ∷ later)) ⊎ ((later : List Knowledge) × (z ∷ xs ≡ (w ∷ ys) ++ y ∷ later)))
      sorted same (inl e) = inl e
      sorted same (inr (inl l)) = inr (inl (l.0, rw (same, l.1) refl))
      sorted same (inr (inr l)) = inr (inr (l.0, rw (same, l.1) refl))

  -- a failure where no row is left
  example_of : (k : Knowledge) (p : Pattern) (rows : List Row) → rows ≡ [] → Fails types rows k p → p ≡ example k
  example_of _ _ _ none (no_row k) = refl
  example_of _ _ _ none (after_test first rest k there at test earlier later ts p asks split are fails) = cc

  -- a failure after a test
  record IsAfter (first : Row) (rest : List Row) (k : Knowledge) (p : Pattern) : Type 0 where
    there : Knowledge
    at : Place
    test : Test
    earlier : List Knowledge
    later : List Knowledge
    ts : Decisions
    asks : first_test first.1 k ≡ Some (at, test)
    split : outcomes types test ≡ earlier ++ there ∷ later
    are : AreTrees types (first ∷ rest) k at earlier ts
    fails : Fails types (still (first ∷ rest) (put k at there)) (put k at there) p

  after_of : (first : Row) (rest rows : List Row) (k : Knowledge) (p : Pattern) → rows ≡ first ∷ rest → Fails types rows k p → IsAfter first rest k p
  after_of first rest _ _ _ some (no_row k) = cc
  after_of first rest _ _ _ some (after_test head tail k there at test earlier later ts p asks split are fails) =
      let one : head ≡ first = cc in
      let same : tail ≡ rest = cc in
      rw (sym one, sym same) (record { there = there; at = at; test = test; earlier = earlier; later = later; ts = ts; asks = asks; split = split; are = are; fails = fails })

  one_example : (rows : List Row) (k : Knowledge) (p q : Pattern) → Fails types rows k p → Fails types rows k q → p ≡ q
  one_example _ _ _ q (no_row k) g = sym (example_of k q [] refl g)
  one_example _ _ _ q (after_test first rest k there at test earlier later ts p asks split are fails) g =
      let o = after_of first rest (first ∷ rest) k q refl g in
      let place = same_place (first_test first.1 k) o.at at o.test test o.asks asks in
      let same = same_test (first_test first.1 k) o.at at o.test test o.asks asks in
      let split_too : outcomes types test ≡ o.earlier ++ o.there ∷ o.later = subst (λ z. outcomes types z ≡ o.earlier ++ o.there ∷ o.later) same o.split in
      let are_too : AreTrees types (first ∷ rest) k at o.earlier o.ts = subst (λ z. AreTrees types (first ∷ rest) k z o.earlier o.ts) place o.are in
      let fails_too : Fails types (still (first ∷ rest) (put k at o.there)) (put k at o.there) q = subst (λ z. Fails types (still (first ∷ rest) (put k z o.there)) (put k z o.there) q) place o.fails in
      compared o.there o.earlier o.ts are_too fails_too (λ h. one_example (still (first ∷ rest) (put k at there)) (put k at there) p q fails h) (splits there o.there earlier o.earlier later o.later (sym split ∙ split_too))
    where
      compared : (other : Knowledge) (before : List Knowledge) (us : Decisions) → AreTrees types (first ∷ rest) k at before us → Fails types (still (first ∷ rest) (put k at other)) (put k at other) q
          → (Fails types (still (first ∷ rest) (put k at there)) (put k at there) q → p ≡ q)
          → (there ≡ other) ⊎ (((later : List Knowledge) × (before ≡ earlier ++ there ∷ later)) ⊎ ((later : List Knowledge) × (earlier ≡ before ++ other ∷ later))) → p ≡ q
      compared other before us are_too fails_too again (inl e) =
          again (subst (λ z. Fails types (still (first ∷ rest) (put k at z)) (put k at z) q) (sym e) fails_too)
      compared other before us are_too fails_too again (inr (inl l)) =
          let arm = arm_for (first ∷ rest) k there at earlier l.0 us (subst (λ os. AreTrees types (first ∷ rest) k at os us) l.1 are_too) in
          absurd (not_both (still (first ∷ rest) (put k at there)) (put k at there) p arm.0 fails arm.1)
      compared other before us are_too fails_too again (inr (inr l)) =
          let arm = arm_for (first ∷ rest) k other at before l.0 ts (subst (λ os. AreTrees types (first ∷ rest) k at os ts) l.1 are) in
          absurd (not_both (still (first ∷ rest) (put k at other)) (put k at other) q arm.0 fails_too arm.1)

pub rule_is_settled : RuleIsSettled
rule_is_settled types rows k = record {
  one_tree = λ t u h g. one_tree types rows k t u h g;
  one_example = λ p q h g. one_example types rows k p q h g;
  not_both = λ t p h g. not_both types rows k p t g h;
}
