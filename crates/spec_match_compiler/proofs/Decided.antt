-- What `decided` gives is the rule's.
use Rattle.std.proofs.Common.{◌≡◌, ℕ, zero, suc, Option, Some, None, List, [], ◌∷◌, ◌++◌, refl, sym, subst, ap}
use Rattle.spec_match_compiler.specs.Values.{Place}
use Rattle.spec_match_compiler.specs.Patterns.{Pattern}
use Rattle.spec_match_compiler.specs.Shapes.{Types}
use Rattle.spec_match_compiler.specs.Picks.{Row}
use Rattle.spec_match_compiler.specs.Meets.{bindings}
use Rattle.spec_match_compiler.specs.Decisions.{Decision, trees, row, on_case, on_word, on_flag}
use Rattle.spec_match_compiler.specs.Knowledge.{Knowledge, put}
use Rattle.spec_match_compiler.specs.Rule.{Test, PendingTest, flag_test, word_test, case_test, first_test, outcomes, still, example, IsTree, AreTrees, Fails, no_row, after_test}
use Rattle.spec_match_compiler.specs.Answers.{Decided, tree, fails, deeper, Arms, made, missing, cut, arm_before, all_arms, node, tested, next, test_of, decided}

-- what an arm in front of others says
pub record Before (d : Decided) (a : Arms) (ts : List Decision) : Type 0 where
  pub first : Decision
  pub rest : List Decision
  pub is_tree : d ≡ tree first
  pub are_made : a ≡ made rest
  pub all : ts ≡ first ∷ rest

apart : {A : Type 0} (a : Arms) (ts : List Decision) → (a ≡ made ts → ⊥) → a ≡ made ts → A
apart a ts n h = absurd (n h)

pub before : (d : Decided) (a : Arms) (ts : List Decision) → arm_before d a ≡ made ts → Before d a ts
before (fails p) a ts h = apart (missing p) ts (λ e. cc) h
before deeper a ts h = apart cut ts (λ e. cc) h
before (tree t) (missing p) ts h = apart (missing p) ts (λ e. cc) h
before (tree t) cut ts h = apart cut ts (λ e. cc) h
before (tree t) (made rest) ts h = record { first = t; rest = rest; is_tree = refl; are_made = refl; all = cc }

module _ (types : Types) (go : List Row → Knowledge → Decided) (sound : (rows : List Row) (k : Knowledge) (t : Decision) → go rows k ≡ tree t → IsTree types rows k t) where
  arms_sound : (rows : List Row) (k : Knowledge) (at : Place) (ks : List Knowledge) (ts : List Decision)
      → all_arms (λ there. go (still rows (put k at there)) (put k at there)) ks ≡ made ts → AreTrees types rows k at ks (trees ts)
  arms_sound rows k at [] ts h = subst (λ us. AreTrees types rows k at [] (trees us)) (same h) tt
    where
      same : made [] ≡ made ts → [] ≡ ts
      same e = cc
  arms_sound rows k at (there ∷ ks) ts h =
      let b = before (go (still rows (put k at there)) (put k at there)) (all_arms (λ x. go (still rows (put k at x)) (put k at x)) ks) ts h in
      subst (λ us. AreTrees types rows k at (there ∷ ks) (trees us)) (sym b.all)
      (sound (still rows (put k at there)) (put k at there) b.first b.is_tree, arms_sound rows k at ks b.rest b.are_made)

  -- a tree at the test of the first row
  node_sound : (first : Row) (rest : List Row) (k : Knowledge) (at : Place) (test : Test) (ts : List Decision) (t : Decision) → first_test first.1 k ≡ Some (at, test)
      → AreTrees types (first ∷ rest) k at (outcomes types test) (trees ts) → node at test ts ≡ tree t → IsTree types (first ∷ rest) k t
  node_sound first rest k at flag_test (a ∷ (b ∷ [])) t e h n =
      subst (IsTree types (first ∷ rest) k) (same n) (e, h.0, h.1.0)
    where
      same : tree (on_flag at a b) ≡ tree t → on_flag at a b ≡ t
      same q = cc
  node_sound first rest k at (word_test w ns m) (a ∷ (b ∷ [])) t e h n =
      subst (IsTree types (first ∷ rest) k) (same n) (w, ns, e, h.0, h.1.0)
    where
      same : tree (on_word at m a b) ≡ tree t → on_word at m a b ≡ t
      same q = cc
  node_sound first rest k at (case_test d) ts t e h n =
      subst (IsTree types (first ∷ rest) k) (same n) (d, e, h)
    where
      same : tree (on_case at (trees ts)) ≡ tree t → on_case at (trees ts) ≡ t
      same q = cc
  node_sound first rest k at test ts t e h n = absurd cc

  tested_sound : (first : Row) (rest : List Row) (k : Knowledge) (found : PendingTest) (arms : Arms) (t : Decision) → first_test first.1 k ≡ Some found
      → all_arms (λ there. go (still (first ∷ rest) (put k found.0 there)) (put k found.0 there)) (outcomes types found.1) ≡ arms
      → tested found.0 found.1 arms ≡ tree t → IsTree types (first ∷ rest) k t
  tested_sound first rest k found (missing p) t e a h = absurd cc
  tested_sound first rest k found cut t e a h = absurd cc
  tested_sound first rest k found (made ts) t e a h = node_sound first rest k found.0 found.1 ts t e (arms_sound (first ∷ rest) k found.0 (outcomes types found.1) ts a) h

  next_sound : (rows : List Row) (k : Knowledge) (o : Option PendingTest) (t : Decision) → test_of rows k ≡ o → next types go rows k o ≡ tree t → IsTree types rows k t
  next_sound [] k o t e h = absurd cc
  next_sound (first ∷ rest) k None t e h = subst (IsTree types (first ∷ rest) k) (same h) (e, refl, refl)
    where
      same : tree (row first.0 (bindings [] first.1)) ≡ tree t → row first.0 (bindings [] first.1) ≡ t
      same q = cc
  next_sound (first ∷ rest) k (Some found) t e h = tested_sound first rest k found _ t e refl h

  -- the first outcome for which no row is left, and the trees of those before it
  pub record FirstMissing (fails_there : Knowledge → Pattern → Type 0) (rows : List Row) (k : Knowledge) (at : Place) (ks : List Knowledge) (p : Pattern) : Type 0 where
    pub earlier : List Knowledge
    pub there : Knowledge
    pub later : List Knowledge
    pub ts : List Decision
    pub splits : ks ≡ earlier ++ there ∷ later
    pub are : AreTrees types rows k at earlier (trees ts)
    pub fails_at : fails_there there p

module _ (types : Types) (go : List Row → Knowledge → Decided)
    (sound : (rows : List Row) (k : Knowledge) (t : Decision) → go rows k ≡ tree t → IsTree types rows k t)
    (fault : (rows : List Row) (k : Knowledge) (p : Pattern) → go rows k ≡ fails p → Fails types rows k p) where
  abbrev There : List Row → Knowledge → Place → Knowledge → Pattern → Type 0
  There rows k at there p = Fails types (still rows (put k at there)) (put k at there) p

  abbrev pub Missing : List Row → Knowledge → Place → List Knowledge → Pattern → Type 0
  Missing rows k at ks p = FirstMissing types go sound (There rows k at) rows k at ks p

  -- the first that fails, where `later` says what holds of those behind
  arm_fails : (rows : List Row) (k : Knowledge) (at : Place) (there : Knowledge) (ks : List Knowledge) (p : Pattern) (d : Decided) (a : Arms)
      → ((q : Pattern) → all_arms (λ x. go (still rows (put k at x)) (put k at x)) ks ≡ missing q → Missing rows k at ks q)
      → go (still rows (put k at there)) (put k at there) ≡ d → all_arms (λ x. go (still rows (put k at x)) (put k at x)) ks ≡ a
      → arm_before d a ≡ missing p → Missing rows k at (there ∷ ks) p
  arm_fails rows k at there ks p (fails q) a behind e es h =
      let f : go (still rows (put k at there)) (put k at there) ≡ fails p = cc in
      record { earlier = []; there = there; later = ks; ts = []; splits = refl; are = tt; fails_at = fault (still rows (put k at there)) (put k at there) p f }
  arm_fails rows k at there ks p (tree t) (missing q) behind e es h =
      let f : all_arms (λ x. go (still rows (put k at x)) (put k at x)) ks ≡ missing p = cc in
      let r = behind p f in
      record {
        earlier = there ∷ r.earlier;
        there = r.there;
        later = r.later;
        ts = t ∷ r.ts;
        splits = ap (λ l. there ∷ l) r.splits;
        are = (sound (still rows (put k at there)) (put k at there) t e, r.are);
        fails_at = r.fails_at;
      }
  arm_fails rows k at there ks p deeper a behind e es h = absurd cc
  arm_fails rows k at there ks p (tree t) cut behind e es h = absurd cc
  arm_fails rows k at there ks p (tree t) (made ts) behind e es h = absurd cc

  arms_fail : (rows : List Row) (k : Knowledge) (at : Place) (ks : List Knowledge) (p : Pattern)
      → all_arms (λ there. go (still rows (put k at there)) (put k at there)) ks ≡ missing p → Missing rows k at ks p
  arms_fail rows k at [] p h = absurd cc
  arms_fail rows k at (there ∷ ks) p h =
      arm_fails rows k at there ks p (go (still rows (put k at there)) (put k at there)) (all_arms (λ x. go (still rows (put k at x)) (put k at x)) ks) (λ q f. arms_fail rows k at ks q f) refl refl h

  no_node : (at : Place) (test : Test) (ts : List Decision) (p : Pattern) → node at test ts ≡ fails p → ⊥
  no_node at flag_test (a ∷ (b ∷ [])) p h = cc
  no_node at (word_test w ns m) (a ∷ (b ∷ [])) p h = cc
  no_node at (case_test d) ts p h = cc
  no_node at test ts p h = cc

  tested_fails : (first : Row) (rest : List Row) (k : Knowledge) (found : PendingTest) (arms : Arms) (p : Pattern) → first_test first.1 k ≡ Some found
      → all_arms (λ there. go (still (first ∷ rest) (put k found.0 there)) (put k found.0 there)) (outcomes types found.1) ≡ arms
      → tested found.0 found.1 arms ≡ fails p → Fails types (first ∷ rest) k p
  tested_fails first rest k found (missing q) p e a h =
      let f : all_arms (λ there. go (still (first ∷ rest) (put k found.0 there)) (put k found.0 there)) (outcomes types found.1) ≡ missing p = cc in
      let r = arms_fail (first ∷ rest) k found.0 (outcomes types found.1) p f in
      after_test first rest k r.there found.0 found.1 r.earlier r.later (trees r.ts) p e r.splits r.are r.fails_at
  tested_fails first rest k found cut p e a h = absurd cc
  tested_fails first rest k found (made ts) p e a h = absurd (no_node found.0 found.1 ts p h)

  next_fails : (rows : List Row) (k : Knowledge) (o : Option PendingTest) (p : Pattern) → test_of rows k ≡ o → next types go rows k o ≡ fails p → Fails types rows k p
  next_fails [] k o p e h = subst (Fails types [] k) (same h) (no_row k)
    where
      same : fails (example k) ≡ fails p → example k ≡ p
      same q = cc
  next_fails (first ∷ rest) k None p e h = absurd cc
  next_fails (first ∷ rest) k (Some found) p e h = tested_fails first rest k found _ p e refl h

pub decided_tree : (types : Types) (n : ℕ) (rows : List Row) (k : Knowledge) (t : Decision) → decided types n rows k ≡ tree t → IsTree types rows k t
unfolding decided
decided_tree types zero rows k t h = absurd cc
decided_tree types (suc n) rows k t h = next_sound types (decided types n) (decided_tree types n) rows k (test_of rows k) t refl h

pub decided_fails : (types : Types) (n : ℕ) (rows : List Row) (k : Knowledge) (p : Pattern) → decided types n rows k ≡ fails p → Fails types rows k p
unfolding decided
decided_fails types zero rows k p h = absurd cc
decided_fails types (suc n) rows k p h = next_fails types (decided types n) (decided_tree types n) (decided_fails types n) rows k (test_of rows k) p refl h
