-- What a match leads to, found in as many tests as there are positions.
use Rattle.std.proofs.Common.{◌≡◌, ℕ, zero, suc, ◌+◌, ◌<◌, ◌≤◌, ◌⊎◌, inl, inr, true, false, Option, Some, None, Err, List, [], ◌∷◌, ◌++◌, length, refl, sym, ap, ◌∙◌, append_assoc, arith}
use Rattle.std.proofs.lemmas.Bool.{cases_lt}
use Rattle.spec_match_compiler.specs.declared.shape.Shape.{Shape}
use Rattle.spec_match_compiler.specs.declared.match_error.MatchError.{MatchError}
use Rattle.spec_match_compiler.specs.declared.match_error.MatchError.TheVariants.{NotExhaustive, Useless, NoMemory}
use Rattle.spec_match_compiler.specs.Values.{Place}
use Rattle.spec_match_compiler.specs.Patterns.{Pattern}
use Rattle.spec_match_compiler.specs.Shapes.{Types}
use Rattle.spec_match_compiler.specs.Picks.{Row, numbered}
use Rattle.spec_match_compiler.specs.Decisions.{Decision}
use Rattle.spec_match_compiler.specs.Knowledge.{Knowledge, unknown, put}
use Rattle.spec_match_compiler.specs.Limits.{CanAll}
use Rattle.spec_match_compiler.specs.Names.{names}
use Rattle.spec_match_compiler.specs.Rule.{Test, PendingTest, flag_test, word_test, case_test, first_test, outcomes, still, Fails}
use Rattle.spec_match_compiler.specs.Compiled.{IsTreeOf, Answers}
use Rattle.spec_match_compiler.specs.Answers.{Decided, tree, fails, deeper, Arms, made, missing, cut, arm_before, all_arms, node, tested, next, test_of, decided, decision, useless, first_unnamed, with_rows, all_sizes, match_answer}
use Rattle.spec_match_compiler.specs.Refusals.{FailsWith}
use Rattle.spec_match_compiler.specs.Views.{pat}
use Rattle.spec_match_compiler.specs.Laws.{DecidedIsTheRules}
use Rattle.spec_match_compiler.proofs.Weight.{total, weight_unknown}
use Rattle.spec_match_compiler.proofs.Kept.{still_can}
use Rattle.spec_match_compiler.proofs.Deciding.{step_falls}
use Rattle.spec_match_compiler.proofs.Granted.{can_all_unknown}
use Rattle.spec_match_compiler.proofs.OneAnswer.{rule_is_settled}
use Rattle.spec_match_compiler.proofs.Decided.{before, decided_tree, decided_fails}

-- an arm for each outcome
arms_len : (f : Knowledge → Decided) (ks : List Knowledge) (ts : List Decision) → all_arms f ks ≡ made ts → length ts ≡ length ks
arms_len f [] [] h = refl
arms_len f [] (t ∷ ts) h = absurd cc
arms_len f (k ∷ ks) ts h =
    let b = before (f k) (all_arms f ks) ts h in
    rw b.all (ap suc (arms_len f ks b.rest b.are_made))

-- arms that were cut have an outcome that was
cut_at : (f : Knowledge → Decided) (front ks : List Knowledge) (d : Decided) (a : Arms) (there : Knowledge)
    → f there ≡ d → all_arms f ks ≡ a → arm_before d a ≡ cut → (f there ≡ deeper → ⊥) → (all_arms f ks ≡ cut → ⊥) → ⊥
cut_at f front ks (fails p) a there e es h here rest = cc
cut_at f front ks deeper a there e es h here rest = here e
cut_at f front ks (tree t) (missing p) there e es h here rest = cc
cut_at f front ks (tree t) cut there e es h here rest = rest es
cut_at f front ks (tree t) (made ts) there e es h here rest = cc

not_cut : (f : Knowledge → Decided) (whole front ks : List Knowledge) → whole ≡ front ++ ks
    → ((earlier later : List Knowledge) (there : Knowledge) → whole ≡ earlier ++ there ∷ later → f there ≡ deeper → ⊥) → all_arms f ks ≡ cut → ⊥
not_cut f whole front [] e all h = cc
not_cut f whole front (k ∷ ks) e all h =
    let further : whole ≡ (front ++ k ∷ []) ++ ks = e ∙ sym (append_assoc front (k ∷ []) ks) in
    cut_at f front ks (f k) (all_arms f ks) k refl refl h (λ d. all front ks k e d) (λ c. not_cut f whole (front ++ k ∷ []) ks further all c)

node_there : (types : Types) (at : Place) (test : Test) (ts : List Decision) → length ts ≡ length (outcomes types test) → node at test ts ≡ deeper → ⊥
node_there types at (case_test t) ts e h = cc
node_there types at flag_test (a ∷ (b ∷ [])) e h = cc
node_there types at (word_test w ns n) (a ∷ (b ∷ [])) e h = cc
node_there types at flag_test [] e h = omega (arith, e)
node_there types at flag_test (a ∷ []) e h = omega (arith, e)
node_there types at flag_test (a ∷ (b ∷ (c ∷ ts))) e h = omega (arith, e)
node_there types at (word_test w ns n) [] e h = omega (arith, e)
node_there types at (word_test w ns n) (a ∷ []) e h = omega (arith, e)
node_there types at (word_test w ns n) (a ∷ (b ∷ (c ∷ ts))) e h = omega (arith, e)

module _ (types : Types) (n : ℕ) (go : List Row → Knowledge → Decided) (fine : (rows : List Row) (k : Knowledge) → CanAll rows k → total rows k < n → go rows k ≡ deeper → ⊥) where
  tested_there : (first : Row) (rest : List Row) (k : Knowledge) (found : PendingTest) (arms : Arms) → first_test first.1 k ≡ Some found → CanAll (first ∷ rest) k → total (first ∷ rest) k < suc n
      → all_arms (λ there. go (still (first ∷ rest) (put k found.0 there)) (put k found.0 there)) (outcomes types found.1) ≡ arms → tested found.0 found.1 arms ≡ deeper → ⊥
  tested_there first rest k found (missing p) e can less a h = cc
  tested_there first rest k found (made ts) e can less a h =
      node_there types found.0 found.1 ts (arms_len (λ there. go (still (first ∷ rest) (put k found.0 there)) (put k found.0 there)) (outcomes types found.1) ts a) h
  tested_there first rest k found cut e can less a h =
      not_cut (λ there. go (still (first ∷ rest) (put k found.0 there)) (put k found.0 there)) (outcomes types found.1) [] (outcomes types found.1) refl there a
    where
      there : (earlier later : List Knowledge) (o : Knowledge) → outcomes types found.1 ≡ earlier ++ o ∷ later → go (still (first ∷ rest) (put k found.0 o)) (put k found.0 o) ≡ deeper → ⊥
      there earlier later o split d =
          let falls = step_falls types (first ∷ rest) k o found.0 found.1 earlier later e can split in
          fine (still (first ∷ rest) (put k found.0 o)) (put k found.0 o) (still_can (first ∷ rest) (put k found.0 o)) (omega (arith, falls, less)) d

  next_there : (rows : List Row) (k : Knowledge) (o : Option PendingTest) → test_of rows k ≡ o → CanAll rows k → total rows k < suc n → next types go rows k o ≡ deeper → ⊥
  next_there [] k o e can less h = cc
  next_there (first ∷ rest) k None e can less h = cc
  next_there (first ∷ rest) k (Some found) e can less h = tested_there first rest k found _ e can less refl h

decided_there : (types : Types) (n : ℕ) (rows : List Row) (k : Knowledge) → CanAll rows k → total rows k < n → decided types n rows k ≡ deeper → ⊥
unfolding decided
decided_there types zero rows k can less h = omega (arith, less)
decided_there types (suc n) rows k can less h = next_there types n (decided types n) (λ rs j c l. decided_there types n rs j c l) rows k (test_of rows k) refl can less h

total_unknown : (n : ℕ) (rows : List Pattern) (s : Shape) → total (numbered n rows) (unknown s) ≤ all_sizes rows
total_unknown n [] s = omega arith
total_unknown n (p ∷ rows) s = omega (arith, weight_unknown p s, total_unknown (n + 1) rows s)

never_deeper : (types : Types) (s : Shape) (rows : List Pattern) → decided types (suc (all_sizes rows)) (numbered 0 rows) (unknown s) ≡ deeper → ⊥
never_deeper types s rows h =
    decided_there types (suc (all_sizes rows)) (numbered 0 rows) (unknown s) (can_all_unknown (numbered 0 rows) s) (omega (arith, total_unknown 0 rows s)) h

pub decided_is_the_rules : DecidedIsTheRules
decided_is_the_rules = record { a_tree = decided_tree; an_example = decided_fails; enough = never_deeper }

-- the rule's answer is that of the function
module _ (types : Types) (s : Shape) (rows : List Pattern) where
  tree_decided : (t : Decision) (d : Decided) → IsTreeOf types s rows t → decided types (suc (all_sizes rows)) (numbered 0 rows) (unknown s) ≡ d → d ≡ tree t
  tree_decided t (tree u) is e =
      ap tree ((rule_is_settled types (numbered 0 rows) (unknown s)).one_tree u t (decided_tree types (suc (all_sizes rows)) (numbered 0 rows) (unknown s) u e) is)
  tree_decided t (fails p) is e =
      absurd ((rule_is_settled types (numbered 0 rows) (unknown s)).not_both t p is (decided_fails types (suc (all_sizes rows)) (numbered 0 rows) (unknown s) p e))
  tree_decided t deeper is e = absurd (never_deeper types s rows e)

  fails_decided : (p : Pattern) (d : Decided) → Fails types (numbered 0 rows) (unknown s) p → decided types (suc (all_sizes rows)) (numbered 0 rows) (unknown s) ≡ d → d ≡ fails p
  fails_decided p (tree u) is e =
      absurd ((rule_is_settled types (numbered 0 rows) (unknown s)).not_both u p (decided_tree types (suc (all_sizes rows)) (numbered 0 rows) (unknown s) u e) is)
  fails_decided p (fails q) is e =
      ap fails ((rule_is_settled types (numbered 0 rows) (unknown s)).one_example q p (decided_fails types (suc (all_sizes rows)) (numbered 0 rows) (unknown s) q e) is)
  fails_decided p deeper is e = absurd (never_deeper types s rows e)

all_named : (t : Decision) (r n : ℕ) → ((q : ℕ) → q < r + n → names t q ≡ true) → first_unnamed t r n ≡ None
all_named t r zero h = refl
all_named t r (suc n) h = rw (first_unnamed, h r (omega arith)) (all_named t (r + 1) n (λ q l. h q (omega (arith, l))))

one_from : (t : Decision) (r n q : ℕ) → (r < q → first_unnamed t (r + 1) n ≡ Some q) → r ≤ q → names t q ≡ false → ((p : ℕ) → p < q → names t p ≡ true) → (r < q) ⊎ (q ≤ r) → first_unnamed t r (suc n) ≡ Some q
one_from t r n q again from is named (inl l) = rw (first_unnamed, named r l) (again l)
one_from t r n q again from is named (inr l) =
    let same : r ≡ q = omega (arith, from, l) in
    rw (same, first_unnamed, is) refl

one_unnamed : (t : Decision) (r n q : ℕ) → r ≤ q → q < r + n → names t q ≡ false → ((p : ℕ) → p < q → names t p ≡ true) → first_unnamed t r n ≡ Some q
one_unnamed t r zero q from below is named = absurd (omega (arith, from, below))
one_unnamed t r (suc n) q from below is named =
    one_from t r n q (λ l. one_unnamed t (r + 1) n q (omega (arith, l)) (omega (arith, below)) is named) from is named (cases_lt r q)

pub answer_tree : (types : Types) (s : Shape) (rows : List Pattern) (t : Decision) → IsTreeOf types s rows t → ((r : ℕ) → r < length rows → names t r ≡ true)
    → match_answer types s rows ≡ decision t
unfolding match_answer
answer_tree types s rows t is named =
    rw (tree_decided types s rows t _ is refl) (ap (with_rows t) (all_named t 0 (length rows) (λ q l. named q (omega (arith, l)))))

pub answer_useless : (types : Types) (s : Shape) (rows : List Pattern) (t : Decision) (r : ℕ) → IsTreeOf types s rows t → r < length rows → names t r ≡ false → ((q : ℕ) → q < r → names t q ≡ true)
    → match_answer types s rows ≡ useless r
unfolding match_answer
answer_useless types s rows t r is below unnamed named =
    rw (tree_decided types s rows t _ is refl) (ap (with_rows t) (one_unnamed t 0 (length rows) r (omega arith) (omega (arith, below)) unnamed named))

pub answer_refused : (types : Types) (s : Shape) (rows : List Pattern) (e : MatchError) → FailsWith types (numbered 0 rows) (unknown s) e → Answers (Err e) (match_answer types s rows)
unfolding match_answer
answer_refused types s rows (NotExhaustive p) fails_so = rw (fails_decided types s rows (pat p) _ fails_so refl) refl
answer_refused types s rows (Useless r) fails_so = absurd fails_so
answer_refused types s rows NoMemory fails_so = tt
