-- Each test makes less of the rows that is still to be tested.
use Rattle.std.proofs.Common.{◌≡◌, ℕ, zero, suc, ◌+◌, ◌<◌, ◌≤◌, inl, inr, Bool, true, false, cond, ◌||◌, ◌==◌, List, [], ◌∷◌, ◌++◌, refl, arith}
use Rattle.std.proofs.lemmas.List.Folds.{list_any-append}
use Rattle.spec_match_compiler.specs.declared.shape.Shape.{Shape}
use Rattle.spec_match_compiler.specs.declared.shape.Shape.TheVariants.{Word, Data}
use Rattle.spec_match_compiler.specs.Values.{Place}
use Rattle.spec_match_compiler.specs.Patterns.{Pattern, Patterns, any, bind, flag_is, word_is, case_is, no_pat, pat_then}
use Rattle.spec_match_compiler.specs.Shapes.{Types}
use Rattle.spec_match_compiler.specs.Picks.{Row}
use Rattle.spec_match_compiler.specs.Knowledge.{Knowledge, Parts, unknown, flag_known, word_known, others, case_known, part_then, unknowns, put, put_part}
use Rattle.spec_match_compiler.specs.Rule.{Test, flag_test, word_test, case_test, is_among, can_match, all_can_match, still}
use Rattle.spec_match_compiler.specs.Answers.{size, sizes}
use Rattle.spec_match_compiler.proofs.Truth.{and_left, and_right, not_true, among_last}
use Rattle.spec_match_compiler.proofs.Opens.{Before, Asks, Shows, Opens, OpensIn}

abbrev mutual
  -- how many positions of a pattern may still be tested
  pub weight : Pattern → Knowledge → ℕ
  weight (flag_is b) (unknown s) = 1
  weight (word_is n) (unknown s) = 1
  weight (word_is n) (others w ns) = cond (is_among n ns) 0 1
  weight (case_is c ps) (unknown s) = suc (sizes ps)
  weight (case_is c ps) (case_known d ks) = weights ps ks
  weight _ _ = 0

  pub weights : Patterns → Parts → ℕ
  weights (pat_then p ps) (part_then k ks) = weight p k + weights ps ks
  weights _ _ = 0

pub weight_unknown : (p : Pattern) (s : Shape) → weight p (unknown s) ≤ size p
weight_unknown any s = omega arith
weight_unknown (bind n) s = omega arith
weight_unknown (flag_is b) s = omega arith
weight_unknown (word_is n) s = omega arith
weight_unknown (case_is c ps) s = omega arith

weights_unknowns : (ps : Patterns) (shapes : List Shape) → weights ps (unknowns shapes) ≤ sizes ps
weights_unknowns no_pat shapes = omega arith
weights_unknowns (pat_then p ps) [] = omega arith
weights_unknowns (pat_then p ps) (s ∷ shapes) = omega (arith, weight_unknown p s, weights_unknowns ps shapes)

or_less : (a b : Bool) → cond (a || b) 0 1 ≤ cond a 0 1
or_less true b = omega arith
or_less false true = omega arith
or_less false false = omega arith

among_more : (m n : ℕ) (ns : List ℕ) → cond (is_among m (ns ++ n ∷ [])) 0 1 ≤ cond (is_among m ns) 0 1
among_more m n ns = rw (list_any-append (λ x. x == m) ns (n ∷ [])) (or_less (is_among m ns) (is_among m (n ∷ [])))

less_than_one : (b : Bool) → cond b 0 1 ≤ 1
less_than_one true = omega arith
less_than_one false = omega arith

-- where nothing is left of the position
no_more : (q : Pattern) (b : Bool) → weight q (flag_known b) ≡ 0
no_more any b = refl
no_more (bind n) b = refl
no_more (flag_is c) b = refl
no_more (word_is n) b = refl
no_more (case_is c ps) b = refl

no_more_word : (q : Pattern) (n : ℕ) → weight q (word_known n) ≡ 0
no_more_word any n = refl
no_more_word (bind m) n = refl
no_more_word (flag_is c) n = refl
no_more_word (word_is m) n = refl
no_more_word (case_is c ps) n = refl

others_less : (q : Pattern) (w n : ℕ) (ns : List ℕ) → weight q (others w (ns ++ n ∷ [])) ≤ weight q (others w ns)
others_less any w n ns = omega arith
others_less (bind m) w n ns = omega arith
others_less (flag_is c) w n ns = omega arith
others_less (word_is m) w n ns = among_more m n ns
others_less (case_is c ps) w n ns = omega arith

others_unknown : (q : Pattern) (w : ℕ) (ns : List ℕ) (s : Shape) → weight q (others w ns) ≤ weight q (unknown s)
others_unknown any w ns s = omega arith
others_unknown (bind m) w ns s = omega arith
others_unknown (flag_is c) w ns s = omega arith
others_unknown (word_is m) w ns s = less_than_one (is_among m ns)
others_unknown (case_is c ps) w ns s = omega arith

case_unknown : (q : Pattern) (c : ℕ) (shapes : List Shape) (s : Shape) → weight q (case_known c (unknowns shapes)) ≤ weight q (unknown s)
case_unknown any c shapes s = omega arith
case_unknown (bind m) c shapes s = omega arith
case_unknown (flag_is b) c shapes s = omega arith
case_unknown (word_is m) c shapes s = omega arith
case_unknown (case_is d ps) c shapes s = omega (arith, weights_unknowns ps shapes)

module _ (types : Types) where
  less_here : (q : Pattern) (k o : Knowledge) (test : Test) → Before test k → Shows types test o → weight q o ≤ weight q k
  less_here q k o flag_test before shows = rw (shows.1, no_more q shows.0) (omega arith)
  less_here q k o (word_test w ns n) before (inl shows) = rw (shows, no_more_word q n) (omega arith)
  less_here q k o (word_test w ns n) (inl before) (inr shows) = rw (before.0, shows) (others_unknown q w (ns ++ n ∷ []) (Word w))
  less_here q k o (word_test w ns n) (inr before) (inr shows) = rw (before.0, shows) (others_less q w n ns)
  less_here q k o (case_test t) before shows = rw (before, shows.3) (case_unknown q shows.0 shows.1 (Data t))

  mutual
    pub after_less : (p q : Pattern) (k o : Knowledge) (at : Place) (test : Test) → Opens p k at test → Shows types test o → weight q (put k at o) ≤ weight q k
    after_less p q k o [] test opens shows = less_here q k o test opens.1 shows
    after_less (case_is c ps) (case_is d qs) (case_known e ks) o (step ∷ at) test opens shows = all_less ps qs ks o step.1 at test opens.1 shows
    after_less (case_is c ps) any (case_known e ks) o (step ∷ at) test opens shows = omega arith
    after_less (case_is c ps) (bind n) (case_known e ks) o (step ∷ at) test opens shows = omega arith
    after_less (case_is c ps) (flag_is b) (case_known e ks) o (step ∷ at) test opens shows = omega arith
    after_less (case_is c ps) (word_is n) (case_known e ks) o (step ∷ at) test opens shows = omega arith
    after_less p q k o (step ∷ at) test opens shows = absurd opens

    all_less : (ps qs : Patterns) (ks : Parts) (o : Knowledge) (i : ℕ) (at : Place) (test : Test) → OpensIn ps ks i at test → Shows types test o → weights qs (put_part ks i at o) ≤ weights qs ks
    all_less (pat_then p ps) no_pat (part_then k ks) o i at test opens shows = omega arith
    all_less (pat_then p ps) (pat_then q qs) (part_then k ks) o zero at test opens shows = omega (arith, after_less p q k o at test opens shows)
    all_less (pat_then p ps) (pat_then q qs) (part_then k ks) o (suc i) at test opens shows = omega (arith, all_less ps qs ks o i at test opens shows)
    all_less _ _ _ o i at test opens shows = absurd opens

  strict_here : (p : Pattern) (k o : Knowledge) (test : Test) → Asks p test → Before test k → can_match p k ≡ true → Shows types test o → weight p o < weight p k
  strict_here p k o flag_test asks before can shows = rw (asks.1, before, shows.1) (omega arith)
  strict_here p k o (word_test w ns n) asks (inl before) can (inl shows) = rw (asks, before.0, shows) (omega arith)
  strict_here p k o (word_test w ns n) asks (inr before) can (inl shows) =
      let absent = not_true (is_among n ns) (rw (asks, before.0) at can) in
      rw (asks, before.0, shows, absent) (omega arith)
  strict_here p k o (word_test w ns n) asks (inl before) can (inr shows) = rw (asks, before.0, shows, among_last n ns) (omega arith)
  strict_here p k o (word_test w ns n) asks (inr before) can (inr shows) =
      let absent = not_true (is_among n ns) (rw (asks, before.0) at can) in
      rw (asks, before.0, shows, among_last n ns, absent) (omega arith)
  strict_here p k o (case_test t) asks before can shows = rw (asks.2, before, shows.3) (omega (arith, weights_unknowns asks.1 shows.1))

  mutual
    pub strict : (p : Pattern) (k o : Knowledge) (at : Place) (test : Test) → Opens p k at test → can_match p k ≡ true → Shows types test o → weight p (put k at o) < weight p k
    strict p k o [] test opens can shows = strict_here p k o test opens.0 opens.1 can shows
    strict (case_is c ps) (case_known e ks) o (step ∷ at) test opens can shows = all_strict ps ks o step.1 at test opens.1 (and_right (c == e) (all_can_match ps ks) can) shows
    strict p k o (step ∷ at) test opens can shows = absurd opens

    all_strict : (ps : Patterns) (ks : Parts) (o : Knowledge) (i : ℕ) (at : Place) (test : Test) → OpensIn ps ks i at test → all_can_match ps ks ≡ true → Shows types test o → weights ps (put_part ks i at o) < weights ps ks
    all_strict (pat_then p ps) (part_then k ks) o zero at test opens can shows = omega (arith, strict p k o at test opens (and_left (can_match p k) (all_can_match ps ks) can) shows)
    all_strict (pat_then p ps) (part_then k ks) o (suc i) at test opens can shows = omega (arith, all_strict ps ks o i at test opens (and_right (can_match p k) (all_can_match ps ks) can) shows)
    all_strict _ _ o i at test opens can shows = absurd opens

-- of all rows
abbrev pub total : List Row → Knowledge → ℕ
total [] k = 0
total (r ∷ rows) k = weight r.1 k + total rows k

total_more : (b : Bool) (r : Row) (rows rest : List Row) (k : Knowledge) → total rows k ≤ total rest k → total (cond b (r ∷ rows) rows) k ≤ total (r ∷ rest) k
total_more true r rows rest k h = omega (arith, h)
total_more false r rows rest k h = omega (arith, h)

total_still : (rows : List Row) (k : Knowledge) → total (still rows k) k ≤ total rows k
total_still [] k = omega arith
total_still (r ∷ rows) k = total_more (can_match r.1 k) r (still rows k) rows k (total_still rows k)

total_after : (types : Types) (p : Pattern) (rows : List Row) (k o : Knowledge) (at : Place) (test : Test) → Opens p k at test → Shows types test o → total rows (put k at o) ≤ total rows k
total_after types p [] k o at test opens shows = omega arith
total_after types p (r ∷ rows) k o at test opens shows = omega (arith, after_less types p r.1 k o at test opens shows, total_after types p rows k o at test opens shows)

pub falls : (types : Types) (first : Row) (rest : List Row) (k o : Knowledge) (at : Place) (test : Test) → Opens first.1 k at test → can_match first.1 k ≡ true → Shows types test o
    → total (still (first ∷ rest) (put k at o)) (put k at o) < total (first ∷ rest) k
falls types first rest k o at test opens can shows =
    omega (arith, total_still (first ∷ rest) (put k at o), strict types first.1 k o at test opens can shows, total_after types first.1 rest k o at test opens shows)
