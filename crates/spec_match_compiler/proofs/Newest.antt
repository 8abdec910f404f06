-- Of rows that could match before, those that still can are told by the number tested last.
use Rattle.std.proofs.Common.{◌≡◌, ℕ, zero, suc, inl, inr, true, false, ◌&&◌, ◌==◌, List, [], ◌∷◌, ◌++◌, refl, ap}
use Rattle.std.proofs.lemmas.List.Folds.{list_any-append}
use Rattle.spec_match_compiler.specs.Values.{Place}
use Rattle.spec_match_compiler.specs.Patterns.{Pattern, Patterns, any, bind, flag_is, word_is, case_is, no_pat, pat_then}
use Rattle.spec_match_compiler.specs.Picks.{Row}
use Rattle.spec_match_compiler.specs.Knowledge.{Knowledge, Parts, others, case_known, part_then, put, put_part}
use Rattle.spec_match_compiler.specs.Rule.{word_test, is_among, can_match, all_can_match, still}
use Rattle.spec_match_compiler.specs.Limits.{CanAll}
use Rattle.spec_match_compiler.specs.Steps.{AsksFirst}
use Rattle.spec_match_compiler.proofs.Truth.{and_left, and_right, not_true}
use Rattle.spec_match_compiler.proofs.Opens.{Before, Opens, OpensIn, first_opens}

among_newest : (m n : ℕ) (ns : List ℕ) → is_among m ns ≡ false → is_among m (ns ++ n ∷ []) ≡ is_among m (n ∷ [])
among_newest m n ns h = rw (list_any-append (λ x. x == m) ns (n ∷ []), h) refl

newest_here : (q : Pattern) (k : Knowledge) (u w n : ℕ) (ns : List ℕ) → Before (word_test w ns n) k → can_match q k ≡ true → can_match q (others u (n ∷ [])) ≡ can_match q (others w (ns ++ n ∷ []))
newest_here any k u w n ns before can = refl
newest_here (bind m) k u w n ns before can = refl
newest_here (flag_is c) k u w n ns before can = refl
newest_here (case_is c ps) k u w n ns before can = refl
newest_here (word_is m) k u w n ns (inl before) can = rw before.1 refl
newest_here (word_is m) k u w n ns (inr before) can = rw (among_newest m n ns (not_true (is_among m ns) (rw before.0 at can))) refl

mutual
  newest : (p q : Pattern) (k : Knowledge) (at : Place) (u w n : ℕ) (ns : List ℕ) → Opens p k at (word_test w ns n) → can_match q k ≡ true
      → can_match q (put k at (others u (n ∷ []))) ≡ can_match q (put k at (others w (ns ++ n ∷ [])))
  newest p q k [] u w n ns opens can = newest_here q k u w n ns opens.1 can
  newest (case_is c ps) (case_is d qs) (case_known e ks) (step ∷ at) u w n ns opens can =
      ap (λ b. d == e && b) (all_newest ps qs ks step.1 at u w n ns opens.1 (and_right (d == e) (all_can_match qs ks) can))
  newest (case_is c ps) any (case_known e ks) (step ∷ at) u w n ns opens can = refl
  newest (case_is c ps) (bind m) (case_known e ks) (step ∷ at) u w n ns opens can = refl
  newest (case_is c ps) (flag_is b) (case_known e ks) (step ∷ at) u w n ns opens can = refl
  newest (case_is c ps) (word_is m) (case_known e ks) (step ∷ at) u w n ns opens can = refl
  newest p q k (step ∷ at) u w n ns opens can = absurd opens

  all_newest : (ps qs : Patterns) (ks : Parts) (i : ℕ) (at : Place) (u w n : ℕ) (ns : List ℕ) → OpensIn ps ks i at (word_test w ns n) → all_can_match qs ks ≡ true
      → all_can_match qs (put_part ks i at (others u (n ∷ []))) ≡ all_can_match qs (put_part ks i at (others w (ns ++ n ∷ [])))
  all_newest (pat_then p ps) no_pat (part_then k ks) zero at u w n ns opens can = refl
  all_newest (pat_then p ps) no_pat (part_then k ks) (suc i) at u w n ns opens can = refl
  all_newest (pat_then p ps) (pat_then q qs) (part_then k ks) zero at u w n ns opens can =
      ap (λ b. b && all_can_match qs ks) (newest p q k at u w n ns opens (and_left (can_match q k) (all_can_match qs ks) can))
  all_newest (pat_then p ps) (pat_then q qs) (part_then k ks) (suc i) at u w n ns opens can =
      ap (λ b. can_match q k && b) (all_newest ps qs ks i at u w n ns opens (and_right (can_match q k) (all_can_match qs ks) can))
  all_newest _ _ _ i at u w n ns opens can = absurd opens

newest_rows : (p : Pattern) (rows : List Row) (k : Knowledge) (at : Place) (u w n : ℕ) (ns : List ℕ) → Opens p k at (word_test w ns n) → CanAll rows k
    → still rows (put k at (others u (n ∷ []))) ≡ still rows (put k at (others w (ns ++ n ∷ [])))
newest_rows p [] k at u w n ns opens can = refl
newest_rows p (r ∷ rows) k at u w n ns opens can = rw (newest p r.1 k at u w n ns opens can.0, newest_rows p rows k at u w n ns opens can.1) refl

pub newest_still : (rows : List Row) (k : Knowledge) (at : Place) (u w n : ℕ) (ns : List ℕ) → AsksFirst rows k at (word_test w ns n) → CanAll rows k
    → still rows (put k at (others u (n ∷ []))) ≡ still rows (put k at (others w (ns ++ n ∷ [])))
newest_still [] k at u w n ns asks can = absurd asks
newest_still (first ∷ rest) k at u w n ns asks can = newest_rows first.1 (first ∷ rest) k at u w n ns (first_opens first.1 k (at, word_test w ns n) asks) can
