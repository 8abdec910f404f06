-- What a test keeps.
use Rattle.std.proofs.Common.{◌≡◌, ℕ, zero, suc, ◌+◌, ◌⊎◌, inl, inr, Bool, true, false, cond, Some, List, [], ◌∷◌, ◌++◌, length, map, slice_get, ⊎_elim, refl, ap, arith}
use Rattle.word_operations.specs.Width.{IsWidth}
use Rattle.std.proofs.lemmas.List.{length-map}
use Rattle.spec_match_compiler.specs.declared.shape.Shape.{Shape}
use Rattle.spec_match_compiler.specs.Values.{Place}
use Rattle.spec_match_compiler.specs.Patterns.{Pattern, Patterns, case_is, pat_then}
use Rattle.spec_match_compiler.specs.Shapes.{Types, cases_of}
use Rattle.spec_match_compiler.specs.Picks.{Row}
use Rattle.spec_match_compiler.specs.Knowledge.{Knowledge, Parts, unknown, case_known, no_part, part_then, unknowns, put, put_part}
use Rattle.spec_match_compiler.specs.Rule.{Test, flag_test, word_test, case_test, can_match, still, outcomes, made_known}
use Rattle.spec_match_compiler.specs.Limits.{InLimits, AllInLimits, RowsInLimits, PatInLimits, ShapesInLimits, TypesInLimits, CanAll, parts_len}
use Rattle.spec_match_compiler.proofs.Loops.{parts_len-parts}
use Rattle.spec_match_compiler.proofs.Opens.{Before, Shows, Opens, OpensIn}

put_len : (ks : Parts) (i : ℕ) (at : Place) (o : Knowledge) → parts_len (put_part ks i at o) ≡ parts_len ks
put_len no_part i at o = refl
put_len (part_then k ks) zero at o = refl
put_len (part_then k ks) (suc i) at o = ap suc (put_len ks i at o)

mutual
  pub put_limits : (k o : Knowledge) (at : Place) → InLimits k → InLimits o → InLimits (put k at o)
  put_limits k o [] h g = g
  put_limits (case_known c ks) o (step ∷ at) h g = (rw (put_len ks step.1 at o) h.0, part_limits ks o step.1 at h.1 g)
  put_limits k o (step ∷ at) h g = h

  part_limits : (ks : Parts) (o : Knowledge) (i : ℕ) (at : Place) → AllInLimits ks → InLimits o → AllInLimits (put_part ks i at o)
  part_limits no_part o i at h g = h
  part_limits (part_then k ks) o zero at h g = (put_limits k o at h.0 g, h.1)
  part_limits (part_then k ks) o (suc i) at h g = (h.0, part_limits ks o i at h.1 g)

abbrev pub TestInLimits : Test → Type 0
TestInLimits (word_test w ns n) = IsWidth w
TestInLimits _ = Unit {0}

test_here_limits : (k : Knowledge) (test : Test) → Before test k → InLimits k → TestInLimits test
test_here_limits k flag_test before h = tt
test_here_limits k (word_test w ns n) (inl before) h = rw before.0 at h
test_here_limits k (word_test w ns n) (inr before) h = rw before.0 at h
test_here_limits k (case_test t) before h = tt

mutual
  pub test_limits : (p : Pattern) (k : Knowledge) (at : Place) (test : Test) → Opens p k at test → InLimits k → TestInLimits test
  test_limits p k [] test opens h = test_here_limits k test opens.1 h
  test_limits (case_is c ps) (case_known d ks) (step ∷ at) test opens h = test_in_limits ps ks step.1 at test opens.1 h.1
  test_limits p k (step ∷ at) test opens h = absurd opens

  test_in_limits : (ps : Patterns) (ks : Parts) (i : ℕ) (at : Place) (test : Test) → OpensIn ps ks i at test → AllInLimits ks → TestInLimits test
  test_in_limits (pat_then p ps) (part_then k ks) zero at test opens h = test_limits p k at test opens h.0
  test_in_limits (pat_then p ps) (part_then k ks) (suc i) at test opens h = test_in_limits ps ks i at test opens h.1
  test_in_limits _ _ i at test opens h = absurd opens

unknowns_limits : (shapes : List Shape) → ShapesInLimits shapes → AllInLimits (unknowns shapes)
unknowns_limits [] h = tt
unknowns_limits (s ∷ shapes) h = (h.0, unknowns_limits shapes h.1)

pub shows_limits : (types : Types) (test : Test) (o : Knowledge) → TypesInLimits types → TestInLimits test → Shows types test o → InLimits o
shows_limits types flag_test o all h shows = rw shows.1 tt
shows_limits types (word_test w ns n) o all h (inl shows) = rw shows tt
shows_limits types (word_test w ns n) o all h (inr shows) = rw shows h
shows_limits types (case_test t) o all h shows =
    let len : parts_len (unknowns shows.1) ≡ length shows.1 = rw (parts_len-parts (map unknown shows.1), length-map) refl in
    rw shows.3 (rw len (all.fields t shows.0 shows.1 shows.2), unknowns_limits shows.1 (all.shapes t shows.0 shows.1 shows.2))

can_more : (b : Bool) (r : Row) (rows : List Row) (k : Knowledge) → can_match r.1 k ≡ b → CanAll rows k → CanAll (cond b (r ∷ rows) rows) k
can_more true r rows k e h = (e, h)
can_more false r rows k e h = h

pub still_can : (rows : List Row) (k : Knowledge) → CanAll (still rows k) k
still_can [] k = tt
still_can (r ∷ rows) k = can_more (can_match r.1 k) r (still rows k) k refl (still_can rows k)

limits_more : (b : Bool) (r : Row) (rows : List Row) → PatInLimits r.1 → RowsInLimits rows → RowsInLimits (cond b (r ∷ rows) rows)
limits_more true r rows h g = (h, g)
limits_more false r rows h g = g

pub still_limits : (rows : List Row) (k : Knowledge) → RowsInLimits rows → RowsInLimits (still rows k)
still_limits [] k h = h
still_limits (r ∷ rows) k h = limits_more (can_match r.1 k) r (still rows k) h.0 (still_limits rows k h.1)

-- what a test may show
made_shown : (n : ℕ) (cases : List (List Shape)) (earlier later : List Knowledge) (o : Knowledge) → made_known n cases ≡ earlier ++ o ∷ later
    → (j : ℕ) × (shapes : List Shape) × (slice_get cases j ≡ Some shapes) × (o ≡ case_known (n + j) (unknowns shapes))
made_shown n [] [] later o h = absurd (cc)
made_shown n [] (e ∷ earlier) later o h = absurd (cc)
made_shown n (fields ∷ cases) [] later o h =
    let is : o ≡ case_known n (unknowns fields) = cc in
    let same : n + 0 ≡ n = omega arith in
    (0, fields, refl, rw same is)
made_shown n (fields ∷ cases) (e ∷ earlier) later o h =
    let tail : made_known (n + 1) cases ≡ earlier ++ o ∷ later = cc in
    let d = made_shown (n + 1) cases earlier later o tail in
    let same : n + 1 + d.0 ≡ n + suc d.0 = omega arith in
    (suc d.0, d.1, d.2, rw (← same) d.3)

two_shown : (a b : Knowledge) (earlier later : List Knowledge) (o : Knowledge) → (a ∷ (b ∷ [])) ≡ earlier ++ o ∷ later → (o ≡ a) ⊎ (o ≡ b)
two_shown a b [] later o h = inl (cc)
two_shown a b (e ∷ []) later o h = inr (cc)
two_shown a b (e ∷ (f ∷ [])) later o h = absurd (cc)
two_shown a b (e ∷ (f ∷ (g ∷ earlier))) later o h = absurd (cc)

pub shown : (types : Types) (test : Test) (earlier later : List Knowledge) (o : Knowledge) → outcomes types test ≡ earlier ++ o ∷ later → Shows types test o
shown types flag_test earlier later o h = ⊎_elim (λ e. (true, e)) (λ e. (false, e)) (two_shown _ _ earlier later o h)
shown types (word_test w ns n) earlier later o h = two_shown _ _ earlier later o h
shown types (case_test t) earlier later o h =
    let d = made_shown 0 (cases_of types t) earlier later o h in
    let same : 0 + d.0 ≡ d.0 = omega arith in
    (d.0, d.1, d.2, rw same at d.3)
