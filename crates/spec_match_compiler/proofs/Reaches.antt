-- The value at a tested place, and what a test shows of the whole.
use Rattle.std.proofs.Common.{◌≡◌, ℕ, zero, suc, ◌+◌, ◌<◌, ◌≤◌, ◌^◌, ◌⊎◌, inl, inr, true, false, ◌==◌, Some, List, [], ◌∷◌, ◌++◌, length, refl, sym, ap, ◌∙◌, subst, arith, pow_pos, pow-suc}
use Rattle.std.proofs.lemmas.Bool.Decides.{nat_tests}
use Rattle.spec_match_compiler.specs.declared.shape.Shape.{Shape}
use Rattle.spec_match_compiler.specs.declared.shape.Shape.TheVariants.{Bool as Flag, Word, Data, Opaque}
use Rattle.spec_match_compiler.specs.Values.{Value, Values, Place, word, made, no_value, value_then, value_at, part_at}
use Rattle.spec_match_compiler.specs.Patterns.{Pattern, Patterns, word_is, case_is, pat_then}
use Rattle.spec_match_compiler.specs.Shapes.{Types, fields_of, HasShape, Suits, AllSuit}
use Rattle.spec_match_compiler.specs.Knowledge.{Knowledge, Parts, word_known, others, case_known, part_then, unknowns, put, put_part}
use Rattle.spec_match_compiler.specs.Rule.{Test, flag_test, word_test, case_test, can_match, all_can_match, is_among}
use Rattle.spec_match_compiler.specs.Limits.{ShapesInLimits, TypesInLimits}
use Rattle.spec_match_compiler.proofs.Truth.{and_left, and_right, not_true, equal_itself}
use Rattle.spec_match_compiler.proofs.Numbers.{apart_push, less_push}
use Rattle.spec_match_compiler.proofs.Opens.{Before, Asks, Shows, Opens, OpensIn}
use Rattle.spec_match_compiler.proofs.Fits.{Fits, AllFit, KnownAs, AllKnownAs}
use Rattle.spec_match_compiler.proofs.Settled.{some_shapes}
use Rattle.std.proofs.lemmas.List.{length-append}

two_words : (w : ℕ) → 1 ≤ w → 1 < 2 ^ w
two_words (suc w) h = rw pow-suc (omega (arith, pow_pos w))
two_words zero h = absurd (omega arith)

equal_numbers : (c d : ℕ) → (c == d) ≡ true → c ≡ d
equal_numbers c d h = grind (arith, nat_tests)

module _ (types : Types) where
  -- what the value at a tested place is, before the test
  abbrev pub FitsTest : Test → Value → Type 0
  FitsTest flag_test u = HasShape types Flag u
  FitsTest (word_test w ns n) u = (m : ℕ) × (u ≡ word m) × (m < 2 ^ w) × (is_among m ns ≡ false)
  FitsTest (case_test t) u = HasShape types (Data t) u

  fits_before : (k : Knowledge) (test : Test) (v : Value) → Before test k → Fits types k v → FitsTest test v
  fits_before k flag_test v before fits = subst (λ x. Fits types x v) before fits
  fits_before k (word_test w ns n) (word m) (inl before) fits = (m, refl, subst (λ x. Fits types x (word m)) before.0 fits, rw before.1 refl)
  fits_before k (word_test w ns n) (word m) (inr before) fits = let f = subst (λ x. Fits types x (word m)) before.0 fits in (m, refl, f.0, f.1)
  fits_before k (word_test w ns n) v (inl before) fits = absurd (subst (λ x. Fits types x v) before.0 fits)
  fits_before k (word_test w ns n) v (inr before) fits = absurd (subst (λ x. Fits types x v) before.0 fits)
  fits_before k (case_test t) v before fits = subst (λ x. Fits types x v) before fits

  pub record Reached (k : Knowledge) (v : Value) (at : Place) (test : Test) : Type 0 where
    pub there : Value
    pub is : value_at v at ≡ Some there
    pub fits : FitsTest test there
    pub shows : (o : Knowledge) → Fits types o there → Fits types (put k at o) v

  pub record ReachedIn (ks : Parts) (vs : Values) (i : ℕ) (at : Place) (test : Test) : Type 0 where
    pub there : Value
    pub is : part_at vs i at ≡ Some there
    pub fits : FitsTest test there
    pub shows : (o : Knowledge) → Fits types o there → AllFit types (put_part ks i at o) vs

  mutual
    pub reaches : (p : Pattern) (k : Knowledge) (v : Value) (at : Place) (test : Test) → Opens p k at test → Fits types k v → Reached k v at test
    reaches p k v [] test opens fits = record { there = v; is = refl; fits = fits_before k test v opens.1 fits; shows = λ o f. f }
    reaches (case_is c ps) (case_known d ks) (made e vs) (step ∷ at) test opens fits =
        let r = reaches_in ps ks vs step.1 at test opens.1 fits.1 in
        let same : (e == step.0) ≡ true = rw (fits.0, opens.0) (equal_itself d) in
        record { there = r.there; is = rw same r.is; fits = r.fits; shows = λ o f. (fits.0, r.shows o f) }
    reaches (case_is c ps) (case_known d ks) v (step ∷ at) test opens fits = absurd fits
    reaches p k v (step ∷ at) test opens fits = absurd opens

    reaches_in : (ps : Patterns) (ks : Parts) (vs : Values) (i : ℕ) (at : Place) (test : Test) → OpensIn ps ks i at test → AllFit types ks vs → ReachedIn ks vs i at test
    reaches_in (pat_then p ps) (part_then k ks) (value_then v vs) zero at test opens fits =
        let r = reaches p k v at test opens fits.0 in
        record { there = r.there; is = r.is; fits = r.fits; shows = λ o f. (r.shows o f, fits.1) }
    reaches_in (pat_then p ps) (part_then k ks) (value_then v vs) (suc i) at test opens fits =
        let r = reaches_in ps ks vs i at test opens fits.1 in
        record { there = r.there; is = r.is; fits = r.fits; shows = λ o f. (fits.0, r.shows o f) }
    reaches_in (pat_then p ps) (part_then k ks) no_value i at test opens fits = absurd fits
    reaches_in _ _ vs i at test opens fits = absurd opens

  unknown_fields : TypesInLimits types → (shapes : List Shape) → ShapesInLimits shapes → AllKnownAs types shapes (unknowns shapes)
  unknown_fields all [] h = tt
  unknown_fields all (s ∷ shapes) h = ((refl, h.0), unknown_fields all shapes h.1)

  known_others : (s : Shape) (p : Pattern) (k o : Knowledge) (w : ℕ) (ns : List ℕ) (n : ℕ) → p ≡ word_is n → k ≡ others w ns → length ns + 1 < 2 ^ w → Suits types s p → KnownAs types s k → can_match p k ≡ true
      → (o ≡ word_known n) ⊎ (o ≡ others w (ns ++ n ∷ [])) → KnownAs types s o
  known_others (Word u) p k o w ns n asks is few suits known can (inl shows) = rw shows (rw asks at suits)
  known_others (Word u) p k o w ns n asks is few suits known can (inr shows) =
      let has = subst (λ x. KnownAs types (Word u) x) is known in
      let absent = not_true (is_among n ns) (rw (asks, is) at can) in
      let less : n < 2 ^ u = rw asks at suits in
      let len : length (ns ++ n ∷ []) < 2 ^ u = simp length-append (rw has.0 at few) in
      rw shows (has.0, apart_push n ns has.1 absent, less_push (2 ^ u) n ns has.2 less, len)
  known_others Flag p k o w ns n asks is few suits known can shows = absurd (rw asks at suits)
  known_others (Data t) p k o w ns n asks is few suits known can shows = absurd (rw asks at suits)
  known_others Opaque p k o w ns n asks is few suits known can shows = absurd (rw asks at suits)

  known_here : TypesInLimits types → (s : Shape) (p : Pattern) (k o : Knowledge) (test : Test) → Asks p test → Before test k → Suits types s p → KnownAs types s k → can_match p k ≡ true → Shows types test o → KnownAs types s (put k [] o)
  known_here all s p k o flag_test asks before suits known can shows =
      let is = (subst (λ x. KnownAs types s x) before known).0 in
      rw (shows.1, ← is) tt
  known_here all s p k o (word_test w ns n) asks (inl before) suits known can (inl shows) =
      let is = (subst (λ x. KnownAs types s x) before.0 known).0 in
      let fit = rw (asks, ← is) at suits in
      rw (shows, ← is) fit
  known_here all s p k o (word_test w ns n) asks (inl before) suits known can (inr shows) =
      let has = subst (λ x. KnownAs types s x) before.0 known in
      let fit = rw (asks, ← has.0) at suits in
      rw (shows, before.1, ← has.0) (refl, (refl, tt), (fit, tt), two_words w has.1.0)
  known_here all s p k o (word_test w ns n) asks (inr before) suits known can shows = known_others s p k o w ns n asks before.0 before.1 suits known can shows
  known_here all s p k o (case_test t) asks before suits known can shows =
      let is = (subst (λ x. KnownAs types s x) before known).0 in
      rw (shows.3, ← is) (shows.1, shows.2, unknown_fields all shows.1 (all.shapes t shows.0 shows.1 shows.2))

  mutual
    pub known_after : TypesInLimits types → (s : Shape) (p : Pattern) (k o : Knowledge) (at : Place) (test : Test) → Opens p k at test → Suits types s p → KnownAs types s k → can_match p k ≡ true → Shows types test o → KnownAs types s (put k at o)
    known_after all s p k o [] test opens suits known can shows = known_here all s p k o test opens.0 opens.1 suits known can shows
    known_after all (Data t) (case_is c ps) (case_known d ks) o (step ∷ at) test opens suits known can shows =
        let same : c ≡ d = equal_numbers c d (and_left (c == d) (all_can_match ps ks) can) in
        let shapes : suits.0 ≡ known.0 = some_shapes _ _ (sym suits.1 ∙ ap (fields_of types t) same ∙ known.1) in
        (known.0, known.1, known_after_in all known.0 ps ks o step.1 at test opens.1 (subst (λ x. AllSuit types x ps) shapes suits.2) known.2 (and_right (c == d) (all_can_match ps ks) can) shows)
    known_after all s (case_is c ps) (case_known d ks) o (step ∷ at) test opens suits known can shows = absurd suits
    known_after all s p k o (step ∷ at) test opens suits known can shows = absurd opens

    known_after_in : TypesInLimits types → (shapes : List Shape) (ps : Patterns) (ks : Parts) (o : Knowledge) (i : ℕ) (at : Place) (test : Test) → OpensIn ps ks i at test → AllSuit types shapes ps → AllKnownAs types shapes ks → all_can_match ps ks ≡ true → Shows types test o → AllKnownAs types shapes (put_part ks i at o)
    known_after_in all (s ∷ shapes) (pat_then p ps) (part_then k ks) o zero at test opens suits known can shows =
        (known_after all s p k o at test opens suits.0 known.0 (and_left (can_match p k) (all_can_match ps ks) can) shows, known.1)
    known_after_in all (s ∷ shapes) (pat_then p ps) (part_then k ks) o (suc i) at test opens suits known can shows =
        (known.0, known_after_in all shapes ps ks o i at test opens suits.1 known.1 (and_right (can_match p k) (all_can_match ps ks) can) shows)
    known_after_in all [] (pat_then p ps) ks o i at test opens suits known can shows = absurd suits
    known_after_in all shapes ps ks o i at test opens suits known can shows = absurd opens
