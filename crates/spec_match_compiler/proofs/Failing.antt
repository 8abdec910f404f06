-- Failures and useless rows.
use Rattle.std.proofs.Common.{◌≡◌, ℕ, zero, suc, ◌+◌, ◌<◌, ◌^◌, ◌⊎◌, inl, inr, ⊎_elim, Bool, true, false, cond, ◌||◌, ◌==◌, Option, Some, None, option_and_then, slice_get, List, [], ◌∷◌, ◌++◌, refl, sym, ap, ◌∙◌, subst, arith}
use Rattle.std.proofs.lemmas.Bool.Decides.{nat_tests}
use Rattle.spec_match_compiler.specs.declared.shape.Shape.{Shape}
use Rattle.spec_match_compiler.specs.declared.shape.Shape.TheVariants.{Word, Data}
use Rattle.spec_match_compiler.specs.Values.{Value, Values, Place, flag, word, made, thing, no_value, value_then, value_at}
use Rattle.spec_match_compiler.specs.Patterns.{Pattern, Patterns, word_is, case_is, pat_then}
use Rattle.spec_match_compiler.specs.Shapes.{Types, fields_of, cases_of, HasShape, HaveShapes, Suits, AllSuit, AreTypes, IsShape}
use Rattle.spec_match_compiler.specs.Meets.{meets, bindings}
use Rattle.spec_match_compiler.specs.Picks.{Row, Choice, first_match, picks, arm_at, case_at, word_branch, flag_branch}
use Rattle.spec_match_compiler.specs.Decisions.{Decision, Decisions, row, on_case, on_word, on_flag, no_tree, tree_then}
use Rattle.spec_match_compiler.specs.Names.{names, some_names}
use Rattle.spec_match_compiler.specs.Knowledge.{Knowledge, Parts, flag_known, word_known, others, case_known, part_then, unknowns, put, put_part}
use Rattle.spec_match_compiler.specs.Rule.{Test, flag_test, word_test, case_test, can_match, all_can_match, is_among, first_test, still, made_known, IsTree, AreTrees, Fails, no_row, after_test}
use Rattle.spec_match_compiler.specs.Limits.{TypesInLimits, CanAll}
use Rattle.spec_match_compiler.proofs.Truth.{and_left, and_right, not_true, equal_itself}
use Rattle.spec_match_compiler.proofs.Numbers.{or_false_left}
use Rattle.spec_match_compiler.proofs.Opens.{Before, Asks, Opens, OpensIn, Shows, first_opens}
use Rattle.spec_match_compiler.proofs.Kept.{still_can, shown}
use Rattle.spec_match_compiler.proofs.Fits.{Fits, AllFit, KnownAs, AllKnownAs}
use Rattle.spec_match_compiler.proofs.Settled.{settled, some_shapes}
use Rattle.spec_match_compiler.proofs.Reaches.{known_after}
use Rattle.spec_match_compiler.proofs.Soundness.{RowsSuit, still_suit, first_still}
use Rattle.spec_match_compiler.proofs.Filled.{filled, fits_shape, example_fits}
use Rattle.std.proofs.lemmas.List.Folds.{list_any-append}

or_parts : (a b : Bool) → (a || b) ≡ true → (a ≡ true) ⊎ (b ≡ true)
or_parts true b h = inl refl
or_parts false b h = inr h

equal_numbers : (c d : ℕ) → (c == d) ≡ true → c ≡ d
equal_numbers c d h = grind (arith, nat_tests)

module _ (types : Types) where
  fields_have : (shapes : List Shape) (us : Values) → AllFit types (unknowns shapes) us → HaveShapes types shapes us
  fields_have [] no_value h = tt
  fields_have (s ∷ shapes) (value_then u us) h = (h.0, fields_have shapes us h.1)
  fields_have [] (value_then u us) h = absurd h
  fields_have (s ∷ shapes) no_value h = absurd h

  still_among : (m n w : ℕ) (ns : List ℕ) → Fits types (others w (ns ++ n ∷ [])) (word m) → (m < 2 ^ w) × (is_among m ns ≡ false)
  still_among m n w ns fits = (fits.0, or_false_left (is_among m ns) (is_among m (n ∷ [])) (rw (list_any-append (λ x. x == m) ns (n ∷ [])) at fits.1))

  others_back : (k : Knowledge) (w n : ℕ) (ns : List ℕ) (v : Value) → Before (word_test w ns n) k → Fits types (others w (ns ++ n ∷ [])) v → Fits types k v
  others_back k w n ns (word m) (inl before) fits = rw before.0 fits.0
  others_back k w n ns (word m) (inr before) fits = rw before.0 (still_among m n w ns fits)
  others_back k w n ns (flag b) before fits = absurd fits
  others_back k w n ns (made c vs) before fits = absurd fits
  others_back k w n ns (thing b) before fits = absurd fits

  case_back : (t c : ℕ) (shapes : List Shape) (v : Value) → fields_of types t c ≡ Some shapes → Fits types (case_known c (unknowns shapes)) v → HasShape types (Data t) v
  case_back t c shapes (made e vs) field fits = (shapes, rw fits.0 field, fields_have shapes vs fits.1)
  case_back t c shapes (flag b) field fits = absurd fits
  case_back t c shapes (word b) field fits = absurd fits
  case_back t c shapes (thing b) field fits = absurd fits

  word_back : (s : Shape) (k : Knowledge) (w n : ℕ) (ns : List ℕ) (v : Value) → Suits types s (word_is n) → KnownAs types s k → can_match (word_is n) k ≡ true → Before (word_test w ns n) k → v ≡ word n → Fits types k v
  word_back (Word u) k w n ns v suits known can (inl before) is =
      let e = (subst (λ x. KnownAs types (Word u) x) before.0 known).0 in
      rw (before.0, is) (subst (λ x. HasShape types x (word n)) (sym e) suits)
  word_back (Word u) k w n ns v suits known can (inr before) is =
      let e = (subst (λ x. KnownAs types (Word u) x) before.0 known).0 in
      rw (before.0, is) (rw e suits, not_true (is_among n ns) (rw before.0 at can))
  word_back s k w n ns v suits known can before is = absurd suits

  back_here : (s : Shape) (p : Pattern) (k o : Knowledge) (test : Test) (v : Value) → Asks p test → Before test k → Suits types s p → KnownAs types s k → can_match p k ≡ true → Shows types test o → Fits types o v → Fits types k v
  back_here s p k o flag_test v asks before suits known can shows fits = rw before (rw (rw shows.1 at fits) tt)
  back_here s p k o (word_test w ns n) v asks before suits known can (inl shows) fits = word_back s k w n ns v (rw asks at suits) known (rw asks at can) before (rw shows at fits)
  back_here s p k o (word_test w ns n) v asks before suits known can (inr shows) fits = others_back k w n ns v before (rw shows at fits)
  back_here s p k o (case_test t) v asks before suits known can shows fits = rw before (case_back t shows.0 shows.1 v shows.2 (rw shows.3 at fits))

  mutual
    -- what fits after a test fitted before
    pub back : (s : Shape) (p : Pattern) (k o : Knowledge) (at : Place) (test : Test) (v : Value) → Opens p k at test → Suits types s p → KnownAs types s k → can_match p k ≡ true → Shows types test o → Fits types (put k at o) v → Fits types k v
    back s p k o [] test v opens suits known can shows fits = back_here s p k o test v opens.0 opens.1 suits known can shows fits
    back (Data t) (case_is c ps) (case_known d ks) o (step ∷ at) test (made e vs) opens suits known can shows fits =
        let same : c ≡ d = equal_numbers c d (and_left (c == d) (all_can_match ps ks) can) in
        let shapes : suits.0 ≡ known.0 = some_shapes _ _ (sym suits.1 ∙ ap (fields_of types t) same ∙ known.1) in
        (fits.0, all_back known.0 ps ks o step.1 at test vs opens.1 (subst (λ x. AllSuit types x ps) shapes suits.2) known.2 (and_right (c == d) (all_can_match ps ks) can) shows fits.1)
    back (Data t) (case_is c ps) (case_known d ks) o (step ∷ at) test v opens suits known can shows fits = absurd fits
    back s (case_is c ps) (case_known d ks) o (step ∷ at) test v opens suits known can shows fits = absurd suits
    back s p k o (step ∷ at) test v opens suits known can shows fits = absurd opens

    all_back : (shapes : List Shape) (ps : Patterns) (ks : Parts) (o : Knowledge) (i : ℕ) (at : Place) (test : Test) (vs : Values) → OpensIn ps ks i at test → AllSuit types shapes ps → AllKnownAs types shapes ks → all_can_match ps ks ≡ true → Shows types test o → AllFit types (put_part ks i at o) vs → AllFit types ks vs
    all_back (s ∷ shapes) (pat_then p ps) (part_then k ks) o zero at test (value_then v vs) opens suits known can shows fits =
        (back s p k o at test v opens suits.0 known.0 (and_left (can_match p k) (all_can_match ps ks) can) shows fits.0, fits.1)
    all_back (s ∷ shapes) (pat_then p ps) (part_then k ks) o (suc i) at test (value_then v vs) opens suits known can shows fits =
        (fits.0, all_back shapes ps ks o i at test vs opens suits.1 known.1 (and_right (can_match p k) (all_can_match ps ks) can) shows fits.1)
    all_back (s ∷ shapes) (pat_then p ps) (part_then k ks) o zero at test no_value opens suits known can shows fits = absurd fits
    all_back (s ∷ shapes) (pat_then p ps) (part_then k ks) o (suc i) at test no_value opens suits known can shows fits = absurd fits
    all_back [] (pat_then p ps) ks o i at test vs opens suits known can shows fits = absurd suits
    all_back shapes ps ks o i at test vs opens suits known can shows fits = absurd opens

module _ (types : Types) (all : AreTypes types) (limits : TypesInLimits types) (s : Shape) (shape : IsShape types s) where
  -- What a failure's example says.
  pub record Unmatched (rows : List Row) (k : Knowledge) (p : Pattern) : Type 0 where
    pub some : (v : Value) × HasShape types s v × (meets p v ≡ true)
    pub none : (v : Value) → HasShape types s v → meets p v ≡ true → Fits types k v × (first_match rows v ≡ None)

  pub failing : (rows : List Row) (k : Knowledge) (p : Pattern) → Fails types rows k p → RowsSuit types s rows → KnownAs types s k → CanAll rows k → Unmatched rows k p
  failing _ _ _ (no_row k) suit known can =
      let f = filled types all k s shape known in
      record { some = (f.value, fits_shape types s k f.value known f.fits, f.meets_it); none = λ v has m. (example_fits types s k v known has m, refl) }
  failing _ _ _ (after_test first rest k there at test earlier later ts p found split are fails) suit known can =
      let opens = first_opens first.1 k (at, test) found in
      let shows = shown types test earlier later there split in
      let after = known_after types limits s first.1 k there at test opens suit.0 known can.0 shows in
      let deeper = failing (still (first ∷ rest) (put k at there)) (put k at there) p fails (still_suit types s (first ∷ rest) (put k at there) suit) after (still_can (first ∷ rest) (put k at there)) in
      record {
        some = deeper.some;
        none = λ v has m. let d = deeper.none v has m in
            (back types s first.1 k there at test v opens suit.0 known can.0 shows d.0, sym (first_still types (first ∷ rest) (put k at there) v d.0) ∙ d.1);
      }

  -- some value's first row is r
  abbrev pub Chosen : ℕ → List Row → Knowledge → Type 0
  Chosen r rows k = (v : Value) × (binds : List (ℕ × Place)) × Fits types k v × (first_match rows v ≡ Some (r, binds))

  abbrev pub NamedTree : Decision → Type 0
  NamedTree t = (r : ℕ) (rows : List Row) (k : Knowledge) → names t r ≡ true → IsTree types rows k t → RowsSuit types s rows → KnownAs types s k → CanAll rows k → Chosen r rows k

  row_named : (n : ℕ) (binds : List (ℕ × Place)) → NamedTree (row n binds)
  row_named n binds r [] k named is suit known can = absurd is
  row_named n binds r (first ∷ rest) k named is suit known can =
      let f = filled types all k s shape known in
      let same : first.0 ≡ r = sym is.1 ∙ equal_numbers n r named in
      (f.value, bindings [] first.1, f.fits, rw (settled types s first.1 k f.value suit.0 known can.0 is.0 f.fits, same) refl)

  under : (t : Decision) → NamedTree t → (r : ℕ) (first : Row) (rest : List Row) (k o : Knowledge) (at : Place) (test : Test) → first_test first.1 k ≡ Some (at, test) → Shows types test o → names t r ≡ true
      → IsTree types (still (first ∷ rest) (put k at o)) (put k at o) t → RowsSuit types s (first ∷ rest) → KnownAs types s k → CanAll (first ∷ rest) k → Chosen r (first ∷ rest) k
  under t ih r first rest k o at test found shows named is suit known can =
      let opens = first_opens first.1 k (at, test) found in
      let after = known_after types limits s first.1 k o at test opens suit.0 known can.0 shows in
      let d = ih r (still (first ∷ rest) (put k at o)) (put k at o) named is (still_suit types s (first ∷ rest) (put k at o) suit) after (still_can (first ∷ rest) (put k at o)) in
      (d.0, d.1, back types s first.1 k o at test d.0 opens suit.0 known can.0 shows d.2, sym (first_still types (first ∷ rest) (put k at o) d.0 d.2) ∙ d.3)

  flag_named : (at : Place) (a b : Decision) → NamedTree a → NamedTree b → NamedTree (on_flag at a b)
  flag_named at a b ha hb r [] k named is suit known can = absurd is
  flag_named at a b ha hb r (first ∷ rest) k named is suit known can =
      ⊎_elim (λ n. under a ha r first rest k (flag_known true) at flag_test is.0 (true, refl) n is.1 suit known can)
      (λ n. under b hb r first rest k (flag_known false) at flag_test is.0 (false, refl) n is.2 suit known can) (or_parts (names a r) (names b r) named)

  word_named : (at : Place) (n : ℕ) (a b : Decision) → NamedTree a → NamedTree b → NamedTree (on_word at n a b)
  word_named at n a b ha hb r [] k named is suit known can = absurd is
  word_named at n a b ha hb r (first ∷ rest) k named is suit known can =
      ⊎_elim (λ m. under a ha r first rest k (word_known n) at (word_test is.0 is.1 n) is.2 (inl refl) m is.3 suit known can)
      (λ m. under b hb r first rest k (others is.0 (is.1 ++ n ∷ [])) at (word_test is.0 is.1 n) is.2 (inr refl) m is.4 suit known can) (or_parts (names a r) (names b r) named)

  abbrev pub NamedArms : Decisions → Type 0
  NamedArms ts = (r : ℕ) (first : Row) (rest : List Row) (k : Knowledge) (at : Place) (t : ℕ) (n : ℕ) (cases : List (List Shape)) → ((c : ℕ) (shapes : List Shape) → slice_get cases c ≡ Some shapes → fields_of types t (n + c) ≡ Some shapes)
      → first_test first.1 k ≡ Some (at, case_test t) → some_names ts r ≡ true → AreTrees types (first ∷ rest) k at (made_known n cases) ts → RowsSuit types s (first ∷ rest) → KnownAs types s k → CanAll (first ∷ rest) k
      → Chosen r (first ∷ rest) k

  none_named : NamedArms no_tree
  none_named r first rest k at t n cases fields found named are suit known can = absurd (cc)

  arms_named : (t : Decision) (ts : Decisions) → NamedTree t → NamedArms ts → NamedArms (tree_then t ts)
  arms_named t ts h hs r first rest k at ty n [] fields found named are suit known can = absurd are
  arms_named t ts h hs r first rest k at ty n (shapes ∷ cases) fields found named are suit known can =
      let none : n + 0 ≡ n = omega arith in
      let here : fields_of types ty n ≡ Some shapes = rw none at (fields 0 shapes refl) in
      ⊎_elim (λ m. under t h r first rest k (case_known n (unknowns shapes)) at (case_test ty) found (n, shapes, here, refl) m are.0 suit known can)
      (λ m. hs r first rest k at ty (n + 1) cases (λ c fs e. let same : n + suc c ≡ n + 1 + c = omega arith in rw same at (fields (suc c) fs e)) found m are.1 suit known can)
      (or_parts (names t r) (some_names ts r) named)

  case_named : (at : Place) (arms : Decisions) → NamedArms arms → NamedTree (on_case at arms)
  case_named at arms h r [] k named is suit known can = absurd is
  case_named at arms h r (first ∷ rest) k named is suit known can =
      h r first rest k at is.0 0 (cases_of types is.0) (λ c shapes e. let same : 0 + c ≡ c = omega arith in rw same e) is.1 named is.2 suit known can

  mutual
    pub named_tree : (t : Decision) → NamedTree t
    named_tree (row n binds) = row_named n binds
    named_tree (on_flag at a b) = flag_named at a b (named_tree a) (named_tree b)
    named_tree (on_word at n a b) = word_named at n a b (named_tree a) (named_tree b)
    named_tree (on_case at arms) = case_named at arms (named_arms arms)

    named_arms : (ts : Decisions) → NamedArms ts
    named_arms no_tree = none_named
    named_arms (tree_then t ts) = arms_named t ts (named_tree t) (named_arms ts)

-- What a tree picks is named in it.
or_left : (a b : Bool) → a ≡ true → (a || b) ≡ true
or_left a b h = rw h refl

or_right : (a b : Bool) → b ≡ true → (a || b) ≡ true
or_right true b h = refl
or_right false b h = h

flag_picked : (u : Option Value) (x y : Option Choice) (c : Choice) → flag_branch u x y ≡ Some c → (x ≡ Some c) ⊎ (y ≡ Some c)
flag_picked (Some (flag true)) x y c h = inl h
flag_picked (Some (flag false)) x y c h = inr h
flag_picked _ x y c h = absurd (cc)

cond_picked : (b : Bool) (x y : Option Choice) (c : Choice) → cond b x y ≡ Some c → (x ≡ Some c) ⊎ (y ≡ Some c)
cond_picked true x y c h = inl h
cond_picked false x y c h = inr h

word_picked : (u : Option Value) (n : ℕ) (x y : Option Choice) (c : Choice) → word_branch u n x y ≡ Some c → (x ≡ Some c) ⊎ (y ≡ Some c)
word_picked (Some (word m)) n x y c h = cond_picked (m == n) x y c h
word_picked _ n x y c h = absurd (cc)

case_picked : (u : Option ℕ) (f : ℕ → Option Choice) (c : Choice) → option_and_then f u ≡ Some c → (n : ℕ) × (f n ≡ Some c)
case_picked (Some n) f c h = (n, h)
case_picked None f c h = absurd (cc)

some_choice : (x y : Choice) → Some x ≡ Some y → x ≡ y
some_choice x y h = cc

same_row : (x y : Choice) → Some x ≡ Some y → (x.0 == y.0) ≡ true
same_row x y h = let e : x.0 ≡ y.0 = ap (λ z. z.0) (some_choice x y h) in rw e (equal_itself y.0)

mutual
  pub picked_named : (t : Decision) (v : Value) (c : Choice) → picks t v ≡ Some c → names t c.0 ≡ true
  picked_named (row n binds) v c h = same_row (n, binds) c h
  picked_named (on_flag at a b) v c h =
      ⊎_elim (λ e. or_left (names a c.0) (names b c.0) (picked_named a v c e)) (λ e. or_right (names a c.0) (names b c.0) (picked_named b v c e)) (flag_picked (value_at v at) (picks a v) (picks b v) c h)
  picked_named (on_word at n a b) v c h =
      ⊎_elim (λ e. or_left (names a c.0) (names b c.0) (picked_named a v c e)) (λ e. or_right (names a c.0) (names b c.0) (picked_named b v c e)) (word_picked (value_at v at) n (picks a v) (picks b v) c h)
  picked_named (on_case at arms) v c h = let p = case_picked (case_at (value_at v at)) (λ i. arm_at arms i v) c h in picked_arms arms p.0 v c p.1

  picked_arms : (ts : Decisions) (i : ℕ) (v : Value) (c : Choice) → arm_at ts i v ≡ Some c → some_names ts c.0 ≡ true
  picked_arms no_tree i v c h = absurd (cc)
  picked_arms (tree_then t ts) zero v c h = or_left (names t c.0) (some_names ts c.0) (picked_named t v c h)
  picked_arms (tree_then t ts) (suc i) v c h = or_right (names t c.0) (some_names ts c.0) (picked_arms ts i v c h)
