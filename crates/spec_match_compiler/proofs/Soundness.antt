-- The tree of the rule picks the first row that matches.
use Rattle.std.proofs.Common.{◌≡◌, ℕ, zero, suc, ◌+◌, inl, inr, Bool, true, false, cond, ◌==◌, Option, Some, option_and_then, slice_get, List, [], ◌∷◌, ◌++◌, refl, sym, ap, ◌∙◌, subst, arith}
use Rattle.std.proofs.lemmas.Bool.Decides.{nat_tests}
use Rattle.spec_match_compiler.specs.declared.shape.Shape.{Shape}
use Rattle.spec_match_compiler.specs.declared.shape.Shape.TheVariants.{Bool as Flag, Data}
use Rattle.spec_match_compiler.specs.Values.{Value, Values, Place, flag, word, made, thing, no_value, value_then}
use Rattle.spec_match_compiler.specs.Shapes.{Types, fields_of, cases_of, HasShape, HaveShapes, Suits}
use Rattle.spec_match_compiler.specs.Meets.{meets, bindings}
use Rattle.spec_match_compiler.specs.Picks.{Row, Choice, first_match, picks, arm_at, case_at, flag_branch}
use Rattle.spec_match_compiler.specs.Decisions.{Decision, Decisions, row, on_case, on_word, on_flag, no_tree, tree_then}
use Rattle.spec_match_compiler.specs.Knowledge.{Knowledge, flag_known, word_known, others, case_known, unknowns, put}
use Rattle.spec_match_compiler.specs.Rule.{Test, flag_test, word_test, case_test, can_match, first_test, still, made_known, IsTree, AreTrees}
use Rattle.spec_match_compiler.specs.Limits.{TypesInLimits, CanAll}
use Rattle.spec_match_compiler.proofs.Numbers.{among_push}
use Rattle.spec_match_compiler.proofs.Opens.{Shows, first_opens}
use Rattle.spec_match_compiler.proofs.Kept.{still_can}
use Rattle.spec_match_compiler.proofs.Fits.{Fits, AllFit, KnownAs, never}
use Rattle.spec_match_compiler.proofs.Settled.{settled, some_shapes}
use Rattle.spec_match_compiler.proofs.Reaches.{reaches, known_after}

equal_numbers : (c d : ℕ) → (c == d) ≡ true → c ≡ d
equal_numbers c d h = grind (arith, nat_tests)

flip : (m n : ℕ) → (m == n) ≡ false → (n == m) ≡ false
flip m n h = grind (arith, nat_tests)

-- two choices are there, and the same
abbrev pub Agree : Option Choice → Option Choice → Type 0
Agree x y = (c : Choice) × (x ≡ Some c) × (y ≡ Some c)

module _ (types : Types) where
  -- rows that suit a shape
  abbrev pub RowsSuit : Shape → List Row → Type 0
  RowsSuit s [] = Unit {0}
  RowsSuit s (r ∷ rows) = Suits types s r.1 × RowsSuit s rows

  suit_more : (b : Bool) (s : Shape) (r : Row) (rows : List Row) → Suits types s r.1 → RowsSuit s rows → RowsSuit s (cond b (r ∷ rows) rows)
  suit_more true s r rows h g = (h, g)
  suit_more false s r rows h g = g

  pub still_suit : (s : Shape) (rows : List Row) (k : Knowledge) → RowsSuit s rows → RowsSuit s (still rows k)
  still_suit s [] k h = h
  still_suit s (r ∷ rows) k h = suit_more (can_match r.1 k) s r (still rows k) h.0 (still_suit s rows k h.1)

  first_more : (b : Bool) (r : Row) (rows rest : List Row) (k : Knowledge) (v : Value) → can_match r.1 k ≡ b → Fits types k v → first_match rows v ≡ first_match rest v
      → first_match (cond b (r ∷ rows) rows) v ≡ first_match (r ∷ rest) v
  first_more true r rows rest k v e fits h = ap (λ x. cond (meets r.1 v) (Some (r.0, bindings [] r.1)) x) h
  first_more false r rows rest k v e fits h = rw (never types r.1 k v e fits) h

  -- The rows that are left have the first one that matches.
  pub first_still : (rows : List Row) (k : Knowledge) (v : Value) → Fits types k v → first_match (still rows k) v ≡ first_match rows v
  first_still [] k v fits = refl
  first_still (r ∷ rows) k v fits = first_more (can_match r.1 k) r (still rows k) rows k v refl fits (first_still rows k v fits)

  -- What is to be shown of a tree, for rows and values of a shape.
  abbrev pub SoundTree : Shape → Decision → Type 0
  SoundTree s t = (rows : List Row) (k : Knowledge) (v : Value) → IsTree types rows k t → RowsSuit s rows → KnownAs types s k → CanAll rows k → Fits types k v → Agree (picks t v) (first_match rows v)

  -- where a test shows what the value fits
  taken : TypesInLimits types → (s : Shape) (first : Row) (rest : List Row) (k o : Knowledge) (at : Place) (test : Test) (t : Decision) (v : Value) → first_test first.1 k ≡ Some (at, test) → Shows types test o
      → SoundTree s t → IsTree types (still (first ∷ rest) (put k at o)) (put k at o) t → RowsSuit s (first ∷ rest) → KnownAs types s k → CanAll (first ∷ rest) k → Fits types (put k at o) v
      → Agree (picks t v) (first_match (first ∷ rest) v)
  taken all s first rest k o at test t v found shows ih is suit known can fits =
      let after = known_after types all s first.1 k o at test (first_opens first.1 k (at, test) found) suit.0 known can.0 shows in
      let same = ih (still (first ∷ rest) (put k at o)) (put k at o) v is (still_suit s (first ∷ rest) (put k at o) suit) after (still_can (first ∷ rest) (put k at o)) fits in
      (same.0, same.1, sym (first_still (first ∷ rest) (put k at o) v fits) ∙ same.2)

  flag_value : (u : Value) → HasShape types Flag u → (c : Bool) × (u ≡ flag c)
  flag_value (flag c) h = (c, refl)
  flag_value _ h = absurd h

  case_value : (t : ℕ) (u : Value) → HasShape types (Data t) u → (c : ℕ) × (us : Values) × (shapes : List Shape) × (u ≡ made c us) × (fields_of types t c ≡ Some shapes) × HaveShapes types shapes us
  case_value t (made c us) h = (c, us, h.0, refl, h.1, h.2)
  case_value t (flag b) h = absurd h
  case_value t (word b) h = absurd h
  case_value t (thing b) h = absurd h

  fields_fit : (shapes : List Shape) (us : Values) → HaveShapes types shapes us → AllFit types (unknowns shapes) us
  fields_fit [] no_value h = tt
  fields_fit (s ∷ shapes) (value_then u us) h = (h.0, fields_fit shapes us h.1)
  fields_fit [] (value_then u us) h = absurd h
  fields_fit (s ∷ shapes) no_value h = absurd h

  flag_case : (c : Bool) (x y z : Option Choice) → (c ≡ true → Agree x z) → (c ≡ false → Agree y z) → Agree (flag_branch (Some (flag c)) x y) z
  flag_case true x y z h g = h refl
  flag_case false x y z h g = g refl

  word_case : (t : Bool) (x y z : Option Choice) → (t ≡ true → Agree x z) → (t ≡ false → Agree y z) → Agree (cond t x y) z
  word_case true x y z h g = h refl
  word_case false x y z h g = g refl

  row_step : (s : Shape) (r : ℕ) (binds : List (ℕ × Place)) → SoundTree s (row r binds)
  row_step s r binds [] k v is suit known can fits = absurd is
  row_step s r binds (first ∷ rest) k v is suit known can fits =
      ((r, binds), refl, rw (is.1, is.2, settled types s first.1 k v suit.0 known can.0 is.0 fits) refl)

  flag_step : TypesInLimits types → (s : Shape) (at : Place) (a b : Decision) → SoundTree s a → SoundTree s b → SoundTree s (on_flag at a b)
  flag_step all s at a b ha hb [] k v is suit known can fits = absurd is
  flag_step all s at a b ha hb (first ∷ rest) k v is suit known can fits =
      let r = reaches types first.1 k v at flag_test (first_opens first.1 k (at, flag_test) is.0) fits in
      let u = flag_value r.there r.fits in
      rw (r.is, u.1) (flag_case u.0 (picks a v) (picks b v) (first_match (first ∷ rest) v)
      (λ e. taken all s first rest k (flag_known true) at flag_test a v is.0 (true, refl) ha is.1 suit known can (r.shows (flag_known true) (u.1 ∙ ap flag e)))
      (λ e. taken all s first rest k (flag_known false) at flag_test b v is.0 (false, refl) hb is.2 suit known can (r.shows (flag_known false) (u.1 ∙ ap flag e))))

  word_step : TypesInLimits types → (s : Shape) (at : Place) (n : ℕ) (a b : Decision) → SoundTree s a → SoundTree s b → SoundTree s (on_word at n a b)
  word_step all s at n a b ha hb [] k v is suit known can fits = absurd is
  word_step all s at n a b ha hb (first ∷ rest) k v is suit known can fits =
      let w = is.0 in
      let ns = is.1 in
      let r = reaches types first.1 k v at (word_test w ns n) (first_opens first.1 k (at, word_test w ns n) is.2) fits in
      let m = r.fits.0 in
      rw (r.is, r.fits.1) (word_case (m == n) (picks a v) (picks b v) (first_match (first ∷ rest) v)
      (λ e. taken all s first rest k (word_known n) at (word_test w ns n) a v is.2 (inl refl) ha is.3 suit known can (r.shows (word_known n) (r.fits.1 ∙ ap word (equal_numbers m n e))))
      (λ e. taken all s first rest k (others w (ns ++ n ∷ [])) at (word_test w ns n) b v is.2 (inr refl) hb is.4 suit known can
      (r.shows (others w (ns ++ n ∷ [])) (subst (λ x. Fits types (others w (ns ++ n ∷ [])) x) (sym r.fits.1) (r.fits.2, among_push m n ns r.fits.3 (flip m n e))))))

  -- of the arms from number n on
  abbrev pub SoundArms : Shape → Decisions → Type 0
  SoundArms s ts = (first : Row) (rest : List Row) (k : Knowledge) (at : Place) (t n : ℕ) (cases : List (List Shape)) (c : ℕ) (shapes : List Shape) (v : Value)
      → first_test first.1 k ≡ Some (at, case_test t) → AreTrees types (first ∷ rest) k at (made_known n cases) ts → slice_get cases c ≡ Some shapes → fields_of types t (n + c) ≡ Some shapes
      → RowsSuit s (first ∷ rest) → KnownAs types s k → CanAll (first ∷ rest) k → Fits types (put k at (case_known (n + c) (unknowns shapes))) v → Agree (arm_at ts c v) (first_match (first ∷ rest) v)

  none_step : (s : Shape) → SoundArms s no_tree
  none_step s first rest k at ty n [] c shapes v found are here field suit known can fits = absurd (cc)
  none_step s first rest k at ty n (fields ∷ cases) c shapes v found are here field suit known can fits = absurd are

  arms_step : TypesInLimits types → (s : Shape) (t : Decision) (ts : Decisions) → SoundTree s t → SoundArms s ts → SoundArms s (tree_then t ts)
  arms_step all s t ts h hs first rest k at ty n [] c shapes v found are here field suit known can fits = absurd are
  arms_step all s t ts h hs first rest k at ty n (fields ∷ cases) zero shapes v found are here field suit known can fits =
      let same : fields ≡ shapes = some_shapes _ _ here in
      let none : n + 0 ≡ n = omega arith in
      taken all s first rest k (case_known n (unknowns fields)) at (case_test ty) t v found (n, fields, rw (← none, same) field, refl) h are.0 suit known can (rw (← none, same) fits)
  arms_step all s t ts h hs first rest k at ty n (fields ∷ cases) (suc c) shapes v found are here field suit known can fits =
      let same : n + suc c ≡ n + 1 + c = omega arith in
      hs first rest k at ty (n + 1) cases c shapes v found are.1 here (rw same at field) suit known can (rw same at fits)

  case_step : TypesInLimits types → (s : Shape) (at : Place) (arms : Decisions) → SoundArms s arms → SoundTree s (on_case at arms)
  case_step all s at arms h [] k v is suit known can fits = absurd is
  case_step all s at arms h (first ∷ rest) k v is suit known can fits =
      let r = reaches types first.1 k v at (case_test is.0) (first_opens first.1 k (at, case_test is.0) is.1) fits in
      let u = case_value is.0 r.there r.fits in
      let same : 0 + u.0 ≡ u.0 = omega arith in
      let fit : Fits types (case_known (0 + u.0) (unknowns u.2)) r.there =
      subst (λ x. Fits types (case_known (0 + u.0) (unknowns u.2)) x) (sym u.3) (sym same, fields_fit u.2 u.1 u.5) in
      let arm = h first rest k at is.0 0 (cases_of types is.0) u.0 u.2 v is.1 is.2 u.4 (rw same u.4) suit known can (r.shows (case_known (0 + u.0) (unknowns u.2)) fit) in
      rw r.is (subst (λ x. Agree (option_and_then (λ c. arm_at arms c v) (case_at (Some x))) (first_match (first ∷ rest) v)) (sym u.3) arm)

  mutual
    pub sound : TypesInLimits types → (s : Shape) (t : Decision) → SoundTree s t
    sound all s (row r binds) = row_step s r binds
    sound all s (on_flag at a b) = flag_step all s at a b (sound all s a) (sound all s b)
    sound all s (on_word at n a b) = word_step all s at n a b (sound all s a) (sound all s b)
    sound all s (on_case at arms) = case_step all s at arms (sound_arms all s arms)

    sound_arms : TypesInLimits types → (s : Shape) (ts : Decisions) → SoundArms s ts
    sound_arms all s no_tree = none_step s
    sound_arms all s (tree_then t ts) = arms_step all s t ts (sound all s t) (sound_arms all s ts)
