-- Where the first position to be tested is, and what is known there.
use Rattle.std.proofs.Common.{◌≡◌, ℕ, zero, suc, ◌+◌, ◌<◌, ◌^◌, ◌⊎◌, inl, inr, Bool, true, false, cond, ltb, leb, ⊎_elim, Option, Some, None, option_map, List, [], ◌∷◌, ◌++◌, length, refl, sym, ap, subst, arith}
use Rattle.std.proofs.lemmas.Bool.Decides.{nat_tests}
use Rattle.spec_match_compiler.specs.declared.shape.Shape.{Shape}
use Rattle.spec_match_compiler.specs.declared.shape.Shape.TheVariants.{Bool as Flag, Word, Data}
use Rattle.spec_match_compiler.specs.Values.{Place}
use Rattle.spec_match_compiler.specs.Patterns.{Pattern, Patterns, flag_is, word_is, case_is, pat_then}
use Rattle.spec_match_compiler.specs.Shapes.{Types, fields_of}
use Rattle.spec_match_compiler.specs.Knowledge.{Knowledge, Parts, unknown, flag_known, word_known, others, case_known, part_then, unknowns}
use Rattle.spec_match_compiler.specs.Rule.{Test, flag_test, word_test, case_test, PendingTest, below, outermost, test_here, first_test, first_below}

-- what is known before a test
abbrev pub Before : Test → Knowledge → Type 0
Before flag_test k = k ≡ unknown Flag
Before (word_test w ns n) k = ((k ≡ unknown (Word w)) × (ns ≡ [])) ⊎ ((k ≡ others w ns) × (length ns + 1 < 2 ^ w))
Before (case_test t) k = k ≡ unknown (Data t)

-- which pattern asks for a test
abbrev pub Asks : Pattern → Test → Type 0
Asks p flag_test = (b : Bool) × (p ≡ flag_is b)
Asks p (word_test w ns n) = p ≡ word_is n
Asks p (case_test t) = (c : ℕ) × (ps : Patterns) × (p ≡ case_is c ps)

-- what a test may show
abbrev pub Shows : Types → Test → Knowledge → Type 0
Shows types flag_test o = (b : Bool) × (o ≡ flag_known b)
Shows types (word_test w ns n) o = (o ≡ word_known n) ⊎ (o ≡ others w (ns ++ n ∷ []))
Shows types (case_test t) o = (c : ℕ) × (shapes : List Shape) × (fields_of types t c ≡ Some shapes) × (o ≡ case_known c (unknowns shapes))

abbrev mutual
  -- A pattern has a position to be tested at a place.
  pub Opens : Pattern → Knowledge → Place → Test → Type 0
  Opens p k [] test = Asks p test × Before test k
  Opens (case_is c ps) (case_known d ks) (step ∷ at) test = (step.0 ≡ d) × OpensIn ps ks step.1 at test
  Opens _ _ (step ∷ at) test = ⊥

  pub OpensIn : Patterns → Parts → ℕ → Place → Test → Type 0
  OpensIn (pat_then p ps) (part_then k ks) zero at test = Opens p k at test
  OpensIn (pat_then p ps) (part_then k ks) (suc i) at test = OpensIn ps ks i at test
  OpensIn _ _ i at test = ⊥

some_same : {A : Type 0} (x y : A) → Some x ≡ Some y → x ≡ y
some_same x y e = cc

asks_others : (n w : ℕ) (ns : List ℕ) (test : Test) (b : Bool) → ltb (length ns + 1) (2 ^ w) ≡ b → cond b (Some (word_test w ns n)) None ≡ Some test → Asks (word_is n) test × Before test (others w ns)
asks_others n w ns test true e h = subst (λ x. Asks (word_is n) x × Before x (others w ns)) (some_same _ _ h) (refl, inr (refl, grind (arith, nat_tests)))
asks_others n w ns test false e h = absurd (cc)

asks_here : (p : Pattern) (k : Knowledge) (test : Test) → test_here p k ≡ Some test → Asks p test × Before test k
asks_here (flag_is b) (unknown Flag) test h = subst (λ t. Asks (flag_is b) t × Before t (unknown Flag)) (some_same _ _ h) ((b, refl), refl)
asks_here (word_is n) (unknown (Word w)) test h = subst (λ t. Asks (word_is n) t × Before t (unknown (Word w))) (some_same _ _ h) (refl, inl (refl, refl))
asks_here (word_is n) (others w ns) test h = asks_others n w ns test (ltb (length ns + 1) (2 ^ w)) refl h
asks_here (case_is c ps) (unknown (Data t)) test h = subst (λ x. Asks (case_is c ps) x × Before x (unknown (Data t))) (some_same _ _ h) ((c, ps, refl), refl)
asks_here _ _ test h = absurd (cc)

opens_here : (p : Pattern) (k : Knowledge) (x : PendingTest) (o : Option Test) → test_here p k ≡ o → option_map (λ test. ([], test)) o ≡ Some x → Opens p k x.0 x.1
opens_here p k x None e h = absurd (cc)
opens_here p k x (Some test) e h = subst (λ y. Opens p k y.0 y.1) (some_same _ _ h) (asks_here p k test e)

cond_one : (b : Bool) (x y z : PendingTest) → cond b (Some x) (Some y) ≡ Some z → (Some x ≡ Some z) ⊎ (Some y ≡ Some z)
cond_one true x y z h = inl h
cond_one false x y z h = inr h

outermost_one : (x y : Option PendingTest) (z : PendingTest) → outermost x y ≡ Some z → (x ≡ Some z) ⊎ (y ≡ Some z)
outermost_one None y z h = inr h
outermost_one (Some x) None z h = inl h
outermost_one (Some x) (Some y) z h = cond_one (leb (length x.0) (length y.0)) x y z h

-- in a field from number i on
pub record InField (d i : ℕ) (ps : Patterns) (ks : Parts) (x : PendingTest) : Type 0 where
  pub j : ℕ
  pub n : ℕ
  pub rest : Place
  pub number : n ≡ i + j
  pub is : x.0 ≡ (d, n) ∷ rest
  pub opens : OpensIn ps ks j rest x.1

below_some : (d i : ℕ) (f : Option PendingTest) (x : PendingTest) → option_map (below d i) f ≡ Some x → (y : PendingTest) × (f ≡ Some y) × (below d i y ≡ x)
below_some d i None x h = absurd (cc)
below_some d i (Some y) x h = (y, refl, some_same _ _ h)

from_field : (c d : ℕ) (ps : Patterns) (ks : Parts) (x : PendingTest) → (None ≡ Some x) ⊎ InField d 0 ps ks x → Opens (case_is c ps) (case_known d ks) x.0 x.1
from_field c d ps ks x (inl h) = absurd (cc)
from_field c d ps ks x (inr f) =
    let at : f.n ≡ f.j = omega arith in
    subst (λ at. Opens (case_is c ps) (case_known d ks) at x.1) (sym f.is) (refl, subst (λ n. OpensIn ps ks n f.rest x.1) (sym at) f.opens)

from_first : (best : Option PendingTest) (d i : ℕ) (p : Pattern) (ps : Patterns) (k : Knowledge) (ks : Parts) (x : PendingTest)
    → ((y : PendingTest) → first_test p k ≡ Some y → Opens p k y.0 y.1)
    → (best ≡ Some x) ⊎ (option_map (below d i) (first_test p k) ≡ Some x) → (best ≡ Some x) ⊎ InField d i (pat_then p ps) (part_then k ks) x
from_first best d i p ps k ks x opens (inl h) = inl h
from_first best d i p ps k ks x opens (inr h) =
    let b = below_some d i (first_test p k) x h in
    inr (record {
      j = 0;
      n = i;
      rest = b.0.0;
      number = omega arith;
      is = sym (ap (λ z. z.0) b.2);
      opens = subst (λ t. Opens p k b.0.0 t) (ap (λ z. z.1) b.2) (opens b.0 b.1);
    })

from_later : (d i : ℕ) (p : Pattern) (ps : Patterns) (k : Knowledge) (ks : Parts) (x : PendingTest)
    → InField d (i + 1) ps ks x → InField d i (pat_then p ps) (part_then k ks) x
from_later d i p ps k ks x f = record { j = suc f.j; n = f.n; rest = f.rest; number = omega (arith, f.number); is = f.is; opens = f.opens }

mutual
  pub first_opens : (p : Pattern) (k : Knowledge) (x : PendingTest) → first_test p k ≡ Some x → Opens p k x.0 x.1
  first_opens (case_is c ps) (case_known d ks) x h = from_field c d ps ks x (first_below_opens None d 0 ps ks x h)
  first_opens p k x h = opens_here p k x (test_here p k) refl h

  first_below_opens : (best : Option PendingTest) (d i : ℕ) (ps : Patterns) (ks : Parts) (x : PendingTest) → first_below best d i ps ks ≡ Some x → (best ≡ Some x) ⊎ InField d i ps ks x
  first_below_opens best d i (pat_then p ps) (part_then k ks) x h =
      ⊎_elim (λ e. from_first best d i p ps k ks x (λ y g. first_opens p k y g) (outermost_one best (option_map (below d i) (first_test p k)) x e))
      (λ f. inr (from_later d i p ps k ks x f)) (first_below_opens (outermost best (option_map (below d i) (first_test p k))) d (i + 1) ps ks x h)
  first_below_opens best d i _ _ x h = inl h
