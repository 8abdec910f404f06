-- A row without a position to be tested is met.
use Rattle.std.proofs.Common.{◌≡◌, ℕ, ◌+◌, ◌<◌, ◌≤◌, ◌^◌, Bool, true, false, cond, ltb, leb, ◌==◌, Option, Some, None, option_map, List, [], ◌∷◌, length, refl, sym, ap, ◌∙◌, subst, arith}
use Rattle.std.proofs.lemmas.Bool.Decides.{nat_tests}
use Rattle.spec_match_compiler.specs.declared.shape.Shape.{Shape}
use Rattle.spec_match_compiler.specs.declared.shape.Shape.TheVariants.{Bool as Flag, Word, Data}
use Rattle.spec_match_compiler.specs.Values.{Value, Values, word, made, no_value, value_then}
use Rattle.spec_match_compiler.specs.Patterns.{Pattern, Patterns, any, bind, flag_is, word_is, case_is, no_pat, pat_then}
use Rattle.spec_match_compiler.specs.Shapes.{Types, fields_of, HasShape, Suits, AllSuit}
use Rattle.spec_match_compiler.specs.Meets.{meets, all_meet}
use Rattle.spec_match_compiler.specs.Knowledge.{Knowledge, Parts, unknown, flag_known, word_known, others, case_known, no_part, part_then}
use Rattle.spec_match_compiler.specs.Rule.{word_test, PendingTest, can_match, all_can_match, is_among, first_test, first_below, outermost, below}
use Rattle.spec_match_compiler.proofs.Truth.{and_left, and_right, both, not_true}
use Rattle.spec_match_compiler.proofs.Numbers.{last_one}
use Rattle.spec_match_compiler.proofs.Fits.{Fits, AllFit, KnownAs, AllKnownAs}

-- no position in the fields
abbrev pub NoneIn : Patterns → Parts → Type 0
NoneIn (pat_then p ps) (part_then k ks) = (first_test p k ≡ None) × NoneIn ps ks
NoneIn _ _ = Unit {0}

outer_some : (t : Bool) (x y : PendingTest) → cond t (Some x) (Some y) ≡ None → ⊥
outer_some true x y h = cc
outer_some false x y h = cc

equal_numbers : (c d : ℕ) → (c == d) ≡ true → c ≡ d
equal_numbers c d h = grind (arith, nat_tests)

pub some_shapes : (x y : List Shape) → Some x ≡ Some y → x ≡ y
some_shapes x y h = cc

outermost_none : (x y : Option PendingTest) → outermost x y ≡ None → (x ≡ None) × (y ≡ None)
outermost_none None y h = (refl, h)
outermost_none (Some x) None h = absurd (cc)
outermost_none (Some x) (Some y) h = absurd (outer_some (leb (length x.0) (length y.0)) x y h)

map_none : (f : PendingTest → PendingTest) (x : Option PendingTest) → option_map f x ≡ None → x ≡ None
map_none f None h = refl
map_none f (Some x) h = absurd (cc)

none_in : (best : Option PendingTest) (d i : ℕ) (ps : Patterns) (ks : Parts) → first_below best d i ps ks ≡ None → (best ≡ None) × NoneIn ps ks
none_in best d i (pat_then p ps) (part_then k ks) h =
    let rest = none_in (outermost best (option_map (below d i) (first_test p k))) d (i + 1) ps ks h in
    let here = outermost_none best (option_map (below d i) (first_test p k)) rest.0 in
    (here.0, (map_none (below d i) (first_test p k) here.1, rest.1))
none_in best d i _ _ h = (h, tt)

-- where one number is left
one_left : (n m w : ℕ) (ns : List ℕ) (t : Bool) → ltb (length ns + 1) (2 ^ w) ≡ t → option_map {U = PendingTest} (λ test. ([], test)) (cond t (Some (word_test w ns n)) None) ≡ None → 2 ^ w ≤ length ns + 1
one_left n m w ns true e h = absurd (cc)
one_left n m w ns false e h = grind (arith, nat_tests)

module _ (types : Types) where
  settled_unknown : (s : Shape) (p : Pattern) (v : Value) → Suits types s p → first_test p (unknown s) ≡ None → HasShape types s v → meets p v ≡ true
  settled_unknown s any v suits none has = refl
  settled_unknown s (bind n) v suits none has = refl
  settled_unknown Flag (flag_is b) v suits none has = absurd (cc)
  settled_unknown (Word w) (word_is n) v suits none has = absurd (cc)
  settled_unknown (Data t) (case_is c ps) v suits none has = absurd (cc)
  settled_unknown s p v suits none has = absurd suits

  settled_others : (n w u : ℕ) (ns : List ℕ) (v : Value) → n < 2 ^ w → KnownAs types (Word w) (others u ns) → is_among n ns ≡ false
      → first_test (word_is n) (others u ns) ≡ None → Fits types (others u ns) v → meets (word_is n) v ≡ true
  settled_others n w u ns (word m) less known absent none fits =
      let few = rw known.0 at (one_left n m u ns (ltb (length ns + 1) (2 ^ u)) refl none) in
      last_one (2 ^ w) m n ns known.1 known.2 few (rw known.0 at fits.0) less fits.1 absent
  settled_others n w u ns v less known absent none fits = absurd fits

  mutual
    pub settled : (s : Shape) (p : Pattern) (k : Knowledge) (v : Value) → Suits types s p → KnownAs types s k → can_match p k ≡ true → first_test p k ≡ None → Fits types k v → meets p v ≡ true
    settled s any k v suits known can none fits = refl
    settled s (bind n) k v suits known can none fits = refl
    settled s (flag_is b) (unknown s') v suits known can none fits = settled_unknown s' (flag_is b) v (subst (λ x. Suits types x (flag_is b)) (sym known.0) suits) none fits
    settled s (word_is n) (unknown s') v suits known can none fits = settled_unknown s' (word_is n) v (subst (λ x. Suits types x (word_is n)) (sym known.0) suits) none fits
    settled s (case_is c ps) (unknown s') v suits known can none fits = settled_unknown s' (case_is c ps) v (subst (λ x. Suits types x (case_is c ps)) (sym known.0) suits) none fits
    settled Flag (flag_is b) (flag_known c) v suits known can none fits = rw fits can
    settled (Word w) (word_is n) (word_known m) v suits known can none fits = rw fits can
    settled (Word w) (word_is n) (others u ns) v suits known can none fits = settled_others n w u ns v suits known (not_true (is_among n ns) can) none fits
    settled (Data t) (case_is c ps) (case_known d ks) (made e vs) suits known can none fits =
        let same : c ≡ d = equal_numbers c d (and_left (c == d) (all_can_match ps ks) can) in
        let shapes : suits.0 ≡ known.0 = some_shapes _ _ (sym suits.1 ∙ ap (fields_of types t) same ∙ known.1) in
        let below = all_settled suits.0 ps ks vs suits.2 (subst (λ x. AllKnownAs types x ks) (sym shapes) known.2) (and_right (c == d) (all_can_match ps ks) can) (none_in None d 0 ps ks none).1 fits.1 in
        both (c == e) (all_meet ps vs) (rw (fits.0) (and_left (c == d) (all_can_match ps ks) can)) below
    settled Flag (flag_is b) (word_known m) v suits known can none fits = absurd known
    settled Flag (flag_is b) (others w ns) v suits known can none fits = absurd known
    settled Flag (flag_is b) (case_known c ks) v suits known can none fits = absurd known
    settled (Word w) (word_is n) (flag_known b) v suits known can none fits = absurd known
    settled (Word w) (word_is n) (case_known c ks) v suits known can none fits = absurd known
    settled (Data t) (case_is c ps) (flag_known b) v suits known can none fits = absurd known
    settled (Data t) (case_is c ps) (word_known b) v suits known can none fits = absurd known
    settled (Data t) (case_is c ps) (others w ns) v suits known can none fits = absurd known
    settled (Data t) (case_is c ps) (case_known d ks) v suits known can none fits = absurd fits
    settled s p k v suits known can none fits = absurd suits

    all_settled : (shapes : List Shape) (ps : Patterns) (ks : Parts) (vs : Values) → AllSuit types shapes ps → AllKnownAs types shapes ks → all_can_match ps ks ≡ true → NoneIn ps ks → AllFit types ks vs → all_meet ps vs ≡ true
    all_settled [] no_pat no_part no_value suits known can none fits = refl
    all_settled (s ∷ shapes) (pat_then p ps) (part_then k ks) (value_then v vs) suits known can none fits =
        both (meets p v) (all_meet ps vs) (settled s p k v suits.0 known.0 (and_left (can_match p k) (all_can_match ps ks) can) none.0 fits.0)
        (all_settled shapes ps ks vs suits.1 known.1 (and_right (can_match p k) (all_can_match ps ks) can) none.1 fits.1)
    all_settled [] no_pat no_part (value_then v vs) suits known can none fits = absurd fits
    all_settled [] no_pat (part_then k ks) vs suits known can none fits = absurd known
    all_settled (s ∷ shapes) (pat_then p ps) no_part vs suits known can none fits = absurd known
    all_settled (s ∷ shapes) (pat_then p ps) (part_then k ks) no_value suits known can none fits = absurd fits
    all_settled shapes ps ks vs suits known can none fits = absurd suits
