-- Some value fits what is known, and the example says what fits.
use Rattle.std.proofs.Common.{◌≡◌, ℕ, zero, suc, ◌<◌, ◌≤◌, Bool, true, false, ◌==◌, Some, slice_get, List, [], ◌∷◌, length, refl, sym, ap, ◌∙◌, subst, arith, pow_pos}
use Rattle.std.proofs.lemmas.Bool.Decides.{nat_tests}
use Rattle.spec_match_compiler.specs.declared.shape.Shape.{Shape}
use Rattle.spec_match_compiler.specs.declared.shape.Shape.TheVariants.{Bool as Flag, Word, Data, Opaque}
use Rattle.spec_match_compiler.specs.Values.{Value, Values, flag, word, made, thing, no_value, value_then}
use Rattle.spec_match_compiler.specs.Shapes.{Types, fields_of, cases_of, HasShape, HaveShapes, IsShape, AreShapes, RanksBelow, AreTypes}
use Rattle.spec_match_compiler.specs.Meets.{meets, all_meet, same_flag}
use Rattle.spec_match_compiler.specs.Knowledge.{Knowledge, Parts, unknown, flag_known, word_known, others, case_known, no_part, part_then}
use Rattle.spec_match_compiler.specs.Rule.{example, examples, least_other}
use Rattle.spec_match_compiler.proofs.Truth.{and_left, and_right, both, equal_itself}
use Rattle.spec_match_compiler.proofs.Numbers.{least_free}
use Rattle.spec_match_compiler.proofs.Fits.{Fits, AllFit, KnownAs, AllKnownAs}
use Rattle.spec_match_compiler.proofs.Settled.{some_shapes}

equal_numbers : (c d : ℕ) → (c == d) ≡ true → c ≡ d
equal_numbers c d h = grind (arith, nat_tests)

flag_itself : (b : Bool) → same_flag b b ≡ true
flag_itself true = refl
flag_itself false = refl

flags_same : (b c : Bool) → same_flag b c ≡ true → c ≡ b
flags_same true c h = h
flags_same false true h = sym h
flags_same false false h = refl

module _ (types : Types) (all : AreTypes types) where
  abbrev RankLess : ℕ → Shape → Type 0
  RankLess n (Data t) = all.rank t < n
  RankLess n _ = Unit {0}

  -- values for fields, from values for shapes
  some_values : (n : ℕ) → ((s : Shape) → IsShape types s → RankLess n s → (v : Value) × HasShape types s v)
      → (m : ℕ) (shapes : List Shape) → m ≤ n → AreShapes types shapes → RanksBelow types all.rank m shapes → (vs : Values) × HaveShapes types shapes vs
  some_values n f m [] l are below = (no_value, tt)
  some_values n f m (Data t ∷ shapes) l are below =
      let v = f (Data t) are.0 (omega (arith, below.0)) in
      let vs = some_values n f m shapes l are.1 below.1 in
      (value_then v.0 vs.0, (v.1, vs.1))
  some_values n f m (Flag ∷ shapes) l are below = let vs = some_values n f m shapes l are.1 below in (value_then (flag true) vs.0, (tt, vs.1))
  some_values n f m (Word w ∷ shapes) l are below = let vs = some_values n f m shapes l are.1 below in (value_then (word 0) vs.0, (pow_pos w, vs.1))
  some_values n f m (Opaque ∷ shapes) l are below = let vs = some_values n f m shapes l are.1 below in (value_then (thing 0) vs.0, (tt, vs.1))

  first_case : (cases : List (List Shape)) → 1 ≤ length cases → (shapes : List Shape) × (slice_get cases 0 ≡ Some shapes)
  first_case [] h = absurd (omega arith)
  first_case (shapes ∷ cases) h = (shapes, refl)

  some_value_below : (n : ℕ) (s : Shape) → IsShape types s → RankLess n s → (v : Value) × HasShape types s v
  some_value_below n Flag is below = (flag true, tt)
  some_value_below n (Word w) is below = (word 0, pow_pos w)
  some_value_below n Opaque is below = (thing 0, tt)
  some_value_below zero (Data t) is below = absurd (omega arith)
  some_value_below (suc n) (Data t) is below =
      let first = first_case (cases_of types t) (all.some_case t is) in
      let vs = some_values n (λ s h g. some_value_below n s h g) (all.rank t) first.0 (omega arith) (all.shapes t 0 first.0 first.1) (all.falls t 0 first.0 first.1) in
      (made 0 vs.0, (first.0, first.1, vs.1))

  pub some_value : (s : Shape) → IsShape types s → (v : Value) × HasShape types s v
  some_value Flag is = (flag true, tt)
  some_value (Word w) is = (word 0, pow_pos w)
  some_value Opaque is = (thing 0, tt)
  some_value (Data t) is = some_value_below (suc (all.rank t)) (Data t) is (omega arith)

  -- a value that fits what is known, and the example
  pub record Filled (k : Knowledge) : Type 0 where
    pub value : Value
    pub fits : Fits types k value
    pub meets_it : meets (example k) value ≡ true

  pub record AllFilled (ks : Parts) : Type 0 where
    pub values : Values
    pub fit : AllFit types ks values
    pub meet : all_meet (examples ks) values ≡ true

  mutual
    pub filled : (k : Knowledge) (s : Shape) → IsShape types s → KnownAs types s k → Filled k
    filled (unknown s') s is known =
        let v = some_value s is in record { value = v.0; fits = subst (λ x. HasShape types x v.0) (sym known.0) v.1; meets_it = refl }
    filled (flag_known b) s is known = record { value = flag b; fits = refl; meets_it = flag_itself b }
    filled (word_known n) s is known = record { value = word n; fits = refl; meets_it = equal_itself n }
    filled (others u ns) (Word w) is known =
        let free = least_free ns in
        record { value = word (least_other ns); fits = (rw known.0 (omega (arith, free.1, known.3)), free.0); meets_it = equal_itself (least_other ns) }
    filled (case_known c ks) (Data t) is known =
        let r = all_filled ks known.0 (all.shapes t c known.0 known.1) known.2 in
        record { value = made c r.values; fits = (refl, r.fit); meets_it = both (c == c) (all_meet (examples ks) r.values) (equal_itself c) r.meet }
    filled (others u ns) s is known = absurd known
    filled (case_known c ks) s is known = absurd known

    all_filled : (ks : Parts) (shapes : List Shape) → AreShapes types shapes → AllKnownAs types shapes ks → AllFilled ks
    all_filled no_part [] are known = record { values = no_value; fit = tt; meet = refl }
    all_filled (part_then k ks) (s ∷ shapes) are known =
        let r = filled k s are.0 known.0 in
        let rs = all_filled ks shapes are.1 known.1 in
        record { values = value_then r.value rs.values; fit = (r.fits, rs.fit); meet = both (meets (example k) r.value) (all_meet (examples ks) rs.values) r.meets_it rs.meet }
    all_filled _ shapes are known = absurd known

module _ (types : Types) where
  mutual
    -- what fits has the shape
    pub fits_shape : (s : Shape) (k : Knowledge) (v : Value) → KnownAs types s k → Fits types k v → HasShape types s v
    fits_shape s (unknown s') v known fits = subst (λ x. HasShape types x v) known.0 fits
    fits_shape Flag (flag_known b) v known fits = rw fits tt
    fits_shape (Word w) (word_known n) v known fits = rw fits known
    fits_shape (Word w) (others u ns) (word m) known fits = rw (← known.0) fits.0
    fits_shape (Data t) (case_known c ks) (made e vs) known fits = (known.0, rw fits.0 known.1, fit_shapes known.0 ks vs known.2 fits.1)
    fits_shape (Word w) (others u ns) v known fits = absurd fits
    fits_shape (Data t) (case_known c ks) v known fits = absurd fits
    fits_shape s k v known fits = absurd known

    fit_shapes : (shapes : List Shape) (ks : Parts) (vs : Values) → AllKnownAs types shapes ks → AllFit types ks vs → HaveShapes types shapes vs
    fit_shapes [] no_part no_value known fits = tt
    fit_shapes (s ∷ shapes) (part_then k ks) (value_then v vs) known fits = (fits_shape s k v known.0 fits.0, fit_shapes shapes ks vs known.1 fits.1)
    fit_shapes [] no_part (value_then v vs) known fits = absurd fits
    fit_shapes (s ∷ shapes) (part_then k ks) no_value known fits = absurd fits
    fit_shapes shapes ks vs known fits = absurd known

  mutual
    -- what has the shape and meets the example fits
    pub example_fits : (s : Shape) (k : Knowledge) (v : Value) → KnownAs types s k → HasShape types s v → meets (example k) v ≡ true → Fits types k v
    example_fits s (unknown s') v known has m = subst (λ x. HasShape types x v) (sym known.0) has
    example_fits Flag (flag_known b) (flag c) known has m = ap flag (flags_same b c m)
    example_fits (Word w) (word_known n) (word x) known has m = ap word (sym (equal_numbers n x m))
    example_fits (Word w) (others u ns) (word x) known has m =
        let same : least_other ns ≡ x = equal_numbers (least_other ns) x m in
        (rw known.0 has, rw (← same) (least_free ns).0)
    example_fits (Data t) (case_known c ks) (made e vs) known has m =
        let same : c ≡ e = equal_numbers c e (and_left (c == e) (all_meet (examples ks) vs) m) in
        let shapes : known.0 ≡ has.0 = some_shapes _ _ (sym known.1 ∙ ap (fields_of types t) same ∙ has.1) in
        (sym same, examples_fit known.0 ks vs known.2 (subst (λ x. HaveShapes types x vs) (sym shapes) has.2) (and_right (c == e) (all_meet (examples ks) vs) m))
    example_fits Flag (flag_known b) v known has m = absurd has
    example_fits (Word w) (word_known n) v known has m = absurd has
    example_fits (Word w) (others u ns) v known has m = absurd has
    example_fits (Data t) (case_known c ks) v known has m = absurd has
    example_fits s k v known has m = absurd known

    examples_fit : (shapes : List Shape) (ks : Parts) (vs : Values) → AllKnownAs types shapes ks → HaveShapes types shapes vs → all_meet (examples ks) vs ≡ true → AllFit types ks vs
    examples_fit [] no_part no_value known has m = tt
    examples_fit (s ∷ shapes) (part_then k ks) (value_then v vs) known has m =
        (example_fits s k v known.0 has.0 (and_left (meets (example k) v) (all_meet (examples ks) vs) m), examples_fit shapes ks vs known.1 has.1 (and_right (meets (example k) v) (all_meet (examples ks) vs) m))
    examples_fit [] no_part (value_then v vs) known has m = absurd has
    examples_fit (s ∷ shapes) (part_then k ks) no_value known has m = absurd has
    examples_fit shapes ks vs known has m = absurd known
