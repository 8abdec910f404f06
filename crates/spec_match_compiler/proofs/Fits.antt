-- The values of which something is known.
use Rattle.std.proofs.Common.{◌≡◌, ℕ, ◌<◌, ◌^◌, ◌⊎◌, inl, inr, ⊎_elim, Bool, true, false, not, ◌&&◌, ◌==◌, Some, List, [], ◌∷◌, length, refl, sym, ◌∙◌, arith}
use Rattle.std.proofs.lemmas.Bool.Decides.{nat_tests}
use Rattle.spec_match_compiler.specs.declared.shape.Shape.{Shape}
use Rattle.spec_match_compiler.specs.declared.shape.Shape.TheVariants.{Bool as Flag, Word, Data}
use Rattle.spec_match_compiler.specs.Values.{Value, Values, flag, word, made, no_value, value_then}
use Rattle.spec_match_compiler.specs.Patterns.{Pattern, Patterns, flag_is, word_is, case_is, pat_then}
use Rattle.spec_match_compiler.specs.Shapes.{Types, fields_of, HasShape}
use Rattle.spec_match_compiler.specs.Meets.{meets, all_meet}
use Rattle.spec_match_compiler.specs.Knowledge.{Knowledge, Parts, unknown, flag_known, word_known, others, case_known, no_part, part_then}
use Rattle.spec_match_compiler.specs.Rule.{can_match, all_can_match, is_among}
use Rattle.spec_match_compiler.specs.Limits.{ShapeInLimits}
use Rattle.spec_match_compiler.proofs.Numbers.{Apart, AllLess}

module _ (types : Types) where
  abbrev mutual
    pub Fits : Knowledge → Value → Type 0
    Fits (unknown s) v = HasShape types s v
    Fits (flag_known b) v = v ≡ flag b
    Fits (word_known n) v = v ≡ word n
    Fits (others w ns) (word n) = (n < 2 ^ w) × (is_among n ns ≡ false)
    Fits (case_known c ks) (made d vs) = (d ≡ c) × AllFit ks vs
    Fits _ _ = ⊥

    pub AllFit : Parts → Values → Type 0
    AllFit no_part no_value = Unit {0}
    AllFit (part_then k ks) (value_then v vs) = Fits k v × AllFit ks vs
    AllFit _ _ = ⊥

  abbrev mutual
    -- What may be known of a value of a shape.
    pub KnownAs : Shape → Knowledge → Type 0
    KnownAs s (unknown s') = (s' ≡ s) × ShapeInLimits s'
    KnownAs Flag (flag_known b) = Unit {0}
    KnownAs (Word w) (word_known n) = n < 2 ^ w
    KnownAs (Word w) (others u ns) = (u ≡ w) × Apart ns × AllLess (2 ^ w) ns × (length ns < 2 ^ w)
    KnownAs (Data t) (case_known c ks) = (shapes : List Shape) × (fields_of types t c ≡ Some shapes) × AllKnownAs shapes ks
    KnownAs _ _ = ⊥

    pub AllKnownAs : List Shape → Parts → Type 0
    AllKnownAs [] no_part = Unit {0}
    AllKnownAs (s ∷ shapes) (part_then k ks) = KnownAs s k × AllKnownAs shapes ks
    AllKnownAs _ _ = ⊥

-- whether two truth values are the same, either way
and_false : (a b : Bool) → (a && b) ≡ false → (a ≡ false) ⊎ (b ≡ false)
and_false true b h = inr h
and_false false b h = inl refl

one_false : (a b : Bool) → (a ≡ false) ⊎ (b ≡ false) → (a && b) ≡ false
one_false a b (inl h) = rw h refl
one_false true b (inr h) = h
one_false false b (inr h) = refl

not_false : (a : Bool) → not a ≡ false → a ≡ true
not_false true h = refl
not_false false h = sym h

-- a number among the tested ones isn't one that is left
apart_words : (n m : ℕ) (ns : List ℕ) (t : Bool) → (n == m) ≡ t → is_among n ns ≡ true → is_among m ns ≡ false → t ≡ false
apart_words n m ns true e h g = let same : n ≡ m = grind (arith, nat_tests) in absurd (let x : true ≡ false = sym (rw same at h) ∙ g in cc)
apart_words n m ns false e h g = refl

module _ (types : Types) where
  mutual
    -- A pattern that can't match what is known isn't met.
    pub never : (p : Pattern) (k : Knowledge) (v : Value) → can_match p k ≡ false → Fits types k v → meets p v ≡ false
    never (flag_is b) (flag_known c) v h fits = rw fits h
    never (word_is n) (word_known m) v h fits = rw fits h
    never (word_is n) (others w ns) (word m) h fits = apart_words n m ns (n == m) refl (not_false (is_among n ns) h) fits.1
    never (case_is c ps) (case_known d ks) (made e vs) h fits =
        rw fits.0 (one_false (c == d) (all_meet ps vs) (⊎_elim (λ x. inl x) (λ x. inr (all_never ps ks vs x fits.1)) (and_false (c == d) (all_can_match ps ks) h)))
    never (word_is n) (others w ns) v h fits = absurd fits
    never (case_is c ps) (case_known d ks) v h fits = absurd fits
    never p k v h fits = absurd (cc)

    all_never : (ps : Patterns) (ks : Parts) (vs : Values) → all_can_match ps ks ≡ false → AllFit types ks vs → all_meet ps vs ≡ false
    all_never (pat_then p ps) (part_then k ks) (value_then v vs) h fits =
        one_false (meets p v) (all_meet ps vs) (⊎_elim (λ x. inl (never p k v x fits.0)) (λ x. inr (all_never ps ks vs x fits.1)) (and_false (can_match p k) (all_can_match ps ks) h))
    all_never (pat_then p ps) (part_then k ks) no_value h fits = absurd fits
    all_never ps ks vs h fits = absurd (cc)
