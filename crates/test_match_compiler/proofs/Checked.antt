-- What the tests of the premises give.
use Rattle.std.proofs.Common.{◌≡◌, ℕ, zero, suc, ◌+◌, ◌-◌, ◌/◌, ◌<◌, ◌≤◌, ◌^◌, true, ◌&&◌, ltb, leb, Option, Some, None, unwrap_or, is_some, slice_get, List, [], ◌∷◌, length, map, refl, arith, All}
use Rattle.std.proofs.lemmas.Bool.Decides.{nat_tests}
use Rattle.std.proofs.lemmas.List.Elements.{All-nil, All-cons}
use Rattle.std.proofs.lemmas.Option.{slice_get_within}
use Rattle.word_operations.proofs.Widths.{ones_of}
use Rattle.spec_match_compiler.specs.declared.shape.Shape.{Shape}
use Rattle.spec_match_compiler.specs.declared.shape.Shape.TheVariants.{Bool as Flag, Word, Data, Opaque}
use Rattle.spec_match_compiler.specs.declared.pattern.Pattern.{Pattern}
use Rattle.spec_match_compiler.specs.Patterns as plain
use Rattle.spec_match_compiler.specs.Patterns.{any, bind, flag_is, word_is, case_is, no_pat, pat_then}
use Rattle.spec_match_compiler.specs.Shapes.{Types, fields_of, Suits, AllSuit, AreTypes, IsShape, AreShapes, RanksBelow}
use Rattle.test_match_compiler.specs.Premises.{shape_fits, shapes_fit, cases_fit, types_fit, pattern_fits, patterns_fit, rows_fit}
use Rattle.spec_match_compiler.specs.Views.{pat}
use Rattle.spec_match_compiler.proofs.Truth.{and_left, and_right}

less : (m n : ℕ) → ltb m n ≡ true → m < n
less m n h = grind (arith, nat_tests)

at_most : (m n : ℕ) → leb m n ≡ true → m ≤ n
at_most m n h = grind (arith, nat_tests)

there : (o : Option (List Shape)) → is_some o ≡ true → o ≡ Some (unwrap_or o [])
there None h = absurd (cc)
there (Some x) h = refl

word_less : (w n : ℕ) → w ≤ 64 → n ≤ (2 ^ 64 - 1) / 2 ^ (64 - w) → n < 2 ^ w
word_less w n h l = let e = ones_of w h in omega (arith, e)

module _ (types : Types) where
  mutual
    pub fit_suits : (s : Shape) (p : plain.Pattern) → pattern_fits types s p ≡ true → Suits types s p
    fit_suits s any h = tt
    fit_suits s (bind n) h = tt
    fit_suits Flag (flag_is b) h = tt
    fit_suits (Word w) (word_is n) h =
        word_less w n (at_most w 64 (and_right (leb 1 w) (leb w 64) (and_left (leb 1 w && leb w 64) (leb n ((2 ^ 64 - 1) / 2 ^ (64 - w))) h)))
        (at_most n ((2 ^ 64 - 1) / 2 ^ (64 - w)) (and_right (leb 1 w && leb w 64) (leb n ((2 ^ 64 - 1) / 2 ^ (64 - w))) h))
    fit_suits (Data t) (case_is c ps) h =
        let o = fields_of types t c in
        (unwrap_or o [], there o (and_left (is_some o) (patterns_fit types (unwrap_or o []) ps) h), fits_suit (unwrap_or o []) ps (and_right (is_some o) (patterns_fit types (unwrap_or o []) ps) h))
    fit_suits s p h = absurd (cc)

    fits_suit : (shapes : List Shape) (ps : plain.Patterns) → patterns_fit types shapes ps ≡ true → AllSuit types shapes ps
    fits_suit [] no_pat h = tt
    fits_suit (s ∷ shapes) (pat_then p ps) h = (fit_suits s p (and_left (pattern_fits types s p) (patterns_fit types shapes ps) h), fits_suit shapes ps (and_right (pattern_fits types s p) (patterns_fit types shapes ps) h))
    fits_suit shapes ps h = absurd (cc)

  pub rows_suit : (s : Shape) (rows : List Pattern) → rows_fit types s (map pat rows) ≡ true → All (λ p. Suits types s (pat p)) rows
  rows_suit s [] h = All-nil (λ p. Suits types s (pat p))
  rows_suit s (p ∷ rows) h =
      All-cons (λ p. Suits types s (pat p)) p rows (fit_suits s (pat p) (and_left (pattern_fits types s (pat p)) (rows_fit types s (map pat rows)) h)) (rows_suit s rows (and_right (pattern_fits types s (pat p)) (rows_fit types s (map pat rows)) h))

  shapes_are : (n : ℕ) (shapes : List Shape) → n ≤ length types → shapes_fit n shapes ≡ true → AreShapes types shapes × RanksBelow types (λ t. t) n shapes
  shapes_are n [] l h = (tt, tt)
  shapes_are n (Flag ∷ shapes) l h = let r = shapes_are n shapes l h in ((tt, r.0), r.1)
  shapes_are n (Opaque ∷ shapes) l h = let r = shapes_are n shapes l h in ((tt, r.0), r.1)
  shapes_are n (Word w ∷ shapes) l h =
      let r = shapes_are n shapes l (and_right (leb 1 w && leb w 64) (shapes_fit n shapes) h) in
      let g = and_left (leb 1 w && leb w 64) (shapes_fit n shapes) h in
      (((at_most 1 w (and_left (leb 1 w) (leb w 64) g), at_most w 64 (and_right (leb 1 w) (leb w 64) g)), r.0), r.1)
  shapes_are n (Data t ∷ shapes) l h =
      let r = shapes_are n shapes l (and_right (ltb t n) (shapes_fit n shapes) h) in
      let g = less t n (and_left (ltb t n) (shapes_fit n shapes) h) in
      ((omega (arith, g), r.0), (g, r.1))

at_case : (n : ℕ) (cases : List (List Shape)) (c : ℕ) (shapes : List Shape) → cases_fit n cases ≡ true → slice_get cases c ≡ Some shapes → (length shapes < 2 ^ 32) × (shapes_fit n shapes ≡ true)
at_case n [] c shapes h e = absurd (cc)
at_case n (fields ∷ cases) zero shapes h e =
    let g = and_left (ltb (length fields) (2 ^ 32) && shapes_fit n fields) (cases_fit n cases) h in
    let same : fields ≡ shapes = cc in
    rw (← same) (less (length fields) (2 ^ 32) (and_left (ltb (length fields) (2 ^ 32)) (shapes_fit n fields) g), and_right (ltb (length fields) (2 ^ 32)) (shapes_fit n fields) g)
at_case n (fields ∷ cases) (suc c) shapes h e = at_case n cases c shapes (and_right (ltb (length fields) (2 ^ 32) && shapes_fit n fields) (cases_fit n cases) h) e

record TypeFits (n : ℕ) (cases : List (List Shape)) : Type 0 where
  some : 1 ≤ length cases
  few : length cases < 2 ^ 32
  fit : cases_fit n cases ≡ true

type_fits : (n : ℕ) (cases : List (List Shape)) → (ltb 0 (length cases) && ltb (length cases) (2 ^ 32) && cases_fit n cases) ≡ true → TypeFits n cases
type_fits n cases h =
    let g = and_left (ltb 0 (length cases) && ltb (length cases) (2 ^ 32)) (cases_fit n cases) h in
    record {
      some = less 0 (length cases) (and_left (ltb 0 (length cases)) (ltb (length cases) (2 ^ 32)) g);
      few = less (length cases) (2 ^ 32) (and_right (ltb 0 (length cases)) (ltb (length cases) (2 ^ 32)) g);
      fit = and_right (ltb 0 (length cases) && ltb (length cases) (2 ^ 32)) (cases_fit n cases) h;
    }

at_type : (n : ℕ) (types : Types) (t : ℕ) (cases : List (List Shape)) → types_fit n types ≡ true → slice_get types t ≡ Some cases → TypeFits (n + t) cases
at_type n [] t cases h e = absurd (cc)
at_type n (ks ∷ types) zero cases h e =
    let same : ks ≡ cases = cc in
    let none : n + 0 ≡ n = omega arith in
    rw (none, ← same) (type_fits n ks (and_left (ltb 0 (length ks) && ltb (length ks) (2 ^ 32) && cases_fit n ks) (types_fit (n + 1) types) h))
at_type n (ks ∷ types) (suc t) cases h e =
    let same : n + suc t ≡ n + 1 + t = omega arith in
    rw same (at_type (n + 1) types t cases (and_right (ltb 0 (length ks) && ltb (length ks) (2 ^ 32) && cases_fit n ks) (types_fit (n + 1) types) h) e)

found_cases : (o : Option (List (List Shape))) (c : ℕ) (shapes : List Shape) → slice_get (unwrap_or o []) c ≡ Some shapes → (cases : List (List Shape)) × (o ≡ Some cases) × (slice_get cases c ≡ Some shapes)
found_cases None c shapes h = absurd (cc)
found_cases (Some cases) c shapes h = (cases, refl, h)

type_at : (types : Types) (t : ℕ) → t < length types → (cases : List (List Shape)) × (slice_get types t ≡ Some cases)
type_at [] t h = absurd (omega arith)
type_at (cases ∷ types) zero h = (cases, refl)
type_at (cases ∷ types) (suc t) h = type_at types t (omega arith)

module _ (types : Types) (h : types_fit 0 types ≡ true) where
  few_cases : (t : ℕ) (o : Option (List (List Shape))) → slice_get types t ≡ o → length (unwrap_or o []) < 2 ^ 32
  few_cases t None e = omega arith
  few_cases t (Some cases) e = (at_type 0 types t cases h e).few

  at_field : (t c : ℕ) (shapes : List Shape) → fields_of types t c ≡ Some shapes → (length shapes < 2 ^ 32) × AreShapes types shapes × RanksBelow types (λ t. t) t shapes
  at_field t c shapes e =
      let f = found_cases (slice_get types t) c shapes e in
      let none : 0 + t ≡ t = omega arith in
      let g = at_case t f.0 c shapes (rw none at (at_type 0 types t f.0 h f.1).fit) f.2 in
      let within = slice_get_within types t f.0 f.1 in
      let r = shapes_are types t shapes (omega (arith, within)) g.1 in
      (g.0, r.0, r.1)

  pub are_types : AreTypes types
  are_types = record {
    some_case = λ t l. let f = type_at types t l in rw f.1 (at_type 0 types t f.0 h f.1).some;
    cases = λ t. few_cases t (slice_get types t) refl;
    fields = λ t c shapes e. (at_field t c shapes e).0;
    shapes = λ t c shapes e. (at_field t c shapes e).1;
    rank = λ t. t;
    falls = λ t c shapes e. (at_field t c shapes e).2;
  }

pub is_a_shape : (types : Types) (s : Shape) → shape_fits (length types) s ≡ true → IsShape types s
is_a_shape types Flag h = tt
is_a_shape types Opaque h = tt
is_a_shape types (Word w) h = (at_most 1 w (and_left (leb 1 w) (leb w 64) h), at_most w 64 (and_right (leb 1 w) (leb w 64) h))
is_a_shape types (Data t) h = less t (length types) h
