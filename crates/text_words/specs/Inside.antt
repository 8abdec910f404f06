-- Which bytes texts have not.
use Rattle.std.proofs.Common.{◌≡◌, ◌==◌, ◌<◌, ◌^◌, ◌-◌, ◌&&◌, ℕ, Bool, true, false, List, [], ◌∷◌, ◌++◌, map, Option, Some, None, IsTrue, refl, arith}
use Rattle.std.specs.Prelude.{codes}
use Rattle.std.specs.List.{list_all}
use Rattle.std.specs.Fmt.{digit_glyph}
use Rattle.std.proofs.lemmas.Bool.Decides.{nat_tests}
use Rattle.std.proofs.lemmas.List.Folds.{list_all-append}
use Rattle.base_trait.specs.declared.uses.Stamp.{Stamp}
use Rattle.base_trait.specs.declared.uses.Stamp.TheVariants.{Entry, At}
use Rattle.base_trait.proofs.Tests.{at_choice}
use Rattle.base_interval.specs.declared.range.Range.{Range}
use Rattle.base_bits.specs.declared.known.Known.{Known}
use Rattle.base_strides.specs.Rows.{range}
use Rattle.base_strides.specs.Words.{Listed, Strided}
use Rattle.base_strides.specs.Words as strided
use Rattle.text_words.specs.Lists.{behind_commas, with_commas}
use Rattle.text_words.specs.Notes.{stamp_text, stamps_text}
use Rattle.text_words.specs.Readings.{IsNoteText, is_inside, is_solid}
use Rattle.text_words.specs.Words.{known_text, number, range_text, set_text, strided_text}
use Rattle.text_words.specs.Digits.{number_all}
use Rattle.text_words.specs.PiecesTold.{IsInner, is_inner}

-- each of two texts
pub both_all : (test : ℕ → Bool) (front rest : List ℕ) → IsTrue (list_all test front) → IsTrue (list_all test rest) → IsTrue (list_all test (front ++ rest))
both_all test front rest h k = rw (list_all-append test front rest, h) k

-- texts with commas between, where a comma passes the test
module _ (test : ℕ → Bool) (comma : test 44 ≡ true) {A : Type 0} (write : A → List ℕ) (each : (x : A) → IsTrue (list_all test (write x))) where
  pub commas_all : (xs : List A) → IsTrue (list_all test (behind_commas (map write xs)))
  commas_all [] = refl
  commas_all (x ∷ xs) = rw comma (both_all test (write x) (behind_commas (map write xs)) (each x) (commas_all xs))

  pub with_commas_all : (xs : List A) → IsTrue (list_all test (with_commas (map write xs)))
  with_commas_all [] = refl
  with_commas_all (x ∷ xs) = both_all test (write x) (behind_commas (map write xs)) (each x) (commas_all xs)

-- ---- words

glyph_solid : (d : ℕ) → d < 16 → is_solid (digit_glyph false d) ≡ true
glyph_solid d h = grind (arith, nat_tests, h)

number_solid : (w n : ℕ) → IsTrue (list_all is_solid (number w n))
number_solid w n = number_all is_solid glyph_solid w n

pub set_solid : (w : ℕ) (x : Option (List ℕ)) → IsTrue (list_all is_solid (set_text w x))
set_solid w None = refl
set_solid w (Some numbers) = both_all is_solid (with_commas (map (number w) numbers)) (codes "}") (with_commas_all is_solid refl (number w) (number_solid w) numbers) refl

pub range_solid : (w : ℕ) (x : Range) → IsTrue (list_all is_solid (range_text w x))
range_solid w x =
    at_choice (λ t. IsTrue (list_all is_solid t)) (x.lo == 0 && x.hi == 2 ^ w - 1) (codes "any") (number w x.lo ++ (codes ".." ++ number w x.hi)) (λ e. refl)
    (λ e. both_all is_solid (number w x.lo) (codes ".." ++ number w x.hi) (number_solid w x.lo) (number_solid w x.hi))

pub known_solid : (w : ℕ) (x : Known) → IsTrue (list_all is_solid (known_text w x))
known_solid w x =
    at_choice (λ t. IsTrue (list_all is_solid t)) (x.m == 2 ^ w - 1) (codes "any") (number w x.v ++ (codes "/" ++ number w x.m)) (λ e. refl)
    (λ e. both_all is_solid (number w x.v) (codes "/" ++ number w x.m) (number_solid w x.v) (number_solid w x.m))

pub strided_solid : (w : ℕ) (x : strided.Word) → IsTrue (list_all is_solid (strided_text w x))
strided_solid w (Listed numbers) = set_solid w (Some numbers)
strided_solid w (Strided x) =
    let ends = number w x.lo ++ (codes ".." ++ number w x.hi) in
    at_choice (λ t. IsTrue (list_all is_solid t)) (x.step == 1) (range_text w (range x)) (ends ++ (codes "+" ++ number w x.step)) (λ e. range_solid w (range x))
    (λ e. both_all is_solid ends (codes "+" ++ number w x.step) (both_all is_solid (number w x.lo) (codes ".." ++ number w x.hi) (number_solid w x.lo) (number_solid w x.hi)) (number_solid w x.step))

-- ---- notes

glyph_inside : (d : ℕ) → d < 16 → is_inside (digit_glyph false d) ≡ true
glyph_inside d h = grind (arith, nat_tests, h)

stamp_inside : (s : Stamp) → IsTrue (list_all is_inside (stamp_text s))
stamp_inside Entry = refl
stamp_inside (At a) = number_all is_inside glyph_inside 32 a

pub stamps_inside : (stamps : List Stamp) → IsNoteText (stamps_text stamps)
stamps_inside [] = tt
stamps_inside (s ∷ stamps) = (refl, with_commas_all is_inside refl stamp_text stamp_inside (s ∷ stamps))

-- ---- separators

glyph_inner : (separator : ℕ) → (separator < 48) → (d : ℕ) → d < 16 → is_inner separator (digit_glyph false d) ≡ true
glyph_inner separator low d h = grind (arith, nat_tests, h, low)

-- a number has no byte below `0`
pub number_inner : (separator : ℕ) → separator < 48 → (w n : ℕ) → IsInner separator (number w n)
number_inner separator low w n = number_all (is_inner separator) (glyph_inner separator low) w n

pub stamp_inner : (s : Stamp) → IsInner 44 (stamp_text s)
stamp_inner Entry = refl
stamp_inner (At a) = number_inner 44 (omega arith) 32 a
