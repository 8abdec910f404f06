-- The texts of small sets and strided intervals tell them.
use Rattle.std.proofs.Common.{◌≡◌, ◌+◌, ◌*◌, ◌<◌, ◌≤◌, ◌^◌, ◌-◌, ◌==◌, ◌&&◌, ℕ, Bool, true, false, cond, not, List, [], ◌∷◌, ◌++◌, map, length, take, drop, Option, Some, None, option_map, IsTrue, refl, sym, ap, subst, ◌∙◌, inl, inr, arith, div-mul-le_self, mul-le-mul_right}
use Rattle.std.specs.Prelude.{bytes_eq, codes, nat_le}
use Rattle.std.specs.Fmt.{digit_glyph}
use Rattle.std.specs.List.{list_all}
use Rattle.std.specs.Option.{option_and_then, option_zip}
use Rattle.std.proofs.lemmas.Bool.{and_parts, both_ways, cases_Bool, eqb-true, le-leb, leb-true, ne_eqb}
use Rattle.std.proofs.lemmas.Bool.Decides.{nat_tests}
use Rattle.std.proofs.lemmas.List.{append_assoc, length-append, take-append-drop, drop_at}
use Rattle.std.proofs.lemmas.Option.{same_Some, cond_some}
use Rattle.std.proofs.lemmas.Slice.Eq.{bytes_eq-Decides}
use Rattle.base_trait.proofs.Tests.{and_both, at_choice}
use Rattle.word_operations.specs.Width.{IsWidth}
use Rattle.state_cell_text.specs.Digits.{digits_of}
use Rattle.base_kset.specs.Sets.{IsSet, bounded}
use Rattle.base_interval.specs.declared.range.Range.{Range}
use Rattle.base_strides.specs.Instance.{word_laws}
use Rattle.base_strides.specs.Meaning.{Fits, IsLong, is_long}
use Rattle.base_strides.specs.Rows.{range}
use Rattle.base_strides.specs.Stretch.{more}
use Rattle.base_strides.specs.Words.{Listed, Strided}
use Rattle.base_strides.specs.Words as strided
use Rattle.base_strides.specs.declared.stretch.Stretch.{Stretch}
use Rattle.text_words.specs.Lists.{with_commas}
use Rattle.text_words.specs.Reading.{behind, braced, by_ones, by_steps, either_form, ends, is_any, is_width, listed_word, long, number_in, numbers_in, range_in, set_word, stepped_in, stretch_in, strided_form, strided_in, two_in}
use Rattle.text_words.specs.Words.{number, range_text, set_text, stretch_text, strided_text}
use Rattle.text_words.specs.Digits.{number_all, number_back, number_length, number_tells}
use Rattle.text_words.specs.Fronts.{before_back, behind_back, behind_tells, parts_back, two_back, two_tells}
use Rattle.text_words.specs.Inside.{both_all}
use Rattle.text_words.specs.Options.{cond_then, followed, mapped, unless, zip_none, zipped}
use Rattle.text_words.specs.Told.{SetTold, glyph_no_n, is_no_n, no_n, not_any, numbers_back, range_back, range_tells, set_told_from}

-- ---- widths

width_told : (w : ℕ) → IsWidth w → is_width w ≡ true
width_told w width = let low : nat_le 1 w ≡ true = le-leb 1 w width.0 in let high : nat_le w 64 ≡ true = le-leb w 64 width.1 in rw (low, high) refl

width_of : (w : ℕ) → is_width w ≡ true → IsWidth w
width_of w e = let parts = and_parts (nat_le 1 w) (nat_le w 64) e in (leb-true 1 w parts.0, leb-true w 64 parts.1)

-- ---- braces

-- not the byte of `{`
abbrev is_open : ℕ → Bool
is_open b = not (b == 123)

glyph_open : (d : ℕ) → d < 16 → is_open (digit_glyph false d) ≡ true
glyph_open d h = grind (arith, nat_tests, h)

-- a text without `{` has no braces
unbraced : (text : List ℕ) → IsTrue (list_all is_open text) → braced text ≡ None
unbraced [] h = refl
unbraced (b ∷ text) h =
    elim (cases_Bool (bytes_eq (b ∷ []) (codes "{"))) [
      | inl e ↦
          let same : b ∷ [] ≡ codes "{" = (bytes_eq-Decides (b ∷ []) (codes "{")).0 e in
          let first : IsTrue (list_all is_open (b ∷ [])) = and_both (is_open b) true (and_parts (is_open b) (list_all is_open text) h).0 refl in
          absurd (both_ways (list_all is_open (codes "{")) refl (subst (λ t. list_all is_open t ≡ true) same first))
      | inr e ↦ rw e refl
    ]

-- bytes of a strided interval
module _ (test : ℕ → Bool) (digit : (d : ℕ) → d < 16 → test (digit_glyph false d) ≡ true) (dot : test 46 ≡ true) (plus : test 43 ≡ true) where
  ends_all : (w a b : ℕ) → IsTrue (list_all test (number w a ++ (codes ".." ++ number w b)))
  ends_all w a b =
      both_all test (number w a) (codes ".." ++ number w b) (number_all test digit w a)
      (both_all test (codes "..") (number w b) (rw dot refl) (number_all test digit w b))

  stepped_all : (w a b s : ℕ) → IsTrue (list_all test ((number w a ++ (codes ".." ++ number w b)) ++ (codes "+" ++ number w s)))
  stepped_all w a b s =
      both_all test (number w a ++ (codes ".." ++ number w b)) (codes "+" ++ number w s) (ends_all w a b)
      (both_all test (codes "+") (number w s) (rw plus refl) (number_all test digit w s))

stretch_unbraced : (w : ℕ) (x : Stretch) → braced (stretch_text w x) ≡ None
stretch_unbraced w x =
    unbraced (stretch_text w x)
    (at_choice (λ t. IsTrue (list_all is_open t)) (x.step == 1) (range_text w (range x)) ((number w x.lo ++ (codes ".." ++ number w x.hi)) ++ (codes "+" ++ number w x.step))
    (λ e. at_choice (λ t. IsTrue (list_all is_open t)) (x.lo == 0 && x.hi == 2 ^ w - 1) (codes "any") (number w x.lo ++ (codes ".." ++ number w x.hi)) (λ f. refl) (λ f. ends_all is_open glyph_open refl refl w x.lo x.hi))
    (λ e. stepped_all is_open glyph_open refl refl w x.lo x.hi x.step))

-- ---- sets

few_back : (K : ℕ) (s : List ℕ) → length s ≤ K → bounded K s ≡ Some s
few_back K s h = rw (le-leb (length s) K h) refl

set_read : (w : ℕ) (s : List ℕ) → IsWidth w → IsSet 16 w s → strided_form w (set_text w (Some s)) (braced (set_text w (Some s))) ≡ Some (Listed s)
set_read w [] width set = absurd (let some = set.some in omega (arith, some))
set_read w (x ∷ xs) width set =
    let text = with_commas (map (number w) (x ∷ xs)) in
    let inner : braced (set_text w (Some (x ∷ xs))) ≡ Some text = before_back (codes "}") text in
    ap (strided_form w (set_text w (Some (x ∷ xs)))) inner
    ∙ ap (λ (o : Option (List ℕ)). option_map set_word (option_map Some (option_and_then (bounded 16) o))) (numbers_back w x xs width set.ascending set.below)
    ∙ ap (λ (o : Option (List ℕ)). option_map set_word (option_map Some o)) (few_back 16 (x ∷ xs) set.few)

-- ---- strided intervals

abbrev made : ℕ → ℕ → ℕ → Stretch
made lo step hi = record { lo = lo; step = step; hi = hi }

-- a long one is read as one
long_told : (w : ℕ) (x : Stretch) → IsLong w x → is_long w x ≡ true
long_told w x fits = (word_laws.fits_told [] w (Strided x)).1 fits

-- its step is no more than its ends are apart
step_below : (w : ℕ) (x : Stretch) → IsLong w x → x.step < 2 ^ w
step_below w x fits =
    let many : 16 ≤ more x = fits.many in
    let some : 1 ≤ more x = omega (arith, many) in
    let one : 1 * x.step ≤ more x * x.step = mul-le-mul_right x.step some in
    let part = div-mul-le_self (x.hi - x.lo) x.step in
    let top = fits.part.fits in
    omega (arith, one, part, top)

-- a text with more bytes than a number has is none
not_number : (w : ℕ) (text : List ℕ) → (length text == digits_of w) ≡ false → number_in w text ≡ None
not_number w text e = rw e refl

longer : (w b s : ℕ) → (length (number w b ++ (codes "+" ++ number w s)) == digits_of w) ≡ false
longer w b s =
    let all = length-append (number w b) (codes "+" ++ number w s) in
    let first : length (number w b) ≡ digits_of w = number_length w b in
    ne_eqb (length (number w b ++ (codes "+" ++ number w s))) (digits_of w) (λ e. omega (arith, all, first, length-append (codes "+") (number w s), e))

module _ (w : ℕ) (width : IsWidth w) (x : Stretch) (fits : IsLong w x) where
  low_below : x.lo < 2 ^ w
  low_below = let order = fits.part.whole.above in let top = fits.part.fits in omega (arith, order, top)

  -- ---- of step 1
  by_ones_back : (x.step == 1) ≡ true → stretch_in w (range_text w (range x)) ≡ Some x
  by_ones_back e =
      let step : x.step ≡ 1 = eqb-true x.step 1 e in
      let read : range_in w (range_text w (range x)) ≡ Some (range x) = range_back w (range x) width (fits.part.whole.above, fits.part.fits) in
      let stepped = stepped_in w (range_text w (range x)) in
      ap (λ (o : Option Range). either_form o stepped) read ∙ ap (λ (s : ℕ). Some (made x.lo s x.hi)) (sym step)

  -- ---- of another
  abbrev ends_of : List ℕ
  ends_of = number w x.lo ++ (codes ".." ++ number w x.hi)

  abbrev step_of : List ℕ
  step_of = codes "+" ++ number w x.step

  -- no interval has that text
  no_second : option_and_then (number_in w) (behind (codes "..") (drop (digits_of w) (ends_of ++ step_of))) ≡ None
  no_second =
      let rest = number w x.hi ++ step_of in
      let cut : drop (digits_of w) (ends_of ++ step_of) ≡ codes ".." ++ rest =
      ap (drop (digits_of w)) (append_assoc (number w x.lo) (codes ".." ++ number w x.hi) step_of)
      ∙ drop_at (number w x.lo) (codes ".." ++ rest) (digits_of w) (number_length w x.lo) in
      ap (λ (t : List ℕ). option_and_then (number_in w) (behind (codes "..") t)) cut
      ∙ ap (option_and_then (number_in w)) (behind_back (codes "..") rest)
      ∙ not_number w rest (longer w x.hi x.step)

  no_range : range_in w (ends_of ++ step_of) ≡ None
  no_range =
      let form : is_any w (ends_of ++ step_of) ≡ false = not_any w (ends_of ++ step_of) (no_n (ends_of ++ step_of) (codes "any") (stepped_all is_no_n glyph_no_n refl refl w x.lo x.hi x.step) refl) in
      let first = number_in w (take (digits_of w) (ends_of ++ step_of)) in
      let two : two_in (codes "..") w (ends_of ++ step_of) ≡ None = ap (λ (o : Option ℕ). option_zip first o) no_second ∙ zip_none first in
      let whole : Option Range = Some (record { lo = 0; hi = 2 ^ w - 1 }) in
      ap (λ (b : Bool). cond b whole (option_and_then (ends w) (two_in (codes "..") w (ends_of ++ step_of)))) form ∙ ap (option_and_then (ends w)) two

  stepped_back : stepped_in w (ends_of ++ step_of) ≡ Some ((x.lo, x.hi), x.step)
  stepped_back =
      let all = length-append (number w x.lo) (codes ".." ++ number w x.hi) in
      let low : length (number w x.lo) ≡ digits_of w = number_length w x.lo in
      let high : length (number w x.hi) ≡ digits_of w = number_length w x.hi in
      let count : length ends_of ≡ 2 * digits_of w + 2 = omega (arith, all, low, high, length-append (codes "..") (number w x.hi)) in
      parts_back (two_in (codes "..") w) (λ t. option_and_then (number_in w) (behind (codes "+") t)) (2 * digits_of w + 2) ends_of step_of (x.lo, x.hi) x.step count
      (two_back (codes "..") w x.lo x.hi width low_below fits.part.fits)
      (ap (option_and_then (number_in w)) (behind_back (codes "+") (number w x.step)) ∙ number_back w x.step width (step_below w x fits))

  by_steps_back : (x.step == 1) ≡ false → stretch_in w (ends_of ++ step_of) ≡ Some x
  by_steps_back e =
      ap (λ (o : Option Range). either_form o (stepped_in w (ends_of ++ step_of))) no_range
      ∙ ap (option_and_then by_steps) stepped_back
      ∙ ap (λ (b : Bool). cond b None (Some x)) e

  stretch_back : stretch_in w (stretch_text w x) ≡ Some x
  stretch_back =
      at_choice (λ t. stretch_in w t ≡ Some x) (x.step == 1) (range_text w (range x)) (ends_of ++ step_of) by_ones_back by_steps_back

  stretch_read : strided_form w (stretch_text w x) (braced (stretch_text w x)) ≡ Some (Strided x)
  stretch_read =
      ap (strided_form w (stretch_text w x)) (stretch_unbraced w x)
      ∙ ap (option_and_then (long w)) stretch_back
      ∙ ap (λ (b : Bool). cond b (Some (Strided x)) None) (long_told w x fits)

-- ---- what is written is read

word_read : (w : ℕ) (x : strided.Word) → IsWidth w → Fits w x → strided_form w (strided_text w x) (braced (strided_text w x)) ≡ Some x
word_read w (Listed s) width fits = set_read w s width fits
word_read w (Strided x) width fits = stretch_read w width x fits

pub strided_back : (w : ℕ) (x : strided.Word) → IsWidth w → Fits w x → strided_in w (strided_text w x) ≡ Some x
strided_back w x width fits =
    ap (λ (b : Bool). cond b (strided_form w (strided_text w x) (braced (strided_text w x))) None) (width_told w width) ∙ word_read w x width fits

-- ---- what is read was written

abbrev StridedTold : ℕ → List ℕ → strided.Word → Type 0
StridedTold w text x = (strided_text w x ≡ text) × Fits w x

set_told : (w : ℕ) (text numbers : List ℕ) (x : strided.Word) → braced text ≡ Some numbers → listed_word w numbers ≡ Some x → StridedTold w text x
set_told w text numbers x is e =
    let outer = mapped set_word (option_map Some (option_and_then (bounded 16) (numbers_in w numbers))) x e in
    let inner = mapped Some (option_and_then (bounded 16) (numbers_in w numbers)) outer.from outer.is in
    let whole : option_map Some (option_and_then (bounded 16) (option_and_then (numbers_in w) (braced text))) ≡ Some (Some inner.from) =
    ap (λ (o : Option (List ℕ)). option_map Some (option_and_then (bounded 16) (option_and_then (numbers_in w) o))) is ∙ ap (option_map Some) inner.is in
    let told : SetTold 16 w text (Some inner.from) = set_told_from 16 w text (Some inner.from) whole in
    subst (StridedTold w text) (ap set_word inner.gives ∙ outer.gives) told

-- the text of what has a step
steps_told : (w : ℕ) (text : List ℕ) (z : (ℕ × ℕ) × ℕ) → stepped_in w text ≡ Some z → (number w z.0.0 ++ (codes ".." ++ number w z.0.1)) ++ (codes "+" ++ number w z.1) ≡ text
steps_told w text z e =
    let n = 2 * digits_of w + 2 in
    let both = zipped (two_in (codes "..") w (take n text)) (option_and_then (number_in w) (behind (codes "+") (drop n text))) z e in
    let two = two_tells (codes "..") w (take n text) z.0 both.0 in
    let rest = followed (number_in w) (behind (codes "+") (drop n text)) z.1 both.1 in
    let step = number_tells w rest.from z.1 rest.gives in
    let joined = behind_tells (codes "+") (drop n text) rest.from rest.is in
    ap (λ (t : List ℕ). t ++ (codes "+" ++ number w z.1)) two.text_is
    ∙ ap (λ (t : List ℕ). take n text ++ (codes "+" ++ t)) step.0
    ∙ ap (λ (t : List ℕ). take n text ++ t) joined
    ∙ take-append-drop n text

stretch_told : (w : ℕ) (text : List ℕ) (x : Stretch) → IsWidth w → stretch_in w text ≡ Some x → stretch_text w x ≡ text
stretch_told w text x width e = by_form (range_in w text) refl e
  where
    by_form : (o : Option Range) → range_in w text ≡ o → either_form o (stepped_in w text) ≡ Some x → stretch_text w x ≡ text
    by_form (Some r) is f = subst (λ y. stretch_text w y ≡ text) (same_Some (by_ones r) x f) (range_tells w text r width is).0
    by_form None is f =
        let found = followed by_steps (stepped_in w text) x f in
        let z = found.from in
        let parts = unless (z.1 == 1) (made z.0.0 z.1 z.0.1) x found.gives in
        let written = (number w z.0.0 ++ (codes ".." ++ number w z.0.1)) ++ (codes "+" ++ number w z.1) in
        let spelled = range_text w (record { lo = z.0.0; hi = z.0.1 }) in
        subst (λ y. stretch_text w y ≡ text) parts.1 (ap (λ (b : Bool). cond b spelled written) parts.0 ∙ steps_told w text z found.is)

pub strided_tells : (w : ℕ) (text : List ℕ) (x : strided.Word) → strided_in w text ≡ Some x → StridedTold w text x
strided_tells w text x e =
    let form = cond_then (is_width w) (strided_form w text (braced text)) x e in
    by_form (width_of w form.0) (braced text) refl form.1
  where
    by_form : IsWidth w → (o : Option (List ℕ)) → braced text ≡ o → strided_form w text o ≡ Some x → StridedTold w text x
    by_form width (Some numbers) is f = set_told w text numbers x is f
    by_form width None is f =
        let found = followed (long w) (stretch_in w text) x f in
        let told = cond_some (is_long w found.from) (Strided found.from) x found.gives in
        subst (StridedTold w text) told.1 (stretch_told w text found.from width found.is, (word_laws.fits_told [] w (Strided found.from)).0 told.0)
