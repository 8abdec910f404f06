-- The texts of words and notes tell them.
use Rattle.std.proofs.Common.{◌≡◌, ◌==◌, ◌<◌, ◌≤◌, ◌^◌, ◌-◌, ◌&&◌, ℕ, Bool, true, false, not, List, [], ◌∷◌, ◌++◌, map, length, Option, Some, None, option_map, IsTrue, refl, sym, ap, subst, ◌∙◌, inl, inr, arith}
use Rattle.std.specs.Prelude.{bit_and, bytes_eq, codes, nat_le, nat_lt}
use Rattle.std.specs.Fmt.{digit_glyph}
use Rattle.std.specs.List.{list_all}
use Rattle.std.specs.Option.{option_and_then}
use Rattle.std.proofs.lemmas.Bool.{and_parts, both_ways, cases_Bool, eq-eqb, eqb-true, le-leb, leb-true, not-true}
use Rattle.std.proofs.lemmas.Bool.Decides.{nat_tests}
use Rattle.std.proofs.lemmas.Nat.{and_mask}
use Rattle.std.proofs.Math.Nat.{mod-eq_of_lt, one-le-pow}
use Rattle.std.proofs.lemmas.Option.{same_Some, cond_some}
use Rattle.std.proofs.lemmas.Slice.Eq.{bytes_eq-Decides}
use Rattle.word_operations.specs.Width.{IsWidth}
use Rattle.base_trait.specs.Lists.{Each, IsAscending}
use Rattle.base_trait.specs.Stamps.{AreAscending, is_before}
use Rattle.base_trait.specs.declared.uses.Stamp.{Stamp}
use Rattle.base_trait.specs.declared.uses.Stamp.TheVariants.{Entry, At}
use Rattle.base_kset.specs.Sets.{IsSet, bounded}
use Rattle.base_kset.specs.Meaning as sets
use Rattle.text_words.specs.Lists.{behind_commas, with_commas}
use Rattle.text_words.specs.Notes.{stamp_text, stamps_text}
use Rattle.text_words.specs.Pieces.{pieces, items_in}
use Rattle.text_words.specs.Reading.{before, behind, braced, ends, is_any, known, known_in, number_in, numbers_in, range_in, set_in, two_in, stamp_at, stamp_in, stamps_in}
use Rattle.text_words.specs.Readings.{StampFits, StampsFit}
use Rattle.base_interval.specs.declared.range.Range.{Range}
use Rattle.base_interval.specs.Range as ranges
use Rattle.base_bits.specs.declared.known.Known.{Known}
use Rattle.base_bits.specs.Known as bits
use Rattle.text_words.specs.Words.{known_text, number, range_text, set_text}
use Rattle.text_words.specs.Chains.{numbers_ascend, numbers_chained, stamps_ascend, stamps_chained}
use Rattle.text_words.specs.Digits.{number_all, number_back, number_tells}
use Rattle.text_words.specs.Fronts.{before_back, before_tells, behind_tells, two_back, two_tells}
use Rattle.text_words.specs.Inside.{both_all, number_inner, stamp_inner}
use Rattle.text_words.specs.Options.{followed, mapped}
use Rattle.text_words.specs.PiecesTold.{behind_each, joined, list_back, list_tells}

-- ---- commas

behind_joined : (texts : List (List ℕ)) → behind_commas texts ≡ behind_each 44 texts
behind_joined [] = refl
behind_joined (text ∷ texts) = ap (λ rest. 44 ∷ (text ++ rest)) (behind_joined texts)

pub commas_joined : (texts : List (List ℕ)) → with_commas texts ≡ joined 44 texts
commas_joined [] = refl
commas_joined (text ∷ texts) = ap (λ rest. text ++ rest) (behind_joined texts)

-- ---- any

any_back : (w : ℕ) → IsWidth w → is_any w (codes "any") ≡ true
any_back w width = let low : nat_le 1 w ≡ true = le-leb 1 w width.0 in let high : nat_le w 64 ≡ true = le-leb w 64 width.1 in rw (low, high) refl

any_tells : (w : ℕ) (text : List ℕ) → is_any w text ≡ true → codes "any" ≡ text
any_tells w text e =
    let first = and_parts (nat_le 1 w) (nat_le w 64 && bytes_eq text (codes "any")) e in
    let second = and_parts (nat_le w 64) (bytes_eq text (codes "any")) first.1 in
    sym ((bytes_eq-Decides text (codes "any")).0 second.1)

-- what is another text
pub not_any : (w : ℕ) (text : List ℕ) → bytes_eq text (codes "any") ≡ false → is_any w text ≡ false
not_any w text e = rw e (elim (cases_Bool (nat_le 1 w)) [
  | inl a ↦ elim (cases_Bool (nat_le w 64)) [ inl b ↦ rw (a, b) refl | inr b ↦ rw (a, b) refl ]
  | inr a ↦ rw a refl
])

-- ---- sets

pub each_read : (w : ℕ) (xs : List ℕ) → IsWidth w → Each (λ n. n < 2 ^ w) xs → Each (λ n. number_in w (number w n) ≡ Some n) xs
each_read w [] width below = tt
each_read w (x ∷ xs) width below = (number_back w x width below.0, each_read w xs width below.1)

pub numbers_back : (w x : ℕ) (xs : List ℕ) → IsWidth w → IsAscending (x ∷ xs) → Each (λ n. n < 2 ^ w) (x ∷ xs) → numbers_in w (with_commas (map (number w) (x ∷ xs))) ≡ Some (x ∷ xs)
numbers_back w x xs width ascending below =
    rw (commas_joined (map (number w) (x ∷ xs)))
    (list_back nat_lt (number_in w) (number w) 44 (number_inner 44 (omega arith) w) x xs (numbers_chained (x ∷ xs) ascending) (each_read w (x ∷ xs) width below))

set_back_from : (K w : ℕ) (xs : List ℕ) → IsWidth w → IsSet K w xs → set_in K w (set_text w (Some xs)) ≡ Some (Some xs)
set_back_from K w [] width set = absurd (let some = set.some in omega (arith, some))
set_back_from K w (x ∷ xs) width set =
    let text = with_commas (map (number w) (x ∷ xs)) in
    let form : is_any w (123 ∷ (text ++ codes "}")) ≡ false = not_any w (123 ∷ (text ++ codes "}")) refl in
    let inner : before (codes "}") (text ++ codes "}") ≡ Some text = before_back (codes "}") text in
    let few : nat_le (length (x ∷ xs)) K ≡ true = le-leb (length (x ∷ xs)) K set.few in
    rw (form, inner, numbers_back w x xs width set.ascending set.below, few) refl

pub set_back : (K w : ℕ) (x : Option (List ℕ)) → IsWidth w → sets.Fits K w x → set_in K w (set_text w x) ≡ Some x
set_back K w None width fits = rw (any_back w width) refl
set_back K w (Some xs) width fits = set_back_from K w xs width fits

abbrev pub SetTold : ℕ → ℕ → List ℕ → Option (List ℕ) → Type 0
SetTold K w text x = (set_text w x ≡ text) × sets.Fits K w x

pub set_told_from : (K w : ℕ) (text : List ℕ) (x : Option (List ℕ)) → option_map Some (option_and_then (bounded K) (option_and_then (numbers_in w) (braced text))) ≡ Some x → SetTold K w text x
set_told_from K w text x e =
    let outer = mapped Some (option_and_then (bounded K) (option_and_then (numbers_in w) (braced text))) x e in
    let few = followed (bounded K) (option_and_then (numbers_in w) (braced text)) outer.from outer.is in
    let size = cond_some (nat_le (length few.from) K) few.from outer.from few.gives in
    let numbers = followed (numbers_in w) (braced text) few.from few.is in
    let inside = followed (before (codes "}")) (behind (codes "{") text) numbers.from numbers.is in
    let end = before_tells (codes "}") inside.from numbers.from inside.gives in
    let front = behind_tells (codes "{") text inside.from inside.is in
    let told = list_tells nat_lt (number_in w) (number w) 44 (λ n. n < 2 ^ w) (number_tells w) numbers.from few.from numbers.gives in
    let spelled : with_commas (map (number w) few.from) ≡ numbers.from = commas_joined (map (number w) few.from) ∙ told.text_is in
    subst (SetTold K w text) (ap Some size.1 ∙ outer.gives) (
      ap (λ t. 123 ∷ (t ++ codes "}")) spelled ∙ ap (λ t. 123 ∷ t) end ∙ front,
      record { some = told.some; few = leb-true (length few.from) K size.0; ascending = numbers_ascend few.from told.chained; below = told.each },
    )

pub set_tells : (K w : ℕ) (text : List ℕ) (x : Option (List ℕ)) → set_in K w text ≡ Some x → SetTold K w text x
set_tells K w text x e = elim (cases_Bool (is_any w text)) [
  | inl f ↦ subst (SetTold K w text) (same_Some None x (rw f at e)) (any_tells w text f, tt)
  | inr f ↦ set_told_from K w text x (rw f at e)
]

-- ---- two numbers

-- not the byte of `n`
abbrev pub is_no_n : ℕ → Bool
is_no_n b = not (b == 110)

pub glyph_no_n : (d : ℕ) → d < 16 → is_no_n (digit_glyph false d) ≡ true
glyph_no_n d h = grind (arith, nat_tests, h)

-- a text without `n` is not one that has it
pub no_n : (text word : List ℕ) → IsTrue (list_all is_no_n text) → list_all is_no_n word ≡ false → bytes_eq text word ≡ false
no_n text word h k = elim (cases_Bool (bytes_eq text word)) [
  | inl e ↦ absurd (let same : text ≡ word = (bytes_eq-Decides text word).0 e in both_ways (list_all is_no_n word) k (subst (λ t. list_all is_no_n t ≡ true) same h))
  | inr e ↦ e
]

two_not_any : (between : List ℕ) (w a b : ℕ) → IsTrue (list_all is_no_n between) → is_any w (number w a ++ (between ++ number w b)) ≡ false
two_not_any between w a b h =
    let text = number w a ++ (between ++ number w b) in
    let digits : (n : ℕ) → IsTrue (list_all is_no_n (number w n)) = number_all is_no_n glyph_no_n w in
    not_any w text (no_n text (codes "any") (both_all is_no_n (number w a) (between ++ number w b) (digits a) (both_all is_no_n between (number w b) h (digits b))) refl)

-- ---- intervals

pub range_back : (w : ℕ) (x : Range) → IsWidth w → ranges.Fits w x → range_in w (range_text w x) ≡ Some x
range_back w x width fits = elim (cases_Bool (x.lo == 0 && x.hi == 2 ^ w - 1)) [
  | inl e ↦
      let parts = and_parts (x.lo == 0) (x.hi == 2 ^ w - 1) e in
      let low : x.lo ≡ 0 = eqb-true x.lo 0 parts.0 in
      let high : x.hi ≡ 2 ^ w - 1 = eqb-true x.hi (2 ^ w - 1) parts.1 in
      rw (e, any_back w width, low, high) refl
  | inr e ↦
      let form : is_any w (number w x.lo ++ (codes ".." ++ number w x.hi)) ≡ false = two_not_any (codes "..") w x.lo x.hi refl in
      let order : nat_le x.lo x.hi ≡ true = le-leb x.lo x.hi fits.0 in
      let low : x.lo < 2 ^ w = (let o = fits.0 in let h = fits.1 in omega (arith, o, h)) in
      rw (e, form, two_back (codes "..") w x.lo x.hi width low fits.1, order, e) refl
]

abbrev RangeTold : ℕ → List ℕ → Range → Type 0
RangeTold w text x = (range_text w x ≡ text) × ranges.Fits w x

range_told_from : (w : ℕ) (text : List ℕ) (x : Range) → option_and_then (ends w) (two_in (codes "..") w text) ≡ Some x → RangeTold w text x
range_told_from w text x e =
    let both = followed (ends w) (two_in (codes "..") w text) x e in
    let lo = both.from.0 in
    let hi = both.from.1 in
    let form = cond_some (nat_le lo hi && not (lo == 0 && hi == 2 ^ w - 1)) (record { lo = lo; hi = hi }) x both.gives in
    let parts = and_parts (nat_le lo hi) (not (lo == 0 && hi == 2 ^ w - 1)) form.0 in
    let told = two_tells (codes "..") w text both.from both.is in
    let partial : (lo == 0 && hi == 2 ^ w - 1) ≡ false = not-true (lo == 0 && hi == 2 ^ w - 1) parts.1 in
    subst (RangeTold w text) form.1 (rw partial told.text_is, (leb-true lo hi parts.0, told.big))

pub range_tells : (w : ℕ) (text : List ℕ) (x : Range) → IsWidth w → range_in w text ≡ Some x → RangeTold w text x
range_tells w text x width e = elim (cases_Bool (is_any w text)) [
  | inl f ↦
      let some : 1 ≤ 2 ^ w = one-le-pow w 2 (omega arith) in
      let whole : RangeTold w text (record { lo = 0; hi = 2 ^ w - 1 }) = (rw (eq-eqb (2 ^ w - 1) (2 ^ w - 1) refl) (any_tells w text f), (omega arith, omega (arith, some))) in
      subst (RangeTold w text) (same_Some (record { lo = 0; hi = 2 ^ w - 1 }) x (rw f at e)) whole
  | inr f ↦ range_told_from w text x (rw f at e)
]

-- ---- known bits

-- where all bits are unknown none is 1
none_known : (w : ℕ) (x : Known) → bits.Fits w x → x.m ≡ 2 ^ w - 1 → x.v ≡ 0
none_known w x fits e =
    let apart : bit_and x.v x.m ≡ 0 = fits.apart in
    let all : bit_and x.v (2 ^ w - 1) ≡ 0 = rw e at apart in
    sym (mod-eq_of_lt fits.known) ∙ sym (and_mask x.v w) ∙ all

pub known_back : (w : ℕ) (x : Known) → IsWidth w → bits.Fits w x → known_in w (known_text w x) ≡ Some x
known_back w x width fits = elim (cases_Bool (x.m == 2 ^ w - 1)) [
  | inl e ↦
      let mask : x.m ≡ 2 ^ w - 1 = eqb-true x.m (2 ^ w - 1) e in
      let none : x.v ≡ 0 = none_known w x fits mask in
      rw (e, any_back w width, none, mask) refl
  | inr e ↦
      let form : is_any w (number w x.v ++ (codes "/" ++ number w x.m)) ≡ false = two_not_any (codes "/") w x.v x.m refl in
      let apart : (bit_and x.v x.m == 0) ≡ true = eq-eqb (bit_and x.v x.m) 0 fits.apart in
      rw (e, form, two_back (codes "/") w x.v x.m width fits.known fits.unknown, apart, e) refl
]

abbrev KnownTold : ℕ → List ℕ → Known → Type 0
KnownTold w text x = (known_text w x ≡ text) × bits.Fits w x

known_told_from : (w : ℕ) (text : List ℕ) (x : Known) → option_and_then (known w) (two_in (codes "/") w text) ≡ Some x → KnownTold w text x
known_told_from w text x e =
    let both = followed (known w) (two_in (codes "/") w text) x e in
    let v = both.from.0 in
    let m = both.from.1 in
    let form = cond_some (bit_and v m == 0 && not (m == 2 ^ w - 1)) (record { v = v; m = m }) x both.gives in
    let parts = and_parts (bit_and v m == 0) (not (m == 2 ^ w - 1)) form.0 in
    let told = two_tells (codes "/") w text both.from both.is in
    let partial : (m == 2 ^ w - 1) ≡ false = not-true (m == 2 ^ w - 1) parts.1 in
    subst (KnownTold w text) form.1 (rw partial told.text_is, record { known = told.small; unknown = told.big; apart = eqb-true (bit_and v m) 0 parts.0 })

pub known_tells : (w : ℕ) (text : List ℕ) (x : Known) → IsWidth w → known_in w text ≡ Some x → KnownTold w text x
known_tells w text x width e = elim (cases_Bool (is_any w text)) [
  | inl f ↦
      let some : 1 ≤ 2 ^ w = one-le-pow w 2 (omega arith) in
      let whole : KnownTold w text (record { v = 0; m = 2 ^ w - 1 }) = (rw (eq-eqb (2 ^ w - 1) (2 ^ w - 1) refl) (any_tells w text f), record { known = omega (arith, some); unknown = omega (arith, some); apart = refl }) in
      subst (KnownTold w text) (same_Some (record { v = 0; m = 2 ^ w - 1 }) x (rw f at e)) whole
  | inr f ↦ known_told_from w text x (rw f at e)
]

-- ---- notes

stamp_back : (code : ℕ → Bool) (s : Stamp) → StampFits code s → stamp_in code (stamp_text s) ≡ Some s
stamp_back code Entry fits = refl
stamp_back code (At a) fits =
    let form : bytes_eq (number 32 a) (codes "entry") ≡ false = no_n (number 32 a) (codes "entry") (number_all is_no_n glyph_no_n 32 a) refl in
    let width : IsWidth 32 = (omega arith, omega arith) in
    rw (form, number_back 32 a width fits.0, fits.1) refl

each_stamp : (code : ℕ → Bool) (xs : List Stamp) → Each (StampFits code) xs → Each (λ s. stamp_in code (stamp_text s) ≡ Some s) xs
each_stamp code [] fits = tt
each_stamp code (s ∷ xs) fits = (stamp_back code s fits.0, each_stamp code xs fits.1)

pub stamps_back : (code : ℕ → Bool) (stamps : List Stamp) → StampsFit code stamps → stamps_in code (stamps_text stamps) ≡ Some stamps
stamps_back code [] fits = absurd fits
stamps_back code (s ∷ stamps) fits =
    rw (commas_joined (map stamp_text (s ∷ stamps)))
    (list_back is_before (stamp_in code) stamp_text 44 stamp_inner s stamps (stamps_chained (s ∷ stamps) fits.0) (each_stamp code (s ∷ stamps) fits.1))

stamp_tells : (code : ℕ → Bool) (text : List ℕ) (s : Stamp) → stamp_in code text ≡ Some s → (stamp_text s ≡ text) × StampFits code s
stamp_tells code text s e = elim (cases_Bool (bytes_eq text (codes "entry"))) [
  | inl f ↦ subst (λ t. (stamp_text t ≡ text) × StampFits code t) (same_Some Entry s (rw f at e)) (sym ((bytes_eq-Decides text (codes "entry")).0 f), tt)
  | inr f ↦
      let at = followed (stamp_at code) (number_in 32 text) s (rw f at e) in
      let there = cond_some (code at.from) (At at.from) s at.gives in
      let told = number_tells 32 text at.from at.is in
      subst (λ t. (stamp_text t ≡ text) × StampFits code t) there.1 (told.0, (told.1, there.0))
]

pub stamps_tell : (code : ℕ → Bool) (text : List ℕ) (stamps : List Stamp) → stamps_in code text ≡ Some stamps → (stamps_text stamps ≡ text) × StampsFit code stamps
stamps_tell code text stamps e =
    let inside = followed (λ t. items_in is_before (stamp_in code) None (pieces 44 t)) (behind (codes " from ") text) stamps e in
    let front = behind_tells (codes " from ") text inside.from inside.is in
    let told = list_tells is_before (stamp_in code) stamp_text 44 (StampFits code) (stamp_tells code) inside.from stamps inside.gives in
    let spelled : with_commas (map stamp_text stamps) ≡ inside.from = commas_joined (map stamp_text stamps) ∙ told.text_is in
    some_tell stamps told.some (ap (λ t. codes " from " ++ t) spelled ∙ front) (stamps_ascend stamps told.chained) told.each
  where
    some_tell : (xs : List Stamp) → 1 ≤ length xs → codes " from " ++ with_commas (map stamp_text xs) ≡ text → AreAscending xs → Each (StampFits code) xs → (stamps_text xs ≡ text) × StampsFit code xs
    some_tell [] some h ascend fit = absurd (omega (arith, some))
    some_tell (s ∷ xs) some h ascend fit = (h, (ascend, fit))

-- stamps that are read ascend
pub stamps_ascending : (code : ℕ → Bool) (text : List ℕ) (stamps : List Stamp) → items_in is_before (stamp_in code) None (pieces 44 text) ≡ Some stamps → AreAscending stamps
stamps_ascending code text stamps e = stamps_ascend stamps (list_tells is_before (stamp_in code) stamp_text 44 (StampFits code) (stamp_tells code) text stamps e).chained
