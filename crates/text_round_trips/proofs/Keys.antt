-- Keys are read as they are written.
use Rattle.std.proofs.Common.{◌≡◌, ℕ, zero, suc, ◌+◌, ◌*◌, ◌<◌, ◌≤◌, ◌^◌, ◌==◌, ◌&&◌, nat_le, nat_lt, bytes_eq, Bool, true, false, not, List, [], ◌∷◌, ◌++◌, length, take, drop, get_or, Option, Some, None, slice_get, refl, sym, ap, subst, inl, inr, arith, length-append}
use Rattle.std.proofs.Math.Nat.{pow-le-pow_right}
use Rattle.std.proofs.lemmas.Bool.{and_from, and_parts, both_ways, cases_Bool, eq-eqb, eqb-true, leb-true, lt-ltb, ltb-true, not-true}
use Rattle.std.proofs.lemmas.Fmt.{decimal-digits_value}
use Rattle.std.proofs.lemmas.List.{take_at, drop_at}
use Rattle.std.proofs.lemmas.Option.{cond_some, none-some, same_Some}
use Rattle.std.proofs.lemmas.Slice.Eq.{bytes_eq-Decides}
use Rattle.std.proofs.lemmas.Str.Parse.{numerals_by_value, tells_digits}
use Rattle.std.specs.Char.{digit_value}
use Rattle.std.specs.Fmt.{decimal}
use Rattle.std.specs.List.{list_all}
use Rattle.std.specs.Str.Parse.{AllDigits, digits_value, digits_value_after}
use Rattle.spec_ir.specs.declared.ty.Ty.{Ty}
use Rattle.spec_ir.specs.declared.ty.Ty.TheVariants.{Bool as Flag, Word, Data as DataTy, Map as MapOf}
use Rattle.spec_ir.specs.Environment.{Case}
use Rattle.spec_ir.specs.Specification.{Spec}
use Rattle.spec_ir.specs.Texts.{cases_of, case_text}
use Rattle.semantics_values.specs.Types.{environment_of, key_count}
use Rattle.state_cell_text.specs.Digits.{decimal_from, decimal_number, is_plain}
use Rattle.state_cell_text.specs.Keys.{below, case_number, key_text}
use Rattle.state_text.specs.Forms.{is_key}
use Rattle.state_text.specs.Laws.{IsKeyType}
use Rattle.state_text.proofs.Bytes.{run_of}
use Rattle.state_text.proofs.Names.{key_read}
use Rattle.text_words.specs.Digits.{number_back, number_tells}
use Rattle.text_words.specs.Options.{cond_then}
use Rattle.text_words.specs.Words.{number}
use Rattle.text_part_readers.specs.Keys.{key_in}
use Rattle.text_part_readers.specs.Pieces.{cut, len_before}

-- ---- decimal numbers

digits_told : (high : ℕ) (digits : List ℕ) (v : ℕ) → decimal_from high digits ≡ Some v → AllDigits 10 digits × (digits_value_after 10 high digits ≡ v)
digits_told high [] v e = (tt, same_Some high v e)
digits_told high (b ∷ digits) v e =
    let parts = cond_then (nat_lt (digit_value b) 10) (decimal_from (high * 10 + digit_value b) digits) v e in
    let more = digits_told (high * 10 + digit_value b) digits v parts.1 in
    ((ltb-true (digit_value b) 10 parts.0, more.0), more.1)

some_digits : (text : List ℕ) → is_plain text ≡ true → 0 < length text
some_digits [] h = absurd (let bad : false ≡ true = h in cc)
some_digits (b ∷ bytes) h = omega arith

no_leading_zero : (text : List ℕ) → is_plain text ≡ true → get_or text 0 0 ≡ 48 → length text ≡ 1
no_leading_zero [] h e = absurd (let bad : false ≡ true = h in cc)
no_leading_zero (b ∷ []) h e = refl
no_leading_zero (b ∷ c ∷ bytes) h e =
    let more = nat_lt 0 (length (c ∷ bytes)) in
    let parts = and_parts (nat_lt (length (c ∷ bytes)) 16) (not (b == 48 && more)) h in
    let one : (b == 48 && more) ≡ false = not-true (b == 48 && more) parts.1 in
    absurd (both_ways (b == 48 && more) one (and_from (b == 48) more (eq-eqb b 48 e) (lt-ltb 0 (length (c ∷ bytes)) (omega arith))))

-- a decimal number has one text
pub decimal_told : (text : List ℕ) (k : ℕ) → decimal_number text ≡ Some k → k < 2 ^ 64 → decimal k ≡ text
decimal_told text k e small =
    let form = cond_then (is_plain text) (decimal_from 0 text) k e in
    let digits = digits_told 0 text k form.1 in
    let below : digits_value 10 text < 2 ^ 64 = subst (λ n. n < 2 ^ 64) (sym digits.1) small in
    subst (λ n. decimal n ≡ text) digits.1 (decimal-digits_value (numerals_by_value (AllDigits 10) tells_digits) text digits.0 (some_digits text form.0) (no_leading_zero text form.0) below)

-- ---- constructors

case_told : (n : ℕ) (cases : List Case) (name : List ℕ) (k : ℕ) → case_number n cases name ≡ Some k → (i : ℕ) × (k ≡ n + i) × (case_text (slice_get cases i) ≡ name)
case_told n [] name k e = absurd (none-some k e)
case_told n (c ∷ cases) name k e = elim (cases_Bool (bytes_eq c.name name)) [
  | inl f ↦ let same : n ≡ k = same_Some n k (rw f at e) in (zero, omega (arith, same), (bytes_eq-Decides c.name name).0 f)
  | inr f ↦ let more = case_told (n + 1) cases name k (rw f at e) in (suc more.0, omega (arith, more.1), more.2)
]

-- ---- keys

below_told : (w : ℕ) (o : Option ℕ) (k : ℕ) → below w o ≡ Some k → (o ≡ Some k) × (k < 2 ^ w)
below_told w None k e = absurd (none-some k e)
below_told w (Some j) k e = let p = cond_some (nat_lt j (2 ^ w)) j k e in (ap Some p.1, subst (λ z. z < 2 ^ w) p.1 (ltb-true j (2 ^ w) p.0))

narrow_told : (w : ℕ) (text : List ℕ) (k : ℕ) → nat_le w 8 ≡ true → below w (decimal_number text) ≡ Some k → decimal k ≡ text
narrow_told w text k e h =
    let narrow : w ≤ 8 = leb-true w 8 e in
    let up : 2 ^ w ≤ 2 ^ 8 = pow-le-pow_right {n = 2} (omega arith) {i = w} {j = 8} narrow in
    let small = below_told w (decimal_number text) k h in
    decimal_told text k small.0 (omega (arith, small.1, up))

pub key_told : (spec : Spec) (ty : Ty) (text : List ℕ) (k : ℕ) → key_in spec ty text ≡ Some k → key_text spec ty k ≡ text
unfolding number
key_told spec Flag text k h = absurd (none-some k h)
key_told spec (MapOf m) text k h = absurd (none-some k h)
key_told spec (DataTy t) text k h =
    let cases = cases_of (slice_get spec.datas t) in
    let is = case_told 0 cases text k h in
    let same : is.0 ≡ k = (let e = is.1 in omega (arith, e)) in
    subst (λ n. case_text (slice_get cases n) ≡ text) same is.2
key_told spec (Word w) text k h = elim (cases_Bool (nat_le w 8)) [
  | inl e ↦ rw e (narrow_told w text k e (rw e at h))
  | inr e ↦ rw e (number_tells w text k (rw e at h)).0
]

-- a key of a type is read, and is a word
pub key_back : (spec : Spec) (ty : Ty) (k : ℕ) → IsKeyType spec ty → k < key_count (environment_of spec) ty → (key_in spec ty (key_text spec ty k) ≡ Some k) × (is_key (key_text spec ty k) ≡ true)
unfolding number
key_back spec Flag k is within = absurd is
key_back spec (MapOf m) k is within = absurd is
key_back spec (DataTy t) k is within = key_read spec (DataTy t) k is within
key_back spec (Word w) k is within =
    let read = key_read spec (Word w) k is within in
    let high : w ≤ 32 = is.1 in
    elim (cases_Bool (nat_le w 8)) [
      | inl e ↦ (rw e (rw e at read.0), read.1)
      | inr e ↦ (rw e (number_back w k (is.0, omega (arith, high)) within), read.1)
    ]

-- ---- the end of a key

-- not this byte
abbrev pub is_other : ℕ → ℕ → Bool
is_other b c = not (c == b)

split_at : (b : ℕ) (text : List ℕ) → len_before b text < length text → take (len_before b text) text ++ b ∷ drop 1 (drop (len_before b text) text) ≡ text
split_at b [] h = absurd (omega (arith, h))
split_at b (c ∷ text) h = elim (cases_Bool (c == b)) [
  | inl e ↦ let same : b ≡ c = sym (eqb-true c b e) in rw e (ap (λ (d : ℕ). d ∷ text) same)
  | inr e ↦
      let one : 1 + len_before b text ≡ suc (len_before b text) = omega arith in
      let within : len_before b text < length text = (let k = rw e at h in omega (arith, k)) in
      rw (e, one) (ap (λ (t : List ℕ). c ∷ t) (split_at b text within))
]

pub cut_told : (b : ℕ) (text : List ℕ) (p : List ℕ × List ℕ) → cut b text ≡ Some p → p.0 ++ b ∷ p.1 ≡ text
cut_told b text p e =
    let parts = cond_some (nat_lt (len_before b text) (length text)) (take (len_before b text) text, drop 1 (drop (len_before b text) text)) p e in
    subst (λ (q : List ℕ × List ℕ). q.0 ++ b ∷ q.1 ≡ text) parts.1 (split_at b text (ltb-true (len_before b text) (length text) parts.0))

pub cut_back : (b : ℕ) (front rest : List ℕ) → list_all (is_other b) front ≡ true → cut b (front ++ b ∷ rest) ≡ Some (front, rest)
cut_back b front rest h =
    let itself : (b == b) ≡ true = eq-eqb b b refl in
    let stop : is_other b b ≡ false = rw itself refl in
    let len : len_before b (front ++ b ∷ rest) ≡ length front = run_of (is_other b) front b rest h stop in
    let within : nat_lt (length front) (length (front ++ b ∷ rest)) ≡ true = lt-ltb (length front) (length (front ++ b ∷ rest)) (omega (arith, length-append front (b ∷ rest))) in
    rw (len, within, take_at front (b ∷ rest) (length front) refl, drop_at front (b ∷ rest) (length front) refl) refl
