-- Texts with a known front or end, and two numbers with a text between.
use Rattle.std.proofs.Common.{◌≡◌, ◌<◌, ◌^◌, ◌-◌, ℕ, arith, true, List, ◌++◌, length, take, drop, Option, Some, refl, sym, ap, ◌∙◌}
use Rattle.std.specs.Prelude.{bytes_eq}
use Rattle.std.proofs.lemmas.List.{length-append, take_at, drop_at, take-append-drop}
use Rattle.std.proofs.lemmas.Option.{cond_some}
use Rattle.std.proofs.lemmas.Slice.Eq.{bytes_eq-Decides}
use Rattle.std.specs.Option.{option_and_then, option_zip}
use Rattle.word_operations.specs.Width.{IsWidth}
use Rattle.state_cell_text.specs.Digits.{digits_of}
use Rattle.text_words.specs.Reading.{before, behind, number_in, two_in}
use Rattle.text_words.specs.Words.{number}
use Rattle.text_words.specs.Digits.{number_back, number_length, number_tells}
use Rattle.text_words.specs.Options.{followed, zipped}

-- ---- fronts

pub same_bytes : (text : List ℕ) → bytes_eq text text ≡ true
same_bytes text = (bytes_eq-Decides text text).1 refl

pub behind_back : (front rest : List ℕ) → behind front (front ++ rest) ≡ Some rest
behind_back front rest = rw (take_at front rest (length front) refl, drop_at front rest (length front) refl, same_bytes front) refl

pub behind_tells : (front text rest : List ℕ) → behind front text ≡ Some rest → front ++ rest ≡ text
behind_tells front text rest e =
    let parts = cond_some (bytes_eq (take (length front) text) front) (drop (length front) text) rest e in
    let begins : take (length front) text ≡ front = (bytes_eq-Decides (take (length front) text) front).0 parts.0 in
    ap (λ f. f ++ rest) (sym begins) ∙ ap (λ r. take (length front) text ++ r) (sym parts.1) ∙ take-append-drop (length front) text

-- ---- ends

pub before_back : (end text : List ℕ) → before end (text ++ end) ≡ Some text
before_back end text =
    let at : length (text ++ end) - length end ≡ length text = omega (arith, length-append text end) in
    rw (at, take_at text end (length text) refl, drop_at text end (length text) refl, same_bytes end) refl

pub before_tells : (end text front : List ℕ) → before end text ≡ Some front → front ++ end ≡ text
before_tells end text front e =
    let at = length text - length end in
    let parts = cond_some (bytes_eq (drop at text) end) (take at text) front e in
    let ends : drop at text ≡ end = (bytes_eq-Decides (drop at text) end).0 parts.0 in
    ap (λ f. f ++ end) (sym parts.1) ∙ ap (λ r. take at text ++ r) (sym ends) ∙ take-append-drop at text

-- ---- two parts, the first of so many bytes

pub parts_back : {A B : Type 0} (read : List ℕ → Option A) (next : List ℕ → Option B) (n : ℕ) (front rest : List ℕ) (x : A) (y : B) → length front ≡ n → read front ≡ Some x → next rest ≡ Some y
    → option_zip (read (take n (front ++ rest))) (next (drop n (front ++ rest))) ≡ Some (x, y)
parts_back read next n front rest x y count e f = rw (take_at front rest n count, drop_at front rest n count, e, f) refl

-- ---- two numbers

pub two_back : (between : List ℕ) (w a b : ℕ) → IsWidth w → a < 2 ^ w → b < 2 ^ w → two_in between w (number w a ++ (between ++ number w b)) ≡ Some (a, b)
two_back between w a b width small big =
    let count : length (number w a) ≡ digits_of w = number_length w a in
    rw (
      take_at (number w a) (between ++ number w b) (digits_of w) count,
      drop_at (number w a) (between ++ number w b) (digits_of w) count,
      behind_back between (number w b),
      number_back w a width small,
      number_back w b width big,
    ) refl

-- what two numbers are
pub record TwoTold (between : List ℕ) (w : ℕ) (text : List ℕ) (x : ℕ × ℕ) : Type 0 where
  pub text_is : number w x.0 ++ (between ++ number w x.1) ≡ text
  pub small : x.0 < 2 ^ w
  pub big : x.1 < 2 ^ w

pub two_tells : (between : List ℕ) (w : ℕ) (text : List ℕ) (x : ℕ × ℕ) → two_in between w text ≡ Some x → TwoTold between w text x
two_tells between w text x e =
    let both = zipped (number_in w (take (digits_of w) text)) (option_and_then (number_in w) (behind between (drop (digits_of w) text))) x e in
    let first = number_tells w (take (digits_of w) text) x.0 both.0 in
    let rest = followed (number_in w) (behind between (drop (digits_of w) text)) x.1 both.1 in
    let second = number_tells w rest.from x.1 rest.gives in
    let joined = behind_tells between (drop (digits_of w) text) rest.from rest.is in
    record {
      text_is = ap (λ t. t ++ (between ++ number w x.1)) first.0 ∙ ap (λ t. take (digits_of w) text ++ (between ++ t)) second.0 ∙ ap (λ t. take (digits_of w) text ++ t) joined ∙ take-append-drop (digits_of w) text;
      small = first.1;
      big = second.1;
    }
