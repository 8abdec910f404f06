-- Words are written and read back.
use Rattle.std.proofs.Common.{◌≡◌, ◌==◌, ◌∙◌, ◌<◌, ◌≤◌, ◌+◌, ◌^◌, ℕ, zero, suc, Bool, true, false, List, [], ◌∷◌, ◌++◌, length, take, drop, map, Option, Some, option_map, if◌then◌else◌, IsTrue, refl, sym, ap, subst, inl, inr, arith}
use Rattle.std.specs.Prelude.{bytes_eq, codes}
use Rattle.std.specs.Fmt.{digit_glyph}
use Rattle.std.specs.List.{list_all}
use Rattle.std.specs.Option.{option_and_then}
use Rattle.std.proofs.lemmas.Bool.{and_parts, cases_Bool, eq-eqb, false_from_ne_true, false≢true}
use Rattle.std.proofs.lemmas.Bool.Decides.{nat_tests}
use Rattle.std.proofs.lemmas.List.{drop_at, length-append, take_at, take-append-drop}
use Rattle.std.proofs.lemmas.Option.{none-some, same_Some}
use Rattle.std.proofs.lemmas.Slice.Eq.{bytes_eq-Decides}
use Rattle.word_operations.specs.Width.{IsWidth}
use Rattle.base_trait.specs.Algebra.{Algebra}
use Rattle.base_trait.specs.Lists.{Each}
use Rattle.domain_affine_base.specs.declared.word.Word.{Word}
use Rattle.domain_affine_base.specs.declared.word.Word.TheVariants.{Any, Const, Form}
use Rattle.domain_affine_base.specs.Forms.{is_constant}
use Rattle.domain_affine_base.specs.Words.{Fits, IsForm, word_of}
use Rattle.domain_affine_laws.specs.Calls.{cell_count}
use Rattle.text_words.specs.Digits.{number_all, number_back, number_length, number_tells}
use Rattle.text_words.specs.Fronts.{behind_tells}
use Rattle.text_words.specs.Inside.{both_all}
use Rattle.text_words.specs.Lists.{behind_commas, with_commas}
use Rattle.text_words.specs.Options.{followed, mapped}
use Rattle.text_words.specs.Reading.{behind, number_in}
use Rattle.text_words.specs.Readings.{Readings, TextsTell, is_solid}
use Rattle.text_words.specs.Texts.{Texts}
use Rattle.text_words.specs.Words.{affine_text, number, pair_text}
use Rattle.text_lines.specs.Lines.{is_inside}
use Rattle.text_part_readers.specs.Pieces.{cut}
use Rattle.text_element_readers.specs.Words.{WordReading, affine_word, as_form, behind_comma, commas_in, first_number, form_in}
use Rattle.text_round_trips.specs.Words.{CellsWordsTell, PairsWordsTell, RelationsWordsTell}
use Rattle.text_round_trips.proofs.Keys.{cut_back, cut_told, is_other}

wide : IsWidth 32
wide = (omega arith, omega arith)

-- ---- bytes that are no end of a line

solid_byte : (b : ℕ) → is_solid b ≡ true → is_inside b ≡ true
solid_byte b h = (and_parts (is_inside b) _ h).0

pub solid_inside : (text : List ℕ) → IsTrue (list_all is_solid text) → IsTrue (list_all is_inside text)
solid_inside [] h = refl
solid_inside (b ∷ text) h = let parts = and_parts (is_solid b) (list_all is_solid text) h in rw (solid_byte b parts.0) (solid_inside text parts.1)

-- ---- cells

pub cells_words_tell : {W N C : Type 0} (B : Algebra W N C) {NoteFits : (ℕ → Bool) → N → Type 0} (texts : Texts W N) (readings : Readings W N) → TextsTell B NoteFits texts readings → CellsWordsTell B texts readings
cells_words_tell B texts readings tell c = (
  record {
    back = λ x fits. tell.word_back c 32 x wide fits;
    tells = λ text x e. tell.word_tells c 32 text x wide e;
    inside = λ x. solid_inside (texts.word 32 x) (tell.word_solid 32 x);
  },
  λ x. tell.word_solid 32 x,
)

-- ---- numbers behind commas

number_solid : (n : ℕ) → IsTrue (list_all is_solid (number 32 n))
number_solid n = number_all is_solid glyph_solid 32 n
  where
    glyph_solid : (d : ℕ) → d < 16 → is_solid (digit_glyph false d) ≡ true
    glyph_solid d h = grind (arith, nat_tests, h)

commas_solid : (xs : List ℕ) → IsTrue (list_all is_solid (behind_commas (map (number 32) xs)))
commas_solid [] = refl
commas_solid (x ∷ xs) = both_all is_solid (number 32 x) (behind_commas (map (number 32) xs)) (number_solid x) (commas_solid xs)

form_solid : (xs : List ℕ) → IsTrue (list_all is_solid (with_commas (map (number 32) xs)))
form_solid [] = refl
form_solid (x ∷ xs) = both_all is_solid (number 32 x) (behind_commas (map (number 32) xs)) (number_solid x) (commas_solid xs)

first_back : (n : ℕ) (rest : List ℕ) → n < 2 ^ 32 → first_number (number 32 n ++ rest) ≡ Some (n, rest)
first_back n rest small =
    let long : length (number 32 n) ≡ 8 = number_length 32 n in
    rw (take_at (number 32 n) rest 8 long, drop_at (number 32 n) rest 8 long, number_back 32 n wide small) refl

comma_back : (n : ℕ) (rest : List ℕ) → n < 2 ^ 32 → behind_comma (codes "," ++ (number 32 n ++ rest)) ≡ Some (n, rest)
comma_back n rest small = first_back n rest small

commas_back : (n : ℕ) (xs : List ℕ) → length xs ≡ n → Each (λ x. x < 2 ^ 32) xs → commas_in n (behind_commas (map (number 32) xs)) ≡ Some xs
commas_back zero [] e below = refl
commas_back zero (x ∷ xs) e below = absurd (omega (arith, e))
commas_back (suc n) [] e below = absurd (omega (arith, e))
commas_back (suc n) (x ∷ xs) e below = rw (comma_back x (behind_commas (map (number 32) xs)) below.0, commas_back n xs (omega (arith, e)) below.1) refl

-- What is told of a number in front of others.
record FirstTold (text : List ℕ) (p : ℕ × List ℕ) : Type 0 where
  text_is : number 32 p.0 ++ p.1 ≡ text
  below : p.0 < 2 ^ 32

first_told : (text : List ℕ) (p : ℕ × List ℕ) → first_number text ≡ Some p → FirstTold text p
first_told text p e =
    let found = mapped (λ n. (n, drop 8 text)) (number_in 32 (take 8 text)) p e in
    let digits = number_tells 32 (take 8 text) found.from found.is in
    subst (FirstTold text) found.gives (record { text_is = ap (λ (t : List ℕ). t ++ drop 8 text) digits.0 ∙ take-append-drop 8 text; below = digits.1 })

-- What is told of numbers behind commas.
record CommasTold (n : ℕ) (text xs : List ℕ) : Type 0 where
  text_is : behind_commas (map (number 32) xs) ≡ text
  below : Each (λ x. x < 2 ^ 32) xs
  count : length xs ≡ n

commas_told : (n : ℕ) (text xs : List ℕ) → commas_in n text ≡ Some xs → CommasTold n text xs
commas_told zero [] xs e = subst (CommasTold zero []) (same_Some [] xs e) (record { text_is = refl; below = tt; count = refl })
commas_told zero (b ∷ text) xs e = absurd (none-some xs e)
commas_told (suc n) text xs e =
    let first = followed (λ p. option_map (λ ys. p.0 ∷ ys) (commas_in n p.1)) (behind_comma text) xs e in
    let comma = followed first_number (behind (codes ",") text) first.from first.is in
    let number_told = first_told comma.from first.from comma.gives in
    let rest = mapped (λ ys. first.from.0 ∷ ys) (commas_in n first.from.1) xs first.gives in
    let others = commas_told n first.from.1 rest.from rest.is in
    subst (CommasTold (suc n) text) rest.gives (record {
      text_is = ap (λ (t : List ℕ). 44 ∷ (number 32 first.from.0 ++ t)) others.text_is ∙ ap (λ (t : List ℕ). 44 ∷ t) number_told.text_is ∙ behind_tells (codes ",") text comma.from comma.is;
      below = (number_told.below, others.below);
      count = ap suc others.count;
    })

-- What is told of the numbers of a form.
record FormTold (k : ℕ) (text f : List ℕ) : Type 0 where
  text_is : with_commas (map (number 32) f) ≡ text
  below : Each (λ x. x < 2 ^ 32) f
  count : length f ≡ k + 1

form_told : (k : ℕ) (text f : List ℕ) → form_in k text ≡ Some f → FormTold k text f
form_told k text f e =
    let first = followed (λ p. option_map (λ ys. p.0 ∷ ys) (commas_in k p.1)) (first_number text) f e in
    let constant = first_told text first.from first.is in
    let rest = mapped (λ ys. first.from.0 ∷ ys) (commas_in k first.from.1) f first.gives in
    let others = commas_told k first.from.1 rest.from rest.is in
    let count = others.count in
    subst (FormTold k text) rest.gives (record {
      text_is = ap (λ (t : List ℕ). number 32 first.from.0 ++ t) others.text_is ∙ constant.text_is;
      below = (constant.below, others.below);
      count = omega (arith, count);
    })

form_back : (k n : ℕ) (xs : List ℕ) → length xs ≡ k → Each (λ x. x < 2 ^ 32) (n ∷ xs) → form_in k (with_commas (map (number 32) (n ∷ xs))) ≡ Some (n ∷ xs)
form_back k n xs count below = rw (first_back n (behind_commas (map (number 32) xs)) below.0, commas_back k xs count below.1) refl

-- ---- affine words

-- a text of other length is not `any`
not_any : (text : List ℕ) → 8 ≤ length text → bytes_eq text (codes "any") ≡ false
not_any text long =
    false_from_ne_true (bytes_eq text (codes "any"))
    (λ h. let is : length text ≡ 3 = ap (λ (t : List ℕ). length t) ((bytes_eq-Decides text (codes "any")).0 h) in omega (arith, long, is))

const_back : (k n : ℕ) → n < 2 ^ 32 → affine_word k (number 32 n) ≡ Some (Const n)
unfolding number
const_back k n small =
    let long : length (number 32 n) ≡ 8 = number_length 32 n in
    rw (not_any (number 32 n) (omega (arith, long)), eq-eqb (length (number 32 n)) 8 long, number_back 32 n wide small) refl

-- a form that is no constant has numbers behind the first
more_than_eight : (n : ℕ) (xs : List ℕ) → is_constant (n ∷ xs) ≡ false → 9 ≤ length (with_commas (map (number 32) (n ∷ xs)))
more_than_eight n [] other = absurd (let bad : true ≡ false = other in cc)
more_than_eight n (x ∷ xs) other =
    let long : length (number 32 n) ≡ 8 = number_length 32 n in
    let both = length-append (number 32 n) (behind_commas (map (number 32) (x ∷ xs))) in
    omega (arith, long, both)

form_word_back : (k : ℕ) (f : List ℕ) → IsForm 32 f → length f ≡ k + 1 → affine_word k (with_commas (map (number 32) f)) ≡ Some (Form f)
form_word_back k [] is count = absurd (omega (arith, count))
form_word_back k (n ∷ xs) is count =
    let long = more_than_eight n xs is.some in
    let text = with_commas (map (number 32) (n ∷ xs)) in
    let apart : (length text == 8) ≡ false = grind (arith, nat_tests, long) in
    rw (not_any text (omega (arith, long)), apart, form_back k n xs (omega (arith, count)) is.below, is.some) refl

affine_back : (k : ℕ) (x : Word) → Fits k 32 x → affine_word k (affine_text 32 x) ≡ Some x
affine_back k Any fits = refl
affine_back k (Const n) fits = const_back k n fits.0
affine_back k (Form f) fits = form_word_back k f fits.0 fits.1

-- what was chosen
if_true : {X : Type 0} (b : Bool) (l r : Option X) (x : X) → b ≡ true → (if b then l else r) ≡ Some x → l ≡ Some x
if_true true l r x is e = e
if_true false l r x is e = absurd (false≢true is)

abbrev WordTold : ℕ → List ℕ → Word → Type 0
WordTold k text x = (affine_text 32 x ≡ text) × Fits k 32 x

form_word_told : (k : ℕ) (text f : List ℕ) (x : Word) → FormTold k text f → as_form (word_of f) ≡ Some x → WordTold k text x
form_word_told k text f x told e = elim (cases_Bool (is_constant f)) [
  | inl h ↦ absurd (none-some x (rw h at e))
  | inr h ↦ subst (WordTold k text) (same_Some (Form f) x (rw h at e)) (told.text_is, (record { width = refl; below = told.below; some = h }, told.count))
]

affine_told : (k : ℕ) (text : List ℕ) (x : Word) → affine_word k text ≡ Some x → WordTold k text x
affine_told k text x e = elim (cases_Bool (bytes_eq text (codes "any"))) [
  | inl h ↦
      let is : text ≡ codes "any" = (bytes_eq-Decides text (codes "any")).0 h in
      subst (WordTold k text) (same_Some Any x (rw h at e)) (sym is, (tt, tt))
  | inr h ↦
      let rest = rw h at e in
      elim (cases_Bool (length text == 8)) [
        | inl eight ↦
            let found = mapped (λ n. Const n) (number_in 32 text) x (if_true (length text == 8) (option_map Const (number_in 32 text)) (option_and_then (λ f. as_form (word_of f)) (form_in k text)) x eight rest) in
            let digits = number_tells 32 text found.from found.is in
            subst (WordTold k text) found.gives (digits.0, (digits.1, tt))
        | inr other ↦
            let found = followed (λ f. as_form (word_of f)) (form_in k text) x (rw other at rest) in
            form_word_told k text found.from x (form_told k text found.from found.is) found.gives
      ]
]

affine_solid : (x : Word) → IsTrue (list_all is_solid (affine_text 32 x))
affine_solid Any = refl
affine_solid (Const n) = number_solid n
affine_solid (Form f) = form_solid f

pub relations_words_tell : RelationsWordsTell
relations_words_tell t = (
  record {
    back = λ x fits. affine_back (cell_count t) x fits;
    tells = λ text x e. affine_told (cell_count t) text x e;
    inside = λ x. solid_inside (affine_text 32 x) (affine_solid x);
  },
  affine_solid,
)

-- ---- pairs

-- what is solid has no space
solid_other : (text : List ℕ) → IsTrue (list_all is_solid text) → list_all (is_other 32) text ≡ true
solid_other [] h = refl
solid_other (b ∷ text) h =
    let parts = and_parts (is_solid b) (list_all is_solid text) h in
    let other = (and_parts (is_inside b) _ parts.0).1 in
    rw other (solid_other text parts.1)

pub pairs_words_tell : {V W : Type 0} (first : ℕ → V → List ℕ) (second : ℕ → W → List ℕ) (reads_first : WordReading V) (reads_second : WordReading W) (F : V → Type 0) (G : W → Type 0)
    → PairsWordsTell first second reads_first reads_second F G
pairs_words_tell {V} {W} first second reads_first reads_second F G solid one two = record {
  back = λ x fits.
      ap (option_and_then (λ p. option_and_then (λ y. option_map (λ z. (y, z)) (reads_second p.1)) (reads_first p.0))) (cut_back 32 (first 32 x.0) (second 32 x.1) (solid_other (first 32 x.0) (solid x.0)))
      ∙ ap (option_and_then (λ y. option_map (λ z. (y, z)) (reads_second (second 32 x.1)))) (one.back x.0 fits.0) ∙ ap (option_map (λ z. (x.0, z))) (two.back x.1 fits.1);
  tells = λ text x e.
      let parts = followed (λ p. option_and_then (λ y. option_map (λ z. (y, z)) (reads_second p.1)) (reads_first p.0)) (cut 32 text) x e in
      let left = followed (λ y. option_map (λ z. (y, z)) (reads_second parts.from.1)) (reads_first parts.from.0) x parts.gives in
      let right = mapped (λ z. (left.from, z)) (reads_second parts.from.1) x left.gives in
      let front = one.tells parts.from.0 left.from left.is in
      let back = two.tells parts.from.1 right.from right.is in
      subst (λ (z : V × W). (pair_text first second 32 z ≡ text) × (F z.0 × G z.1)) right.gives
      (ap (λ (t : List ℕ). t ++ 32 ∷ second 32 right.from) front.0 ∙ ap (λ (t : List ℕ). parts.from.0 ++ 32 ∷ t) back.0 ∙ cut_told 32 text parts.from parts.is, (front.1, back.1));
  inside = λ x. both_all is_inside (first 32 x.0) (codes " " ++ second 32 x.1) (one.inside x.0) (two.inside x.1);
}
