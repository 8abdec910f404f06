-- Runs of bytes of one kind.
use Rattle.std.proofs.Common.{◌≡◌, ◌==◌, ℕ, zero, suc, Bool, true, false, List, [], ◌∷◌, ◌++◌, length, drop, replicate, refl, sym, ◌∙◌, inl, inr, arith}
use Rattle.std.proofs.lemmas.Bool.{cases_Bool}
use Rattle.std.proofs.lemmas.Bool.Decides.{nat_tests}
use Rattle.std.specs.List.{prefix_len, list_all}
use Rattle.state_text.specs.Forms.{begins_name, is_word_byte}
use Rattle.state_text.specs.Lines.{lines}
use Rattle.state_text.specs.Parsing.{is_space}
use Rattle.state_text.proofs.FirstLine.{onto_is}

-- a byte that passes a test which another one doesn't is not that other one
pub apart : (test : ℕ → Bool) (b n : ℕ) → test b ≡ true → test n ≡ false → (b == n) ≡ false
apart test b n p q = elim (cases_Bool (b == n)) [
  | inl e ↦ absurd (let same : b ≡ n = grind (arith, nat_tests, e) in let bad : true ≡ false = sym (rw same at p) ∙ q in cc)
  | inr e ↦ e
]

-- neither CR nor LF
abbrev pub AllPlain : List ℕ → Type 0
AllPlain [] = Unit {0}
AllPlain (b ∷ line) = ((b == 10) ≡ false) × ((b == 13) ≡ false) × AllPlain line

pub AllPlain-append : (xs ys : List ℕ) → AllPlain xs → AllPlain ys → AllPlain (xs ++ ys)
AllPlain-append [] ys p q = q
AllPlain-append (x ∷ xs) ys p q = (p.0, p.1, AllPlain-append xs ys p.2 q)

pub line_first : (line rest : List ℕ) → AllPlain line → lines (line ++ 10 ∷ rest) ≡ line ∷ lines rest
line_first [] rest p = refl
line_first (b ∷ line) rest p = onto_is b (line ++ 10 ∷ rest) p.0 (rw p.1 refl) ∙ rw (line_first line rest p.2) refl

pub word_plain : (name : List ℕ) → list_all is_word_byte name ≡ true → AllPlain name
word_plain [] p = tt
word_plain (b ∷ name) p =
    elim (cases_Bool (is_word_byte b)) [
      | inl e ↦ (apart is_word_byte b 10 e refl, apart is_word_byte b 13 e refl, word_plain name (rw e at p))
      | inr e ↦ absurd (let bad : false ≡ true = rw e at p in cc)
    ]

-- the bytes that pass, up to one that doesn't
pub run_of : (test : ℕ → Bool) (xs : List ℕ) (y : ℕ) (ys : List ℕ) → list_all test xs ≡ true → test y ≡ false → prefix_len test (xs ++ y ∷ ys) ≡ length xs
run_of test [] y ys p q = rw q refl
run_of test (x ∷ xs) y ys p q = elim (cases_Bool (test x)) [
  | inl e ↦ rw (e, run_of test xs y ys (rw e at p) q) (omega arith)
  | inr e ↦ absurd (let bad : false ≡ true = rw e at p in cc)
]

-- spaces in front of what begins with no space
pub spaces_of : (n : ℕ) (value : List ℕ) → prefix_len is_space value ≡ 0 → prefix_len is_space (replicate n 32 ++ value) ≡ n
spaces_of zero value none = none
spaces_of (suc n) value none = rw (spaces_of n value none) (omega arith)

pub behind_spaces : (n : ℕ) (value : List ℕ) → drop n (replicate n 32 ++ value) ≡ value
behind_spaces zero value = refl
behind_spaces (suc n) value = behind_spaces n value

pub begins_more : (name more : List ℕ) → begins_name name ≡ true → begins_name (name ++ more) ≡ true
begins_more [] more p = absurd (let bad : false ≡ true = p in cc)
begins_more (b ∷ name) more p = p
