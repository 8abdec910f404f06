-- The first of the lines.
use Rattle.std.proofs.Common.{◌≡◌, ◌≢◌, subst, ◌+◌, ◌-◌, ◌<◌, ◌≤◌, ◌&&◌, ◌==◌, ℕ, zero, suc, true, false, List, [], ◌∷◌, length, take, drop, get_or, refl, sym, ap, ◌∙◌, inl, inr, arith}
use Rattle.std.proofs.lemmas.Bool.{cases_Bool}
use Rattle.std.proofs.lemmas.Bool.Decides.{nat_tests}
use Rattle.std.specs.List.{prefix_len}
use Rattle.std.proofs.lemmas.List.{take_all, length-drop}
use Rattle.std.proofs.Math.Bool.{and-false as and_false}
use Rattle.state_text.specs.Lines.{lines, is_inside, at_end, onto, without_cr}

-- a byte in front of a line that the next byte goes on
front : (b : ℕ) (line : List ℕ) → 0 < length line → without_cr (b ∷ line) ≡ b ∷ without_cr line
front b [] h = absurd (omega (arith, h))
front b (c ∷ line) h = refl

-- a line that ends with CR, and one that does not
pub last_cr : (line : List ℕ) (n : ℕ) → length line ≡ n + 1 → get_or line n 0 ≡ 13 → take n line ≡ without_cr line
last_cr [] n e h = absurd (omega (arith, e))
last_cr (b ∷ []) zero e h = rw h refl
last_cr (b ∷ []) (suc n) e h = absurd (omega (arith, e))
last_cr (b ∷ c ∷ line) zero e h = absurd (omega (arith, e))
last_cr (b ∷ c ∷ line) (suc n) e h = ap (λ l. b ∷ l) (last_cr (c ∷ line) n (omega (arith, e)) h)

pub no_cr : (line : List ℕ) (n : ℕ) → length line ≡ n + 1 → get_or line n 0 ≢ 13 → line ≡ without_cr line
no_cr [] n e h = absurd (omega (arith, e))
no_cr (b ∷ []) zero e h = let k : (b == 13) ≡ false = grind (arith, nat_tests, h) in rw k refl
no_cr (b ∷ []) (suc n) e h = absurd (omega (arith, e))
no_cr (b ∷ c ∷ line) zero e h = absurd (omega (arith, e))
no_cr (b ∷ c ∷ line) (suc n) e h = ap (λ l. b ∷ l) (no_cr (c ∷ line) n (omega (arith, e)) h)

-- where LF follows at once, and where it doesn't
next_is_end : (bytes : List ℕ) → at_end bytes ≡ true → prefix_len is_inside bytes ≡ 0
next_is_end [] h = refl
next_is_end (b ∷ bytes) h = rw h refl

take_more : (n b : ℕ) (bytes : List ℕ) → take (1 + n) (b ∷ bytes) ≡ b ∷ take n bytes
take_more n b bytes = let e : 1 + n ≡ suc n = omega arith in subst (λ m. take m (b ∷ bytes) ≡ b ∷ take n bytes) (sym e) refl

drop_more : (n b : ℕ) (bytes : List ℕ) → drop (1 + n + 1) (b ∷ bytes) ≡ drop (n + 1) bytes
drop_more n b bytes = let e : 1 + n + 1 ≡ suc (n + 1) = omega arith in subst (λ m. drop m (b ∷ bytes) ≡ drop (n + 1) bytes) (sym e) refl

some_of : (n b : ℕ) (bytes : List ℕ) → 0 < length (take (1 + n) (b ∷ bytes))
some_of n b bytes = rw (take_more n b bytes) (omega arith)

-- a byte that stays is put onto the first line
pub onto_is : (b : ℕ) (bytes : List ℕ) → (b == 10) ≡ false → (b == 13 && at_end bytes) ≡ false → lines (b ∷ bytes) ≡ onto b (lines bytes)
onto_is b bytes e f = rw (e, f) refl

next_is_inside : (bytes : List ℕ) → at_end bytes ≡ false → prefix_len is_inside bytes < length bytes → 0 < length (take (prefix_len is_inside bytes) bytes)
next_is_inside [] h k = absurd (omega (arith, k))
next_is_inside (b ∷ bytes) h k = rw h (some_of (prefix_len is_inside bytes) b bytes)

no_end : (bytes : List ℕ) → length bytes ≤ prefix_len is_inside bytes → at_end bytes ≡ false
no_end [] h = refl
no_end (b ∷ bytes) h = elim (cases_Bool (b == 10)) [
  | inl e ↦ absurd (let k = rw e at h in omega (arith, k))
  | inr e ↦ e
]

no_cr_end : (b : ℕ) (bytes : List ℕ) → at_end bytes ≡ false → (b == 13 && at_end bytes) ≡ false
no_cr_end b bytes g = rw g (and_false (b == 13))

-- what `lines` gives of a text whose first line is known
abbrev FirstIs : List ℕ → Type 0
FirstIs bytes = lines bytes ≡ without_cr (take (prefix_len is_inside bytes) bytes) ∷ lines (drop (prefix_len is_inside bytes + 1) bytes)

at_lf : (b : ℕ) (bytes : List ℕ) → (b == 10) ≡ true → FirstIs (b ∷ bytes)
at_lf b bytes e = rw e refl

at_cr : (b : ℕ) (bytes : List ℕ) → (b == 10) ≡ false → (b == 13) ≡ true → at_end bytes ≡ true → FirstIs bytes → FirstIs (b ∷ bytes)
at_cr b bytes e f g first =
    let z = next_is_end bytes g in
    let h = rw z at first in
    rw (e, f, g, z, f) h

-- a byte in front of the first line
kept : (b : ℕ) (bytes : List ℕ) → (b == 13 && at_end bytes) ≡ false → prefix_len is_inside bytes < length bytes
    → without_cr (b ∷ take (prefix_len is_inside bytes) bytes) ≡ b ∷ without_cr (take (prefix_len is_inside bytes) bytes)
kept b bytes f within = elim (cases_Bool (at_end bytes)) [
  | inl g ↦ elim (cases_Bool (b == 13)) [
    | inl k ↦ absurd (let bad : true ≡ false = rw (k, g) at f in cc)
    | inr k ↦ rw (next_is_end bytes g, k) refl
  ]
  | inr g ↦ front b (take (prefix_len is_inside bytes) bytes) (next_is_inside bytes g within)
]

after_first : (b : ℕ) (bytes : List ℕ) → (b == 10) ≡ false
    → without_cr (b ∷ take (prefix_len is_inside bytes) bytes) ∷ lines (drop (prefix_len is_inside bytes + 1) bytes)
    ≡ without_cr (take (prefix_len is_inside (b ∷ bytes)) (b ∷ bytes)) ∷ lines (drop (prefix_len is_inside (b ∷ bytes) + 1) (b ∷ bytes))
after_first b bytes e = rw (e, take_more (prefix_len is_inside bytes) b bytes, drop_more (prefix_len is_inside bytes) b bytes) refl

at_other : (b : ℕ) (bytes : List ℕ) → (b == 10) ≡ false → (b == 13 && at_end bytes) ≡ false → prefix_len is_inside bytes < length bytes → FirstIs bytes → FirstIs (b ∷ bytes)
at_other b bytes e f within first =
    onto_is b bytes e f ∙ ap (onto b) first ∙ ap (λ line. line ∷ lines (drop (prefix_len is_inside bytes + 1) bytes)) (sym (kept b bytes f within)) ∙ after_first b bytes e

pub first_of_lines : (bytes : List ℕ) → prefix_len is_inside bytes < length bytes → FirstIs bytes
first_of_lines [] h = absurd (omega (arith, h))
first_of_lines (b ∷ bytes) h = elim (cases_Bool (b == 10)) [
  | inl e ↦ at_lf b bytes e
  | inr e ↦
      let within : prefix_len is_inside bytes < length bytes = (let k = rw e at h in omega (arith, k)) in
      let first = first_of_lines bytes within in
      elim (cases_Bool (at_end bytes)) [
        | inl g ↦ elim (cases_Bool (b == 13)) [
          | inl f ↦ at_cr b bytes e f g first
          | inr f ↦ at_other b bytes e (rw f refl) within first
        ]
        | inr g ↦ at_other b bytes e (rw g (and_false (b == 13))) within first
      ]
]

pub only_line : (bytes : List ℕ) → 0 < length bytes → length bytes ≤ prefix_len is_inside bytes → lines bytes ≡ bytes ∷ []
only_line [] h k = absurd (omega (arith, h))
only_line (b ∷ []) h k = elim (cases_Bool (b == 10)) [
  | inl e ↦ absurd (let l = rw e at k in omega (arith, l))
  | inr e ↦ rw (e, and_false (b == 13)) refl
]
only_line (b ∷ c ∷ bytes) h k = elim (cases_Bool (b == 10)) [
  | inl e ↦ absurd (let l = rw e at k in omega (arith, l))
  | inr e ↦
      let l : length (c ∷ bytes) ≤ prefix_len is_inside (c ∷ bytes) = (let m = rw e at k in omega (arith, m)) in
      let g : at_end (c ∷ bytes) ≡ false = no_end (c ∷ bytes) l in
      onto_is b (c ∷ bytes) e (no_cr_end b (c ∷ bytes) g) ∙ ap (onto b) (only_line (c ∷ bytes) (omega arith) l)
]

pub first_line_is : (bytes line : List ℕ) (n : ℕ) → n ≡ prefix_len is_inside bytes → n < length bytes → line ≡ without_cr (take n bytes)
    → lines bytes ≡ line ∷ lines (take (length bytes - (n + 1)) (drop (n + 1) bytes))
first_line_is bytes line n e within is =
    let all : take (length bytes - (n + 1)) (drop (n + 1) bytes) ≡ drop (n + 1) bytes = take_all (length bytes - (n + 1)) (drop (n + 1) bytes) (rw (length-drop (n + 1) bytes) (omega arith)) in
    rw (all, is, e) (first_of_lines bytes (rw e at within))
