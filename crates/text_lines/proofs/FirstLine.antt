-- The first of the lines.
use Rattle.std.proofs.Common.{◌≡◌, ◌+◌, ◌-◌, ◌<◌, ◌≤◌, ◌==◌, ◌↔◌, ℕ, suc, Bool, true, false, not, cond, List, [], ◌∷◌, length, take, drop, Option, Some, None, IsTrue, subst, refl, sym, ap, ◌∙◌, inl, inr, rules, arith}
use Rattle.std.proofs.lemmas.Bool.{cases_Bool}
use Rattle.std.proofs.lemmas.Option.{same_Some}
use Rattle.std.specs.List.{prefix_len}
use Rattle.std.proofs.lemmas.List.{take_all, length-drop}
use Rattle.text_lines.specs.Lines.{Lines, first_line, is_inside, lines, onto}

take_more : (n b : ℕ) (bytes : List ℕ) → take (1 + n) (b ∷ bytes) ≡ b ∷ take n bytes
take_more n b bytes = let e : 1 + n ≡ suc n = omega arith in subst (λ m. take m (b ∷ bytes) ≡ b ∷ take n bytes) (sym e) refl

drop_more : (n b : ℕ) (bytes : List ℕ) → drop (1 + n + 1) (b ∷ bytes) ≡ drop (n + 1) bytes
drop_more n b bytes = let e : 1 + n + 1 ≡ suc (n + 1) = omega arith in subst (λ m. drop m (b ∷ bytes) ≡ drop (n + 1) bytes) (sym e) refl

-- what `lines` gives of a text with a first line
abbrev HasFirst : List ℕ → Type 0
HasFirst bytes = lines bytes ≡ Some (take (prefix_len is_inside bytes) bytes) ∷ lines (drop (prefix_len is_inside bytes + 1) bytes)

first : (bytes : List ℕ) → prefix_len is_inside bytes < length bytes → HasFirst bytes
first [] h = absurd (omega (arith, h))
first (b ∷ bytes) h = elim (cases_Bool (b == 10)) [
  | inl e ↦ rw e refl
  | inr e ↦
      let within : prefix_len is_inside bytes < length bytes = (let k = rw e at h in omega (arith, k)) in
      rw (e, first bytes within, take_more (prefix_len is_inside bytes) b bytes, drop_more (prefix_len is_inside bytes) b bytes) refl
]

pub next_is : (bytes : List ℕ) (n : ℕ) → n ≡ prefix_len is_inside bytes → n < length bytes
    → first_line (lines bytes) ≡ Some (take n bytes, lines (take (length bytes - (n + 1)) (drop (n + 1) bytes)))
next_is bytes n e within =
    let all : take (length bytes - (n + 1)) (drop (n + 1) bytes) ≡ drop (n + 1) bytes = take_all (length bytes - (n + 1)) (drop (n + 1) bytes) (rw (length-drop (n + 1) bytes) (omega arith)) in
    rw (all, e, first bytes (rw e at within)) refl

-- a text without LF has at most an end
no_first : (b : ℕ) (ls : Lines) → first_line ls ≡ None → first_line (onto b ls) ≡ None
no_first b [] h = refl
no_first b (None ∷ ls) h = refl
no_first b (Some line ∷ ls) h = absurd (cc)

ends : (bytes : List ℕ) → length bytes ≤ prefix_len is_inside bytes → first_line (lines bytes) ≡ None
ends [] h = refl
ends (b ∷ bytes) h = elim (cases_Bool (b == 10)) [
  | inl e ↦ absurd (let k = rw e at h in omega (arith, k))
  | inr e ↦ rw e (no_first b (lines bytes) (ends bytes (let k = rw e at h in omega (arith, k))))
]

pub none_is : (bytes : List ℕ) (n : ℕ) → n ≡ prefix_len is_inside bytes → length bytes ≤ n → first_line (lines bytes) ≡ None
none_is bytes n e h = ends bytes (omega (arith, e, h))

-- a text has no line where it has no byte
some_line : (b : ℕ) (ls : Lines) → onto b ls ≡ [] → ⊥
some_line b [] h = cc
some_line b (None ∷ ls) h = cc
some_line b (Some line ∷ ls) h = cc

some_lines : (b : ℕ) (bytes : List ℕ) → lines (b ∷ bytes) ≡ [] → ⊥
some_lines b bytes h = elim (cases_Bool (b == 10)) [
  | inl e ↦ (let k : Some [] ∷ lines bytes ≡ [] = rw e at h in cc)
  | inr e ↦ some_line b (lines bytes) (rw e at h)
]

not_none : (b : ℕ) (bytes : List ℕ) → IsTrue (length (b ∷ bytes) == 0) → ⊥
not_none b bytes h = search rules

pub no_lines : (bytes : List ℕ) → IsTrue (length bytes == 0) ↔ (lines bytes ≡ [])
no_lines [] = ((λ h. refl), (λ h. refl))
no_lines (b ∷ bytes) = ((λ h. absurd (not_none b bytes h)), (λ h. absurd (some_lines b bytes h)))

onto_few : (b n : ℕ) (ls : Lines) → length ls ≤ n → length (onto b ls) ≤ n + 1
onto_few b n [] h = omega arith
onto_few b n (None ∷ ls) h = omega (arith, h)
onto_few b n (Some line ∷ ls) h = omega (arith, h)

-- a text has no more lines than bytes
pub few_lines : (bytes : List ℕ) → length (lines bytes) ≤ length bytes
few_lines [] = omega arith
few_lines (b ∷ bytes) = elim (cases_Bool (b == 10)) [
  | inl e ↦ rw e (omega (arith, few_lines bytes))
  | inr e ↦ rw e (omega (arith, onto_few b (length bytes) (lines bytes) (few_lines bytes)))
]

-- whether an end without LF is the last of the lines
abbrev pub is_well : Lines → Bool
is_well [] = true
is_well (None ∷ []) = true
is_well (None ∷ _ ∷ _) = false
is_well (Some line ∷ ls) = is_well ls

onto_well : (b : ℕ) (ls : Lines) → is_well ls ≡ true → is_well (onto b ls) ≡ true
onto_well b [] h = refl
onto_well b (None ∷ ls) h = h
onto_well b (Some line ∷ ls) h = h

pub lines_well : (bytes : List ℕ) → is_well (lines bytes) ≡ true
lines_well [] = refl
lines_well (b ∷ bytes) = elim (cases_Bool (b == 10)) [ inl e ↦ rw e (lines_well bytes) | inr e ↦ rw e (onto_well b (lines bytes) (lines_well bytes)) ]

-- the lines behind the first
behind : Option (List ℕ × Lines) → Lines
behind None = []
behind (Some p) = p.1

-- one line less
pub one_less : (ls more : Lines) (line : List ℕ) → Some (line, more) ≡ first_line ls → is_well ls ≡ true → (is_well more ≡ true) × (length ls ≡ length more + 1)
unfolding behind
one_less [] more line h well = absurd (cc)
one_less (None ∷ ls) more line h well = absurd (cc)
one_less (Some first ∷ ls) more line h well = let e : ls ≡ more = sym (ap behind h) in (rw e at well, rw e (omega arith))

-- no line, or an end
pub at_end : (ls : Lines) → None ≡ first_line ls → is_well ls ≡ true → (ls ≡ [] → ⊥) → length ls ≡ 1
at_end [] h well some = absurd (some refl)
at_end (None ∷ []) h well some = refl
at_end (None ∷ _ ∷ _) h well some = absurd (let bad : false ≡ true = well in cc)
at_end (Some line ∷ ls) h well some = absurd (cc)
