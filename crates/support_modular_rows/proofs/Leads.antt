-- A step of a reduction by a kept row.
use Rattle.std.proofs.Common.{◌≡◌, ◌≢◌, ℕ, zero, suc, ◌+◌, ◌-◌, ◌*◌, ◌%◌, ◌^◌, ◌<◌, ◌≤◌, List, [], length, get_or, drop, refl, ap, sym, ◌∙◌, subst, arith, inl, inr, ◌⊎◌}
use Rattle.std.proofs.Math.Nat.{mul-mod_left, add-mul-mod_self_right, add-mod-mod}
use Rattle.std.proofs.lemmas.Nat.{mul-mod_second}
use Rattle.std.proofs.lemmas.Bool.{cases_lt}
use Rattle.support_modular_rows.specs.Reduction.{Span, divisor_of, IsLead, Reduced}
use Rattle.support_modular_rows.proofs.Powers.{mod_power}
use Rattle.support_modular_rows.proofs.Spans.{cong_drop, cong_mul_zero, span_alike, step_down, span_join, stuck}

-- the entry is its divisor, or 0 under 2 ^ 32
pub divisor_cases : (e : ℕ) → (divisor_of e ≡ e) ⊎ ((e ≡ 0) × (divisor_of e ≡ 2 ^ 32))
divisor_cases zero = inr (refl, refl)
divisor_cases (suc e) = inl refl

pub cancels_entry : (x q e : ℕ) → (x + q * divisor_of e) % 2 ^ 32 ≡ 0 → (x + q * e) % 2 ^ 32 ≡ 0
cancels_entry x q e h =
    elim (divisor_cases e) [
      | inl same ↦ subst (λ d. (x + q * d) % 2 ^ 32 ≡ 0) same h
      | inr (none, whole) ↦
          let at : (x + q * 2 ^ 32) % 2 ^ 32 ≡ 0 = subst (λ d. (x + q * d) % 2 ^ 32 ≡ 0) whole h in
          ap (λ e. (x + q * e) % 2 ^ 32) none ∙ (let f : x + q * 0 ≡ x = omega arith in ap (λ y. y % 2 ^ 32) f)
          ∙ sym (add-mul-mod_self_right x q (2 ^ 32)) ∙ at
    ]

-- an entry is a multiple of its divisor
pub entry_multiple : (e v : ℕ) → v ≤ 32 → divisor_of e ≡ 2 ^ v → e % 2 ^ v ≡ 0
entry_multiple e v le is =
    elim (divisor_cases e) [
      | inl same ↦ ap (λ x. x % 2 ^ v) (sym same ∙ is) ∙ (let f : 2 ^ v ≡ 1 * 2 ^ v = omega arith in ap (λ x. x % 2 ^ v) f) ∙ mul-mod_left 1 (2 ^ v)
      | inr (none, whole) ↦ ap (λ x. x % 2 ^ v) none ∙ (let f : 0 ≡ 0 * 2 ^ v = omega arith in ap (λ x. x % 2 ^ v) f) ∙ mul-mod_left 0 (2 ^ v)
    ]

pub mul_zero_mod : (q e d : ℕ) → e % d ≡ 0 → q * e % d ≡ 0
mul_zero_mod q e d h = sym (mul-mod_second q e d) ∙ ap (λ x. q * x % d) h ∙ (let f : q * 0 ≡ 0 * d = omega arith in ap (λ x. x % d) f) ∙ mul-mod_left 0 d

pub rest_mod : (a b d : ℕ) → b % d ≡ 0 → (a + b) % d ≡ a % d
rest_mod a b d h = sym (add-mod-mod a b d) ∙ ap (λ x. (a + x) % d) h ∙ (let f : a + 0 ≡ a = omega arith in ap (λ x. x % d) f)

-- what no divisor divides, no multiple of the entry brings to 0
pub never_cancels : (x e : ℕ) → IsLead e → (x % divisor_of e ≡ 0 → ⊥) → (q : ℕ) → (x + q * e) % 2 ^ 32 ≡ 0 → ⊥
never_cancels x e (v, le, is, small_entry) bad q h =
    let small : (x + q * e) % 2 ^ v ≡ 0 = sym (mod_power (x + q * e) v 32 le) ∙ ap (λ y. y % 2 ^ v) h ∙ (let f : 0 ≡ 0 * 2 ^ v = omega arith in ap (λ y. y % 2 ^ v) f ∙ mul-mod_left 0 (2 ^ v)) in
    let low : q * e % 2 ^ v ≡ 0 = mul_zero_mod q e (2 ^ v) (entry_multiple e v le is) in
    let rest : x % 2 ^ v ≡ 0 = sym (rest_mod x (q * e) (2 ^ v) low) ∙ small in
    bad (subst (λ d. x % d ≡ 0) (sym is) rest)

pub divisor_zero : (e : ℕ) → e ≡ 0 → divisor_of e ≡ 2 ^ 32
divisor_zero e h = ap divisor_of h

pub divisor_other : (e : ℕ) → e ≢ 0 → divisor_of e ≡ e
divisor_other zero h = absurd (h refl)
divisor_other (suc e) h = refl

pub divisor_pos : (e : ℕ) → 0 < divisor_of e
divisor_pos zero = omega arith
divisor_pos (suc e) = omega arith

-- the vector after a step
abbrev pub Stepped : List ℕ → ℕ → List ℕ → List ℕ → Type 0
Stepped x q r x' = (j : ℕ) → j < 65 → get_or x' j 0 ≡ (get_or x j 0 + q * get_or r j 0) % 2 ^ 32

abbrev pub Spans : List (List ℕ) → ℕ → List ℕ → Type 0
Spans rs c x = Span (2 ^ 32 - 1) (length rs) (drop c rs) (λ j. get_or x j 0)

abbrev pub ZeroBelow : ℕ → List ℕ → Type 0
ZeroBelow c x = (j : ℕ) → j < c → get_or x j 0 % 2 ^ 32 ≡ 0

pub down : (rs : List (List ℕ)) (c q : ℕ) (x x' : List ℕ) → Reduced rs → length rs ≤ 65 → c < length rs → Stepped x q (get_or rs c []) x'
    → (get_or x c 0 + q * divisor_of (get_or (get_or rs c []) c 0)) % 2 ^ 32 ≡ 0 → Spans rs c x → Spans rs (c + 1) x'
down rs c q x x' red few lt step z h =
    let next : c + 1 ≡ suc c = omega arith in
    subst (λ k. Spans rs k x') (sym next)
    (span_alike (2 ^ 32 - 1) (length rs) (drop (suc c) rs) (λ j. get_or x j 0 + q * get_or (get_or rs c []) j 0) (λ j. get_or x' j 0)
    (λ j lt'. (let w : j < 65 = omega arith in sym (ap (λ y. y % 2 ^ 32) (step j w) ∙ mod_power (get_or x j 0 + q * get_or (get_or rs c []) j 0) 32 32 (omega arith))))
    (step_down (2 ^ 32 - 1) (length rs) rs c q (λ j. get_or x j 0) lt lt red.triangular (red.kills c lt)
    (cancels_entry (get_or x c 0) q (get_or (get_or rs c []) c 0) z) h))

pub up : (rs : List (List ℕ)) (c q : ℕ) (x x' : List ℕ) → length rs ≤ 65 → c < length rs → Stepped x q (get_or rs c []) x'
    → Spans rs (c + 1) x' → Spans rs c x
up rs c q x x' few lt step h =
    let next : c + 1 ≡ suc c = omega arith in
    span_join (2 ^ 32 - 1) (length rs) rs c q (λ j. get_or x j 0) lt
    (span_alike (2 ^ 32 - 1) (length rs) (drop (suc c) rs) (λ j. get_or x' j 0) (λ j. get_or x j 0 + q * get_or (get_or rs c []) j 0)
    (λ j lt'. (let w : j < 65 = omega arith in ap (λ y. y % 2 ^ 32) (step j w) ∙ mod_power (get_or x j 0 + q * get_or (get_or rs c []) j 0) 32 32 (omega arith)))
    (subst (λ k. Spans rs k x') next h))

pub zero_more : (rs : List (List ℕ)) (c q : ℕ) (x x' : List ℕ) → Reduced rs → length rs ≤ 65 → c < length rs → Stepped x q (get_or rs c []) x'
    → (get_or x c 0 + q * divisor_of (get_or (get_or rs c []) c 0)) % 2 ^ 32 ≡ 0 → ZeroBelow c x → ZeroBelow (c + 1) x'
zero_more rs c q x x' red few lt step z below j lt' =
    let w : j < 65 = omega arith in
    ap (λ y. y % 2 ^ 32) (step j w) ∙ mod_power (get_or x j 0 + q * get_or (get_or rs c []) j 0) 32 32 (omega arith)
    ∙ elim (cases_lt j c) [
      | inl less ↦ cong_drop (2 ^ 32 - 1) (get_or x j 0) (q * get_or (get_or rs c []) j 0) (cong_mul_zero (2 ^ 32 - 1) q (get_or (get_or rs c []) j 0) (red.triangular c j lt less)) ∙ below j less
      | inr more ↦ let same : j ≡ c = omega arith in subst (λ k. (get_or x k 0 + q * get_or (get_or rs c []) k 0) % 2 ^ 32 ≡ 0) (sym same) (cancels_entry (get_or x c 0) q (get_or (get_or rs c []) c 0) z)
    ]

pub not_spanned : (rs : List (List ℕ)) (c : ℕ) (x : List ℕ) → Reduced rs → c < length rs → (get_or x c 0 % divisor_of (get_or (get_or rs c []) c 0) ≡ 0 → ⊥) → Spans rs c x → ⊥
not_spanned rs c x red lt bad h =
    stuck (2 ^ 32 - 1) (length rs) rs c (λ j. get_or x j 0) lt lt red.triangular (never_cancels (get_or x c 0) (get_or (get_or rs c []) c 0) (red.leads c lt) bad) h
