-- Numbers of 32 bits, some turns further and back.
use Rattle.std.proofs.Common.{◌≡◌, ◌∙◌, ℕ, ◌+◌, ◌-◌, ◌*◌, ◌%◌, ◌^◌, ◌<◌, ◌≤◌, ap, arith, ◌⊎◌, inl, inr}
use Rattle.std.proofs.lemmas.Bool.{cases_lt}
use Rattle.std.proofs.lemmas.Nat.{mod-mul-add}
use Rattle.std.proofs.Math.Nat.{mod-eq_of_lt}

-- y is x, q further
abbrev pub IsTurned : ℕ → ℕ → ℕ → Type 0
IsTurned q x y = ((x + q < 2 ^ 32) × (y ≡ x + q)) ⊎ ((2 ^ 32 ≤ x + q) × (y + 2 ^ 32 ≡ x + q))

-- b is t, which is at most 2^32, p back; 2^32 itself is 0 there
abbrev pub IsBack : ℕ → ℕ → ℕ → Type 0
IsBack p t b = ((t < p) × (b + p ≡ t + 2 ^ 32)) ⊎ ((p ≤ t) × ((b + p ≡ t) × (b < 2 ^ 32)) ⊎ ((t ≡ p + 2 ^ 32) × (b ≡ 0)))

over : (s : ℕ) → 2 ^ 32 ≤ s → s < 2 ^ 32 + 2 ^ 32 → s % 2 ^ 32 ≡ s - 2 ^ 32
over s h k =
    let split : s ≡ 1 * 2 ^ 32 + (s - 2 ^ 32) = omega (arith, h) in
    ap (λ z. z % 2 ^ 32) split ∙ mod-mul-add 1 (2 ^ 32) (s - 2 ^ 32) (omega (arith, h, k))

pub turned_is : (q x : ℕ) → x < 2 ^ 32 → q < 2 ^ 32 → IsTurned q x ((x + q) % 2 ^ 32)
turned_is q x hx hq = elim (cases_lt (x + q) (2 ^ 32)) [
  | inl low ↦ inl (low, mod-eq_of_lt low)
  | inr high ↦ (let e = over (x + q) high (omega (arith, hx, hq)) in inr (high, omega (arith, e, high)))
]

pub back_is : (p t : ℕ) → t ≤ 2 ^ 32 → p < 2 ^ 32 → IsBack p t ((t + (2 ^ 32 - p)) % 2 ^ 32)
back_is p t ht hp = elim (cases_lt t p) [
  | inl low ↦ (let e : (t + (2 ^ 32 - p)) % 2 ^ 32 ≡ t + (2 ^ 32 - p) = mod-eq_of_lt (omega (arith, low, hp)) in inl (low, omega (arith, e, low, hp)))
  | inr high ↦ elim (cases_lt (t + (2 ^ 32 - p)) (2 ^ 32 + 2 ^ 32)) [
    | inl below ↦ (let e = over (t + (2 ^ 32 - p)) (omega (arith, high, hp)) below in inr (inl (high, (omega (arith, e, high, hp), omega (arith, e, below, hp)))))
    | inr whole ↦ (let e : t + (2 ^ 32 - p) ≡ 2 * 2 ^ 32 + 0 = omega (arith, whole, ht, hp) in
        inr (inr (omega (arith, whole, ht, hp), ap (λ z. z % 2 ^ 32) e ∙ mod-mul-add 2 (2 ^ 32) 0 (omega arith))))
  ]
]

-- two turns are one
pub turned_on : (p h q x y z : ℕ) → x < 2 ^ 32 → p < 2 ^ 32 → h < 2 ^ 32 → IsTurned p x y → IsTurned h y z → IsTurned h p q → IsTurned q x z
turned_on p h q x y z hx hp hh (inl a) (inl b) (inl c) = inl (let d = a.0 in let e = a.1 in let f = b.0 in let g = b.1 in let k = c.1 in (omega (arith, e, f, k), omega (arith, e, g, k)))
turned_on p h q x y z hx hp hh (inl a) (inl b) (inr c) = absurd (let d = a.1 in let f = b.0 in let k = c.0 in omega (arith, d, f, k))
turned_on p h q x y z hx hp hh (inl a) (inr b) (inl c) = inr (let e = a.1 in let f = b.0 in let g = b.1 in let k = c.1 in (omega (arith, e, f, k), omega (arith, e, g, k)))
turned_on p h q x y z hx hp hh (inl a) (inr b) (inr c) = inl (let d = a.0 in let e = a.1 in let g = b.1 in let k = c.1 in (omega (arith, d, e, g, k, hx, hp, hh), omega (arith, e, g, k)))
turned_on p h q x y z hx hp hh (inr a) (inl b) (inl c) = inr (let d = a.0 in let e = a.1 in let g = b.1 in let k = c.1 in (omega (arith, d, e, g, k), omega (arith, e, g, k)))
turned_on p h q x y z hx hp hh (inr a) (inl b) (inr c) = inl (let e = a.1 in let f = b.0 in let g = b.1 in let k = c.1 in (omega (arith, e, f, g, k), omega (arith, e, g, k)))
turned_on p h q x y z hx hp hh (inr a) (inr b) (inl c) = absurd (let e = a.1 in let f = b.0 in let k = c.0 in omega (arith, e, f, k, hx))
turned_on p h q x y z hx hp hh (inr a) (inr b) (inr c) = inr (let e = a.1 in let f = b.0 in let g = b.1 in let k = c.1 in (omega (arith, e, f, g, k, hx), omega (arith, e, g, k)))

-- the same cut of numbers half a turn further
pub back_half : (p q y t b : ℕ) → p < 2 ^ 32 → y < 2 ^ 32 → IsTurned (2 ^ 31) p q → IsTurned (2 ^ 31) y t → IsBack p y b → IsBack q t b
back_half p q y t b hp hy (inl a) (inl c) (inl d) = let e = a.1 in let f = c.1 in let g = d.0 in let k = d.1 in inl (omega (arith, e, f, g), omega (arith, e, f, k))
back_half p q y t b hp hy (inl a) (inl c) (inr (inl d)) = let e = a.1 in let f = c.1 in let g = d.0 in let k = d.1.0 in inr (inl (omega (arith, e, f, g), (omega (arith, e, f, k), d.1.1)))
back_half p q y t b hp hy (inl a) (inr c) (inl d) = absurd (let e = a.0 in let f = c.0 in let g = d.0 in omega (arith, e, f, g))
back_half p q y t b hp hy (inl a) (inr c) (inr (inl d)) = let e = a.1 in let f = c.1 in let k = d.1.0 in inl (omega (arith, e, f, hy), omega (arith, e, f, k))
back_half p q y t b hp hy (inr a) (inl c) (inl d) =
    let e = a.1 in let f = c.1 in let g = d.0 in let k = d.1 in inr (inl (omega (arith, e, f, hp), (omega (arith, e, f, k), omega (arith, g, k))))
back_half p q y t b hp hy (inr a) (inl c) (inr (inl d)) = absurd (let e = a.0 in let f = c.0 in let g = d.0 in omega (arith, e, f, g))
back_half p q y t b hp hy (inr a) (inr c) (inl d) = let e = a.1 in let f = c.1 in let g = d.0 in let k = d.1 in inl (omega (arith, e, f, g), omega (arith, e, f, k))
back_half p q y t b hp hy (inr a) (inr c) (inr (inl d)) = let e = a.1 in let f = c.1 in let g = d.0 in let k = d.1.0 in inr (inl (omega (arith, e, f, g), (omega (arith, e, f, k), d.1.1)))
back_half p q y t b hp hy a c (inr (inr d)) = absurd (let e = d.0 in omega (arith, e, hy))

-- and behind the number, unless that is the end
pub back_next : (p q y t b : ℕ) → p < 2 ^ 32 → y < 2 ^ 32 → t + 1 < 2 ^ 32 → IsTurned (2 ^ 31) p q → IsTurned (2 ^ 31) y t → IsBack p (y + 1) b → IsBack q (t + 1) b
back_next p q y t b hp hy ht (inl a) (inl c) (inl d) = let e = a.1 in let f = c.1 in let g = d.0 in let k = d.1 in inl (omega (arith, e, f, g), omega (arith, e, f, k))
back_next p q y t b hp hy ht (inl a) (inl c) (inr (inl d)) = let e = a.1 in let f = c.1 in let g = d.0 in let k = d.1.0 in inr (inl (omega (arith, e, f, g), (omega (arith, e, f, k), d.1.1)))
back_next p q y t b hp hy ht (inl a) (inl c) (inr (inr d)) = absurd (let e = c.0 in let f = d.0 in omega (arith, e, f))
back_next p q y t b hp hy ht (inl a) (inr c) (inl d) = absurd (let e = a.0 in let f = c.0 in let g = d.0 in omega (arith, e, f, g))
back_next p q y t b hp hy ht (inl a) (inr c) (inr (inl d)) =
    let e = a.1 in let f = c.1 in let k = d.1.0 in let l = d.1.1 in inl (omega (arith, e, f, hy, k, l), omega (arith, e, f, k))
back_next p q y t b hp hy ht (inl a) (inr c) (inr (inr d)) =
    let e = a.1 in let f = c.1 in let g = d.0 in let k = d.1 in inr (inl (omega (arith, e, f, g, hy), (omega (arith, e, f, g, k, hy), omega (arith, k))))
back_next p q y t b hp hy ht (inr a) (inl c) (inl d) =
    let e = a.1 in let f = c.1 in let g = d.0 in let k = d.1 in inr (inl (omega (arith, e, f, hp), (omega (arith, e, f, k), omega (arith, g, k))))
back_next p q y t b hp hy ht (inr a) (inl c) (inr (inl d)) = absurd (let e = a.0 in let f = c.1 in let g = d.0 in omega (arith, e, f, g, ht))
back_next p q y t b hp hy ht (inr a) (inl c) (inr (inr d)) = absurd (let e = c.0 in let f = d.0 in omega (arith, e, f))
back_next p q y t b hp hy ht (inr a) (inr c) (inl d) = let e = a.1 in let f = c.1 in let g = d.0 in let k = d.1 in inl (omega (arith, e, f, g), omega (arith, e, f, k))
back_next p q y t b hp hy ht (inr a) (inr c) (inr (inl d)) = let e = a.1 in let f = c.1 in let g = d.0 in let k = d.1.0 in inr (inl (omega (arith, e, f, g), (omega (arith, e, f, k), d.1.1)))
back_next p q y t b hp hy ht (inr a) (inr c) (inr (inr d)) = absurd (let e = a.0 in let f = d.0 in omega (arith, e, f, hy))

-- Two numbers, turned, between which the numbers do not go round.
module _ (q m n u v : ℕ) (q_below : q < 2 ^ 32) (h : m ≤ n) (n_below : n < 2 ^ 32) (hu : IsTurned q m u) (hv : IsTurned q n v) (alike : 2 ^ 32 ≤ n + q → 2 ^ 32 ≤ m + q) where
  pub still_below : u ≤ v
  still_below = by hu hv
    where
      by : IsTurned q m u → IsTurned q n v → u ≤ v
      by (inl a) (inl b) = let e = a.1 in let f = b.1 in omega (arith, e, f, h)
      by (inl a) (inr b) = absurd (let e = a.0 in let f = alike b.0 in omega (arith, e, f))
      by (inr a) (inl b) = absurd (let e = a.0 in let f = b.0 in omega (arith, e, f, h))
      by (inr a) (inr b) = let e = a.1 in let f = b.1 in omega (arith, e, f, h)

  pub v_below : v < 2 ^ 32
  v_below = by hv
    where
      by : IsTurned q n v → v < 2 ^ 32
      by (inl b) = let e = b.0 in let f = b.1 in omega (arith, e, f)
      by (inr b) = let f = b.1 in omega (arith, f, n_below, q_below)

  -- no cut between the numbers is none between the turned ones
  pub cut_on : (t b : ℕ) → t ≤ 2 ^ 32 → IsBack q t b → (m < b → n < b) → u < t → v < t
  cut_on t b ht back f k = by hu hv back
    where
      by : IsTurned q m u → IsTurned q n v → IsBack q t b → v < t
      by (inl a) (inr d) back = absurd (let e = a.0 in let g = alike d.0 in omega (arith, e, g))
      by (inr a) (inl d) back = absurd (let e = a.0 in let g = d.0 in omega (arith, e, g, h))
      by (inl a) (inl d) (inl c) = absurd (let e = a.1 in let g = c.0 in omega (arith, e, g, k))
      by (inl a) (inl d) (inr (inl c)) = let e = a.1 in let l = d.1 in let g = c.1.0 in let less = f (omega (arith, e, g, k)) in omega (arith, l, g, less)
      by (inl a) (inl d) (inr (inr c)) = let below = v_below in let g = c.0 in omega (arith, g, below)
      by (inr a) (inr d) (inl c) = let e = a.1 in let l = d.1 in let g = c.1 in let less = f (omega (arith, e, g, k)) in omega (arith, l, g, less)
      by (inr a) (inr d) (inr (inl c)) = let l = d.1 in let g = c.0 in omega (arith, l, g, n_below)
      by (inr a) (inr d) (inr (inr c)) = let below = v_below in let g = c.0 in omega (arith, g, below)
