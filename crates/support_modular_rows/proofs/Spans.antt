-- The span of rows, of functions of the column: the numbers are modulo suc m, and the columns are those below n.
use Rattle.std.proofs.Common.{◌≡◌, ℕ, zero, suc, ◌+◌, ◌*◌, ◌%◌, ◌<◌, ◌≤◌, List, [], ◌∷◌, length, get_or, drop, refl, ap, ap₂, sym, ◌∙◌, subst, arith}
use Rattle.std.proofs.Math.Seq.{drop-cons}
use Rattle.support_modular_rows.specs.Reduction.{Span, Triangular, Kills}
use Rattle.std.proofs.Math.Nat.{add-mod-mod, mod-add-mod, mul-mod_left}
use Rattle.std.proofs.lemmas.Nat.{mul-mod_second}

module _ (m : ℕ) where
  pub cong_add : (a b c d : ℕ) → a % suc m ≡ b % suc m → c % suc m ≡ d % suc m → (a + c) % suc m ≡ (b + d) % suc m
  cong_add a b c d e f =
      sym (mod-add-mod a (suc m) c) ∙ sym (add-mod-mod (a % suc m) c (suc m)) ∙ ap₂ (λ x y. (x + y) % suc m) e f
      ∙ add-mod-mod (b % suc m) d (suc m) ∙ mod-add-mod b (suc m) d

  pub cong_mul : (q a b : ℕ) → a % suc m ≡ b % suc m → (q * a) % suc m ≡ (q * b) % suc m
  cong_mul q a b e = sym (mul-mod_second q a (suc m)) ∙ ap (λ x. (q * x) % suc m) e ∙ mul-mod_second q b (suc m)

  -- a number and m times the number make a multiple of suc m
  pub cong_neg : (a : ℕ) → (a + m * a) % suc m ≡ 0
  cong_neg a = let e : a + m * a ≡ a * suc m = omega arith in ap (λ x. x % suc m) e ∙ mul-mod_left a (suc m)

  pub zero_mod : 0 % suc m ≡ 0
  zero_mod = (let e : 0 ≡ 0 * suc m = omega arith in ap (λ x. x % suc m) e) ∙ mul-mod_left 0 (suc m)

  pub cong_drop : (a b : ℕ) → b % suc m ≡ 0 → (a + b) % suc m ≡ a % suc m
  cong_drop a b e = cong_add a a b 0 refl (e ∙ sym zero_mod) ∙ (let g : a + 0 ≡ a = omega arith in ap (λ x. x % suc m) g)

  -- where the sum and the first part are 0, so is the other
  pub cong_rest : (a b : ℕ) → (a + b) % suc m ≡ 0 → a % suc m ≡ 0 → b % suc m ≡ 0
  cong_rest a b e f = sym (cong_drop b a f) ∙ (let g : b + a ≡ a + b = omega arith in ap (λ x. x % suc m) g) ∙ e

  pub cong_mul_zero : (q a : ℕ) → a % suc m ≡ 0 → (q * a) % suc m ≡ 0
  cong_mul_zero q a e = cong_mul q a 0 (e ∙ sym zero_mod) ∙ (let g : q * 0 ≡ 0 = omega arith in ap (λ x. x % suc m) g) ∙ zero_mod

  module _ (n : ℕ) where
    -- the vectors agree
    abbrev pub Alike : (ℕ → ℕ) → (ℕ → ℕ) → Type 0
    Alike v w = (j : ℕ) → j < n → v j % suc m ≡ w j % suc m

    pub span_alike : (rs : List (List ℕ)) (v w : ℕ → ℕ) → Alike v w → Span m n rs v → Span m n rs w
    span_alike [] v w e h = λ j lt. sym (e j lt) ∙ h j lt
    span_alike (r ∷ rs) v w e (c, h) =
        (c, span_alike rs (λ j. v j + c * get_or r j 0) (λ j. w j + c * get_or r j 0) (λ j lt. cong_add (v j) (w j) (c * get_or r j 0) (c * get_or r j 0) (e j lt) refl) h)

    pub span_same : (rs : List (List ℕ)) (v w : ℕ → ℕ) → ((j : ℕ) → v j ≡ w j) → Span m n rs v → Span m n rs w
    span_same rs v w e h = span_alike rs v w (λ j lt. ap (λ x. x % suc m) (e j)) h

    pub span_add : (rs : List (List ℕ)) (v w : ℕ → ℕ) → Span m n rs v → Span m n rs w → Span m n rs (λ j. v j + w j)
    span_add [] v w h g = λ j lt. cong_drop (v j) (w j) (g j lt) ∙ h j lt
    span_add (r ∷ rs) v w (c, h) (d, g) = (
      c + d,
      span_same rs (λ j. (v j + c * get_or r j 0) + (w j + d * get_or r j 0)) (λ j. (v j + w j) + (c + d) * get_or r j 0) (λ j. omega arith)
          (span_add rs (λ j. v j + c * get_or r j 0) (λ j. w j + d * get_or r j 0) h g),
    )

    pub span_mul : (q : ℕ) (rs : List (List ℕ)) (v : ℕ → ℕ) → Span m n rs v → Span m n rs (λ j. q * v j)
    span_mul q [] v h = λ j lt. cong_mul_zero q (v j) (h j lt)
    span_mul q (r ∷ rs) v (c, h) =
        (q * c, span_same rs (λ j. q * (v j + c * get_or r j 0)) (λ j. q * v j + q * c * get_or r j 0) (λ j. omega arith) (span_mul q rs (λ j. v j + c * get_or r j 0) h))

    pub span_zero : (rs : List (List ℕ)) (v : ℕ → ℕ) → ((j : ℕ) → j < n → v j % suc m ≡ 0) → Span m n rs v
    span_zero [] v h = h
    span_zero (r ∷ rs) v h = (0, span_same rs v (λ j. v j + 0 * get_or r j 0) (λ j. omega arith) (span_zero rs v h))

    pub span_more : (r : List ℕ) (rs : List (List ℕ)) (v : ℕ → ℕ) → Span m n rs v → Span m n (r ∷ rs) v
    span_more r rs v h = (0, span_same rs v (λ j. v j + 0 * get_or r j 0) (λ j. omega arith) h)

    pub span_head : (r : List ℕ) (rs : List (List ℕ)) → Span m n (r ∷ rs) (λ j. get_or r j 0)
    span_head r rs = (m, span_zero rs (λ j. get_or r j 0 + m * get_or r j 0) (λ j lt. cong_neg (get_or r j 0)))

    -- what is left of v when a member is added is a member: so is v
    pub span_cancel : (rs : List (List ℕ)) (v w : ℕ → ℕ) → Span m n rs (λ j. v j + w j) → Span m n rs w → Span m n rs v
    span_cancel rs v w h g =
        span_alike rs (λ j. (v j + w j) + m * w j) v
        (λ j lt. (let e : (v j + w j) + m * w j ≡ v j + (w j + m * w j) = omega arith in ap (λ x. x % suc m) e) ∙ cong_drop (v j) (w j + m * w j) (cong_neg (w j)))
        (span_add rs (λ j. v j + w j) (λ j. m * w j) h (span_mul m rs w g))

    -- each row is a member
    abbrev pub AllIn : List (List ℕ) → List (List ℕ) → Type 0
    AllIn ss [] = Unit {0}
    AllIn ss (r ∷ rs) = Span m n ss (λ j. get_or r j 0) × AllIn ss rs

    -- a span holds the span of its members
    pub span_sub : (ss rs : List (List ℕ)) (v : ℕ → ℕ) → AllIn ss rs → Span m n rs v → Span m n ss v
    span_sub ss [] v all h = span_zero ss v h
    span_sub ss (r ∷ rs) v all (c, h) =
        span_cancel ss v (λ j. c * get_or r j 0) (span_sub ss rs (λ j. v j + c * get_or r j 0) all.1 h) (span_mul c ss (λ j. get_or r j 0) all.0)

    pub all_in : (ss rs : List (List ℕ)) (c : ℕ) → ((j : ℕ) → c ≤ j → j < length rs → Span m n ss (λ i. get_or (get_or rs j []) i 0)) → AllIn ss (drop c rs)
    all_in ss [] zero h = tt
    all_in ss [] (suc c) h = tt
    all_in ss (r ∷ rs) zero h = (h 0 (omega arith) (omega arith), all_in ss rs zero (λ j le lt. h (suc j) (omega arith) (omega arith)))
    all_in ss (r ∷ rs) (suc c) h = all_in ss rs c (λ j le lt. h (suc j) (omega arith) (omega arith))

    pub in_rows : (rs : List (List ℕ)) (c j : ℕ) → c ≤ j → j < length rs → Span m n (drop c rs) (λ i. get_or (get_or rs j []) i 0)
    in_rows [] c j le lt = absurd (omega arith)
    in_rows (r ∷ rs) zero zero le lt = span_head r rs
    in_rows (r ∷ rs) zero (suc j) le lt = span_more r rs (λ i. get_or (get_or rs j []) i 0) (in_rows rs zero j (omega arith) (omega arith))
    in_rows (r ∷ rs) (suc c) zero le lt = absurd (omega arith)
    in_rows (r ∷ rs) (suc c) (suc j) le lt = in_rows rs c j (omega arith) (omega arith)

    -- a vector and the rows from c on, each a member
    pub sub_from : (ss rs : List (List ℕ)) (x : List ℕ) (c : ℕ) (v : ℕ → ℕ) → Span m n ss (λ i. get_or x i 0)
        → ((j : ℕ) → c ≤ j → j < length rs → Span m n ss (λ i. get_or (get_or rs j []) i 0)) → Span m n (x ∷ drop c rs) v → Span m n ss v
    sub_from ss rs x c v hx h g = span_sub ss (x ∷ drop c rs) v (hx, all_in ss rs c h) g

    -- a column in which all rows from c on are 0
    pub column_zero : (rs : List (List ℕ)) (c i : ℕ) (v : ℕ → ℕ) → i < n → ((j : ℕ) → c ≤ j → j < length rs → get_or (get_or rs j []) i 0 % suc m ≡ 0)
        → Span m n (drop c rs) v → v i % suc m ≡ 0
    column_zero [] zero i v lt z h = h i lt
    column_zero [] (suc c) i v lt z h = h i lt
    column_zero (r ∷ rs) zero i v lt z (q, h) =
        let zero_here : (q * get_or r i 0) % suc m ≡ 0 = cong_mul_zero q (get_or r i 0) (z 0 (omega arith) (omega arith)) in
        sym (cong_drop (v i) (q * get_or r i 0) zero_here)
        ∙ column_zero rs zero i (λ j. v j + q * get_or r j 0) lt (λ j le lt'. z (suc j) (omega arith) (omega arith)) h
    column_zero (r ∷ rs) (suc c) i v lt z h = column_zero rs c i v lt (λ j le lt'. z (suc j) (omega arith) (omega arith)) h

    pub tail_zero : (rs : List (List ℕ)) (c : ℕ) (v : ℕ → ℕ) → c < n → Triangular m n rs → Span m n (drop (suc c) rs) v → v c % suc m ≡ 0
    tail_zero rs c v lt t h = column_zero rs (suc c) c v lt (λ j le lt'. t j c lt' (omega arith)) h

    pub span_split : (rs : List (List ℕ)) (c : ℕ) (v : ℕ → ℕ) → c < length rs → Span m n (drop c rs) v
        → (q : ℕ) × Span m n (drop (suc c) rs) (λ j. v j + q * get_or (get_or rs c []) j 0)
    span_split rs c v lt h = subst (λ ss. Span m n ss v) (drop-cons rs c [] lt) h

    pub span_join : (rs : List (List ℕ)) (c q : ℕ) (v : ℕ → ℕ) → c < length rs
        → Span m n (drop (suc c) rs) (λ j. v j + q * get_or (get_or rs c []) j 0) → Span m n (drop c rs) v
    span_join rs c q v lt h = subst (λ ss. Span m n ss v) (sym (drop-cons rs c [] lt)) (q, h)

    -- where the column is 0, the row of the column adds nothing
    pub skip : (rs : List (List ℕ)) (c : ℕ) (v : ℕ → ℕ) → c < length rs → c < n → Triangular m n rs → Kills m n (drop (suc c) rs) (get_or rs c []) c
        → v c % suc m ≡ 0 → Span m n (drop c rs) v → Span m n (drop (suc c) rs) v
    skip rs c v lt within t kills z h =
        let split = span_split rs c v lt h in
        let q : ℕ = split.0 in
        let killed : (q * get_or (get_or rs c []) c 0) % suc m ≡ 0 = cong_rest (v c) (q * get_or (get_or rs c []) c 0) (tail_zero rs c (λ j. v j + q * get_or (get_or rs c []) j 0) within t split.1) z in
        span_cancel (drop (suc c) rs) v (λ j. q * get_or (get_or rs c []) j 0) split.1 (kills q killed)

    -- one step of a reduction keeps a member a member
    pub step_down : (rs : List (List ℕ)) (c q : ℕ) (v : ℕ → ℕ) → c < length rs → c < n → Triangular m n rs → Kills m n (drop (suc c) rs) (get_or rs c []) c
        → (v c + q * get_or (get_or rs c []) c 0) % suc m ≡ 0 → Span m n (drop c rs) v → Span m n (drop (suc c) rs) (λ j. v j + q * get_or (get_or rs c []) j 0)
    step_down rs c q v lt within t kills z h =
        skip rs c (λ j. v j + q * get_or (get_or rs c []) j 0) lt within t kills z
        (span_add (drop c rs) v (λ j. q * get_or (get_or rs c []) j 0) h
        (span_mul q (drop c rs) (λ j. get_or (get_or rs c []) j 0) (in_rows rs c c (omega arith) lt)))

    -- a member comes to 0 in the column by a multiple of the column's row
    pub stuck : (rs : List (List ℕ)) (c : ℕ) (v : ℕ → ℕ) → c < length rs → c < n → Triangular m n rs
        → ((q : ℕ) → (v c + q * get_or (get_or rs c []) c 0) % suc m ≡ 0 → ⊥) → Span m n (drop c rs) v → ⊥
    stuck rs c v lt within t never h =
        let split = span_split rs c v lt h in
        never split.0 (tail_zero rs c (λ j. v j + split.0 * get_or (get_or rs c []) j 0) within t split.1)
