-- Numbers between which no cut lies make a comparison alike.
use Rattle.std.proofs.Common.{◌≡◌, ◌∙◌, ℕ, ◌+◌, ◌-◌, ◌%◌, ◌^◌, ◌<◌, ◌≤◌, ◌==◌, nat_lt, Bool, true, false, List, [], ◌∷◌, ◌++◌, if◌then◌else◌, refl, sym, subst, ap, arith, inl, inr}
use Rattle.std.specs.Prelude.{not}
use Rattle.std.proofs.lemmas.Bool.{cases_lt}
use Rattle.std.proofs.lemmas.Bool.Decides.{nat_tests}
use Rattle.word_operations.specs.Cmp.{cmp_of}
use Rattle.word_operations.specs.declared.kinds.WordComparison.{WordComparison}
use Rattle.word_operations.specs.declared.kinds.WordComparison.TheVariants.{Eq, Ne, LtU, LeU, LtS, LeS}
use Rattle.analysis_choices.specs.Choice.{ascending, with_all, with_cut, with_nonzero}
use Rattle.analysis_choices.specs.Cuts.{back, left_cuts, right_cuts, round_cuts}
use Rattle.analysis_choices.specs.Laws.{AreUncut, CutsDecide}
use Rattle.analysis_choices.proofs.Orders.{above_uncut, equal_uncut, from_uncut, least_half, least_uncut, less_half, less_uncut, turned}
use Rattle.analysis_choices.proofs.Turning.{IsBack, IsTurned, back_half, back_is, back_next, cut_on, still_below, turned_is, turned_on, v_below}

by_test : (b : Bool) (P : Bool → Type 0) → (b ≡ true → P true) → (b ≡ false → P false) → P b
by_test true P f g = f refl
by_test false P f g = g refl

-- ---- cuts that ascend are all cuts but 0
module _ (m n : ℕ) where
  one_cut : (k : ℕ) (cuts : List ℕ) → AreUncut (with_cut k cuts) m n → (m < k → n < k) × AreUncut cuts m n
  one_cut k [] h = (h.0, tt)
  one_cut k (c ∷ cuts) h =
      by_test (k == c) (λ b. (k == c) ≡ b → AreUncut (if b then c ∷ cuts else (if nat_lt k c then k ∷ c ∷ cuts else c ∷ with_cut k cuts)) m n → (m < k → n < k) × AreUncut (c ∷ cuts) m n)
      (λ t e f. let same : c ≡ k = grind (arith, nat_tests) in (subst (λ z. m < z → n < z) same f.0, f))
      (λ t e. by_test (nat_lt k c) (λ b. AreUncut (if b then k ∷ c ∷ cuts else c ∷ with_cut k cuts) m n → (m < k → n < k) × AreUncut (c ∷ cuts) m n)
      (λ t f. (f.0, f.1))
      (λ t f. let later = one_cut k cuts f.1 in (later.0, (f.0, later.1))))
      refl h

  one_more : (k : ℕ) (cuts : List ℕ) → AreUncut (with_nonzero k cuts) m n → (m < k → n < k) × AreUncut cuts m n
  one_more k cuts h =
      by_test (nat_lt 0 k) (λ b. nat_lt 0 k ≡ b → AreUncut (if b then with_cut k cuts else cuts) m n → (m < k → n < k) × AreUncut cuts m n)
      (λ t e f. one_cut k cuts f)
      (λ t e f. (λ l. absurd (let none : k ≤ 0 = grind (arith, nat_tests) in omega (arith, none, l)), f))
      refl h

  all_cuts : (ks cuts : List ℕ) → AreUncut (with_all ks cuts) m n → AreUncut ks m n × AreUncut cuts m n
  all_cuts [] cuts h = (tt, h)
  all_cuts (k ∷ ks) cuts h = let later = all_cuts ks (with_nonzero k cuts) h in let here = one_more k cuts later.1 in ((here.0, later.0), here.1)

-- ---- of a cell with m and with n, plus p
module _ (p m n y : ℕ) (p_below : p < 2 ^ 32) (y_below : y < 2 ^ 32) (h : m ≤ n) (n_below : n < 2 ^ 32) where
  abbrev u : ℕ
  u = (m + p) % 2 ^ 32

  abbrev v : ℕ
  v = (n + p) % 2 ^ 32

  abbrev back_of : ℕ → ℕ
  back_of t = (t + (2 ^ 32 - p)) % 2 ^ 32

  hu : IsTurned p m u
  hu = turned_is p m (omega (arith, h, n_below)) p_below

  hv : IsTurned p n v
  hv = turned_is p n n_below p_below

  -- the cuts of a comparison
  abbrev Cut : ℕ → Type 0
  Cut t = m < back_of t → n < back_of t

  -- ---- the numbers do not go round
  unsigned_alike : AreUncut (back p (if p == 0 then [] else 0 ∷ [])) m n → 2 ^ 32 ≤ n + p → 2 ^ 32 ≤ m + p
  unsigned_alike =
      by_test (p == 0) (λ b. (p == 0) ≡ b → AreUncut (back p (if b then [] else 0 ∷ [])) m n → 2 ^ 32 ≤ n + p → 2 ^ 32 ≤ m + p)
      (λ t e c k. absurd (let none : p ≡ 0 = grind (arith, nat_tests) in omega (arith, none, n_below, k)))
      (λ t e c k. round (let some : 0 < p = grind (arith, nat_tests) in some) c.0 (back_is p 0 (omega arith) p_below) k)
      refl
    where
      round : 0 < p → Cut 0 → IsBack p 0 (back_of 0) → 2 ^ 32 ≤ n + p → 2 ^ 32 ≤ m + p
      round some c (inl d) k = elim (cases_lt (m + p) (2 ^ 32)) [ inl low ↦ absurd (let e = d.1 in let less = c (omega (arith, e, low)) in omega (arith, e, less, k)) | inr high ↦ high ]
      round some c (inr (inl d)) k = absurd (let e = d.0 in omega (arith, e, some))
      round some c (inr (inr d)) k = absurd (let e = d.0 in omega (arith, e))

  -- ---- half a turn further
  abbrev half : ℕ → ℕ
  half x = (x + 2 ^ 31) % 2 ^ 32

  half_is : (x : ℕ) → x < 2 ^ 32 → IsTurned (2 ^ 31) x (half x)
  half_is x below = turned_is (2 ^ 31) x below (omega arith)

  u_below : u < 2 ^ 32
  u_below = below_of hu
    where
      below_of : IsTurned p m u → u < 2 ^ 32
      below_of (inl a) = let e = a.0 in let f = a.1 in omega (arith, e, f)
      below_of (inr a) = let f = a.1 in omega (arith, f, h, n_below, p_below)

  v_is_below : v < 2 ^ 32
  v_is_below = below_of hv
    where
      below_of : IsTurned p n v → v < 2 ^ 32
      below_of (inl a) = let e = a.0 in let f = a.1 in omega (arith, e, f)
      below_of (inr a) = let f = a.1 in omega (arith, f, n_below, p_below)

  abbrev q : ℕ
  q = half p

  hq : IsTurned (2 ^ 31) p q
  hq = half_is p p_below

  q_below : q < 2 ^ 32
  q_below = below_of hq
    where
      below_of : IsTurned (2 ^ 31) p q → q < 2 ^ 32
      below_of (inl a) = let e = a.0 in let f = a.1 in omega (arith, e, f)
      below_of (inr a) = let f = a.1 in omega (arith, f, p_below)

  half_u : IsTurned q m (half u)
  half_u = turned_on p (2 ^ 31) q m u (half u) (omega (arith, h, n_below)) p_below (omega arith) hu (half_is u u_below) hq

  half_v : IsTurned q n (half v)
  half_v = turned_on p (2 ^ 31) q n v (half v) n_below p_below (omega arith) hv (half_is v v_is_below) hq

  signed_alike : Cut (2 ^ 31) → 2 ^ 32 ≤ n + q → 2 ^ 32 ≤ m + q
  signed_alike c k = by hq (back_is p (2 ^ 31) (omega arith) p_below)
    where
      by : IsTurned (2 ^ 31) p q → IsBack p (2 ^ 31) (back_of (2 ^ 31)) → 2 ^ 32 ≤ m + q
      by (inl a) (inl d) = absurd (let e = a.0 in let f = d.0 in omega (arith, e, f))
      by (inl a) (inr (inl d)) =
          elim (cases_lt (m + q) (2 ^ 32)) [ inl low ↦ absurd (let e = a.1 in let f = d.1.0 in let less = c (omega (arith, e, f, low)) in omega (arith, e, f, less, k)) | inr high ↦ high ]
      by (inr a) (inl d) = elim (cases_lt (m + q) (2 ^ 32)) [ inl low ↦ absurd (let e = a.1 in let f = d.1 in let less = c (omega (arith, e, f, low)) in omega (arith, e, f, less, k)) | inr high ↦ high ]
      by (inr a) (inr (inl d)) = absurd (let e = a.1 in let f = d.0 in let g = a.0 in omega (arith, e, f, g, k, n_below))
      by a (inr (inr d)) = absurd (let f = d.0 in omega (arith, f))

  -- ---- unsigned comparisons
  module _ (alike : 2 ^ 32 ≤ n + p → 2 ^ 32 ≤ m + p) where
    at : Cut y → u < y → v < y
    at c = cut_on p m n u v p_below h n_below hu hv alike y (back_of y) (omega (arith, y_below)) (back_is p y (omega (arith, y_below)) p_below) c

    behind : Cut (y + 1) → u < y + 1 → v < y + 1
    behind c = cut_on p m n u v p_below h n_below hu hv alike (y + 1) (back_of (y + 1)) (omega (arith, y_below)) (back_is p (y + 1) (omega (arith, y_below)) p_below) c

    still : u ≤ v
    still = still_below p m n u v p_below h n_below hu hv alike

    equal : Cut y → Cut (y + 1) → (u == y) ≡ (v == y)
    equal c d = equal_uncut u v y still (at c) (behind d)

  -- ---- signed ones
  module _ (round : Cut (2 ^ 31)) where
    half_y : IsTurned (2 ^ 31) y (half y)
    half_y = half_is y y_below

    half_below : half y < 2 ^ 32
    half_below = below_of half_y
      where
        below_of : IsTurned (2 ^ 31) y (half y) → half y < 2 ^ 32
        below_of (inl a) = let e = a.0 in let f = a.1 in omega (arith, e, f)
        below_of (inr a) = let f = a.1 in omega (arith, f, y_below)

    at_half : Cut y → half u < half y → half v < half y
    at_half c =
        cut_on q m n (half u) (half v) q_below h n_below half_u half_v (signed_alike round) (half y) (back_of y) (let b = half_below in omega (arith, b))
        (back_half p q y (half y) (back_of y) p_below y_below hq half_y (back_is p y (omega (arith, y_below)) p_below)) c

    behind_half : Cut (y + 1) → half u < half y + 1 → half v < half y + 1
    behind_half c k = elim (cases_lt (half y + 1) (2 ^ 32)) [
      | inl below ↦ cut_on q m n (half u) (half v) q_below h n_below half_u half_v (signed_alike round) (half y + 1) (back_of (y + 1)) (omega (arith, below))
          (back_next p q y (half y) (back_of (y + 1)) p_below y_below below hq half_y (back_is p (y + 1) (omega (arith, y_below)) p_below)) c k
      | inr last ↦ (let less = v_below q m n (half u) (half v) q_below h n_below half_u half_v (signed_alike round) in omega (arith, last, less))
    ]

    still_half : half u ≤ half v
    still_half = still_below q m n (half u) (half v) q_below h n_below half_u half_v (signed_alike round)

    less : Cut y → cmp_of LtS 32 u y ≡ cmp_of LtS 32 v y
    less c = less_half u y (half u) (half y) (half_is u u_below) half_y ∙ less_uncut (half u) (half v) (half y) still_half (at_half c) ∙ sym (less_half v y (half v) (half y) (half_is v v_is_below) half_y)

    least : Cut (y + 1) → cmp_of LeS 32 u y ≡ cmp_of LeS 32 v y
    least c = least_half u y (half u) (half y) (half_is u u_below) half_y ∙ least_uncut (half u) (half v) (half y) still_half (behind_half c) ∙ sym (least_half v y (half v) (half y) (half_is v v_is_below) half_y)

    above : Cut (y + 1) → cmp_of LtS 32 y u ≡ cmp_of LtS 32 y v
    above c = less_half y u (half y) (half u) half_y (half_is u u_below) ∙ above_uncut (half u) (half v) (half y) still_half (behind_half c) ∙ sym (less_half y v (half y) (half v) half_y (half_is v v_is_below))

    from : Cut y → cmp_of LeS 32 y u ≡ cmp_of LeS 32 y v
    from c = least_half y u (half y) (half u) half_y (half_is u u_below) ∙ from_uncut (half u) (half v) (half y) still_half (at_half c) ∙ sym (least_half y v (half y) (half v) half_y (half_is v v_is_below))

  left : (k : WordComparison) → AreUncut (back p (left_cuts k (y, y) ++ round_cuts k p)) m n → cmp_of k 32 u y ≡ cmp_of k 32 v y
  left Eq c = equal (unsigned_alike c.1.1) c.0 c.1.0
  left Ne c = ap not (equal (unsigned_alike c.1.1) c.0 c.1.0)
  left LtU c = less_uncut u v y (still (unsigned_alike c.1.1)) (at (unsigned_alike c.1.1) c.0)
  left LeU c = least_uncut u v y (still (unsigned_alike c.1.1)) (behind (unsigned_alike c.1.1) c.0)
  left LtS c = less c.1.1.0 c.0
  left LeS c = least c.1.1.0 c.0

  right : (k : WordComparison) → AreUncut (back p (right_cuts k (y, y) ++ round_cuts k p)) m n → cmp_of k 32 y u ≡ cmp_of k 32 y v
  right Eq c = turned y u ∙ equal (unsigned_alike c.1.1) c.0 c.1.0 ∙ turned v y
  right Ne c = ap not (turned y u ∙ equal (unsigned_alike c.1.1) c.0 c.1.0 ∙ turned v y)
  right LtU c = above_uncut u v y (still (unsigned_alike c.1.1)) (behind (unsigned_alike c.1.1) c.0)
  right LeU c = from_uncut u v y (still (unsigned_alike c.1.1)) (at (unsigned_alike c.1.1) c.0)
  right LtS c = above c.1.1.0 c.0
  right LeS c = from c.1.1.0 c.0

pub cuts_decide : CutsDecide
cuts_decide c m n number plus h n_below uncut =
    let p = c.cell.plus in
    let y = c.number in
    let u = (m + p) % 2 ^ 32 in
    let v = (n + p) % 2 ^ 32 in
    by_test c.on_left
    (λ b. AreUncut (ascending (back p ((if b then left_cuts c.op (y, y) else right_cuts c.op (y, y)) ++ round_cuts c.op p))) m n → (if b then cmp_of c.op 32 u y else cmp_of c.op 32 y u) ≡ (if b then cmp_of c.op 32 v y else cmp_of c.op 32 y v))
    (λ t k. left p m n y plus number h n_below c.op (all_cuts m n (back p (left_cuts c.op (y, y) ++ round_cuts c.op p)) [] k).0)
    (λ t k. right p m n y plus number h n_below c.op (all_cuts m n (back p (right_cuts c.op (y, y) ++ round_cuts c.op p)) [] k).0)
    uncut
