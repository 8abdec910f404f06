-- Values of forms over a span.
use Rattle.std.proofs.Common.{◌≡◌, ℕ, zero, suc, ◌+◌, ◌*◌, ◌%◌, ◌^◌, ◌<◌, List, [], ◌∷◌, ◌++◌, length, take, refl, ap, sym, ◌∙◌, arith, Option, Some, None, slice_get}
use Rattle.support_modular_rows.specs.Submodule.{Submodule, Adds, dot}
use Rattle.support_modular_rows.specs.Reduction.{Span}
use Rattle.support_modular_rows.specs.Values.{dot_first, form_at, plain, image, Images}
use Rattle.support_modular_rows.proofs.Spans.{Alike, cong_add, cong_mul, cong_drop, cong_neg, span_alike, span_same}
use Rattle.support_modular_rows.proofs.Growth.{greatest, of}
use Rattle.support_modular_rows.proofs.Members.{spans_member, member_spans}

-- the first n values as a list
pub tabulate : ℕ → (ℕ → ℕ) → List ℕ
tabulate zero v = []
tabulate (suc n) v = v 0 ∷ tabulate n (λ j. v (suc j))

pub of_tabulate : (n j : ℕ) (v : ℕ → ℕ) → j < n → of (tabulate n v) j ≡ v j
unfolding tabulate
of_tabulate zero j v lt = absurd (omega arith)
of_tabulate (suc n) zero v lt = refl
of_tabulate (suc n) (suc j) v lt = of_tabulate n j (λ i. v (suc i)) (omega arith)

pub length-tabulate : (n : ℕ) (v : ℕ → ℕ) → length (tabulate n v) ≡ n
unfolding tabulate
length-tabulate zero v = refl
length-tabulate (suc n) v = let e = length-tabulate n (λ j. v (suc j)) in omega arith

pub adds_to : (s t : Submodule) (r : List ℕ) (v : ℕ → ℕ) → Adds s r t → Span greatest (s.k + 1) t.rows v → Span greatest (s.k + 1) (r ∷ s.rows) v
adds_to s t r v adds h =
    let x : List ℕ = tabulate (s.k + 1) v in
    span_alike greatest (s.k + 1) (r ∷ s.rows) (of (tabulate (s.k + 1) v)) v (λ j lt. ap (λ z. z % 2 ^ 32) (of_tabulate (s.k + 1) j v lt))
    (spans_member s.k (r ∷ s.rows) x ((adds x).0 (member_spans s.k t.rows x
    (span_alike greatest (s.k + 1) t.rows v (of (tabulate (s.k + 1) v)) (λ j lt. ap (λ z. z % 2 ^ 32) (sym (of_tabulate (s.k + 1) j v lt))) h))))

pub adds_from : (s t : Submodule) (r : List ℕ) (v : ℕ → ℕ) → Adds s r t → Span greatest (s.k + 1) (r ∷ s.rows) v → Span greatest (s.k + 1) t.rows v
adds_from s t r v adds h =
    let x : List ℕ = tabulate (s.k + 1) v in
    span_alike greatest (s.k + 1) t.rows (of (tabulate (s.k + 1) v)) v (λ j lt. ap (λ z. z % 2 ^ 32) (of_tabulate (s.k + 1) j v lt))
    (spans_member s.k t.rows x ((adds x).1 (member_spans s.k (r ∷ s.rows) x
    (span_alike greatest (s.k + 1) (r ∷ s.rows) v (of (tabulate (s.k + 1) v)) (λ j lt. ap (λ z. z % 2 ^ 32) (sym (of_tabulate (s.k + 1) j v lt))) h))))

pub dot_is : (n : ℕ) (cs xs : List ℕ) → length xs ≡ n → dot cs xs ≡ dot_first n cs (of xs)
dot_is zero [] xs e = refl
dot_is zero (c ∷ cs) [] e = refl
dot_is zero (c ∷ cs) (x ∷ xs) e = absurd (omega arith)
dot_is (suc n) [] xs e = refl
dot_is (suc n) (c ∷ cs) [] e = absurd (omega arith)
dot_is (suc n) (c ∷ cs) (x ∷ xs) e = ap (λ z. c * x + z) (dot_is n cs xs (omega arith))

pub dot_linear : (n : ℕ) (cs : List ℕ) (q : ℕ) (v w : ℕ → ℕ) → dot_first n cs (λ j. v j + q * w j) ≡ dot_first n cs v + q * dot_first n cs w
dot_linear zero cs q v w = omega arith
dot_linear (suc n) [] q v w = omega arith
dot_linear (suc n) (c ∷ cs) q v w =
    ap (λ z. c * (v 0 + q * w 0) + z) (dot_linear n cs q (λ j. v (suc j)) (λ j. w (suc j)))
    ∙ (let a : ℕ = dot_first n cs (λ j. v (suc j)) in let b : ℕ = dot_first n cs (λ j. w (suc j)) in regroup c (v 0) (w 0) q a b)
  where
    regroup : (c x y q a b : ℕ) → c * (x + q * y) + (a + q * b) ≡ c * x + a + q * (c * y + b)
    regroup c x y q a b = omega arith

pub dot_alike : (n : ℕ) (cs : List ℕ) (v w : ℕ → ℕ) → Alike greatest n v w → dot_first n cs v % 2 ^ 32 ≡ dot_first n cs w % 2 ^ 32
dot_alike zero cs v w h = refl
dot_alike (suc n) [] v w h = refl
dot_alike (suc n) (c ∷ cs) v w h =
    cong_add greatest (c * v 0) (c * w 0) (dot_first n cs (λ j. v (suc j))) (dot_first n cs (λ j. w (suc j)))
    (cong_mul greatest c (v 0) (w 0) (h 0 (omega arith))) (dot_alike n cs (λ j. v (suc j)) (λ j. w (suc j)) (λ j lt. h (suc j) (omega arith)))

pub dot_zero : (n : ℕ) (cs : List ℕ) → dot_first n cs (λ j. 0) ≡ 0
dot_zero zero cs = refl
dot_zero (suc n) [] = refl
dot_zero (suc n) (c ∷ cs) = let e = dot_zero n cs in omega arith

plain_linear : (n : ℕ) (f : Option (List ℕ)) (q : ℕ) (v w : ℕ → ℕ) → plain n f (λ j. v j + q * w j) ≡ plain n f v + q * plain n f w
plain_linear n None q v w = omega arith
plain_linear n (Some c) q v w = dot_linear n c q v w

plain_alike : (n : ℕ) (f : Option (List ℕ)) (v w : ℕ → ℕ) → Alike greatest n v w → plain n f v % 2 ^ 32 ≡ plain n f w % 2 ^ 32
plain_alike n None v w h = refl
plain_alike n (Some c) v w h = dot_alike n c v w h

plain_zero : (n : ℕ) (f : Option (List ℕ)) → plain n f (λ j. 0) ≡ 0
plain_zero n None = refl
plain_zero n (Some c) = dot_zero n c

image_linear : (n : ℕ) (fs : List (Option (List ℕ))) (q : ℕ) (v w : ℕ → ℕ) (j : ℕ) → image n fs (λ j. v j + q * w j) j ≡ image n fs v j + q * image n fs w j
image_linear n fs q v w zero = refl
image_linear n fs q v w (suc j) = plain_linear n (form_at fs j) q v w

pub image_alike : (n : ℕ) (fs : List (Option (List ℕ))) (v w : ℕ → ℕ) → 0 < n → Alike greatest n v w → Alike greatest n (image n fs v) (image n fs w)
image_alike n fs v w positive h zero lt = h 0 positive
image_alike n fs v w positive h (suc j) lt = plain_alike n (form_at fs j) v w h

image_zero : (n : ℕ) (fs : List (Option (List ℕ))) (j : ℕ) → image n fs (λ j. 0) j ≡ 0
image_zero n fs zero = refl
image_zero n fs (suc j) = plain_zero n (form_at fs j)

-- m times a multiple takes it away again
pub away : (a b c : ℕ) → (a + c * b + greatest * c * b) % 2 ^ 32 ≡ a % 2 ^ 32
away a b c = (let f : a + c * b + greatest * c * b ≡ a + (c * b + greatest * (c * b)) = omega arith in ap (λ z. z % 2 ^ 32) f) ∙ cong_drop greatest a (c * b + greatest * (c * b)) (cong_neg greatest (c * b))

module _ (n : ℕ) (positive : 0 < n) (fs : List (Option (List ℕ))) where
  pub images_none : Images n fs [] []
  images_none = record {
    to = λ v h. ((λ j. 0), (λ j lt. refl), λ j lt. h j lt ∙ ap (λ z. z % 2 ^ 32) (sym (image_zero n fs j)));
    from = λ v (x, zeros, alike) j lt. alike j lt ∙ image_alike n fs x (λ j. 0) positive (λ j lt'. zeros j lt') j lt ∙ ap (λ z. z % 2 ^ 32) (image_zero n fs j);
  }

  snoc_to : (xs : List (List ℕ)) (r : List ℕ) (v : ℕ → ℕ) → Span greatest n (xs ++ r ∷ []) v → (c : ℕ) × Span greatest n xs (λ j. v j + c * of r j)
  snoc_to [] r v h = h
  snoc_to (x ∷ xs) r v (d, h) =
      let rest = snoc_to xs r (λ j. v j + d * of x j) h in
      (rest.0, (d, span_same greatest n xs (λ j. v j + d * of x j + rest.0 * of r j) (λ j. v j + rest.0 * of r j + d * of x j) (λ j. omega arith) rest.1))

  snoc_from : (xs : List (List ℕ)) (r : List ℕ) (c : ℕ) (v : ℕ → ℕ) → Span greatest n xs (λ j. v j + c * of r j) → Span greatest n (xs ++ r ∷ []) v
  snoc_from [] r c v h = (c, h)
  snoc_from (x ∷ xs) r c v (d, h) =
      (d, snoc_from xs r c (λ j. v j + d * of x j) (span_same greatest n xs (λ j. v j + c * of r j + d * of x j) (λ j. v j + d * of x j + c * of r j) (λ j. omega arith) h))

  -- the value of one row more
  pub images_more : (xs rows new : List (List ℕ)) (r g : List ℕ) → Images n fs xs rows → Alike greatest n (of g) (image n fs (of r))
      → ((v : ℕ → ℕ) → Span greatest n new v → Span greatest n (g ∷ rows) v) → ((v : ℕ → ℕ) → Span greatest n (g ∷ rows) v → Span greatest n new v)
      → Images n fs (xs ++ r ∷ []) new
  images_more xs rows new r g i alike new_to new_from = record {
    to = λ v h.
        let split = new_to v h in
        let old = i.to (λ j. v j + split.0 * of g j) split.1 in
        let x : ℕ → ℕ = old.0 in (
          (λ j. old.0 j + greatest * split.0 * of r j),
          snoc_from xs r split.0 (λ j. old.0 j + greatest * split.0 * of r j)
              (span_alike greatest n xs old.0 (λ j. old.0 j + greatest * split.0 * of r j + split.0 * of r j)
              (λ j lt. sym ((let f : old.0 j + greatest * split.0 * of r j + split.0 * of r j ≡ old.0 j + split.0 * of r j + greatest * split.0 * of r j = omega arith in ap (λ z. z % 2 ^ 32) f) ∙ away (old.0 j) (of r j) split.0)) old.1),
          λ j lt.
              sym (away (v j) (of g j) split.0)
              ∙ cong_add greatest (v j + split.0 * of g j) (image n fs old.0 j) (greatest * split.0 * of g j) (greatest * split.0 * image n fs (of r) j) (old.2 j lt)
              (cong_mul greatest (greatest * split.0) (of g j) (image n fs (of r) j) (alike j lt))
              ∙ ap (λ z. z % 2 ^ 32) (sym (image_linear n fs (greatest * split.0) old.0 (of r) j)),
        );
    from = λ v (x, hx, hv).
        let split = snoc_to xs r x hx in
        new_from v (
          split.0,
          i.from (λ j. v j + split.0 * of g j) (
            (λ j. x j + split.0 * of r j),
            split.1,
            λ j lt. cong_add greatest (v j) (image n fs x j) (split.0 * of g j) (split.0 * image n fs (of r) j) (hv j lt) (cong_mul greatest split.0 (of g j) (image n fs (of r) j) (alike j lt))
                ∙ ap (λ z. z % 2 ^ 32) (sym (image_linear n fs split.0 x (of r) j)),
          ),
        );
  }

pub take_snoc : (xs : List (List ℕ)) (i : ℕ) (a : List ℕ) → slice_get xs i ≡ Some a → take (suc i) xs ≡ take i xs ++ a ∷ []
take_snoc [] i a e = cc
take_snoc (x ∷ xs) zero a e = ap (λ y. y ∷ []) (let f : x ≡ a = cc in f)
take_snoc (x ∷ xs) (suc i) a e = ap (λ l. x ∷ l) (take_snoc xs i a e)
