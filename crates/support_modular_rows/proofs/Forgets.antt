-- Cells of any value.
use Rattle.std.proofs.Common.{◌≡◌, ◌≢◌, ℕ, zero, suc, ◌+◌, ◌*◌, ◌%◌, ◌^◌, ◌<◌, List, ◌∷◌, length, refl, ap, sym, ◌∙◌, subst, arith, Option, Some, None, inl, inr, ◌⊎◌, get_or-set_same, get_or-set_other}
use Rattle.std.proofs.Math.ListN.{replicate}
use Rattle.std.proofs.lemmas.Bool.{cases_eq}
use Rattle.std.proofs.lemmas.List.{length-replicate}
use Rattle.support_modular_rows.specs.Submodule.{IsMember, Submodule, HasValue, IsImage, unit_row}
use Rattle.support_modular_rows.specs.Reduction.{Span}
use Rattle.support_modular_rows.proofs.Spans.{Alike, cong_drop, cong_neg, span_alike}
use Rattle.support_modular_rows.proofs.Growth.{greatest, of}
use Rattle.support_modular_rows.proofs.Members.{spans_member, member_spans}
use Rattle.support_modular_rows.proofs.Store.{zero_at}
use Rattle.support_modular_rows.specs.Values.{form_at, image, plain, Images, Free, Agree, Forgotten}
use Rattle.support_modular_rows.proofs.Images.{dot_is, tabulate, of_tabulate, length-tabulate, image_alike}

module _ (fs : List (Option (List ℕ))) where
  pub forgotten_none : (n : ℕ) (rows : List (List ℕ)) → Forgotten fs n 0 rows rows
  forgotten_none n rows = record {
    to = λ v h. (v, h, λ j lt. inr refl);
    from = λ v z h agree. span_alike greatest n rows z v (λ j lt. none_free j z v (agree j lt)) h;
  }
    where
      none_free : (j : ℕ) (z v : ℕ → ℕ) → Free fs 0 j ⊎ (v j % 2 ^ 32 ≡ z j % 2 ^ 32) → z j % 2 ^ 32 ≡ v j % 2 ^ 32
      none_free zero z v (inl f) = absurd f
      none_free (suc j) z v (inl f) = absurd (omega (arith, f.0))
      none_free j z v (inr e) = sym e

  unit_here : (n column : ℕ) → column < n → of (unit_row n column) column ≡ 1
  unit_here n column lt = get_or-set_same (replicate n 0) column 1 0 (omega (arith, length-replicate n (let z : ℕ = 0 in z)))

  unit_other : (n column j : ℕ) → j ≢ column → of (unit_row n column) j ≡ 0
  unit_other n column j ne = get_or-set_other (replicate n 0) column j 1 0 ne ∙ zero_at n j 0 refl

  free_more : (cells j : ℕ) → Free fs cells j → Free fs (cells + 1) j
  free_more cells zero f = f
  free_more cells (suc i) f = (omega (arith, f.0), f.1)

  free_less : (cells j : ℕ) → j ≢ suc cells → Free fs (cells + 1) j → Free fs cells j
  free_less cells zero ne f = f
  free_less cells (suc i) ne f = (omega (arith, f.0), f.1)

  free_known : (cells j : ℕ) → form_at fs cells ≢ None → Free fs (cells + 1) j → Free fs cells j
  free_known cells zero ne f = f
  free_known cells (suc i) ne f =
      elim (cases_eq i cells) [
        | inl same ↦ absurd (ne (subst (λ k. form_at fs k ≡ None) same f.1))
        | inr other ↦ (omega (arith, f.0), f.1)
      ]

  -- a cell with a form stays
  pub forgotten_known : (n cells : ℕ) (old new : List (List ℕ)) → form_at fs cells ≢ None → Forgotten fs n cells old new → Forgotten fs n (cells + 1) old new
  forgotten_known n cells old new ne f = record {
    to = λ v h. let t = f.to v h in (t.0, t.1, λ j lt. elim (t.2 j lt) [ inl free ↦ inl (free_more cells j free) | inr e ↦ inr e ]);
    from = λ v z h agree. f.from v z h (λ j lt. elim (agree j lt) [ inl free ↦ inl (free_known cells j ne free) | inr e ↦ inr e ]);
  }

  -- a cell with no form gets any value
  pub forgotten_more : (n cells : ℕ) (old rows new : List (List ℕ)) → suc cells < n → form_at fs cells ≡ None → Forgotten fs n cells old rows
      → ((v : ℕ → ℕ) → Span greatest n new v → Span greatest n (unit_row n (cells + 1) ∷ rows) v)
      → ((v : ℕ → ℕ) → Span greatest n (unit_row n (cells + 1) ∷ rows) v → Span greatest n new v)
      → Forgotten fs n (cells + 1) old new
  forgotten_more n cells old rows new within none f new_to new_from = record {
    to = λ v h.
        let split = new_to v h in
        let t = f.to (λ j. v j + split.0 * of (unit_row n (cells + 1)) j) split.1 in (
          t.0,
          t.1,
          λ j lt. elim (cases_eq j (suc cells)) [
            | inl same ↦ inl (subst (Free fs (cells + 1)) (sym same) (omega arith, none))
            | inr other ↦ elim (t.2 j lt) [
              | inl free ↦ inl (free_more cells j free)
              | inr e ↦ inr (sym (ap (λ u. (v j + split.0 * u) % 2 ^ 32) (unit_other n (cells + 1) j (λ e. other (omega arith)))
                  ∙ (let g : v j + split.0 * 0 ≡ v j = omega arith in ap (λ y. y % 2 ^ 32) g)) ∙ e)
            ]
          ],
        );
    from = λ v z h agree.
        new_from v (
          z (suc cells) + greatest * v (suc cells),
          f.from (λ j. v j + (z (suc cells) + greatest * v (suc cells)) * of (unit_row n (cells + 1)) j) z h
              (λ j lt. elim (cases_eq j (suc cells)) [
                | inl same ↦ inr (subst (λ k. (v k + (z (suc cells) + greatest * v (suc cells)) * of (unit_row n (cells + 1)) k) % 2 ^ 32 ≡ z k % 2 ^ 32) (sym same)
                    (ap (λ u. (v (suc cells) + (z (suc cells) + greatest * v (suc cells)) * u) % 2 ^ 32) (subst (λ k. of (unit_row n k) (suc cells) ≡ 1) (let e : suc cells ≡ cells + 1 = omega arith in e) (unit_here n (suc cells) within))
                    ∙ (let g : v (suc cells) + (z (suc cells) + greatest * v (suc cells)) * 1 ≡ z (suc cells) + (v (suc cells) + greatest * v (suc cells)) = omega arith in ap (λ y. y % 2 ^ 32) g)
                    ∙ cong_drop greatest (z (suc cells)) (v (suc cells) + greatest * v (suc cells)) (cong_neg greatest (v (suc cells)))))
                | inr other ↦ elim (agree j lt) [
                  | inl free ↦ inl (free_less cells j other free)
                  | inr e ↦ inr (ap (λ u. (v j + (z (suc cells) + greatest * v (suc cells)) * u) % 2 ^ 32) (unit_other n (cells + 1) j (λ e. other (omega arith)))
                      ∙ (let g : v j + (z (suc cells) + greatest * v (suc cells)) * 0 ≡ v j = omega arith in ap (λ y. y % 2 ^ 32) g) ∙ e)
                ]
              ]),
        );
  }

  value_to : (k i : ℕ) (f : Option (List ℕ)) (x : List ℕ) (v z : ℕ) → length x ≡ k + 1 → ((f ≡ None) ⊎ (v % 2 ^ 32 ≡ z % 2 ^ 32)) → z % 2 ^ 32 ≡ plain (k + 1) f (of x) % 2 ^ 32 → HasValue f x v
  value_to k i None x v z size h e = tt
  value_to k i (Some c) x v z size (inl none) e = absurd (let n : Some c ≡ None = none in cc)
  value_to k i (Some c) x v z size (inr same) e = same ∙ e ∙ ap (λ y. y % 2 ^ 32) (sym (dot_is (k + 1) c x size))

  value_from : (k : ℕ) (f : Option (List ℕ)) (x : List ℕ) (v : ℕ) → length x ≡ k + 1 → HasValue f x v → (f ≡ None) ⊎ (v % 2 ^ 32 ≡ plain (k + 1) f (of x) % 2 ^ 32)
  value_from k None x v size h = inl refl
  value_from k (Some c) x v size h = inr (h ∙ ap (λ y. y % 2 ^ 32) (dot_is (k + 1) c x size))

  free_form : (cells i : ℕ) (v z : ℕ) → Free fs cells (suc i) ⊎ (v % 2 ^ 32 ≡ z % 2 ^ 32) → (form_at fs i ≡ None) ⊎ (v % 2 ^ 32 ≡ z % 2 ^ 32)
  free_form cells i v z (inl free) = inl free.1
  free_form cells i v z (inr e) = inr e

  form_free : (cells i : ℕ) (v z : ℕ) → i < cells → (form_at fs i ≡ None) ⊎ (v % 2 ^ 32 ≡ z % 2 ^ 32) → Free fs cells (suc i) ⊎ (v % 2 ^ 32 ≡ z % 2 ^ 32)
  form_free cells i v z lt (inl none) = inl (lt, none)
  form_free cells i v z lt (inr e) = inr e

  first_same : (cells v z : ℕ) → Free fs cells zero ⊎ (v % 2 ^ 32 ≡ z % 2 ^ 32) → v % 2 ^ 32 ≡ z % 2 ^ 32
  first_same cells v z (inl free) = absurd free
  first_same cells v z (inr e) = e

  -- values of all forms and any values of the other cells
  pub image_to : (s : Submodule) (middle new : List (List ℕ)) (positive : 0 < s.k + 1) → Images (s.k + 1) fs s.rows middle → Forgotten fs (s.k + 1) s.k middle new
      → (y : List ℕ) → IsMember s.k new y → IsImage s fs y
  image_to s middle new positive i f y h =
      let t = f.to (of y) (spans_member s.k new y h) in
      let u = i.to t.0 t.1 in
      let x : List ℕ = tabulate (s.k + 1) u.0 in
      let size : length (tabulate (s.k + 1) u.0) ≡ s.k + 1 = length-tabulate (s.k + 1) u.0 in
      let same : Alike greatest (s.k + 1) u.0 (of (tabulate (s.k + 1) u.0)) = λ j lt. ap (λ z. z % 2 ^ 32) (sym (of_tabulate (s.k + 1) j u.0 lt)) in
      let values : Alike greatest (s.k + 1) t.0 (image (s.k + 1) fs (of (tabulate (s.k + 1) u.0))) =
      λ j lt. u.2 j lt ∙ image_alike (s.k + 1) fs u.0 (of (tabulate (s.k + 1) u.0)) positive same j lt in (
        x,
        size,
        member_spans s.k s.rows x (span_alike greatest (s.k + 1) s.rows u.0 (of (tabulate (s.k + 1) u.0)) same u.1),
        record {
          first = first_same s.k (of y 0) (t.0 0) (t.2 0 positive) ∙ values 0 positive;
          cells = λ i lt.
              let within : suc i < s.k + 1 = omega arith in
              subst (λ j. HasValue (form_at fs i) (tabulate (s.k + 1) u.0) (of y j)) (let e : suc i ≡ i + 1 = omega arith in e)
              (value_to s.k i (form_at fs i) (tabulate (s.k + 1) u.0) (of y (suc i)) (t.0 (suc i)) size (free_form s.k i (of y (suc i)) (t.0 (suc i)) (t.2 (suc i) within)) (values (suc i) within));
        },
      )

  pub image_from : (s : Submodule) (middle new : List (List ℕ)) (positive : 0 < s.k + 1) → Images (s.k + 1) fs s.rows middle → Forgotten fs (s.k + 1) s.k middle new
      → (y : List ℕ) → IsImage s fs y → IsMember s.k new y
  image_from s middle new positive i f y (x, size, member, value) =
      member_spans s.k new y
      (f.from (of y) (image (s.k + 1) fs (of x)) (i.from (image (s.k + 1) fs (of x)) (of x, spans_member s.k s.rows x member, λ j lt. refl)) agree)
    where
      agree : Agree fs (s.k + 1) s.k (of y) (image (s.k + 1) fs (of x))
      agree zero lt = inr value.first
      agree (suc i) lt =
          form_free s.k i (of y (suc i)) (plain (s.k + 1) (form_at fs i) (of x)) (omega arith)
          (value_from s.k (form_at fs i) x (of y (suc i)) size (subst (λ j. HasValue (form_at fs i) x (of y j)) (let e : i + 1 ≡ suc i = omega arith in e) (value.cells i (omega arith))))
