-- What a vector leaves of the kept rows, as it is taken in column by column.
use Rattle.std.proofs.Common.{◌≡◌, ◌≢◌, ℕ, zero, suc, ◌+◌, ◌-◌, ◌*◌, ◌/◌, ◌%◌, ◌^◌, ◌<◌, ◌≤◌, List, [], ◌∷◌, length, get_or, drop, refl, ap, ap₂, sym, ◌∙◌, subst, arith, inl, inr, pow-add, pow_pos, div-add-mod', get_or-set_other, get_or-set_same}
use Rattle.std.proofs.Math.ListN.{length-set, set}
use Rattle.std.proofs.Math.Nat.{mul-mod_left}
use Rattle.std.proofs.lemmas.Nat.{mul-mod_first, shl-shr, pow_below}
use Rattle.std.proofs.lemmas.Bool.{cases_lt, cases_eq}
use Rattle.support_modular_rows.specs.Reduction.{Span, Triangular, Kills, divisor_of, IsLead, Reduced, Normalised, SameSpan}
use Rattle.support_modular_rows.proofs.Powers.{mod_power, power_split}
use Rattle.support_modular_rows.proofs.Spans.{cong_add, cong_drop, cong_mul, cong_mul_zero, span_alike, span_add, span_mul, span_more, span_head, span_cancel, sub_from, in_rows, Alike}
use Rattle.support_modular_rows.proofs.Leads.{divisor_cases, divisor_other, cancels_entry, Stepped, ZeroBelow}

abbrev pub greatest : ℕ
greatest = 2 ^ 32 - 1

-- the numbers of a row
abbrev pub of : List ℕ → ℕ → ℕ
of r j = get_or r j 0

abbrev pub row : List (List ℕ) → ℕ → List ℕ
row rs c = get_or rs c []

-- the rows are as wanted but that the columns below i still lack the vector x
pub record Absorbing (n : ℕ) (start : List ℕ) (old : List (List ℕ)) (rs : List (List ℕ)) (x : List ℕ) (i : ℕ) : Type 0 where
  pub size : length rs ≡ n
  pub triangular : Triangular greatest n rs
  pub leads : (c : ℕ) → c < n → IsLead (get_or (get_or rs c []) c 0)
  pub empty : (c j : ℕ) → c < n → j < n → get_or (get_or rs c []) c 0 ≡ 0 → get_or (get_or rs c []) j 0 ≡ 0
  pub below : (c : ℕ) → c < i → c < n → Kills greatest n (x ∷ drop (suc c) rs) (get_or rs c []) c
  pub above : (c : ℕ) → i ≤ c → c < n → Kills greatest n (drop (suc c) rs) (get_or rs c []) c
  pub zeros : ZeroBelow i x
  pub to : (v : ℕ → ℕ) → Span greatest n (start ∷ old) v → Span greatest n (x ∷ rs) v
  pub from : (v : ℕ → ℕ) → Span greatest n (x ∷ rs) v → Span greatest n (start ∷ old) v

module _ (n : ℕ) (few : n ≤ 65) where
  -- a step agrees with the sum, modulo 2 ^ 32
  stepped_alike : (x r x' : List ℕ) (q : ℕ) → Stepped x q r x' → Alike greatest n (λ j. of x j + q * of r j) (of x')
  stepped_alike x r x' q step j lt =
      let w : j < 65 = omega arith in sym (ap (λ y. y % 2 ^ 32) (step j w) ∙ mod_power (of x j + q * of r j) 32 32 (omega arith))

  -- reduced by a row from c on, the vector stands for itself
  reduced_to : (rs : List (List ℕ)) (x x' : List ℕ) (c i q : ℕ) → length rs ≡ n → i < n → c ≤ i → Stepped x q (row rs i) x'
      → (v : ℕ → ℕ) → Span greatest n (x ∷ drop c rs) v → Span greatest n (x' ∷ drop c rs) v
  reduced_to rs x x' c i q size lt le step v h =
      let within : i < length rs = omega arith in
      sub_from greatest n (x' ∷ drop c rs) rs x c v
      (span_cancel greatest n (x' ∷ drop c rs) (of x) (λ j. q * of (row rs i) j)
      (span_alike greatest n (x' ∷ drop c rs) (of x') (λ j. of x j + q * of (row rs i) j) (λ j lt'. sym (stepped_alike x (row rs i) x' q step j lt')) (span_head greatest n x' (drop c rs)))
      (span_mul greatest n q (x' ∷ drop c rs) (of (row rs i)) (span_more greatest n x' (drop c rs) (of (row rs i)) (in_rows greatest n rs c i le within))))
      (λ j le' lt'. span_more greatest n x' (drop c rs) (of (row rs j)) (in_rows greatest n rs c j le' lt'))
      h

  reduced_from : (rs : List (List ℕ)) (x x' : List ℕ) (c i q : ℕ) → length rs ≡ n → i < n → c ≤ i → Stepped x q (row rs i) x'
      → (v : ℕ → ℕ) → Span greatest n (x' ∷ drop c rs) v → Span greatest n (x ∷ drop c rs) v
  reduced_from rs x x' c i q size lt le step v h =
      let within : i < length rs = omega arith in
      sub_from greatest n (x ∷ drop c rs) rs x' c v
      (span_alike greatest n (x ∷ drop c rs) (λ j. of x j + q * of (row rs i) j) (of x') (stepped_alike x (row rs i) x' q step)
      (span_add greatest n (x ∷ drop c rs) (of x) (λ j. q * of (row rs i) j) (span_head greatest n x (drop c rs))
      (span_mul greatest n q (x ∷ drop c rs) (of (row rs i)) (span_more greatest n x (drop c rs) (of (row rs i)) (in_rows greatest n rs c i le within)))))
      (λ j le' lt'. span_more greatest n x (drop c rs) (of (row rs j)) (in_rows greatest n rs c j le' lt'))
      h

  -- the step where the row of the column reduces the vector
  pub reduce : (start : List ℕ) (old rs : List (List ℕ)) (x x' : List ℕ) (i q : ℕ) → i < n → Absorbing n start old rs x i → Stepped x q (row rs i) x'
      → (of x i + q * divisor_of (of (row rs i) i)) % 2 ^ 32 ≡ 0 → Absorbing n start old rs x' (i + 1)
  reduce start old rs x x' i q lt a step z = record {
    size = a.size;
    triangular = a.triangular;
    leads = a.leads;
    empty = a.empty;
    below = λ c less within p h. elim (cases_lt c i) [
      | inl before ↦ reduced_to rs x x' (suc c) i q a.size lt before step (λ j. p * of (row rs c) j) (a.below c before within p h)
      | inr here ↦ span_more greatest n x' (drop (suc c) rs) (λ j. p * of (row rs c) j) (a.above c here within p h)
    ];
    above = λ c more within. a.above c (omega arith) within;
    zeros = λ j less. (let w : j < 65 = omega arith in ap (λ y. y % 2 ^ 32) (step j w) ∙ mod_power (of x j + q * of (row rs i) j) 32 32 (omega arith))
        ∙ elim (cases_lt j i) [
          | inl before ↦ cong_drop greatest (of x j) (q * of (row rs i) j) (cong_mul_zero greatest q (of (row rs i) j) (a.triangular i j (let w : i < length rs = omega (arith, a.size) in w) before)) ∙ a.zeros j before
          | inr more ↦ let same : j ≡ i = omega arith in subst (λ k. (of x k + q * of (row rs i) k) % 2 ^ 32 ≡ 0) (sym same) (cancels_entry (of x i) q (of (row rs i) i) z)
        ];
    to = λ v h. reduced_to rs x x' 0 i q a.size lt (omega arith) step v (a.to v h);
    from = λ v h. a.from v (reduced_from rs x x' 0 i q a.size lt (omega arith) step v h);
  }

  -- the first row's leading entry and the greater divisor
  pub power_below : (x e g : ℕ) → (lead : IsLead e) → (x % divisor_of e ≡ 0 → ⊥) → x % 2 ^ g ≡ 0 → g < lead.0
  power_below x e g (v, le, is, small_entry) bad divides =
      elim (cases_lt g v) [
        | inl lt ↦ lt
        | inr ge ↦ absurd (bad (subst (λ d. x % d ≡ 0) (sym is) (sym (mod_power x v g ge) ∙ ap (λ y. y % 2 ^ v) divides ∙ (let f : 0 ≡ 0 * 2 ^ v = omega arith in ap (λ y. y % 2 ^ v) f ∙ mul-mod_left 0 (2 ^ v)))))
      ]

  zero_times : (a y : ℕ) → a % 2 ^ 32 ≡ 0 → a * y % 2 ^ 32 ≡ 0
  zero_times a y h = (let f : a * y ≡ y * a = omega arith in ap (λ z. z % 2 ^ 32) f) ∙ cong_mul_zero greatest y a h

  -- the old row is the new vector and a multiple of the new row
  back_alike : (r nn x' : List ℕ) (q s : ℕ) → Stepped r q nn x' → (q + s) % 2 ^ 32 ≡ 0 → Alike greatest n (λ j. of x' j + s * of nn j) (of r)
  back_alike r nn x' q s step h j lt =
      cong_add greatest (of x' j) (of r j + q * of nn j) (s * of nn j) (s * of nn j) (sym (stepped_alike r nn x' q step j lt)) refl
      ∙ (let f : of r j + q * of nn j + s * of nn j ≡ of r j + (q + s) * of nn j = omega arith in ap (λ z. z % 2 ^ 32) f)
      ∙ cong_drop greatest (of r j) ((q + s) * of nn j) (zero_times (q + s) (of nn j) h)

  multiple_alike : (x nn : List ℕ) (i : ℕ) (y : Normalised x i nn) → Alike greatest n (λ j. y.unit * of x j) (of nn)
  multiple_alike x nn i y j lt =
      let w : j < 65 = omega arith in
      sym (ap (λ z. z % 2 ^ 32) (y.multiple j w) ∙ mod_power (y.unit * of x j) 32 32 (omega arith))

  back_multiple : (x nn : List ℕ) (i : ℕ) (y : Normalised x i nn) → Alike greatest n (λ j. y.back * of nn j) (of x)
  back_multiple x nn i y j lt =
      cong_mul greatest y.back (of nn j) (y.unit * of x j) (sym (multiple_alike x nn i y j lt))
      ∙ (let f : y.back * (y.unit * of x j) ≡ y.unit * y.back * of x j = omega arith in ap (λ z. z % 2 ^ 32) f)
      ∙ sym (mul-mod_first (y.unit * y.back) (of x j) (2 ^ 32)) ∙ ap (λ z. z * of x j % 2 ^ 32) y.inverse
      ∙ (let f : 1 * of x j ≡ of x j = omega arith in ap (λ z. z % 2 ^ 32) f)

  grown_to : (rs : List (List ℕ)) (x x' nn : List ℕ) (c i q s : ℕ) → length rs ≡ n → i < n → c ≤ i → Normalised x i nn → Stepped (row rs i) q nn x' → (q + s) % 2 ^ 32 ≡ 0
      → (v : ℕ → ℕ) → Span greatest n (x ∷ drop c rs) v → Span greatest n (x' ∷ drop c (set rs i nn)) v
  grown_to rs x x' nn c i q s size lt le y step h v g =
      let within : i < length rs = omega arith in
      let longer : length (set rs i nn) ≡ length rs = length-set rs i nn in
      let there : Span greatest n (x' ∷ drop c (set rs i nn)) (of nn) =
      span_more greatest n x' (drop c (set rs i nn)) (of nn)
      (subst (λ r. Span greatest n (drop c (set rs i nn)) (of r)) (get_or-set_same rs i nn [] within) (in_rows greatest n (set rs i nn) c i le (omega arith))) in
      sub_from greatest n (x' ∷ drop c (set rs i nn)) rs x c v
      (span_alike greatest n (x' ∷ drop c (set rs i nn)) (λ j. y.back * of nn j) (of x) (back_multiple x nn i y) (span_mul greatest n y.back (x' ∷ drop c (set rs i nn)) (of nn) there))
      (λ j le' lt'. elim (cases_eq j i) [
        | inl same ↦ subst (λ k. Span greatest n (x' ∷ drop c (set rs i nn)) (of (row rs k))) (sym same)
            (span_alike greatest n (x' ∷ drop c (set rs i nn)) (λ j. of x' j + s * of nn j) (of (row rs i)) (back_alike (row rs i) nn x' q s step h)
            (span_add greatest n (x' ∷ drop c (set rs i nn)) (of x') (λ j. s * of nn j) (span_head greatest n x' (drop c (set rs i nn))) (span_mul greatest n s (x' ∷ drop c (set rs i nn)) (of nn) there)))
        | inr other ↦ span_more greatest n x' (drop c (set rs i nn)) (of (row rs j))
            (subst (λ r. Span greatest n (drop c (set rs i nn)) (of r)) (get_or-set_other rs i j nn [] other) (in_rows greatest n (set rs i nn) c j le' (omega arith)))
      ])
      g

  grown_from : (rs : List (List ℕ)) (x x' nn : List ℕ) (c i q : ℕ) → length rs ≡ n → i < n → c ≤ i → Normalised x i nn → Stepped (row rs i) q nn x'
      → (v : ℕ → ℕ) → Span greatest n (x' ∷ drop c (set rs i nn)) v → Span greatest n (x ∷ drop c rs) v
  grown_from rs x x' nn c i q size lt le y step v g =
      let within : i < length rs = omega arith in
      let longer : length (set rs i nn) ≡ length rs = length-set rs i nn in
      let there : Span greatest n (x ∷ drop c rs) (of nn) =
      span_alike greatest n (x ∷ drop c rs) (λ j. y.unit * of x j) (of nn) (multiple_alike x nn i y) (span_mul greatest n y.unit (x ∷ drop c rs) (of x) (span_head greatest n x (drop c rs))) in
      sub_from greatest n (x ∷ drop c rs) (set rs i nn) x' c v
      (span_alike greatest n (x ∷ drop c rs) (λ j. of (row rs i) j + q * of nn j) (of x') (stepped_alike (row rs i) nn x' q step)
      (span_add greatest n (x ∷ drop c rs) (of (row rs i)) (λ j. q * of nn j)
      (span_more greatest n x (drop c rs) (of (row rs i)) (in_rows greatest n rs c i le within))
      (span_mul greatest n q (x ∷ drop c rs) (of nn) there)))
      (λ j le' lt'. elim (cases_eq j i) [
        | inl same ↦ subst (λ k. Span greatest n (x ∷ drop c rs) (of (row (set rs i nn) k))) (sym same)
            (subst (λ r. Span greatest n (x ∷ drop c rs) (of r)) (sym (get_or-set_same rs i nn [] within)) there)
        | inr other ↦ subst (λ r. Span greatest n (x ∷ drop c rs) (of r)) (sym (get_or-set_other rs i j nn [] other))
            (span_more greatest n x (drop c rs) (of (row rs j)) (in_rows greatest n rs c j le' (omega arith)))
      ])
      g

  drop_set : (rs : List (List ℕ)) (i c : ℕ) (a : List ℕ) → i < c → drop c (set rs i a) ≡ drop c rs
  drop_set [] zero c a lt = refl
  drop_set [] (suc i) c a lt = refl
  drop_set (r ∷ rs) i zero a lt = absurd (omega arith)
  drop_set (r ∷ rs) zero (suc c) a lt = refl
  drop_set (r ∷ rs) (suc i) (suc c) a lt = drop_set rs i c a (omega arith)

  -- what brings 2 ^ g to 0 is a multiple of 2 ^ (32 - g)
  killing : (q g : ℕ) → g ≤ 32 → q * 2 ^ g % 2 ^ 32 ≡ 0 → (k : ℕ) × (q ≡ k * 2 ^ (32 - g))
  killing q g le h =
      let k : ℕ = q * 2 ^ g / 2 ^ 32 in
      let whole : q * 2 ^ g ≡ q * 2 ^ g / 2 ^ 32 * 2 ^ 32 = omega (arith, div-add-mod' (q * 2 ^ g) (2 ^ 32)) in
      let split : q * 2 ^ g ≡ q * 2 ^ g / 2 ^ 32 * 2 ^ (32 - g) * 2 ^ g =
      whole ∙ ap (λ z. q * 2 ^ g / 2 ^ 32 * z) (power_split g 32 le) ∙ (let f : q * 2 ^ g / 2 ^ 32 * (2 ^ (32 - g) * 2 ^ g) ≡ q * 2 ^ g / 2 ^ 32 * 2 ^ (32 - g) * 2 ^ g = omega arith in f) in
      (q * 2 ^ g / 2 ^ 32, sym (shl-shr q g) ∙ ap (λ z. z / 2 ^ g) split ∙ shl-shr (q * 2 ^ g / 2 ^ 32 * 2 ^ (32 - g)) g)

  -- an entry and its divisor agree
  entry_cong : (e : ℕ) → e % 2 ^ 32 ≡ divisor_of e % 2 ^ 32
  entry_cong e = elim (divisor_cases e) [ inl same ↦ ap (λ z. z % 2 ^ 32) (sym same) | inr (none, whole) ↦ ap (λ z. z % 2 ^ 32) none ∙ sym (ap (λ z. z % 2 ^ 32) whole) ]

  power_other : (g : ℕ) → 2 ^ g ≢ 0
  power_other g e = omega (arith, pow_pos g)

  -- the leading entry of the new row, and how often it goes into the old divisor
  quotient_is : (nn : List ℕ) (i e g q v : ℕ) → of nn i ≡ 2 ^ g → g ≤ v → divisor_of e ≡ 2 ^ v → (q + divisor_of e / divisor_of (of nn i)) % 2 ^ 32 ≡ 0 → (q + 2 ^ (v - g)) % 2 ^ 32 ≡ 0
  quotient_is nn i e g q v lead le is h =
      let below : divisor_of (of nn i) ≡ 2 ^ g = ap divisor_of lead ∙ divisor_other (2 ^ g) (power_other g) in
      let times : divisor_of e / divisor_of (of nn i) ≡ 2 ^ (v - g) =
      ap₂ (λ a b. a / b) is below ∙ ap (λ z. z / 2 ^ g) (power_split g v le) ∙ shl-shr (2 ^ (v - g)) g in
      ap (λ z. (q + z) % 2 ^ 32) (sym times) ∙ h

  -- the multiple of the new row that has 0 in the column
  new_killed : (rs : List (List ℕ)) (x x' nn : List ℕ) (i q g v : ℕ) → i < n → Kills greatest n (drop (suc i) rs) (row rs i) i → of nn i ≡ 2 ^ g → g ≤ v → v ≤ 32
      → divisor_of (of (row rs i) i) ≡ 2 ^ v → Stepped (row rs i) q nn x' → (q + 2 ^ (v - g)) % 2 ^ 32 ≡ 0
      → Kills greatest n (x' ∷ drop (suc i) (set rs i nn)) nn i
  new_killed rs x x' nn i q g v lt kills lead le high is step h p zero_there =
      let whole : 2 ^ (32 - v) * 2 ^ v ≡ 2 ^ 32 = sym (power_split v 32 high) in
      let old_zero : 2 ^ (32 - v) * of (row rs i) i % 2 ^ 32 ≡ 0 =
      cong_mul greatest (2 ^ (32 - v)) (of (row rs i) i) (divisor_of (of (row rs i) i)) (entry_cong (of (row rs i) i))
      ∙ ap (λ z. 2 ^ (32 - v) * z % 2 ^ 32) is ∙ ap (λ z. z % 2 ^ 32) whole in
      let old : Span greatest n (x' ∷ drop (suc i) (set rs i nn)) (λ j. 2 ^ (32 - v) * of (row rs i) j) =
      span_more greatest n x' (drop (suc i) (set rs i nn)) (λ j. 2 ^ (32 - v) * of (row rs i) j)
      (subst (λ l. Span greatest n l (λ j. 2 ^ (32 - v) * of (row rs i) j)) (sym (drop_set rs i (suc i) nn (omega arith))) (kills (2 ^ (32 - v)) old_zero)) in
      let carried : Span greatest n (x' ∷ drop (suc i) (set rs i nn)) (λ j. 2 ^ (32 - v) * of x' j) =
      span_mul greatest n (2 ^ (32 - v)) (x' ∷ drop (suc i) (set rs i nn)) (of x') (span_head greatest n x' (drop (suc i) (set rs i nn))) in
      let alike : Alike greatest n (λ j. 2 ^ (32 - v) * of (row rs i) j) (λ j. 2 ^ (32 - v) * 2 ^ (v - g) * of nn j + 2 ^ (32 - v) * of x' j) =
      λ j lt'. sym ((let f : 2 ^ (32 - v) * 2 ^ (v - g) * of nn j + 2 ^ (32 - v) * of x' j ≡ 2 ^ (32 - v) * (of x' j + 2 ^ (v - g) * of nn j) = omega arith in ap (λ z. z % 2 ^ 32) f)
      ∙ cong_mul greatest (2 ^ (32 - v)) (of x' j + 2 ^ (v - g) * of nn j) (of (row rs i) j) (back_alike (row rs i) nn x' q (2 ^ (v - g)) step h j lt')) in
      let least : Span greatest n (x' ∷ drop (suc i) (set rs i nn)) (λ j. 2 ^ (32 - v) * 2 ^ (v - g) * of nn j) =
      span_cancel greatest n (x' ∷ drop (suc i) (set rs i nn)) (λ j. 2 ^ (32 - v) * 2 ^ (v - g) * of nn j) (λ j. 2 ^ (32 - v) * of x' j)
      (span_alike greatest n (x' ∷ drop (suc i) (set rs i nn)) (λ j. 2 ^ (32 - v) * of (row rs i) j) (λ j. 2 ^ (32 - v) * 2 ^ (v - g) * of nn j + 2 ^ (32 - v) * of x' j) alike old)
      carried in
      let exponent : 2 ^ (32 - v) * 2 ^ (v - g) ≡ 2 ^ (32 - g) = sym (pow-add 2 (32 - v) (v - g)) ∙ (let f : 32 - v + (v - g) ≡ 32 - g = omega arith in ap (λ z. 2 ^ z) f) in
      let times = killing p g (omega arith) (ap (λ z. p * z % 2 ^ 32) (sym lead) ∙ zero_there) in
      span_alike greatest n (x' ∷ drop (suc i) (set rs i nn)) (λ j. times.0 * (2 ^ (32 - v) * 2 ^ (v - g) * of nn j)) (λ j. p * of nn j)
      (λ j lt'. (let f : times.0 * (2 ^ (32 - v) * 2 ^ (v - g) * of nn j) ≡ times.0 * (2 ^ (32 - v) * 2 ^ (v - g)) * of nn j = omega arith in ap (λ z. z % 2 ^ 32) f)
      ∙ ap (λ z. times.0 * z * of nn j % 2 ^ 32) exponent ∙ ap (λ z. z * of nn j % 2 ^ 32) (sym times.1))
      (span_mul greatest n times.0 (x' ∷ drop (suc i) (set rs i nn)) (λ j. 2 ^ (32 - v) * 2 ^ (v - g) * of nn j) least)

  -- the new vector has 0 in the column
  column_done : (rs : List (List ℕ)) (nn : List ℕ) (i q v g : ℕ) → of nn i ≡ 2 ^ g → g ≤ v → divisor_of (of (row rs i) i) ≡ 2 ^ v → (q + 2 ^ (v - g)) % 2 ^ 32 ≡ 0
      → (of (row rs i) i + q * of nn i) % 2 ^ 32 ≡ 0
  column_done rs nn i q v g lead le is h =
      cong_add greatest (of (row rs i) i) (2 ^ v) (q * of nn i) (q * 2 ^ g) (entry_cong (of (row rs i) i) ∙ ap (λ z. z % 2 ^ 32) is) (ap (λ z. q * z % 2 ^ 32) lead)
      ∙ ap (λ z. (z + q * 2 ^ g) % 2 ^ 32) (power_split g v le)
      ∙ (let f : 2 ^ (v - g) * 2 ^ g + q * 2 ^ g ≡ (q + 2 ^ (v - g)) * 2 ^ g = omega arith in ap (λ z. z % 2 ^ 32) f)
      ∙ zero_times (q + 2 ^ (v - g)) (2 ^ g) h

  -- the step where the vector takes the column
  pub grow : (start : List ℕ) (old rs : List (List ℕ)) (x x' nn : List ℕ) (i q : ℕ) → i < n → Absorbing n start old rs x i
      → (of x i % divisor_of (of (row rs i) i) ≡ 0 → ⊥) → Normalised x i nn → Stepped (row rs i) q nn x'
      → (q + divisor_of (of (row rs i) i) / divisor_of (of nn i)) % 2 ^ 32 ≡ 0
      → Absorbing n start old (set rs i nn) x' (i + 1)
  grow start old rs x x' nn i q lt a bad y step h =
      let within : i < length rs = omega (arith, a.size) in
      let longer : length (set rs i nn) ≡ length rs = length-set rs i nn in
      let lead : IsLead (of (row rs i) i) = a.leads i lt in
      let less : y.power < lead.0 = power_below (of x i) (of (row rs i) i) y.power lead bad y.divides in
      let s : ℕ = 2 ^ (lead.0 - y.power) in
      let h' : (q + 2 ^ (lead.0 - y.power)) % 2 ^ 32 ≡ 0 = quotient_is nn i (of (row rs i) i) y.power q lead.0 y.leading (omega arith) lead.2 h in
      record {
        size = longer ∙ a.size;
        triangular = λ c j within' before. elim (cases_eq c i) [
          | inl same ↦ subst (λ k. of (row (set rs i nn) k) j % 2 ^ 32 ≡ 0) (sym same)
              (subst (λ r. of r j % 2 ^ 32 ≡ 0) (sym (get_or-set_same rs i nn [] within))
              (let w : j < n = omega arith in let z : j < i = omega arith in sym (multiple_alike x nn i y j w) ∙ cong_mul_zero greatest y.unit (of x j) (a.zeros j z)))
          | inr other ↦ subst (λ r. of r j % 2 ^ 32 ≡ 0) (sym (get_or-set_other rs i c nn [] other)) (a.triangular c j (omega arith) before)
        ];
        leads = λ c within'. elim (cases_eq c i) [
          | inl same ↦ subst (λ k. IsLead (of (row (set rs i nn) k) k)) (sym same)
              (subst (λ r. IsLead (of r i)) (sym (get_or-set_same rs i nn [] within)) (
                y.power,
                omega (arith, y.small),
                ap divisor_of y.leading ∙ divisor_other (2 ^ y.power) (power_other y.power),
                subst (λ z. z < 2 ^ 32) (sym y.leading) (pow_below y.power 32 y.small),
              ))
          | inr other ↦ subst (λ r. IsLead (of r c)) (sym (get_or-set_other rs i c nn [] other)) (a.leads c within')
        ];
        empty = λ c j within' column. elim (cases_eq c i) [
          | inl same ↦ subst (λ k. of (row (set rs i nn) k) k ≡ 0 → of (row (set rs i nn) k) j ≡ 0) (sym same)
              (subst (λ r. of r i ≡ 0 → of r j ≡ 0) (sym (get_or-set_same rs i nn [] within)) (λ none. absurd (power_other y.power (sym y.leading ∙ none))))
          | inr other ↦ subst (λ r. of r c ≡ 0 → of r j ≡ 0) (sym (get_or-set_other rs i c nn [] other)) (a.empty c j within' column)
        ];
        below = λ c before within'. elim (cases_lt c i) [
          | inl earlier ↦
              let other : c ≢ i = omega arith in
              subst (λ r. Kills greatest n (x' ∷ drop (suc c) (set rs i nn)) r c) (sym (get_or-set_other rs i c nn [] other))
              (λ p z. grown_to rs x x' nn (suc c) i q s a.size lt earlier y step h' (λ j. p * of (row rs c) j) (a.below c earlier within' p z))
          | inr later ↦
              let same : c ≡ i = omega arith in
              subst (λ k. Kills greatest n (x' ∷ drop (suc k) (set rs i nn)) (row (set rs i nn) k) k) (sym same)
              (subst (λ r. Kills greatest n (x' ∷ drop (suc i) (set rs i nn)) r i) (sym (get_or-set_same rs i nn [] within))
              (new_killed rs x x' nn i q y.power lead.0 lt (a.above i (omega arith) lt) y.leading (omega arith) lead.1 lead.2 step h'))
        ];
        above = λ c after within'.
            let other : c ≢ i = omega arith in
            let past : i < suc c = omega arith in
            subst (λ r. Kills greatest n (drop (suc c) (set rs i nn)) r c) (sym (get_or-set_other rs i c nn [] other))
            (subst (λ l. Kills greatest n l (row rs c) c) (sym (drop_set rs i (suc c) nn past)) (a.above c (omega arith) within'));
        zeros = λ j before.
            let w : j < 65 = omega arith in
            ap (λ z. z % 2 ^ 32) (step j w) ∙ mod_power (of (row rs i) j + q * of nn j) 32 32 (omega arith)
            ∙ elim (cases_lt j i) [
              | inl earlier ↦
                  cong_drop greatest (of (row rs i) j) (q * of nn j) (cong_mul_zero greatest q (of nn j) (let v : j < n = omega arith in sym (multiple_alike x nn i y j v) ∙ cong_mul_zero greatest y.unit (of x j) (a.zeros j earlier)))
                  ∙ a.triangular i j within earlier
              | inr later ↦
                  let same : j ≡ i = omega arith in
                  subst (λ k. (of (row rs i) k + q * of nn k) % 2 ^ 32 ≡ 0) (sym same) (column_done rs nn i q lead.0 y.power y.leading (omega arith) lead.2 h')
            ];
        to = λ v g. grown_to rs x x' nn 0 i q s a.size lt (omega arith) y step h' v (a.to v g);
        from = λ v g. a.from v (grown_from rs x x' nn 0 i q a.size lt (omega arith) y step v g);
      }

  -- before the first column and after the last
  pub absorb_starts : (start : List ℕ) (old : List (List ℕ)) → length old ≡ n → Reduced old → Absorbing n start old old start 0
  absorb_starts start old size red = record {
    size = size;
    triangular = red.triangular;
    leads = λ c lt. red.leads c (omega arith);
    empty = λ c j lt column. red.empty c j (omega arith) (omega arith);
    below = λ c lt within. absurd (omega arith);
    above = λ c le lt. subst (λ k. Kills greatest k (drop (suc c) old) (row old c) c) size (red.kills c (omega arith));
    zeros = λ j lt. absurd (omega arith);
    to = λ v h. h;
    from = λ v h. h;
  }

  drop_vector : (x : List ℕ) (ss : List (List ℕ)) (v : ℕ → ℕ) → ZeroBelow n x → Span greatest n (x ∷ ss) v → Span greatest n ss v
  drop_vector x ss v z (c, h) = span_alike greatest n ss (λ j. v j + c * of x j) v (λ j lt. cong_drop greatest (v j) (c * of x j) (cong_mul_zero greatest c (of x j) (z j lt))) h

  pub absorb_ends : (start : List ℕ) (old rs : List (List ℕ)) (x : List ℕ) → Absorbing n start old rs x n → Reduced rs
  absorb_ends start old rs x a = record {
    triangular = a.triangular;
    kills = λ c lt. subst (λ k. Kills greatest k (drop (suc c) rs) (row rs c) c) (sym a.size)
        (λ q z. let w : c < n = omega (arith, a.size) in drop_vector x (drop (suc c) rs) (λ j. q * of (row rs c) j) a.zeros (a.below c w w q z));
    leads = λ c lt. a.leads c (let w : c < n = omega (arith, a.size) in w);
    empty = λ c j lt column. a.empty c j (let w : c < n = omega (arith, a.size) in w) (let w : j < n = omega (arith, a.size) in w);
  }

  pub absorb_same : (start : List ℕ) (old rs : List (List ℕ)) (x : List ℕ) → Absorbing n start old rs x n → SameSpan n (start ∷ old) rs
  absorb_same start old rs x a v = (λ h. drop_vector x rs v a.zeros (a.to v h), λ h. a.from v (span_more greatest n x rs v h))
