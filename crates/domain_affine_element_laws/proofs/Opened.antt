-- The word of a cell is the least constant, or else the cell.
use Rattle.std.proofs.Common.{◌≡◌, ℕ, zero, suc, ◌+◌, ◌*◌, ◌%◌, ◌^◌, ◌<◌, ◌≤◌, Bool, true, false, IsTrue, List, [], ◌∷◌, length, get_or, Option, Some, None, refl, sym, ap, ap₂, ◌∙◌, subst, arith, inl, inr, mod-lt, pow_pos}
use Rattle.std.specs.Prelude.{◌==◌, if◌then◌else◌}
use Rattle.std.proofs.lemmas.Bool.{cases_lt, cases_eq}
use Rattle.support_modular_rows.specs.Laws.{IsClosed}
use Rattle.support_modular_rows.specs.Multiples.{IsMultiple}
use Rattle.support_modular_rows.specs.Submodule.{Congruent, IsMember, unit_row}
use Rattle.support_modular_rows.proofs.Least.{members_are_least}
use Rattle.domain_affine_base.specs.Linear.{agreeing_equal, products_agree, remainder_agrees, sums_agree}
use Rattle.domain_affine_base.specs.Words.{Fits, Stands}
use Rattle.domain_affine_base.specs.declared.word.Word.{Word}
use Rattle.domain_affine_base.specs.declared.word.Word.TheVariants.{Any, Const, Form}
use Rattle.base_trait.specs.Lists.{Each}
use Rattle.base_trait.proofs.Lists.{all_told, each_at, each_from, number_itself, number_told}
use Rattle.domain_affine_element_laws.specs.Elements.{SameMembers}
use Rattle.domain_affine_element_laws.specs.Laws.{IsOpened, OneIsOpened, OpensSame, OpensSoundly, OpensToLeast, OpensToWords}
use Rattle.domain_affine_element_laws.specs.Opened.{are_multiples, constant_or_cell, first_of, least_below}
use Rattle.domain_affine_element_laws.proofs.Membership.{each_members}
use Rattle.domain_affine_element_laws.proofs.Units.{dot_unit, unit_below, unit_size, unit_some}

-- ---- the least number that passes a test
record IsLeast (n : ℕ) (test : ℕ → Bool) (i : ℕ) : Type 0 where
  pub within : i < n
  pub passes : IsTrue (test i)
  pub least : (j : ℕ) → IsTrue (test j) → i ≤ j

abbrev Found : ℕ → (ℕ → Bool) → Option ℕ → Type 0
Found n test (Some i) = IsLeast n test i
Found n test None = (j : ℕ) → j < n → IsTrue (test j) → ⊥

found_more : (n : ℕ) (test : ℕ → Bool) (o : Option ℕ) → Found n test o → (b : Bool) → b ≡ test n → Found (suc n) test (first_of o (if b then Some n else None))
found_more n test (Some i) f b e = let within = f.within in record { within = omega (arith, within); passes = f.passes; least = f.least }
found_more n test None f true e = record {
  within = omega arith;
  passes = sym e;
  least = λ j h. elim (cases_lt j n) [ inl lt ↦ absurd (f j lt h) | inr ge ↦ ge ];
}
found_more n test None f false e = λ j lt h. elim (cases_eq j n) [
  | inl same ↦ let here = subst (λ z. IsTrue (test z)) same h in cc
  | inr other ↦ f j (omega (arith, lt, other)) h
]

least_found : (n : ℕ) (test : ℕ → Bool) → Found n test (least_below n test)
unfolding least_below
least_found zero test = λ j lt h. absurd (omega (arith, lt))
least_found (suc n) test = found_more n test (least_below n test) (least_found n test) (test n) refl

-- ---- multiples in each row, and in each member
module _ (k : ℕ) (rows : List (List ℕ)) (cell : ℕ) (within : cell < k) where
  closed : (c : ℕ) → IsClosed k (λ x. Congruent (get_or x (cell + 1) 0) (c * get_or x 0 0))
  closed c = record {
    zero = λ z e.
        let none : c * 0 ≡ 0 = omega arith in
        e (cell + 1) (omega (arith, within)) ∙ sym (products_agree c (get_or z 0 0) 0 (e 0 (omega arith)) ∙ ap (λ n. n % 2 ^ 32) none);
    sums = λ x y z a b e.
        e (cell + 1) (omega (arith, within))
        ∙ sums_agree (get_or x (cell + 1) 0) (c * get_or x 0 0) (get_or y (cell + 1) 0) (c * get_or y 0 0) a b
        ∙ ap (λ n. n % 2 ^ 32) (let both : c * get_or x 0 0 + c * get_or y 0 0 ≡ c * (get_or x 0 0 + get_or y 0 0) = omega arith in both)
        ∙ sym (products_agree c (get_or z 0 0) (get_or x 0 0 + get_or y 0 0) (e 0 (omega arith)));
    multiples = λ q x z a e.
        e (cell + 1) (omega (arith, within))
        ∙ products_agree q (get_or x (cell + 1) 0) (c * get_or x 0 0) a
        ∙ ap (λ n. n % 2 ^ 32) (let turn : q * (c * get_or x 0 0) ≡ c * (q * get_or x 0 0) = omega arith in turn)
        ∙ sym (products_agree c (get_or z 0 0) (q * get_or x 0 0) (e 0 (omega arith)));
  }

  multiple_from : (c : ℕ) → IsTrue (are_multiples rows cell c) → IsMultiple k rows cell c
  multiple_from c h x member =
      members_are_least (λ x. Congruent (get_or x (cell + 1) 0) (c * get_or x 0 0)) k rows (closed c)
      (at rows ((all_told (λ r. get_or r (cell + 1) 0 % 2 ^ 32 == c * get_or r 0 0 % 2 ^ 32) rows).0 h)) x member
    where
      at : (rs : List (List ℕ)) → Each (λ r. IsTrue (get_or r (cell + 1) 0 % 2 ^ 32 == c * get_or r 0 0 % 2 ^ 32)) rs → (i : ℕ) (d : List ℕ) → i < length rs
          → Congruent (get_or (get_or rs i d) (cell + 1) 0) (c * get_or (get_or rs i d) 0 0)
      at [] h i d lt = absurd (omega (arith, lt))
      at (r ∷ rs) h zero d lt = number_told (get_or r (cell + 1) 0 % 2 ^ 32) (c * get_or r 0 0 % 2 ^ 32) h.0
      at (r ∷ rs) h (suc i) d lt = at rs h.1 i d (omega (arith, lt))

  multiple_to : (c : ℕ) → IsMultiple k rows cell c → IsTrue (are_multiples rows cell c)
  multiple_to c h =
      (all_told (λ r. get_or r (cell + 1) 0 % 2 ^ 32 == c * get_or r 0 0 % 2 ^ 32) rows).1
      (each_from (λ r. IsTrue (get_or r (cell + 1) 0 % 2 ^ 32 == c * get_or r 0 0 % 2 ^ 32)) rows
      (λ r a. subst (λ z. IsTrue (get_or r (cell + 1) 0 % 2 ^ 32 == z)) (h r (each_at (λ r. IsMember k rows r) rows r (each_members k rows) a)) (number_itself (get_or r (cell + 1) 0 % 2 ^ 32))))

  -- a multiple is one modulo 2 ^ 32
  multiple_small : (c : ℕ) → IsMultiple k rows cell c → IsMultiple k rows cell (c % 2 ^ 32)
  multiple_small c h x member =
      let turn : c * get_or x 0 0 ≡ get_or x 0 0 * c = omega arith in
      let back : get_or x 0 0 * (c % 2 ^ 32) ≡ c % 2 ^ 32 * get_or x 0 0 = omega arith in
      h x member ∙ ap (λ n. n % 2 ^ 32) turn ∙ products_agree (get_or x 0 0) c (c % 2 ^ 32) (sym (remainder_agrees c)) ∙ ap (λ n. n % 2 ^ 32) back

  abbrev Opens : Option ℕ → Type 0
  Opens o = IsOpened k rows cell (constant_or_cell k cell o)

  opens : (o : Option ℕ) → Found (2 ^ 32) (are_multiples rows cell) o → Opens o
  opens (Some i) f = record { holds = multiple_from i f.passes; least = λ d h. f.least d (multiple_to d h) }
  opens None f = (refl, λ d h. f (d % 2 ^ 32) (mod-lt d (pow_pos 32)) (multiple_to (d % 2 ^ 32) (multiple_small d h)))

pub opens_to_least : OpensToLeast
opens_to_least k rows cell within = opens k rows cell within (least_below (2 ^ 32) (are_multiples rows cell)) (least_found (2 ^ 32) (are_multiples rows cell))

-- ---- what the word stands for
stands : (k : ℕ) (rows : List (List ℕ)) (cell : ℕ) (valuation : List ℕ) → cell < k → get_or valuation cell 0 < 2 ^ 32 → IsMember k rows (1 ∷ valuation)
    → (o : Option ℕ) → Found (2 ^ 32) (are_multiples rows cell) o → Stands valuation (constant_or_cell k cell o) (get_or valuation cell 0)
stands k rows cell valuation within small member (Some c) f =
    let next : cell + 1 ≡ suc cell = omega arith in
    let here = multiple_from k rows cell within c f.passes (1 ∷ valuation) member in
    agreeing_equal (get_or valuation cell 0) c small f.within
    (subst (λ j. Congruent (get_or (1 ∷ valuation) j 0) (c * 1)) next here ∙ ap (λ n. n % 2 ^ 32) (omega arith))
stands k rows cell valuation within small member None f =
    let next : cell + 1 ≡ suc cell = omega arith in
    ap (λ n. n % 2 ^ 32) (sym (dot_unit (k + 1) (cell + 1) (1 ∷ valuation) (omega (arith, within)) ∙ ap (λ j. get_or (1 ∷ valuation) j 0) next))

pub opens_soundly : OpensSoundly
opens_soundly k rows cell valuation within small member =
    stands k rows cell valuation within small member (least_below (2 ^ 32) (are_multiples rows cell)) (least_found (2 ^ 32) (are_multiples rows cell))

fits : (k : ℕ) (rows : List (List ℕ)) (cell : ℕ) → cell < k → (o : Option ℕ) → Found (2 ^ 32) (are_multiples rows cell) o → Fits k 32 (constant_or_cell k cell o)
fits k rows cell within (Some c) f = (f.within, tt)
fits k rows cell within None f =
    let n : k + 1 ≡ suc k = omega arith in let i : cell + 1 ≡ suc cell = omega arith in
    (record { width = refl; below = unit_below (k + 1) (cell + 1); some = ap₂ (λ a b. Rattle.domain_affine_base.specs.Forms.is_constant (unit_row a b)) n i ∙ unit_some k cell within }, unit_size (k + 1) (cell + 1))

pub opens_to_words : OpensToWords
opens_to_words k rows cell within = fits k rows cell within (least_below (2 ^ 32) (are_multiples rows cell)) (least_found (2 ^ 32) (are_multiples rows cell))

-- ---- elements that are the same
one : (k : ℕ) (rows others : List (List ℕ)) (cell : ℕ) → cell < k → SameMembers k rows others → (o p : Option ℕ) → Found (2 ^ 32) (are_multiples rows cell) o
    → Found (2 ^ 32) (are_multiples others cell) p → o ≡ p
one k rows others cell within same (Some i) (Some j) f g =
    let less = f.least j (multiple_to k rows cell within j (λ x member. multiple_from k others cell within j g.passes x ((same x).0 member))) in
    let more = g.least i (multiple_to k others cell within i (λ x member. multiple_from k rows cell within i f.passes x ((same x).1 member))) in
    ap Some (omega (arith, less, more))
one k rows others cell within same (Some i) None f g =
    absurd (g i f.within (multiple_to k others cell within i (λ x member. multiple_from k rows cell within i f.passes x ((same x).1 member))))
one k rows others cell within same None (Some j) f g =
    absurd (f j g.within (multiple_to k rows cell within j (λ x member. multiple_from k others cell within j g.passes x ((same x).0 member))))
one k rows others cell within same None None f g = refl

pub opens_same : OpensSame
opens_same k rows others cell within same =
    ap (constant_or_cell k cell)
    (one k rows others cell within same (least_below (2 ^ 32) (are_multiples rows cell)) (least_below (2 ^ 32) (are_multiples others cell))
    (least_found (2 ^ 32) (are_multiples rows cell)) (least_found (2 ^ 32) (are_multiples others cell)))

-- ---- it is the only such word
only : (k : ℕ) (rows : List (List ℕ)) (cell : ℕ) → cell < k → (x : Word) → IsOpened k rows cell x → (o : Option ℕ) → Found (2 ^ 32) (are_multiples rows cell) o → x ≡ constant_or_cell k cell o
only k rows cell within Any h o f = absurd h
only k rows cell within (Const c) h (Some i) f =
    let less = h.least i (multiple_from k rows cell within i f.passes) in
    let more = f.least c (multiple_to k rows cell within c h.holds) in
    ap Const (omega (arith, less, more))
only k rows cell within (Const c) h None f =
    absurd (f (c % 2 ^ 32) (mod-lt c (pow_pos 32)) (multiple_to k rows cell within (c % 2 ^ 32) (multiple_small k rows cell within c h.holds)))
only k rows cell within (Form g) h (Some i) f = absurd (h.1 i (multiple_from k rows cell within i f.passes))
only k rows cell within (Form g) h None f = ap Form h.0

pub one_is_opened : OneIsOpened
one_is_opened k rows cell x within h = only k rows cell within x h (least_below (2 ^ 32) (are_multiples rows cell)) (least_found (2 ^ 32) (are_multiples rows cell))
