-- Elements over two bases, by what the calls on both parts give.
use Rattle.std.proofs.Common.{◌≡◌, ℕ, ◌+◌, ◌^◌, Bool, true, false, List, cond, max, min, sym, ap, ap₂, subst, ◌∙◌, arith, IsTrue, refl, inl}
use Rattle.std.specs.Prelude.{◌&&◌}
use Rattle.base_trait.specs.Algebra.{Algebra}
use Rattle.base_trait.specs.Laws.{Laws}
use Rattle.base_trait.proofs.Tests.{and_both}
use Rattle.base_product.specs.Instance.{paired_laws}
use Rattle.base_product.specs.Meaning.{paired}
use Rattle.abstract_map_laws.proofs.Fitting.{room}
use Rattle.spec_ir.specs.Specification.{Spec}
use Rattle.semantics_values.specs.declared.entry.Line.{Line}
use Rattle.abstract_value_laws.specs.Abs.{Abs, Parts}
use Rattle.abstract_value_laws.specs.Calls.{absorbs_parts, join_parts, widen_parts}
use Rattle.abstract_value_laws.specs.Fits.{PartsFit}
use Rattle.domain_laws.specs.States.{StateType, state_type}
use Rattle.domain_laws.specs.Values.{FieldsFit, IsStateValue}
use Rattle.domain_laws.specs.Calls.{fields_of, is_for, made_state, values_rank}
use Rattle.domain_laws.specs.Entry.{entry_values}
use Rattle.domain_laws.proofs.Cells.{joined_fit, widened_fit}
use Rattle.domain_laws.proofs.Domain.{it_joins, states_are}
use Rattle.domain_laws.proofs.Opened.{closed_fits, opened_fits}
use Rattle.domain_product_laws.specs.Calls.{first_value, second_value, zip_parts, zip_value}
use Rattle.domain_product_laws.proofs.Kept.{zip_is_state}
use Rattle.domain_product_laws.proofs.Values.{PartsMeet, states_meet}
use Rattle.domain_product_states.specs.Instance.{for_parts}
use Rattle.domain_product_states.specs.Leaves.{AreLeaves}
use Rattle.domain_product_states.specs.Parts.{both_parts, first_parts, second_parts}
use Rattle.domain_product_states.proofs.Tests.{both_again}
use Rattle.domain_product_states.proofs.Values.{are_leaves, fields_both, first_entry, first_joined, first_widened, mapped_fields, parts_again, parts_apart, second_entry, second_joined, second_widened, values_rank_both}

module _ {V W M N C D : Type 0} (A : Algebra V M C) (B : Algebra W N D) (m n : ℕ) (e : m ≡ cond A.joins 256 (2 ^ 32)) (d : n ≡ cond B.joins 256 (2 ^ 32)) where
  -- ---- two bases that list as many cells: both join, or neither
  joins_alike : m ≡ n → A.joins ≡ B.joins
  joins_alike h = by_joins A.joins B.joins e d
    where
      by_joins : (p q : Bool) → m ≡ cond p 256 (2 ^ 32) → n ≡ cond q 256 (2 ^ 32) → p ≡ q
      by_joins true true x y = refl
      by_joins false false x y = refl
      by_joins true false x y = let left : m ≡ 256 = x in let right : n ≡ 2 ^ 32 = y in absurd (omega (arith, left, right, h))
      by_joins false true x y = let left : m ≡ 2 ^ 32 = x in let right : n ≡ 256 = y in absurd (omega (arith, left, right, h))

  pub first_joins : m ≡ n → A.joins && B.joins ≡ A.joins
  first_joins h = ap (λ q. A.joins && q) (sym (joins_alike h)) ∙ sym (both_again A.joins)

  pub second_joins : m ≡ n → A.joins && B.joins ≡ B.joins
  second_joins h = ap (λ p. p && B.joins) (joins_alike h) ∙ sym (both_again B.joins)

  pub one_room : m ≡ n → (max m n ≡ m) × (max m n ≡ n)
  one_room h = (omega (arith, h), omega (arith, h))

  pub together_joined : (c : C × D) → m ≡ n → (x y z : Parts (V × W) (M × N)) → z ≡ join_parts (paired A B) c (max m n) x y
      → both_parts z ≡ (join_parts A c.0 m (first_parts x) (first_parts y), join_parts B c.1 n (second_parts x) (second_parts y))
  together_joined c h x y z is =
      ap (λ p. both_parts p) is
      ∙ ap₂ (λ p q. (p, q))
      (first_joined A B c (max m n) (first_joins h) x y ∙ ap (λ k. join_parts A c.0 k (first_parts x) (first_parts y)) (one_room h).0)
      (second_joined A B c (max m n) (second_joins h) x y ∙ ap (λ k. join_parts B c.1 k (second_parts x) (second_parts y)) (one_room h).1)

  -- ---- of a specification that the domain is for
  module _ (c : C × D) (t : StateType) (spec : Spec) (made : IsTrue (is_for (paired A B) t spec)) where
    left_joins : IsTrue A.joins
    left_joins = it_joins A t spec (for_parts A B t spec made).0

    right_joins : IsTrue B.joins
    right_joins = it_joins B t spec (for_parts A B t spec made).1

    alike : m ≡ n
    alike = e ∙ ap (λ b. cond b 256 (2 ^ 32)) left_joins ∙ sym (d ∙ ap (λ b. cond b 256 (2 ^ 32)) right_joins)

    pub entry_is : (lines : List Line) (z : Parts (V × W) (M × N)) → z ≡ entry_values (paired A B) c (max m n) lines 1 t.fields
        → (first_parts z ≡ entry_values A c.0 m lines 1 t.fields) × (second_parts z ≡ entry_values B c.1 n lines 1 t.fields)
    entry_is lines z h = (
      ap (λ x. first_parts x) h ∙ first_entry A B c (max m n) lines (first_joins alike) 1 t.fields ∙ ap (λ k. entry_values A c.0 k lines 1 t.fields) (one_room alike).0,
      ap (λ x. second_parts x) h ∙ second_entry A B c (max m n) lines (second_joins alike) 1 t.fields ∙ ap (λ k. entry_values B c.1 k lines 1 t.fields) (one_room alike).1,
    )

    pub parts_fit : (z : Parts (V × W) (M × N)) → FieldsFit (paired A B) c (max m n) t.fields z → FieldsFit A c.0 m t.fields (first_parts z) × FieldsFit B c.1 n t.fields (second_parts z)
    parts_fit z h =
        let p = parts_apart A B c (max m n) t.fields z h in
        (subst (λ k. FieldsFit A c.0 k t.fields (first_parts z)) (one_room alike).0 p.0, subst (λ k. FieldsFit B c.1 k t.fields (second_parts z)) (one_room alike).1 p.1)

    module _ (a : Laws V M C A) (b : Laws W N D B) where
      pub closed_fit : (x : Abs (V × W) (M × N)) (z : Parts (V × W) (M × N)) → z ≡ fields_of x → IsStateValue (paired A B) c (max m n) (state_type spec) x
          → FieldsFit A c.0 m t.fields (first_parts z) × FieldsFit B c.1 n t.fields (second_parts z)
      closed_fit x z h is = parts_fit z (subst (FieldsFit (paired A B) c (max m n) t.fields) (sym h)
          (closed_fits (paired A B) (paired_laws A B a b) c (max m n) t x (subst (λ u. IsStateValue (paired A B) c (max m n) u x) (sym (states_are (paired A B) t spec made)) is)))

      -- two parts that fit, put side by side
      module _ (x : Parts V M) (y : Parts W N) (fx : FieldsFit A c.0 m t.fields x) (fy : FieldsFit B c.1 n t.fields y) where
        left_state : IsStateValue A c.0 (max m n) t (made_state t.number (A.words.constant c.0 32 0) x)
        left_state = opened_fits A a c.0 (max m n) t 0 x (omega arith) (subst (λ k. FieldsFit A c.0 k t.fields x) (sym (one_room alike).0) fx)

        right_state : IsStateValue B c.1 (max m n) t (made_state t.number (B.words.constant c.1 32 0) y)
        right_state = opened_fits B b c.1 (max m n) t 0 y (omega arith) (subst (λ k. FieldsFit B c.1 k t.fields y) (sym (one_room alike).1) fy)

        pub sides_meet : PartsMeet x y
        sides_meet = (states_meet t (made_state t.number (A.words.constant c.0 32 0) x) (made_state t.number (B.words.constant c.1 32 0) y) left_state.0 right_state.0).0.1

        pub sides_fit : FieldsFit (paired A B) c (max m n) t.fields (zip_parts A B c (max m n) x y)
        sides_fit =
            closed_fits (paired A B) (paired_laws A B a b) c (max m n) t (zip_value A B c (max m n) (made_state t.number (A.words.constant c.0 32 0) x) (made_state t.number (B.words.constant c.1 32 0) y))
            (zip_is_state A B a b c (max m n) t (made_state t.number (A.words.constant c.0 32 0) x) (made_state t.number (B.words.constant c.1 32 0) y) (inl (and_both A.joins B.joins left_joins right_joins)) left_state right_state)

pub apart_ranked : (a b p q r most : ℕ) → a ≡ min p most → b ≡ min q most → r ≡ min (a + b) most → r ≡ min (p + q) most
apart_ranked a b p q r most h g e = omega (arith, h, g, e)

module _ {V W M N C D : Type 0} (A : Algebra V M C) (B : Algebra W N D) (c : C × D) where
  pub together_widened : (x y z : Parts (V × W) (M × N)) → z ≡ widen_parts (paired A B) c x y
      → both_parts z ≡ (widen_parts A c.0 (first_parts x) (first_parts y), widen_parts B c.1 (second_parts x) (second_parts y))
  together_widened x y z is = ap (λ p. both_parts p) is ∙ ap₂ (λ p q. (p, q)) (first_widened A B c x y) (second_widened A B c x y)

  pub together_ranked : (x : Parts (V × W) (M × N)) (r most : ℕ) → AreLeaves (first_parts x) → r ≡ min (values_rank (paired A B) c x) most → r ≡ min (values_rank A c.0 (first_parts x) + values_rank B c.1 (second_parts x)) most
  together_ranked x r most leaves h = h ∙ ap (λ k. min k most) (values_rank_both A B c x leaves)

module _ {V W M N C D : Type 0} (A : Algebra V M C) (B : Algebra W N D) (m n : ℕ) (c : C × D) (t : StateType) where
  pub closed_is : (x : Abs (V × W) (M × N)) (z : Parts (V × W) (M × N)) → z ≡ fields_of x → (first_parts z ≡ fields_of (first_value x)) × (second_parts z ≡ fields_of (second_value x))
  closed_is x z h = (ap (λ y. first_parts y) h ∙ mapped_fields (λ p. p.0) (λ p. p.0) x, ap (λ y. second_parts y) h ∙ mapped_fields (λ p. p.1) (λ p. p.1) x)

  -- both parts of values over the pair, opened side by side
  pub opened_is : (pc : ℕ) (z : Parts (V × W) (M × N)) (r : Abs (V × W) (M × N)) → FieldsFit A c.0 m t.fields (first_parts z) → FieldsFit B c.1 n t.fields (second_parts z) → r ≡ made_state t.number ((paired A B).words.constant c 32 pc) z
      → r ≡ zip_value A B c (max m n) (made_state t.number (A.words.constant c.0 32 pc) (first_parts z)) (made_state t.number (B.words.constant c.1 32 pc) (second_parts z))
  opened_is pc z r h g is = is ∙ ap (λ x. made_state t.number ((paired A B).words.constant c 32 pc) x) (sym (parts_again A B c (max m n) t.fields z (fields_both A B c m n t.fields z h g)))

  -- ---- calls with what is shared
  module _ (k : C × D) (same : k ≡ c) where
    pub first_fits : (x : Parts V M) → FieldsFit A c.0 m t.fields x → PartsFit A k.0 m x
    first_fits x h = subst (λ z. PartsFit A z.0 m x) (sym same) h.1

    pub second_fits : (y : Parts W N) → FieldsFit B c.1 n t.fields y → PartsFit B k.1 n y
    second_fits y h = subst (λ z. PartsFit B z.1 n y) (sym same) h.1

    module _ (x y r : Parts V M × Parts W N) where
      pub joined_is : r ≡ (join_parts A k.0 m x.0 y.0, join_parts B k.1 n x.1 y.1) → (r.0 ≡ join_parts A c.0 m x.0 y.0) × (r.1 ≡ join_parts B c.1 n x.1 y.1)
      joined_is h = let there = h ∙ ap (λ (z : C × D). (join_parts A z.0 m x.0 y.0, join_parts B z.1 n x.1 y.1)) same in (ap (λ p. p.0) there, ap (λ p. p.1) there)

      pub widened_is : r ≡ (widen_parts A k.0 x.0 y.0, widen_parts B k.1 x.1 y.1) → (r.0 ≡ widen_parts A c.0 x.0 y.0) × (r.1 ≡ widen_parts B c.1 x.1 y.1)
      widened_is h = let there = h ∙ ap (λ (z : C × D). (widen_parts A z.0 x.0 y.0, widen_parts B z.1 x.1 y.1)) same in (ap (λ p. p.0) there, ap (λ p. p.1) there)

      module _ (a : Laws V M C A) (b : Laws W N D B) (fx : FieldsFit A c.0 m t.fields x.0 × FieldsFit B c.1 n t.fields x.1) (fy : FieldsFit A c.0 m t.fields y.0 × FieldsFit B c.1 n t.fields y.1) where
        pub joined_fits : m ≡ cond A.joins 256 (2 ^ 32) → n ≡ cond B.joins 256 (2 ^ 32) → r ≡ (join_parts A k.0 m x.0 y.0, join_parts B k.1 n x.1 y.1) → FieldsFit A c.0 m t.fields r.0 × FieldsFit B c.1 n t.fields r.1
        joined_fits e d h =
            let is = joined_is h in
            (subst (FieldsFit A c.0 m t.fields) (sym is.0) (joined_fit A a c.0 m t.fields x.0 y.0 (room A m e) fx.0 fy.0), subst (FieldsFit B c.1 n t.fields) (sym is.1) (joined_fit B b c.1 n t.fields x.1 y.1 (room B n d) fx.1 fy.1))

        pub widened_fits : r ≡ (widen_parts A k.0 x.0 y.0, widen_parts B k.1 x.1 y.1) → FieldsFit A c.0 m t.fields r.0 × FieldsFit B c.1 n t.fields r.1
        widened_fits h =
            let is = widened_is h in
            (subst (FieldsFit A c.0 m t.fields) (sym is.0) (widened_fit A a c.0 m t.fields x.0 y.0 fx.0 fy.0), subst (FieldsFit B c.1 n t.fields) (sym is.1) (widened_fit B b c.1 n t.fields x.1 y.1 fx.1 fy.1))

    pub absorbed_is : (x y : Parts V M × Parts W N) (r : Bool) → r ≡ absorbs_parts A k.0 x.0 y.0 && absorbs_parts B k.1 x.1 y.1 → r ≡ absorbs_parts A c.0 x.0 y.0 && absorbs_parts B c.1 x.1 y.1
    absorbed_is x y r h = h ∙ ap (λ (z : C × D). absorbs_parts A z.0 x.0 y.0 && absorbs_parts B z.1 x.1 y.1) same

    pub ranked_is : (x : Parts V M × Parts W N) (r most : ℕ) → r ≡ min (values_rank A k.0 x.0 + values_rank B k.1 x.1) most → r ≡ min (values_rank A c.0 x.0 + values_rank B c.1 x.1) most
    ranked_is x r most h = h ∙ ap (λ (z : C × D). min (values_rank A z.0 x.0 + values_rank B z.1 x.1) most) same

  pub both_leaves : (x : Parts V M × Parts W N) → FieldsFit A c.0 m t.fields x.0 × FieldsFit B c.1 n t.fields x.1 → AreLeaves x.0 × AreLeaves x.1
  both_leaves x h = (are_leaves t.fields x.0 h.0.0, are_leaves t.fields x.1 h.1.0)
