-- Values of paired words and their parts.
use Rattle.std.proofs.Common.{◌≡◌, ℕ, ◌+◌, ◌≤◌, ◌<◌, Bool, true, false, List, [], ◌∷◌, length, suc, max, refl, sym, ap, ap₂, subst, ◌∙◌, arith, cond}
use Rattle.std.specs.Prelude.{◌&&◌, ◌==◌, ◌^◌}
use Rattle.base_trait.specs.Algebra.{Algebra}
use Rattle.base_trait.specs.Lists.{Each, IsAscending}
use Rattle.base_product.specs.Meaning.{paired}
use Rattle.abstract_map_laws.specs.declared.cell.AbstractCell.{AbstractCell}
use Rattle.abstract_map_laws.specs.Calls.{join_of as join_map, update_of, widen_of as widen_map}
use Rattle.abstract_map_laws.specs.Cells.{CellFits}
use Rattle.abstract_map_laws.specs.Keys.{one}
use Rattle.abstract_map_laws.specs.Maps.{Fits as MapFits, Map}
use Rattle.semantics_values.specs.declared.entry.GivenNumber.{GivenNumber}
use Rattle.semantics_values.specs.declared.entry.GivenNumber.TheVariants.{One, Any, Range}
use Rattle.semantics_values.specs.declared.entry.KeyAt.{KeyAt}
use Rattle.semantics_values.specs.declared.entry.KeyAt.TheVariants.{Whole, Rest, At}
use Rattle.semantics_values.specs.declared.entry.Line.{Line}
use Rattle.semantics.specs.Entries.{given_rest, given_word}
use Rattle.abstract_value_laws.specs.Abs.{Abs, Cases, Parts, flag, word, made, map, no_case, absent, present, no_part, part}
use Rattle.abstract_value_laws.specs.Calls.{absorbs_cases, absorbs_flag, absorbs_of, absorbs_parts, join_parts, same_type, widen_parts}
use Rattle.abstract_value_laws.specs.Fits.{CasesFit, Fits, PartsFit}
use Rattle.abstract_value_laws.specs.Ranks.{leaf_rank}
use Rattle.domain_laws.specs.declared.field.Field.{Field}
use Rattle.domain_laws.specs.declared.field.Field.TheVariants as field
use Rattle.domain_laws.specs.Values.{AreOf, FieldsFit, IsOf}
use Rattle.domain_laws.specs.Calls.{behind_first, fields_of, values_rank}
use Rattle.domain_laws.specs.Entry.{entry_value, entry_values, given_cell, map_of, with_cell, with_cells}
use Rattle.domain_product_laws.specs.Calls.{first_map, first_value, mapped_cases, mapped_cell, mapped_cells, mapped_map, mapped_parts, mapped_value, second_map, second_value, zip_parts, zip_value}
use Rattle.domain_product_laws.proofs.Kept.{parts_fit}
use Rattle.domain_product_maps.proofs.Maps.{length_mapped}
use Rattle.domain_product_states.specs.Leaves.{AreLeaves, IsLeaf}
use Rattle.domain_product_states.specs.Parts.{first_parts, second_parts}
use Rattle.domain_product_states.proofs.Mapped.{keys_stay, mapped_join, mapped_merges, mapped_update, mapped_widen}
use Rattle.domain_product_states.proofs.Maps.{absorbs_both, first_keys, rank_both, zip_again}
use Rattle.domain_product_states.proofs.Tests.{both_again, over_both, swapped}

-- ---- the fields behind the first
module _ {V W M N : Type 0} (f : V → W) (g : M → N) where
  mapped_behind : (cs : Cases V M) → mapped_parts f g (behind_first cs) ≡ behind_first (mapped_cases f g cs)
  mapped_behind no_case = refl
  mapped_behind (absent cs) = refl
  mapped_behind (present no_part no_case) = refl
  mapped_behind (present no_part (absent cs)) = refl
  mapped_behind (present no_part (present xs cs)) = refl
  mapped_behind (present (part k xs) no_case) = refl
  mapped_behind (present (part k xs) (absent cs)) = refl
  mapped_behind (present (part k xs) (present ys cs)) = refl

  pub mapped_fields : (x : Abs V M) → mapped_parts f g (fields_of x) ≡ fields_of (mapped_value f g x)
  mapped_fields (flag t) = refl
  mapped_fields (word w x) = refl
  mapped_fields (made ty cs) = mapped_behind cs
  mapped_fields (map m x) = refl

-- ---- values that stay as they are
module _ {W N : Type 0} where
  cells_same : (es : List (ℕ × AbstractCell W N)) → mapped_cells (λ x. x) (λ x. x) es ≡ es
  cells_same [] = refl
  cells_same (e ∷ es) = ap (λ l. e ∷ l) (cells_same es)

  mutual
    value_same : (x : Abs W N) → mapped_value (λ x. x) (λ x. x) x ≡ x
    value_same (flag t) = refl
    value_same (word w x) = refl
    value_same (made ty cs) = ap (λ t. made ty t) (cases_same cs)
    value_same (map m x) = ap (λ es. map m (record { width = x.width; rest = x.rest; cells = es })) (cells_same x.cells)

    cases_same : (cs : Cases W N) → mapped_cases (λ x. x) (λ x. x) cs ≡ cs
    cases_same no_case = refl
    cases_same (absent cs) = ap (λ t. absent t) (cases_same cs)
    cases_same (present xs cs) = ap₂ (λ s t. present s t) (parts_same xs) (cases_same cs)

    pub parts_same : (xs : Parts W N) → mapped_parts (λ x. x) (λ x. x) xs ≡ xs
    parts_same no_part = refl
    parts_same (part x xs) = ap₂ (λ s t. part s t) (value_same x) (parts_same xs)

  -- values of fields are words and maps
  is_leaf : (t : Field) (x : Abs W N) → IsOf t x → IsLeaf x
  is_leaf (field.Word w) (word u x) h = tt
  is_leaf (field.Map m bound w d) (map n x) h = tt
  is_leaf _ _ h = absurd h

  pub are_leaves : (fields : List Field) (xs : Parts W N) → AreOf fields xs → AreLeaves xs
  are_leaves [] no_part h = tt
  are_leaves (t ∷ fields) (part x xs) h = (is_leaf t x h.0, are_leaves fields xs h.1)
  are_leaves _ _ h = absurd h

-- ---- values of fields, and with each word and each note replaced
module _ {V W M N : Type 0} (f : V → W) (g : M → N) where
  is_on : (t : Field) (x : Abs V M) → IsOf t x → IsOf t (mapped_value f g x)
  is_on (field.Word w) (word u x) h = h
  is_on (field.Map m bound w d) (map n x) h = (h.0, h.1, subst (Each (λ k. k < bound)) (sym (keys_stay f g x.cells)) h.2)
  is_on _ _ h = absurd h

  are_on : (fields : List Field) (xs : Parts V M) → AreOf fields xs → AreOf fields (mapped_parts f g xs)
  are_on [] no_part h = tt
  are_on (t ∷ fields) (part x xs) h = (is_on t x h.0, are_on fields xs h.1)
  are_on _ _ h = absurd h

  is_back : (t : Field) (x : Abs V M) → IsOf t (mapped_value f g x) → IsOf t x
  is_back (field.Word w) (word u x) h = h
  is_back (field.Map m bound w d) (map n x) h = (h.0, h.1, subst (Each (λ k. k < bound)) (keys_stay f g x.cells) h.2)
  is_back (field.Word w) (flag t) h = absurd h
  is_back (field.Word w) (made ty cs) h = absurd h
  is_back (field.Word w) (map n x) h = absurd h
  is_back (field.Map m bound w d) (flag t) h = absurd h
  is_back (field.Map m bound w d) (word u x) h = absurd h
  is_back (field.Map m bound w d) (made ty cs) h = absurd h

  are_back : (fields : List Field) (xs : Parts V M) → AreOf fields (mapped_parts f g xs) → AreOf fields xs
  are_back [] no_part h = tt
  are_back (t ∷ fields) (part x xs) h = (is_back t x h.0, are_back fields xs h.1)
  are_back [] (part x xs) h = absurd h
  are_back (t ∷ fields) no_part h = absurd h

module _ {V W M N C D : Type 0} (A : Algebra V M C) (B : Algebra W N D) (c : C × D) where
  -- ---- what fits over the pair fits over each base
  pub parts_apart : (cap : ℕ) (fields : List Field) (z : Parts (V × W) (M × N)) → FieldsFit (paired A B) c cap fields z → FieldsFit A c.0 cap fields (first_parts z) × FieldsFit B c.1 cap fields (second_parts z)
  parts_apart cap fields z h = ((are_on (λ p. p.0) (λ p. p.0) fields z h.0, (fit z h.1).0), (are_on (λ p. p.1) (λ p. p.1) fields z h.0, (fit z h.1).1))
    where
      fit : (xs : Parts (V × W) (M × N)) → PartsFit (paired A B) c cap xs → PartsFit A c.0 cap (first_parts xs) × PartsFit B c.1 cap (second_parts xs)
      fit no_part h = (tt, tt)
      fit (part x xs) h = let here = parts_fit A B c cap x h.0 in let later = fit xs h.1 in ((here.0, later.0), (here.1, later.1))

  -- ---- and the other way round
  module _ (low high : ℕ) where
    each_both : (w : ℕ) (es : List (ℕ × AbstractCell (V × W) (M × N))) → Each (λ (e : ℕ × AbstractCell V M). CellFits A c.0 w e.1) (mapped_cells (λ p. p.0) (λ p. p.0) es) → Each (λ (e : ℕ × AbstractCell W N). CellFits B c.1 w e.1) (mapped_cells (λ p. p.1) (λ p. p.1) es)
        → Each (λ (e : ℕ × AbstractCell (V × W) (M × N)). CellFits (paired A B) c w e.1) es
    each_both w [] h g = tt
    each_both w (e ∷ es) h g = ((h.0, g.0), each_both w es h.1 g.1)

    map_both : (m : Map (V × W) (M × N)) → MapFits A c.0 low (first_map m) → MapFits B c.1 high (second_map m) → MapFits (paired A B) c (max low high) m
    map_both m h g = record {
      width = h.width;
      cells = ((h.cells.0, g.cells.0), each_both m.width m.cells h.cells.1 g.cells.1);
      order = subst (λ ks. IsAscending ks) (first_keys m) h.order;
      bound = subst (λ ks. Each (λ k. k < 2 ^ 32) ks) (first_keys m) h.bound;
      few = at_most (length m.cells) low high (subst (λ n. n ≤ low) (length_mapped (λ p. p.0) (λ p. p.0) m.cells) h.few);
    }
      where
        at_most : (n l k : ℕ) → n ≤ l → n ≤ max l k
        at_most n l k h = omega (arith, h)

    mutual
      value_both : (x : Abs (V × W) (M × N)) → Fits A c.0 low (first_value x) → Fits B c.1 high (second_value x) → Fits (paired A B) c (max low high) x
      value_both (flag t) h g = tt
      value_both (word w x) h g = (h.0, (h.1, g.1))
      value_both (made ty cs) h g = cases_both cs h g
      value_both (map m x) h g = map_both x h g

      cases_both : (cs : Cases (V × W) (M × N)) → CasesFit A c.0 low (mapped_cases (λ p. p.0) (λ p. p.0) cs) → CasesFit B c.1 high (mapped_cases (λ p. p.1) (λ p. p.1) cs) → CasesFit (paired A B) c (max low high) cs
      cases_both no_case h g = tt
      cases_both (absent cs) h g = cases_both cs h g
      cases_both (present xs cs) h g = (parts_both xs h.0 g.0, cases_both cs h.1 g.1)

      pub parts_both : (xs : Parts (V × W) (M × N)) → PartsFit A c.0 low (first_parts xs) → PartsFit B c.1 high (second_parts xs) → PartsFit (paired A B) c (max low high) xs
      parts_both no_part h g = tt
      parts_both (part x xs) h g = (value_both x h.0 g.0, parts_both xs h.1 g.1)

    pub fields_both : (fields : List Field) (z : Parts (V × W) (M × N)) → FieldsFit A c.0 low fields (first_parts z) → FieldsFit B c.1 high fields (second_parts z) → FieldsFit (paired A B) c (max low high) fields z
    fields_both fields z h g = (are_back (λ p. p.0) (λ p. p.0) fields z h.0, parts_both z h.1 g.1)

  -- ---- both parts put side by side
  module _ (cap : ℕ) where
    value_again : (t : Field) (x : Abs (V × W) (M × N)) → IsOf t x → Fits (paired A B) c cap x → zip_value A B c cap (first_value x) (second_value x) ≡ x
    value_again (field.Word w) (word u x) is fit = refl
    value_again (field.Map m bound w d) (map n x) is fit = ap (λ t. map n t) (zip_again A B c cap x fit.order fit.few)
    value_again _ _ is fit = absurd is

    pub parts_again : (fields : List Field) (z : Parts (V × W) (M × N)) → FieldsFit (paired A B) c cap fields z → zip_parts A B c cap (first_parts z) (second_parts z) ≡ z
    parts_again [] no_part h = refl
    parts_again (t ∷ fields) (part x xs) h = ap₂ (λ s t. part s t) (value_again t x h.0.0 h.1.0) (parts_again fields xs (h.0.1, h.1.1))
    parts_again _ _ h = absurd h.0

  -- ---- absorption
  mutual
    absorbs_value : (x y : Abs (V × W) (M × N)) → absorbs_of (paired A B) c x y ≡ absorbs_of A c.0 (first_value x) (first_value y) && absorbs_of B c.1 (second_value x) (second_value y)
    absorbs_value (flag t) (flag u) = both_again (absorbs_flag t u)
    absorbs_value (word w x) (word u y) = over_both (w == u) (A.words.absorbs c.0 w x.0 y.0) (B.words.absorbs c.1 w x.1 y.1)
    absorbs_value (made ty cs) (made tz ds) =
        ap (λ t. ty == tz && t) (absorbs_both_cases cs ds)
        ∙ over_both (ty == tz) (absorbs_cases A c.0 (mapped_cases (λ p. p.0) (λ p. p.0) cs) (mapped_cases (λ p. p.0) (λ p. p.0) ds)) (absorbs_cases B c.1 (mapped_cases (λ p. p.1) (λ p. p.1) cs) (mapped_cases (λ p. p.1) (λ p. p.1) ds))
    absorbs_value (map m x) (map n y) =
        ap (λ t. same_type m x n y && t) (absorbs_both A B c x y)
        ∙ over_both (same_type m x n y) _ _
    absorbs_value _ _ = refl

    absorbs_both_cases : (cs ds : Cases (V × W) (M × N)) → absorbs_cases (paired A B) c cs ds
        ≡ absorbs_cases A c.0 (mapped_cases (λ p. p.0) (λ p. p.0) cs) (mapped_cases (λ p. p.0) (λ p. p.0) ds) && absorbs_cases B c.1 (mapped_cases (λ p. p.1) (λ p. p.1) cs) (mapped_cases (λ p. p.1) (λ p. p.1) ds)
    absorbs_both_cases no_case no_case = refl
    absorbs_both_cases (absent cs) (absent ds) = absorbs_both_cases cs ds
    absorbs_both_cases (present xs cs) (absent ds) = absorbs_both_cases cs ds
    absorbs_both_cases (present xs cs) (present ys ds) =
        ap₂ (λ s t. s && t) (absorbs_both_parts xs ys) (absorbs_both_cases cs ds)
        ∙ swapped (absorbs_parts A c.0 (first_parts xs) (first_parts ys)) (absorbs_parts B c.1 (second_parts xs) (second_parts ys))
        (absorbs_cases A c.0 (mapped_cases (λ p. p.0) (λ p. p.0) cs) (mapped_cases (λ p. p.0) (λ p. p.0) ds)) (absorbs_cases B c.1 (mapped_cases (λ p. p.1) (λ p. p.1) cs) (mapped_cases (λ p. p.1) (λ p. p.1) ds))
    absorbs_both_cases _ _ = refl

    pub absorbs_both_parts : (xs ys : Parts (V × W) (M × N)) → absorbs_parts (paired A B) c xs ys ≡ absorbs_parts A c.0 (first_parts xs) (first_parts ys) && absorbs_parts B c.1 (second_parts xs) (second_parts ys)
    absorbs_both_parts no_part no_part = refl
    absorbs_both_parts (part x xs) (part y ys) =
        ap₂ (λ s t. s && t) (absorbs_value x y) (absorbs_both_parts xs ys)
        ∙ swapped (absorbs_of A c.0 (first_value x) (first_value y)) (absorbs_of B c.1 (second_value x) (second_value y)) (absorbs_parts A c.0 (first_parts xs) (first_parts ys)) (absorbs_parts B c.1 (second_parts xs) (second_parts ys))
    absorbs_both_parts no_part (part y ys) = refl
    absorbs_both_parts (part x xs) no_part = refl

  -- ---- ranks
  value_rank : (x : Abs (V × W) (M × N)) → IsLeaf (first_value x) → leaf_rank (paired A B) c x ≡ leaf_rank A c.0 (first_value x) + leaf_rank B c.1 (second_value x)
  value_rank (word w x) h = refl
  value_rank (map m x) h = rank_both A B c x
  value_rank (flag t) h = absurd h
  value_rank (made ty cs) h = absurd h

  pub values_rank_both : (xs : Parts (V × W) (M × N)) → AreLeaves (first_parts xs) → values_rank (paired A B) c xs ≡ values_rank A c.0 (first_parts xs) + values_rank B c.1 (second_parts xs)
  values_rank_both no_part h = refl
  values_rank_both (part x xs) h =
      turned (leaf_rank (paired A B) c x) (leaf_rank A c.0 (first_value x)) (leaf_rank B c.1 (second_value x)) (values_rank (paired A B) c xs) (values_rank A c.0 (first_parts xs)) (values_rank B c.1 (second_parts xs))
      (value_rank x h.0) (values_rank_both xs h.1)
    where
      turned : (p a b q s t : ℕ) → p ≡ a + b → q ≡ s + t → p + q ≡ (a + s) + (b + t)
      turned p a b q s t h g = omega (arith, h, g)

-- ---- joins and widenings
module _ {V W M N C D : Type 0} (A : Algebra V M C) (B : Algebra W N D) (c : C × D) (cap : ℕ) where
  pub first_joined : A.joins && B.joins ≡ A.joins → (xs ys : Parts (V × W) (M × N)) → first_parts (join_parts (paired A B) c cap xs ys) ≡ join_parts A c.0 cap (first_parts xs) (first_parts ys)
  first_joined joins = mapped_merges (λ p. p.0) (λ p. p.0) ((paired A B).words.join c) (A.words.join c.0) (join_map (paired A B) c cap) (join_map A c.0 cap) (λ w x y. refl)
      (mapped_join (paired A B) A c c.0 (λ p. p.0) (λ p. p.0) (λ w x y. refl) (λ w x y. refl) joins cap)

  pub second_joined : A.joins && B.joins ≡ B.joins → (xs ys : Parts (V × W) (M × N)) → second_parts (join_parts (paired A B) c cap xs ys) ≡ join_parts B c.1 cap (second_parts xs) (second_parts ys)
  second_joined joins = mapped_merges (λ p. p.1) (λ p. p.1) ((paired A B).words.join c) (B.words.join c.1) (join_map (paired A B) c cap) (join_map B c.1 cap) (λ w x y. refl)
      (mapped_join (paired A B) B c c.1 (λ p. p.1) (λ p. p.1) (λ w x y. refl) (λ w x y. refl) joins cap)

module _ {V W M N C D : Type 0} (A : Algebra V M C) (B : Algebra W N D) (c : C × D) where
  pub first_widened : (xs ys : Parts (V × W) (M × N)) → first_parts (widen_parts (paired A B) c xs ys) ≡ widen_parts A c.0 (first_parts xs) (first_parts ys)
  first_widened = mapped_merges (λ p. p.0) (λ p. p.0) ((paired A B).words.widen c) (A.words.widen c.0) (widen_map (paired A B) c) (widen_map A c.0) (λ w x y. refl)
      (mapped_widen (paired A B) A c c.0 (λ p. p.0) (λ p. p.0) (λ w x y. refl) (λ w x y. refl))

  pub second_widened : (xs ys : Parts (V × W) (M × N)) → second_parts (widen_parts (paired A B) c xs ys) ≡ widen_parts B c.1 (second_parts xs) (second_parts ys)
  second_widened = mapped_merges (λ p. p.1) (λ p. p.1) ((paired A B).words.widen c) (B.words.widen c.1) (widen_map (paired A B) c) (widen_map B c.1) (λ w x y. refl)
      (mapped_widen (paired A B) B c c.1 (λ p. p.1) (λ p. p.1) (λ w x y. refl) (λ w x y. refl))

-- ---- the element of an entry
module _ {V W M N C D : Type 0} (P : Algebra V M C) (Q : Algebra W N D) (c : C) (d : D) (f : V → W) (g : M → N)
    (updates : (cap : ℕ) (m : Map V M) (k : ℕ) (x : AbstractCell V M) → mapped_map f g (update_of P c cap m (one k) x) ≡ update_of Q d cap (mapped_map f g m) (one k) (mapped_cell f g x))
    (gives : (w : ℕ) (x : GivenNumber) → mapped_cell f g (given_cell P c w x) ≡ given_cell Q d w x) (cap : ℕ) where
  cell_given : (key : KeyAt) (x : GivenNumber) (m : Map V M) → mapped_map f g (with_cell P c cap key x m) ≡ with_cell Q d cap key x (mapped_map f g m)
  cell_given (At k) x m = updates cap m k (given_cell P c m.width x) ∙ ap (λ t. update_of Q d cap (mapped_map f g m) (one k) t) (gives m.width x)
  cell_given Whole x m = refl
  cell_given Rest x m = refl

  cells_given : (n : ℕ) (lines : List Line) (m : Map V M) → mapped_map f g (with_cells P c cap n lines m) ≡ with_cells Q d cap n lines (mapped_map f g m)
  cells_given n [] m = refl
  cells_given n (l ∷ lines) m = by_field (l.field == n) (cells_given n lines m)
    where
      by_field : (b : Bool) → mapped_map f g (with_cells P c cap n lines m) ≡ with_cells Q d cap n lines (mapped_map f g m)
          → mapped_map f g (cond b (with_cell P c cap l.key l.given (with_cells P c cap n lines m)) (with_cells P c cap n lines m)) ≡ cond b (with_cell Q d cap l.key l.given (with_cells Q d cap n lines (mapped_map f g m))) (with_cells Q d cap n lines (mapped_map f g m))
      by_field true h = cell_given l.key l.given (with_cells P c cap n lines m) ∙ ap (λ t. with_cell Q d cap l.key l.given t) h
      by_field false h = h

  module _ (lines : List Line) where
    value_given : (n : ℕ) (t : Field) → mapped_value f g (entry_value P c cap lines n t) ≡ entry_value Q d cap lines n t
    value_given n (field.Word w) = ap (λ x. word w x.word) (gives w (given_word lines n))
    value_given n (field.Map m bound w default) =
        ap (λ t. map m t) (cells_given n lines (map_of P c w (given_rest lines n default))
        ∙ ap (λ x. with_cells Q d cap n lines (record { width = w; rest = x; cells = [] })) (gives w (given_rest lines n default)))

    pub values_given : (n : ℕ) (fields : List Field) → mapped_parts f g (entry_values P c cap lines n fields) ≡ entry_values Q d cap lines n fields
    values_given n [] = refl
    values_given n (t ∷ fields) = ap₂ (λ x xs. part x xs) (value_given n t) (values_given (suc n) fields)

module _ {V W M N C D : Type 0} (A : Algebra V M C) (B : Algebra W N D) (c : C × D) (cap : ℕ) (lines : List Line) where
  first_given : (w : ℕ) (x : GivenNumber) → mapped_cell (λ p. p.0) (λ p. p.0) (given_cell (paired A B) c w x) ≡ given_cell A c.0 w x
  first_given w (One v) = refl
  first_given w Any = refl
  first_given w (Range lo hi) = refl

  second_given : (w : ℕ) (x : GivenNumber) → mapped_cell (λ p. p.1) (λ p. p.1) (given_cell (paired A B) c w x) ≡ given_cell B c.1 w x
  second_given w (One v) = refl
  second_given w Any = refl
  second_given w (Range lo hi) = refl

  pub first_entry : A.joins && B.joins ≡ A.joins → (n : ℕ) (fields : List Field) → first_parts (entry_values (paired A B) c cap lines n fields) ≡ entry_values A c.0 cap lines n fields
  first_entry joins n fields = values_given (paired A B) A c c.0 (λ p. p.0) (λ p. p.0) (mapped_update (paired A B) A c c.0 (λ p. p.0) (λ p. p.0) (λ w x y. refl) (λ w x y. refl) joins) first_given cap lines n fields

  pub second_entry : A.joins && B.joins ≡ B.joins → (n : ℕ) (fields : List Field) → second_parts (entry_values (paired A B) c cap lines n fields) ≡ entry_values B c.1 cap lines n fields
  second_entry joins n fields = values_given (paired A B) B c c.1 (λ p. p.1) (λ p. p.1) (mapped_update (paired A B) B c c.1 (λ p. p.1) (λ p. p.1) (λ w x y. refl) (λ w x y. refl) joins) second_given cap lines n fields
