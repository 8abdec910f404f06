-- Joins and widenings of values of fields are values of these fields.
use Rattle.std.proofs.Common.{ℕ, List, [], ◌∷◌}
use Rattle.std.specs.Prelude.{◌<◌, ◌==◌}
use Rattle.base_trait.specs.Algebra.{Algebra}
use Rattle.base_trait.proofs.Tests.{at_choice}
use Rattle.abstract_map_laws.specs.Calls.{join_of as join_map, widen_of as widen_map}
use Rattle.abstract_value_laws.specs.Abs.{Abs, Parts, flag, word, made, map, no_part, part}
use Rattle.abstract_value_laws.specs.Calls.{join_of, join_parts, same_type, widen_of, widen_parts}
use Rattle.abstract_value_laws.specs.Shapes.{HasShape, PartsHave}
use Rattle.domain_laws.specs.declared.field.Field.{Field}
use Rattle.domain_laws.specs.declared.field.Field.TheVariants as field
use Rattle.domain_laws.specs.Values.{AreOf, IsOf}
use Rattle.domain_laws.specs.Cells.{shape_of, shapes_of}
use Rattle.domain_laws.proofs.Keys.{join_keys, widen_keys}

module _ {W N : Type 0} where
  has_shape : (f : Field) (x : Abs W N) → IsOf f x → HasShape (shape_of f) x
  has_shape (field.Word w) (word u x) h = h
  has_shape (field.Map m bound w d) (map n x) h = (h.0, h.1)
  has_shape _ _ h = absurd h

  pub have_shapes : (fields : List Field) (xs : Parts W N) → AreOf fields xs → PartsHave (shapes_of fields) xs
  have_shapes [] no_part h = tt
  have_shapes (f ∷ fields) (part x xs) h = (has_shape f x h.0, have_shapes fields xs h.1)
  have_shapes _ _ h = absurd h

module _ {W N C : Type 0} (B : Algebra W N C) (c : C) where
  module _ (cap : ℕ) where
    join_is : (f : Field) (x y : Abs W N) → IsOf f x → IsOf f y → IsOf f (join_of B c cap x y)
    join_is (field.Word w) (word u x) (word k y) h g = at_choice (IsOf (field.Word w)) (u == k) (word u (B.words.join c u x y)) (word u x) (λ e. h) (λ e. h)
    join_is (field.Map m bound w d) (map n x) (map k y) h g =
        at_choice (IsOf (field.Map m bound w d)) (same_type n x k y) (map n (join_map B c cap x y)) (map n x)
        (λ e. (h.0, h.1, join_keys B c cap (λ i. i < bound) x y h.2 g.2)) (λ e. h)
    join_is (field.Word w) (word u x) (flag t) h g = absurd g
    join_is (field.Word w) (word u x) (made ty cs) h g = absurd g
    join_is (field.Word w) (word u x) (map m y) h g = absurd g
    join_is (field.Map m bound w d) (map n x) (flag t) h g = absurd g
    join_is (field.Map m bound w d) (map n x) (word u y) h g = absurd g
    join_is (field.Map m bound w d) (map n x) (made ty cs) h g = absurd g
    join_is _ _ _ h g = absurd h

    pub join_are : (fields : List Field) (xs ys : Parts W N) → AreOf fields xs → AreOf fields ys → AreOf fields (join_parts B c cap xs ys)
    join_are [] no_part no_part h g = tt
    join_are (f ∷ fields) (part x xs) (part y ys) h g = (join_is f x y h.0 g.0, join_are fields xs ys h.1 g.1)
    join_are [] no_part (part y ys) h g = absurd g
    join_are (f ∷ fields) (part x xs) no_part h g = absurd g
    join_are _ _ _ h g = absurd h

  widen_is : (f : Field) (x y : Abs W N) → IsOf f x → IsOf f y → IsOf f (widen_of B c x y)
  widen_is (field.Word w) (word u x) (word k y) h g = at_choice (IsOf (field.Word w)) (u == k) (word u (B.words.widen c u x y)) (word u x) (λ e. h) (λ e. h)
  widen_is (field.Map m bound w d) (map n x) (map k y) h g =
      at_choice (IsOf (field.Map m bound w d)) (same_type n x k y) (map n (widen_map B c x y)) (map n x)
      (λ e. (h.0, h.1, widen_keys B c 0 (λ i. i < bound) x y h.2)) (λ e. h)
  widen_is (field.Word w) (word u x) (flag t) h g = absurd g
  widen_is (field.Word w) (word u x) (made ty cs) h g = absurd g
  widen_is (field.Word w) (word u x) (map m y) h g = absurd g
  widen_is (field.Map m bound w d) (map n x) (flag t) h g = absurd g
  widen_is (field.Map m bound w d) (map n x) (word u y) h g = absurd g
  widen_is (field.Map m bound w d) (map n x) (made ty cs) h g = absurd g
  widen_is _ _ _ h g = absurd h

  pub widen_are : (fields : List Field) (xs ys : Parts W N) → AreOf fields xs → AreOf fields ys → AreOf fields (widen_parts B c xs ys)
  widen_are [] no_part no_part h g = tt
  widen_are (f ∷ fields) (part x xs) (part y ys) h g = (widen_is f x y h.0 g.0, widen_are fields xs ys h.1 g.1)
  widen_are [] no_part (part y ys) h g = absurd g
  widen_are (f ∷ fields) (part x xs) no_part h g = absurd g
  widen_are _ _ _ h g = absurd h
