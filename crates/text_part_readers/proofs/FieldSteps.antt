-- Fields, one further.
use Rattle.std.proofs.Common.{◌≡◌, ℕ, ◌+◌, ◌<◌, ◌≤◌, Bool, List, [], ◌∷◌, ◌++◌, length, drop, map, Option, Some, None, option_map, get_or, Result, Ok, Err, refl, sym, ap, ◌∙◌, arith}
use Rattle.std.proofs.Math.ListN.{drop_of_length-le}
use Rattle.std.specs.Prelude.{IfOk, IsOkAnd}
use Rattle.std.proofs.lemmas.List.{drop_more, map-append}
use Rattle.std.proofs.lemmas.Option.{none-some, same_Some}
use Rattle.spec_ir.specs.Specification.{Spec}
use Rattle.abstract_value_laws.specs.Abs.{Abs, Parts, no_part, part, parts, parts_onto}
use Rattle.state_cell_text.specs.Places.{Field}
use Rattle.text_words.specs.Readings.{Readings}
use Rattle.text_lines.specs.Lines.{Lines}
use Rattle.text_lines.specs.Outcomes.{Reading, then_read}
use Rattle.text_part_readers.specs.Cells.{fields_read, value_read}

module _ {W N : Type 0} where
  -- what is read, behind values that were
  abbrev pub behind_values : List (Abs W N) → Reading (Parts W N) → Reading (Parts W N)
  behind_values values r = (option_map (parts_onto values) r.0, r.1)

  onto_more : (values : List (Abs W N)) (x : Abs W N) (xs : Parts W N) → parts_onto (values ++ x ∷ []) xs ≡ parts_onto values (part x xs)
  onto_more [] x xs = refl
  onto_more (v ∷ values) x xs = ap (λ ys. part v ys) (onto_more values x xs)

  module _ (readings : Readings W N) (code : ℕ → Bool) (spec : Spec) (cap : ℕ) where
    one_more : (values : List (Abs W N)) (x : Abs W N) (r : Reading (Parts W N)) → behind_values values (then_read r (λ xs left. (Some (part x xs), left))) ≡ behind_values (values ++ x ∷ []) r
    one_more values x (None, ls) = refl
    one_more values x (Some xs, ls) = ap (λ (ys : Parts W N). (Some ys, ls)) (sym (onto_more values x xs))

    -- a field was read
    pub field_read : (values : List (Abs W N)) (f : Field) (fields : List Field) (ls others : Lines) (x : Abs W N) → (Some x, others) ≡ value_read readings code spec cap f.0 f.1 ls
        → behind_values values (fields_read readings code spec cap (f ∷ fields) ls) ≡ behind_values (values ++ x ∷ []) (fields_read readings code spec cap fields others)
    field_read values f fields ls others x is = rw (← is) (one_more values x (fields_read readings code spec cap fields others))

    -- a field was not
    pub field_faulty : (values : List (Abs W N)) (f : Field) (fields : List Field) (ls others : Lines) → (None, others) ≡ value_read readings code spec cap f.0 f.1 ls
        → behind_values values (fields_read readings code spec cap (f ∷ fields) ls) ≡ (None, others)
    field_faulty values f fields ls others is = rw (← is) refl

    same_first : (fields : List Field) (i : ℕ) (f : Field) → i < length fields → f ≡ get_or fields i f → drop i fields ≡ f ∷ drop (i + 1) fields
    same_first fields i f within is = drop_more fields i f within ∙ ap (λ g. g ∷ drop (i + 1) fields) (sym is)

    module _ {A E : Type 0} (view : A → Abs W N) (fields : List Field) (i : ℕ) (f : Field) (values : List A) (next : Result (Option A) E) (ls others : Lines) (whole : Reading (Parts W N))
        (within : i < length fields) (is : f ≡ get_or fields i f) (read : IfOk next (λ r. (option_map view r, others) ≡ value_read readings code spec cap f.0 f.1 ls))
        (so_far : whole ≡ behind_values (map view values) (fields_read readings code spec cap (drop i fields) ls)) where
      first : whole ≡ behind_values (map view values) (fields_read readings code spec cap (f ∷ drop (i + 1) fields) ls)
      first = so_far ∙ ap (λ gs. behind_values (map view values) (fields_read readings code spec cap gs ls)) (same_first fields i f within is)

      -- one field more was read
      pub fields_more : (longer : List A) → IsOkAnd next (λ n. Some longer ≡ option_map (λ x. values ++ x ∷ []) n) → whole ≡ behind_values (map view longer) (fields_read readings code spec cap (drop (i + 1) fields) others)
      fields_more longer grown = more next read grown
        where
          more : (r : Result (Option A) E) → IfOk r (λ n. (option_map view n, others) ≡ value_read readings code spec cap f.0 f.1 ls) → IsOkAnd r (λ n. Some longer ≡ option_map (λ x. values ++ x ∷ []) n)
              → whole ≡ behind_values (map view longer) (fields_read readings code spec cap (drop (i + 1) fields) others)
          more (Err e) so is_longer = absurd is_longer
          more (Ok None) so is_longer = absurd (none-some longer (sym is_longer))
          more (Ok (Some x)) so is_longer =
              let same : longer ≡ values ++ x ∷ [] = same_Some longer (values ++ x ∷ []) is_longer in
              let seen : map view longer ≡ map view values ++ view x ∷ [] = ap (map view) same ∙ map-append view values (x ∷ []) in
              rw seen (first ∙ field_read (map view values) f (drop (i + 1) fields) ls others (view x) so)

      -- and one was not
      pub fields_stop : IsOkAnd next (λ n. None ≡ option_map (λ x. values ++ x ∷ []) n) → (None, others) ≡ whole
      fields_stop grown = stop next read grown
        where
          stop : (r : Result (Option A) E) → IfOk r (λ n. (option_map view n, others) ≡ value_read readings code spec cap f.0 f.1 ls) → IsOkAnd r (λ n. None ≡ option_map (λ x. values ++ x ∷ []) n) → (None, others) ≡ whole
          stop (Err e) so is_none = absurd is_none
          stop (Ok (Some x)) so is_none = absurd (none-some (values ++ x ∷ []) is_none)
          stop (Ok None) so is_none = sym (first ∙ field_faulty (map view values) f (drop (i + 1) fields) ls others so)

    -- all were
    pub fields_done : {A : Type 0} (view : A → Abs W N) (fields : List Field) (i : ℕ) (values : List A) (ls : Lines) (whole : Reading (Parts W N)) → length fields ≤ i
        → whole ≡ behind_values (map view values) (fields_read readings code spec cap (drop i fields) ls) → (Some (parts (map view values)), ls) ≡ whole
    fields_done view fields i values ls whole end so_far = let none = drop_of_length-le fields end in let h = rw none at so_far in sym h

    behind_nothing : (r : Reading (Parts W N)) → r ≡ behind_values [] r
    behind_nothing (None, ls) = refl
    behind_nothing (Some xs, ls) = refl

    pub fields_begin : {A : Type 0} (view : A → Abs W N) (fields : List Field) (values : List A) (ls : Lines) → values ≡ []
        → fields_read readings code spec cap fields ls ≡ behind_values (map view values) (fields_read readings code spec cap (drop 0 fields) ls)
    fields_begin view fields values ls none = rw none (behind_nothing (fields_read readings code spec cap fields ls))
