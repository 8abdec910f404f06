-- Sets that grow by greater numbers.
use Rattle.std.proofs.Common.{◌≡◌, ◌<◌, ◌≤◌, ℕ, false, List, [], ◌∷◌, ◌++◌, length, Option, Some, None, option_map, refl, sym, ap, ◌∙◌, inl, inr, arith}
use Rattle.std.specs.Prelude.{nat_lt, nat_le, ◌==◌}
use Rattle.std.specs.Option.{option_and_then}
use Rattle.std.proofs.lemmas.Bool.{cases_Bool, le-leb, leb-false, lt-leb, le-ltb, ne_eqb}
use Rattle.std.proofs.lemmas.List.{append_assoc, length-append}
use Rattle.base_trait.specs.Lists.{Each}
use Rattle.base_kset.specs.Sets.{bounded, items_or_none, placed, union}
use Rattle.base_kset.specs.Meaning.{Fits}
use Rattle.text_words.specs.Pieces.{next_item, pieces, pieces_left}
use Rattle.text_words.specs.Reading.{number_in}
use Rattle.text_words.proofs.Loops.{to_come}

-- a number that is greater than all stands last
placed_last : (x : ℕ) (s : List ℕ) → Each (λ n. n < x) s → placed x s ≡ s ++ x ∷ []
placed_last x [] h = refl
placed_last x (y ∷ s) h =
    let less : y < x = h.0 in
    let apart : (x == y) ≡ false = ne_eqb x y (λ e. omega (arith, less, e)) in
    rw (le-ltb x y (omega (arith, less)), apart, placed_last x s h.1) refl

module _ (K : ℕ) where
  -- what is kept of a set with the numbers to come
  abbrev pub kept : Option (List ℕ) → Option (List ℕ) → Option (List ℕ)
  kept set rest = option_and_then (λ s. option_and_then (bounded K) (option_map (λ xs. s ++ xs) rest)) set

  few : (s : List ℕ) → length s ≤ K → bounded K s ≡ Some s
  few s h = rw (le-leb (length s) K h) refl

  -- the set with a greater number
  abbrev pub grown : ℕ → Option (List ℕ) → Option (List ℕ)
  grown x set = option_and_then (λ s. bounded K (s ++ x ∷ [])) set

  pub union_grown : (w x : ℕ) (set : Option (List ℕ)) → Fits K w set → Each (λ n. n < x) (items_or_none set) → union K set (bounded K (x ∷ [])) ≡ grown x set
  union_grown w x None fits h = refl
  union_grown w x (Some s) fits h =
      let room : 1 ≤ K = (let a = fits.some in let b = fits.few in omega (arith, a, b)) in
      rw (few (x ∷ []) room, placed_last x s h) refl

  each_more : (x : ℕ) (s : List ℕ) → Each (λ n. n < x) s → Each (λ n. n ≤ x) (s ++ x ∷ [])
  each_more x [] h = (omega arith, tt)
  each_more x (y ∷ s) h = (let less : y < x = h.0 in omega (arith, less), each_more x s h.1)

  pub grown_greatest : (x : ℕ) (set : Option (List ℕ)) → Each (λ n. n < x) (items_or_none set) → Each (λ n. n ≤ x) (items_or_none (grown x set))
  grown_greatest x None h = tt
  grown_greatest x (Some s) h = elim (cases_Bool (nat_le (length (s ++ x ∷ [])) K)) [
    | inl e ↦ rw e (each_more x s h)
    | inr e ↦ rw e tt
  ]

  -- what is at most a number is less than a greater one
  pub each_less : (last x : ℕ) (s : List ℕ) → last < x → Each (λ n. n ≤ last) s → Each (λ n. n < x) s
  each_less last x [] less h = tt
  each_less last x (y ∷ s) less h = (let most : y ≤ last = h.0 in omega (arith, less, most), each_less last x s less h.1)

  kept_none : (set : Option (List ℕ)) → kept set None ≡ None
  kept_none None = refl
  kept_none (Some s) = refl

  many : (s : List ℕ) → K < length s → bounded K s ≡ None
  many s h = rw (lt-leb (length s) K h) refl

  kept_more : (x : ℕ) (set rest : Option (List ℕ)) → kept set (option_map (λ xs. x ∷ xs) rest) ≡ kept (grown x set) rest
  kept_more x None rest = refl
  kept_more x (Some s) None = sym (kept_none (grown x (Some s)))
  kept_more x (Some s) (Some xs) = elim (cases_Bool (nat_le (length (s ++ x ∷ [])) K)) [
    | inl e ↦ rw e (ap (bounded K) (sym (append_assoc s (x ∷ []) xs)))
    | inr e ↦
        let more = leb-false (length (s ++ x ∷ [])) K e in
        rw e (many (s ++ x ∷ xs) (omega (arith, more, length-append s (x ∷ []), length-append s (x ∷ xs))))
  ]

  -- one more number that is read
  pub set_more : (whole : Option (List ℕ)) (w last x : ℕ) (set : Option (List ℕ)) (left piece : List ℕ) (others : Option (List ℕ))
      → pieces 44 left ≡ piece ∷ pieces_left 44 others → next_item nat_lt (Some last) (number_in w piece) ≡ Some x
      → whole ≡ kept set (to_come nat_lt (number_in w) 44 (Some last) (Some left)) → whole ≡ kept (grown x set) (to_come nat_lt (number_in w) 44 (Some x) others)
  set_more whole w last x set left piece others cut next e = rw (cut, next) at e ∙ kept_more x set (to_come nat_lt (number_in w) 44 (Some x) others)
