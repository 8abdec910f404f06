-- Pieces of the values of fields, by the place that is cut.
use Rattle.std.proofs.Common.{◌≡◌, ◌∙◌, ℕ, zero, suc, ◌+◌, ◌<◌, ◌≤◌, List, [], ◌∷◌, ◌++◌, length, get_or, take, drop, map, Option, None, Some, IfOk, ◌⊎◌, inl, inr, ap, refl, sym, subst, arith}
use Rattle.std.specs.Prelude.{Result, Ok, Err, option_map}
use Rattle.std.proofs.Math.Seq.{take-suc}
use Rattle.std.proofs.lemmas.List.{append_assoc, drop-map, get_or_default, map-append, take-map}
use Rattle.base_trait.specs.Algebra.{Algebra}
use Rattle.semantics_values.specs.declared.entry.KeyAt.{KeyAt}
use Rattle.abstract_value_laws.specs.Abs.{Abs, Parts, part, parts}
use Rattle.abstract_value_laws.specs.Fits.{Fits, PartsFit}
use Rattle.domain_laws.specs.declared.field.Field.{Field}
use Rattle.base_cuts.specs.Cuts.{Cuts}
use Rattle.domain_cell_pieces.specs.Pieces.{value_piece, values_piece}
use Rattle.domain_cuts.specs.Places.{around, with_value}

-- one value more of those that were added
pub added_more : {X A : Type 0} (view : X → A) (start : List A) (out out' : List X) (y : X) (xs : List X) (i : ℕ) (x : X) → i < length xs → x ≡ get_or xs i x → map view out ≡ start ++ map view (take i xs) → out' ≡ out ++ y ∷ [] → view y ≡ view x
    → map view out' ≡ start ++ map view (take (i + 1) xs)
added_more view start out out' y xs i x h e before pushed same =
    let next : suc i ≡ i + 1 = omega arith in
    ap (map view) pushed ∙ map-append view out (y ∷ []) ∙ ap (λ l. l ++ view y ∷ []) before ∙ ap (λ z. (start ++ map view (take i xs)) ++ z ∷ []) same
    ∙ append_assoc start (map view (take i xs)) (view x ∷ []) ∙ ap (λ l. start ++ l) (sym (map-append view (take i xs) (x ∷ [])))
    ∙ ap (λ z. start ++ map view (take i xs ++ z ∷ [])) e ∙ ap (λ l. start ++ map view l) (sym (take-suc xs i x h)) ∙ ap (λ n. start ++ map view (take n xs)) next

-- the values around a place, as they are seen
pub around_seen : {X W N : Type 0} (view : X → Abs W N) (xs : List X) (n : ℕ) (x : X) (first second third : List X) → map view first ≡ map view (take n xs) → second ≡ first ++ x ∷ [] → map view third ≡ map view second ++ map view (drop (n + 1) xs)
    → map view third ≡ around (map view xs) n (view x)
around_seen view xs n x first second third a b e =
    let next : n + 1 ≡ suc n = omega arith in
    e ∙ ap (λ l. map view l ++ map view (drop (n + 1) xs)) b ∙ ap (λ l. l ++ map view (drop (n + 1) xs)) (map-append view first (x ∷ []) ∙ ap (λ l. l ++ view x ∷ []) (a ∙ sym (take-map view n xs)))
    ∙ append_assoc (take n (map view xs)) (view x ∷ []) (map view (drop (n + 1) xs)) ∙ ap (λ k. take n (map view xs) ++ view x ∷ map view (drop k xs)) next
    ∙ ap (λ l. take n (map view xs) ++ view x ∷ l) (sym (drop-map view (suc n) xs))

module _ {W N C : Type 0} (B : Algebra W N C) (K : Cuts W C) (c : C) (cap : ℕ) (key : KeyAt) (low high : ℕ) where
  value_at : (fields : List Field) (n : ℕ) (xs : List (Abs W N)) (f : Field) (x : Abs W N) → n < length fields → n < length xs → f ≡ get_or fields n f → x ≡ get_or xs n x
      → option_map (with_value xs n) (value_piece B K c cap f key low high x) ≡ values_piece B K c cap fields n key low high (parts xs)
  value_at [] n xs f x hf hx ef ex = absurd (omega (arith, hf))
  value_at (g ∷ fields) n [] f x hf hx ef ex = absurd (omega (arith, hx))
  value_at (g ∷ fields) zero (y ∷ ys) f x hf hx ef ex =
      ap (λ h. option_map (with_value (y ∷ ys) zero) (value_piece B K c cap h key low high x)) ef ∙ ap (λ h. option_map (with_value (y ∷ ys) zero) (value_piece B K c cap g key low high h)) ex
  value_at (g ∷ fields) (suc n) (y ∷ ys) f x hf hx ef ex =
      behind (value_piece B K c cap f key low high x) ∙ ap (option_map (part y)) (value_at fields n ys f x (omega (arith, hf)) (omega (arith, hx)) ef ex)
    where
      behind : (o : Option (Abs W N)) → option_map (with_value (y ∷ ys) (suc n)) o ≡ option_map (part y) (option_map (with_value ys n) o)
      behind None = refl
      behind (Some z) = refl

  pub not_there : (fields : List Field) (n : ℕ) (xs : List (Abs W N)) → (length fields ≤ n) ⊎ (length xs ≤ n) → Some (parts xs) ≡ values_piece B K c cap fields n key low high (parts xs)
  not_there [] n xs h = refl
  not_there (g ∷ fields) zero [] h = refl
  not_there (g ∷ fields) (suc n) [] h = refl
  not_there (g ∷ fields) zero (y ∷ ys) (inl h) = absurd (omega (arith, h))
  not_there (g ∷ fields) zero (y ∷ ys) (inr h) = absurd (omega (arith, h))
  not_there (g ∷ fields) (suc n) (y ∷ ys) (inl h) = ap (option_map (part y)) (not_there fields n ys (inl (omega (arith, h))))
  not_there (g ∷ fields) (suc n) (y ∷ ys) (inr h) = ap (option_map (part y)) (not_there fields n ys (inr (omega (arith, h))))

  pub if_there : {X F : Type 0} (view : X → Parts W N) (result : Result (Option X) F) (fields : List Field) (n : ℕ) (xs : List (Abs W N)) (d : Field) (x : Abs W N) (piece : Option (Abs W N)) → n < length fields → n < length xs → x ≡ get_or xs n x
      → IfOk result (λ r. option_map view r ≡ option_map (with_value xs n) piece) → piece ≡ value_piece B K c cap (get_or fields n d) key low high x
      → IfOk result (λ r. option_map view r ≡ values_piece B K c cap fields n key low high (parts xs))
  if_there view (Ok r) fields n xs d x piece hf hx ex h e =
      let f = get_or fields n d in
      h ∙ ap (option_map (with_value xs n)) e ∙ value_at fields n xs f x hf hx (get_or_default fields n d f hf) ex
  if_there view (Err error) fields n xs d x piece hf hx ex h e = tt

  pub if_whole : {X F : Type 0} (view : X → Parts W N) (result : Result (Option X) F) (o : Option (Parts W N)) (xs : Parts W N) → IfOk result (λ r. option_map view r ≡ Some xs) → Some xs ≡ o → IfOk result (λ r. option_map view r ≡ o)
  if_whole view (Ok r) o xs h e = h ∙ e
  if_whole view (Err error) o xs h e = tt

-- the value at a place fits
pub value_fits : {X W N C : Type 0} (B : Algebra W N C) (c : C) (cap : ℕ) (view : X → Abs W N) (xs : List X) (i : ℕ) (x : X) → i < length xs → x ≡ get_or xs i x → PartsFit B c cap (parts (map view xs)) → Fits B c cap (view x)
value_fits B c cap view [] i x h e fits = absurd (omega (arith, h))
value_fits B c cap view (y ∷ ys) zero x h e fits = subst (λ z. Fits B c cap (view z)) (sym e) fits.0
value_fits B c cap view (y ∷ ys) (suc i) x h e fits = value_fits B c cap view ys i x (omega (arith, h)) e fits.1

-- the value at a place, as it is seen
pub seen_at : {X A : Type 0} (view : X → A) (xs : List X) (i : ℕ) (x : X) → i < length xs → x ≡ get_or xs i x → view x ≡ get_or (map view xs) i (view x)
seen_at view [] i x h e = absurd (omega (arith, h))
seen_at view (y ∷ ys) zero x h e = ap view e
seen_at view (y ∷ ys) (suc i) x h e = seen_at view ys i x (omega (arith, h)) e
