-- Endings in a list, with the place of each address.
use Rattle.std.proofs.Common.{Bor, ◌≡◌, ◌∙◌, ℕ, zero, suc, ◌<◌, ◌==◌, Bool, true, cond, List, [], ◌∷◌, ◌++◌, Option, None, Some, arith, nat_cmp, length, length-append, ap, refl, sym, subst}
use Rattle.std.specs.Prelude.{IfSome, IsSome, option_copied, slice_get}
use Rattle.std.specs.Slice.{IsItemAt}
use Rattle.std.specs.Ordering.{is_eq, is_gt}
use Rattle.std.specs.BTreeMap.{BTreeMap, IsLowerBound, get, insert_entry, is_at}
use Rattle.std.specs.Map.{lookup}
use Rattle.std.proofs.lemmas.Bool.{false≢true}
use Rattle.std.proofs.lemmas.Bool.Decides.{nat_tests}
use Rattle.std.proofs.lemmas.Map.Views.{All-values-insert_entry, IfSome-lookup_from_All}
use Rattle.std.proofs.lemmas.Option.{slice_get_past, slice_get_read}
use Rattle.fixpoint_theory.proofs.Growth.{by_bool}
use Rattle.fixpoint_open_tables.specs.declared.ending.Ending.{Ending}
use Rattle.fixpoint_open_tables.specs.Endings.{ends_in}
use Rattle.fixpoint_open_tables.specs.Gathering.{IsPut}
use Rattle.fixpoint_open_tables.specs.Places.{AreInside, in_front, placed}

-- the test of keys is that of numbers
same_key : (k q : ℕ) → is_eq (nat_cmp k q) ≡ (k == q)
same_key k q = grind (arith, nat_tests)

module _ {X : Type 0} where
  -- ---- lists
  last_at : (xs : List X) (x : X) → slice_get (xs ++ x ∷ []) (length xs) ≡ Some x
  last_at [] x = refl
  last_at (y ∷ xs) x = last_at xs x

  still_at : (xs ys : List X) (i : ℕ) → i < length xs → slice_get (xs ++ ys) i ≡ slice_get xs i
  still_at [] ys i lt = absurd (omega (arith, lt))
  still_at (x ∷ xs) ys zero lt = refl
  still_at (x ∷ xs) ys (suc i) lt = still_at xs ys i (omega (arith, lt))

  some_at : (xs : List X) (i : ℕ) → i < length xs → (x : X) × (slice_get xs i ≡ Some x)
  some_at [] i lt = absurd (omega (arith, lt))
  some_at (x ∷ xs) zero lt = (x, refl)
  some_at (x ∷ xs) (suc i) lt = some_at xs i (omega (arith, lt))

  -- what is lent of a list
  pub lent : (xs : List X) (i : ℕ) (r : Option (Bor X)) → IsItemAt xs i r → option_copied r ≡ slice_get xs i
  lent xs i None h = sym (slice_get_past xs i h.3)
  lent xs i (Some x) h = sym (slice_get_read xs (length xs) i x.now refl h.3.0 h.1)

  -- what is at a place, if there is one
  abbrev pub at_place : List X → Option ℕ → Option X
  at_place xs None = None
  at_place xs (Some i) = slice_get xs i

  -- ---- places
  first_inside : (xs : List X) (p : ℕ × ℕ) (ps : List (ℕ × ℕ)) → AreInside xs (p ∷ ps) → p.1 < length xs
  first_inside xs p ps all = all 0 p.1 (omega arith)

  rest_inside : (xs : List X) (p : ℕ × ℕ) (ps : List (ℕ × ℕ)) → AreInside xs (p ∷ ps) → AreInside xs ps
  rest_inside xs p ps all = λ k d lt. all (suc k) d (omega (arith, lt))

  pub none_inside : (xs : List X) (ps : List (ℕ × ℕ)) → ps ≡ [] → AreInside xs ps
  none_inside xs ps empty = subst (AreInside xs) (sym empty) (λ k d lt. absurd (omega (arith, lt)))

  -- a key is looked up at its place
  looked_up : (test : ℕ → Bool) (xs : List X) (ps : List (ℕ × ℕ)) → AreInside xs ps → lookup test (placed xs ps) ≡ at_place xs (lookup test ps)
  looked_up test xs [] all = refl
  looked_up test xs (p ∷ ps) all =
      let here = some_at xs p.1 (first_inside xs p ps all) in
      ap (λ y. lookup test (in_front p.0 y (placed xs ps))) here.1
      ∙ by_bool (test p.0) (λ b. cond b (Some here.0) (lookup test (placed xs ps)) ≡ at_place xs (cond b (Some p.1) (lookup test ps)))
      (λ h. sym here.1)
      (λ h. looked_up test xs ps (rest_inside xs p ps all))

  -- ---- one more value
  pub wider : (xs : List X) (x : X) (ps : List (ℕ × ℕ)) → AreInside xs ps → AreInside (xs ++ x ∷ []) ps
  wider xs x ps all = λ k d lt. let one = all k d lt in let longer = length-append xs (x ∷ []) in omega (arith, one, longer)

  pub one_inside : (xs : List X) (x : X) (at : ℕ) (ps qs : List (ℕ × ℕ)) → AreInside xs ps → qs ≡ insert_entry nat_cmp ps at (length xs) → AreInside (xs ++ x ∷ []) qs
  one_inside xs x at ps qs all is =
      subst (AreInside (xs ++ x ∷ [])) (sym is)
      (All-values-insert_entry nat_cmp at (length xs) (λ i. i < length (xs ++ x ∷ [])) ps (wider xs x ps all)
      (let longer = length-append xs (x ∷ []) in omega (arith, longer)))

  still_found : (xs : List X) (x : X) (ps : List (ℕ × ℕ)) → AreInside xs ps → (q : ℕ) → at_place (xs ++ x ∷ []) (lookup (is_at (nat_cmp q)) ps) ≡ at_place xs (lookup (is_at (nat_cmp q)) ps)
  still_found xs x ps all q = from (lookup (is_at (nat_cmp q)) ps) (IfSome-lookup_from_All (λ i. i < length xs) (is_at (nat_cmp q)) ps all)
    where
      from : (y : Option ℕ) → IfSome y (λ i. i < length xs) → at_place (xs ++ x ∷ []) y ≡ at_place xs y
      from None inside = refl
      from (Some i) inside = still_at xs (x ∷ []) i inside

-- ---- endings
module _ {W : Type 0} where
  pub got : (xs : List (Ending W)) (m : BTreeMap ℕ ℕ) → AreInside xs m.entries → (a : ℕ) → ends_in (placed xs m.entries) a ≡ at_place xs (get nat_cmp m a)
  got xs m all a = looked_up (is_at (nat_cmp a)) xs m.entries all

  -- an address that has a place has an ending
  pub has_ending : (xs : List (Ending W)) (m : BTreeMap ℕ ℕ) → AreInside xs m.entries → (a i : ℕ) → get nat_cmp m a ≡ Some i → IsSome (ends_in (placed xs m.entries) a)
  has_ending xs m all a i is =
      let inside : i < length xs = subst (λ y. IfSome y (λ i. i < length xs)) is (IfSome-lookup_from_All (λ i. i < length xs) (is_at (nat_cmp a)) m.entries all) in
      let here = some_at xs i inside in
      subst IsSome (sym (got xs m all a ∙ ap (at_place xs) is ∙ here.1)) refl

  -- no address below a lower bound has one
  pub none_below : (xs : List (Ending W)) (m : BTreeMap ℕ ℕ) → AreInside xs m.entries → (at a : ℕ) → IsLowerBound nat_cmp m at → a < at → ends_in (placed xs m.entries) a ≡ None
  none_below xs m all at a bound below = got xs m all a ∙ from (get nat_cmp m a) refl
    where
      greater : is_gt (nat_cmp at a) ≡ true
      greater = grind (arith, nat_tests, below)

      from : (y : Option ℕ) → get nat_cmp m a ≡ y → at_place xs y ≡ None
      from None is = refl
      from (Some i) is = absurd (false≢true (sym (bound a (subst IsSome (sym is) refl)) ∙ greater))

  -- an address whose place is a new last one has the ending there
  pub is_put : (xs : List (Ending W)) (x : Ending W) (at : ℕ) (m n : BTreeMap ℕ ℕ) → AreInside xs m.entries → n.entries ≡ insert_entry nat_cmp m.entries at (length xs)
      → ((q : ℕ) → get nat_cmp n q ≡ cond (is_at (nat_cmp at) q) (Some (length xs)) (get nat_cmp m q))
      → IsPut (placed xs m.entries) (placed (xs ++ x ∷ []) n.entries) at (Some x)
  is_put xs x at m n all is put q =
      got (xs ++ x ∷ []) n (one_inside xs x at m.entries n.entries all is) q
      ∙ ap (at_place (xs ++ x ∷ [])) (put q ∙ ap (λ b. cond b (Some (length xs)) (get nat_cmp m q)) (same_key at q))
      ∙ by_bool (at == q) (λ b. at_place (xs ++ x ∷ []) (cond b (Some (length xs)) (get nat_cmp m q)) ≡ cond b (Some x) (ends_in (placed xs m.entries) q))
      (λ h. last_at xs x)
      (λ h. still_found xs x m.entries all q ∙ sym (got xs m all q))
