-- Each graph of datatypes has counts of leaves: a datatype is counted as long as there is one that can be.
use Rattle.std.proofs.Common.{◌≡◌, ◌⊎◌, ℕ, zero, suc, ◌+◌, ◌<◌, ◌≤◌, Bool, false, Option, Some, None, List, [], ◌∷◌, length, map, get_or, set, replicate, refl, sym, ap, ◌∙◌, subst, inl, inr, arith}
use Rattle.std.specs.List.{range_with_len}
use Rattle.std.proofs.lemmas.Bool.{cases_eq}
use Rattle.std.proofs.lemmas.List.{length-map, length-replicate, length-set}
use Rattle.std.proofs.lemmas.List.FromFn.{get_or-map-range_with_len, length-map-range_with_len}
use Rattle.support_reachability.specs.Table.{IsTableOf, says}
use Rattle.support_reachability.proofs.Tables.{some_table}
use Rattle.spec_declarations.specs.Counts.{AreCounts, AreSettled, AreSound, count_in, is_past, plain, uncounted}
use Rattle.spec_declarations.specs.Leaves.{IsKnown, Made, held}
use Rattle.spec_declarations.proofs.Bridge.{is_known}
use Rattle.spec_declarations.proofs.Counting.{none_some, sound_set, uncounted_less}

abbrev none_of : Option ℕ
none_of = None

module _ (graph : List (List ℕ)) (own : List (Option ℕ)) where
  -- a datatype that is not counted, and can be
  record IsOpen (counts : List (Option ℕ)) (n : ℕ) : Type 0 where
    d : ℕ
    k : ℕ
    below : d < n
    empty : get_or counts d None ≡ None
    count : count_in graph own counts d ≡ Some k

  -- ---- a search for one

  wider : (counts : List (Option ℕ)) (n : ℕ) → IsOpen counts n → IsOpen counts (suc n)
  wider counts n h = record { d = h.d; k = h.k; below = omega (arith, h.below); empty = h.empty; count = h.count }

  -- one more datatype, whose count there is or cannot be
  settled_more : (counts : List (Option ℕ)) (n : ℕ) → AreSettled graph own counts n → (get_or counts n None ≡ None → count_in graph own counts n ≡ None) → AreSettled graph own counts (suc n)
  settled_more counts n before here d below empty = elim (cases_eq d n) [
    | inl same ↦ subst (λ x. get_or counts x None ≡ None → count_in graph own counts x ≡ None) (sym same) here empty
    | inr apart ↦ before d (omega (arith, apart)) empty
  ]

  at : (counts : List (Option ℕ)) (n : ℕ) → AreSettled graph own counts n → (there found : Option ℕ) → get_or counts n None ≡ there → count_in graph own counts n ≡ found → IsOpen counts (suc n) ⊎ AreSettled graph own counts (suc n)
  at counts n before (Some c) found e f = inr (settled_more counts n before (λ empty. none_some c (sym empty ∙ e)))
  at counts n before None None e f = inr (settled_more counts n before (λ empty. f))
  at counts n before None (Some k) e f = inl (record { d = n; k = k; below = omega arith; empty = e; count = f })

  search_open : (counts : List (Option ℕ)) (n : ℕ) → IsOpen counts n ⊎ AreSettled graph own counts n
  search_open counts zero = inr (λ d below empty. absurd (omega arith))
  search_open counts (suc n) = elim (search_open counts n) [
    | inl h ↦ inl (wider counts n h)
    | inr before ↦ at counts n before (get_or counts n None) (count_in graph own counts n) refl refl
  ]

  -- ---- counts, as many as there are

  abbrev Counted : Type 0
  Counted = (counts : List (Option ℕ)) × AreCounts graph own counts

  fill : (n : ℕ) (counts : List (Option ℕ)) → length counts ≡ length graph → AreSound graph own counts → uncounted counts ≤ n → Counted
  fill zero counts width sound few = elim (search_open counts (length graph)) [
    | inl h ↦ absurd (omega (arith, uncounted_less counts h.d h.k (omega (arith, h.below, width)) h.empty))
    | inr settled ↦ (counts, record { width = width; sound = sound; settled = settled })
  ]
  fill (suc n) counts width sound few = elim (search_open counts (length graph)) [
    | inl h ↦ more h (fill n (set counts h.d (Some h.k)))
    | inr settled ↦ (counts, record { width = width; sound = sound; settled = settled })
  ]
    where
      more : (h : IsOpen counts (length graph)) → (length (set counts h.d (Some h.k)) ≡ length graph → AreSound graph own (set counts h.d (Some h.k)) → uncounted (set counts h.d (Some h.k)) ≤ n → Counted) → Counted
      more h go =
          let below : h.d < length counts = omega (arith, h.below, width) in
          go (length-set counts h.d (Some h.k) ∙ width) (sound_set graph own counts h.d h.k below h.count sound) (omega (arith, uncounted_less counts h.d h.k below h.empty))

  none_there : (n d : ℕ) → get_or (replicate n none_of) d None ≡ None
  none_there zero d = refl
  none_there (suc n) zero = refl
  none_there (suc n) (suc d) = none_there n d

  pub some_counts : Counted
  some_counts =
      let none = replicate (length graph) none_of in
      fill (uncounted none) none (length-replicate (length graph) none_of) (λ d k e. none_some k (sym (none_there (length graph) d) ∙ e)) (omega arith)

-- what is known of datatypes is there
pub some_known : (datas : List Made) → (recursive large : List Bool) × IsKnown datas recursive large
some_known datas =
    let table = some_table (map held datas) in
    let counts = some_counts (map held datas) (map plain datas) in
    let recursive = map (λ d. says table.0 d d) (range_with_len 0 (length datas)) in (
      recursive,
      map is_past counts.0,
      is_known datas table.0 counts.0 recursive table.1 counts.1 (length-map-range_with_len (λ d. says table.0 d d) 0 (length datas))
          (λ d below. get_or-map-range_with_len (λ d. says table.0 d d) 0 (length datas) d d false below (omega arith)),
    )
