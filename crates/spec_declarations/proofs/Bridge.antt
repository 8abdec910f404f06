-- Leaves and counts are the same.
use Rattle.std.proofs.Common.{◌≡◌, ℕ, ◌+◌, ◌<◌, ◌≤◌, Bool, true, false, Option, Some, None, List, [], ◌∷◌, ◌++◌, length, map, filter_map, get_or, slice_get, refl, sym, ap, ◌∙◌, subst, inl, inr, arith}
use Rattle.std.proofs.lemmas.Bool.{cases_lt, false≢true, ltb-true, lt-ltb}
use Rattle.std.proofs.lemmas.List.{get_or-map, get_or_past, length-map}
use Rattle.std.proofs.lemmas.Option.{slice_get_within, slice_get-get_or, get_or_from_slice_get, same_Some as some_same}
use Rattle.support_reachability.specs.Table.{IsTableOf, says}
use Rattle.spec_ir.specs.declared.ty.Ty.TheVariants.{Bool as Flag, Word, Data as DataTy, Map as MapOf}
use Rattle.spec_declarations.specs.declared.type_names.Meaning.{Meaning}
use Rattle.spec_declarations.specs.declared.type_names.Meaning.TheVariants.{Known, BadWidth, Unknown}
use Rattle.spec_declarations.specs.Leaves.{Made, IsLarge, most_leaves, IsKnown, data_number, held, LeavesOf, CaseLeaves, FieldLeaves, data_leaves, no_cases, next_case, no_fields, next_field, flag_leaf, word_leaf, map_leaf, width_leaf, data_leaf}
use Rattle.spec_declarations.specs.Counts.{plain, plain_fields, plain_cases, CountOf, SumOf, counted, nothing, next, AreCounts, is_past}
use Rattle.spec_declarations.proofs.Counting.{past_limit, none_some}

module _ (datas : List Made) where
  abbrev graph : List (List ℕ)
  graph = map held datas

  abbrev own : List (Option ℕ)
  own = map plain datas

  sum_append : (ds es : List ℕ) (m n : ℕ) → SumOf graph own ds m → SumOf graph own es n → SumOf graph own (ds ++ es) (m + n)
  sum_append ds es m n nothing t = let same : n ≡ 0 + n = omega arith in subst (SumOf graph own es) same t
  sum_append ds es m n (next {d = d} {m = a} {n = b} {ds = rest} x s) t =
      subst (SumOf graph own (d ∷ (rest ++ es))) (regroup a b n) (next x (sum_append rest es b n s t))
    where
      regroup : (a b n : ℕ) → a + (b + n) ≡ a + b + n
      regroup a b n = omega arith

  -- ---- from leaves to counts

  abbrev Counted : List ℕ → Option ℕ → ℕ → Type 0
  Counted ds o n = (q : ℕ) × (s : ℕ) × (o ≡ Some q) × SumOf graph own ds s × (n ≡ q + s)

  mutual
    leaves_counted : (d n : ℕ) → LeavesOf datas d n → CountOf graph own d n
    leaves_counted d n (data_leaves cases is h) =
        let c = cases_counted cases n h 0 in
        let within = slice_get_within datas d cases is in
        let here : get_or datas d cases ≡ cases = get_or_from_slice_get datas d cases cases is in
        let mine : get_or own d None ≡ Some c.0 = get_or-map plain datas d cases None within ∙ ap plain here ∙ c.2 in
        let rows : get_or graph d [] ≡ held cases = get_or-map held datas d cases [] within ∙ ap held here in
        let same : c.0 + c.1 ≡ n = omega (arith, c.4) in
        subst (CountOf graph own d) same (counted mine (subst (λ ds. SumOf graph own ds c.1) (sym rows) c.3))

    cases_counted : (cases : Made) (n : ℕ) → CaseLeaves datas cases n → (p : ℕ) → Counted (held cases) (plain_cases (Some p) cases) (p + n)
    cases_counted cases n no_cases p = (p, 0, refl, nothing, refl)
    cases_counted cases n (next_case {c = c} {cs = cs} {m = a} {n = b} f r) p =
        let x = fields_counted c a f (p + 1) in
        let y = cases_counted cs b r x.0 in
        let sum : p + (1 + a + b) ≡ y.0 + (x.1 + y.1) = omega (arith, x.4, y.4) in
        (y.0, x.1 + y.1, ap (λ o. plain_cases o cs) x.2 ∙ y.2, sum_append (filter_map data_number c) (held cs) x.1 y.1 x.3 y.3, sum)

    fields_counted : (fs : List Meaning) (n : ℕ) → FieldLeaves datas fs n → (p : ℕ) → Counted (filter_map data_number fs) (plain_fields (Some p) fs) (p + n)
    fields_counted fs n no_fields p = (p, 0, refl, nothing, refl)
    fields_counted fs n (next_field {fs = rest} {n = b} flag_leaf r) p =
        let y = fields_counted rest b r (p + 1) in (y.0, y.1, y.2, y.3, omega (arith, y.4))
    fields_counted fs n (next_field {fs = rest} {n = b} word_leaf r) p =
        let y = fields_counted rest b r (p + 1) in (y.0, y.1, y.2, y.3, omega (arith, y.4))
    fields_counted fs n (next_field {fs = rest} {n = b} map_leaf r) p =
        let y = fields_counted rest b r (p + 1) in (y.0, y.1, y.2, y.3, omega (arith, y.4))
    fields_counted fs n (next_field {fs = rest} {n = b} width_leaf r) p =
        let y = fields_counted rest b r (p + 1) in (y.0, y.1, y.2, y.3, omega (arith, y.4))
    fields_counted fs n (next_field {fs = rest} {n = b} (data_leaf {d = d} {n = k} l) r) p =
        let y = fields_counted rest b r p in (y.0, k + y.1, y.2, next (leaves_counted d k l) y.3, omega (arith, y.4))

  -- ---- from counts to leaves

  data LeafSum : List ℕ → ℕ → Type 0 where
    no_leaf : LeafSum [] 0
    more_leaves : {d m n : ℕ} {ds : List ℕ} → LeavesOf datas d m → LeafSum ds n → LeafSum (d ∷ ds) (m + n)

  none_left : (m : ℕ) → LeafSum [] m → m ≡ 0
  none_left m no_leaf = refl

  first_left : (d : ℕ) (ds : List ℕ) (m : ℕ) → LeafSum (d ∷ ds) m → (k : ℕ) × (n : ℕ) × LeavesOf datas d k × LeafSum ds n × (m ≡ k + n)
  first_left d ds m (more_leaves {m = k} {n = n} l s) = (k, n, l, s, refl)

  split_sum : (ds es : List ℕ) (m : ℕ) → LeafSum (ds ++ es) m → (k : ℕ) × (n : ℕ) × LeafSum ds k × LeafSum es n × (m ≡ k + n)
  split_sum [] es m s = (0, m, no_leaf, s, omega arith)
  split_sum (d ∷ ds) es m s =
      let a = first_left d (ds ++ es) m s in
      let b = split_sum ds es a.1 a.3 in
      (a.0 + b.0, b.1, more_leaves a.2 b.2, b.3, omega (arith, a.4, b.4))

  unknown_fields : (fs : List Meaning) → plain_fields None fs ≡ None
  unknown_fields [] = refl
  unknown_fields (Known Flag ∷ fs) = unknown_fields fs
  unknown_fields (Known (Word w) ∷ fs) = unknown_fields fs
  unknown_fields (Known (DataTy d) ∷ fs) = unknown_fields fs
  unknown_fields (Known (MapOf m) ∷ fs) = unknown_fields fs
  unknown_fields (BadWidth ∷ fs) = unknown_fields fs
  unknown_fields (Unknown ∷ fs) = unknown_fields fs

  unknown_cases : (cases : Made) → plain_cases None cases ≡ None
  unknown_cases [] = refl
  unknown_cases (c ∷ cases) = ap (λ o. plain_cases o cases) (unknown_fields c) ∙ unknown_cases cases

  fields_from : (fs : List Meaning) (p q m : ℕ) → plain_fields (Some p) fs ≡ Some q → LeafSum (filter_map data_number fs) m → (l : ℕ) × FieldLeaves datas fs l × (p + l ≡ q + m)
  fields_from [] p q m e s = (0, no_fields, omega (arith, some_same p q e, none_left m s))
  fields_from (Known Flag ∷ fs) p q m e s = let y = fields_from fs (p + 1) q m e s in (1 + y.0, next_field flag_leaf y.1, omega (arith, y.2))
  fields_from (Known (Word w) ∷ fs) p q m e s = let y = fields_from fs (p + 1) q m e s in (1 + y.0, next_field word_leaf y.1, omega (arith, y.2))
  fields_from (Known (MapOf k) ∷ fs) p q m e s = let y = fields_from fs (p + 1) q m e s in (1 + y.0, next_field map_leaf y.1, omega (arith, y.2))
  fields_from (BadWidth ∷ fs) p q m e s = let y = fields_from fs (p + 1) q m e s in (1 + y.0, next_field width_leaf y.1, omega (arith, y.2))
  fields_from (Known (DataTy d) ∷ fs) p q m e s =
      let a = first_left d (filter_map data_number fs) m s in
      let y = fields_from fs p q a.1 e a.3 in
      (a.0 + y.0, next_field (data_leaf a.2) y.1, omega (arith, a.4, y.2))
  fields_from (Unknown ∷ fs) p q m e s = none_some q (sym (unknown_fields fs) ∙ e)

  cases_from : (cases : Made) (p q m : ℕ) → plain_cases (Some p) cases ≡ Some q → LeafSum (held cases) m → (l : ℕ) × CaseLeaves datas cases l × (p + l ≡ q + m)
  cases_from [] p q m e s = (0, no_cases, omega (arith, some_same p q e, none_left m s))
  cases_from (c ∷ cases) p q m e s =
      let parts = split_sum (filter_map data_number c) (held cases) m s in
      by_fields (plain_fields (Some (p + 1)) c) refl e parts (λ k r. cases_from cases k q parts.1 r parts.3)
    where
      by_fields : (o : Option ℕ) → plain_fields (Some (p + 1)) c ≡ o → plain_cases o cases ≡ Some q
          → (parts : (k : ℕ) × (n : ℕ) × LeafSum (filter_map data_number c) k × LeafSum (held cases) n × (m ≡ k + n))
          → ((k : ℕ) → plain_cases (Some k) cases ≡ Some q → (l : ℕ) × CaseLeaves datas cases l × (k + l ≡ q + parts.1))
          → (l : ℕ) × CaseLeaves datas (c ∷ cases) l × (p + l ≡ q + m)
      by_fields None is r parts go = none_some q (sym (unknown_cases cases) ∙ r)
      by_fields (Some k) is r parts go =
          let x = fields_from c (p + 1) k parts.0 is parts.2 in
          let y = go k r in
          (1 + x.0 + y.0, next_case x.1 y.1, omega (arith, x.2, y.2, parts.4))

  -- a datatype whose own leaves are counted is one
  is_there : (d p : ℕ) → get_or own d None ≡ Some p → d < length datas
  is_there d p e = elim (cases_lt d (length datas)) [ inl l ↦ l | inr past ↦ none_some p (sym (get_or_past own d None (out past)) ∙ e) ]
    where
      out : length datas ≤ d → length own ≤ d
      out past = omega (arith, past, length-map datas plain)

  mutual
    counted_leaves : (d n : ℕ) → CountOf graph own d n → LeavesOf datas d n
    counted_leaves d n (counted {p = p} {m = m} is sum) =
        let within = is_there d p is in
        let cases = get_or datas d [] in
        let mine : plain cases ≡ Some p = sym (get_or-map plain datas d [] None within) ∙ is in
        let rows : get_or graph d [] ≡ held cases = get_or-map held datas d [] [] within in
        let found = cases_from cases 0 p m mine (subst (λ ds. LeafSum ds m) rows (leaf_sum (get_or graph d []) m sum)) in
        subst (LeavesOf datas d) (omega (arith, found.2)) (data_leaves cases (slice_get-get_or datas d [] within) found.1)

    leaf_sum : (ds : List ℕ) (m : ℕ) → SumOf graph own ds m → LeafSum ds m
    leaf_sum ds m nothing = no_leaf
    leaf_sum ds m (next {d = d} {m = a} {n = b} {ds = rest} x s) = more_leaves (counted_leaves d a x) (leaf_sum rest b s)

  -- ---- what is known

  pub is_known : (t : List (List Bool)) (counts : List (Option ℕ)) (recursive : List Bool) → IsTableOf graph t → AreCounts graph own counts
      → length recursive ≡ length datas → ((d : ℕ) → d < length datas → get_or recursive d false ≡ says t d d) → IsKnown datas recursive (map is_past counts)
  is_known t counts recursive table h w diagonal = record {
    recursive_length = w;
    large_length = length-map counts is_past ∙ h.width ∙ length-map datas held;
    recursive_is = λ d b e. (
      λ yes'. (table.entries d d (at d b e)).0 (sym (diagonal d (at' d b e)) ∙ get_or_from_slice_get recursive d b false e ∙ yes'),
      λ r. sym (get_or_from_slice_get recursive d b false e) ∙ diagonal d (at' d b e) ∙ (table.entries d d (at d b e)).1 r,
    );
    large_is = λ d b e. (
      λ yes'. big d (get_or counts d None) refl (sym (past d b e) ∙ yes'),
      λ l. past d b e ∙ large d l,
    );
  }
    where
      at' : (d : ℕ) (b : Bool) → slice_get recursive d ≡ Some b → d < length datas
      at' d b e = omega (arith, slice_get_within recursive d b e, w)

      at : (d : ℕ) (b : Bool) → slice_get recursive d ≡ Some b → d < length graph
      at d b e = omega (arith, slice_get_within recursive d b e, w, length-map datas held)

      past : (d : ℕ) (b : Bool) → slice_get (map is_past counts) d ≡ Some b → b ≡ is_past (get_or counts d None)
      past d b e =
          let l : d < length counts = omega (arith, slice_get_within (map is_past counts) d b e, length-map counts is_past) in
          sym (get_or_from_slice_get (map is_past counts) d b false e) ∙ get_or-map is_past counts d None false l

      big : (d : ℕ) (o : Option ℕ) → get_or counts d None ≡ o → is_past (get_or counts d None) ≡ true → IsLarge datas d
      big d None e p = absurd (false≢true (sym (ap is_past e) ∙ p))
      big d (Some k) e p =
          let r = h.sound d k e in
          (r.0, counted_leaves d r.0 r.1, omega (arith, r.2, ltb-true most_leaves k (sym (ap is_past e) ∙ p)))

      large : (d : ℕ) → IsLarge datas d → is_past (get_or counts d None) ≡ true
      large d l =
          let f = past_limit graph own counts (length-map datas plain ∙ sym (length-map datas held)) h d l.0 (leaves_counted d l.0 l.1) l.2 in
          ap is_past f.1 ∙ lt-ltb most_leaves f.0 f.2

-- the same for tables that the code makes
pub known_from : (datas : List Made) (graph' : List (List ℕ)) (own' counts : List (Option ℕ)) (t : List (List Bool)) (recursive large : List Bool)
    → graph' ≡ map held datas → own' ≡ map plain datas → IsTableOf graph' t → AreCounts graph' own' counts
    → length recursive ≡ length datas → ((d : ℕ) → d < length datas → get_or recursive d false ≡ says t d d) → large ≡ map is_past counts → IsKnown datas recursive large
known_from datas graph' own' counts t recursive large g o table h w diagonal l =
    subst (IsKnown datas recursive) (sym l)
    (is_known datas t counts recursive (subst (λ rows. IsTableOf rows t) g table)
    (subst (λ rows. AreCounts rows (map plain datas) counts) g (subst (λ own. AreCounts graph' own counts) o h)) w diagonal)
