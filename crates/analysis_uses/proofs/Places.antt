-- Where a use goes in a list of uses.
use Rattle.std.proofs.Common.{◌≡◌, ℕ, suc, ◌+◌, ◌<◌, Bool, true, false, cond, ◌==◌, get_or, set, take, drop, List, [], ◌∷◌, ◌++◌, length, sym, ap, ap₂, ◌∙◌, Ok, Err, subst, map, Vec, Global, drop-cons, add-one, append_assoc}
use Rattle.std.proofs.lemmas.List.{drop-map, get_or-map, length-map, map-append, map-set, set_split, take-map, take_more}
use Rattle.std.specs.List.{insert}
use Rattle.base_trait.specs.Uses.{Seen, seen}
use Rattle.base_trait.specs.declared.uses.Stamp.{Stamp}
use Rattle.base_trait.specs.declared.uses.Use.{Use}
use Rattle.base_trait.proofs.Lists.{number_told}
use Rattle.base_trait.proofs.Tests.{and_parts}
use Rattle.fixpoint_theory.specs.Verdicts.{same_key}
use Rattle.domain_laws.specs.declared.field.Field.{Field}
use Rattle.analysis_transfer_laws.specs.Uses.{either_stamp, is_cell_before, is_same_cell, with_stamps, with_use}
use Rattle.analysis_transfer_laws.proofs.Merging.{key_told}
use Rattle.analysis_uses.specs.Places.{put, with_more}

same_more : (u v : Seen) → is_same_cell u v ≡ true → with_stamps u v.stamps ≡ with_more v u.stamps
same_more u v e =
    let p = and_parts (u.of_map == v.of_map) (same_key u.key v.key) e in
    ap₂ (λ m k. record { of_map = m; key = k; stamps = either_stamp u.stamps v.stamps }) (number_told u.of_map v.of_map p.0) (key_told u.key v.key p.1)

-- place i has the use v
module _ (u : Seen) (uses : List Use) (i : ℕ) (v : Use) (lt : i < length uses) (is : v ≡ get_or uses i v) where
  seen_at : get_or (map seen uses) i u ≡ seen v
  seen_at = get_or-map seen uses i v u lt ∙ ap seen (sym is)

  lt_seen : i < length (map seen uses)
  lt_seen = subst (λ n. i < n) (sym (length-map uses seen)) lt

  pub more_put : (from : Vec Stamp Global) → from.items ≡ either_stamp u.stamps v.from.items → map seen (set uses i (record { map = v.map; key = v.key; from = from })) ≡ put u (map seen uses) (Ok i)
  more_put from e =
      map-set seen uses i (record { map = v.map; key = v.key; from = from })
      ∙ ap (λ x. set (map seen uses) i x) (ap (λ ss. record { of_map = v.map; key = v.key; stamps = ss }) e ∙ ap (λ x. with_more x u.stamps) (sym seen_at))

  -- the uses before it are passed
  module _ (fields : List Field) (passed : with_use fields u (map seen uses) ≡ take i (map seen uses) ++ with_use fields u (drop i (map seen uses))) where
    rest : drop i (map seen uses) ≡ seen v ∷ drop (suc i) (map seen uses)
    rest = drop-cons (map seen uses) i u lt_seen ∙ ap (λ x. x ∷ drop (suc i) (map seen uses)) seen_at

    here : with_use fields u (map seen uses) ≡ take i (map seen uses) ++ with_use fields u (seen v ∷ drop (suc i) (map seen uses))
    here = passed ∙ ap (λ xs. take i (map seen uses) ++ with_use fields u xs) rest

    -- what comes of the uses from there on, by the two tests
    abbrev from_here : Bool → Bool → List Seen
    from_here same first = cond same (with_stamps u v.from.items ∷ drop (suc i) (map seen uses)) (cond first (with_stamps u [] ∷ seen v ∷ drop (suc i) (map seen uses)) (seen v ∷ with_use fields u (drop (suc i) (map seen uses))))

    pub at_same : is_same_cell u (seen v) ≡ true → with_use fields u (map seen uses) ≡ put u (map seen uses) (Ok i)
    at_same e =
        here ∙ ap (λ b. take i (map seen uses) ++ from_here b (is_cell_before fields u (seen v))) e
        ∙ ap (λ x. take i (map seen uses) ++ x ∷ drop (suc i) (map seen uses)) (same_more u (seen v) e ∙ ap (λ x. with_more x u.stamps) (sym seen_at))
        ∙ sym (set_split (map seen uses) i (with_more (get_or (map seen uses) i u) u.stamps) lt_seen)

    apart : (first : Bool) → is_same_cell u (seen v) ≡ false → is_cell_before fields u (seen v) ≡ first → with_use fields u (map seen uses) ≡ take i (map seen uses) ++ from_here false first
    apart first e b = here ∙ ap₂ (λ b c. take i (map seen uses) ++ from_here b c) e b

    pub at_before : is_same_cell u (seen v) ≡ false → is_cell_before fields u (seen v) ≡ true → with_use fields u (map seen uses) ≡ put u (map seen uses) (Err i)
    at_before e b = apart true e b ∙ ap (λ xs. take i (map seen uses) ++ with_stamps u [] ∷ xs) (sym rest)

    pub at_later : is_same_cell u (seen v) ≡ false → is_cell_before fields u (seen v) ≡ false → with_use fields u (map seen uses) ≡ take (i + 1) (map seen uses) ++ with_use fields u (drop (i + 1) (map seen uses))
    at_later e b =
        let more : take (i + 1) (map seen uses) ≡ take i (map seen uses) ++ seen v ∷ [] = take_more (map seen uses) i u lt_seen ∙ ap (λ x. take i (map seen uses) ++ x ∷ []) seen_at in
        apart false e b
        ∙ sym (ap₂ (λ xs n. xs ++ with_use fields u (drop n (map seen uses))) more (add-one i) ∙ append_assoc (take i (map seen uses)) (seen v ∷ []) (with_use fields u (drop (suc i) (map seen uses))))

pub new_put : (u : Seen) (uses : List Use) (i : ℕ) (r : Use) → seen r ≡ with_stamps u [] → map seen (insert uses i r) ≡ put u (map seen uses) (Err i)
new_put u uses i r e =
    map-append seen (take i uses) (r ∷ drop i uses)
    ∙ ap₂ (λ xs ys. xs ++ ys) (sym (take-map seen i uses)) (ap₂ (λ x xs. x ∷ xs) e (sym (drop-map seen i uses)))
