-- Values whose maps have a property, merged part by part.
use Rattle.std.proofs.Common.{ℕ, sym, subst}
use Rattle.std.specs.Prelude.{◌==◌}
use Rattle.base_trait.specs.Algebra.{Algebra}
use Rattle.base_trait.proofs.Lists.{number_told}
use Rattle.base_trait.proofs.Tests.{and_parts, at_choice}
use Rattle.abstract_map_laws.specs.Calls.{join_of as join_map, widen_of as widen_map}
use Rattle.abstract_map_laws.specs.Maps.{Map}
use Rattle.abstract_value_laws.specs.Abs.{Abs, Cases, Parts, flag, word, made, map, no_case, absent, present, no_part, part}
use Rattle.abstract_value_laws.specs.Calls.{join_of, join_parts, merge_cases, merge_of, merge_parts, same_type, widen_of, widen_parts}
use Rattle.analysis_table_laws.specs.Values.{CaseMapsAre, MapsAre, PartMapsAre}

-- ---- what is weaker holds too
module _ {W N : Type 0} (Q R : ℕ → Map W N → Type 0) (weaker : (m : ℕ) (x : Map W N) → Q m x → R m x) where
  mutual
    pub maps_weaker : (x : Abs W N) → MapsAre Q x → MapsAre R x
    maps_weaker (flag t) h = tt
    maps_weaker (word w x) h = tt
    maps_weaker (made t cs) h = cases_weaker cs h
    maps_weaker (map m x) h = weaker m x h

    cases_weaker : (cs : Cases W N) → CaseMapsAre Q cs → CaseMapsAre R cs
    cases_weaker no_case h = tt
    cases_weaker (absent cs) h = cases_weaker cs h
    cases_weaker (present xs cs) h = (parts_weaker xs h.0, cases_weaker cs h.1)

    parts_weaker : (xs : Parts W N) → PartMapsAre Q xs → PartMapsAre R xs
    parts_weaker no_part h = tt
    parts_weaker (part x xs) h = (maps_weaker x h.0, parts_weaker xs h.1)

-- ---- so do both of two properties
module _ {W N : Type 0} (Q R : ℕ → Map W N → Type 0) where
  mutual
    pub maps_both : (x : Abs W N) → MapsAre Q x → MapsAre R x → MapsAre (λ m x. Q m x × R m x) x
    maps_both (flag t) h k = tt
    maps_both (word w x) h k = tt
    maps_both (made t cs) h k = cases_both cs h k
    maps_both (map m x) h k = (h, k)

    cases_both : (cs : Cases W N) → CaseMapsAre Q cs → CaseMapsAre R cs → CaseMapsAre (λ m x. Q m x × R m x) cs
    cases_both no_case h k = tt
    cases_both (absent cs) h k = cases_both cs h k
    cases_both (present xs cs) h k = (parts_both xs h.0 k.0, cases_both cs h.1 k.1)

    parts_both : (xs : Parts W N) → PartMapsAre Q xs → PartMapsAre R xs → PartMapsAre (λ m x. Q m x × R m x) xs
    parts_both no_part h k = tt
    parts_both (part x xs) h k = (maps_both x h.0 k.0, parts_both xs h.1 k.1)

-- ---- what merging of maps keeps
module _ {W N : Type 0} (words : ℕ → W → W → W) (maps : Map W N → Map W N → Map W N) (Q : ℕ → Map W N → Type 0) (keeps : (m : ℕ) (x y : Map W N) → Q m x → Q m y → Q m (maps x y)) where
  mutual
    merged : (x y : Abs W N) → MapsAre Q x → MapsAre Q y → MapsAre Q (merge_of words maps x y)
    merged (flag t) (flag u) h k = tt
    merged (word w x) (word u y) h k = at_choice (MapsAre Q) (w == u) (word w (words w x y)) (word w x) (λ e. tt) (λ e. tt)
    merged (made t cs) (made u ds) h k = cases_merged cs ds h k
    merged (map m x) (map n y) h k =
        at_choice (MapsAre Q) (same_type m x n y) (map m (maps x y)) (map m x)
        (λ e. keeps m x y h (subst (λ z. Q z y) (sym (number_told m n (and_parts (m == n) (x.width == y.width) e).0)) k)) (λ e. h)
    merged _ _ h k = h

    cases_merged : (cs ds : Cases W N) → CaseMapsAre Q cs → CaseMapsAre Q ds → CaseMapsAre Q (merge_cases words maps cs ds)
    cases_merged (absent cs) (absent ds) h k = cases_merged cs ds h k
    cases_merged (absent cs) (present ys ds) h k = (k.0, cases_merged cs ds h k.1)
    cases_merged (present xs cs) (absent ds) h k = (h.0, cases_merged cs ds h.1 k)
    cases_merged (present xs cs) (present ys ds) h k = (parts_merged xs ys h.0 k.0, cases_merged cs ds h.1 k.1)
    cases_merged _ _ h k = tt

    parts_merged : (xs ys : Parts W N) → PartMapsAre Q xs → PartMapsAre Q ys → PartMapsAre Q (merge_parts words maps xs ys)
    parts_merged (part x xs) (part y ys) h k = (merged x y h.0 k.0, parts_merged xs ys h.1 k.1)
    parts_merged _ _ h k = tt

module _ {W N C : Type 0} (B : Algebra W N C) (c : C) (cap : ℕ) (Q : ℕ → Map W N → Type 0) (keeps : (m : ℕ) (x y : Map W N) → Q m x → Q m y → Q m (join_map B c cap x y)) where
  pub joined_maps : (x y : Abs W N) → MapsAre Q x → MapsAre Q y → MapsAre Q (join_of B c cap x y)
  joined_maps x y h k = merged (B.words.join c) (join_map B c cap) Q keeps x y h k

  pub joined_parts : (xs ys : Parts W N) → PartMapsAre Q xs → PartMapsAre Q ys → PartMapsAre Q (join_parts B c cap xs ys)
  joined_parts xs ys h k = parts_merged (B.words.join c) (join_map B c cap) Q keeps xs ys h k

module _ {W N C : Type 0} (B : Algebra W N C) (c : C) (Q : ℕ → Map W N → Type 0) (keeps : (m : ℕ) (x y : Map W N) → Q m x → Q m y → Q m (widen_map B c x y)) where
  pub widened_maps : (x y : Abs W N) → MapsAre Q x → MapsAre Q y → MapsAre Q (widen_of B c x y)
  widened_maps x y h k = merged (B.words.widen c) (widen_map B c) Q keeps x y h k

  pub widened_parts : (xs ys : Parts W N) → PartMapsAre Q xs → PartMapsAre Q ys → PartMapsAre Q (widen_parts B c xs ys)
  widened_parts xs ys h k = parts_merged (B.words.widen c) (widen_map B c) Q keeps xs ys h k
