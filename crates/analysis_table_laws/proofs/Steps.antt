-- Steps of an evaluation keep a property of maps that joins and writes keep.
use Rattle.std.proofs.Common.{◌≡◌, ℕ, zero, suc, List, [], ◌∷◌, Some, subst}
use Rattle.base_trait.specs.Algebra.{Algebra}
use Rattle.abstract_map_laws.specs.Calls.{join_of as join_map, update_of}
use Rattle.abstract_map_laws.specs.Keys.{Keys}
use Rattle.abstract_map_laws.specs.Maps.{Map}
use Rattle.spec_match_compiler.specs.Values.{Place}
use Rattle.spec_ir.specs.declared.ty.Ty.{Ty}
use Rattle.spec_ir.specs.Environment.{Environment}
use Rattle.abstract_value_laws.specs.Abs.{Abs, Cases, Parts, flag, word, made, map, no_case, absent, present, no_part, part, parts}
use Rattle.abstract_value_laws.specs.OfValues.{absent_onto, case_count, one_case}
use Rattle.abstract_semantics.specs.Choices.{abs_at, abs_in, abs_part}
use Rattle.abstract_semantics.specs.Steps.{put_at}
use Rattle.abstract_semantics.proofs.Stepped.{Invariant}
use Rattle.abstract_semantics.proofs.Typed.{AreOf}
use Rattle.analysis_table_laws.specs.Values.{CaseMapsAre, MapsAre, PartMapsAre}
use Rattle.analysis_table_laws.proofs.Merged.{joined_maps}

module _ {W N : Type 0} (Q : ℕ → Map W N → Type 0) where
  -- ---- what stands at a place
  mutual
    at_maps : (place : Place) (x y : Abs W N) → MapsAre Q x → abs_at place x ≡ Some y → MapsAre Q y
    at_maps [] x y h e = let same : x ≡ y = cc in subst (MapsAre Q) same h
    at_maps (step ∷ place) (made t cs) y h e = in_maps place step.0 step.1 cs y h e
    at_maps (step ∷ place) (flag t) y h e = absurd cc
    at_maps (step ∷ place) (word w x) y h e = absurd cc
    at_maps (step ∷ place) (map m x) y h e = absurd cc

    in_maps : (place : Place) (k i : ℕ) (cs : Cases W N) (y : Abs W N) → CaseMapsAre Q cs → abs_in place k i cs ≡ Some y → MapsAre Q y
    in_maps place k i no_case y h e = absurd cc
    in_maps place zero i (absent cs) y h e = absurd cc
    in_maps place zero i (present xs cs) y h e = part_maps place i xs y h.0 e
    in_maps place (suc k) i (absent cs) y h e = in_maps place k i cs y h e
    in_maps place (suc k) i (present xs cs) y h e = in_maps place k i cs y h.1 e

    part_maps : (place : Place) (i : ℕ) (xs : Parts W N) (y : Abs W N) → PartMapsAre Q xs → abs_part place i xs ≡ Some y → MapsAre Q y
    part_maps place i no_part y h e = absurd cc
    part_maps place zero (part x xs) y h e = at_maps place x y h.0 e
    part_maps place (suc i) (part x xs) y h e = part_maps place i xs y h.1 e

  -- ---- one constructor
  absent_maps : (n : ℕ) → CaseMapsAre Q (absent_onto n no_case)
  absent_maps zero = tt
  absent_maps (suc n) = absent_maps n

  pub one_maps : (n k : ℕ) (xs : Parts W N) → PartMapsAre Q xs → CaseMapsAre Q (one_case n k xs)
  one_maps zero k xs h = tt
  one_maps (suc n) zero xs h = (h, absent_maps n)
  one_maps (suc n) (suc k) xs h = one_maps n k xs h

  all_maps : {C : Type 0} (B : Algebra W N C) (c : C) (cap : ℕ) (env : Environment) (ts : List Ty) (xs : List (Abs W N)) → AreOf B c cap env (MapsAre Q) ts xs → PartMapsAre Q (parts xs)
  all_maps B c cap env [] [] h = tt
  all_maps B c cap env [] (x ∷ xs) h = absurd h
  all_maps B c cap env (t ∷ ts) [] h = absurd h
  all_maps B c cap env (t ∷ ts) (x ∷ xs) h = (h.0.also, all_maps B c cap env ts xs h.1)

module _ {W N C : Type 0} (B : Algebra W N C) (c : C) (cap : ℕ) (env : Environment) (a : ℕ) (Q : ℕ → Map W N → Type 0)
    (joins : (m : ℕ) (x y : Map W N) → Q m x → Q m y → Q m (join_map B c cap x y)) (puts : (m : ℕ) (x : Map W N) (ks : Keys) (v : W) → Q m x → Q m (update_of B c cap x ks (put_at B c a v))) where
  pub keeps_maps : Invariant B c cap env a (MapsAre Q)
  keeps_maps = record {
    flags = λ t. tt;
    words = λ w x. tt;
    makes = λ d k ts xs h. one_maps Q (case_count env d) k (parts xs) (all_maps Q B c cap env ts xs h);
    fields = λ place x y h e. at_maps Q place x y h e;
    joins = λ x y h k. joined_maps B c cap Q joins x y h k;
    puts = λ m ty x ks v d b h. puts m x ks v h;
  }
