-- Maps of values list keys of their map types alone, whatever is evaluated.
use Rattle.std.proofs.Common.{◌≡◌, ℕ, zero, suc, ◌<◌, Bool, true, false, cond, List, [], ◌∷◌, take, Some, slice_get, map as map_of, sym, ap, subst, ◌⊎◌, inl, inr}
use Rattle.base_trait.specs.Algebra.{Algebra}
use Rattle.base_trait.specs.Lists.{Each, IsAmong}
use Rattle.base_trait.proofs.Lists.{each_at, each_from}
use Rattle.abstract_map_laws.specs.declared.cell.AbstractCell.{AbstractCell}
use Rattle.abstract_map_laws.specs.Calls.{folded, update_of, written}
use Rattle.abstract_map_laws.specs.Keys.{Keys, one, some, with_key}
use Rattle.abstract_map_laws.specs.Maps.{Map, keys}
use Rattle.abstract_map_laws.proofs.KeyLists.{with_only}
use Rattle.abstract_map_laws.proofs.Places.{keys_of_cells}
use Rattle.spec_match_compiler.specs.Values.{Place}
use Rattle.spec_ir.specs.declared.ty.Ty.{Ty}
use Rattle.spec_ir.specs.declared.declared.MapType.{MapType}
use Rattle.spec_ir.specs.Environment.{Environment, key_of, key_type}
use Rattle.semantics_values.specs.Types.{key_count}
use Rattle.abstract_value_laws.specs.Abs.{Abs, Cases, Parts, flag, word, made, map, no_case, absent, present, no_part, part, parts}
use Rattle.abstract_value_laws.specs.Keys.{CaseKeysFit, KeysFit, PartKeysFit}
use Rattle.abstract_value_laws.specs.OfValues.{absent_onto, case_count, one_case}
use Rattle.abstract_value_laws.proofs.Keyed.{join_keys_fit}
use Rattle.abstract_semantics.specs.Choices.{abs_at, abs_in, abs_part}
use Rattle.abstract_semantics.specs.Steps.{put_at}
use Rattle.abstract_semantics.proofs.Keyed.{IsBelow}
use Rattle.abstract_semantics.proofs.Stepped.{Invariant}
use Rattle.abstract_semantics.proofs.Typed.{AreOf}

-- ---- maps
module _ {W N C : Type 0} (B : Algebra W N C) (c : C) (P : ℕ → Type 0) where
  each_taken : (n : ℕ) (es : List (ℕ × AbstractCell W N)) → Each P (map_of (λ e. e.0) es) → Each P (map_of (λ e. e.0) (take n es))
  each_taken zero es h = tt
  each_taken (suc n) [] h = tt
  each_taken (suc n) (e ∷ es) h = (h.0, each_taken n es h.1)

  folded_keys : (cap : ℕ) (m : Map W N) → Each P (keys m) → Each P (keys (folded B c cap m))
  folded_keys cap m h = by_joins B.joins
    where
      by_joins : (b : Bool) → Each P (map_of (λ e. e.0) (cond b (take cap m.cells) m.cells))
      by_joins true = each_taken cap m.cells h
      by_joins false = h

  with_keys : (k : ℕ) (ks : List ℕ) → P k → Each P ks → Each P (with_key k ks)
  with_keys k ks p h = each_from P (with_key k ks) (λ i a. sorted i (with_only i k ks a))
    where
      sorted : (i : ℕ) → (i ≡ k) ⊎ IsAmong i ks → P i
      sorted i (inl e) = subst P (sym e) p
      sorted i (inr a) = each_at P ks i h a

  -- the key that is put has P, if it is one
  abbrev IsPut : Keys → Type 0
  IsPut (one k) = P k
  IsPut (some ks all) = Unit {0}

  update_keys : (cap : ℕ) (m : Map W N) (ks : Keys) (x : AbstractCell W N) → IsPut ks → Each P (keys m) → Each P (keys (update_of B c cap m ks x))
  update_keys cap m (one k) x p h = folded_keys cap (written m k x) (subst (Each P) (sym (keys_of_cells (with_key k (keys m)) _)) (with_keys k (keys m) p h))
  update_keys cap m (some ks all) x p h = subst (Each P) (sym (keys_of_cells (keys m) _)) h

absent_keys : (W N : Type 0) (env : Environment) (n : ℕ) → CaseKeysFit {W = W} {N = N} env (absent_onto n no_case)
absent_keys W N env zero = tt
absent_keys W N env (suc n) = absent_keys W N env n

module _ {W N : Type 0} (env : Environment) where
  -- ---- what stands at a place
  mutual
    at_keys : (place : Place) (x y : Abs W N) → KeysFit env x → abs_at place x ≡ Some y → KeysFit env y
    at_keys [] x y h e = let same : x ≡ y = cc in subst (KeysFit env) same h
    at_keys (step ∷ place) (made t cs) y h e = in_keys place step.0 step.1 cs y h e
    at_keys (step ∷ place) (flag t) y h e = absurd cc
    at_keys (step ∷ place) (word w x) y h e = absurd cc
    at_keys (step ∷ place) (map m x) y h e = absurd cc

    in_keys : (place : Place) (k i : ℕ) (cs : Cases W N) (y : Abs W N) → CaseKeysFit env cs → abs_in place k i cs ≡ Some y → KeysFit env y
    in_keys place k i no_case y h e = absurd cc
    in_keys place zero i (absent cs) y h e = absurd cc
    in_keys place zero i (present xs cs) y h e = part_keys place i xs y h.0 e
    in_keys place (suc k) i (absent cs) y h e = in_keys place k i cs y h e
    in_keys place (suc k) i (present xs cs) y h e = in_keys place k i cs y h.1 e

    part_keys : (place : Place) (i : ℕ) (xs : Parts W N) (y : Abs W N) → PartKeysFit env xs → abs_part place i xs ≡ Some y → KeysFit env y
    part_keys place i no_part y h e = absurd cc
    part_keys place zero (part x xs) y h e = at_keys place x y h.0 e
    part_keys place (suc i) (part x xs) y h e = part_keys place i xs y h.1 e

  -- ---- one constructor
  one_keys : (n k : ℕ) (xs : Parts W N) → PartKeysFit env xs → CaseKeysFit env (one_case n k xs)
  one_keys zero k xs h = tt
  one_keys (suc n) zero xs h = (h, absent_keys W N env n)
  one_keys (suc n) (suc k) xs h = one_keys n k xs h

  parts_keys : {C : Type 0} (B : Algebra W N C) (c : C) (cap : ℕ) (ts : List Ty) (xs : List (Abs W N)) → AreOf B c cap env (KeysFit env) ts xs → PartKeysFit env (parts xs)
  parts_keys B c cap [] [] h = tt
  parts_keys B c cap [] (x ∷ xs) h = absurd h
  parts_keys B c cap (t ∷ ts) [] h = absurd h
  parts_keys B c cap (t ∷ ts) (x ∷ xs) h = (h.0.also, parts_keys B c cap ts xs h.1)

module _ {W N C : Type 0} (B : Algebra W N C) (c : C) (cap : ℕ) (env : Environment) (a : ℕ) where
  put_keys : (m : ℕ) (ty : MapType) (x : Map W N) (ks : Keys) (v : W) → slice_get env.maps m ≡ Some ty → IsBelow (key_count env ty.key) ks → KeysFit env (map m x) → KeysFit env (map m (update_of B c cap x ks (put_at B c a v)))
  put_keys m ty x ks v e below h = update_keys B c (λ k. k < key_count env (key_type env m)) cap x ks (put_at B c a v) (put ks (subst (λ t. IsBelow (key_count env t) ks) (sym (ap key_of e)) below)) h
    where
      put : (ks : Keys) → IsBelow (key_count env (key_type env m)) ks → IsPut B c (λ k. k < key_count env (key_type env m)) ks
      put (one k) below = below
      put (some ks all) below = tt

  pub keeps_keys : Invariant B c cap env a (KeysFit env)
  keeps_keys = record {
    flags = λ t. tt;
    words = λ w x. tt;
    makes = λ d k ts xs h. one_keys env (case_count env d) k (parts xs) (parts_keys env B c cap ts xs h);
    fields = λ place x y h e. at_keys env place x y h e;
    joins = λ x y h k. join_keys_fit B c cap env x y h k;
    puts = λ m ty x ks v e b h. put_keys m ty x ks v e b h;
  }
