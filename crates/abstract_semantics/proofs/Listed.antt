-- Values of calls list the stamps of arguments and that of the instruction alone.
use Rattle.std.proofs.Common.{◌≡◌, ℕ, zero, suc, List, [], ◌∷◌, Option, Some, None, slice_get, refl, sym, subst, inl, inr}
use Rattle.base_trait.specs.Algebra.{Algebra}
use Rattle.base_trait.specs.Laws.{Laws}
use Rattle.base_trait.specs.Lists.{Each, IsAmong}
use Rattle.base_trait.specs.declared.uses.Stamp.{Stamp}
use Rattle.base_trait.specs.declared.uses.Stamp.TheVariants.{At}
use Rattle.base_trait.proofs.Lists.{are_among_at, are_among_from}
use Rattle.abstract_map_laws.specs.Cells.{ListsOnly}
use Rattle.abstract_map_laws.proofs.Writing.{update_lists}
use Rattle.spec_match_compiler.specs.Values.{Place}
use Rattle.spec_ir.specs.declared.ty.Ty.{Ty}
use Rattle.spec_ir.specs.Environment.{Environment}
use Rattle.spec_ir.specs.Specification.{Fun}
use Rattle.semantics_values.specs.Types.{environment_of}
use Rattle.abstract_value_laws.specs.Abs.{Abs, Cases, Parts, flag, word, made, map, no_case, absent, present, no_part, part, parts}
use Rattle.abstract_value_laws.specs.Shapes.{CasesList, ListsStamps, PartsList}
use Rattle.abstract_value_laws.proofs.Joining.{join_lists}
use Rattle.abstract_value_laws.proofs.Widening.{widen_lists}
use Rattle.abstract_value_laws.specs.OfValues.{absent_onto, case_count, one_case}
use Rattle.support_tail_fixpoint.specs.Answer.{IfGives, fails, gives}
use Rattle.abstract_semantics.specs.Answers.{Answer}
use Rattle.abstract_semantics.specs.Choices.{abs_at, abs_in, abs_part}
use Rattle.abstract_semantics.specs.Laws.{CallsListStamps}
use Rattle.abstract_semantics.specs.Steps.{put_at}
use Rattle.abstract_semantics.proofs.Called.{all_fine}
use Rattle.abstract_semantics.proofs.Kept.{IsKept}
use Rattle.abstract_semantics.proofs.Plain.{call_kept, past}
use Rattle.abstract_semantics.proofs.Stepped.{Invariant}
use Rattle.abstract_semantics.proofs.Typed.{AreOf, IsOf}

module _ {W N C : Type 0} (B : Algebra W N C) (stamps : List Stamp) where
  -- ---- what stands at a place
  mutual
    at_lists : (place : Place) (x y : Abs W N) → ListsStamps B stamps x → abs_at place x ≡ Some y → ListsStamps B stamps y
    at_lists [] x y h e = let same : x ≡ y = cc in subst (ListsStamps B stamps) same h
    at_lists (step ∷ place) (made t cs) y h e = in_lists place step.0 step.1 cs y h e
    at_lists (step ∷ place) (flag t) y h e = absurd cc
    at_lists (step ∷ place) (word w x) y h e = absurd cc
    at_lists (step ∷ place) (map m x) y h e = absurd cc

    in_lists : (place : Place) (k i : ℕ) (cs : Cases W N) (y : Abs W N) → CasesList B stamps cs → abs_in place k i cs ≡ Some y → ListsStamps B stamps y
    in_lists place k i no_case y h e = absurd cc
    in_lists place zero i (absent cs) y h e = absurd cc
    in_lists place zero i (present xs cs) y h e = part_lists place i xs y h.0 e
    in_lists place (suc k) i (absent cs) y h e = in_lists place k i cs y h e
    in_lists place (suc k) i (present xs cs) y h e = in_lists place k i cs y h.1 e

    part_lists : (place : Place) (i : ℕ) (xs : Parts W N) (y : Abs W N) → PartsList B stamps xs → abs_part place i xs ≡ Some y → ListsStamps B stamps y
    part_lists place i no_part y h e = absurd cc
    part_lists place zero (part x xs) y h e = at_lists place x y h.0 e
    part_lists place (suc i) (part x xs) y h e = part_lists place i xs y h.1 e

  -- ---- one constructor
  absent_lists : (n : ℕ) → CasesList B stamps (absent_onto n no_case)
  absent_lists zero = tt
  absent_lists (suc n) = absent_lists n

  one_lists : (n k : ℕ) (xs : Parts W N) → PartsList B stamps xs → CasesList B stamps (one_case n k xs)
  one_lists zero k xs h = tt
  one_lists (suc n) zero xs h = (h, absent_lists n)
  one_lists (suc n) (suc k) xs h = one_lists n k xs h

  pub parts_list : (xs : List (Abs W N)) → Each (ListsStamps B stamps) xs → PartsList B stamps (parts xs)
  parts_list [] h = tt
  parts_list (x ∷ xs) h = (h.0, parts_list xs h.1)

  pub each_lists : (xs : List (Abs W N)) → PartsList B stamps (parts xs) → Each (ListsStamps B stamps) xs
  each_lists [] h = tt
  each_lists (x ∷ xs) h = (h.0, each_lists xs h.1)

  each_also : (c : C) (cap : ℕ) (env : Environment) (P : Abs W N → Type 0) (ts : List Ty) (xs : List (Abs W N)) → AreOf B c cap env P ts xs → Each P xs
  each_also c cap env P [] [] h = tt
  each_also c cap env P [] (x ∷ xs) h = absurd h
  each_also c cap env P (t ∷ ts) [] h = absurd h
  each_also c cap env P (t ∷ ts) (x ∷ xs) h = (h.0.also, each_also c cap env P ts xs h.1)

module _ {W N C : Type 0} (B : Algebra W N C) (laws : Laws W N C B) where
  -- a note of an instruction lists its address
  put_lists : (c : C) (a : ℕ) (stamps : List Stamp) (v : W) → ListsOnly B (At a ∷ stamps) (put_at B c a v)
  put_lists c a stamps v = are_among_from (B.notes.listed (B.notes.at a)) (At a ∷ stamps) (λ s h. more s (are_among_at (B.notes.listed (B.notes.at a)) (At a ∷ []) s (laws.notes.at_lists a) h))
    where
      more : (s : Stamp) → IsAmong s (At a ∷ []) → IsAmong s (At a ∷ stamps)
      more s (inl e) = inl e
      more s (inr h) = absurd h

  pub keeps_stamps : (c : C) (cap : ℕ) (env : Environment) (a : ℕ) (stamps : List Stamp) → Invariant B c cap env a (ListsStamps B (At a ∷ stamps))
  keeps_stamps c cap env a stamps = record {
    flags = λ t. tt;
    words = λ w x. tt;
    makes = λ d k ts xs h. one_lists B (At a ∷ stamps) (case_count env d) k (parts xs) (parts_list B (At a ∷ stamps) xs (each_also B (At a ∷ stamps) c cap env (ListsStamps B (At a ∷ stamps)) ts xs h));
    fields = λ place x y h e. at_lists B (At a ∷ stamps) place x y h e;
    joins = λ x y h k. join_lists B laws c cap (At a ∷ stamps) x y h k;
    puts = λ m ty x ks v d b h. update_lists B laws c cap (At a ∷ stamps) x ks (put_at B c a v) h (put_lists c a stamps v);
  }

  pub calls_list_stamps : CallsListStamps B
  calls_list_stamps spec c cap a policy calls stamps f xs ok room turn right args h = at (slice_get spec.funs f) refl
    where
      lists : (ty : Ty) (r : Answer (Abs W N)) → IsKept (Unit {0}) (IsOf B c cap (environment_of spec) (ListsStamps B (At a ∷ stamps)) ty) [] r → IfGives r (ListsStamps B (At a ∷ stamps))
      lists ty (fails i) k = tt
      lists ty (gives None l) k = tt
      lists ty (gives (Some x) l) k = k.0.also

      at : (o : Option Fun) → slice_get spec.funs f ≡ o → IfGives (calls f xs) (ListsStamps B (At a ∷ stamps))
      at None e = subst (λ r. IfGives r (ListsStamps B (At a ∷ stamps))) (sym (right.missing f xs (past spec.funs f e))) tt
      at (Some fun) e = lists fun.result_type (calls f xs)
          (call_kept B laws c cap spec a (ListsStamps B (At a ∷ stamps)) (keeps_stamps c cap (environment_of spec) a stamps) (λ x y p q. widen_lists B laws c (At a ∷ stamps) x y p q) room ok (Unit {0}) policy calls
          (all_fine B c cap policy) right f fun xs e args (each_lists B (At a ∷ stamps) xs h))
