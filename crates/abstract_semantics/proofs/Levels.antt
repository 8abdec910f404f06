-- Calls exist where each activation has an answer: level by level, by the ranks of groups.
use Rattle.std.proofs.Common.{◌≡◌, ℕ, zero, suc, ◌<◌, ◌≤◌, Bool, true, false, cond, List, [], ◌∷◌, length, Option, Some, None, slice_get, refl, sym, ap, subst, ◌∙◌, arith, inr}
use Rattle.std.specs.Prelude.{◌==◌}
use Rattle.std.proofs.lemmas.Bool.{false≢true}
use Rattle.std.proofs.lemmas.Bool.Decides.{nat_tests}
use Rattle.std.proofs.lemmas.Option.{slice_get_within}
use Rattle.base_trait.specs.Algebra.{Algebra}
use Rattle.base_trait.specs.Laws.{Laws}
use Rattle.base_trait.specs.declared.uses.Stamp.{Stamp}
use Rattle.base_trait.specs.declared.uses.Stamp.TheVariants.{At}
use Rattle.abstract_map_laws.specs.Laws.{HasRoom}
use Rattle.spec_ir.specs.Environment.{Signature}
use Rattle.spec_ir.specs.Specification.{Spec, Fun}
use Rattle.semantics_values.specs.Types.{environment_of}
use Rattle.semantics.specs.Direct.{group_of}
use Rattle.semantics_laws.specs.Accepted.{IsAccepted}
use Rattle.semantics_laws.proofs.Turns.{signature_of}
use Rattle.abstract_value_laws.specs.Abs.{Abs, parts}
use Rattle.abstract_value_laws.specs.Shapes.{ListsStamps}
use Rattle.abstract_value_laws.proofs.Widening.{widen_lists}
use Rattle.abstract_value_laws.specs.Types.{have_types}
use Rattle.support_tail_fixpoint.specs.Groups.{EachIs, only as only_of}
use Rattle.support_tail_fixpoint.proofs.Groups.{only_is}
use Rattle.support_tail_fixpoint.specs.declared.policy.Policy.{Policy}
use Rattle.support_tail_fixpoint.specs.Answer.{gives}
use Rattle.abstract_semantics.specs.Answers.{Answer}
use Rattle.abstract_semantics.specs.Calls.{AreArguments, AreRight, IsCallAnswer}
use Rattle.abstract_semantics.specs.Terms.{params_in, params_of}
use Rattle.abstract_semantics.proofs.Called.{all_fine, answer_kept}
use Rattle.abstract_semantics.proofs.Carried.{carried}
use Rattle.abstract_semantics.proofs.Kept.{IsKept, keeps_itself}
use Rattle.abstract_semantics.proofs.Listed.{each_lists, keeps_stamps}
use Rattle.abstract_semantics.specs.OwnStamps.{part_stamps}
use Rattle.abstract_semantics.specs.Tests.{parts_fit}
use Rattle.abstract_semantics.proofs.OwnStamps.{own_list}
use Rattle.abstract_semantics.proofs.Plain.{are_given, past, signed}
use Rattle.abstract_semantics.proofs.Termed.{ArgsOf}
use Rattle.abstract_semantics.proofs.Tested.{parts_tell, parts_told}
use Rattle.abstract_semantics.proofs.Typed.{AreOf, IsOf}

module _ {W N C : Type 0} (B : Algebra W N C) (c : C) (cap : ℕ) (spec : Spec) (a : ℕ) where
  -- Calls give values of their types, which fit and list no stamps but those of arguments and that of the instruction.
  abbrev pub AreKept : (ℕ → List (Abs W N) → Answer (Abs W N)) → Type 0
  AreKept calls = (stamps : List Stamp) (f : ℕ) (s : Signature) (xs : List (Abs W N)) → slice_get (environment_of spec).funs f ≡ Some s → AreOf B c cap (environment_of spec) (ListsStamps B (At a ∷ stamps)) s.params xs
      → IsKept (Unit {0}) (IsOf B c cap (environment_of spec) (ListsStamps B (At a ∷ stamps)) s.result_type) [] (calls f xs)

  -- By such calls, a call on arguments has an answer.
  abbrev pub Answered : Policy → Type 0
  Answered policy = (calls : ℕ → List (Abs W N) → Answer (Abs W N)) (f : ℕ) (fun : Fun) (xs : List (Abs W N)) → AreKept calls → slice_get spec.funs f ≡ Some fun → AreArguments B c cap spec f xs
      → (answer : Answer (Abs W N)) × IsCallAnswer B c cap spec a policy calls f xs answer

  pub record Level : Type 0 where
    pub calls : ℕ → List (Abs W N) → Answer (Abs W N)
    pub kept : AreKept calls

module _ {W N C : Type 0} (B : Algebra W N C) (laws : Laws W N C B) (c : C) (cap : ℕ) (spec : Spec) (a : ℕ) where
  -- arguments list their own stamps
  pub own : (f : ℕ) (xs : List (Abs W N)) → AreArguments B c cap spec f xs → AreOf B c cap (environment_of spec) (ListsStamps B (At a ∷ part_stamps B (parts xs))) (params_of spec f) xs
  own f xs args = are_given B c cap (ListsStamps B (At a ∷ part_stamps B (parts xs))) (environment_of spec) (params_of spec f) xs args.typed args.fit
      (each_lists B (At a ∷ part_stamps B (parts xs)) xs (own_list B (At a ∷ part_stamps B (parts xs)) (parts xs) (λ s k. inr k)))

  pub own_args : (f : ℕ) (fun : Fun) (xs : List (Abs W N)) → slice_get spec.funs f ≡ Some fun → AreArguments B c cap spec f xs
      → EachIs (ArgsOf B laws c cap spec a (ListsStamps B (At a ∷ part_stamps B (parts xs))) (group_of spec f)) (only_of f xs)
  own_args f fun xs e args = only_is (ArgsOf B laws c cap spec a (ListsStamps B (At a ∷ part_stamps B (parts xs))) (group_of spec f)) f xs
      (record { there = slice_get_within spec.funs f fun e; of_group = refl; are = own f xs args })

module _ {W N C : Type 0} (B : Algebra W N C) (laws : Laws W N C B) (c : C) (cap : ℕ) (spec : Spec) (a : ℕ) (room : HasRoom B cap) (ok : IsAccepted spec) (policy : Policy) (answered : Answered B c cap spec a policy) where
  -- ---- one call
  pub record Called (lv : Level B c cap spec a) (f : ℕ) (xs : List (Abs W N)) : Type 0 where
    pub answer : Answer (Abs W N)
    pub kept : (stamps : List Stamp) (s : Signature) → slice_get (environment_of spec).funs f ≡ Some s → AreOf B c cap (environment_of spec) (ListsStamps B (At a ∷ stamps)) s.params xs
        → IsKept (Unit {0}) (IsOf B c cap (environment_of spec) (ListsStamps B (At a ∷ stamps)) s.result_type) [] answer
    pub missing : length spec.funs ≤ f → answer ≡ gives None []
    pub untyped : have_types (environment_of spec) (parts xs) (params_of spec f) ≡ false → answer ≡ gives None []
    pub is : f < length spec.funs → AreArguments B c cap spec f xs → IsCallAnswer B c cap spec a policy lv.calls f xs answer

  module _ (lv : Level B c cap spec a) (f : ℕ) (xs : List (Abs W N)) where
    no_call : (f < length spec.funs → AreArguments B c cap spec f xs → ⊥) → Called lv f xs
    no_call never = record {
      answer = gives None [];
      kept = λ stamps s e h. (tt, keeps_itself []);
      missing = λ le. refl;
      untyped = λ e. refl;
      is = λ lt args. absurd (never lt args);
    }

    a_call : (fun : Fun) → slice_get spec.funs f ≡ Some fun → AreArguments B c cap spec f xs → Called lv f xs
    a_call fun e args = record {
      answer = found.0;
      kept = λ stamps s d h. at_stamps stamps s (same s d) h;
      missing = λ le. (let lt = slice_get_within spec.funs f fun e in absurd (omega (arith, lt, le)));
      untyped = λ n. absurd (false≢true (sym n ∙ args.typed));
      is = λ lt k. found.1;
    }
      where
        found : (answer : Answer (Abs W N)) × IsCallAnswer B c cap spec a policy lv.calls f xs answer
        found = answered lv.calls f fun xs lv.kept e args

        same : (s : Signature) → slice_get (environment_of spec).funs f ≡ Some s → signature_of fun ≡ s
        same s d = let both = sym (signed spec f fun e) ∙ d in cc

        at_stamps : (stamps : List Stamp) (s : Signature) → signature_of fun ≡ s → AreOf B c cap (environment_of spec) (ListsStamps B (At a ∷ stamps)) s.params xs
            → IsKept (Unit {0}) (IsOf B c cap (environment_of spec) (ListsStamps B (At a ∷ stamps)) s.result_type) [] found.0
        at_stamps stamps s is h =
            let params : s.params ≡ params_of spec f = ap (λ z. z.params) (sym is) ∙ sym (ap params_in e) in
            subst (λ z. IsKept (Unit {0}) (IsOf B c cap (environment_of spec) (ListsStamps B (At a ∷ stamps)) z) [] found.0) (ap (λ z. z.result_type) is)
            (answer_kept B laws c cap spec a (ListsStamps B (At a ∷ stamps)) (keeps_stamps B laws c cap (environment_of spec) a stamps) (λ x y p q. widen_lists B laws c (At a ∷ stamps) x y p q) room ok
            (Unit {0}) policy lv.calls (all_fine B c cap policy) f fun e (λ g r ys lt d k. lv.kept stamps g r ys d k) (only_of f xs) found.0
            (only_is (ArgsOf B laws c cap spec a (ListsStamps B (At a ∷ stamps)) (group_of spec f)) f xs
            (record { there = slice_get_within spec.funs f fun e; of_group = refl; are = subst (λ ts. AreOf B c cap (environment_of spec) (ListsStamps B (At a ∷ stamps)) ts xs) params h })) found.1)

    called : Called lv f xs
    called = at (slice_get spec.funs f) refl (have_types (environment_of spec) (parts xs) (params_of spec f)) refl (parts_fit B c cap (parts xs)) refl
      where
        at : (o : Option Fun) → slice_get spec.funs f ≡ o → (t : Bool) → have_types (environment_of spec) (parts xs) (params_of spec f) ≡ t → (b : Bool) → parts_fit B c cap (parts xs) ≡ b → Called lv f xs
        at None e t h b k = no_call (λ lt args. (let le = past spec.funs f e in omega (arith, lt, le)))
        at (Some fun) e false h b k = no_call (λ lt args. false≢true (sym h ∙ args.typed))
        at (Some fun) e true h false k = no_call (λ lt args. false≢true (sym k ∙ parts_tell B laws c cap (parts xs) args.fit))
        at (Some fun) e true h true k = a_call fun e (record { typed = h; fit = parts_told B laws c cap (parts xs) k })

  -- ---- levels: at each, calls of the groups of its rank, beside those of lower ones
  abbrev next_call : (n : ℕ) (lv : Level B c cap spec a) (f : ℕ) (xs : List (Abs W N)) → Answer (Abs W N)
  next_call n lv f xs = cond (ok.rank (group_of spec f) == n) (called lv f xs).answer (lv.calls f xs)

  next_kept : (n : ℕ) (lv : Level B c cap spec a) → AreKept B c cap spec a (next_call n lv)
  next_kept n lv stamps f s xs e h = at (ok.rank (group_of spec f) == n)
    where
      at : (b : Bool) → IsKept (Unit {0}) (IsOf B c cap (environment_of spec) (ListsStamps B (At a ∷ stamps)) s.result_type) [] (cond b (called lv f xs).answer (lv.calls f xs))
      at true = (called lv f xs).kept stamps s e h
      at false = lv.kept stamps f s xs e h

  abbrev level : ℕ → Level B c cap spec a
  level zero = record { calls = λ f xs. gives None []; kept = λ stamps f s xs e h. (tt, keeps_itself []) }
  level (suc n) = record { calls = next_call n (level n); kept = next_kept n (level n) }

  -- ---- all calls: each by the level of its group
  abbrev the_calls : ℕ → List (Abs W N) → Answer (Abs W N)
  the_calls f xs = (called (level (ok.rank (group_of spec f))) f xs).answer

  settles : (n f : ℕ) (xs : List (Abs W N)) → ok.rank (group_of spec f) < n → (level n).calls f xs ≡ the_calls f xs
  settles zero f xs lt = absurd (omega (arith, lt))
  settles (suc n) f xs lt = at (ok.rank (group_of spec f) == n) refl (λ lower. settles n f xs lower)
    where
      at : (b : Bool) → (ok.rank (group_of spec f) == n) ≡ b → (ok.rank (group_of spec f) < n → (level n).calls f xs ≡ the_calls f xs) → cond b (called (level n) f xs).answer ((level n).calls f xs) ≡ the_calls f xs
      at true e later = let same : ok.rank (group_of spec f) ≡ n = grind (arith, nat_tests) in ap (λ k. (called (level k) f xs).answer) (sym same)
      at false e later = later (grind (arith, nat_tests))

  right : AreRight B c cap spec a policy the_calls
  right = record {
    missing = λ f xs le. (called (level (ok.rank (group_of spec f))) f xs).missing le;
    untyped = λ f xs e. (called (level (ok.rank (group_of spec f))) f xs).untyped e;
    answered = λ f xs lt args. at f xs lt args (slice_get spec.funs f) refl;
  }
    where
      at : (f : ℕ) (xs : List (Abs W N)) → f < length spec.funs → AreArguments B c cap spec f xs → (o : Option Fun) → slice_get spec.funs f ≡ o → IsCallAnswer B c cap spec a policy the_calls f xs (the_calls f xs)
      at f xs lt args None e = let le = past spec.funs f e in absurd (omega (arith, lt, le))
      at f xs lt args (Some fun) e =
          carried B laws c cap spec a (ListsStamps B (At a ∷ part_stamps B (parts xs))) (keeps_stamps B laws c cap (environment_of spec) a (part_stamps B (parts xs)))
          (λ x y p q. widen_lists B laws c (At a ∷ part_stamps B (parts xs)) x y p q) room ok policy (level (ok.rank (group_of spec f))).calls f fun e
          (λ g r ys small d k. (level (ok.rank (group_of spec f))).kept (part_stamps B (parts xs)) g r ys d k) the_calls (λ g r ys small d k. settles (ok.rank (group_of spec f)) g ys small)
          xs (the_calls f xs) (own_args B laws c cap spec a f fun xs e args) ((called (level (ok.rank (group_of spec f))) f xs).is lt args)

  pub calls_exist : (calls : ℕ → List (Abs W N) → Answer (Abs W N)) × AreRight B c cap spec a policy calls
  calls_exist = (the_calls, right)
