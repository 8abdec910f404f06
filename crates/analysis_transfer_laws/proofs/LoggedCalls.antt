-- Calls log uses of a property alone: of stamps of the arguments and of the instruction, and none at all where notes tell no stamps.
use Rattle.std.proofs.Common.{◌≡◌, ℕ, zero, suc, ◌<◌, false, List, [], Some, None, slice_get, refl, sym, ap, subst, ◌∙◌, arith}
use Rattle.std.specs.Prelude.{IfSome}
use Rattle.std.proofs.lemmas.Option.{slice_get_within}
use Rattle.base_trait.specs.Algebra.{Algebra}
use Rattle.base_trait.specs.Laws.{Laws}
use Rattle.base_trait.specs.Lists.{AreAmong, Each}
use Rattle.base_trait.specs.Uses.{Seen}
use Rattle.base_trait.specs.declared.uses.Stamp.{Stamp}
use Rattle.base_trait.proofs.Lists.{are_among_at, are_among_from}
use Rattle.abstract_map_laws.specs.Calls.{access_of}
use Rattle.abstract_map_laws.specs.Laws.{HasRoom}
use Rattle.abstract_map_laws.proofs.Reading.{access_lists}
use Rattle.spec_ir.specs.Environment.{Environment, Signature}
use Rattle.spec_ir.specs.Specification.{Spec, Fun}
use Rattle.semantics_values.specs.Types.{environment_of}
use Rattle.semantics.specs.Direct.{group_of}
use Rattle.semantics_laws.specs.Accepted.{IsAccepted}
use Rattle.semantics_laws.proofs.Turns.{FunOf, fun_of, signature_of}
use Rattle.abstract_value_laws.specs.Abs.{Abs}
use Rattle.abstract_value_laws.specs.Calls.{widen_of}
use Rattle.abstract_value_laws.specs.Shapes.{ListsStamps}
use Rattle.support_tail_fixpoint.specs.Groups.{EachIs, only as only_of}
use Rattle.support_tail_fixpoint.proofs.Groups.{only_is}
use Rattle.support_tail_fixpoint.specs.declared.policy.Policy.{Policy}
use Rattle.support_tail_fixpoint.specs.Answer.{IfGives, Yield, fails, gives}
use Rattle.support_tail_fixpoint.specs.Evaluation.{IsAnswer}
use Rattle.support_tail_fixpoint.specs.Laws.{StatesGoOn}
use Rattle.support_tail_fixpoint.proofs.Answered.{turns_are_evaluated}
use Rattle.abstract_semantics.specs.Answers.{Answer}
use Rattle.abstract_semantics.specs.Calls.{AreArguments, AreRight, moves}
use Rattle.abstract_semantics.specs.Keys.{named_key}
use Rattle.abstract_semantics.specs.Terms.{GroupArgs, group_turn, params_in, params_of}
use Rattle.abstract_semantics.proofs.Kept.{IsKept}
use Rattle.abstract_semantics.proofs.Typed.{IsOf, AreOf, are_fit, are_typed}
use Rattle.abstract_semantics.proofs.Stepped.{Invariant}
use Rattle.abstract_semantics.proofs.Termed.{ArgsOf, IsYield}
use Rattle.abstract_semantics.proofs.Called.{all_fine, calls_kept, keeps_args, keys_fine, right_of, turn_gives}
use Rattle.abstract_semantics.proofs.Plain.{are_arguments, signed}
use Rattle.fixpoint_theory.proofs.Bounded.{each_weaker}
use Rattle.analysis_transfer_laws.proofs.Logs.{IsLogged}
use Rattle.analysis_transfer_laws.proofs.LoggedTerms.{ReadsAre}
use Rattle.analysis_transfer_laws.proofs.LoggedTurns.{group_logged}

module _ {W N C : Type 0} (B : Algebra W N C) (laws : Laws W N C B) (c : C) (cap : ℕ) (spec : Spec) (a : ℕ) (P : Abs W N → Type 0) (inv : Invariant B c cap (environment_of spec) a P)
    (widens : (x y : Abs W N) → P x → P y → P (widen_of B c x y)) (room : HasRoom B cap) (ok : IsAccepted spec) (policy : Policy) (calls : ℕ → List (Abs W N) → Answer (Abs W N)) (right : AreRight B c cap spec a policy calls)
    (U : Seen → Type 0) (reads : ReadsAre B c (environment_of spec) P U) where
  abbrev Fits : ℕ → GroupArgs W N → Type 0
  Fits g = EachIs (ArgsOf B laws c cap spec a P g)

  abbrev LoggedBelow : ℕ → Type 0
  LoggedBelow n = (f : ℕ) (s : Signature) (xs : List (Abs W N)) → ok.rank (group_of spec f) < n → slice_get (environment_of spec).funs f ≡ Some s → AreOf B c cap (environment_of spec) P s.params xs → IsLogged U (calls f xs)

  kept_below : (n f : ℕ) (s : Signature) (xs : List (Abs W N)) → ok.rank (group_of spec f) < n → slice_get (environment_of spec).funs f ≡ Some s → AreOf B c cap (environment_of spec) P s.params xs
      → IsKept (Unit {0}) (IsOf B c cap (environment_of spec) P s.result_type) [] (calls f xs)
  kept_below n f s xs lt e h = calls_kept B laws c cap spec a P inv widens room ok (Unit {0}) policy calls (all_fine B c cap policy) right n f s xs lt e h

  next_of_yield : (g : ℕ) (fun : Fun) (l : List Seen) (r : Answer (Yield (GroupArgs W N) (Abs W N))) → IsKept (Unit {0}) (IsYield B laws c cap spec a P g fun.result_type) l r → IfGives r (λ y. IfSome y.next (Fits g))
  next_of_yield g fun l (fails i) h = tt
  next_of_yield g fun l (gives None m) h = tt
  next_of_yield g fun l (gives (Some y) m) h = h.0.next

  activation_logged : (f : ℕ) (fun : Fun) → slice_get spec.funs f ≡ Some fun → LoggedBelow (ok.rank (group_of spec f)) → (args : GroupArgs W N) → Fits (group_of spec f) args → (answer : Answer (Abs W N))
      → IsAnswer f (group_turn B c cap spec a calls (group_of spec f)) (moves B c cap) policy args [] answer → IsLogged U answer
  activation_logged f fun e below args h (fails i) is = tt
  activation_logged f fun e below args h (gives leaves last) is =
      (turns_are_evaluated (Fits (group_of spec f)) (λ l m. Each U l → Each U m) (moves B c cap) policy f (group_turn B c cap spec a calls (group_of spec f)) args [] last leaves
      (keeps_args B laws c cap spec a P inv widens room ok (group_of spec f)) next_given go_on h is).1 tt
    where
      next_given : (gs : GroupArgs W N) (l : List Seen) → Fits (group_of spec f) gs → IfGives (group_turn B c cap spec a calls (group_of spec f) gs l) (λ y. IfSome y.next (Fits (group_of spec f)))
      next_given gs l k =
          next_of_yield (group_of spec f) fun l _ (turn_gives B laws c cap spec a P inv widens room ok (Unit {0}) policy calls (all_fine B c cap policy) f fun e (kept_below (ok.rank (group_of spec f))) gs k l)

      go_on : StatesGoOn (group_turn B c cap spec a calls (group_of spec f)) (Fits (group_of spec f)) (λ l m. Each U l → Each U m)
      go_on = record {
        itself = λ l k. k;
        on = λ l m n f g k. g (f k);
        turns = λ gs l y later k gave each. subst (IsLogged U) gave
            (group_logged B laws c cap spec a P inv room ok.types (keys_fine spec ok) U reads calls ok.rank (group_of spec f) (kept_below (ok.rank (group_of spec f))) below fun.result_type
            (right_of B laws c cap spec a P inv widens room ok f fun e) gs k l each);
      }

  calls_logged : (n : ℕ) → LoggedBelow n
  calls_logged zero f s xs lt e h = absurd (omega (arith, lt))
  calls_logged (suc n) f s xs lt e h = at (fun_of spec f s e) (λ g r ys small. calls_logged n g r ys (omega (arith, small, lt)))
    where
      at : FunOf spec f s → LoggedBelow (ok.rank (group_of spec f)) → IsLogged U (calls f xs)
      at fun below =
          let params : s.params ≡ params_of spec f = ap (λ z. z.params) (sym fun.same) ∙ sym (ap params_in fun.is) in
          let are : AreOf B c cap (environment_of spec) P (params_of spec f) xs = subst (λ ts. AreOf B c cap (environment_of spec) P ts xs) params h in
          let here = slice_get_within spec.funs f fun.fun fun.is in
          activation_logged f fun.fun fun.is below (only_of f xs) (only_is (ArgsOf B laws c cap spec a P (group_of spec f)) f xs (record { there = here; of_group = refl; are = are })) (calls f xs)
          (right.answered f xs here (record { typed = are_typed B c cap (environment_of spec) P (params_of spec f) xs are; fit = are_fit B c cap (environment_of spec) P (params_of spec f) xs are }))

  pub call_logged : (f : ℕ) (fun : Fun) (xs : List (Abs W N)) → slice_get spec.funs f ≡ Some fun → AreArguments B c cap spec f xs → Each P xs → IsLogged U (calls f xs)
  call_logged f fun xs e args k = calls_logged (suc (ok.rank (group_of spec f))) f (signature_of fun) xs (omega arith) (signed spec f fun e) (are_arguments B c cap P spec f fun xs e args k)

module _ {W N C : Type 0} (B : Algebra W N C) (laws : Laws W N C B) (c : C) (env : Environment) where
  -- reads of a map have stamps that it lists
  pub reads_listed : (stamps : List Stamp) → ReadsAre B c env (ListsStamps B stamps) (λ u. AreAmong u.stamps stamps)
  reads_listed stamps m x ks below h =
      let lists = access_lists B laws c stamps x ks h in
      let note = (access_of B c x ks).note in
      each_weaker (λ u. AreAmong u.stamps (B.notes.listed note)) (λ u. AreAmong u.stamps stamps)
      (λ u k. are_among_from u.stamps stamps (λ s i. are_among_at (B.notes.listed note) stamps s lists (are_among_at u.stamps (B.notes.listed note) s k i)))
      (B.notes.reads m (named_key ks) note) (laws.notes.reads_list m (named_key ks) note)

  -- of notes that tell no stamps there are no reads
  pub reads_none : (P : Abs W N → Type 0) → B.notes.stamped ≡ false → ReadsAre B c env P (λ u. ⊥)
  reads_none P e m x ks below h = subst (λ l. Each (λ u. ⊥) l) (sym (laws.notes.reads_nothing m (named_key ks) (access_of B c x ks).note e)) tt
