-- Activations go on turn by turn.
use Rattle.std.proofs.Common.{◌≡◌, ℕ, ◌<◌, ◌≤◌, List, [], length, Option, Some, None, slice_get, refl, sym, ap, subst, ◌∙◌, arith, IsTrue}
use Rattle.std.specs.Prelude.{IfSome}
use Rattle.base_trait.specs.Algebra.{Algebra}
use Rattle.base_trait.specs.Laws.{Laws}
use Rattle.base_trait.specs.Uses.{Seen}
use Rattle.base_trait.specs.declared.uses.Stamp.{Stamp}
use Rattle.spec_ir.specs.Specification.{Spec, Fun}
use Rattle.semantics_values.specs.Types.{environment_of}
use Rattle.abstract_value_laws.specs.Abs.{Abs, parts}
use Rattle.abstract_value_laws.specs.Calls.{widen_of}
use Rattle.abstract_value_laws.specs.Shapes.{ListsStamps}
use Rattle.abstract_value_laws.proofs.Widening.{widen_lists}
use Rattle.support_tail_fixpoint.specs.declared.driver_request.DriverRequest.{DriverRequest}
use Rattle.support_tail_fixpoint.specs.declared.driver_request.DriverRequest.TheVariants.{Out, Turn}
use Rattle.support_tail_fixpoint.specs.declared.policy.Policy.{Policy}
use Rattle.support_tail_fixpoint.specs.declared.policy.Policy.TheVariants.{Stop, Widen}
use Rattle.support_tail_fixpoint.specs.Activation.{Activation, Answers, Fits, start}
use Rattle.support_tail_fixpoint.specs.Answer.{Yield, fails, gives, next_of, out_of}
use Rattle.support_tail_fixpoint.specs.Driving.{Remaining, RemainingAfter}
use Rattle.support_tail_fixpoint.specs.Meaning.{ArgsFit, OutFits}
use Rattle.support_tail_fixpoint.specs.Measure as numbers
use Rattle.support_tail_fixpoint.specs.Measure.{CanEnd, Falls}
use Rattle.support_tail_fixpoint.proofs.Measured.{measures_fall}
use Rattle.support_tail_fixpoint.proofs.Remains.{answers_are_driven, turn_failed, turn_taken}
use Rattle.support_tail_fixpoint.specs.Groups.{EachIs, only}
use Rattle.support_tail_fixpoint.proofs.Groups.{each_weaker}
use Rattle.eval_group_turns.specs.Kept.{args_are, args_fit}
use Rattle.eval_group_turns.specs.Turning.{stamps_from}
use Rattle.eval_group_turns.proofs.Turns.{can_end, rank_high}
use Rattle.abstract_semantics.specs.Answers.{Answer}
use Rattle.abstract_semantics.specs.Calls.{AreArguments, moves}
use Rattle.abstract_semantics.specs.Terms.{GroupArgs}
use Rattle.abstract_semantics.proofs.Called.{all_fine, calls_kept, turn_gives}
use Rattle.abstract_semantics.proofs.Kept.{IsKept}
use Rattle.abstract_semantics.proofs.Levels.{own_args}
use Rattle.abstract_semantics.proofs.Listed.{keeps_stamps}
use Rattle.abstract_semantics.specs.OwnStamps.{part_stamps}
use Rattle.abstract_semantics.proofs.Plain.{past}
use Rattle.abstract_semantics.proofs.Termed as termed
use Rattle.abstract_semantics.proofs.Termed.{IsYield}
use Rattle.abstract_semantics.proofs.Tested.{fit_tells}
use Rattle.abstract_semantics.proofs.Typed.{IsOf}
use Rattle.eval_activation.specs.declared.activity.Activity.{Activity}
use Rattle.eval_memo.specs.declared.setting.Setting.{Setting}
use Rattle.eval_activation.specs.Activities.{Goes, Taken, due, meaning, measure, standing, turns_from}
use Rattle.abstract_semantics.specs.CallLaws.{JoinsUnder}
use Rattle.eval_memo.specs.Ready.{AreGroupArgs, ArgsOf, IsReady}
use Rattle.eval_memo.specs.Settings.{group_of, group_turn, spec_of}
use Rattle.eval_activation.proofs.JoinedYields.{from_any}

-- What is answered to two sides is answered to what has them.
pub answered : {X Y W N C : Type 0} (B : Algebra W N C) (cap : ℕ) (spec : Spec) (old new : Activity X Y W N C) (out : Option (Abs W N)) (next : Option (GroupArgs W N)) (y : Option (Yield (GroupArgs W N) (Abs W N))) (asked : DriverRequest (Abs W N))
    → out ≡ out_of y → next ≡ next_of y → Answers (meaning B cap spec old).moves (standing old) out next asked (standing new) → Answers (meaning B cap spec old).moves (standing old) (out_of y) (next_of y) asked (standing new)
answered B cap spec old new out next y asked is_out is_next h =
    let m = (meaning B cap spec old).moves in
    subst (λ z. Answers m (standing old) z (next_of y) asked (standing new)) is_out (subst (λ z. Answers m (standing old) out z asked (standing new)) is_next h)

module _ {X W N C : Type 0} (B : Algebra W N C) (laws : Laws W N C B) (cap : ℕ) (s : Setting X W N C) (spec : Spec) (calls : ℕ → List (Abs W N) → Answer (Abs W N)) (ready : IsReady B cap s spec calls)
    (f : ℕ) where
  abbrev own_stamps : List (Abs W N) → List Stamp
  own_stamps args = stamps_from B s.at args

  -- under the policy of the setting an activation ends
  ends : (args : List (Abs W N)) (policy : Policy) → JoinsUnder B policy → CanEnd (turns_from B cap s f args) policy
  ends args (Stop turns) h = tt
  ends args (Widen unroll delay) h = can_end B laws s.ctx.now cap (spec_of s) s.at (own_stamps args) (group_of s f) ready.accepted.types h

  module _ (there : f < length (spec_of s).funs) where
    with_fun : {P : Type 0} → ((fun : Fun) → slice_get (spec_of s).funs f ≡ Some fun → P) → P
    with_fun {P} go = at (slice_get (spec_of s).funs f) refl
      where
        at : (o : Option Fun) → slice_get (spec_of s).funs f ≡ o → P
        at None e = let le = past (spec_of s).funs f e in absurd (omega (arith, there, le))
        at (Some fun) e = go fun e

    first_fits : (args : List (Abs W N)) → AreArguments B s.ctx.now cap (spec_of s) f args → ArgsFit (turns_from B cap s f args) (only f args)
    first_fits args are = args_fit B laws s.ctx.now cap (spec_of s) s.at (own_stamps args) (group_of s f) (only f args)
        (with_fun (λ fun e. own_args B laws s.ctx.now cap (spec_of s) s.at f fun args e are))

    -- ---- what a turn gives fits
    turn_fits : (args : List (Abs W N)) (due : GroupArgs W N) (before after : List Seen) (y : Option (Yield (GroupArgs W N) (Abs W N))) → ArgsFit (turns_from B cap s f args) due
        → group_turn B cap calls s (group_of s f) due before ≡ gives y after
        → IfSome (out_of y) (OutFits (turns_from B cap s f args)) × IfSome (next_of y) (ArgsFit (turns_from B cap s f args))
    turn_fits args due before after y h gave = with_fun kept
      where
        told : (fun : Fun) (y : Option (Yield (GroupArgs W N) (Abs W N))) → IfSome y (IsYield B laws s.ctx.now cap (spec_of s) s.at (ListsStamps B (own_stamps args)) (group_of s f) fun.result_type)
            → IfSome (out_of y) (OutFits (turns_from B cap s f args)) × IfSome (next_of y) (ArgsFit (turns_from B cap s f args))
        told fun None k = (tt, tt)
        told fun (Some y) k = (out y.out k.out, next y.next k.next)
          where
            out : (o : Option (Abs W N)) → IfSome o (IsOf B s.ctx.now cap (environment_of (spec_of s)) (ListsStamps B (own_stamps args)) fun.result_type) → IfSome o (OutFits (turns_from B cap s f args))
            out None p = tt
            out (Some v) p = fit_tells B laws s.ctx.now cap v p.fits

            next : (o : Option (GroupArgs W N)) → IfSome o (EachIs (termed.ArgsOf B laws s.ctx.now cap (spec_of s) s.at (ListsStamps B (own_stamps args)) (group_of s f))) → IfSome o (ArgsFit (turns_from B cap s f args))
            next None p = tt
            next (Some xs) p = args_fit B laws s.ctx.now cap (spec_of s) s.at (own_stamps args) (group_of s f) xs p

        kept : (fun : Fun) → slice_get (spec_of s).funs f ≡ Some fun → IfSome (out_of y) (OutFits (turns_from B cap s f args)) × IfSome (next_of y) (ArgsFit (turns_from B cap s f args))
        kept fun e =
            let own = part_stamps B (parts args) in
            let inv = keeps_stamps B laws s.ctx.now cap (environment_of (spec_of s)) s.at own in
            let widens : (x z : Abs W N) → ListsStamps B (own_stamps args) x → ListsStamps B (own_stamps args) z → ListsStamps B (own_stamps args) (widen_of B s.ctx.now x z) = λ x z p q. widen_lists B laws s.ctx.now (own_stamps args) x z p q in
            let fine = all_fine B s.ctx.now cap s.policy in
            let below = calls_kept B laws s.ctx.now cap (spec_of s) s.at (ListsStamps B (own_stamps args)) inv widens ready.room ready.accepted (Unit {0}) s.policy calls fine ready.right (ready.accepted.rank (group_of s f)) in
            let given = turn_gives B laws s.ctx.now cap (spec_of s) s.at (ListsStamps B (own_stamps args)) inv widens ready.room ready.accepted (Unit {0}) s.policy calls fine f fun e below due
            (args_are B laws s.ctx.now cap (spec_of s) s.at (own_stamps args) (group_of s f) due h) before
            in
            told fun y (subst (λ r. IsKept (Unit {0}) (IsYield B laws s.ctx.now cap (spec_of s) s.at (ListsStamps B (own_stamps args)) (group_of s f) fun.result_type) before r) gave given).0

    -- ---- the first turn
    module _ (args : List (Abs W N)) (are : AreArguments B s.ctx.now cap (spec_of s) f args) where
      abbrev first_of : Activation (GroupArgs W N) (Abs W N)
      first_of = start (only f args) s.policy

      first_remains : Remaining (moves B s.ctx.now cap) f (group_turn B cap calls s (group_of s f)) first_of [] (calls f args)
      first_remains = (answers_are_driven (moves B s.ctx.now cap) s.policy f (group_turn B cap calls s (group_of s f)) (only f args) [] (calls f args) ready.has_turn).0 (ready.right.answered f args there are)

      -- One that fails is what the call gives.
      pub first_failed : (i : ℕ) → group_turn B cap calls s (group_of s f) (only f args) [] ≡ fails i → calls f args ≡ fails i
      first_failed i is = turn_failed (moves B s.ctx.now cap) f (group_turn B cap calls s (group_of s f)) first_of [] (calls f args) first_remains i is

      -- One that asks for no other gives the value of the call.
      pub first_done : (y : Option (Yield (GroupArgs W N) (Abs W N))) (after : List Seen) → group_turn B cap calls s (group_of s f) (only f args) [] ≡ gives y after → next_of y ≡ None → calls f args ≡ gives (out_of y) after
      first_done y after gave none =
          turn_taken (moves B s.ctx.now cap) f (group_turn B cap calls s (group_of s f)) first_of [] (calls f args) first_remains y after (Out (out_of y)) first_of gave
          (subst (λ next. Answers (moves B s.ctx.now cap) first_of (out_of y) next (Out (out_of y)) first_of) (sym none) refl)

    module _ {Y : Type 0} where
      pub begins : (args : List (Abs W N)) (a : Activity X Y W N C) → AreArguments B s.ctx.now cap (spec_of s) f args → standing a ≡ start (only f args) s.policy → meaning B cap (spec_of s) a ≡ turns_from B cap s f args
          → Goes B cap s calls f args a []
      begins args a are stands same = record {
        running = subst (λ z. IsTrue z.running) (sym stands) refl;
        same = same;
        fits = subst (λ z. Fits (turns_from B cap s f args) z) (sym stands) (record { args = first_fits args are; leaves = tt });
        can_end = subst (λ z. CanEnd (turns_from B cap s f args) z.left) (sym stands) (ends args s.policy ready.joins);
        remaining = subst (λ z. Remaining (moves B s.ctx.now cap) f (group_turn B cap calls s (group_of s f)) z [] (calls f args)) (sym stands) (first_remains args are);
      }

      -- ---- between turns
      pub goes_fits : (args : List (Abs W N)) (a : Activity X Y W N C) (l : List Seen) → Goes B cap s calls f args a l → AreGroupArgs B cap s (group_of s f) (due a)
      goes_fits args a l h =
          each_weaker (termed.ArgsOf B laws s.ctx.now cap (spec_of s) s.at (ListsStamps B (own_stamps args)) (group_of s f)) (ArgsOf B cap s (group_of s f)) (due a)
          (λ i xs k. from_any B laws cap s (ListsStamps B (own_stamps args)) (group_of s f) i xs k)
          (args_are B laws s.ctx.now cap (spec_of s) s.at (own_stamps args) (group_of s f) (due a) h.fits.args)

      pub goes_failed : (args : List (Abs W N)) (a : Activity X Y W N C) (l : List Seen) → Goes B cap s calls f args a l → (i : ℕ) → group_turn B cap calls s (group_of s f) (due a) l ≡ fails i → calls f args ≡ fails i
      goes_failed args a l h i is = turn_failed (moves B s.ctx.now cap) f (group_turn B cap calls s (group_of s f)) (standing a) l (calls f args) h.remaining i is

      -- ---- a turn was taken
      module _ (a : Activity X Y W N C) (y : Option (Yield (GroupArgs W N) (Abs W N))) (taken : Taken B cap s calls f a y) where
        meaning_is : meaning B cap spec a ≡ turns_from B cap s f taken.args
        meaning_is = ap (λ z. meaning B cap z a) ready.spec_is ∙ taken.goes.same

        pub taken_stands : Fits (meaning B cap spec a) (standing a)
        taken_stands = subst (λ m. Fits m (standing a)) (sym meaning_is) taken.goes.fits

        pub taken_out : IfSome (out_of y) (OutFits (meaning B cap spec a))
        taken_out = subst (λ m. IfSome (out_of y) (OutFits m)) (sym meaning_is) (turn_fits taken.args (due a) taken.before taken.after y taken.goes.fits.args taken.gave).0

        pub taken_next : IfSome (next_of y) (ArgsFit (meaning B cap spec a))
        taken_next = subst (λ m. IfSome (next_of y) (ArgsFit m)) (sym meaning_is) (turn_fits taken.args (due a) taken.before taken.after y taken.goes.fits.args taken.gave).1

        pub taken_ends : CanEnd (meaning B cap spec a) a.driver.left
        taken_ends = subst (λ m. CanEnd m a.driver.left) (sym meaning_is) taken.goes.can_end

        pub taken_falls : (new : Activity X Y W N C) → meaning B cap spec new ≡ meaning B cap spec a → Fits (meaning B cap spec a) (standing new) → Falls (meaning B cap spec a).rank (standing a) (standing new)
            → measure B cap spec new < measure B cap spec a
        taken_falls new kept fits falls =
            let m = meaning B cap spec a in
            let high : (args : GroupArgs W N) → ArgsFit m args → m.rank args ≤ m.rank [] =
            subst (λ m. (args : GroupArgs W N) → ArgsFit m args → m.rank args ≤ m.rank []) (sym meaning_is)
            (rank_high B laws s.ctx.now cap (spec_of s) s.at (own_stamps taken.args) (group_of s f) ready.accepted.types)
            in
            subst (λ k. numbers.measure k.rank (k.rank []) (standing new) < measure B cap spec a) (sym kept)
            (measures_fall m.rank (m.rank []) (standing a) (standing new) (high (due a) taken_stands.args) (high (due new) fits.args) falls)

      -- ---- what follows a turn
      module _ (old new : Activity X Y W N C) (y : Option (Yield (GroupArgs W N) (Abs W N))) (asked : DriverRequest (Abs W N)) (answers : Answers (meaning B cap spec old).moves (standing old) (out_of y) (next_of y) asked (standing new))
          (args : List (Abs W N)) (before after : List Seen) (goes : Goes B cap s calls f args old before) (gave : group_turn B cap calls s (group_of s f) (due old) before ≡ gives y after) where
        old_is : meaning B cap spec old ≡ turns_from B cap s f args
        old_is = ap (λ z. meaning B cap z old) ready.spec_is ∙ goes.same

        pub left_after : RemainingAfter (moves B s.ctx.now cap) f (group_turn B cap calls s (group_of s f)) asked (standing new) after (calls f args)
        left_after = turn_taken (moves B s.ctx.now cap) f (group_turn B cap calls s (group_of s f)) (standing old) before (calls f args) goes.remaining y after asked (standing new) gave
            (subst (λ m. Answers m.moves (standing old) (out_of y) (next_of y) asked (standing new)) old_is answers)

        pub again : asked ≡ Turn → IsTrue new.driver.running → Fits (meaning B cap spec old) (standing new) → CanEnd (meaning B cap spec old) new.driver.left → meaning B cap spec new ≡ meaning B cap spec old
            → Goes B cap s calls f args new after
        again is running fits can kept = record {
          running = running;
          same = ap (λ z. meaning B cap z new) (sym ready.spec_is) ∙ kept ∙ old_is;
          fits = subst (λ m. Fits m (standing new)) old_is fits;
          can_end = subst (λ m. CanEnd m new.driver.left) old_is can;
          remaining = subst (λ z. RemainingAfter (moves B s.ctx.now cap) f (group_turn B cap calls s (group_of s f)) z (standing new) after (calls f args)) is left_after;
        }
