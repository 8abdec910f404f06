-- Ends of runs.
use Rattle.std.proofs.Common.{◌≡◌, ℕ, zero, suc, ◌+◌, ◌≤◌, Some, Option, refl, ap, sym, ◌∙◌, arith, ◌-◌, ◌<◌, subst}
use Rattle.base_trait.specs.declared.uses.Stamp.{Stamp}
use Rattle.base_concrete.specs.declared.Concrete.{Concrete}
use Rattle.abstract_value.specs.View.{abs}
use Rattle.abstract_value.specs.declared.value.AbstractValue.{AbstractValue}
use Rattle.spec_ir.specs.declared.spec.Machine.{Machine}
use Rattle.spec_ir.specs.Specification.{Spec}
use Rattle.semantics_values.specs.States.{State}
use Rattle.semantics.specs.Runs as r
use Rattle.semantics.specs.Runs.{Ended, Stepped, step, goes_on, run_from, after}
use Rattle.abstract_value_laws.specs.Abs.{Abs}
use Rattle.state_text.specs.declared.stop.Stop.TheVariants.{Bound, Left, Undecodable, Turns}
use Rattle.semantics_values.specs.Views.{state}
use Rattle.semantics_values.specs.declared.value.State.{State as CodeState}
use Rattle.concrete_emulator.specs.Ends.{IsEnd, stop_at}
use Rattle.concrete_emulator.specs.Laws.{AllAscend, IsSameState}
use Rattle.concrete_emulator.specs.States.{IsLast, IsOfState, IsStateValue, Shows}
use Rattle.concrete_emulator.specs.Values.{IsStepped}
use Rattle.concrete_emulator.specs.declared.step.MachineStep.{MachineStep as CodeStepped}
use Rattle.concrete_emulator.specs.declared.step.MachineStep.TheVariants as c
use Rattle.concrete_emulator.proofs.Standing.{state_value}

abbrev CodeValue : Type 0
CodeValue = AbstractValue Concrete ℕ Stamp (Unit {0})

-- the state that is last, of all for which a value stands
abbrev IsLastOf : Abs ℕ Stamp → State → Type 0
IsLastOf x last = (s : State) → IsStateValue s x → IsLast last s

module _ (spec : Spec) (m : Machine) (code : ℕ → Option ℕ) (d : ℕ) where
  -- a run has done no fewer steps at its end than at its beginning
  at_least_by : (n done : ℕ) (s : State) (x : Stepped) → ((next : State) → suc done ≤ (run_from spec m code d n (suc done) next).done) → done ≤ (goes_on spec m code d (run_from spec m code d n (suc done)) done s x).done
  at_least_by n done s (r.steps_to next reads) h = omega (arith, h next)
  at_least_by n done s r.left h = omega arith
  at_least_by n done s (r.undecodable w) h = omega arith
  at_least_by n done s r.deep h = omega arith
  at_least_by n done s r.wrong h = omega arith

  pub at_least : (n done : ℕ) (s : State) → done ≤ (run_from spec m code d n done s).done
  at_least zero done s = omega arith
  at_least (suc n) done s = at_least_by n done s (step spec m code d s) (at_least n (suc done))

  -- a run of fewer steps comes to the state before the last
  abbrev Before : ℕ → Ended → ℕ → State → Type 0
  Before done end k s = end.done ≡ done + k → run_from spec m code d k done s ≡ record { state = end.state; done = done + k; stop = r.Stop.bound }

  none_done : (done k : ℕ) (s : State) → done ≡ done + k → run_from spec m code d k done s ≡ record { state = s; done = done + k; stop = r.Stop.bound }
  none_done done zero s e = ap (λ n. record { state = s; done = n; stop = r.Stop.bound }) e
  none_done done (suc k) s e = absurd (omega (arith, e))

  before_by : (n done : ℕ) (s : State) (x : Stepped) → step spec m code d s ≡ x → ((next : State) (k : ℕ) → Before (suc done) (run_from spec m code d n (suc done) next) k next) → (k : ℕ) → Before done (goes_on spec m code d (run_from spec m code d n (suc done)) done s x) k s
  before_by n done s (r.steps_to next reads) is h zero e = absurd (omega (arith, e, at_least n (suc done) next))
  before_by n done s (r.steps_to next reads) is h (suc k) e =
      let end = run_from spec m code d n (suc done) next in
      let same : suc done + k ≡ done + suc k = omega arith in
      let make : ℕ → Ended = λ j. record { state = end.state; done = j; stop = r.Stop.bound } in
      ap (goes_on spec m code d (run_from spec m code d k (suc done)) done s) is ∙ h next k (e ∙ sym same) ∙ ap make same
  before_by n done s r.left is h k e = none_done done k s e
  before_by n done s (r.undecodable w) is h k e = none_done done k s e
  before_by n done s r.deep is h k e = none_done done k s e
  before_by n done s r.wrong is h k e = none_done done k s e

  pub before : (n done : ℕ) (s : State) (k : ℕ) → Before done (run_from spec m code d n done s) k s
  before zero done s k e = none_done done k s e
  before (suc n) done s k e = before_by n done s (step spec m code d s) refl (λ next j. before n (suc done) next j) k e

  -- the run up to a deep step
  pub before_deep : (n k : ℕ) (s : State) → (after spec m code d n s).done ≡ k → after spec m code d k s ≡ record { state = (after spec m code d n s).state; done = k; stop = r.Stop.bound }
  before_deep n k s e =
      let end = after spec m code d n s in
      let zero_less : 0 + k ≡ k = omega arith in
      let make : ℕ → Ended = λ j. record { state = end.state; done = j; stop = r.Stop.bound } in
      before n 0 s k (e ∙ sym zero_less) ∙ ap make zero_less

  -- where a run stands after some steps: its state is one for which the value stands
  pub record Reaches (bound : ℕ) (start : State) (done : ℕ) (x : Abs ℕ Stamp) : Type 0 where
    pub at : State
    pub shows : Shows spec m.state at x
    pub run : run_from spec m code d bound 0 start ≡ run_from spec m code d (bound - done) done at

  pub begins : (bound : ℕ) (start : State) (x : Abs ℕ Stamp) → Shows spec m.state start x → Reaches bound start 0 x
  begins bound start x shows = let all : bound ≡ bound - 0 = omega arith in record { at = start; shows = shows; run = ap (λ n. run_from spec m code d n 0 start) all }

  pub reached_state : (bound : ℕ) (start : State) (done : ℕ) (x : Abs ℕ Stamp) → Reaches bound start done x → IsOfState x
  reached_state bound start done x so_far = record { shown = so_far.at; is = state_value spec m.state so_far.at x so_far.shows }

  -- ---- one step of the loop
  module _ (bound : ℕ) (start : State) (done : ℕ) (x : Abs ℕ Stamp) (so_far : Reaches bound start done x) (more : done < bound) (y : CodeStepped) (stepped : IsStepped spec m.state so_far.at y (step spec m code d so_far.at)) where
    comes_to : (z : CodeStepped) → y ≡ z → IsStepped spec m.state so_far.at z (step spec m code d so_far.at)
    comes_to z is = subst (λ u. IsStepped spec m.state so_far.at u (step spec m code d so_far.at)) is stepped

    next_run : run_from spec m code d bound 0 start ≡ goes_on spec m code d (run_from spec m code d (bound - (done + 1)) (suc done)) done so_far.at (step spec m code d so_far.at)
    next_run =
        let left : bound - done ≡ suc (bound - (done + 1)) = omega (arith, more) in
        so_far.run ∙ ap (λ n. run_from spec m code d n done so_far.at) left

    stops : (z : Stepped) → step spec m code d so_far.at ≡ z → after spec m code d bound start ≡ goes_on spec m code d (run_from spec m code d (bound - (done + 1)) (suc done)) done so_far.at z
    stops z is = next_run ∙ ap (goes_on spec m code d (run_from spec m code d (bound - (done + 1)) (suc done)) done so_far.at) is

    pub left_state : (same : CodeValue) → y ≡ c.Left same → IsOfState (abs same)
    left_state same is = record { shown = so_far.at; is = state_value spec m.state so_far.at (abs same) (comes_to (c.Left same) is).0 }

    pub left_end : (same : CodeValue) (t : CodeState) → y ≡ c.Left same → IsLastOf (abs same) (state t) → IsEnd (after spec m code d bound start) (record { state = t; done = done; stop = Left })
    left_end same t is of =
        let here = comes_to (c.Left same) is in
        let last = of so_far.at (state_value spec m.state so_far.at (abs same) here.0) in
        subst (λ end. IsEnd end (record { state = t; done = done; stop = Left })) (sym (stops r.left here.1)) (record { last = last.same; ascending = last.ascending; done = refl; stop = refl })

    pub undecodable_state : (same : CodeValue) (word : ℕ) → y ≡ c.Undecodable same word → IsOfState (abs same)
    undecodable_state same word is = record { shown = so_far.at; is = state_value spec m.state so_far.at (abs same) (comes_to (c.Undecodable same word) is).0 }

    pub undecodable_end : (same : CodeValue) (word : ℕ) (t : CodeState) → y ≡ c.Undecodable same word → IsLastOf (abs same) (state t)
        → IsEnd (after spec m code d bound start) (record { state = t; done = done; stop = Undecodable t.pc word })
    undecodable_end same word t is of =
        let here = comes_to (c.Undecodable same word) is in
        let last = of so_far.at (state_value spec m.state so_far.at (abs same) here.0) in
        let at = ap (λ pc. Some (Undecodable pc word)) (sym last.same.counter) in
        subst (λ end. IsEnd end (record { state = t; done = done; stop = Undecodable t.pc word })) (sym (stops (r.undecodable word) here.1)) (record { last = last.same; ascending = last.ascending; done = refl; stop = at })

    pub deep_end : y ≡ c.OutOfFuel → ((after spec m code d bound start).done ≡ done) × ((after spec m code d bound start).stop ≡ r.Stop.turns)
    deep_end is =
        let here = comes_to c.OutOfFuel is in
        (ap (λ end. end.done) (stops r.deep here), ap (λ end. end.stop) (stops r.deep here))

    pub goes_further : (next : CodeValue) → y ≡ c.To next → Reaches bound start (done + 1) (abs next)
    goes_further next is =
        let here = comes_to (c.To next) is in
        let one : suc done ≡ done + 1 = omega arith in
        record { at = here.0; shows = here.3; run = stops (r.steps_to here.0 here.1) here.2 ∙ ap (λ k. run_from spec m code d (bound - (done + 1)) k here.0) one }

  -- the end of a run of all its steps
  pub bound_end : (bound : ℕ) (start : State) (done : ℕ) (x : Abs ℕ Stamp) (t : CodeState) → Reaches bound start done x → bound ≤ done → done ≤ bound → IsLastOf x (state t)
      → IsEnd (after spec m code d bound start) (record { state = t; done = bound; stop = Bound })
  bound_end bound start done x t so_far no_more no_further of =
      let none : bound - done ≡ 0 = omega (arith, no_more) in
      let all : done ≡ bound = omega (arith, no_more, no_further) in
      let last = of so_far.at (state_value spec m.state so_far.at x so_far.shows) in
      let end = so_far.run ∙ ap (λ n. run_from spec m code d n done so_far.at) none in
      subst (λ end. IsEnd end (record { state = t; done = bound; stop = Bound })) (sym end) (record { last = last.same; ascending = last.ascending; done = sym all; stop = refl })

-- the end of a run that is stopped by a deep step
pub turns_end : (end : Ended) (t : CodeState) (done : ℕ) → end.stop ≡ r.Stop.turns → end.done ≡ done → IsSameState (state t) end.state → AllAscend (state t).parts → IsEnd end (record { state = t; done = done; stop = Turns t.pc })
turns_end end t done stop count last ascending = record { last = last; ascending = ascending; done = sym count; stop = ap (stop_at end.state.pc) stop ∙ ap (λ pc. Some (Turns pc)) (sym last.counter) }
