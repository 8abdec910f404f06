-- Calls of the function of instructions.
use Rattle.std.proofs.Common.{◌≡◌, ℕ, true, Some, List, [], ◌∷◌, length, subst, sym, ap₂, refl, ◌++◌, map}
use Rattle.std.specs.Prelude.{◌&&◌}
use Rattle.std.proofs.lemmas.Bool.{lt-ltb}
use Rattle.std.proofs.lemmas.Option.{slice_get_within}
use Rattle.base_trait.specs.declared.uses.Stamp.{Stamp}
use Rattle.base_concrete.specs.declared.Concrete.{Concrete}
use Rattle.base_concrete.specs.Meaning.{concrete}
use Rattle.spec_ir.specs.declared.ty.Ty.TheVariants.{Data}
use Rattle.spec_ir.specs.declared.spec.Machine.{Machine}
use Rattle.spec_ir.specs.Specification.{Spec}
use Rattle.spec_ir.specs.WellFormed.{is_type}
use Rattle.semantics_values.specs.Values.{Val, vals}
use Rattle.semantics_values.specs.States.{State, value_of}
use Rattle.semantics_values.specs.Types.{environment_of, has_type, have_types}
use Rattle.semantics.specs.Outcomes as o
use Rattle.semantics.specs.Outcomes.{Outcome}
use Rattle.semantics.specs.Runs as r
use Rattle.semantics.specs.Runs.{meaning, stepped_of}
use Rattle.semantics_laws.specs.Typed.{IsOutcomeOf}
use Rattle.semantics_laws.proofs.Turns.{meanings_have_types}
use Rattle.semantics_laws.specs.Accepted.{IsAccepted, IsMachine, IsMachineIfAny}
use Rattle.abstract_value_laws.specs.Abs.{Abs, parts}
use Rattle.abstract_value_laws.specs.OfValues.{ValueFits, of_value}
use Rattle.abstract_value_laws.specs.Types as abstract
use Rattle.abstract_value.specs.View.{abs}
use Rattle.abstract_value.specs.declared.value.AbstractValue.{AbstractValue}
use Rattle.abstract_semantics.specs.Terms.{params_in}
use Rattle.concrete_calls.specs.Laws.{AreArgumentsFor, StandsFor, room}
use Rattle.concrete_calls.specs.declared.outcome.CallResult.TheVariants.{OutOfFuel, Done}
use Rattle.concrete_calls.specs.Calls.{IsMeantBy}
use Rattle.concrete_calls.proofs.Typed.{is_standing, value_fits}
use Rattle.concrete_emulator.specs.States.{Shows}
use Rattle.concrete_emulator.specs.Values.{IsStepped}
use Rattle.concrete_emulator.specs.declared.step.MachineStep.TheVariants as c
use Rattle.concrete_emulator.proofs.States.{of_state}

pub machine_of : (spec : Spec) (m : Machine) → IsAccepted spec → spec.machine ≡ Some m → IsMachine spec m
machine_of spec m ok e = subst (IsMachineIfAny spec) e ok.machine

module _ (spec : Spec) (m : Machine) (ok : IsAccepted spec) (e : spec.machine ≡ Some m) where
  instr_is : is_type (environment_of spec) (Data m.instr) ≡ true
  instr_is = lt-ltb m.instr (length spec.datas) (machine_of spec m ok e).instr

  state_is : is_type (environment_of spec) (Data m.state) ≡ true
  state_is = let is = machine_of spec m ok e in lt-ltb m.state (length spec.datas) (slice_get_within spec.datas m.state is.states is.states_there)

  pub instruction_fits : (p : Val) → has_type (environment_of spec) p (Data m.instr) ≡ true → ValueFits (environment_of spec) p
  instruction_fits p h = value_fits spec ok p (Data m.instr) instr_is h

  -- ---- the value of a state
  pub state_fits : (s : State) → has_type (environment_of spec) (value_of m.state s) (Data m.state) ≡ true → ValueFits (environment_of spec) (value_of m.state s)
  state_fits s h = value_fits spec ok (value_of m.state s) (Data m.state) state_is h

  pub state_shown : (s : State) (x : Abs ℕ Stamp) → has_type (environment_of spec) (value_of m.state s) (Data m.state) ≡ true → x ≡ of_value concrete tt room (environment_of spec) (value_of m.state s) → Shows spec m.state s x
  state_shown s x h is =
      let stands = is_standing spec ok (value_of m.state s) (Data m.state) state_is h in
      subst (Shows spec m.state s) (sym is) (record { of_type = h; typed = stands.typed; fits = stands.fits; stands = stands.stands })

  -- ---- an instruction and a state as arguments
  module _ (p : Val) (h : has_type (environment_of spec) p (Data m.instr) ≡ true) (s : State) (x : Abs ℕ Stamp) (shows : Shows spec m.state s x) where
    pub arguments : AreArgumentsFor spec m.interp (machine_of spec m ok e).interp (of_value concrete tt room (environment_of spec) p ∷ x ∷ []) (p ∷ value_of m.state s ∷ [])
    arguments =
        let env = environment_of spec in
        let is = machine_of spec m ok e in
        let first = is_standing spec ok p (Data m.instr) instr_is h in
        let xs = of_value concrete tt room env p ∷ x ∷ [] in
        let typed : abstract.have_types env (parts xs) (Data m.instr ∷ Data m.state ∷ []) ≡ true = ap₂ (λ a b. a && (b && true)) first.typed shows.typed in
        let concrete_typed : have_types env (vals (p ∷ value_of m.state s ∷ [])) (Data m.instr ∷ Data m.state ∷ []) ≡ true = ap₂ (λ a b. a && (b && true)) h shows.of_type in
        record {
          there = is.interp_there;
          arguments = record {
            typed = subst (λ o. abstract.have_types env (parts xs) (params_in o) ≡ true) (sym is.interp_there) (subst (λ ts. abstract.have_types env (parts xs) ts ≡ true) (sym is.takes) typed);
            fit = (first.fits, (shows.fits, tt));
          };
          stand = (first.stands, (shows.stands, tt));
          typed = subst (λ ts. have_types env (vals (p ∷ value_of m.state s ∷ [])) ts ≡ true) (sym is.takes) concrete_typed;
        }

    -- ---- what the call gives
    module _ (at : ℕ) (d : ℕ) where
      abbrev call : Outcome Val
      call = meaning spec at d m.interp (p ∷ value_of m.state s ∷ []) []

      given_typed : IsOutcomeOf (environment_of spec) (Data m.state) call
      given_typed =
          let is = machine_of spec m ok e in
          subst (λ ty. IsOutcomeOf (environment_of spec) ty call) is.returns (meanings_have_types spec at d m.interp is.interp (p ∷ value_of m.state s ∷ []) [] ok is.interp_there arguments.typed refl)

      pub done_step : (next : AbstractValue Concrete ℕ Stamp (Unit {0})) → IsMeantBy spec (machine_of spec m ok e).interp (Done next) call → IsStepped spec m.state s (c.To next) (stepped_of call)
      done_step next meant = by call given_typed meant
        where
          by : (out : Outcome Val) → IsOutcomeOf (environment_of spec) (Data m.state) out → IsMeantBy spec (machine_of spec m ok e).interp (Done next) out → IsStepped spec m.state s (c.To next) (stepped_of out)
          by (o.deep i) typed meant = absurd meant
          by o.wrong typed meant = absurd meant
          by (o.gives v reads) typed meant =
              let is = machine_of spec m ok e in
              let of = of_state spec m is v typed.0 in (
                of.next,
                reads,
                of.step reads,
                record {
                  of_type = subst (λ u. has_type (environment_of spec) u (Data m.state) ≡ true) of.same typed.0;
                  typed = subst (λ ty. abstract.has_type (environment_of spec) (abs next) ty ≡ true) is.returns meant.typed;
                  fits = meant.fits;
                  stands = subst (λ u. StandsFor (abs next) u) of.same meant.stands;
                },
              )

      pub deep_step : IsMeantBy spec (machine_of spec m ok e).interp OutOfFuel call → stepped_of call ≡ r.deep
      deep_step meant = by call meant
        where
          by : (out : Outcome Val) → IsMeantBy spec (machine_of spec m ok e).interp OutOfFuel out → stepped_of out ≡ r.deep
          by (o.deep i) meant = refl
          by o.wrong meant = absurd meant
          by (o.gives v reads) meant = absurd meant

-- the two arguments
pub pushed : (xs₀ xs₁ xs₂ : List (AbstractValue Concrete ℕ Stamp (Unit {0}))) (i v : AbstractValue Concrete ℕ Stamp (Unit {0})) (x : Abs ℕ Stamp) → xs₀ ≡ [] → xs₁ ≡ xs₀ ++ i ∷ [] → xs₂ ≡ xs₁ ++ v ∷ [] → abs i ≡ x → map abs xs₂ ≡ x ∷ abs v ∷ []
pushed xs₀ xs₁ xs₂ i v x e₀ e₁ e₂ e = rw (e₂, e₁, e₀, ← e) refl
