-- States as values.
use Rattle.std.proofs.Common.{◌≡◌, ℕ, zero, suc, ◌<◌, ◌^◌, ◌==◌, nat_lt, true, Some, None, List, [], ◌∷◌, map, get_or, length, refl, ap, sym, ◌∙◌, subst, arith}
use Rattle.std.specs.Prelude.{slice_get, if◌then◌else◌}
use Rattle.std.specs.List.{remove}
use Rattle.std.proofs.lemmas.Bool.{lt-ltb, and_parts as both}
use Rattle.base_trait.proofs.Lists.{number_told}
use Rattle.base_trait.specs.Uses.{Read}
use Rattle.spec_ir.specs.declared.ty.Ty.TheVariants.{Word, Data}
use Rattle.spec_ir.specs.declared.spec.Machine.{Machine}
use Rattle.spec_ir.specs.Specification.{Spec}
use Rattle.spec_ir.specs.Texts.{case_at, cases_of}
use Rattle.semantics_values.specs.declared.value.Value.{Value, fold-roll-Value}
use Rattle.semantics_values.specs.declared.value.Value.{Word as WordValue}
use Rattle.semantics_values.specs.declared.value.Value.TheOpen.{Value-F}
use Rattle.semantics_values.specs.declared.value.Value.TheVariants.{rolls-Word}
use Rattle.semantics_values.specs.Values as v
use Rattle.semantics_values.specs.Values.{Val, Vals, word, made, no_val, val_then, val_list, vals}
use Rattle.semantics_values.specs.States.{State, value_of}
use Rattle.semantics_values.specs.Types.{environment_of, has_type, have_types, of_case}
use Rattle.semantics_values.specs.Views.{val, val_step}
use Rattle.semantics.specs.Outcomes as o
use Rattle.semantics.specs.Runs as r
use Rattle.semantics.specs.Runs.{stepped_of}
use Rattle.semantics_laws.specs.Accepted.{IsMachine}
use Rattle.semantics_laws.proofs.Kept.{listed as relisted, list_again as listed}
use Rattle.concrete_emulator.specs.Values.{state_of_parts}

pub counted : (w pc : ℕ) (parts : Vals) → pc < 2 ^ 32 → state_of_parts (val_then (word w pc) parts) ≡ Some (record { pc = pc; parts = val_list parts })
counted w pc parts h = ap (λ b. if b then Some (record { pc = pc; parts = val_list parts }) else None) (lt-ltb pc (2 ^ 32) h)

-- the state of fields, of which the first is a word
pub state_there : (items : List Value) (x : Value) (rest : List Value) (w pc : ℕ) → items ≡ x ∷ rest → val x ≡ word w pc → pc < 2 ^ 32 → state_of_parts (vals (map val items)) ≡ Some (record { pc = pc; parts = map val rest })
state_there items x rest w pc e is h =
    let make : List Val → State = λ ps. record { pc = pc; parts = ps } in
    ap (λ xs. state_of_parts (vals (map val xs))) e ∙ ap (λ y. state_of_parts (val_then y (vals (map val rest)))) is ∙ counted w pc (vals (map val rest)) h ∙ ap (λ ps. Some (make ps)) (listed (map val rest))

-- a word of the code, as plain data
pub val_word : (w n : ℕ) → val (WordValue w n) ≡ word w n
val_word w n = ap val (sym (rolls-Word w n)) ∙ fold-roll-Value Val val_step (Value-F.Word w n)

-- a list from its first item
pub first_is : (items : List Value) (x : Value) → x ≡ get_or items 0 x → 0 < length items → items ≡ x ∷ remove items 0
first_is [] x e h = absurd (omega (arith, h))
first_is (y ∷ rest) x e h = ap (λ z. z ∷ rest) (sym e)

-- ---- values of the type of a machine's states

module _ (spec : Spec) (m : Machine) (is : IsMachine spec m) where
  -- a value is that of a state
  pub record IsOfState (x : Val) : Type 0 where
    pub next : State
    pub same : x ≡ value_of m.state next
    pub step : (l : List Read) → stepped_of (o.gives x l) ≡ r.steps_to next l

  fields_there : (t : ℕ) (ps : Vals) → t ≡ m.state → have_types (environment_of spec) ps (Word 32 ∷ is.parts) ≡ true → IsOfState (made t 0 ps)
  fields_there t no_val e h = cc
  fields_there t (val_then (v.flag b) ps) e h = cc
  fields_there t (val_then (v.made u k qs) ps) e h = cc
  fields_there t (val_then (v.map n rest cells) ps) e h = cc
  fields_there t (val_then (word w pc) ps) e h =
      let first = both (has_type (environment_of spec) (word w pc) (Word 32)) (have_types (environment_of spec) ps is.parts) h in
      let width = number_told w 32 (both (w == 32) (nat_lt pc (2 ^ 32)) first.0).0 in
      record {
        next = record { pc = pc; parts = val_list ps };
        same = ap (λ n. made n 0 (val_then (word w pc) ps)) e ∙ ap (λ n. made m.state 0 (val_then (word n pc) ps)) width ∙ ap (λ qs. made m.state 0 (val_then (word 32 pc) qs)) (sym (relisted ps));
        step = λ l. refl;
      }

  case_is : (c : ℕ) → case_at (environment_of spec) (Data m.state) c ≡ slice_get (is.one ∷ []) c
  case_is c = ap (λ x. slice_get (cases_of x) c) is.states_there ∙ ap (λ cs. slice_get cs c) is.one_alone

  case_there : (t c : ℕ) (ps : Vals) → t ≡ m.state → of_case (slice_get (is.one ∷ []) c) (have_types (environment_of spec) ps) ≡ true → IsOfState (made t c ps)
  case_there t zero ps e h = fields_there t ps e (subst (λ ts. have_types (environment_of spec) ps ts ≡ true) is.counter h)
  case_there t (suc c) ps e h = cc

  pub of_state : (x : Val) → has_type (environment_of spec) x (Data m.state) ≡ true → IsOfState x
  of_state (v.flag b) h = cc
  of_state (word w n) h = cc
  of_state (v.map n rest cells) h = cc
  of_state (made t c ps) h =
      let there = both (t == m.state) (of_case (case_at (environment_of spec) (Data m.state) c) (have_types (environment_of spec) ps)) h in
      case_there t c ps (number_told t m.state there.0) (subst (λ k. of_case k (have_types (environment_of spec) ps) ≡ true) (case_is c) there.1)
