-- States as values, and the counter of a value that describes one.
use Rattle.std.proofs.Common.{◌≡◌, ℕ, zero, suc, true, false, List, [], ◌∷◌, Some, slice_get, refl, sym, ap, subst, ◌∙◌}
use Rattle.std.specs.Prelude.{◌==◌, ◌^◌, nat_lt}
use Rattle.std.proofs.lemmas.Bool.{false≢true, eqb-true as same_number}
use Rattle.spec_match_compiler.proofs.Truth.{and_left, and_right}
use Rattle.base_trait.specs.Algebra.{Algebra}
use Rattle.base_trait.specs.Uses.{Read}
use Rattle.spec_ir.specs.declared.ty.Ty.TheVariants.{Word, Data as DataTy}
use Rattle.spec_ir.specs.declared.spec.Machine.{Machine}
use Rattle.spec_ir.specs.Environment.{field_types}
use Rattle.spec_ir.specs.Specification.{Spec}
use Rattle.spec_ir.specs.Texts.{case_at, cases_of}
use Rattle.semantics_values.specs.States.{State, value_of}
use Rattle.semantics_values.specs.Types as concrete
use Rattle.semantics_values.specs.Types.{environment_of, of_case}
use Rattle.semantics_values.specs.Values as v
use Rattle.semantics_values.specs.Values.{Val, Vals, val_list, vals}
use Rattle.semantics.specs.Runs.{state_from, steps_to}
use Rattle.semantics_laws.specs.Accepted.{IsMachine}
use Rattle.semantics_laws.proofs.Kept.{listed as again, list_again}
use Rattle.abstract_value_laws.specs.Abs.{Abs, Cases, word, made, no_case, absent, present, part}
use Rattle.abstract_value_laws.specs.Describes.{CaseDescribes, Describes}
use Rattle.abstract_value_laws.specs.Types.{has_type, have_cases, have_types}
use Rattle.analysis_transfer_laws.specs.Transfer.{counter_of}
use Rattle.analysis_transfer_laws.proofs.States.{made_typed}

-- ---- fields as a list

-- a state that is taken as a value and back
pub state_again : (s : State) (reads : List Read) → state_from (vals (v.word 32 s.pc ∷ s.parts)) reads ≡ steps_to s reads
state_again s reads = ap (λ ps. steps_to (record { pc = s.pc; parts = ps }) reads) (list_again s.parts)

module _ (spec : Spec) (m : Machine) (is : IsMachine spec m) where
  case_is : (c : ℕ) → case_at (environment_of spec) (DataTy m.state) c ≡ slice_get (is.one ∷ []) c
  case_is c = ap (λ x. slice_get (cases_of x) c) is.states_there ∙ ap (λ cs. slice_get cs c) is.one_alone

  -- a value of the type of states is a state
  pub record IsStateOf (x : Val) : Type 0 where
    pub state : State
    pub is_it : x ≡ value_of m.state state

  parts_there : (ps : Vals) → concrete.have_types (environment_of spec) ps (Word 32 ∷ is.parts) ≡ true → (s : State) × (ps ≡ vals (v.word 32 s.pc ∷ s.parts))
  parts_there v.no_val h = absurd (false≢true h)
  parts_there (v.val_then (v.word w pc) ps) h =
      let here = and_left (concrete.has_type (environment_of spec) (v.word w pc) (Word 32)) (concrete.have_types (environment_of spec) ps is.parts) h in
      let same = same_number w 32 (and_left (w == 32) (nat_lt pc (2 ^ 32)) here) in
      (record { pc = pc; parts = val_list ps }, ap (λ u. v.val_then (v.word u pc) ps) same ∙ ap (λ qs. v.val_then (v.word 32 pc) qs) (sym (again ps)))
  parts_there (v.val_then (v.flag b) ps) h = absurd (false≢true h)
  parts_there (v.val_then (v.made t c qs) ps) h = absurd (false≢true h)
  parts_there (v.val_then (v.map n rest cells) ps) h = absurd (false≢true h)

  only_case : (c : ℕ) (ps : Vals) → of_case (slice_get (is.one ∷ []) c) (concrete.have_types (environment_of spec) ps) ≡ true → (c ≡ 0) × (concrete.have_types (environment_of spec) ps (field_types is.one) ≡ true)
  only_case zero ps h = (refl, h)
  only_case (suc c) ps h = absurd (false≢true h)

  pub state_there : (x : Val) → concrete.has_type (environment_of spec) x (DataTy m.state) ≡ true → IsStateOf x
  state_there (v.made t c ps) h =
      let same = same_number t m.state (and_left (t == m.state) (of_case (case_at (environment_of spec) (DataTy m.state) c) (concrete.have_types (environment_of spec) ps)) h) in
      let there = and_right (t == m.state) (of_case (case_at (environment_of spec) (DataTy m.state) c) (concrete.have_types (environment_of spec) ps)) h in
      let only = only_case c ps (subst (λ x. of_case x (concrete.have_types (environment_of spec) ps) ≡ true) (case_is c) there) in
      let parts = parts_there ps (subst (λ ts. concrete.have_types (environment_of spec) ps ts ≡ true) is.counter only.1) in
      record { state = parts.0; is_it = ap (λ u. v.made u c ps) same ∙ ap (λ k. v.made m.state k ps) only.0 ∙ ap (λ qs. v.made m.state 0 qs) parts.1 }
  state_there (v.flag b) h = absurd (false≢true h)
  state_there (v.word w n) h = absurd (false≢true h)
  state_there (v.map n rest cells) h = absurd (false≢true h)

  -- ---- the counter of a value that describes a state
  module _ {W N C : Type 0} (B : Algebra W N C) (valuation : List ℕ) (s : State) where
    pub record HasCounter (y : Abs W N) : Type 0 where
      pub counter : W
      pub there : counter_of y ≡ Some (32, counter)
      pub describes : B.words.describes valuation 32 s.pc counter

    cases_there : (t : ℕ) (cs : Cases W N) → have_cases (environment_of spec) cs (is.one ∷ []) ≡ true → CaseDescribes B valuation cs 0 (vals (v.word 32 s.pc ∷ s.parts)) → HasCounter (made t cs)
    cases_there t (present (part (word w x) xs) no_case) h d = record {
      counter = x;
      there = ap (λ u. Some (u, x)) (sym d.0.0);
      describes = subst (λ u. B.words.describes valuation u s.pc x) (sym d.0.0) d.0.1;
    }
    cases_there t (present xs (absent cs)) h d = absurd (false≢true (and_right (have_types (environment_of spec) xs (field_types is.one)) false h))
    cases_there t (present xs (present ys cs)) h d = absurd (false≢true (and_right (have_types (environment_of spec) xs (field_types is.one)) false h))
    cases_there t (present (part _ xs) no_case) h d = absurd d.0
    cases_there t _ h d = absurd d

    pub counter_there : (y : Abs W N) → has_type (environment_of spec) y (DataTy m.state) ≡ true → Describes B valuation y (value_of m.state s) → HasCounter y
    counter_there (made t cs) h d =
        let own = and_right (m.state == m.state) _ (sym (made_typed spec m is cs) ∙ subst (λ u. has_type (environment_of spec) (made u cs) (DataTy m.state) ≡ true) (sym d.0) h) in
        cases_there t cs own d.1
    counter_there _ h d = absurd d
