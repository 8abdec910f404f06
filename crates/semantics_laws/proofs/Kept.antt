-- Runs of an accepted machine keep types.
use Rattle.std.proofs.Common.{◌≡◌, ℕ, zero, suc, ◌^◌, ◌/◌, ◌<◌, ◌&&◌, Bool, true, false, cond, ◌==◌, Option, Some, None, option_map, List, [], ◌∷◌, map, slice_get, refl, sym, ap, ◌∙◌, subst}
use Rattle.std.specs.Prelude.{nat_lt, is_some}
use Rattle.std.specs.List.{list_all}
use Rattle.std.proofs.lemmas.Bool.{false≢true, eqb-true as same_number, lt-ltb as less_is}
use Rattle.word_operations.proofs.Fits.{trunc_of_fits}
use Rattle.base_trait.specs.Uses.{Read}
use Rattle.spec_match_compiler.proofs.Truth.{and_left, and_right, both, equal_itself}
use Rattle.spec_ir.specs.declared.ty.Ty.{Ty}
use Rattle.spec_ir.specs.declared.ty.Ty.TheVariants.{Bool as Flag, Word, Data as DataTy, Map as MapOf}
use Rattle.spec_ir.specs.declared.row.WordPart.{WordPart}
use Rattle.spec_ir.specs.declared.row.WordPart.TheVariants.{Fixed, Field}
use Rattle.spec_ir.specs.declared.row.Arg.{Arg}
use Rattle.spec_ir.specs.declared.row.Arg.TheVariants as arg
use Rattle.spec_ir.specs.declared.spec.Machine.{Machine}
use Rattle.spec_ir.specs.Environment.{Environment, Case, field_types, same_type}
use Rattle.spec_ir.specs.Texts.{cases_of, case_at, fields_at}
use Rattle.spec_ir.specs.Specification.{Spec, Row}
use Rattle.semantics_values.specs.declared.entry.Line.{Line}
use Rattle.semantics_values.specs.Values as v
use Rattle.semantics_values.specs.Values.{Val, Vals, vals, val_list}
use Rattle.semantics_values.specs.Types.{environment_of, of_case, has_type, have_types}
use Rattle.semantics_values.specs.States.{State, value_of}
use Rattle.semantics.specs.Outcomes as o
use Rattle.semantics.specs.Outcomes.{Outcome}
use Rattle.semantics.specs.Decode.{fields_in, bits_above, width_sum, number_at, argument_of, meets_row, row_met, instruction_of, decoded}
use Rattle.semantics.specs.Entries.{IsEntryState}
use Rattle.semantics.specs.Runs as r
use Rattle.semantics.specs.Runs.{Stepped, Ended, meaning, state_from, stepped_of, executed, fetched, step, goes_on, run_from, after}
use Rattle.semantics_laws.specs.Rows.{field_widths, is_word_of, arg_fits, args_fit, row_fits}
use Rattle.semantics_laws.specs.Accepted.{IsAccepted, IsMachine, IsMachineIfAny}
use Rattle.semantics_laws.specs.Typed.{are_reads, IsOutcomeOf}
use Rattle.semantics_laws.specs.KeptTypes.{IsTypedState, IsTypedStep, IsTypedEnd, InstructionsHaveTheirType, EntryStatesHaveTheirType, StepsKeepTypes, RunsKeepTypes}
use Rattle.semantics_laws.proofs.Turns.{typed}

-- ---- instructions
same_word : (ty : Ty) (w : ℕ) → same_type ty (Word w) ≡ true → ty ≡ Word w
same_word Flag w h = absurd (false≢true h)
same_word (Word u) w h = ap Word (same_number u w h)
same_word (DataTy t) w h = absurd (false≢true h)
same_word (MapOf m) w h = absurd (false≢true h)

-- a field of a word, by its width
field_at : (code : ℕ) (parts : List WordPart) (i w : ℕ) → slice_get (field_widths parts) i ≡ Some w → (n : ℕ) × (slice_get (fields_in code parts) i ≡ Some (w, n)) × (n < 2 ^ w)
field_at code [] i w h = absurd cc
field_at code (Fixed v u ∷ parts) i w h = field_at code parts i w h
field_at code (Field u ∷ parts) zero w h =
    let same : u ≡ w = cc in
    let n = bits_above (width_sum parts) u code in
    (n, ap (λ z. Some (z, n)) same, subst (λ z. n < 2 ^ z) same (trunc_of_fits 0 u (code / 2 ^ width_sum parts)))
field_at code (Field u ∷ parts) (suc i) w h = field_at code parts i w h

module _ (env : Environment) where
  word_typed : (w n : ℕ) → n < 2 ^ w → has_type env (v.word w n) (Word w) ≡ true
  word_typed w n h = both (w == w) (nat_lt n (2 ^ w)) (equal_itself w) (less_is n (2 ^ w) h)

  field_typed : (code : ℕ) (parts : List WordPart) (i : ℕ) (ty : Ty) (x : Option ℕ) → slice_get (field_widths parts) i ≡ x → is_word_of ty x ≡ true → has_type env (argument_of (fields_in code parts) (arg.Field i)) ty ≡ true
  field_typed code parts i ty None e h = absurd (false≢true h)
  field_typed code parts i ty (Some w) e h =
      let f = field_at code parts i w e in
      subst (λ z. has_type env (v.word (number_at z).0 (number_at z).1) ty ≡ true) (sym f.1) (subst (λ z. has_type env (v.word w f.0) z ≡ true) (sym (same_word ty w h)) (word_typed w f.0 f.2))

  argument_typed : (code : ℕ) (parts : List WordPart) (a : Arg) (ty : Ty) → arg_fits (field_widths parts) a ty ≡ true → has_type env (argument_of (fields_in code parts) a) ty ≡ true
  argument_typed code parts (arg.Field i) ty h = field_typed code parts i ty (slice_get (field_widths parts) i) refl h
  argument_typed code parts (arg.Word w n) ty h =
      subst (λ z. has_type env (v.word w n) z ≡ true) (sym (same_word ty w (and_left (same_type ty (Word w)) (nat_lt n (2 ^ w)) h)))
      (both (w == w) (nat_lt n (2 ^ w)) (equal_itself w) (and_right (same_type ty (Word w)) (nat_lt n (2 ^ w)) h))

  arguments_typed : (code : ℕ) (parts : List WordPart) (args : List Arg) (ts : List Ty) → args_fit (field_widths parts) args ts ≡ true → have_types env (vals (map (argument_of (fields_in code parts)) args)) ts ≡ true
  arguments_typed code parts [] [] h = refl
  arguments_typed code parts [] (t ∷ ts) h = absurd (false≢true h)
  arguments_typed code parts (a ∷ args) [] h = absurd (false≢true h)
  arguments_typed code parts (a ∷ args) (t ∷ ts) h =
      both (has_type env (argument_of (fields_in code parts) a) t) (have_types env (vals (map (argument_of (fields_in code parts)) args)) ts)
      (argument_typed code parts a t (and_left (arg_fits (field_widths parts) a t) (args_fit (field_widths parts) args ts) h)) (arguments_typed code parts args ts (and_right (arg_fits (field_widths parts) a t) (args_fit (field_widths parts) args ts) h))

  row_typed : (instr code : ℕ) (row : Row) → row_fits env instr row ≡ true → has_type env (instruction_of instr code row) (DataTy instr) ≡ true
  row_typed instr code row h = at (case_at env (DataTy instr) row.case) refl h
    where
      given : Vals
      given = vals (map (argument_of (fields_in code row.parts)) row.args)

      at : (x : Option Case) → case_at env (DataTy instr) row.case ≡ x → is_some x && args_fit (field_widths row.parts) row.args (fields_at x) ≡ true → has_type env (instruction_of instr code row) (DataTy instr) ≡ true
      at None e k = absurd (false≢true k)
      at (Some case) e k =
          both (instr == instr) (of_case (case_at env (DataTy instr) row.case) (have_types env given)) (equal_itself instr)
          (subst (λ x. of_case x (have_types env given) ≡ true) (sym e) (arguments_typed code row.parts row.args (field_types case) (and_right (is_some (Some case)) (args_fit (field_widths row.parts) row.args (field_types case)) k)))

  met_typed : (instr code : ℕ) (rows : List Row) (p : Val) → list_all (row_fits env instr) rows ≡ true → decoded instr rows code ≡ Some p → has_type env p (DataTy instr) ≡ true
  met_typed instr code [] p h e = absurd cc
  met_typed instr code (row ∷ rows) p h e = at (λ k. met_typed instr code rows p (and_right (row_fits env instr row) (list_all (row_fits env instr) rows) h) k) (meets_row code row) e
    where
      at : (decoded instr rows code ≡ Some p → has_type env p (DataTy instr) ≡ true) → (b : Bool) → option_map (instruction_of instr code) (cond b (Some row) (row_met code rows)) ≡ Some p → has_type env p (DataTy instr) ≡ true
      at later true k =
          let same : instruction_of instr code row ≡ p = cc in
          subst (λ z. has_type env z (DataTy instr) ≡ true) same (row_typed instr code row (and_left (row_fits env instr row) (list_all (row_fits env instr) rows) h))
      at later false k = later k

machine_is : (spec : Spec) (x : Option Machine) (m : Machine) → IsMachineIfAny spec x → x ≡ Some m → IsMachine spec m
machine_is spec x m h e = subst (IsMachineIfAny spec) e h

pub instructions_have_their_type : InstructionsHaveTheirType
instructions_have_their_type spec m code p ok e h = met_typed (environment_of spec) m.instr code spec.rows p (machine_is spec spec.machine m ok.machine e).rows h

-- ---- states
pub listed : (ps : Vals) → vals (val_list ps) ≡ ps
listed v.no_val = refl
listed (v.val_then p ps) = ap (v.val_then p) (listed ps)

pub list_again : (ps : List Val) → val_list (vals ps) ≡ ps
list_again [] = refl
list_again (p ∷ ps) = ap (λ qs. p ∷ qs) (list_again ps)

module _ (spec : Spec) (m : Machine) (is : IsMachine spec m) where
  case_is : (c : ℕ) → case_at (environment_of spec) (DataTy m.state) c ≡ slice_get (is.one ∷ []) c
  case_is c = ap (λ x. slice_get (cases_of x) c) is.states_there ∙ ap (λ cs. slice_get cs c) is.one_alone

  only_case : (c : ℕ) (ps : Vals) → of_case (slice_get (is.one ∷ []) c) (have_types (environment_of spec) ps) ≡ true → have_types (environment_of spec) ps (field_types is.one) ≡ true
  only_case zero ps h = h
  only_case (suc c) ps h = absurd (false≢true h)

  state_typed : (ps : Vals) → have_types (environment_of spec) ps (field_types is.one) ≡ true → has_type (environment_of spec) (v.made m.state 0 ps) (DataTy m.state) ≡ true
  state_typed ps h =
      both (m.state == m.state) (of_case (case_at (environment_of spec) (DataTy m.state) 0) (have_types (environment_of spec) ps)) (equal_itself m.state)
      (subst (λ x. of_case x (have_types (environment_of spec) ps) ≡ true) (sym (case_is 0)) h)

  entry_typed : (types : List Ty) (pc : ℕ) (lines : List Line) (s : State) → fields_at (case_at (environment_of spec) (DataTy m.state) 0) ≡ Word 32 ∷ types → pc < 2 ^ 32 → IsEntryState (environment_of spec) types pc lines s
      → IsTypedState (environment_of spec) m.state s
  entry_typed types pc lines s fields lt entry =
      let counter : has_type (environment_of spec) (v.word 32 s.pc) (Word 32) ≡ true = subst (λ n. has_type (environment_of spec) (v.word 32 n) (Word 32) ≡ true) (sym entry.counter) (word_typed (environment_of spec) 32 pc lt) in
      let all : have_types (environment_of spec) (vals (v.word 32 s.pc ∷ s.parts)) (Word 32 ∷ types) ≡ true = both (has_type (environment_of spec) (v.word 32 s.pc) (Word 32)) (have_types (environment_of spec) (vals s.parts) types) counter entry.typed in
      let same : field_types is.one ≡ Word 32 ∷ types = sym (ap fields_at (case_is 0)) ∙ fields in
      state_typed (vals (v.word 32 s.pc ∷ s.parts)) (subst (λ ts. have_types (environment_of spec) (vals (v.word 32 s.pc ∷ s.parts)) ts ≡ true) (sym same) all)

  parts_step : (ps : Vals) (l : List Read) → have_types (environment_of spec) ps (Word 32 ∷ is.parts) ≡ true → are_reads (environment_of spec) l ≡ true → IsTypedStep (environment_of spec) m.state (state_from ps l)
  parts_step v.no_val l h r = absurd (false≢true h)
  parts_step (v.val_then (v.flag b) ps) l h r = absurd (false≢true h)
  parts_step (v.val_then (v.made t c qs) ps) l h r = absurd (false≢true h)
  parts_step (v.val_then (v.map n rest cells) ps) l h r = absurd (false≢true h)
  parts_step (v.val_then (v.word w pc) ps) l h r =
      let word = and_left (has_type (environment_of spec) (v.word w pc) (Word 32)) (have_types (environment_of spec) ps is.parts) h in
      let same = same_number w 32 (and_left (w == 32) (nat_lt pc (2 ^ 32)) word) in
      let now = subst (λ z. have_types (environment_of spec) (v.val_then (v.word z pc) ps) (Word 32 ∷ is.parts) ≡ true) same h in
      let typed_parts = subst (λ z. have_types (environment_of spec) (v.val_then (v.word 32 pc) z) (Word 32 ∷ is.parts) ≡ true) (sym (listed ps)) now in
      (state_typed (v.val_then (v.word 32 pc) (vals (val_list ps))) (subst (λ ts. have_types (environment_of spec) (v.val_then (v.word 32 pc) (vals (val_list ps))) ts ≡ true) (sym is.counter) typed_parts), r)

  outcome_step : (x : Outcome Val) → IsOutcomeOf (environment_of spec) (DataTy m.state) x → IsTypedStep (environment_of spec) m.state (stepped_of x)
  outcome_step (o.deep i) h = tt
  outcome_step o.wrong h = h
  outcome_step (o.gives (v.flag b) l) h = absurd (false≢true h.0)
  outcome_step (o.gives (v.word w n) l) h = absurd (false≢true h.0)
  outcome_step (o.gives (v.map n rest cells) l) h = absurd (false≢true h.0)
  outcome_step (o.gives (v.made t c ps) l) h =
      let there = and_right (t == m.state) (of_case (case_at (environment_of spec) (DataTy m.state) c) (have_types (environment_of spec) ps)) h.0 in
      let parts = only_case c ps (subst (λ x. of_case x (have_types (environment_of spec) ps) ≡ true) (case_is c) there) in
      parts_step ps l (subst (λ ts. have_types (environment_of spec) ps ts ≡ true) is.counter parts) h.1

module _ (spec : Spec) (m : Machine) (code : ℕ → Option ℕ) (d : ℕ) (ok : IsAccepted spec) (e : spec.machine ≡ Some m) where
  there : IsMachine spec m
  there = machine_is spec spec.machine m ok.machine e

  arguments_are : (p q : Val) → has_type (environment_of spec) p (DataTy m.instr) ≡ true → has_type (environment_of spec) q (DataTy m.state) ≡ true → have_types (environment_of spec) (vals (p ∷ q ∷ [])) there.interp.params ≡ true
  arguments_are p q h k =
      subst (λ ts. have_types (environment_of spec) (vals (p ∷ q ∷ [])) ts ≡ true) (sym there.takes)
      (both (has_type (environment_of spec) p (DataTy m.instr)) (has_type (environment_of spec) q (DataTy m.state) && true) h (both (has_type (environment_of spec) q (DataTy m.state)) true k refl))

  executed_step : (s : State) (code_word : ℕ) (x : Option Val) → decoded m.instr spec.rows code_word ≡ x → IsTypedState (environment_of spec) m.state s → IsTypedStep (environment_of spec) m.state (executed spec m code d s code_word x)
  executed_step s code_word None h k = tt
  executed_step s code_word (Some p) h k =
      let of =
      typed spec ok s.pc d m.interp there.interp (p ∷ value_of m.state s ∷ []) [] there.interp_there (arguments_are p (value_of m.state s) (instructions_have_their_type spec m code_word p ok e h) k) refl in
      outcome_step spec m there (meaning spec s.pc d m.interp (p ∷ value_of m.state s ∷ []) [])
      (subst (λ ty. IsOutcomeOf (environment_of spec) ty (meaning spec s.pc d m.interp (p ∷ value_of m.state s ∷ []) [])) there.returns of)

  fetched_step : (s : State) (x : Option ℕ) → IsTypedState (environment_of spec) m.state s → IsTypedStep (environment_of spec) m.state (fetched spec m code d s x)
  fetched_step s None k = tt
  fetched_step s (Some code_word) k = executed_step s code_word (decoded m.instr spec.rows code_word) refl k

  keeps_on : (go_on : State → Ended) (done : ℕ) (s : State) (x : Stepped) → IsTypedState (environment_of spec) m.state s → IsTypedStep (environment_of spec) m.state x
      → ((next : State) → IsTypedState (environment_of spec) m.state next → IsTypedEnd (environment_of spec) m.state (go_on next)) → IsTypedEnd (environment_of spec) m.state (goes_on spec m code d go_on done s x)
  keeps_on go_on done s (r.steps_to next reads) k h go = go next h.0
  keeps_on go_on done s r.left k h go = record { state = k; right = λ q. cc }
  keeps_on go_on done s (r.undecodable w) k h go = record { state = k; right = λ q. cc }
  keeps_on go_on done s r.deep k h go = record { state = k; right = λ q. cc }
  keeps_on go_on done s r.wrong k h go = absurd h

  run_keeps : (n done : ℕ) (s : State) → IsTypedState (environment_of spec) m.state s → IsTypedEnd (environment_of spec) m.state (run_from spec m code d n done s)
  run_keeps zero done s k = record { state = k; right = λ q. cc }
  run_keeps (suc n) done s k = keeps_on (run_from spec m code d n (suc done)) done s (step spec m code d s) k (fetched_step s (code s.pc) k) (λ next h. run_keeps n (suc done) next h)

pub steps_keep_types : StepsKeepTypes
steps_keep_types spec m code d s ok e k = fetched_step spec m code d ok e s (code s.pc) k

pub runs_keep_types : RunsKeepTypes
runs_keep_types spec m code d n s ok e k = run_keeps spec m code d ok e n 0 s k

pub entry_states_have_their_type : EntryStatesHaveTheirType
entry_states_have_their_type spec m types pc lines s ok e fields lt entry = entry_typed spec m (machine_is spec spec.machine m ok.machine e) types pc lines s fields lt entry
