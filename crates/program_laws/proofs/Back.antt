-- What `emulate` prints is an entry of the last state of its run.
use Rattle.std.proofs.Common.{◌≡◌, ℕ, zero, suc, ◌+◌, ◌<◌, ◌^◌, ◌≤◌, ◌==◌, ◌&&◌, Bool, true, List, ◌∷◌, Option, Some, None, length, refl, sym, ◌∙◌, ap, subst, arith}
use Rattle.std.specs.Prelude.{Result, Ok, Err, nat_lt}
use Rattle.std.proofs.lemmas.Bool.{and_parts, false≢true}
use Rattle.std.proofs.lemmas.Bool.Decides.{nat_tests}
use Rattle.support_command_line.specs.Requests.{EmulateRequest}
use Rattle.spec_ir.specs.declared.spec.Machine.{Machine as Numbers}
use Rattle.spec_ir.specs.declared.spec.SpecUse.TheVariants.{Machine}
use Rattle.spec_ir.specs.declared.ty.Ty.{Ty}
use Rattle.spec_ir.specs.declared.ty.Ty.TheVariants.{Word, Data as DataTy}
use Rattle.spec_ir.specs.Environment.{Case}
use Rattle.spec_ir.specs.Specification.{Spec}
use Rattle.spec_ir.specs.Texts.{case_at, fields_at}
use Rattle.semantics_values.specs.States.{State}
use Rattle.semantics_values.specs.Types.{environment_of, has_type, have_types, of_case}
use Rattle.semantics_values.specs.Values.{vals, word}
use Rattle.semantics.specs.Runs as r
use Rattle.semantics.specs.Runs.{Ended, Stepped, goes_on, run_from, step}
use Rattle.semantics_laws.specs.Accepted.{IsAccepted}
use Rattle.semantics_laws.specs.KeptTypes.{IsTypedState}
use Rattle.semantics_laws.proofs.Kept.{runs_keep_types}
use Rattle.state_cell_text.specs.Places.{state_fields}
use Rattle.code_image.specs.Image.{code_at}
use Rattle.state_text.specs.declared.stop.Stop.{Stop}
use Rattle.state_text.specs.declared.stop.Stop.TheVariants.{Bound, Left, Turns, Undecodable}
use Rattle.state_text.specs.Laws.{IsStateOf}
use Rattle.state_text.specs.OneState.{types_behind}
use Rattle.state_text.specs.Reading.{read}
use Rattle.state_text.specs.Stops.{stopped_text}
use Rattle.state_text.proofs.RoundTrip.{round_trip}
use Rattle.state_entry_laws.proofs.Fields.{machines_have_fields}
use Rattle.program_common.specs.Outcome.{Answer, line_of}
use Rattle.program_common.specs.Reading.{Holds}
use Rattle.program_common.specs.Sources.{IsSpecification, SourceOf, Specifies}
use Rattle.program_common.proofs.Steps.{opened}
use Rattle.program_machine.specs.Code.{CodeOf}
use Rattle.program_machine.specs.Entry.{StartOf}
use Rattle.program_machine.specs.Machines.{MachineOf}
use Rattle.program_machine.specs.Running.{IsRunOf, answer_of, end_of}
use Rattle.program_machine.proofs.Cells.{fields_of_states}
use Rattle.program_machine.proofs.Chains.{AfterCode, AfterMachine, AfterStart}
use Rattle.program_machine.proofs.Giving.{specified_accepted}
use Rattle.program_machine.proofs.Typing.{start_typed}
use Rattle.program_laws.specs.Laws.{EmulateReadsBack}

-- ---- a run does no more steps than it may

module _ (spec : Spec) (machine : Numbers) (code : ℕ → Option ℕ) (d : ℕ) where
  goes_within : (n done : ℕ) (s : State) (go_on : State → Ended) (x : Stepped) → ((next : State) → (go_on next).done ≤ suc done + n) → (goes_on spec machine code d go_on done s x).done ≤ done + suc n
  goes_within n done s go_on (r.steps_to next reads) within = let there = within next in omega (arith, there)
  goes_within n done s go_on r.left within = omega arith
  goes_within n done s go_on (r.undecodable code_word) within = omega arith
  goes_within n done s go_on r.deep within = omega arith
  goes_within n done s go_on r.wrong within = omega arith

  runs_within : (n done : ℕ) (s : State) → (run_from spec machine code d n done s).done ≤ done + n
  runs_within zero done s = omega arith
  runs_within (suc n) done s = goes_within n done s (run_from spec machine code d n (suc done)) (step spec machine code d s) (λ next. runs_within n (suc done) next)

-- ---- a state that has its type is one of the machine

of_case_holds : (found : Option Case) (test : List Ty → Bool) → of_case found test ≡ true → test (fields_at found) ≡ true
of_case_holds None test h = absurd (false≢true h)
of_case_holds (Some c) test h = h

module _ (spec : Spec) (machine : Numbers) (ok : IsAccepted spec) (e : spec.machine ≡ Some machine) where
  typed_is : (s : State) → IsTypedState (environment_of spec) machine.state s → IsStateOf spec s
  typed_is s h =
      let env = environment_of spec in
      let types = types_behind (state_fields spec) in
      let found = case_at env (DataTy machine.state) 0 in
      let test : List Ty → Bool = have_types env (vals (word 32 s.pc ∷ s.parts)) in
      let of_type = and_parts (machine.state == machine.state) (of_case found test) h in
      let parts : test (Word 32 ∷ types) ≡ true = subst (λ (ts : List Ty). test ts ≡ true) (fields_of_states spec machine ok e) (of_case_holds found test of_type.1) in
      let both = and_parts (has_type env (word 32 s.pc) (Word 32)) (have_types env (vals s.parts) types) parts in
      let counter = and_parts (32 == 32) (nat_lt s.pc (2 ^ 32)) both.0 in
      let below : nat_lt s.pc (2 ^ 32) ≡ true = counter.1 in
      record { counter = grind (arith, nat_tests, below); typed = both.1 }

-- ---- what is written of an answer

line_is : (stop : Stop) (bytes : List ℕ) → line_of (Ok (answer_of stop bytes)) ≡ bytes
line_is Bound bytes = refl
line_is Left bytes = refl
line_is (Undecodable at code_word) bytes = refl
line_is (Turns at) bytes = refl

-- ---- the law

pub emulate_reads_back : EmulateReadsBack
emulate_reads_back held request answer few steps =
    let reads = Holds held in
    let m = opened (MachineOf reads request.spec) (AfterMachine reads request) answer steps in
    let c = opened (CodeOf reads request.code) (AfterCode reads request m.0) answer m.2 in
    let s = opened (StartOf reads m.0 request.entry) (AfterStart reads request m.0 c.0) answer c.2 in
    let run : IsRunOf m.0 c.0 request.calls request.steps s.0 answer = s.2 in
    let source = opened (SourceOf reads request.spec) (Specifies Machine) m.0 m.1 in
    let is : IsSpecification Machine source.0 m.0 = source.2 in
    let ok = specified_accepted source.0 m.0 is in
    let fields = machines_have_fields source.0 is.parsed.tokens (length source.0) is.tree m.0 is.parsed.lexed is.parsed.parsed is.faultless is.checked in
    let start = start_typed reads m.0 request.entry s.0 ok s.1 run.machine run.is_machine in
    let end = end_of m.0 run.machine c.0 request.calls request.steps s.0 in
    let typed = runs_keep_types m.0 run.machine (code_at c.0) request.calls request.steps s.0 ok run.is_machine start in
    let within : end.done ≤ 0 + request.steps = runs_within m.0 run.machine (code_at c.0) request.calls request.steps 0 s.0 in
    let text = stopped_text m.0 run.tells.stop end.done end.state in
    let back = round_trip.stopped m.0 run.tells.stop end.done end.state (omega (arith, within, few)) fields (typed_is m.0 run.machine ok run.is_machine end.state typed.state) in
    let line : line_of (Ok answer) ≡ text = ap (λ (a : Answer). line_of (Ok a)) run.tells.told ∙ line_is run.tells.stop text in
    record {
      spec = m.0;
      image = c.0;
      start = s.0;
      machine = run.machine;
      specified = m.1;
      imaged = c.1;
      started = s.1;
      is_machine = run.is_machine;
      entry = back.0;
      is_read = subst (λ (bytes : List ℕ). read m.0 bytes ≡ Ok back.0) (sym line) back.1;
      last = back.2;
    }
