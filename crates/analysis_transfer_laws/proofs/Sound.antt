-- Transfers describe the steps of the machine.
use Rattle.std.proofs.Common.{◌≡◌, ℕ, suc, ◌<◌, ◌^◌, true, false, List, [], ◌∷◌, length, Option, Some, None, refl, sym, subst, ◌∙◌, IsTrue}
use Rattle.std.specs.Prelude.{is_some}
use Rattle.std.proofs.lemmas.Bool.{false≢true}
use Rattle.spec_match_compiler.proofs.Truth.{both}
use Rattle.base_trait.specs.Algebra.{Algebra}
use Rattle.base_trait.specs.Laws.{Laws}
use Rattle.base_trait.specs.Precision.{joined_turns, unrolled_turns}
use Rattle.base_trait.specs.Lists.{Each}
use Rattle.base_trait.specs.Uses.{AreCovering, Read, Seen}
use Rattle.spec_ir.specs.declared.ty.Ty.TheVariants.{Data as DataTy}
use Rattle.semantics_values.specs.States.{State, value_of}
use Rattle.semantics_values.specs.Types as concrete
use Rattle.semantics_values.specs.Types.{environment_of}
use Rattle.semantics_values.specs.Values.{Val, vals}
use Rattle.semantics.specs.Decode.{decoded}
use Rattle.semantics.specs.Entries.{IsEntryState}
use Rattle.semantics.specs.Outcomes as o
use Rattle.semantics.specs.Runs as r
use Rattle.semantics.specs.Runs.{meaning, stepped_of}
use Rattle.semantics_laws.specs.KeptTypes.{IsTypedState}
use Rattle.semantics_laws.specs.Typed.{IsOutcomeOf}
use Rattle.semantics_laws.proofs.Kept.{entry_states_have_their_type}
use Rattle.semantics_laws.proofs.Turns.{meanings_have_types}
use Rattle.abstract_value_laws.specs.Abs.{Abs, parts}
use Rattle.abstract_value_laws.specs.Describes.{Describes as StandsFor, PartsDescribe}
use Rattle.abstract_value_laws.proofs.Concrete.{value_describes}
use Rattle.support_tail_fixpoint.specs.Answer.{fails, gives}
use Rattle.abstract_semantics.specs.Answers.{Answer}
use Rattle.abstract_semantics.specs.Sound.{Covered, IsSound as IsSoundAnswer}
use Rattle.abstract_semantics.proofs.SoundCalls.{calls_are_sound}
use Rattle.fixpoint_theory.specs.Analysis.{Analysis}
use Rattle.fixpoint_theory.specs.Code.{is_code}
use Rattle.fixpoint_theory.specs.Elements.{Elements}
use Rattle.fixpoint_theory.specs.Outcome.{Outcome, moves, sends, too_many, undecodable}
use Rattle.fixpoint_theory.specs.Runs.{Describes, Machine, deep, goes, left, stops}
use Rattle.fixpoint_theory.proofs.Soundness.{closed_tables_are_sound}
use Rattle.domain_laws.specs.Domain.{Meaning}
use Rattle.domain_laws.specs.States.{IsState, state_type, state_types}
use Rattle.analysis_transfer_laws.specs.Analysis.{analysis_of, machine_of, step_of}
use Rattle.analysis_transfer_laws.specs.Laws.{ClosedTablesHold, IsAnalysed, TransfersAreSound}
use Rattle.analysis_transfer_laws.specs.Problem.{Problem}
use Rattle.analysis_transfer_laws.specs.Transfer.{arguments, executed, fetched, moved, moved_to, outcome_of, uses_in}
use Rattle.analysis_transfer_laws.proofs.Evaluated.{IsEvaluated, are_arguments, evaluated, instruction_fits, instruction_typed, machine_is, state_value}
use Rattle.analysis_transfer_laws.proofs.Keeping.{transfers_keep_the_laws}
use Rattle.analysis_transfer_laws.proofs.Merging.{merged_keep}
use Rattle.analysis_transfer_laws.proofs.NextStates.{HasCounter, counter_there, state_again, state_there}
use Rattle.analysis_transfer_laws.proofs.States.{number_is, state_fields, types_are}
use Rattle.analysis_transfer_laws.proofs.Transfers.{counter_fits}

-- of a step without a turn left nothing is said
deep_described : {E W S : Type 0} (A : Analysis E W S) (M : Machine S) (given : Outcome E W) → Describes A M given (stops deep)
deep_described A M (undecodable code_word) = tt
deep_described A M (too_many shown uses) = tt
deep_described A M (moves targets post uses) = tt
deep_described A M (sends arrivals uses) = tt

each_covered : (log : List Seen) (reads : List Read) → Covered log reads → Each (AreCovering log) reads
each_covered log [] h = tt
each_covered log (read ∷ reads) h = (h.0, each_covered log reads h.1)

module _ {E W N C : Type 0} (B : Algebra W N C) (laws : Laws W N C B) (cap : ℕ) (D : Elements E State) (M : Meaning E W N C) (p : Problem) (calls : ℕ → ℕ → List (Abs W N) → Answer (Abs W N)) (h : IsAnalysed B cap D M p calls) where
  -- both ways to say that a state has its type
  to_state : (s : State) → IsTypedState (environment_of p.spec) p.machine.state s → IsState p.spec s
  to_state s typed = subst (λ n. IsTypedState (environment_of p.spec) n s) (sym (number_is p.spec p.machine h.posed.machine (machine_is B laws cap D M p calls h))) typed

  from_state : (s : State) → IsState p.spec s → IsTypedState (environment_of p.spec) p.machine.state s
  from_state s typed = subst (λ n. IsTypedState (environment_of p.spec) n s) (number_is p.spec p.machine h.posed.machine (machine_is B laws cap D M p calls h)) typed

  entry_holds : (s : State) → IsEntryState (environment_of p.spec) (state_types p.spec) p.pc p.lines s → (s.pc ≡ p.pc) × (IsState p.spec s × D.holds (M.entry p.lines) s)
  entry_holds s entry =
      let is = machine_is B laws cap D M p calls h in
      let own = subst (λ ts. IsEntryState (environment_of p.spec) ts p.pc p.lines s) (types_are p.spec p.machine h.posed.machine is) entry in (
        entry.counter,
        (
          to_state s (entry_states_have_their_type p.spec p.machine is.parts p.pc p.lines s h.posed.accepted h.posed.machine (state_fields p.spec p.machine h.posed.machine is) h.posed.counter own),
          h.domain.entry_holds p.lines p.pc s h.posed.lines entry,
        ),
      )

  leaves : (d : ℕ) (s : State) → is_code p.addresses s.pc ≡ false → (machine_of p).step d s ≡ stops left
  leaves d s out = at (p.word_at s.pc) (sym (h.posed.words s.pc) ∙ out)
    where
      at : (w : Option ℕ) → is_some w ≡ false → step_of (r.fetched p.spec p.machine p.word_at d s w) ≡ stops left
      at None none = refl
      at (Some code_word) none = absurd (false≢true (sym none))

  module _ (d : ℕ) (x : E) (s : State) (fit : D.fits x) (lt : s.pc < 2 ^ 32) (typed : IsState p.spec s) (holds : D.holds x s) where
    -- ---- behind the instruction
    moved_described : (y : Abs W N) (log : List Seen) (next : State) (reads : List Read) → IsEvaluated B cap D M p s.pc x (gives (Some y) log) → IsTypedState (environment_of p.spec) p.machine.state next
        → StandsFor B (M.valuation s) y (value_of p.machine.state next) → (IsTrue B.notes.stamped → Covered (uses_in p log) reads)
        → (k : HasCounter p.spec p.machine (machine_is B laws cap D M p calls h) B (M.valuation s) next y) → (ts : Option (List ℕ)) → B.words.members M.context 32 k.counter p.limit ≡ ts
        → Describes (analysis_of B cap D M p calls) (machine_of p) (moved_to B M p x y log k.counter ts) (goes next reads)
    moved_described y log next reads is next_typed stands covers k None members = λ stamped. each_covered (uses_in p log) reads (covers stamped)
    moved_described y log next reads is next_typed stands covers k (Some targets) members =
        let state = state_value B laws cap D M p calls h y (32, k.counter) is.kept.0 k.there in
        let word_fits = counter_fits B M.context cap y (32, k.counter) state.1 k.there in
        let number = number_is p.spec p.machine h.posed.machine (machine_is B laws cap D M p calls h) in (
          laws.words.members_hold M.context (M.valuation s) 32 p.limit next.pc targets k.counter word_fits.0 word_fits.1 members k.describes,
          (to_state next next_typed, h.domain.close_holds x y s next fit state holds (subst (λ n. StandsFor B (M.valuation s) y (value_of n next)) (sym number) stands)),
          λ stamped. each_covered (uses_in p log) reads (covers stamped),
        )

    gives_described : (y : Abs W N) (log : List Seen) (next : State) (reads : List Read) → IsEvaluated B cap D M p s.pc x (gives (Some y) log) → IsTypedState (environment_of p.spec) p.machine.state next
        → StandsFor B (M.valuation s) y (value_of p.machine.state next) → (IsTrue B.notes.stamped → Covered (uses_in p log) reads)
        → Describes (analysis_of B cap D M p calls) (machine_of p) (outcome_of B M p x (gives (Some y) log)) (goes next reads)
    gives_described y log next reads is next_typed stands covers =
        let k = counter_there p.spec p.machine (machine_is B laws cap D M p calls h) B (M.valuation s) next y is.kept.0.has stands in
        subst (λ q. Describes (analysis_of B cap D M p calls) (machine_of p) (moved B M p x y log q) (goes next reads)) (sym k.there)
        (moved_described y log next reads is next_typed stands covers k (B.words.members M.context 32 k.counter p.limit) refl)

    answer_described : (given : Answer (Abs W N)) (out : o.Outcome Val) → IsEvaluated B cap D M p s.pc x given → IsSoundAnswer (IsTrue B.notes.stamped) (StandsFor B (M.valuation s)) [] [] given out
        → IsOutcomeOf (environment_of p.spec) (DataTy p.machine.state) out → Describes (analysis_of B cap D M p calls) (machine_of p) (outcome_of B M p x given) (step_of (stepped_of out))
    answer_described given (o.deep i) is sound of_type = deep_described (analysis_of B cap D M p calls) (machine_of p) (outcome_of B M p x given)
    answer_described given o.wrong is sound of_type = absurd of_type
    answer_described (fails i) (o.gives value reads) is sound of_type = absurd sound
    answer_described (gives None log) (o.gives value reads) is sound of_type = absurd sound
    answer_described (gives (Some y) log) (o.gives value reads) is sound of_type =
        let there = state_there p.spec p.machine (machine_is B laws cap D M p calls h) value of_type.0 in
        let next = there.state in
        let next_typed = subst (λ v. concrete.has_type (environment_of p.spec) v (DataTy p.machine.state) ≡ true) there.is_it of_type.0 in
        let stands = subst (StandsFor B (M.valuation s) y) there.is_it sound.0 in
        subst (λ v. Describes (analysis_of B cap D M p calls) (machine_of p) (outcome_of B M p x (gives (Some y) log)) (step_of (stepped_of (o.gives v reads)))) (sym there.is_it)
        (subst (λ z. Describes (analysis_of B cap D M p calls) (machine_of p) (outcome_of B M p x (gives (Some y) log)) (step_of z)) (sym (state_again next reads))
        (gives_described y log next reads is next_typed stands (λ stamped. sound.1.covers stamped (uses_in p log) (merged_keep (state_type p.spec).fields log) tt)))

    -- ---- the step
    executed_described : (code_word : ℕ) (i : Option Val) → decoded p.machine.instr p.spec.rows code_word ≡ i
        → Describes (analysis_of B cap D M p calls) (machine_of p) (executed B cap M p calls s.pc x code_word i) (step_of (r.executed p.spec p.machine p.word_at d s code_word i))
    executed_described code_word None e = tt
    executed_described code_word (Some instruction) e =
        let env = environment_of p.spec in
        let is = machine_is B laws cap D M p calls h in
        let f = p.machine.interp in
        let vs = instruction ∷ value_of p.machine.state s ∷ [] in
        let number = number_is p.spec p.machine h.posed.machine is in
        let typed_instruction = instruction_typed B laws cap D M p calls h s.pc lt x fit code_word instruction e in
        let typed_args : concrete.have_types env (vals vs) is.interp.params ≡ true = subst (λ ts. concrete.have_types env (vals vs) ts ≡ true) (sym is.takes)
        (both (concrete.has_type env instruction (DataTy p.machine.instr)) _ typed_instruction (both (concrete.has_type env (value_of p.machine.state s) (DataTy p.machine.state)) true (from_state s typed) refl)) in
        let describe : PartsDescribe B (M.valuation s) (parts (arguments B cap M p s.pc x instruction)) (vals vs) = (
          value_describes B laws M.context cap env (M.valuation s) instruction (instruction_fits B laws cap D M p calls h s.pc lt x fit code_word instruction e),
          (subst (λ n. StandsFor B (M.valuation s) (M.opened s.pc x) (value_of n s)) number (h.domain.open_describes x s lt typed fit holds), tt),
        ) in
        answer_described (calls s.pc f (arguments B cap M p s.pc x instruction)) (meaning p.spec s.pc d f vs [])
        (evaluated B laws cap D M p calls h s.pc x code_word instruction lt fit e)
        (calls_are_sound B laws p.spec M.context cap s.pc unrolled_turns joined_turns (calls s.pc) (M.valuation s) d (suc (length p.spec.funs)) f is.interp (arguments B cap M p s.pc x instruction) vs [] h.posed.accepted h.joins (h.right s.pc) is.interp_there
        (are_arguments B laws cap D M p calls h s.pc lt x fit code_word instruction e) typed_args describe)
        (subst (λ ty. IsOutcomeOf env ty (meaning p.spec s.pc d f vs [])) is.returns (meanings_have_types p.spec s.pc d f is.interp vs [] h.posed.accepted is.interp_there typed_args refl))

    fetched_described : (w : Option ℕ) → is_some w ≡ true → Describes (analysis_of B cap D M p calls) (machine_of p) (fetched B cap M p calls s.pc x w) (step_of (r.fetched p.spec p.machine p.word_at d s w))
    fetched_described None there = absurd (false≢true there)
    fetched_described (Some code_word) there = executed_described code_word (decoded p.machine.instr p.spec.rows code_word) refl

module _ {E W N C : Type 0} (B : Algebra W N C) (laws : Laws W N C B) (cap : ℕ) (D : Elements E State) (M : Meaning E W N C) where
  pub transfers_are_sound : TransfersAreSound B cap D M
  transfers_are_sound p calls h = record {
    entry = λ s starts. entry_holds B laws cap D M p calls h s starts;
    transfer = λ d x s fit code holds. fetched_described B laws cap D M p calls h d x s fit (h.posed.addressed s.pc code) holds.0 holds.1 (p.word_at s.pc) (sym (h.posed.words s.pc) ∙ code);
    leaves = λ d s out. leaves B laws cap D M p calls h d s out;
  }

  pub closed_tables_hold : ClosedTablesHold B cap D M
  closed_tables_hold p calls t h fits closed =
      closed_tables_are_sound (analysis_of B cap D M p calls) (machine_of p) (transfers_keep_the_laws B laws cap D M p calls h) (transfers_are_sound p calls h) t fits closed
