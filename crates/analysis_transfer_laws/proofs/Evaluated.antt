-- What an evaluation of an instruction on an element that fits gives.
use Rattle.std.proofs.Common.{◌≡◌, ℕ, zero, suc, ◌<◌, ◌≤◌, ◌^◌, true, false, List, [], ◌∷◌, length, Option, Some, None, option_map, map as map_of, refl, sym, subst, inl, inr}
use Rattle.std.specs.Prelude.{nat_le}
use Rattle.std.proofs.lemmas.Bool.{lt-ltb as less_is, le-leb as at_most_is}
use Rattle.spec_match_compiler.proofs.Truth.{both}
use Rattle.base_trait.specs.Algebra.{Algebra}
use Rattle.base_trait.specs.Laws.{Laws}
use Rattle.base_trait.specs.Precision.{joined_turns, unrolled_turns}
use Rattle.base_trait.specs.Lists.{AreAmong, Each}
use Rattle.base_trait.specs.declared.uses.Stamp.{Stamp}
use Rattle.base_trait.specs.declared.uses.Stamp.TheVariants.{At}
use Rattle.base_trait.proofs.Lists.{are_among_from}
use Rattle.spec_ir.specs.declared.row.Arg.{Arg}
use Rattle.spec_ir.specs.declared.ty.Ty.TheVariants.{Data as DataTy}
use Rattle.spec_ir.specs.Environment.{Environment, key_of}
use Rattle.spec_ir.specs.Specification.{Row}
use Rattle.spec_ir.proofs.Lists.{all_from}
use Rattle.semantics_values.specs.States.{State}
use Rattle.semantics_values.specs.Types as concrete
use Rattle.semantics_values.specs.Types.{environment_of, key_count}
use Rattle.semantics_values.specs.Values.{Val, vals}
use Rattle.semantics.specs.Decode.{argument_of, decoded, fields_in, instruction_of, row_met}
use Rattle.semantics_laws.specs.Accepted.{IsMachine, IsMachineIfAny}
use Rattle.semantics_laws.proofs.Kept.{instructions_have_their_type}
use Rattle.abstract_value_laws.specs.Abs.{Abs, Parts, no_case, parts}
use Rattle.abstract_value_laws.specs.Shapes.{CasesList, ListsStamps, PartsList}
use Rattle.abstract_value_laws.specs.Keys.{KeysFit}
use Rattle.abstract_value_laws.specs.TypeLaws.{are_keyed}
use Rattle.abstract_value_laws.specs.OfValues.{ValueFits, absent_onto, case_count, of_value, of_values, one_case}
use Rattle.abstract_value_laws.specs.Types.{has_type, have_types}
use Rattle.abstract_value_laws.proofs.Concrete.{value_is_fit, value_is_typed}
use Rattle.abstract_value_laws.proofs.Depths.{within}
use Rattle.abstract_value_laws.proofs.Keyed.{value_keys_fit, widen_keys_fit}
use Rattle.abstract_value_laws.proofs.Typed.{typed_fits}
use Rattle.abstract_value_laws.proofs.Widening.{widen_lists}
use Rattle.support_tail_fixpoint.specs.declared.policy.Policy.TheVariants.{Widen}
use Rattle.support_tail_fixpoint.specs.Answer.{IfGives}
use Rattle.abstract_semantics.specs.Answers.{Answer}
use Rattle.abstract_semantics.specs.Calls.{AreArguments}
use Rattle.abstract_semantics.specs.Terms.{params_in}
use Rattle.abstract_semantics.proofs.Called.{keys_fine, none_fails}
use Rattle.abstract_semantics.proofs.Kept.{IsKept}
use Rattle.abstract_semantics.proofs.Listed.{calls_list_stamps, keeps_stamps, parts_list}
use Rattle.abstract_semantics.proofs.Plain.{call_kept}
use Rattle.abstract_semantics.proofs.Typed.{IsOf}
use Rattle.fixpoint_theory.specs.Elements.{Elements}
use Rattle.domain_laws.specs.Domain.{Meaning}
use Rattle.domain_laws.specs.States.{state_type}
use Rattle.domain_laws.specs.Values.{IsStateValue}
use Rattle.analysis_transfer_laws.specs.Laws.{IsAnalysed}
use Rattle.analysis_transfer_laws.specs.Problem.{Problem}
use Rattle.analysis_transfer_laws.specs.Transfer.{arguments, counter_of}
use Rattle.analysis_transfer_laws.proofs.KeysKept.{keeps_keys}
use Rattle.analysis_transfer_laws.proofs.LoggedCalls.{call_logged, reads_listed, reads_none}
use Rattle.analysis_transfer_laws.proofs.Logs.{IsLogged}
use Rattle.analysis_transfer_laws.proofs.States.{form_from, form_keys, form_typed}

-- ---- an instruction lists no stamps: its fields are words
module _ {W N C : Type 0} (B : Algebra W N C) (c : C) (cap : ℕ) (env : Environment) (stamps : List Stamp) where
  absent_lists : (n : ℕ) → CasesList B stamps (absent_onto n no_case)
  absent_lists zero = tt
  absent_lists (suc n) = absent_lists n

  one_lists : (n k : ℕ) (xs : Parts W N) → PartsList B stamps xs → CasesList B stamps (one_case n k xs)
  one_lists zero k xs h = tt
  one_lists (suc n) zero xs h = (h, absent_lists n)
  one_lists (suc n) (suc k) xs h = one_lists n k xs h

  words_list : (fields : List (ℕ × ℕ)) (args : List Arg) → PartsList B stamps (of_values B c cap env (vals (map_of (argument_of fields) args)))
  words_list fields [] = tt
  words_list fields (a ∷ args) = (tt, words_list fields args)

  instruction_lists : (instr code_word : ℕ) (rows : List Row) (instruction : Val) → decoded instr rows code_word ≡ Some instruction → ListsStamps B stamps (of_value B c cap env instruction)
  instruction_lists instr code_word rows instruction e = at (row_met code_word rows) e
    where
      at : (o : Option Row) → option_map (instruction_of instr code_word) o ≡ Some instruction → ListsStamps B stamps (of_value B c cap env instruction)
      at None e = absurd cc
      at (Some row) e =
          let same : instruction_of instr code_word row ≡ instruction = cc in
          subst (λ v. ListsStamps B stamps (of_value B c cap env v)) same (one_lists (case_count env instr) row.case _ (words_list (fields_in code_word row.parts) row.args))

module _ {E W N C : Type 0} (B : Algebra W N C) (laws : Laws W N C B) (cap : ℕ) (D : Elements E State) (M : Meaning E W N C) (p : Problem) (calls : ℕ → ℕ → List (Abs W N) → Answer (Abs W N)) (h : IsAnalysed B cap D M p calls) where
  pub machine_is : IsMachine p.spec p.machine
  machine_is = subst (IsMachineIfAny p.spec) h.posed.machine h.posed.accepted.machine

  keyed : are_keyed (environment_of p.spec) ≡ true
  keyed = all_from (λ m. nat_le (key_count (environment_of p.spec) m.key) (2 ^ 32)) p.spec.maps (λ k m e.
      at_most_is (key_count (environment_of p.spec) m.key) (2 ^ 32)
      (subst (λ o. key_count (environment_of p.spec) (key_of o) ≤ 2 ^ 32) e (keys_fine p.spec h.posed.accepted k (within p.spec.maps k m e)).1))

  module _ (a : ℕ) (lt : a < 2 ^ 32) (x : E) (fit : D.fits x) (code_word : ℕ) (instruction : Val) (e : decoded p.machine.instr p.spec.rows code_word ≡ Some instruction) where
    pub instruction_typed : concrete.has_type (environment_of p.spec) instruction (DataTy p.machine.instr) ≡ true
    instruction_typed = instructions_have_their_type p.spec p.machine code_word instruction h.posed.accepted h.posed.machine e

    pub instruction_fits : ValueFits (environment_of p.spec) instruction
    instruction_fits =
        typed_fits (environment_of p.spec) instruction (DataTy p.machine.instr) h.posed.accepted.types keyed (less_is p.machine.instr (length p.spec.datas) machine_is.instr) instruction_typed

    opened_is : IsStateValue B M.context cap (state_type p.spec) (M.opened a x)
    opened_is = h.domain.open_fits a x lt fit

    pub are_arguments : AreArguments B M.context cap p.spec p.machine.interp (arguments B cap M p a x instruction)
    are_arguments = record {
      typed = subst (λ o. have_types (environment_of p.spec) (parts (arguments B cap M p a x instruction)) (params_in o) ≡ true) (sym machine_is.interp_there)
          (subst (λ ts. have_types (environment_of p.spec) (parts (arguments B cap M p a x instruction)) ts ≡ true) (sym machine_is.takes)
          (both (has_type (environment_of p.spec) (of_value B M.context cap (environment_of p.spec) instruction) (DataTy p.machine.instr)) _
          (value_is_typed B M.context cap (environment_of p.spec) instruction (DataTy p.machine.instr) instruction_typed)
          (both (has_type (environment_of p.spec) (M.opened a x) (DataTy p.machine.state)) true (form_typed p.spec p.machine h.posed.machine machine_is h.posed.accepted (M.opened a x) opened_is.0) refl)));
      fit = (value_is_fit B laws M.context cap (environment_of p.spec) instruction (inl h.joins) instruction_fits, (opened_is.1, tt));
    }

    own_stamps : AreAmong (D.listed x) (At a ∷ D.listed x)
    own_stamps = are_among_from (D.listed x) (At a ∷ D.listed x) (λ s k. inr k)

    arguments_list : Each (ListsStamps B (At a ∷ D.listed x)) (arguments B cap M p a x instruction)
    arguments_list = (
      instruction_lists B M.context cap (environment_of p.spec) (At a ∷ D.listed x) p.machine.instr code_word p.spec.rows instruction e,
      (h.domain.open_lists (At a ∷ D.listed x) a x lt fit own_stamps, tt),
    )

    arguments_keyed : Each (KeysFit (environment_of p.spec)) (arguments B cap M p a x instruction)
    arguments_keyed = (
      value_keys_fit B M.context cap (environment_of p.spec) instruction (DataTy p.machine.instr) instruction_typed,
      (form_keys p.spec p.machine h.posed.machine machine_is (M.opened a x) opened_is.0, tt),
    )

-- What is known of an answer on an element: a value has the type of states, and fits; and values and logs list no stamps but those
-- of the element and that of the instruction.
pub record IsEvaluated {E W N C : Type 0} (B : Algebra W N C) (cap : ℕ) (D : Elements E State) (M : Meaning E W N C) (p : Problem) (a : ℕ) (x : E) (r : Answer (Abs W N)) : Type 0 where
  pub kept : IsKept ⊥ (IsOf B M.context cap (environment_of p.spec) (KeysFit (environment_of p.spec)) (DataTy p.machine.state)) [] r
  pub lists : IfGives r (ListsStamps B (At a ∷ D.listed x))
  pub logged : IsLogged (λ u. AreAmong u.stamps (At a ∷ D.listed x)) r
  pub unstamped : B.notes.stamped ≡ false → IsLogged (λ u. ⊥) r

module _ {E W N C : Type 0} (B : Algebra W N C) (laws : Laws W N C B) (cap : ℕ) (D : Elements E State) (M : Meaning E W N C) (p : Problem) (calls : ℕ → ℕ → List (Abs W N) → Answer (Abs W N)) (h : IsAnalysed B cap D M p calls) where
  pub evaluated : (a : ℕ) (x : E) (code_word : ℕ) (instruction : Val) → a < 2 ^ 32 → D.fits x → decoded p.machine.instr p.spec.rows code_word ≡ Some instruction
      → IsEvaluated B cap D M p a x (calls a p.machine.interp (arguments B cap M p a x instruction))
  evaluated a x code_word instruction lt fit e =
      let env = environment_of p.spec in
      let xs = arguments B cap M p a x instruction in
      let f = p.machine.interp in
      let is = machine_is B laws cap D M p calls h in
      let args = are_arguments B laws cap D M p calls h a lt x fit code_word instruction e in
      let keyed_args = arguments_keyed B laws cap D M p calls h a lt x fit code_word instruction e in
      let listed_args = arguments_list B laws cap D M p calls h a lt x fit code_word instruction e in
      let stamps = D.listed x in
      record {
        kept = subst (λ ty. IsKept ⊥ (IsOf B M.context cap env (KeysFit env) ty) [] (calls a f xs)) is.returns
            (call_kept B laws M.context cap p.spec a (KeysFit env) (keeps_keys B M.context cap env a) (λ y z k l. widen_keys_fit B M.context env y z k l) (inl h.joins) h.posed.accepted ⊥ (Widen unrolled_turns joined_turns) (calls a)
            (none_fails B M.context cap unrolled_turns joined_turns) (h.right a) f is.interp xs is.interp_there args keyed_args);
        lists = calls_list_stamps B laws p.spec M.context cap a (Widen unrolled_turns joined_turns) (calls a) stamps f xs h.posed.accepted (inl h.joins) tt (h.right a) args (parts_list B (At a ∷ stamps) xs listed_args);
        logged = call_logged B laws M.context cap p.spec a (ListsStamps B (At a ∷ stamps)) (keeps_stamps B laws M.context cap env a stamps) (λ y z k l. widen_lists B laws M.context (At a ∷ stamps) y z k l) (inl h.joins) h.posed.accepted
            (Widen unrolled_turns joined_turns) (calls a) (h.right a) (λ u. AreAmong u.stamps (At a ∷ stamps)) (reads_listed B laws M.context env (At a ∷ stamps)) f is.interp xs is.interp_there args listed_args;
        unstamped = λ none. call_logged B laws M.context cap p.spec a (KeysFit env) (keeps_keys B M.context cap env a) (λ y z k l. widen_keys_fit B M.context env y z k l) (inl h.joins) h.posed.accepted
            (Widen unrolled_turns joined_turns) (calls a) (h.right a) (λ u. ⊥) (reads_none B laws M.context env (KeysFit env) none) f is.interp xs is.interp_there args keyed_args;
      }

  -- a value that has a counter is a state
  pub state_value : (y : Abs W N) (counter : ℕ × W) → IsOf B M.context cap (environment_of p.spec) (KeysFit (environment_of p.spec)) (DataTy p.machine.state) y → counter_of y ≡ Some counter
      → IsStateValue B M.context cap (state_type p.spec) y
  state_value y counter k e = (form_from p.spec p.machine h.posed.machine (machine_is B laws cap D M p calls h) y counter k.has k.also e, k.fits)
