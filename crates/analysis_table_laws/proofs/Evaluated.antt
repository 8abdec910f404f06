-- What an evaluation of an instruction on an element gives: notes that have their property, and uses of cells of states.
use Rattle.std.proofs.Common.{◌≡◌, ℕ, ◌<◌, ◌^◌, List, [], Some, None, IsTrue, inl}
use Rattle.base_trait.specs.Algebra.{Algebra}
use Rattle.base_trait.specs.Laws.{Laws}
use Rattle.base_trait.specs.Precision.{joined_turns, unrolled_turns}
use Rattle.base_trait.specs.Lists.{Each, IsAmong}
use Rattle.abstract_map_laws.specs.Calls.{join_of as join_map, update_of, widen_of as widen_map}
use Rattle.abstract_map_laws.specs.Keys.{Keys}
use Rattle.abstract_map_laws.specs.Maps.{Map}
use Rattle.spec_ir.specs.declared.ty.Ty.{Ty}
use Rattle.spec_ir.specs.declared.ty.Ty.TheVariants.{Map as MapOf}
use Rattle.semantics_values.specs.States.{State}
use Rattle.semantics_values.specs.Types.{environment_of}
use Rattle.semantics_values.specs.Values.{Val}
use Rattle.semantics.specs.Decode.{decoded}
use Rattle.abstract_value_laws.specs.Abs.{Abs}
use Rattle.support_tail_fixpoint.specs.declared.policy.Policy.TheVariants.{Widen}
use Rattle.support_tail_fixpoint.specs.Answer.{IfGives, fails, gives}
use Rattle.abstract_semantics.specs.Answers.{Answer}
use Rattle.abstract_semantics.specs.Steps.{put_at}
use Rattle.abstract_semantics.proofs.Called.{none_fails}
use Rattle.abstract_semantics.proofs.Kept.{IsKept}
use Rattle.abstract_semantics.proofs.Plain.{call_kept}
use Rattle.abstract_semantics.proofs.Stepped.{Invariant}
use Rattle.abstract_semantics.proofs.Typed.{IsOf}
use Rattle.fixpoint_theory.specs.Elements.{Elements}
use Rattle.domain_laws.specs.Domain.{Meaning}
use Rattle.domain_laws.specs.States.{state_types}
use Rattle.analysis_transfer_laws.specs.Laws.{IsAnalysed}
use Rattle.analysis_transfer_laws.specs.Problem.{Problem}
use Rattle.analysis_transfer_laws.specs.Transfer.{arguments}
use Rattle.analysis_transfer_laws.proofs.Evaluated.{are_arguments, machine_is}
use Rattle.analysis_transfer_laws.proofs.LoggedCalls.{call_logged}
use Rattle.analysis_transfer_laws.proofs.Logs.{IsLogged}
use Rattle.analysis_table_laws.specs.Domains.{ElementsKeep}
use Rattle.analysis_table_laws.specs.InvariantLaws.{has_word}
use Rattle.analysis_table_laws.specs.Notes.{NotesKeep}
use Rattle.analysis_table_laws.specs.Tables.{IsUseOf}
use Rattle.analysis_table_laws.specs.Values.{HasNotes, MapHasNotes, MapsAre}
use Rattle.analysis_table_laws.proofs.Forms.{instruction_maps, state_maps}
use Rattle.analysis_table_laws.proofs.Maps.{joined_noted, updated_noted, widened_noted}
use Rattle.analysis_table_laws.proofs.Merged.{maps_both, maps_weaker, widened_maps}
use Rattle.analysis_table_laws.proofs.Reading.{IsFieldMap, reads_used}
use Rattle.analysis_table_laws.proofs.Steps.{keeps_maps}

-- where it gives a value, its notes have the property; and uses in its log are of cells of states
pub record IsNoted {W N : Type 0} (p : Problem) (F : N → Type 0) (r : Answer (Abs W N)) : Type 0 where
  pub notes : IfGives r (HasNotes F)
  pub logged : IsLogged (IsUseOf p.spec) r

module _ {E W N C : Type 0} (B : Algebra W N C) (laws : Laws W N C B) (cap : ℕ) (D : Elements E State) (M : Meaning E W N C) (p : Problem) (calls : ℕ → ℕ → List (Abs W N) → Answer (Abs W N)) (h : IsAnalysed B cap D M p calls)
    (F : N → Type 0) (K : E → Type 0) (notes : NotesKeep B.notes (has_word p) F) (elements : ElementsKeep D M F K) where
  abbrev IsIn : Abs W N → Type 0
  IsIn = MapsAre (IsFieldMap p.spec F)

  -- ---- what is kept
  joins : (m : ℕ) (x y : Map W N) → IsFieldMap p.spec F m x → IsFieldMap p.spec F m y → IsFieldMap p.spec F m (join_map B M.context cap x y)
  joins m x y j k = (j.0, joined_noted B M.context (has_word p) F notes cap m x y j.1 k.1)

  widens : (m : ℕ) (x y : Map W N) → IsFieldMap p.spec F m x → IsFieldMap p.spec F m y → IsFieldMap p.spec F m (widen_map B M.context x y)
  widens m x y j k = (j.0, widened_noted B M.context (has_word p) F notes m x y j.1 k.1)

  module _ (a : ℕ) (lt : a < 2 ^ 32) (code : IsTrue (has_word p a)) where
    puts : (m : ℕ) (x : Map W N) (ks : Keys) (v : W) → IsFieldMap p.spec F m x → IsFieldMap p.spec F m (update_of B M.context cap x ks (put_at B M.context a v))
    puts m x ks v k = (k.0, updated_noted B M.context (has_word p) F notes cap m x ks (put_at B M.context a v) k.1 (notes.at a lt code))

    keeps : Invariant B M.context cap (environment_of p.spec) a IsIn
    keeps = keeps_maps B M.context cap (environment_of p.spec) a (IsFieldMap p.spec F) joins puts

    -- ---- the arguments
    module _ (x : E) (fit : D.fits x) (kept : K x) (code_word : ℕ) (instruction : Val) (e : decoded p.machine.instr p.spec.rows code_word ≡ Some instruction) where
      opened_in : IsIn (M.opened a x)
      opened_in = maps_both (λ m z. IsAmong (MapOf m) (state_types p.spec)) (MapHasNotes F) (M.opened a x) (state_maps p.spec (M.opened a x) (h.domain.open_fits a x lt fit).0) (elements.opened a x kept)

      arguments_in : Each IsIn (arguments B cap M p a x instruction)
      arguments_in = (instruction_maps B M.context cap (environment_of p.spec) (IsFieldMap p.spec F) p.machine.instr code_word p.spec.rows instruction e, (opened_in, tt))

      has_notes : (ty : Ty) (r : Answer (Abs W N)) → IsKept ⊥ (IsOf B M.context cap (environment_of p.spec) IsIn ty) [] r → IfGives r (HasNotes F)
      has_notes ty (fails i) k = tt
      has_notes ty (gives None l) k = tt
      has_notes ty (gives (Some y) l) k = maps_weaker (IsFieldMap p.spec F) (MapHasNotes F) (λ m z q. q.1) y k.0.also

      pub evaluated_noted : IsNoted p F (calls a p.machine.interp (arguments B cap M p a x instruction))
      evaluated_noted =
          let is = machine_is B laws cap D M p calls h in
          let xs = arguments B cap M p a x instruction in
          let args = are_arguments B laws cap D M p calls h a lt x fit code_word instruction e in
          record {
            notes = has_notes is.interp.result_type (calls a p.machine.interp xs)
                (call_kept B laws M.context cap p.spec a IsIn keeps (λ y z k l. widened_maps B M.context (IsFieldMap p.spec F) widens y z k l) (inl h.joins) h.posed.accepted ⊥ (Widen unrolled_turns joined_turns) (calls a)
                (none_fails B M.context cap unrolled_turns joined_turns) (h.right a) p.machine.interp is.interp xs is.interp_there args arguments_in);
            logged = call_logged B laws M.context cap p.spec a IsIn keeps (λ y z k l. widened_maps B M.context (IsFieldMap p.spec F) widens y z k l) (inl h.joins) h.posed.accepted
                (Widen unrolled_turns joined_turns) (calls a) (h.right a) (IsUseOf p.spec) (reads_used B laws M.context p.spec (has_word p) F notes) p.machine.interp is.interp xs is.interp_there args arguments_in;
          }
