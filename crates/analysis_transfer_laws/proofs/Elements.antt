-- Elements for states of the type of states alone keep the laws of elements.
use Rattle.semantics_values.specs.States.{State}
use Rattle.spec_ir.specs.Specification.{Spec}
use Rattle.fixpoint_theory.specs.Elements.{ElementLaws, Elements}
use Rattle.analysis_transfer_laws.specs.Analysis.{of_states}

pub of_states_laws : {E : Type 0} (spec : Spec) (D : Elements E State) → ElementLaws D → ElementLaws (of_states spec D)
of_states_laws spec D laws = record {
  join_fits = laws.join_fits;
  widen_fits = laws.widen_fits;
  join_absorbs = laws.join_absorbs;
  widen_absorbs = laws.widen_absorbs;
  absorbs_itself = laws.absorbs_itself;
  absorbs_on = laws.absorbs_on;
  absorbs_holds = λ old new s h k a holds. (holds.0, laws.absorbs_holds old new s h k a holds.1);
  widen_keeps = laws.widen_keeps;
  widen_falls = laws.widen_falls;
  rank_height = laws.rank_height;
  join_lists = laws.join_lists;
  widen_lists = laws.widen_lists;
  same_itself = laws.same_itself;
  same_back = laws.same_back;
  same_on = laws.same_on;
  same_join = laws.same_join;
  same_widen = laws.same_widen;
  same_absorbs = laws.same_absorbs;
  same_lists = laws.same_lists;
  same_rank = laws.same_rank;
}
