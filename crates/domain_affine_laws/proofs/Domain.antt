-- Elements of affine relations are those of a domain.
use Rattle.std.proofs.Common.{◌≡◌, ℕ, ◌<◌, ◌≤◌, ◌^◌, true, List, length, refl, sym, ap, subst, arith}
use Rattle.std.specs.Prelude.{replicate}
use Rattle.std.specs.List.{list_all}
use Rattle.base_trait.specs.Lists.{Each}
use Rattle.base_trait.proofs.Tests.{and_parts}
use Rattle.support_modular_rows.specs.Submodule.{Submodule}
use Rattle.spec_ir.specs.Specification.{Spec}
use Rattle.semantics_values.specs.declared.entry.KeyAt.{KeyAt}
use Rattle.semantics_values.specs.declared.entry.Line.{Line}
use Rattle.semantics_values.specs.States.{State, value_of}
use Rattle.semantics_values.specs.Types.{environment_of}
use Rattle.semantics.specs.Entries.{IsEntryState}
use Rattle.abstract_value_laws.specs.Abs.{Abs}
use Rattle.abstract_value_laws.specs.Describes.{Describes}
use Rattle.domain_laws.specs.Domain.{DomainLaws}
use Rattle.domain_laws.specs.Entries.{LinesFit}
use Rattle.domain_laws.specs.States.{IsState, StateType, has_states, is_field, is_state_data, same_states, state_cases, state_type, state_types}
use Rattle.domain_laws.specs.Values.{IsStateValue}
use Rattle.domain_laws.specs.Calls.{fields_of, made_state}
use Rattle.domain_laws.specs.Lines.{IsField}
use Rattle.domain_laws.proofs.Fields.{fields_told, states_told}
use Rattle.domain_affine_base.specs.Meaning.{affine}
use Rattle.domain_affine_base.specs.Words.{Fits}
use Rattle.domain_affine_base.specs.declared.word.Word.{Word}
use Rattle.domain_affine_base.specs.declared.word.Word.TheVariants.{Const}
use Rattle.domain_affine_element_laws.specs.Tracked.{valuation_of}
use Rattle.domain_affine_element_laws.proofs.Closed.{closes_same, closes_soundly, enters_soundly}
use Rattle.domain_affine_element_laws.proofs.Elements.{submodules_keep_the_laws}
use Rattle.domain_affine_element_laws.proofs.Tracked.{valuations_are_whole}
use Rattle.domain_affine_laws.specs.Calls.{affine_calls, affine_elements}
use Rattle.domain_affine_laws.specs.Closed.{closed_words}
use Rattle.domain_affine_laws.specs.Entry.{entry_words}
use Rattle.domain_affine_laws.specs.Laws.{AffineKeepsTheLaws}
use Rattle.domain_affine_laws.specs.Opened.{opened_values, opened_words}
use Rattle.domain_affine_laws.specs.Tracked.{tracked_cells}
use Rattle.domain_affine_laws.proofs.Closed.{closed_fit, closed_stand}
use Rattle.domain_affine_laws.proofs.Entry.{entry_fit, entry_stand}
use Rattle.domain_affine_laws.proofs.Numbers.{valuation_small}
use Rattle.domain_affine_laws.proofs.Opened.{opened_describe, opened_fit, opened_list}
use Rattle.domain_affine_laws.proofs.States.{behind_describe, behind_fit, parts_typed, state_describes, state_fits}
use Rattle.domain_affine_laws.proofs.Tracked.{IsCellOf, are_cells}
use Rattle.domain_affine_laws.proofs.Words.{both_words, standing_words, words_fit, words_same, words_stand}

-- with the states of the specification
module _ (cap : ℕ) (room : 64 ≤ cap) (spec : Spec) (has : has_states spec ≡ true) where
  abbrev t : StateType
  t = state_type spec

  abbrev cells : List (ℕ × KeyAt)
  cells = tracked_cells (state_type spec)

  abbrev k : ℕ
  k = length (tracked_cells (state_type spec))

  fine : Each IsField (state_type spec).fields
  fine = fields_told (state_type spec).fields (and_parts (is_state_data (state_cases spec spec.machine)) (list_all is_field (state_type spec).fields) has).1

  tracked : Each (IsCellOf (state_type spec).fields) (tracked_cells (state_type spec))
  tracked = are_cells (state_type spec).fields

  -- ---- the entry
  entry_holds : (lines : List Line) (pc : ℕ) (s : State) → LinesFit (state_type spec).fields lines → IsEntryState (environment_of spec) (state_types spec) pc lines s
      → (affine_elements t).holds ((affine_calls t).entry lines) s
  entry_holds lines pc s fit is =
      enters_soundly k (entry_words lines t.fields cells) (valuation_of cells s) (entry_fit lines t.fields fine fit k cells tracked)
      (entry_stand lines (environment_of spec) (state_types spec) s is.fields (replicate k 0) cells tracked)

  -- ---- opening
  open_fits : (pc : ℕ) (x : Submodule) → pc < 2 ^ 32 → IsStateValue affine cells cap t ((affine_calls t).opened pc x)
  open_fits pc x lt =
      state_fits cells cap t pc (opened_values cells (opened_words k x.rows) 1 t.fields) lt
      (opened_fit cells (opened_words k x.rows) t.fields (both_words (IsCellOf t.fields) (Fits k 32) cells (opened_words k x.rows) tracked (words_fit k x.rows)) cap room fine)

  open_describes : (x : Submodule) (s : State) → s.pc < 2 ^ 32 → IsState spec s → (affine_elements t).holds x s
      → Describes affine (valuation_of cells s) ((affine_calls t).opened s.pc x) (value_of t.number s)
  open_describes x s lt is holds =
      let typed = parts_typed spec s has is in
      let valuation = valuation_of cells s in
      let small = valuation_small (environment_of spec) (state_types spec) s typed in
      let stand = words_stand k x.rows (valuation_of cells s) (valuations_are_whole cells s) holds small in
      state_describes cells cap t (valuation_of cells s) (opened_values cells (opened_words k x.rows) 1 t.fields) s lt
      (opened_describe (environment_of spec) cells (opened_words k x.rows) (valuation_of cells s) s (standing_words (valuation_of cells s) s cells (opened_words k x.rows) stand) (state_types spec) fine typed)

  -- ---- closing
  words_fitting : (value : Abs Word (Unit {0})) → IsStateValue affine cells cap t value → Each (Fits k 32) (closed_words cells (fields_of value))
  words_fitting value is = closed_fit cells cap t.fields (fields_of value) (behind_fit cells cap t value is) cells tracked

  close_holds : (before : Submodule) (value : Abs Word (Unit {0})) (s next : State) → IsStateValue affine cells cap t value → (affine_elements t).holds before s
      → Describes affine (valuation_of cells s) value (value_of t.number next) → (affine_elements t).holds ((affine_calls t).closed before value) next
  close_holds before value s next is holds d =
      closes_soundly k (closed_words cells (fields_of value)) before.rows (valuation_of cells s) (valuation_of cells next) (words_fitting value is) (valuations_are_whole cells s) holds
      (closed_stand (valuation_of cells s) cells (fields_of value) next (behind_describe cells cap t (valuation_of cells s) value next is.0 d))

  pub of_states : DomainLaws affine cap spec (affine_elements (state_type spec)) (affine_calls (state_type spec))
  of_states = record {
    elements = submodules_keep_the_laws (valuation_of cells) k;
    entry_fits = λ lines fit. refl;
    entry_lists = λ lines. tt;
    entry_holds = entry_holds;
    open_fits = λ pc x lt fit. open_fits pc x lt;
    open_lists = λ stamps pc x lt fit l. ((tt, opened_list cells (opened_words k x.rows) stamps 1 t.fields), tt);
    open_describes = λ x s lt is fit holds. open_describes x s lt is holds;
    close_fits = λ before value fit is. refl;
    close_lists = λ stamps before value fit is l m. tt;
    close_holds = λ before value s next fit is holds d. close_holds before value s next is holds d;
    open_same = λ pc x y fx fy same. ap (λ words. made_state t.number (Const pc) (opened_values cells words 1 t.fields)) (words_same k x.rows y.rows same);
    close_same = λ x y value fx fy is same. closes_same k (closed_words cells (fields_of value)) x.rows y.rows (words_fitting value is) same;
    rank_least = λ stamps x fit. omega arith;
  }

pub affine_keeps_the_laws : AffineKeepsTheLaws
affine_keeps_the_laws cap t spec room made =
    let parts = and_parts (has_states spec) (same_states t (state_type spec)) made in
    subst (λ u. DomainLaws affine cap spec (affine_elements u) (affine_calls u)) (sym (states_told t (state_type spec) parts.1)) (of_states cap room spec parts.0)
