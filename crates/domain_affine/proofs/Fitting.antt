-- What fits where the domain is for a specification.
use Rattle.std.proofs.Common.{◌≡◌, ℕ, IsTrue, List, sym, subst, arith}
use Rattle.std.specs.List.{list_all}
use Rattle.base_trait.specs.Lists.{Each}
use Rattle.base_trait.proofs.Tests.{and_parts}
use Rattle.spec_ir.specs.Specification.{Spec}
use Rattle.semantics_values.specs.declared.entry.KeyAt.{KeyAt}
use Rattle.semantics_values.specs.declared.entry.Line.{Line}
use Rattle.domain_laws.specs.declared.field.Field.{Field}
use Rattle.abstract_value_laws.specs.Abs.{Abs}
use Rattle.abstract_value_laws.specs.Fits.{PartsFit}
use Rattle.domain_laws.specs.Entries.{LinesFit}
use Rattle.domain_laws.specs.States.{StateType, has_states, is_field, is_state_data, same_states, state_cases, state_type}
use Rattle.domain_laws.specs.Values.{IsStateValue}
use Rattle.domain_laws.specs.Calls.{fields_of}
use Rattle.domain_laws.specs.Lines.{IsField}
use Rattle.domain_laws.proofs.Fields.{fields_told, states_told}
use Rattle.domain_affine_base.specs.Meaning.{affine}
use Rattle.domain_affine_base.specs.Words.{Fits}
use Rattle.domain_affine_base.specs.declared.word.Word.{Word}
use Rattle.domain_affine_laws.specs.Calls.{cell_count, is_for}
use Rattle.domain_affine_laws.specs.Closed.{closed_words}
use Rattle.domain_affine_laws.specs.Entry.{entry_words}
use Rattle.domain_affine_laws.specs.Opened.{opened_values, opened_words}
use Rattle.domain_affine_laws.specs.Tracked.{tracked_cells}
use Rattle.domain_affine_laws.proofs.Closed.{closed_fit}
use Rattle.domain_affine_laws.proofs.Entry.{entry_fit}
use Rattle.domain_affine_laws.proofs.Opened.{opened_fit}
use Rattle.domain_affine_laws.proofs.States.{behind_fit}
use Rattle.domain_affine_laws.proofs.Tracked.{IsCellOf, are_cells}
use Rattle.domain_affine_laws.proofs.Words.{both_words, words_fit}

module _ (t : StateType) (spec : Spec) (made : IsTrue (is_for t spec)) where
  its_states : t ≡ state_type spec
  its_states = states_told t (state_type spec) (and_parts (has_states spec) (same_states t (state_type spec)) made).1

  fine : Each IsField t.fields
  fine =
      let has = (and_parts (has_states spec) (same_states t (state_type spec)) made).0 in
      subst (λ u. Each IsField u.fields) (sym its_states)
      (fields_told (state_type spec).fields (and_parts (is_state_data (state_cases spec spec.machine)) (list_all is_field (state_type spec).fields) has).1)

  pub entry_words_fit : (lines : List Line) → LinesFit (state_type spec).fields lines → Each (Fits (cell_count t) 32) (entry_words lines t.fields (tracked_cells t))
  entry_words_fit lines fit =
      entry_fit lines t.fields fine (subst (λ u. LinesFit u.fields lines) (sym its_states) fit) (cell_count t) (tracked_cells t) (are_cells t.fields)

  pub opened_values_fit : (rows : List (List ℕ)) → PartsFit affine (tracked_cells t) 256 (opened_values (tracked_cells t) (opened_words (cell_count t) rows) 1 t.fields)
  opened_values_fit rows =
      let words = opened_words (cell_count t) rows in
      (opened_fit (tracked_cells t) words t.fields
      (both_words (IsCellOf t.fields) (Fits (cell_count t) 32) (tracked_cells t) words (are_cells t.fields) (words_fit (cell_count t) rows)) 256 (omega arith) fine).1

  pub entry_requires : (k : ℕ) (words : List Word) (lines : List Line) → LinesFit (state_type spec).fields lines → k ≡ cell_count t → words ≡ entry_words lines t.fields (tracked_cells t)
      → Each (λ x. Fits k 32 x) words
  entry_requires k words lines fit ek ew =
      subst (λ ws. Each (λ x. Fits k 32 x) ws) (sym ew) (subst (λ n. Each (λ x. Fits n 32 x) (entry_words lines t.fields (tracked_cells t))) (sym ek) (entry_words_fit lines fit))

  pub opened_requires : (cells : List (ℕ × KeyAt)) (words : List Word) (fields : List Field) (rows : List (List ℕ)) → cells ≡ tracked_cells t → words ≡ opened_words (cell_count t) rows → fields ≡ t.fields
      → PartsFit affine cells 256 (opened_values cells words 1 fields)
  opened_requires cells words fields rows ec ew ef =
      subst (λ cs. PartsFit affine cs 256 (opened_values cs words 1 fields)) (sym ec)
      (subst (λ ws. PartsFit affine (tracked_cells t) 256 (opened_values (tracked_cells t) ws 1 fields)) (sym ew)
      (subst (λ fs. PartsFit affine (tracked_cells t) 256 (opened_values (tracked_cells t) (opened_words (cell_count t) rows) 1 fs)) (sym ef) (opened_values_fit rows)))

  module _ (value : Abs Word (Unit {0})) (is : IsStateValue affine (tracked_cells t) 256 (state_type spec) value) where
    its : IsStateValue affine (tracked_cells t) 256 t value
    its = subst (λ u. IsStateValue affine (tracked_cells t) 256 u value) (sym its_states) is

    pub fields_fit : PartsFit affine (tracked_cells t) 256 (fields_of value)
    fields_fit = (behind_fit (tracked_cells t) 256 t value its).1

    pub closed_words_fit : Each (Fits (cell_count t) 32) (closed_words (tracked_cells t) (fields_of value))
    closed_words_fit = closed_fit (tracked_cells t) 256 t.fields (fields_of value) (behind_fit (tracked_cells t) 256 t value its) (tracked_cells t) (are_cells t.fields)

    pub close_requires : (k : ℕ) (words : List Word) → k ≡ cell_count t → words ≡ closed_words (tracked_cells t) (fields_of value) → Each (λ x. Fits k 32 x) words
    close_requires k words ek ew =
        subst (λ ws. Each (λ x. Fits k 32 x) ws) (sym ew) (subst (λ n. Each (λ x. Fits n 32 x) (closed_words (tracked_cells t) (fields_of value))) (sym ek) closed_words_fit)
