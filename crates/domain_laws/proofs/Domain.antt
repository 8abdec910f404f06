-- Elements of cells are those of a domain.
use Rattle.std.proofs.Common.{◌≡◌, ℕ, true, [], ◌∷◌, refl, sym, ap, subst, IsTrue}
use Rattle.std.specs.Prelude.{◌&&◌, not}
use Rattle.std.specs.List.{list_all}
use Rattle.base_trait.specs.Algebra.{Algebra}
use Rattle.base_trait.specs.Laws.{Laws}
use Rattle.base_trait.specs.Lists.{Each}
use Rattle.base_trait.specs.declared.uses.Stamp.TheVariants.{Entry}
use Rattle.base_trait.proofs.Tests.{and_parts}
use Rattle.spec_ir.specs.Specification.{Spec}
use Rattle.semantics_values.specs.Types.{environment_of}
use Rattle.domain_laws.specs.Domain.{DomainLaws}
use Rattle.domain_laws.specs.States.{StateType, has_states, is_field, is_state_data, same_states, state_cases, state_type, state_types}
use Rattle.domain_laws.specs.Calls.{cell_calls, fields_of, is_for, made_state}
use Rattle.domain_laws.specs.Cells.{cells}
use Rattle.domain_laws.specs.Entry.{entry_values}
use Rattle.domain_laws.specs.Lines.{IsField}
use Rattle.domain_laws.specs.Laws.{CellsKeepTheLaws}
use Rattle.domain_laws.proofs.Cells.{cell_element_laws}
use Rattle.domain_laws.proofs.Entries.{values_described, values_fit, values_list}
use Rattle.domain_laws.proofs.Fields.{fields_told, states_told}
use Rattle.domain_laws.proofs.Lines.{all_fit}
use Rattle.domain_laws.proofs.Opened.{closed_describes, closed_fits, closed_lists, opened_describes, opened_fits, opened_lists, values_least}
use Rattle.domain_laws.proofs.Stamps.{parts_from, parts_to}

told : (spec : Spec) → has_states spec ≡ true → Each IsField (state_type spec).fields
told spec h = fields_told (state_type spec).fields (and_parts (is_state_data (state_cases spec spec.machine)) (list_all is_field (state_type spec).fields) h).1

-- with the states of the specification
of_states : {W N C : Type 0} (B : Algebra W N C) (L : Laws W N C B) (c : C) (cap : ℕ) (spec : Spec) → IsTrue B.joins → has_states spec ≡ true
    → DomainLaws B cap spec (cells B c cap (state_type spec).fields) (cell_calls B c cap (state_type spec))
of_states B L c cap spec joins is = record {
  elements = cell_element_laws B L c cap (state_type spec).fields joins;
  entry_fits = λ lines fit. values_fit B L c cap lines joins 1 (state_type spec).fields (told spec is) (all_fit (state_type spec).fields lines fit);
  entry_lists = λ lines. parts_from B (Entry ∷ []) (entry_values B c cap lines 1 (state_type spec).fields) (values_list B L c cap lines 1 (state_type spec).fields);
  entry_holds = λ lines pc s fit entry. values_described B L c cap joins (environment_of spec) lines 1 (state_types spec) s.parts (told spec is)
      (all_fit (state_type spec).fields lines fit) entry.typed entry.fields;
  open_fits = λ pc x lt fit. opened_fits B L c cap (state_type spec) pc x lt fit;
  open_lists = λ stamps pc x lt fit l. opened_lists B L c cap stamps (state_type spec).number (B.words.constant c 32 pc) x (parts_to B stamps x l);
  open_describes = λ x s lt is fit holds. opened_describes B L c cap (state_type spec).number x s lt holds;
  close_fits = λ before value fit is. closed_fits B L c cap (state_type spec) value is;
  close_lists = λ stamps before value fit is l m. parts_from B stamps (fields_of value) (closed_lists B L c cap stamps (state_type spec) value is.0 m);
  close_holds = λ before value s next fit is holds d. closed_describes B L c cap (state_type spec) value next is.0 d;
  open_same = λ pc x y fx fy e. ap (made_state (state_type spec).number (B.words.constant c 32 pc)) e;
  close_same = λ x y value fx fy is e. refl;
  rank_least = λ stamps x fit. values_least B L c cap stamps (state_type spec).fields x fit.0;
}

-- what elements are for a specification
module _ {W N C : Type 0} (B : Algebra W N C) (t : StateType) (spec : Spec) (made : IsTrue (is_for B t spec)) where
  rest : IsTrue (not B.words.looks && (has_states spec && same_states t (state_type spec)))
  rest = (and_parts B.joins (not B.words.looks && (has_states spec && same_states t (state_type spec))) made).1

  of_spec : IsTrue (has_states spec) × IsTrue (same_states t (state_type spec))
  of_spec = and_parts (has_states spec) (same_states t (state_type spec)) (and_parts (not B.words.looks) (has_states spec && same_states t (state_type spec)) rest).1

  pub states_are : t ≡ state_type spec
  states_are = states_told t (state_type spec) of_spec.1

  pub fields_are : list_all is_field t.fields ≡ true
  fields_are = subst (λ u. list_all is_field u.fields ≡ true) (sym states_are) (and_parts (is_state_data (state_cases spec spec.machine)) (list_all is_field (state_type spec).fields) of_spec.0).1

  pub it_joins : IsTrue B.joins
  it_joins = (and_parts B.joins (not B.words.looks && (has_states spec && same_states t (state_type spec))) made).0

pub cells_keep_the_laws : {W N C : Type 0} (B : Algebra W N C) (L : Laws W N C B) → CellsKeepTheLaws B
cells_keep_the_laws B L c cap t spec made =
    subst (λ u. DomainLaws B cap spec (cells B c cap u.fields) (cell_calls B c cap u)) (sym (states_are B t spec made))
    (of_states B L c cap spec (it_joins B t spec made) (of_spec B t spec made).0)
