-- The fields of states of a specification that was checked are few.
use Rattle.std.proofs.Common.{◌≡◌, ℕ, zero, suc, ◌<◌, ◌≤◌, List, [], ◌∷◌, Option, Some, None, length, map, slice_get, sym, ◌∙◌, subst, arith}
use Rattle.std.proofs.lemmas.List.{length-map}
use Rattle.syntax_parser.specs.declared.tree.FieldDecl.{FieldDecl}
use Rattle.syntax_parser.specs.Tree.{Constructor, Datatype}
use Rattle.spec_ir.specs.declared.ty.Ty.{Ty}
use Rattle.spec_ir.specs.declared.spec.Machine.{Machine}
use Rattle.spec_ir.specs.Specification.{Spec}
use Rattle.spec_ir.specs.Texts.{cases_of, fields_at}
use Rattle.spec_declarations.specs.TypeNames.{TypeTable, types_of}
use Rattle.spec_declarations.specs.Declarations.{case_declared, data_declared, field_in}
use Rattle.spec_declarations.specs.Leaves.{datatypes}
use Rattle.spec_declarations.proofs.States.{datas_are}
use Rattle.spec_names.specs.Limits.{most_fields}
use Rattle.semantics_values.specs.Types.{environment_of}
use Rattle.state_entry_laws.proofs.Differing.{HaveDifferentNames, HaveFewFields, names_differ}
use Rattle.domain_laws.specs.States.{behind, field_of, state_type, state_types, types_in}
use Rattle.analysis_problems.specs.CheckedStateLaws.{FieldsHaveNumbers, StatesHaveFewFields}

-- fewer than a constructor may have
abbrev IsFew : List Ty → Type 0
IsFew types = length types < most_fields

module _ (types : TypeTable) where
  count : (fields : List FieldDecl) → length (map (λ f. f.1) (map (field_in types) fields)) ≡ length fields
  count fields = length-map (map (field_in types) fields) (λ f. f.1) ∙ length-map fields (field_in types)

  few_behind : (fields : List FieldDecl) → length fields ≤ most_fields → IsFew (behind (map (λ f. f.1) (map (field_in types) fields)))
  few_behind [] h = omega arith
  few_behind (f ∷ fields) h = let same = count fields in omega (arith, same, h)

  of_first : (cases : List Constructor) → HaveFewFields cases → IsFew (behind (fields_at (slice_get (map (case_declared types) cases) 0)))
  of_first [] h = omega arith
  of_first (c ∷ cases) h = few_behind c.fields h.0.few

  of_data : (ds : List Datatype) (n : ℕ) → HaveDifferentNames ds → IsFew (behind (fields_at (slice_get (cases_of (slice_get (map (data_declared types) ds) n)) 0)))
  of_data [] n h = omega arith
  of_data (d ∷ ds) zero h = of_first d.cases h.0.fields
  of_data (d ∷ ds) (suc n) h = of_data ds n h.1

module _ (s : Spec) (few : (n : ℕ) → IsFew (behind (fields_at (slice_get (cases_of (slice_get s.datas n)) 0)))) where
  of_machine : (o : Option Machine) → IsFew (types_in s o)
  of_machine None = omega arith
  of_machine (Some m) = few m.state

  few_fields : length (state_type s).fields < most_fields
  few_fields = subst (λ n. n < most_fields) (sym (length-map (state_types s) (field_of (environment_of s)))) (of_machine s.machine)

pub states_have_few_fields : StatesHaveFewFields
states_have_few_fields wanted tree s fine is =
    few_fields s
    (λ n. subst (λ ds. IsFew (behind (fields_at (slice_get (cases_of (slice_get ds n)) 0)))) (sym (is.datas ∙ datas_are (types_of tree.items) tree.items)) (of_data (types_of tree.items) (datatypes tree.items) n (names_differ tree fine.0)))

pub fields_have_numbers : FieldsHaveNumbers
fields_have_numbers wanted tree s fine is = let few = states_have_few_fields wanted tree s fine is in omega (arith, few)
