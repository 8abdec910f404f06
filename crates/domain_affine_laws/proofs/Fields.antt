-- Elements with the states of a specification are for it.
use Rattle.std.proofs.Common.{◌≡◌, true, subst, IsTrue}
use Rattle.std.specs.Prelude.{◌&&◌, ◌==◌}
use Rattle.base_trait.specs.Identity.{IsReflexive, same_list, same_list_itself}
use Rattle.base_trait.proofs.Lists.{number_itself}
use Rattle.base_trait.proofs.Tests.{and_both}
use Rattle.spec_ir.specs.Specification.{Spec}
use Rattle.domain_laws.specs.declared.field.Field.TheVariants.{Word, Map}
use Rattle.domain_laws.specs.States.{StateType, has_states, same_field, same_states, state_type}
use Rattle.domain_affine_laws.specs.Calls.{is_for}

fields_themselves : IsReflexive same_field
fields_themselves (Word w) = number_itself w
fields_themselves (Map m keys width default) =
    and_both (m == m) (keys == keys && (width == width && default == default)) (number_itself m)
    (and_both (keys == keys) (width == width && default == default) (number_itself keys)
    (and_both (width == width) (default == default) (number_itself width) (number_itself default)))

states_themselves : (t : StateType) → IsTrue (same_states t t)
states_themselves t = and_both (t.number == t.number) (same_list same_field t.fields t.fields) (number_itself t.number) (same_list_itself same_field fields_themselves t.fields)

pub made_for : (t : StateType) (spec : Spec) → has_states spec ≡ true → t ≡ state_type spec → IsTrue (is_for t spec)
made_for t spec has e = and_both (has_states spec) (same_states t (state_type spec)) has (subst (λ u. IsTrue (same_states t u)) e (states_themselves t))
