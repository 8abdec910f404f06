-- Fields of states.
use Rattle.std.proofs.Common.{◌≡◌, true, false, List, [], ◌∷◌, ap, ◌∙◌, subst, IsTrue}
use Rattle.std.specs.Prelude.{◌&&◌, ◌==◌, ◌^◌, nat_le, nat_lt, not}
use Rattle.std.specs.List.{list_all}
use Rattle.std.proofs.lemmas.Bool.{leb-true, ltb-true}
use Rattle.base_trait.specs.Algebra.{Algebra}
use Rattle.base_trait.specs.Lists.{Each}
use Rattle.base_trait.specs.Identity.{IsIdentity, IsReflexive, same_list, same_list_is, same_list_itself}
use Rattle.base_trait.proofs.Lists.{number_itself, number_told}
use Rattle.base_trait.proofs.Tests.{and_both, and_parts}
use Rattle.spec_ir.specs.Specification.{Spec}
use Rattle.spec_ir.specs.WellFormed.{is_width}
use Rattle.spec_ir.proofs.Checks.{width_is as width_told}
use Rattle.domain_laws.specs.declared.field.Field.{Field}
use Rattle.domain_laws.specs.declared.field.Field.TheVariants.{Word, Map}
use Rattle.domain_laws.specs.States.{StateType, has_states, is_field, same_field, same_states, state_type}
use Rattle.domain_laws.specs.Calls.{is_for}
use Rattle.domain_laws.specs.Lines.{IsField}

pub field_told : (f : Field) → is_field f ≡ true → IsField f
field_told (Word w) h = width_told w h
field_told (Map m keys width default) h =
    let parts = and_parts (is_width width) (nat_lt default (2 ^ width) && nat_le keys (2 ^ 32)) h in
    let rest = and_parts (nat_lt default (2 ^ width)) (nat_le keys (2 ^ 32)) parts.1 in
    (width_told width parts.0, ltb-true default (2 ^ width) rest.0, leb-true keys (2 ^ 32) rest.1)

pub fields_told : (fields : List Field) → list_all is_field fields ≡ true → Each IsField fields
fields_told [] h = tt
fields_told (f ∷ fields) h = let parts = and_parts (is_field f) (list_all is_field fields) h in (field_told f parts.0, fields_told fields parts.1)

-- ---- equal fields are the same
fields_alike : IsIdentity same_field
fields_alike (Word w) (Word u) h = ap (λ k. Word k) (number_told w u h)
fields_alike (Map m keys width default) (Map n bound w d) h =
    let p = and_parts (m == n) (keys == bound && (width == w && default == d)) h in
    let q = and_parts (keys == bound) (width == w && default == d) p.1 in
    let r = and_parts (width == w) (default == d) q.1 in
    ap (λ k. Map k keys width default) (number_told m n p.0) ∙ ap (λ k. Map n k width default) (number_told keys bound q.0)
    ∙ ap (λ k. Map n bound k default) (number_told width w r.0) ∙ ap (λ k. Map n bound w k) (number_told default d r.1)
fields_alike _ _ h = cc

pub states_told : (s t : StateType) → IsTrue (same_states s t) → s ≡ t
states_told s t h =
    let p = and_parts (s.number == t.number) (same_list same_field s.fields t.fields) h in
    ap (λ k. record { number = k; fields = s.fields }) (number_told s.number t.number p.0)
    ∙ ap (λ k. record { number = t.number; fields = k }) (same_list_is same_field fields_alike s.fields t.fields p.1)

fields_themselves : IsReflexive same_field
fields_themselves (Word w) = number_itself w
fields_themselves (Map m keys width default) =
    and_both (m == m) (keys == keys && (width == width && default == default)) (number_itself m)
    (and_both (keys == keys) (width == width && default == default) (number_itself keys)
    (and_both (width == width) (default == default) (number_itself width) (number_itself default)))

-- elements of cells with the states of a specification are for it
pub made_for : {W N C : Type 0} (B : Algebra W N C) (t : StateType) (spec : Spec) → IsTrue B.joins → B.words.looks ≡ false → has_states spec ≡ true → t ≡ state_type spec
    → IsTrue (is_for B t spec)
made_for B t spec joins unseen has e =
    let same : IsTrue (same_states t t) = and_both (t.number == t.number) (same_list same_field t.fields t.fields) (number_itself t.number) (same_list_itself same_field fields_themselves t.fields) in
    and_both B.joins (not B.words.looks && (has_states spec && same_states t (state_type spec))) joins
    (and_both (not B.words.looks) (has_states spec && same_states t (state_type spec)) (ap not unseen)
    (and_both (has_states spec) (same_states t (state_type spec)) has (subst (λ u. IsTrue (same_states t u)) e same)))
