-- Uses that are merged are of cells of states, where all are.
use Rattle.std.proofs.Common.{List, [], ◌∷◌, cond}
use Rattle.base_trait.specs.Lists.{Each}
use Rattle.base_trait.specs.Stamps.{is_before, same_stamp}
use Rattle.base_trait.specs.Uses.{Seen}
use Rattle.base_trait.specs.declared.uses.Stamp.{Stamp}
use Rattle.base_trait.proofs.Tests.{at_choice}
use Rattle.spec_ir.specs.Specification.{Spec}
use Rattle.domain_laws.specs.declared.field.Field.{Field}
use Rattle.analysis_transfer_laws.specs.Uses.{either_stamp, is_cell_before, is_same_cell, merged_uses, with_stamp, with_stamps, with_use}
use Rattle.analysis_table_laws.specs.Notes.{HasItems}
use Rattle.analysis_table_laws.specs.Tables.{IsUseOf}

with_some : (s : Stamp) (ts : List Stamp) → HasItems (with_stamp s ts)
with_some s [] = tt
with_some s (t ∷ ts) =
    at_choice HasItems (same_stamp s t) (t ∷ ts) (cond (is_before s t) (s ∷ t ∷ ts) (t ∷ with_stamp s ts)) (λ e. tt)
    (λ e. at_choice HasItems (is_before s t) (s ∷ t ∷ ts) (t ∷ with_stamp s ts) (λ e. tt) (λ e. tt))

either_some : (ss ts : List Stamp) → HasItems ss → HasItems (either_stamp ss ts)
either_some [] ts h = absurd h
either_some (s ∷ ss) ts h = with_some s (either_stamp ss ts)

module _ (spec : Spec) where
  more_stamps : (u : Seen) (ts : List Stamp) → IsUseOf spec u → IsUseOf spec (with_stamps u ts)
  more_stamps u ts h = record { field = h.field; key = h.key; stamps = either_some u.stamps ts h.stamps }

  module _ (fields : List Field) where
    with_of : (u : Seen) (vs : List Seen) → IsUseOf spec u → Each (IsUseOf spec) vs → Each (IsUseOf spec) (with_use fields u vs)
    with_of u [] h k = (more_stamps u [] h, tt)
    with_of u (v ∷ vs) h k =
        at_choice (Each (IsUseOf spec)) (is_same_cell u v) (with_stamps u v.stamps ∷ vs) (cond (is_cell_before fields u v) (with_stamps u [] ∷ v ∷ vs) (v ∷ with_use fields u vs)) (λ e. (more_stamps u v.stamps h, k.1))
        (λ e. at_choice (Each (IsUseOf spec)) (is_cell_before fields u v) (with_stamps u [] ∷ v ∷ vs) (v ∷ with_use fields u vs) (λ e. (more_stamps u [] h, k)) (λ e. (k.0, with_of u vs h k.1)))

    pub merged_of : (us : List Seen) → Each (IsUseOf spec) us → Each (IsUseOf spec) (merged_uses fields us)
    merged_of [] h = tt
    merged_of (u ∷ us) h = with_of u (merged_uses fields us) h.0 (merged_of us h.1)
