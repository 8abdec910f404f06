-- The last of several uses.
use Rattle.std.proofs.Common.{◌≡◌, ◌-◌, suc, List, [], ◌∷◌, length, map, Some, slice_get, sym, ap, arith}
use Rattle.std.proofs.lemmas.Option.{none-some, same_Some}
use Rattle.base_trait.specs.Uses.{Seen, seen}
use Rattle.base_trait.specs.declared.uses.Use.{Use}
use Rattle.domain_laws.specs.declared.field.Field.{Field}
use Rattle.analysis_transfer_laws.specs.Uses.{is_cell_before}
use Rattle.text_table_reader.specs.Ends.{is_use_behind}

-- what comes after the last one stands behind all
pub behind_last : (fields : List Field) (uses : List Use) (last : Use) (u : Seen) → slice_get uses (length uses - 1) ≡ Some last → is_cell_before fields (seen last) u ≡ is_use_behind fields (map seen uses) u
behind_last fields [] last u e = absurd (none-some last e)
behind_last fields (x ∷ []) last u e = ap (λ y. is_cell_before fields (seen y) u) (sym (same_Some x last e))
behind_last fields (x ∷ y ∷ uses) last u e =
    let at : length (x ∷ y ∷ uses) - 1 ≡ suc (length (y ∷ uses) - 1) = omega arith in
    behind_last fields (y ∷ uses) last u (rw at at e)
