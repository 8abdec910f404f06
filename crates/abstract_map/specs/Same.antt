-- Equality of maps.
use Rattle.std.specs.Prelude.{ℕ, ◌==◌, Bool, ◌&&◌, ◌++◌, length}
use Rattle.std.specs.Hash as fed
use Rattle.std.specs.Cmp.{IsEquivalence, IsPartialEquivalence}
use Rattle.std.proofs.Common.{ap, ◌∙◌}
use Rattle.base_trait.specs.Identity.{IsIdentity, IsReflexive, identity_equiv, identity_partial, same_list, same_list_is, same_list_itself}
use Rattle.base_trait.proofs.Lists.{number_itself, number_told}
use Rattle.base_trait.proofs.Tests.{and_both, and_parts}
use Rattle.abstract_map_laws.specs.declared.cell.AbstractCell.{AbstractCell}
use Rattle.abstract_map_laws.specs.Maps.{Map}

-- what is hashed: the width, the rest, and the number of the listed cells
abbrev pub hashed : {W N : Type 0} → (W → fed.HashWrites) → (N → fed.HashWrites) → Map W N → fed.HashWrites
hashed word note m = fed.u32 m.width ++ (word m.rest.word ++ note m.rest.note) ++ fed.u64 (length m.cells)

module _ {W N : Type 0} (word : W → W → Bool) (note : N → N → Bool) where
  -- part by part
  abbrev pub same_cell : AbstractCell W N → AbstractCell W N → Bool
  same_cell x y = word x.word y.word && note x.note y.note

  abbrev pub same_entry : ℕ × AbstractCell W N → ℕ × AbstractCell W N → Bool
  same_entry d e = d.0 == e.0 && same_cell d.1 e.1

  -- of one width, with the same rest, and the same listed cells
  abbrev pub same_map : Map W N → Map W N → Bool
  same_map m n = m.width == n.width && (same_cell m.rest n.rest && same_list same_entry m.cells n.cells)

  module _ (words : IsReflexive word) (notes : IsReflexive note) where
    same_cell_itself : IsReflexive same_cell
    same_cell_itself x = and_both (word x.word x.word) (note x.note x.note) (words x.word) (notes x.note)

    same_entry_itself : IsReflexive same_entry
    same_entry_itself e = and_both (e.0 == e.0) (same_cell e.1 e.1) (number_itself e.0) (same_cell_itself e.1)

    pub same_map_itself : IsReflexive same_map
    same_map_itself m = and_both (m.width == m.width) (same_cell m.rest m.rest && same_list same_entry m.cells m.cells) (number_itself m.width)
        (and_both (same_cell m.rest m.rest) (same_list same_entry m.cells m.cells) (same_cell_itself m.rest) (same_list_itself same_entry same_entry_itself m.cells))

  module _ (words : IsIdentity word) (notes : IsIdentity note) where
    pub same_cell_is : IsIdentity same_cell
    same_cell_is x y h = let p = and_parts (word x.word y.word) (note x.note y.note) h in
        ap (λ w. record { word = w; note = x.note }) (words x.word y.word p.0) ∙ ap (λ n. record { word = y.word; note = n }) (notes x.note y.note p.1)

    same_entry_is : IsIdentity same_entry
    same_entry_is d e h = let p = and_parts (d.0 == e.0) (same_cell d.1 e.1) h in ap (λ k. (k, d.1)) (number_told d.0 e.0 p.0) ∙ ap (λ x. (e.0, x)) (same_cell_is d.1 e.1 p.1)

    -- equal maps are the same
    pub same_map_is : IsIdentity same_map
    same_map_is m n h =
        let p = and_parts (m.width == n.width) (same_cell m.rest n.rest && same_list same_entry m.cells n.cells) h in
        let q = and_parts (same_cell m.rest n.rest) (same_list same_entry m.cells n.cells) p.1 in
        ap (λ w. record { width = w; rest = m.rest; cells = m.cells }) (number_told m.width n.width p.0)
        ∙ ap (λ r. record { width = n.width; rest = r; cells = m.cells }) (same_cell_is m.rest n.rest q.0)
        ∙ ap (λ es. record { width = n.width; rest = n.rest; cells = es }) (same_list_is same_entry same_entry_is m.cells n.cells q.1)

  -- lawful, where equality of words and of notes is
  pub same_map_equiv : IsEquivalence word → IsEquivalence note → IsIdentity word → IsIdentity note → IsEquivalence same_map
  same_map_equiv words notes are is = identity_equiv same_map (same_map_itself words.refl notes.refl) (same_map_is are is)

  pub same_map_partial : IsEquivalence word → IsEquivalence note → IsIdentity word → IsIdentity note → IsPartialEquivalence same_map
  same_map_partial words notes are is = identity_partial same_map (same_map_itself words.refl notes.refl) (same_map_is are is)
