-- A map whose word at a key is cut.
use Rattle.std.proofs.Common.{◌≡◌, ◌∙◌, ℕ, Option, IfOk, ap}
use Rattle.std.specs.Prelude.{Result, Ok, Err, option_map}
use Rattle.base_trait.specs.Algebra.{Algebra}
use Rattle.abstract_map_laws.specs.Calls.{update_of}
use Rattle.abstract_map_laws.specs.Keys.{one}
use Rattle.abstract_map_laws.specs.Maps.{Map, cell}
use Rattle.abstract_map_laws.specs.declared.cell.AbstractCell.{AbstractCell}
use Rattle.base_cuts.specs.Cuts.{Cuts}
use Rattle.domain_cell_pieces.specs.Pieces.{with_word}

module _ {W N C F : Type 0} (B : Algebra W N C) (K : Cuts W C) (c : C) (cap : ℕ) (m : Map W N) (k low high : ℕ) where
  pub cut_is : (result : Result (Option (Map W N)) F) (x : AbstractCell W N) (left : Option W)
      → IfOk result (λ r. r ≡ option_map (λ y. update_of B c cap m (one k) (record { word = y; note = x.note })) left) → left ≡ K.meet c m.width x.word low high → x ≡ cell m k
      → IfOk result (λ r. r ≡ option_map (with_word B K c cap m k) (K.meet c m.width (cell m k).word low high))
  cut_is (Ok r) x left h e same =
      h ∙ ap (option_map (λ y. update_of B c cap m (one k) (record { word = y; note = x.note }))) e
      ∙ ap (λ (z : AbstractCell W N). option_map (λ y. update_of B c cap m (one k) (record { word = y; note = z.note })) (K.meet c m.width z.word low high)) same
  cut_is (Err error) x left h e same = tt
