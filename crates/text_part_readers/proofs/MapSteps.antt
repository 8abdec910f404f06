-- A map that was read.
use Rattle.std.proofs.Common.{◌≡◌, ℕ, Bool, List, Option, Some, None, Result, Ok, Err, refl, sym, ap, ◌∙◌}
use Rattle.std.specs.Prelude.{IfOk, IsOkAnd}
use Rattle.spec_ir.specs.declared.declared.MapType.{MapType}
use Rattle.spec_ir.specs.Specification.{Spec}
use Rattle.abstract_map_laws.specs.declared.cell.AbstractCell.{AbstractCell}
use Rattle.abstract_value_laws.specs.Abs.{Abs, map}
use Rattle.text_words.specs.Readings.{Readings}
use Rattle.text_lines.specs.Lines.{Lines}
use Rattle.text_lines.specs.Outcomes.{one}
use Rattle.text_part_readers.specs.Cells.{listed_read, map_read, rest_said}

module _ {W N : Type 0} (readings : Readings W N) (code : ℕ → Bool) (spec : Spec) (cap : ℕ) (name : List ℕ) (m : ℕ) (d : MapType) where
  -- its rest and its listed cells were
  pub map_was_read : {R V E : Type 0} (result : Result R E) (cells : Result V E) (view : R → Option (Abs W N)) (items : V → List (ℕ × AbstractCell W N)) (ls others left : Lines) (rest : AbstractCell W N)
      → IfOk result (λ r. IsOkAnd cells (λ cs. view r ≡ Some (map m (record { width = d.width; rest = rest; cells = items cs }))))
      → IfOk cells (λ cs. (items cs, left) ≡ listed_read readings code spec cap name d.key d.width others)
      → (Some rest, others) ≡ one (rest_said readings code name d.width) ls
      → IfOk result (λ r. (view r, left) ≡ map_read readings code spec cap name m (Some d) ls)
  map_was_read (Err e) cells view items ls others left rest made listed first = tt
  map_was_read (Ok r) (Err e) view items ls others left rest made listed first = absurd made
  map_was_read (Ok r) (Ok cs) view items ls others left rest made listed first = rw (← first, ← listed) (ap (λ (v : Option (Abs W N)). (v, left)) made)

  -- its rest was not
  pub no_rest : (ls others : Lines) → (None, others) ≡ one (rest_said readings code name d.width) ls → (None, others) ≡ map_read readings code spec cap name m (Some d) ls
  no_rest ls others first = rw (← first) refl
