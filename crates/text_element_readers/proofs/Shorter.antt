-- Reading leaves no more lines than there were.
use Rattle.std.proofs.Common.{ℕ, ◌≤◌, Bool, List, [], ◌∷◌, length, Option, Some, None, slice_get, arith}
use Rattle.std.specs.Prelude.{codes}
use Rattle.spec_ir.specs.declared.ty.Ty.{Ty}
use Rattle.spec_ir.specs.declared.ty.Ty.TheVariants.{Bool as Flag, Word, Data as DataTy, Map as MapOf}
use Rattle.spec_ir.specs.declared.declared.MapType.{MapType}
use Rattle.spec_ir.specs.Specification.{Spec}
use Rattle.abstract_value_laws.specs.Abs.{word, part}
use Rattle.state_cell_text.specs.Places.{Field, state_fields}
use Rattle.text_words.specs.Readings.{Readings}
use Rattle.text_lines.specs.Lines.{Lines}
use Rattle.text_lines.specs.Outcomes.{Reading, one, then_read}
use Rattle.text_lines.proofs.Steps.{all_shorter, one_shorter}
use Rattle.text_part_readers.specs.Cells.{behind_counter, fields_read, listed_read, map_read, next_said, rest_said, states_read, value_read, with_rest, word_said}
use Rattle.text_part_readers.specs.Parts.{part_read, part_said}
use Rattle.text_part_readers.specs.Rows.{next_row, rows_read}
use Rattle.text_element_readers.specs.Reading.{affine_read, all_rows}

then_shorter : {X Y : Type 0} (r : Reading X) (next : X → Lines → Reading Y) (n : ℕ) → length r.1 ≤ n → ((x : X) (ls : Lines) → length (next x ls).1 ≤ length ls) → length (then_read r next).1 ≤ n
then_shorter (None, ls) next n few step = few
then_shorter (Some x, ls) next n few step = omega (arith, few, step x ls)

pub part_shorter : {X : Type 0} (name : List ℕ) (read : Lines → Reading X) (ls : Lines) → ((others : Lines) → length (read others).1 ≤ length others) → length (part_read name read ls).1 ≤ length ls
part_shorter name read ls step = then_shorter (one (part_said name) ls) (λ named others. read others) (length ls) (one_shorter (part_said name) ls) (λ named others. step others)

module _ {W N : Type 0} (readings : Readings W N) (code : ℕ → Bool) (spec : Spec) (cap : ℕ) where
  map_shorter : (name : List ℕ) (m : ℕ) (d : Option MapType) (ls : Lines) → length (map_read readings code spec cap name m d ls).1 ≤ length ls
  map_shorter name m None ls = omega arith
  map_shorter name m (Some d) ls =
      then_shorter (one (rest_said readings code name d.width) ls) (λ rest others. with_rest readings code spec cap m d.width rest (listed_read readings code spec cap name d.key d.width others)) (length ls)
      (one_shorter (rest_said readings code name d.width) ls) (λ rest others. all_shorter (next_said readings code spec cap name d.key d.width) [] others)

  value_shorter : (name : List ℕ) (ty : Ty) (ls : Lines) → length (value_read readings code spec cap name ty ls).1 ≤ length ls
  value_shorter name Flag ls = omega arith
  value_shorter name (DataTy t) ls = omega arith
  value_shorter name (Word w) ls = then_shorter (one (word_said readings name w) ls) (λ x others. (Some (word w x), others)) (length ls) (one_shorter (word_said readings name w) ls) (λ x others. omega arith)
  value_shorter name (MapOf m) ls = map_shorter name m (slice_get spec.maps m) ls

  fields_shorter : (fields : List Field) (ls : Lines) → length (fields_read readings code spec cap fields ls).1 ≤ length ls
  fields_shorter [] ls = omega arith
  fields_shorter (f ∷ fields) ls =
      then_shorter (value_read readings code spec cap f.0 f.1 ls) (λ x others. then_read (fields_read readings code spec cap fields others) (λ xs left. (Some (part x xs), left))) (length ls) (value_shorter f.0 f.1 ls)
      (λ x others. then_shorter (fields_read readings code spec cap fields others) (λ xs left. (Some (part x xs), left)) (length others) (fields_shorter fields others) (λ xs left. omega arith))

  pub states_shorter : (ls : Lines) → length (states_read readings code spec cap ls).1 ≤ length ls
  states_shorter ls = fields_shorter (behind_counter (state_fields spec)) ls

  pub cells_shorter : (name : List ℕ) (ls : Lines) → length (part_read name (states_read readings code spec cap) ls).1 ≤ length ls
  cells_shorter name ls = part_shorter name (states_read readings code spec cap) ls states_shorter

pub rows_shorter : (k : ℕ) (ls : Lines) → length (rows_read k ls).1 ≤ length ls
rows_shorter k ls = all_shorter (next_row k) [] ls

pub affine_shorter : (k : ℕ) (ls : Lines) → length (affine_read k ls).1 ≤ length ls
affine_shorter k ls = part_shorter (codes "affine") (λ others. all_rows (rows_read k others)) ls (rows_shorter k)
