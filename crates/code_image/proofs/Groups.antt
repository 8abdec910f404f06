-- Rows of groups.
use Rattle.std.proofs.Common.{◌≡◌, ℕ, ◌+◌, ◌<◌, Bool, true, false, Option, Some, None, List, [], ◌∷◌, ◌++◌, length, take, refl, ap, sym, ◌∙◌, map}
use Rattle.std.specs.Prelude.{slice_get, is_some, option_map, if◌then◌else◌}
use Rattle.spec_ir.specs.Specification.{Row}
use Rattle.semantics.specs.Decode.{argument_of, fields_in, instruction_of, meets_row, row_met}
use Rattle.spec_ir.specs.declared.row.Arg.{Arg}
use Rattle.semantics_values.specs.Values.{Val, made, vals}
use Rattle.code_image.specs.Decoders.{has_fields}
use Rattle.code_image.proofs.Steps.{element}
use Rattle.code_image.specs.Tree.{picked, with_row}

-- what a word meets behind a row depends on what it meets in the rest
row_met-with : (code : ℕ) (row : Option Row) (xs ys : List Row) → row_met code xs ≡ row_met code ys → row_met code (with_row row xs) ≡ row_met code (with_row row ys)
row_met-with code None xs ys e = e
row_met-with code (Some row) xs ys e = ap (λ m. if meets_row code row then Some row else m) e

-- a row that a word does not meet may be left out
pub picked_without : (rows : List Row) (code n : ℕ) (front rest : List ℕ) → row_met code (with_row (slice_get rows n) (picked rows rest)) ≡ row_met code (picked rows rest) → row_met code (picked rows (front ++ n ∷ rest)) ≡ row_met code (picked rows (front ++ rest))
picked_without rows code n [] rest e = e
picked_without rows code n (m ∷ front) rest e = row_met-with code (slice_get rows m) (picked rows (front ++ n ∷ rest)) (picked rows (front ++ rest)) (picked_without rows code n front rest e)

-- one more row behind those of a group
with-append : (r : Option Row) (xs ys : List Row) → with_row r (xs ++ ys) ≡ with_row r xs ++ ys
with-append None xs ys = refl
with-append (Some x) xs ys = refl

pub picked-push : (rows : List Row) (numbers : List ℕ) (n : ℕ) (row : Row) → slice_get rows n ≡ Some row → picked rows (numbers ++ n ∷ []) ≡ picked rows numbers ++ row ∷ []
picked-push rows [] n row e = ap (λ r. with_row r []) e
picked-push rows (m ∷ numbers) n row e = ap (with_row (slice_get rows m)) (picked-push rows numbers n row e) ∙ with-append (slice_get rows m) (picked rows numbers) (row ∷ [])

pub all_so_far : (rows : List Row) (numbers : List ℕ) (i : ℕ) → i < length rows → picked rows numbers ≡ take i rows → picked rows (numbers ++ i ∷ []) ≡ take (i + 1) rows
all_so_far rows numbers i h e =
    let x = element rows i h in
    picked-push rows numbers i x.0 x.1.at ∙ ap (λ r. r ++ x.0 ∷ []) e ∙ sym x.1.front

-- the row that a word meets is the first of a group, if it meets that, or else one of the others
abbrev pub first_of_two : Option Row → Option Row → Option Row
first_of_two None later = later
first_of_two (Some row) later = Some row

pub row_met-first : (code : ℕ) (r : Option Row) (rest : List Row) → row_met code (with_row r rest) ≡ first_of_two (row_met code (with_row r [])) (row_met code rest)
row_met-first code None rest = refl
row_met-first code (Some row) rest = by (meets_row code row)
  where
    by : (b : Bool) → (if b then Some row else row_met code rest) ≡ first_of_two (if b then Some row else None) (row_met code rest)
    by true = refl
    by false = refl

pub first_some : {A : Type 0} (f : A → Row) (o : Option A) (later : Option Row) → is_some o ≡ true → first_of_two (option_map f o) later ≡ option_map f o
first_some f None later e = cc
first_some f (Some x) later e = refl

pub first_none : {A : Type 0} (f : A → Row) (o : Option A) (later : Option Row) → is_some o ≡ false → first_of_two (option_map f o) later ≡ later
first_none f None later e = refl
first_none f (Some x) later e = cc

-- an instruction without fields is that of a row without arguments
bare_args : (instr case : ℕ) (f : Arg → Val) (args : List Arg) → has_fields (Some (made instr case (vals (map f args)))) ≡ false → args ≡ []
bare_args instr case f [] e = refl
bare_args instr case f (a ∷ args) e = cc

pub bare_row : (instr code : ℕ) (row : Row) → has_fields (Some (instruction_of instr code row)) ≡ false → row.args ≡ []
bare_row instr code row e = bare_args instr row.case (argument_of (fields_in code row.parts)) row.args e
