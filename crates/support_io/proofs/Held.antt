-- The places of files by their names.
use Rattle.std.proofs.Common.{◌≡◌, ℕ, ◌<◌, ◌≤◌, Bool, true, false, cond, zero, suc, nat_lt, IsTrue, List, [], ◌∷◌, Option, None, Some, length, refl, sym, ap, ◌∙◌, subst, arith, unwrap_or}
use Rattle.std.specs.List.{slice_get, position, position_or_len, find}
use Rattle.std.specs.Option.{option_map, is_some}
use Rattle.std.specs.String.{string_bytes}
use Rattle.std.proofs.lemmas.Bool.Decides.{nat_tests}
use Rattle.std.proofs.lemmas.List.Folds.{find_at}
use Rattle.std.proofs.lemmas.Option.{slice_get_past}
use Rattle.std.proofs.lemmas.Slice.Eq.{bytes_eq-Decides}
use Rattle.support_io.specs.FileList.{File, first_file, has_name, name_at, unread}

-- a list from its first element on
drop_none : (o : Option File) → option_map (λ (bytes : List ℕ). bytes) (option_map (λ (file : File). file.1.items) o) ≡ option_map (λ (file : File). file.1.items) o
drop_none None = refl
drop_none (Some file) = refl

-- what is unread at a place that is tested to be in range
unread-place : (files : List File) (at : ℕ) (inside : Bool) → nat_lt at (length files) ≡ inside → unread files (cond inside (Some at) None) 0 ≡ option_map (λ (file : File). file.1.items) (slice_get files at)
unread-place files at true is_inside = drop_none (slice_get files at)
unread-place files at false is_inside =
    let past : length files ≤ at = grind (arith, nat_tests) in
    ap (λ (file : Option File). option_map (λ (file : File). file.1.items) file) (sym (slice_get_past files at past))

-- at the place of a name, all of the name's first file is unread
pub unread-position : (files : List File) (name : List ℕ) → unread files (position (has_name name) files) 0 ≡ first_file files name
unread-position files name =
    let at : ℕ = position_or_len (has_name name) files in
    unread-place files at _ refl
    ∙ ap (λ (file : Option File). option_map (λ (file : File). file.1.items) file) (sym (find_at (has_name name) files))

-- a place in range has a file
is_some-slice_get : (files : List File) (at : ℕ) → at < length files → is_some (slice_get files at) ≡ true
is_some-slice_get [] at inside = absurd (omega arith)
is_some-slice_get (file ∷ files) zero inside = refl
is_some-slice_get (file ∷ files) (suc at) inside = is_some-slice_get files at (omega arith)

is_some-option_map : (o : Option File) → is_some (option_map (λ (file : File). file.1.items) o) ≡ is_some o
is_some-option_map None = refl
is_some-option_map (Some file) = refl

is_some-place : (files : List File) (at : ℕ) (inside : Bool) → nat_lt at (length files) ≡ inside → is_some (cond inside (Some at) None) ≡ is_some (slice_get files at)
is_some-place files at true is_inside =
    let within : at < length files = grind (arith, nat_tests) in
    sym (is_some-slice_get files at within)
is_some-place files at false is_inside =
    let past : length files ≤ at = grind (arith, nat_tests) in
    ap (λ (file : Option File). is_some file) (sym (slice_get_past files at past))

-- a name has a place where it is held
pub is_some-position : (files : List File) (name : List ℕ) → is_some (position (has_name name) files) ≡ is_some (first_file files name)
is_some-position files name =
    let at : ℕ = position_or_len (has_name name) files in
    is_some-place files at _ refl
    ∙ ap (λ (file : Option File). is_some file) (sym (find_at (has_name name) files))
    ∙ sym (is_some-option_map (find (has_name name) files))

-- ---- the name of a file that is found

abbrev IsNamed : List ℕ → Option File → Type 0
IsNamed name None = Unit {0}
IsNamed name (Some file) = string_bytes file.0 ≡ name

found_is_named : (files : List File) (name : List ℕ) → IsNamed name (find (has_name name) files)
found_is_named [] name = tt
found_is_named (file ∷ files) name = by (has_name name file) refl (found_is_named files name)
  where
    by : (b : Bool) → has_name name file ≡ b → IsNamed name (find (has_name name) files) → IsNamed name (cond b (Some file) (find (has_name name) files))
    by true is later = (bytes_eq-Decides (string_bytes file.0) name).0 is
    by false is later = later

name_of : (name : List ℕ) (o : Option File) → IsNamed name o → is_some o ≡ true → unwrap_or (option_map (λ (file : File). string_bytes file.0) o) [] ≡ name
name_of name None named some = absurd (cc)
name_of name (Some file) named some = named

named-place : (files : List File) (name : List ℕ) (at : ℕ) → find (has_name name) files ≡ slice_get files at → (inside : Bool) → nat_lt at (length files) ≡ inside
    → IsTrue (is_some (cond inside (Some at) None)) → name_at files (cond inside (Some at) None) ≡ name
named-place files name at finds true is_inside some =
    let within : at < length files = grind (arith, nat_tests) in
    name_of name (slice_get files at) (subst (λ (file : Option File). IsNamed name file) finds (found_is_named files name)) (is_some-slice_get files at within)
named-place files name at finds false is_inside some = absurd (cc)

-- at the place of a name, the file has it
pub named-position : (files : List File) (name : List ℕ) → IsTrue (is_some (position (has_name name) files)) → name_at files (position (has_name name) files) ≡ name
named-position files name some = named-place files name (position_or_len (has_name name) files) (find_at (has_name name) files) _ refl some
