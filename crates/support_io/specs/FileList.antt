-- Named files in a list.
use Rattle.std.specs.Prelude.{ℕ, Bool, List, [], Option, String, Vec, drop, find, is_some, unwrap_or}
use Rattle.std.specs.List.{slice_get}
use Rattle.std.specs.Option.{option_map, option_and_then}
use Rattle.std.specs.Str.{bytes_eq}
use Rattle.std.specs.String.{string_bytes}
use Rattle.std.specs.declared.alloc.Global.{Global}

-- a name and its bytes
abbrev pub File : Type 0
File = String Global × Vec ℕ Global

abbrev pub has_name : List ℕ → File → Bool
has_name name file = bytes_eq (string_bytes file.0) name

-- the bytes of the first file of a name
abbrev pub first_file : List File → List ℕ → Option (List ℕ)
first_file files name = option_map (λ (file : File). file.1.items) (find (has_name name) files)

-- the bytes of the file at a place
abbrev pub file_at : List File → Option ℕ → Option (List ℕ)
file_at files at = option_map (λ (file : File). file.1.items) (option_and_then (slice_get files) at)

-- its name, or nothing where there is none
abbrev pub name_at : List File → Option ℕ → List ℕ
name_at files at = unwrap_or (option_map (λ (file : File). string_bytes file.0) (option_and_then (slice_get files) at)) []

-- the bytes of that file from an offset on
abbrev pub unread : List File → Option ℕ → ℕ → Option (List ℕ)
unread files at from = option_map (λ (bytes : List ℕ). drop from bytes) (file_at files at)

-- whether a name is held
abbrev pub is_held : (List ℕ → Option (List ℕ)) → List ℕ → Bool
is_held held name = is_some (held name)
