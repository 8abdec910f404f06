-- What named files hold, and what of the open one is left.
use Rattle.std.specs.Prelude.{ℕ, List, [], Option, unwrap_or}
use Rattle.support_io.specs.declared.named_files.NamedFiles.{NamedFiles}
use Rattle.support_io.specs.FileList.{first_file, name_at, unread}

-- the bytes that each name holds
abbrev pub held_in : NamedFiles → List ℕ → Option (List ℕ)
held_in files = first_file files.files.items

-- what of the open file is left, where one is open
abbrev pub open_in : NamedFiles → Option (List ℕ)
open_in files = unread files.files.items files.opened files.from

-- the name of the open file, or nothing where none is open
abbrev pub name_in : NamedFiles → List ℕ
name_in files = name_at files.files.items files.opened

-- what of it is left, or nothing where none is open
abbrev pub left_in : NamedFiles → List ℕ
left_in files = unwrap_or (open_in files) []
