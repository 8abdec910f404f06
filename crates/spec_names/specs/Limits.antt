-- How many of each a specification may have.
use Rattle.std.specs.Prelude.{ℕ}

-- types and map types together
abbrev pub most_types : ℕ
most_types = 256

-- constructors of a type
abbrev pub most_constructors : ℕ
most_constructors = 512

abbrev pub most_functions : ℕ
most_functions = 1024

-- fields of a constructor, or parameters of a function
abbrev pub most_fields : ℕ
most_fields = 16

-- rows of a decode section
abbrev pub most_rows : ℕ
most_rows = 512
