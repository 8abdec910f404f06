-- Cells by their texts.
use Rattle.std.specs.Prelude.{ℕ, ◌==◌, nat_lt, List, [], ◌∷◌, Option, Some, None, bytes_eq, codes, length, if◌then◌else◌}
use Rattle.std.specs.List.{position_or_len, before_first, after_first}
use Rattle.state_text.specs.Forms.{is_name, is_key}

-- what stands before the first of these bytes, and what behind it, where there is one
abbrev pub split_once : ℕ → List ℕ → Option (List ℕ × List ℕ)
split_once at bytes = if nat_lt (position_or_len (λ b. b == at) bytes) (length bytes) then Some (before_first (λ b. b == at) bytes, after_first (λ b. b == at) bytes) else None

-- what is written of a cell behind the name of its field: nothing, `[*]` or `[KEY]`
pub data Part : Type 0 where
  whole : Part
  rest : Part
  at : List ℕ → Part

pub record CellName : Type 0 where
  pub name : List ℕ
  pub part : Part

-- `*` or the text of a key
abbrev pub inner_part : List ℕ → Option Part
inner_part text = if bytes_eq text (codes "*") then Some rest else (if is_key text then Some (at text) else None)

-- behind `[`: what stands before `]`, behind which nothing stands
abbrev pub part_behind_bracket : Option (List ℕ × List ℕ) → Option Part
part_behind_bracket None = None
part_behind_bracket (Some (inner, [])) = inner_part inner
part_behind_bracket (Some (inner, b ∷ more)) = None

abbrev pub with_part : List ℕ → Option Part → Option CellName
with_part name None = None
with_part name (Some part) = if is_name name then Some (record { name = name; part = part }) else None

-- behind what stands before `[`, where there is one
abbrev pub named : List ℕ → Option (List ℕ × List ℕ) → Option CellName
named text None = with_part text (Some whole)
named text (Some (name, more)) = with_part name (part_behind_bracket (split_once 93 more))

-- The cell that a text is: NAME, NAME[*] or NAME[KEY].
abbrev pub cell_name : List ℕ → Option CellName
cell_name text = named text (split_once 91 text)
