-- The word CODE: `NAME`, and then any number of `,NAME@HEX`.
use Rattle.std.specs.Prelude.{ℕ, ◌==◌, Bool, ◌&&◌, not, List, [], ◌∷◌, Option, Some, None, if◌then◌else◌, length, map, nat_le, nat_lt}
use Rattle.std.specs.List.{after_first, before_first, list_any, slice_split}
use Rattle.support_command_line.specs.declared.orders.Order.{Order}
use Rattle.support_command_line.specs.Giving.{◌>>=◌}
use Rattle.support_command_line.specs.Numbers.{address_in}

-- a part of the code: the input of a name, from a base address on
pub record CodePart : Type 0 where
  pub name : List ℕ
  pub base : ℕ

-- the code: its parts, and the order of the bytes in its words
pub record Code : Type 0 where
  pub parts : List CodePart
  pub order : Order

abbrev pub is_comma : ℕ → Bool
is_comma byte = byte == 44

abbrev pub is_at : ℕ → Bool
is_at byte = byte == 64

-- a part at this address, whose name is not empty and has no `@`
abbrev pub part_at : List ℕ → ℕ → Option CodePart
part_at name base = if nat_lt 0 (length name) && not (list_any is_at name) then Some (record { name = name; base = base }) else None

-- `NAME@HEX`
abbrev pub part_in : List ℕ → Option CodePart
part_in piece = if list_any is_at piece then address_in (after_first is_at piece) >>= part_at (before_first is_at piece) else None

abbrev pub parts_in : List (List ℕ) → Option (List CodePart)
parts_in [] = Some []
parts_in (piece ∷ pieces) = part_in piece >>= λ part. parts_in pieces >>= λ parts. Some (part ∷ parts)

-- a first part, and those of the pieces after it
abbrev pub parts_after : Option CodePart → List (List ℕ) → Option (List CodePart)
parts_after first pieces = first >>= λ part. parts_in pieces >>= λ parts. Some (part ∷ parts)

-- the first piece names the part that stands at the base address
abbrev pub parts_from : ℕ → List (List ℕ) → Option (List CodePart)
parts_from base [] = None
parts_from base (piece ∷ pieces) = part_at piece base >>= λ part. parts_in pieces >>= λ parts. Some (part ∷ parts)

-- at most 16 parts, with commas between
unfoldable pub code_parts : ℕ → List ℕ → Option (List CodePart)
code_parts base word = let pieces = slice_split is_comma word in if nat_le (length pieces) 16 then parts_from base pieces else None

-- the inputs that it names
abbrev pub code_inputs : Code → List (List ℕ)
code_inputs code = map (λ part. part.name) code.parts
