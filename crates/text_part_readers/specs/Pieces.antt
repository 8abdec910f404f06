-- Parts of a line.
use Rattle.std.specs.Prelude.{ℕ, ◌==◌, Bool, not, nat_lt, List, take, drop, length, Option, Some, None, if◌then◌else◌}
use Rattle.std.specs.List.{prefix_len}

-- how many bytes stand before the first that is this one
abbrev pub len_before : ℕ → List ℕ → ℕ
len_before b text = prefix_len (λ c. not (c == b)) text

-- what stands before the first byte that is this one, and what behind it
abbrev pub cut : ℕ → List ℕ → Option (List ℕ × List ℕ)
cut b text = if nat_lt (len_before b text) (length text) then Some (take (len_before b text) text, drop 1 (drop (len_before b text) text)) else None
