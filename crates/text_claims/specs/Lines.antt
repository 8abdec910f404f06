-- The words of a line.
use Rattle.std.specs.Prelude.{ℕ, Bool, ◌==◌}

-- One space stands between words.
abbrev pub is_space : ℕ → Bool
is_space b = b == 32
