-- The lines of refusals.
use Rattle.std.specs.Prelude.{ℕ, List, [], ◌∷◌, ◌++◌, codes}
use Rattle.state_cell_text.specs.Digits.{hex_digits}
use Rattle.program_common.specs.declared.rejection.Rejection.{Rejection}
use Rattle.program_common.specs.declared.rejection.Rejection.TheVariants.{Entry, Open, Targets, Use}

-- a text and a line end
abbrev pub line : List ℕ → List ℕ
line text = text ++ 10 ∷ []

abbrev pub bad_words_line : List ℕ
bad_words_line = line (codes "bad words")

abbrev pub calls_spent_line : List ℕ
calls_spent_line = line (codes "calls spent")

abbrev pub cannot_read_line : List ℕ → List ℕ
cannot_read_line name = line (codes "cannot read " ++ name)

abbrev pub too_long_line : List ℕ → List ℕ
too_long_line name = line (codes "too long " ++ name)

abbrev pub undecodable_line : ℕ → ℕ → List ℕ
undecodable_line at word = line (codes "undecodable " ++ (hex_digits 8 at ++ (codes " " ++ hex_digits 8 word)))

abbrev pub targets_line : ℕ → List ℕ → List ℕ
targets_line at shown = line (codes "targets " ++ (hex_digits 8 at ++ (codes " " ++ shown)))

-- ---- why a table is rejected

abbrev pub rejected_open_line : ℕ → ℕ → List ℕ
rejected_open_line from to = line (codes "rejected open " ++ (hex_digits 8 from ++ (codes " " ++ hex_digits 8 to)))

abbrev pub rejected_targets_line : ℕ → List ℕ
rejected_targets_line at = line (codes "rejected targets " ++ hex_digits 8 at)

abbrev pub rejected_use_line : ℕ → List ℕ
rejected_use_line at = line (codes "rejected use " ++ hex_digits 8 at)

abbrev pub rejection_line : Rejection → List ℕ
rejection_line Entry = line (codes "rejected entry")
rejection_line (Open from to) = rejected_open_line from to
rejection_line (Targets at) = rejected_targets_line at
rejection_line (Use at) = rejected_use_line at
