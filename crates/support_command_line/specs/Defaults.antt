-- The numbers of options that are not given.
use Rattle.std.specs.Prelude.{ℕ}

-- how many steps a run has at most
abbrev pub default_steps : ℕ
default_steps = 1000000

-- how many turns an activation of a run has
abbrev pub default_calls : ℕ
default_calls = 4096

-- to how many addresses an instruction may go in an analysis
abbrev pub default_limit : ℕ
default_limit = 64

-- how many changes of an element join before later ones widen
abbrev pub default_joins : ℕ
default_joins = 3

-- how often over an element is split before its instruction is evaluated
abbrev pub default_cases : ℕ
default_cases = 0
