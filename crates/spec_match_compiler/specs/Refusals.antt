-- What a refusal says.
use Rattle.std.specs.Prelude.{List}
use Rattle.spec_match_compiler.specs.declared.match_error.MatchError.{MatchError}
use Rattle.spec_match_compiler.specs.declared.match_error.MatchError.TheVariants.{NotExhaustive, Useless, NoMemory}
use Rattle.spec_match_compiler.specs.Shapes.{Types}
use Rattle.spec_match_compiler.specs.Picks.{Row}
use Rattle.spec_match_compiler.specs.Knowledge.{Knowledge}
use Rattle.spec_match_compiler.specs.Rule.{Fails}
use Rattle.spec_match_compiler.specs.Views.{pat}

-- The rule fails with this example, or memory ran out.
abbrev pub FailsWith : Types → List Row → Knowledge → MatchError → Type 0
FailsWith types rows k (NotExhaustive p) = Fails types rows k (pat p)
FailsWith types rows k (Useless r) = ⊥
FailsWith types rows k NoMemory = Unit {0}
