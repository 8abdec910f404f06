-- Values of the code as plain data.
use Rattle.std.specs.Prelude.{ℕ, List, map}
use Rattle.std.specs.Borrow.{Bor}
use Rattle.analysis_claims.specs.Tables.{claim}
use Rattle.text_claims.specs.declared.kinds.Meant.{Meant as MeantOf}
use Rattle.text_claims.specs.declared.kinds.Meant.TheVariants as code
use Rattle.text_claims.specs.declared.sums.Sum.{Sum as SumOf}
use Rattle.text_claims.specs.Meaning.{Meant, nothing, bad, unknown, says}
use Rattle.text_claims.specs.Sums.{Sum}

-- what borrowed texts are
abbrev pub borrowed : List (Bor (List ℕ)) → List (List ℕ)
borrowed texts = map (λ text. text.now) texts

abbrev pub sum_of : SumOf → Sum
sum_of s = record { c = s.c; parts = s.parts.items; known = s.known }

abbrev pub meant_of : MeantOf → Meant
meant_of code.Nothing = nothing
meant_of code.Bad = bad
meant_of code.Unknown = unknown
meant_of (code.Says c) = says (claim c)
