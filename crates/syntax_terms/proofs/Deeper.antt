-- A term at a depth.
use Rattle.std.proofs.Common.{◌≡◌, ℕ, zero, suc, ◌-◌, ◌<◌, Err, refl, arith}
use Rattle.syntax_grammar.specs.declared.rules.RuleFault.{RuleFault}
use Rattle.syntax_grammar.specs.declared.rules.RuleFault.TheVariants.{TooDeep}
use Rattle.syntax_grammar.specs.State.{At}
use Rattle.syntax_grammar.specs.Parsing.{Parser, ◌>>=◌, ◌>>◌, pure, stop, enter, leave, begins_term}
use Rattle.syntax_grammar.specs.PatternRules.{pattern}
use Rattle.syntax_grammar.specs.TermRules.{term, body}

pub term_at : (depth : ℕ) (at : At) → 0 < depth
    → term depth at ≡ (enter begins_term >>= (λ outer. body (pattern (depth - 1)) (term (depth - 1)) >>= (λ found. leave outer >> pure found))) at
unfolding term
term_at zero at some = absurd (omega arith)
term_at (suc n) at some = let e : suc n - 1 ≡ n = omega arith in rw e refl

pub term_too_deep : (depth : ℕ) (at : At) → depth ≡ 0 → term depth at ≡ (enter begins_term >> stop TooDeep) at
unfolding term
term_too_deep depth at none = rw none refl

pub term_not_begun : (depth : ℕ) (at new : At) (e : RuleFault) → enter begins_term at ≡ (Err e, new) → term depth at ≡ (Err e, new)
unfolding term
term_not_begun zero at new e h = rw h refl
term_not_begun (suc n) at new e h = rw h refl
