-- What the steps of the code give.
use Rattle.std.proofs.Common.{◌≡◌, ℕ, ◌<◌, ◌≤◌, List, length, subst, sym, arith}
use Rattle.std.specs.Prelude.{IsOk, Result, Err}
use Rattle.spec_ir.specs.declared.spec.SpecUse.{SpecUse}
use Rattle.spec_ir.specs.Specification.{Spec}
use Rattle.semantics_laws.specs.Accepted.{IsAccepted}
use Rattle.semantics_accepted.proofs.Accepted.{checked_are_accepted}
use Rattle.support_command_line.specs.Giving as words-of
use Rattle.program_common.specs.Sources.{IsSpecification}

-- the specification of a source is accepted
pub is_accepted : (wanted : SpecUse) (source : List ℕ) (spec : Spec) → IsSpecification wanted source spec → IsAccepted spec
is_accepted wanted source spec p = checked_are_accepted wanted p.tree spec (p.parsed.tokens, length source, p.parsed.parsed) p.faultless p.checked

past : (a b : ℕ) → (a ≤ b → ⊥) → b < a
past a b never = omega arith

abbrev failed : {E : Type 0} → E → Result (Unit {0}) E
failed error = Err error

-- a line that has no room
pub no_room : {E : Type 0} (line bytes : List ℕ) (room : ℕ) (error : E) → (length bytes ≤ room → IsOk (failed error)) → bytes ≡ line → room < length line
no_room line bytes room error fails is = past (length line) room (λ fits. let fine = fails (subst (λ (b : List ℕ). length b ≤ room) (sym is) fits) in cc)
