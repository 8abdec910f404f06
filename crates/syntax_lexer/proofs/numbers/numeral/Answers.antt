use Rattle.std.proofs.Common.{arith, None, Some, IfNone, ℕ, ◌+◌, ◌*◌, ◌≤◌, ◌^◌, get_or}
use Rattle.std.specs.Char.{digit_value}
use Rattle.syntax_lexer.specs.Lexeme.{IsNumeral}
use Rattle.syntax_lexer.proofs.Numerals.{too_large, numeral_whole}
use Rattle.syntax_lexer.proofs.numbers.numeral.Goals as goal

pub returns-in_err-checked_mul-clause-none : goal.returns-in_err-checked_mul-clause-none
returns-in_err-checked_mul-clause-none c =
    let large : 2 ^ 64 ≤ c.loop-byte.value * c.args.base + digit_value (get_or c.args.digits.now c.loop-byte.byte-index 0) = omega (arith, c.in_err-checked_mul.ensures) in
    (elim c.from_residual.result as (λ r. IfNone r ((n : ℕ) → ¬ IsNumeral c.args.base c.args.digits.now n)) [
      | None ↦ λ n. too_large c.args.base c.loop-byte.value c.args.digits.now c.loop-byte.byte-index n c.requires (omega arith) c.loop-byte.invariant.value large
      | Some _ ↦ tt
    ])

pub returns-in_err-value-clause-none : goal.returns-in_err-value-clause-none
returns-in_err-value-clause-none c =
    let large : 2 ^ 64 ≤ c.loop-byte.value * c.args.base + digit_value (get_or c.args.digits.now c.loop-byte.byte-index 0) = grind arith in
    (elim c.from_residual-in_err-value.result as (λ r. IfNone r ((n : ℕ) → ¬ IsNumeral c.args.base c.args.digits.now n)) [
      | None ↦ λ n. too_large c.args.base c.loop-byte.value c.args.digits.now c.loop-byte.byte-index n c.requires (omega arith) c.loop-byte.invariant.value large
      | Some _ ↦ tt
    ])

pub returns-clause-some : goal.returns-clause-some
returns-clause-some c = numeral_whole c.args.base c.loop-byte.value c.args.digits.now c.loop-byte.byte-index c.loop-byte.invariant.some (omega arith) c.loop-byte.invariant.value c.loop-byte.invariant.out c.loop-byte.invariant.small
