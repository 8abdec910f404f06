use Rattle.std.proofs.Common.{◌≡◌, ◌<◌, ◌^◌, drop, length}
use Rattle.syntax_lexer.specs.Bytes.{Passes}
use Rattle.syntax_lexer.specs.Lexeme.{is_digit_of, value_from}
use Rattle.syntax_lexer.proofs.numbers.numeral.Given as goal

abbrev pub invariant-loop-byte : goal.invariant-loop-byte
invariant-loop-byte l = record {
  small : l.value < 2 ^ 64;
  some : 0 < length l.digits;
  value : value_from l.base 0 l.digits ≡ value_from l.base l.value (drop l.byte-index l.digits);
  in_ : Passes (is_digit_of l.base) l.digits → Passes (is_digit_of l.base) (drop l.byte-index l.digits);
  out : Passes (is_digit_of l.base) (drop l.byte-index l.digits) → Passes (is_digit_of l.base) l.digits;
}
