-- The turns of the rule of binary operators.
use Rattle.std.proofs.Common.{◌≡◌, ◌∙◌, ℕ, suc, ◌+◌, ◌-◌, ◌<◌, ◌≤◌, true, false, Ok, Err, refl, ap, arith}
use Rattle.std.specs.Prelude.{◌==◌, ◌≢◌}
use Rattle.std.proofs.lemmas.Bool.Decides.{nat_tests}
use Rattle.syntax_grammar.specs.declared.tree.Span.{Span}
use Rattle.syntax_grammar.specs.declared.rules.RuleFault.{RuleFault}
use Rattle.syntax_grammar.specs.declared.rules.RuleFault.TheVariants.{TooDeep}
use Rattle.syntax_grammar.specs.Tree.{Term as Expr}
use Rattle.syntax_grammar.specs.State.{At}
use Rattle.syntax_grammar.specs.Parsing.{Outcome, Parser, next, skip, after_first, rise}
use Rattle.syntax_grammar.specs.TermRules.{chain_from, max_turns}
use Rattle.syntax_grammar.specs.Nodes.{binary_of}
use Rattle.syntax_grammar.specs.Operators.{binds, groups, operator}
use Rattle.syntax_cursor.proofs.Turns.{over, turn}

same_test : (m n : ℕ) → m ≡ n → (m == n) ≡ true
same_test m n e = grind (arith, nat_tests)

other_test : (m n : ℕ) → m ≢ n → (m == n) ≡ false
other_test m n e = grind (arith, nat_tests)

after_skip : (b c : At) (s : Span) → skip b ≡ (Ok s, c) → record b { rest = after_first b.rest } ≡ c
after_skip b c s skips = ap (λ (o : Outcome Span). o.1) skips

module _ (operand : Parser Expr) (prec i : ℕ) (left : Expr) (a : At) where
  pub chain_none : i < max_turns → binds (next a) ≢ prec → chain_from operand prec (max_turns - i) left a ≡ (Ok left, a)
  unfolding chain_from
  chain_none more other = rw (turn max_turns i more, other_test (binds (next a)) prec other) refl

  pub chain_too_deep : (e : RuleFault) (b : At) → i < max_turns → binds (next a) ≡ prec → rise a ≡ (Err e, b) → chain_from operand prec (max_turns - i) left a ≡ (Err e, b)
  unfolding chain_from
  chain_too_deep e b more binding rises = rw (turn max_turns i more, same_test (binds (next a)) prec binding, rises) refl

  pub chain_no_turn : max_turns ≤ i → chain_from operand prec (max_turns - i) left a ≡ (Err TooDeep, a)
  unfolding chain_from
  chain_no_turn done = rw (over max_turns i done) refl

  module _ (s : Span) (b c d : At) where
    pub chain_failed : (e : RuleFault) → i < max_turns → binds (next a) ≡ prec → rise a ≡ (Ok tt, b) → skip b ≡ (Ok s, c) → operand c ≡ (Err e, d)
        → chain_from operand prec (max_turns - i) left a ≡ (Err e, d)
    unfolding chain_from
    chain_failed e more binding rises skips reads = rw (turn max_turns i more, same_test (binds (next a)) prec binding, rises, after_skip b c s skips, reads) refl

    -- operators that do not group end there
    pub chain_last : (right : Expr) → i < max_turns → binds (next a) ≡ prec → groups prec ≡ false → rise a ≡ (Ok tt, b) → skip b ≡ (Ok s, c) → operand c ≡ (Ok right, d)
        → chain_from operand prec (max_turns - i) left a ≡ (Ok (binary_of (operator (next a)) left right), d)
    unfolding chain_from
    chain_last right more binding group rises skips reads = rw (turn max_turns i more, same_test (binds (next a)) prec binding, rises, after_skip b c s skips, reads, group) refl

    -- operators that group go on with one turn less
    pub chain_turn : (right : Expr) → i < max_turns → binds (next a) ≡ prec → groups prec ≡ true → rise a ≡ (Ok tt, b) → skip b ≡ (Ok s, c) → operand c ≡ (Ok right, d)
        → chain_from operand prec (max_turns - i) left a ≡ chain_from operand prec (max_turns - (i + 1)) (binary_of (operator (next a)) left right) d
    unfolding chain_from
    chain_turn right more binding group rises skips reads = rw (turn max_turns i more, same_test (binds (next a)) prec binding, rises, after_skip b c s skips, reads, group) refl
