-- The turns of the rule of keys.
use Rattle.std.proofs.Common.{◌≡◌, ◌∙◌, ℕ, suc, ◌+◌, ◌-◌, ◌<◌, ◌≤◌, true, false, Ok, Err, refl, ap}
use Rattle.syntax_lexer.specs.declared.token.Mark.TheVariants as m
use Rattle.syntax_grammar.specs.declared.tree.Span.{Span}
use Rattle.syntax_grammar.specs.declared.rules.RuleFault.{RuleFault}
use Rattle.syntax_grammar.specs.declared.rules.RuleFault.TheVariants.{TooDeep}
use Rattle.syntax_grammar.specs.Tree.{Term as Expr}
use Rattle.syntax_grammar.specs.State.{At}
use Rattle.syntax_grammar.specs.Parsing.{Outcome, Parser, and_then, rise, skip, sees}
use Rattle.syntax_grammar.specs.TermRules.{index, indexes_from, max_turns}
use Rattle.syntax_cursor.proofs.Turns.{over, turn}

module _ (term : Parser Expr) (i : ℕ) (x : Expr) (a : At) where
  pub index_none : i < max_turns → false ≡ sees m.LBracket a → indexes_from term (max_turns - i) x a ≡ (Ok x, a)
  unfolding indexes_from sees
  index_none more seen = rw (turn max_turns i more, ← seen) refl

  pub index_too_deep : (e : RuleFault) (b : At) → i < max_turns → true ≡ sees m.LBracket a → rise a ≡ (Err e, b) → indexes_from term (max_turns - i) x a ≡ (Err e, b)
  unfolding indexes_from sees
  index_too_deep e b more seen rises = rw (turn max_turns i more, ← seen, rises) refl

  module _ (s : Span) (b c d : At) where
    pub index_failed : (e : RuleFault) → i < max_turns → true ≡ sees m.LBracket a → rise a ≡ (Ok tt, b) → skip b ≡ (Ok s, c) → index term x c ≡ (Err e, d)
        → indexes_from term (max_turns - i) x a ≡ (Err e, d)
    unfolding indexes_from sees
    index_failed e more seen rises skips reads =
        rw (turn max_turns i more, ← seen, rises) (ap (λ (o : Outcome Span). and_then (index term x o.1) (λ y. indexes_from term (max_turns - (i + 1)) y)) skips ∙ rw reads refl)

    pub index_more : (y : Expr) → i < max_turns → true ≡ sees m.LBracket a → rise a ≡ (Ok tt, b) → skip b ≡ (Ok s, c) → index term x c ≡ (Ok y, d)
        → indexes_from term (max_turns - i) x a ≡ indexes_from term (max_turns - (i + 1)) y d
    unfolding indexes_from sees
    index_more y more seen rises skips reads =
        rw (turn max_turns i more, ← seen, rises) (ap (λ (o : Outcome Span). and_then (index term x o.1) (λ y. indexes_from term (max_turns - (i + 1)) y)) skips ∙ rw reads refl)

  pub index_no_turn : max_turns ≤ i → indexes_from term (max_turns - i) x a ≡ (Err TooDeep, a)
  unfolding indexes_from
  index_no_turn done = rw (over max_turns i done) refl
