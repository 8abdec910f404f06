-- The turns of the rule of prefix operators.
use Rattle.std.proofs.Common.{◌≡◌, ◌∙◌, ℕ, zero, suc, ◌-◌, ◌<◌, true, false, Ok, refl, ap, arith}
use Rattle.std.specs.Prelude.{if◌then◌else◌, Err}
use Rattle.syntax_grammar.specs.declared.tree.Span.{Span}
use Rattle.syntax_grammar.specs.declared.rules.RuleFault.{RuleFault}
use Rattle.syntax_grammar.specs.declared.rules.RuleFault.TheVariants.{TooDeep}
use Rattle.syntax_grammar.specs.Tree.{Term as Expr, Pattern}
use Rattle.syntax_grammar.specs.State.{At}
use Rattle.syntax_grammar.specs.Parsing.{Outcome, Parser, ◌>>=◌, ◌>>◌, and_then, pure, next, skip, rise}
use Rattle.syntax_grammar.specs.TermRules.{unary_from, post}
use Rattle.syntax_grammar.specs.Nodes.{prefix_of}
use Rattle.syntax_grammar.specs.Operators.{prefix_operator}
use Rattle.syntax_grammar.specs.Tokens.{is_prefix}

module _ (p : Parser Pattern) (t : Parser Expr) (n : ℕ) (at : At) where
  pub unary_turn : 0 < n
      → unary_from p t n at ≡ (if is_prefix (next at) then (rise >> (skip >>= (λ start. unary_from p t (n - 1) >>= (λ x. pure (prefix_of (prefix_operator (next at)) start x))))) else post p t) at
  unfolding unary_from
  unary_turn some = let e : n ≡ suc (n - 1) = omega arith in rw e (let f : suc (n - 1) - 1 ≡ n - 1 = omega arith in rw f refl)

  pub unary_end : n ≡ 0 → unary_from p t n at ≡ (Err TooDeep, at)
  unfolding unary_from
  unary_end h = rw h refl

  pub unary_none : 0 < n → is_prefix (next at) ≡ false → unary_from p t n at ≡ post p t at
  unary_none some h = unary_turn some ∙ rw h refl

  pub unary_too_deep : (e : RuleFault) (b : At) → 0 < n → is_prefix (next at) ≡ true → rise at ≡ (Err e, b) → unary_from p t n at ≡ (Err e, b)
  unary_too_deep e b some h rises = unary_turn some ∙ rw (h, rises) refl

  module _ (s : Span) (b c d : At) where
    pub unary_failed : (e : RuleFault) → 0 < n → is_prefix (next at) ≡ true → rise at ≡ (Ok tt, b) → skip b ≡ (Ok s, c) → unary_from p t (n - 1) c ≡ (Err e, d) → unary_from p t n at ≡ (Err e, d)
    unary_failed e some h rises skips reads =
        unary_turn some ∙ rw (h, rises) (ap (λ (o : Outcome Span). and_then o (λ start. unary_from p t (n - 1) >>= (λ x. pure (prefix_of (prefix_operator (next at)) start x)))) skips ∙ rw reads refl)

    pub unary_more : (x : Expr) → 0 < n → is_prefix (next at) ≡ true → rise at ≡ (Ok tt, b) → skip b ≡ (Ok s, c) → unary_from p t (n - 1) c ≡ (Ok x, d)
        → unary_from p t n at ≡ (Ok (prefix_of (prefix_operator (next at)) s x), d)
    unary_more x some h rises skips reads =
        unary_turn some ∙ rw (h, rises) (ap (λ (o : Outcome Span). and_then o (λ start. unary_from p t (n - 1) >>= (λ x. pure (prefix_of (prefix_operator (next at)) start x)))) skips ∙ rw reads refl)
