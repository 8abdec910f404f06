-- How the rule of a precedence begins.
use Rattle.std.proofs.Common.{◌≡◌, ℕ, zero, suc, ◌-◌, ◌<◌, Ok, Err, refl, subst, arith}
use Rattle.syntax_grammar.specs.declared.rules.RuleFault.{RuleFault}
use Rattle.syntax_grammar.specs.Tree.{Term as Expr, Pattern}
use Rattle.syntax_grammar.specs.State.{At}
use Rattle.syntax_grammar.specs.Parsing.{Parser}
use Rattle.syntax_grammar.specs.TermRules.{chain_from, at_precedence, max_turns, unary_from}

module _ (p : Parser Pattern) (t : Parser Expr) (prec : ℕ) (a : At) where
  pub level_of_prefixes : prec ≡ 0 → at_precedence p t prec a ≡ unary_from p t max_turns a
  unfolding at_precedence
  level_of_prefixes h = rw h refl

  pub level_not_begun : (e : RuleFault) (b : At) → 0 < prec → at_precedence p t (prec - 1) a ≡ (Err e, b) → at_precedence p t prec a ≡ (Err e, b)
  unfolding at_precedence
  level_not_begun e b some reads =
      let f : prec ≡ suc (prec - 1) = omega arith in
      let g : at_precedence p t (suc (prec - 1)) a ≡ (Err e, b) = rw reads refl in rw f g

  pub level_begun : (x : Expr) (b : At) → 0 < prec → at_precedence p t (prec - 1) a ≡ (Ok x, b) → at_precedence p t prec a ≡ chain_from (at_precedence p t (prec - 1)) prec (max_turns - 0) x b
  unfolding at_precedence
  level_begun x b some reads =
      let f : suc (prec - 1) ≡ prec = omega arith in
      let g : at_precedence p t (suc (prec - 1)) a ≡ chain_from (at_precedence p t (prec - 1)) (suc (prec - 1)) max_turns x b = rw reads refl in
      let family : ℕ → Type 0 = λ n. at_precedence p t n a ≡ chain_from (at_precedence p t (prec - 1)) n max_turns x b in
      subst family f g
