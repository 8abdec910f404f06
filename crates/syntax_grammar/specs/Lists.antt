-- Lists: with a mark between the items, or up to a closing mark.
use Rattle.std.specs.Prelude.{if◌then◌else◌, ℕ, zero, suc, List, [], ◌∷◌, ◌++◌, length}
use Rattle.syntax_lexer.specs.declared.token.Mark.{Mark}
use Rattle.syntax_grammar.specs.declared.rules.RuleFault.TheVariants.{Syntax}
use Rattle.syntax_grammar.specs.Parsing.{Parser, ◌>>=◌, pure, stop, by_next, eat, is_mark}

-- one or more, with marks between: the number bounds the turns, and each turn takes a token
unfoldable pub separated_from : {A : Type 0} → Parser A → Mark → ℕ → List A → Parser (List A)
separated_from item mark zero found = stop Syntax
separated_from item mark (suc n) found = do
  x ← item
  more ← eat mark
  if more then separated_from item mark n (found ++ x ∷ []) else pure (found ++ x ∷ [])

unfoldable pub separated : {A : Type 0} → Parser A → Mark → Parser (List A)
separated item mark = λ at. separated_from item mark (length at.rest) [] at

-- none or more, up to a closing mark, which is left
unfoldable pub until_from : {A : Type 0} → Parser A → Mark → ℕ → List A → Parser (List A)
until_from item closing zero found = stop Syntax
until_from item closing (suc n) found = by_next (λ next. if is_mark closing next then pure found else (do
  x ← item
  until_from item closing n (found ++ x ∷ [])))

unfoldable pub until : {A : Type 0} → Parser A → Mark → Parser (List A)
until item closing = λ at. until_from item closing (length at.rest) [] at

-- one or more, up to a closing mark, which is left
unfoldable pub many : {A : Type 0} → Parser A → Mark → Parser (List A)
many item closing = do
  x ← item
  λ at. until_from item closing (length at.rest) (x ∷ []) at
