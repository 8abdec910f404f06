-- The steps that every rule is made of.
use Rattle.std.specs.Prelude.{◌≡◌, ◌≢◌, ℕ, ◌+◌, Bool, true, false, ◌||◌, if◌then◌else◌, nat_lt, List, [], ◌∷◌, Option, Some, None, Result, Ok, Err}
use denote.Enum.Bare.{sameb}
use Rattle.syntax_lexer.specs.declared.token.Token.{Token}
use Rattle.syntax_lexer.specs.declared.token.Keyword.{Keyword}
use Rattle.syntax_lexer.specs.declared.token.Mark.{Mark}
use Rattle.syntax_lexer.specs.contracts.token.Mark as mark
use Rattle.syntax_lexer.specs.contracts.token.Keyword as keyword
use Rattle.syntax_lexer.specs.declared.token.Kind.{Kind}
use Rattle.syntax_lexer.specs.declared.token.Kind.TheVariants as k
use Rattle.syntax_grammar.specs.declared.tree.Span.{Span}
use Rattle.syntax_grammar.specs.declared.tree.Name.{Name}
use Rattle.syntax_grammar.specs.declared.tree.Num.{Num}
use Rattle.syntax_grammar.specs.declared.rules.RuleFault.{RuleFault}
use Rattle.syntax_grammar.specs.declared.rules.RuleFault.TheVariants.{Syntax, TooDeep, NoMemory}
use Rattle.syntax_lexer.specs.declared.token.Keyword.TheVariants as w
use Rattle.syntax_lexer.specs.declared.token.Mark.TheVariants as m
use Rattle.syntax_grammar.specs.declared.rules.Literal.{Literal}
use Rattle.syntax_grammar.specs.State.{At}
use Rattle.syntax_grammar.specs.Nodes.{literal_of}
use Rattle.syntax_grammar.specs.Tokens.{max_level, is_operation, is_cast, is_prefix}

abbrev pub first_kind : List Token → Option Kind
first_kind [] = None
first_kind (t ∷ ts) = Some t.kind

abbrev pub first_span : List Token → Span
first_span [] = record { from = 0; to = 0 }
first_span (t ∷ ts) = record { from = t.from; to = t.to }

abbrev pub after_first : List Token → List Token
after_first [] = []
after_first (t ∷ ts) = ts

abbrev pub next : At → Option Kind
next at = first_kind at.rest

-- ---- parsers

abbrev pub Outcome : Type 0 → Type 0
Outcome A = Result A RuleFault × At

abbrev pub Parser : Type 0 → Type 0
Parser A = At → Outcome A

abbrev pub and_then : {A B : Type 0} → Outcome A → (A → Parser B) → Outcome B
and_then (Ok a, at) f = f a at
and_then (Err e, at) f = (Err e, at)

infixl 10 ◌>>=◌
abbrev pub ◌>>=◌ : {A B : Type 0} → Parser A → (A → Parser B) → Parser B
p >>= f = λ at. and_then (p at) f

infixl 10 ◌>>◌
abbrev pub ◌>>◌ : {A B : Type 0} → Parser A → Parser B → Parser B
p >> q = p >>= (λ _. q)

abbrev pub pure : {A : Type 0} → A → Parser A
pure a = λ at. (Ok a, at)

abbrev pub stop : {A : Type 0} → RuleFault → Parser A
stop e = λ at. (Err e, at)

-- goes on by the next token
abbrev pub by_next : {A : Type 0} → (Option Kind → Parser A) → Parser A
by_next f = λ at. f (next at) at

abbrev pub skip : Parser Span
skip = λ at. (Ok (first_span at.rest), record at { rest = after_first at.rest })

abbrev pub is_mark : Mark → Option Kind → Bool
is_mark m (Some (k.Mark n)) = sameb mark.the_type n m
is_mark m _ = false

abbrev pub is_word : Keyword → Option Kind → Bool
is_word w (Some (k.Word v)) = sameb keyword.the_type v w
is_word w _ = false

unfoldable pub sees : Mark → At → Bool
sees m at = is_mark m (next at)

unfoldable pub expect : Mark → Parser Span
expect m = λ at. if is_mark m (next at) then skip at else stop Syntax at

unfoldable pub expect_word : Keyword → Parser Span
expect_word w = λ at. if is_word w (next at) then skip at else stop Syntax at

unfoldable pub eat : Mark → Parser Bool
eat m = λ at. if is_mark m (next at) then (Ok true, record at { rest = after_first at.rest }) else (Ok false, at)

abbrev pub number_by : Option Kind → Parser Num
number_by (Some (k.Number v)) = (do s ← skip; pure (record { v = v; span = s }))
number_by _ = stop Syntax

unfoldable pub number : Parser Num
number = by_next number_by

abbrev pub lower_by : Option Kind → Parser Name
lower_by (Some (k.Lower text)) = (do s ← skip; pure (record { text = text; span = s }))
lower_by _ = stop Syntax

unfoldable pub lower : Parser Name
lower = by_next lower_by

abbrev pub upper_by : Option Kind → Parser Name
upper_by (Some (k.Upper text)) = (do s ← skip; pure (record { text = text; span = s }))
upper_by _ = stop Syntax

unfoldable pub upper : Parser Name
upper = by_next upper_by

-- `v:w`
unfoldable pub literal : Parser Literal
literal = do
  v ← number
  expect m.Colon
  w ← number
  pure (literal_of v w)

-- ---- levels

-- one level deeper
unfoldable pub rise : Parser (Unit {0})
rise = λ at. if nat_lt at.level max_level then (Ok tt, record at { level = at.level + 1 }) else stop TooDeep at

abbrev pub word_begins_atom : Keyword → Bool
word_begins_atom w.KwTrue = true
word_begins_atom w.KwFalse = true
word_begins_atom w.KwMatch = true
word_begins_atom word = is_operation word || is_cast word

abbrev pub begins_atom : Option Kind → Bool
begins_atom (Some (k.Upper text)) = true
begins_atom (Some (k.Lower text)) = true
begins_atom (Some (k.Number v)) = true
begins_atom (Some (k.Word w)) = word_begins_atom w
begins_atom (Some (k.Mark m.LParen)) = true
begins_atom (Some (k.Mark _)) = false
begins_atom None = false

abbrev pub begins_unary : Option Kind → Bool
begins_unary next = begins_atom next || is_prefix next

abbrev pub begins_term : Option Kind → Bool
begins_term next = begins_unary next || is_word w.KwLet next || is_word w.KwIf next

abbrev pub begins_pattern : Option Kind → Bool
begins_pattern (Some (k.Upper text)) = true
begins_pattern (Some (k.Lower text)) = true
begins_pattern (Some (k.Number v)) = true
begins_pattern (Some (k.Word w.KwTrue)) = true
begins_pattern (Some (k.Word w.KwFalse)) = true
begins_pattern (Some (k.Word _)) = false
begins_pattern (Some (k.Mark m.Underscore)) = true
begins_pattern (Some (k.Mark _)) = false
begins_pattern None = false

-- one level deeper where there is a first token, and answers the level to go back to
abbrev pub enter_if : Bool → Parser ℕ
enter_if begins = λ at. if begins then (rise >> (pure at.level)) at else stop Syntax at

-- begins a term or a pattern where its first token may
unfoldable pub enter : (Option Kind → Bool) → Parser ℕ
enter begins = by_next (λ next. enter_if (begins next))

abbrev pub leave : ℕ → Parser (Unit {0})
leave outer = λ at. (Ok tt, record at { level = outer })

-- What a function that parses ensures: the outcome, with the answer seen as plain data, unless memory fails.
abbrev pub GivesBy : {A B : Type 0} → (A → B) → Outcome B → Result A RuleFault → At → Type 0
GivesBy view outcome (Ok a) new = outcome ≡ (Ok (view a), new)
GivesBy view outcome (Err e) new = e ≢ NoMemory → outcome ≡ (Err e, new)

-- the same for an answer that is plain data
abbrev pub Gives : {A : Type 0} → Outcome A → Result A RuleFault → At → Type 0
Gives outcome (Ok a) new = outcome ≡ (Ok a, new)
Gives outcome (Err e) new = e ≢ NoMemory → outcome ≡ (Err e, new)
