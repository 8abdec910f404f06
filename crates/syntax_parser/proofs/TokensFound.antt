-- The rules of one token answer that token, or refuse.
use Rattle.std.proofs.Common.{◌≡◌, ℕ, true, false, List, [], ◌∷◌, refl, ap, inl, inr, rules}
use Rattle.std.specs.Prelude.{Err, Some, if◌then◌else◌}
use denote.Enum.Bare.{same_true}
use Rattle.syntax_lexer.specs.contracts.token.Mark as marks
use Rattle.syntax_lexer.specs.contracts.token.Keyword as keywords
use Rattle.syntax_lexer.specs.declared.token.Token.{Token}
use Rattle.syntax_lexer.specs.declared.token.Kind.{Kind}
use Rattle.syntax_lexer.specs.declared.token.Kind.TheVariants as k
use Rattle.syntax_lexer.specs.declared.token.Mark.{Mark}
use Rattle.syntax_lexer.specs.declared.token.Keyword.{Keyword}
use Rattle.syntax_grammar.specs.declared.tree.Span.{Span}
use Rattle.syntax_grammar.specs.declared.tree.Name.{Name}
use Rattle.syntax_grammar.specs.declared.tree.Num.{Num}
use Rattle.syntax_grammar.specs.declared.rules.RuleFault.TheVariants.{Syntax}
use Rattle.syntax_grammar.specs.Parsing.{Parser, and_then, skip, expect, expect_word, number, literal, lower, upper, is_mark, is_word}
use Rattle.syntax_grammar.specs.Grammar.{Leveled, token, IsLiteral}
use Rattle.syntax_grammar.specs.Grammar as g
use Rattle.syntax_lexer.specs.declared.token.Mark.TheVariants as m
use Rattle.syntax_parser.proofs.Cut.{at}
use Rattle.syntax_parser.proofs.Found.{Low, Read, Takes, read_token_then, read_pure}

-- ---- one token

abbrev pub of_mark : Mark → Span → Token
of_mark mark s = token (k.Mark mark) s

abbrev pub of_word : Keyword → Span → Token
of_word word s = token (k.Word word) s

abbrev pub of_number : Num → Token
of_number n = token (k.Number n.v) n.span

abbrev pub of_lower : Name → Token
of_lower n = token (k.Lower n.text) n.span

abbrev pub of_upper : Name → Token
of_upper n = token (k.Upper n.text) n.span

abbrev pub nowhere : Span
nowhere = record { from = 0; to = 0 }

pub is_mark_true : (mark : Mark) (kind : Kind) → is_mark mark (Some kind) ≡ true → kind ≡ k.Mark mark
is_mark_true mark (k.Mark n) h = ap (λ (x : Mark). k.Mark x) (same_true marks.the_type (search rules) n mark h)
is_mark_true mark (k.Word w) h = cc
is_mark_true mark (k.Number v) h = cc
is_mark_true mark (k.Lower text) h = cc
is_mark_true mark (k.Upper text) h = cc

is_word_true : (word : Keyword) (kind : Kind) → is_word word (Some kind) ≡ true → kind ≡ k.Word word
is_word_true word (k.Word v) h = ap (λ (x : Keyword). k.Word x) (same_true keywords.the_type (search rules) v word h)
is_word_true word (k.Mark n) h = cc
is_word_true word (k.Number v) h = cc
is_word_true word (k.Lower text) h = cc
is_word_true word (k.Upper text) h = cc

pub takes_mark : (mark : Mark) (ℓ : ℕ) (s : List Token) → Takes (of_mark mark) (expect mark) ℓ s
unfolding expect
takes_mark mark ℓ [] = inl refl
takes_mark mark ℓ (t ∷ ts) = elim (is_mark mark (Some t.kind)) as (λ b. is_mark mark (Some t.kind) ≡ b → Takes (of_mark mark) (λ _. if b then skip (at ℓ (t ∷ ts)) else (Err Syntax, at ℓ (t ∷ ts))) ℓ (t ∷ ts)) [
  | true ↦ λ h. inr (record { from = t.from; to = t.to }, ts, ap (λ (kind : Kind). record { kind = kind; from = t.from; to = t.to } ∷ ts) (is_mark_true mark t.kind h), refl)
  | false ↦ λ h. inl refl
] refl

pub takes_word : (word : Keyword) (ℓ : ℕ) (s : List Token) → Takes (of_word word) (expect_word word) ℓ s
unfolding expect_word
takes_word v ℓ [] = inl refl
takes_word v ℓ (t ∷ ts) = elim (is_word v (Some t.kind)) as (λ b. is_word v (Some t.kind) ≡ b → Takes (of_word v) (λ _. if b then skip (at ℓ (t ∷ ts)) else (Err Syntax, at ℓ (t ∷ ts))) ℓ (t ∷ ts)) [
  | true ↦ λ h. inr (record { from = t.from; to = t.to }, ts, ap (λ (kind : Kind). record { kind = kind; from = t.from; to = t.to } ∷ ts) (is_word_true v t.kind h), refl)
  | false ↦ λ h. inl refl
] refl

pub takes_number : (ℓ : ℕ) (s : List Token) → Takes of_number number ℓ s
unfolding number
takes_number ℓ [] = inl refl
takes_number ℓ (t ∷ ts) = by t.kind where
  by : (kind : Kind) → Takes of_number number ℓ (record { kind = kind; from = t.from; to = t.to } ∷ ts)
  by (k.Number v) = inr (record { v = v; span = record { from = t.from; to = t.to } }, ts, refl, refl)
  by (k.Mark n) = inl refl
  by (k.Word w) = inl refl
  by (k.Lower text) = inl refl
  by (k.Upper text) = inl refl

pub takes_lower : (ℓ : ℕ) (s : List Token) → Takes of_lower lower ℓ s
unfolding lower
takes_lower ℓ [] = inl refl
takes_lower ℓ (t ∷ ts) = by t.kind where
  by : (kind : Kind) → Takes of_lower lower ℓ (record { kind = kind; from = t.from; to = t.to } ∷ ts)
  by (k.Lower text) = inr (record { text = text; span = record { from = t.from; to = t.to } }, ts, refl, refl)
  by (k.Upper text) = inl refl
  by (k.Number v) = inl refl
  by (k.Mark n) = inl refl
  by (k.Word w) = inl refl

pub takes_upper : (ℓ : ℕ) (s : List Token) → Takes of_upper upper ℓ s
unfolding upper
takes_upper ℓ [] = inl refl
takes_upper ℓ (t ∷ ts) = by t.kind where
  by : (kind : Kind) → Takes of_upper upper ℓ (record { kind = kind; from = t.from; to = t.to } ∷ ts)
  by (k.Upper text) = inr (record { text = text; span = record { from = t.from; to = t.to } }, ts, refl, refl)
  by (k.Lower text) = inl refl
  by (k.Number v) = inl refl
  by (k.Mark n) = inl refl
  by (k.Word w) = inl refl

module _ {B : Type 0} (L : ℕ → List Leveled → B → Type 0) (ℓ : ℕ) (s : List Token) where
  pub mark_then : (mark : Mark) (f : Span → Parser B) → Low ℓ s → ((a : Span) (rest : List Token) → Low ℓ rest → Read (λ top vs b. L top ((of_mark mark a, ℓ) ∷ vs) b) rest (f a (at ℓ rest)))
      → Read L s (and_then (expect mark (at ℓ s)) f)
  mark_then mark f low go = read_token_then (of_mark mark) (expect mark) nowhere L ℓ s f (takes_mark mark ℓ s) low go

  pub word_then : (word : Keyword) (f : Span → Parser B) → Low ℓ s → ((a : Span) (rest : List Token) → Low ℓ rest → Read (λ top vs b. L top ((of_word word a, ℓ) ∷ vs) b) rest (f a (at ℓ rest)))
      → Read L s (and_then (expect_word word (at ℓ s)) f)
  word_then word f low go = read_token_then (of_word word) (expect_word word) nowhere L ℓ s f (takes_word word ℓ s) low go

  pub number_then : (f : Num → Parser B) → Low ℓ s → ((a : Num) (rest : List Token) → Low ℓ rest → Read (λ top vs b. L top ((of_number a, ℓ) ∷ vs) b) rest (f a (at ℓ rest)))
      → Read L s (and_then (number (at ℓ s)) f)
  number_then f low go = read_token_then of_number number (record { v = 0; span = nowhere }) L ℓ s f (takes_number ℓ s) low go

  pub lower_then : (f : Name → Parser B) → Low ℓ s → ((a : Name) (rest : List Token) → Low ℓ rest → Read (λ top vs b. L top ((of_lower a, ℓ) ∷ vs) b) rest (f a (at ℓ rest)))
      → Read L s (and_then (lower (at ℓ s)) f)
  lower_then f low go = read_token_then of_lower lower (record { text = []; span = nowhere }) L ℓ s f (takes_lower ℓ s) low go

  pub upper_then : (f : Name → Parser B) → Low ℓ s → ((a : Name) (rest : List Token) → Low ℓ rest → Read (λ top vs b. L top ((of_upper a, ℓ) ∷ vs) b) rest (f a (at ℓ rest)))
      → Read L s (and_then (upper (at ℓ s)) f)
  upper_then f low go = read_token_then of_upper upper (record { text = []; span = nowhere }) L ℓ s f (takes_upper ℓ s) low go

-- at one level
abbrev pub FlatAt : {A : Type 0} → ℕ → (List Leveled → A → Type 0) → ℕ → List Leveled → A → Type 0
FlatAt ℓ P top us a = (top ≡ ℓ) × P us a

pub literal_found : (ℓ : ℕ) (s : List Token) → Low ℓ s → Read (FlatAt ℓ (λ us l. IsLiteral ℓ us l)) s (literal (at ℓ s))
unfolding literal
literal_found ℓ s low =
    number_then (FlatAt ℓ (λ us l. IsLiteral ℓ us l)) ℓ s _ low (λ v s low.
    mark_then _ ℓ s m.Colon _ low (λ colon s low.
    number_then _ ℓ s _ low (λ w s low.
    read_pure _ ℓ s _ low (refl, g.literal v.v w.v v.span colon w.span))))
