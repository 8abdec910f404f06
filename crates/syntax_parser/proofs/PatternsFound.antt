-- The rules of patterns answer what the grammar says.
use Rattle.std.proofs.Common.{◌≡◌, ℕ, zero, suc, ◌≤◌, ◌+◌, true, false, List, [], ◌∷◌, refl, append-nil, inl, inr, arith}
use Rattle.std.specs.Prelude.{Ok, Err, Some}
use Rattle.syntax_lexer.specs.declared.token.Token.{Token}
use Rattle.syntax_lexer.specs.declared.token.Kind.{Kind}
use Rattle.syntax_lexer.specs.declared.token.Kind.TheVariants as k
use Rattle.syntax_lexer.specs.declared.token.Mark.TheVariants as m
use Rattle.syntax_lexer.specs.declared.token.Keyword.TheVariants as w
use Rattle.syntax_grammar.specs.declared.tree.Span.{Span}
use Rattle.syntax_grammar.specs.declared.rules.RuleFault.TheVariants.{Syntax, TooDeep, NoMemory}
use Rattle.syntax_grammar.specs.Tree.{Pattern}
use Rattle.syntax_grammar.specs.Tree as e
use Rattle.syntax_grammar.specs.Parsing.{Outcome, ◌>>=◌, ◌>>◌, and_then, pure, stop, enter, enter_if, leave, begins_pattern}
use Rattle.syntax_grammar.specs.Lists.{separated}
use Rattle.syntax_grammar.specs.PatternRules.{pattern, pattern_body, pattern_any, pattern_variable, pattern_word, pattern_flag, pattern_make, pattern_parts}
use Rattle.syntax_grammar.specs.Grammar.{Leveled, tokens_of, token, Pat, Pats, name}
use Rattle.syntax_grammar.specs.Grammar as g
use Rattle.syntax_grammar.specs.Tokens.{max_level}
use Rattle.syntax_parser.proofs.Cut.{at}
use Rattle.syntax_parser.proofs.Derivations.{starts_pattern}
use Rattle.syntax_parser.proofs.LevelsAgain.{low_or_top, rise_low, rise_high}
use Rattle.syntax_parser.proofs.Found.{Low, low_any, Deep, Read, read_then_flat, read_pure, read_refuse}
use Rattle.syntax_parser.proofs.TokensFound.{nowhere, mark_then, word_then, lower_then, upper_then, literal_found, FlatAt}
use Rattle.syntax_parser.proofs.ListsFound.{eat_found, separated_found}

abbrev pub PatFound : ℕ → ℕ → Type 0
PatFound depth ℓ = (s : List Token) → Low ℓ s → Read (FlatAt ℓ (λ us p. Pat ℓ us p)) s (pattern depth (at ℓ s))

-- a body stands one level deeper than its pattern
abbrev BodyAt : ℕ → ℕ → List Leveled → Pattern → Type 0
BodyAt ℓ = FlatAt (suc ℓ) (λ us p. Pat ℓ us p)

pub some_pattern : (ℓ : ℕ) → Pat ℓ (g.mark m.Underscore nowhere (suc ℓ) ∷ []) (e.any nowhere)
some_pattern ℓ = g.any nowhere

any_found : (ℓ : ℕ) (s : List Token) → Low (suc ℓ) s → Read (BodyAt ℓ) s (pattern_any (at (suc ℓ) s))
unfolding pattern_any
any_found ℓ s low = mark_then (BodyAt ℓ) (suc ℓ) s m.Underscore _ low (λ span s low. read_pure _ (suc ℓ) s _ low (refl, g.any span))

variable_found : (ℓ : ℕ) (s : List Token) → Low (suc ℓ) s → Read (BodyAt ℓ) s (pattern_variable (at (suc ℓ) s))
unfolding pattern_variable
variable_found ℓ s low = lower_then (BodyAt ℓ) (suc ℓ) s _ low (λ x s low. read_pure _ (suc ℓ) s _ low (refl, g.bind x.text x.span))

word_found : (ℓ : ℕ) (s : List Token) → Low (suc ℓ) s → Read (BodyAt ℓ) s (pattern_word (at (suc ℓ) s))
unfolding pattern_word
word_found ℓ s low = read_then_flat (λ us l. g.IsLiteral (suc ℓ) us l) (BodyAt ℓ) (suc ℓ) s _ _ (literal_found (suc ℓ) s low) (λ l s us found low. read_pure _ (suc ℓ) s _ low (refl, rw (append-nil us) (g.Pat.word found)))

true_found : (ℓ : ℕ) (s : List Token) → Low (suc ℓ) s → Read (BodyAt ℓ) s (pattern_flag w.KwTrue true (at (suc ℓ) s))
unfolding pattern_flag
true_found ℓ s low = word_then (BodyAt ℓ) (suc ℓ) s w.KwTrue _ low (λ span s low. read_pure _ (suc ℓ) s _ low (refl, g.Pat.true_flag span))

false_found : (ℓ : ℕ) (s : List Token) → Low (suc ℓ) s → Read (BodyAt ℓ) s (pattern_flag w.KwFalse false (at (suc ℓ) s))
unfolding pattern_flag
false_found ℓ s low = word_then (BodyAt ℓ) (suc ℓ) s w.KwFalse _ low (λ span s low. read_pure _ (suc ℓ) s _ low (refl, g.Pat.false_flag span))

parts_found : (depth ℓ : ℕ) → PatFound depth ℓ → (s : List Token) → Low ℓ s → Read (FlatAt ℓ (λ us ps. Pats ℓ us ps)) s (separated (pattern depth) m.Comma (at ℓ s))
parts_found depth ℓ inner s low =
    separated_found (pattern depth) m.Comma ℓ (λ us p. Pat ℓ us p) (λ us ps. Pats ℓ us ps) _ _ (some_pattern ℓ) (λ us p h. g.Pats.last h) (λ us vs p ps sp h more. g.Pats.next sp h more) inner s low

make_found : (depth ℓ : ℕ) → PatFound depth (suc ℓ) → (s : List Token) → Low (suc ℓ) s → Read (BodyAt ℓ) s (pattern_make (pattern depth) (at (suc ℓ) s))
unfolding pattern_make pattern_parts
make_found depth ℓ inner s low =
    upper_then (BodyAt ℓ) (suc ℓ) s _ low (λ x s low.
    eat_found _ (suc ℓ) s m.LParen _ low
    (λ opens s low.
    read_then_flat (λ us ps. Pats (suc ℓ) us ps) _ (suc ℓ) s _ _ (parts_found depth (suc ℓ) inner s low) (λ ps s us found low.
    mark_then _ (suc ℓ) s m.RParen _ low (λ end s low.
    read_pure _ (suc ℓ) s _ low (refl, g.Pat.make x.text x.span opens end found))))
    (read_pure _ (suc ℓ) s _ low (refl, g.Pat.alone x.text x.span)))

no_body : (ℓ : ℕ) (s : List Token) → Read (BodyAt ℓ) s (Err Syntax, at (suc ℓ) s)
no_body ℓ s = read_refuse (BodyAt ℓ) (suc ℓ) (suc ℓ) s _ _ (refl, some_pattern ℓ)

body_found : (depth ℓ : ℕ) → PatFound depth (suc ℓ) → (s : List Token) → Low (suc ℓ) s → Read (BodyAt ℓ) s (pattern_body (pattern depth) (at (suc ℓ) s))
unfolding pattern_body
body_found depth ℓ inner [] low = no_body ℓ []
body_found depth ℓ inner (t ∷ ts) low = by t.kind where
  by : (kind : Kind) → let s : List Token = record { kind = kind; from = t.from; to = t.to } ∷ ts in Read (BodyAt ℓ) s (pattern_body (pattern depth) (at (suc ℓ) s))
  by (k.Number v) = word_found ℓ _ low
  by (k.Lower text) = variable_found ℓ _ low
  by (k.Upper text) = make_found depth ℓ inner _ low
  by (k.Mark m.Underscore) = any_found ℓ _ low
  by (k.Mark _) = no_body ℓ _
  by (k.Word w.KwTrue) = true_found ℓ _ low
  by (k.Word w.KwFalse) = false_found ℓ _ low
  by (k.Word _) = no_body ℓ _

no_pattern : (ℓ : ℕ) (s : List Token) → Read (FlatAt ℓ (λ us p. Pat ℓ us p)) s (Err Syntax, at ℓ s)
no_pattern ℓ s = read_refuse (FlatAt ℓ (λ us p. Pat ℓ us p)) ℓ ℓ s _ _ (refl, some_pattern ℓ)

-- the level goes back to what it was
leave_found : (ℓ : ℕ) (s : List Token) (o : Outcome Pattern) → ℓ ≤ max_level → Read (BodyAt ℓ) s o → Read (FlatAt ℓ (λ us p. Pat ℓ us p)) s (and_then o (λ found. leave ℓ >> pure found))
leave_found ℓ s (Ok a, new) low r = record { used = r.used; whole = r.whole; fits = r.fits; low = low_any ℓ new.rest low; read = (refl, r.read.1) }
leave_found ℓ s (Err Syntax, new) low r = record { used = r.used; more = r.more; top = ℓ; value = r.value; whole = r.whole; fits = r.fits; could = (refl, r.could.1) }
leave_found ℓ s (Err TooDeep, new) low r =
    record { used = r.used; over = r.over; after = r.after; more = r.more; top = ℓ; value = r.value; whole = r.whole; next = r.next; fits = r.fits; past = r.past; could = (refl, r.could.1) }
leave_found ℓ s (Err NoMemory, new) low r = r

-- a token that begins a pattern where no level is left
over_by : (ℓ : ℕ) (t : Token) (ts : List Token) (more : List Leveled) (p : Pattern) → ℓ ≡ max_level → Pat ℓ ((t, suc ℓ) ∷ more) p → Deep (FlatAt ℓ (λ us p. Pat ℓ us p)) (t ∷ ts) (at max_level (t ∷ ts))
over_by ℓ t ts more p full h =
    record { used = []; over = (t, suc ℓ); after = ts; more = more; top = ℓ; value = p; whole = refl; next = refl; fits = tt; past = omega arith; could = (refl, h) }

over_found : (ℓ : ℕ) (t : Token) (ts : List Token) → ℓ ≡ max_level → starts_pattern t.kind → Read (FlatAt ℓ (λ us p. Pat ℓ us p)) (t ∷ ts) (Err TooDeep, at max_level (t ∷ ts))
over_found ℓ t ts full begins = by t.kind begins where
  here : Span
  here = record { from = t.from; to = t.to }

  by : (kind : Kind) → starts_pattern kind → Read (FlatAt ℓ (λ us p. Pat ℓ us p)) (token kind here ∷ ts) (Err TooDeep, at max_level (token kind here ∷ ts))
  by (k.Number v) h = over_by ℓ _ ts _ _ full (g.Pat.word (g.literal v 0 here nowhere nowhere))
  by (k.Lower text) h = over_by ℓ _ ts _ _ full (g.bind text here)
  by (k.Upper text) h = over_by ℓ _ ts _ _ full (g.Pat.alone text here)
  by (k.Mark m.Underscore) h = over_by ℓ _ ts _ _ full (g.any here)
  by (k.Mark _) h = cc
  by (k.Word w.KwTrue) h = over_by ℓ _ ts _ _ full (g.Pat.true_flag here)
  by (k.Word w.KwFalse) h = over_by ℓ _ ts _ _ full (g.Pat.false_flag here)
  by (k.Word _) h = cc

pub pattern_found : (depth ℓ : ℕ) → max_level ≤ depth + ℓ → PatFound depth ℓ
unfolding pattern enter
pattern_found zero ℓ deep [] low = no_pattern ℓ []
pattern_found (suc depth) ℓ deep [] low = no_pattern ℓ []
pattern_found zero ℓ deep (t ∷ ts) low =
    elim (begins_pattern (Some t.kind)) as (λ b. begins_pattern (Some t.kind) ≡ b → Read (FlatAt ℓ (λ us p. Pat ℓ us p)) (t ∷ ts) (and_then (enter_if b (at ℓ (t ∷ ts))) (λ _. stop TooDeep))) [
      | true ↦ λ e. let full : ℓ ≡ max_level = omega arith in rw (rise_high ℓ (t ∷ ts) full) (over_found ℓ t ts full e)
      | false ↦ λ e. no_pattern ℓ (t ∷ ts)
    ] refl
pattern_found (suc depth) ℓ deep (t ∷ ts) low =
    elim (begins_pattern (Some t.kind)) as (λ b. begins_pattern (Some t.kind) ≡ b → Read (FlatAt ℓ (λ us p. Pat ℓ us p)) (t ∷ ts) (and_then (enter_if b (at ℓ (t ∷ ts))) (λ outer. pattern_body (pattern depth) >>= (λ found. leave outer >> pure found)))) [
      | true ↦ λ e. elim (low_or_top ℓ low) [
        | inl less ↦ rw (rise_low ℓ (t ∷ ts) less) (leave_found ℓ (t ∷ ts) (pattern_body (pattern depth) (at (suc ℓ) (t ∷ ts))) low
            (body_found depth ℓ (pattern_found depth (suc ℓ) (omega arith)) (t ∷ ts) (let fits : suc ℓ ≤ max_level = omega arith in fits)))
        | inr full ↦ rw (rise_high ℓ (t ∷ ts) full) (over_found ℓ t ts full e)
      ]
      | false ↦ λ e. no_pattern ℓ (t ∷ ts)
    ] refl
