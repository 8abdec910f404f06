-- Facts about derivations: how they begin, and how their levels rise.
use Rattle.std.proofs.Common.{◌≡◌, ℕ, suc, ◌≤◌, ◌<◌, List, [], ◌∷◌, ◌++◌, length, Bool, true, false, refl, arith}
use Rattle.std.specs.Prelude.{Some, ◌||◌}
use Rattle.syntax_lexer.specs.declared.token.Token.{Token}
use Rattle.syntax_lexer.specs.declared.token.Kind.{Kind}
use Rattle.syntax_lexer.specs.declared.token.Kind.TheVariants as k
use Rattle.syntax_lexer.specs.declared.token.Keyword.{Keyword}
use Rattle.syntax_lexer.specs.declared.token.Keyword.TheVariants as w
use Rattle.syntax_lexer.specs.declared.token.Mark.TheVariants as m
use Rattle.syntax_grammar.specs.declared.rules.Literal.{Literal}
use Rattle.syntax_grammar.specs.Tree.{Term as Expr, Pattern, Arm as ArmTree}
use Rattle.syntax_grammar.specs.Parsing.{Parser, begins_atom, begins_unary, begins_term, begins_pattern, is_mark, word_begins_atom, first_kind}
use Rattle.syntax_grammar.specs.TermRules.{body, at_precedence}
use Rattle.syntax_grammar.specs.Grammar.{Leveled, tokens_of, IsLiteral, Pat, Pats, Term, AtPrecedence, Unary, Post, Atom, Terms, Arm, Arms}
use Rattle.syntax_grammar.specs.Grammar as g
use Rattle.syntax_grammar.specs.Operators.{loosest}
use Rattle.syntax_grammar.specs.Tokens.{max_level, is_prefix, is_operation, is_cast}
use Rattle.syntax_parser.proofs.Cut.{at, Fits}

pub fits-append_left : (us vs : List Leveled) → Fits (us ++ vs) → Fits us
fits-append_left [] vs h = tt
fits-append_left (u ∷ us) vs h = (h.0, fits-append_left us vs h.1)

pub fits-append_right : (us vs : List Leveled) → Fits (us ++ vs) → Fits vs
fits-append_right [] vs h = h
fits-append_right (u ∷ us) vs h = fits-append_right us vs h.1

pub fits-append : (us vs : List Leveled) → Fits us → Fits vs → Fits (us ++ vs)
fits-append [] vs h i = i
fits-append (u ∷ us) vs h i = (h.0, fits-append us vs h.1 i)

-- ---- the level rises

pub post_rises : {ℓ top : ℕ} {us : List Leveled} {x : Expr} → Post ℓ top us x → ℓ ≤ top
post_rises (g.Post.atom a) = omega arith
post_rises (g.get s₁ s₂ x key) = omega (arith, post_rises x)
post_rises (g.put s₁ s₂ s₃ x key v) = omega (arith, post_rises x)

pub unary_rises : {ℓ top : ℕ} {us : List Leveled} {x : Expr} → Unary ℓ top us x → ℓ ≤ top
unary_rises (g.post a) = post_rises a
unary_rises (g.prefix kind s e a) = omega (arith, unary_rises a)

pub level_rises : {p ℓ top : ℕ} {us : List Leveled} {x : Expr} → AtPrecedence p ℓ top us x → ℓ ≤ top
level_rises (g.unary a) = unary_rises a
level_rises (g.one a) = level_rises a
level_rises (g.more kind s x e go y) = omega (arith, level_rises x, level_rises y)
level_rises (g.once kind s x e go y) = omega (arith, level_rises x, level_rises y)

pub post_fits : {ℓ top : ℕ} {us : List Leveled} {x : Expr} → Post ℓ top us x → ℓ ≤ max_level → Fits us → top ≤ max_level
post_fits (g.Post.atom a) low fits = low
post_fits (g.get s₁ s₂ {a = a} x key) low fits = let right = fits-append_right a _ fits in right.0
post_fits (g.put s₁ s₂ s₃ {a = a} x key v) low fits = let right = fits-append_right a _ fits in right.0

pub unary_fits : {ℓ top : ℕ} {us : List Leveled} {x : Expr} → Unary ℓ top us x → ℓ ≤ max_level → Fits us → top ≤ max_level
unary_fits (g.post a) low fits = post_fits a low fits
unary_fits (g.prefix kind s e a) low fits = unary_fits a fits.0 fits.1

pub level_fits : {p ℓ top : ℕ} {us : List Leveled} {x : Expr} → AtPrecedence p ℓ top us x → ℓ ≤ max_level → Fits us → top ≤ max_level
level_fits (g.unary a) low fits = unary_fits a low fits
level_fits (g.one a) low fits = level_fits a low fits
level_fits (g.more kind s {a = a} x e go y) low fits = let right = fits-append_right a _ fits in level_fits y right.0 right.1
level_fits (g.once kind s {a = a} x e go y) low fits = let right = fits-append_right a _ fits in level_fits y right.0 right.1

-- ---- the first token

abbrev pub starts_atom : Kind → Type 0
starts_atom kind = begins_atom (Some kind) ≡ true

abbrev pub starts_unary : Kind → Type 0
starts_unary kind = begins_unary (Some kind) ≡ true

abbrev pub starts_term : Kind → Type 0
starts_term kind = begins_term (Some kind) ≡ true

abbrev pub starts_pattern : Kind → Type 0
starts_pattern kind = begins_pattern (Some kind) ≡ true

abbrev pub Begins : (Kind → Type 0) → ℕ → List Leveled → Type 0
Begins P ℓ [] = ⊥
Begins P ℓ (u ∷ us) = P (u.0.kind) × (ℓ ≤ u.1)

pub begins-append : (P : Kind → Type 0) (ℓ : ℕ) (us vs : List Leveled) → Begins P ℓ us → Begins P ℓ (us ++ vs)
begins-append P ℓ [] vs h = absurd h
begins-append P ℓ (u ∷ us) vs h = h

pub begins_some : (P : Kind → Type 0) (ℓ : ℕ) (us : List Leveled) → Begins P ℓ us → 0 < length us
begins_some P ℓ [] h = absurd h
begins_some P ℓ (u ∷ us) h = omega arith

pub begins_weaker : (P Q : Kind → Type 0) → ((kind : Kind) → P kind → Q kind) → (ℓ : ℕ) (us : List Leveled) → Begins P ℓ us → Begins Q ℓ us
begins_weaker P Q go ℓ [] h = absurd h
begins_weaker P Q go ℓ (u ∷ us) h = (go u.0.kind h.0, h.1)

operation_starts : (op : Keyword) → is_operation op ≡ true → word_begins_atom op ≡ true
operation_starts w.KwTrue h = refl
operation_starts w.KwFalse h = refl
operation_starts w.KwMatch h = refl
operation_starts w.KwShl h = refl
operation_starts w.KwShru h = refl
operation_starts w.KwShrs h = refl
operation_starts w.KwRotl h = refl
operation_starts w.KwDivu h = refl
operation_starts w.KwDivs h = refl
operation_starts w.KwRemu h = refl
operation_starts w.KwRems h = refl
operation_starts w.KwMulhu h = refl
operation_starts w.KwMulhs h = refl
operation_starts w.KwLtu h = refl
operation_starts w.KwLeu h = refl
operation_starts w.KwLts h = refl
operation_starts w.KwLes h = refl
operation_starts _ h = cc

cast_starts : (op : Keyword) → is_cast op ≡ true → word_begins_atom op ≡ true
cast_starts w.KwZext h = refl
cast_starts w.KwSext h = refl
cast_starts w.KwTrunc h = refl
cast_starts _ h = cc

pub literal_begins : {ℓ : ℕ} {us : List Leveled} {l : Literal} (P : Kind → Type 0) → ((v : ℕ) → P (k.Number v)) → IsLiteral ℓ us l → Begins P ℓ us
literal_begins P number (g.literal v w s₁ s₂ s₃) = (number v, omega arith)

pub atom_begins : {ℓ : ℕ} {us : List Leveled} {x : Expr} → Atom ℓ us x → Begins starts_atom ℓ us
atom_begins (g.Atom.word l) = literal_begins starts_atom (λ v. refl) l
atom_begins (g.Atom.true_flag s) = (refl, omega arith)
atom_begins (g.Atom.false_flag s) = (refl, omega arith)
atom_begins (g.var text s) = (refl, omega arith)
atom_begins (g.call text s₁ s₂ s₃ x) = (refl, omega arith)
atom_begins (g.Atom.alone text s) = (refl, omega arith)
atom_begins (g.Atom.make text s₁ s₂ s₃ x) = (refl, omega arith)
atom_begins (g.operation op s₁ s₂ s₃ s₄ e x y) = (operation_starts op e, omega arith)
atom_begins (g.cast op v s₁ s₂ s₃ s₄ s₅ e x) = (cast_starts op e, omega arith)
atom_begins (g.match_on s₁ s₂ s₃ s₄ x arms) = (refl, omega arith)
atom_begins (g.paren s₁ s₂ x) = (refl, omega arith)

pub post_begins : {ℓ top : ℕ} {us : List Leveled} {x : Expr} → Post ℓ top us x → Begins starts_atom ℓ us
post_begins (g.Post.atom a) = atom_begins a
post_begins (g.get s₁ s₂ {a = a} x key) = begins-append starts_atom _ a _ (post_begins x)
post_begins (g.put s₁ s₂ s₃ {a = a} x key v) = begins-append starts_atom _ a _ (post_begins x)

-- a token that begins an atom begins a term
pub atom_unary : (kind : Kind) → starts_atom kind → starts_unary kind
atom_unary kind h = rw h refl

or_true : (b : Bool) → (b || true) ≡ true
or_true true = refl
or_true false = refl

pub prefix_unary : (kind : Kind) → is_prefix (Some kind) ≡ true → starts_unary kind
prefix_unary kind h = rw h (or_true (begins_atom (Some kind)))

pub unary_term : (kind : Kind) → starts_unary kind → starts_term kind
unary_term kind h = rw h refl

pub unary_begins : {ℓ top : ℕ} {us : List Leveled} {x : Expr} → Unary ℓ top us x → Begins starts_unary ℓ us
unary_begins (g.post {a = a} x) = begins_weaker starts_atom starts_unary atom_unary _ a (post_begins x)
unary_begins (g.prefix kind s e x) = (prefix_unary kind e, omega arith)

pub at_precedence_begins : {p ℓ top : ℕ} {us : List Leveled} {x : Expr} → AtPrecedence p ℓ top us x → Begins starts_unary ℓ us
at_precedence_begins (g.unary a) = unary_begins a
at_precedence_begins (g.one a) = at_precedence_begins a
at_precedence_begins (g.more kind s {a = a} x e go y) = begins-append starts_unary _ a _ (at_precedence_begins x)
at_precedence_begins (g.once kind s {a = a} x e go y) = begins-append starts_unary _ a _ (at_precedence_begins x)

pub term_begins : {ℓ : ℕ} {us : List Leveled} {x : Expr} → Term ℓ us x → Begins starts_term (suc ℓ) us
term_begins (g.let_in s₁ s₂ s₃ s₄ text a b) = (refl, omega arith)
term_begins (g.if_else s₁ s₂ s₃ a b d) = (refl, omega arith)
term_begins (g.operators {a = a} x) = begins_weaker starts_unary starts_term unary_term _ a (at_precedence_begins x)

pub terms_begin : {ℓ : ℕ} {us : List Leveled} {xs : List Expr} → Terms ℓ us xs → Begins starts_term (suc ℓ) us
terms_begin (g.Terms.last x) = term_begins x
terms_begin (g.Terms.next s {a = a} x xs) = begins-append starts_term _ a _ (term_begins x)

pub pat_begins : {ℓ : ℕ} {us : List Leveled} {p : Pattern} → Pat ℓ us p → Begins starts_pattern (suc ℓ) us
pat_begins (g.any s) = (refl, omega arith)
pat_begins (g.bind text s) = (refl, omega arith)
pat_begins (g.Pat.word l) = literal_begins starts_pattern (λ v. refl) l
pat_begins (g.Pat.true_flag s) = (refl, omega arith)
pat_begins (g.Pat.false_flag s) = (refl, omega arith)
pat_begins (g.Pat.alone text s) = (refl, omega arith)
pat_begins (g.Pat.make text s₁ s₂ s₃ ps) = (refl, omega arith)

pub arm_begins : {ℓ : ℕ} {us : List Leveled} {x : ArmTree} → Arm ℓ us x → Begins starts_pattern (suc ℓ) us
arm_begins (g.arm s₁ s₂ {a = a} p x) = begins-append starts_pattern _ a _ (pat_begins p)

-- ---- what a first token is not

pub term_no_close : (kind : Kind) → starts_term kind → is_mark m.RParen (Some kind) ≡ false
term_no_close (k.Mark m.RParen) h = cc
term_no_close (k.Mark _) h = refl
term_no_close (k.Number v) h = refl
term_no_close (k.Lower text) h = refl
term_no_close (k.Upper text) h = refl
term_no_close (k.Word w) h = refl

pub pattern_no_close : (kind : Kind) → starts_pattern kind → is_mark m.RBrace (Some kind) ≡ false
pattern_no_close (k.Mark m.RBrace) h = cc
pattern_no_close (k.Mark _) h = refl
pattern_no_close (k.Number v) h = refl
pattern_no_close (k.Lower text) h = refl
pattern_no_close (k.Upper text) h = refl
pattern_no_close (k.Word w) h = refl

-- a body that begins as an operand is no `let` and no `if`
pub body_level : (P : Parser Pattern) (T : Parser Expr) (ℓ l : ℕ) (us : List Leveled) (rest : List Token) → Begins starts_unary ℓ us
    → body P T (at l (tokens_of us ++ rest)) ≡ at_precedence P T loosest (at l (tokens_of us ++ rest))
unfolding body
body_level P T ℓ l [] rest h = absurd h
body_level P T ℓ l (u ∷ us) rest h = by u.0.kind h.0 where
  by : (kind : Kind) → starts_unary kind → body P T (at l (record { kind = kind; from = u.0.from; to = u.0.to } ∷ tokens_of us ++ rest)) ≡ at_precedence P T loosest (at l (record { kind = kind; from = u.0.from; to = u.0.to } ∷ tokens_of us ++ rest))
  by (k.Number v) h = refl
  by (k.Upper text) h = refl
  by (k.Lower text) h = refl
  by (k.Mark mark) h = refl
  by (k.Word w.KwLet) h = cc
  by (k.Word w.KwIf) h = cc
  by (k.Word _) h = refl

-- ---- atoms begin with no prefix operator

pub atom_no_prefix : (kind : Kind) → starts_atom kind → is_prefix (Some kind) ≡ false
atom_no_prefix (k.Mark m.Bang) h = cc
atom_no_prefix (k.Mark m.Tilde) h = cc
atom_no_prefix (k.Mark m.Minus) h = cc
atom_no_prefix (k.Mark _) h = refl
atom_no_prefix (k.Number v) h = refl
atom_no_prefix (k.Lower text) h = refl
atom_no_prefix (k.Upper text) h = refl
atom_no_prefix (k.Word w) h = refl

pub first_no_prefix : (ℓ : ℕ) (us : List Leveled) (rest : List Token) → Begins starts_atom ℓ us → is_prefix (first_kind (tokens_of us ++ rest)) ≡ false
first_no_prefix ℓ [] rest h = absurd h
first_no_prefix ℓ (u ∷ us) rest h = atom_no_prefix u.0.kind h.0
