-- The rules of terms read again what is spelled.
use Rattle.std.proofs.Common.{◌≡◌, ℕ, zero, suc, ◌≤◌, ◌<◌, ◌+◌, ◌-◌, true, false, List, [], ◌∷◌, ◌++◌, length, append-nil, length-append, refl, ap, sym, ◌∙◌, nat_le, inl, inr, arith}
use Rattle.std.specs.Prelude.{Ok, Some, if◌then◌else◌, ◌==◌}
use Rattle.std.proofs.lemmas.Bool.Decides.{nat_tests}
use Rattle.syntax_lexer.specs.declared.token.Token.{Token}
use Rattle.syntax_lexer.specs.declared.token.Kind.{Kind}
use Rattle.syntax_lexer.specs.declared.token.Kind.TheVariants as k
use Rattle.syntax_lexer.specs.declared.token.Mark.TheVariants as m
use Rattle.syntax_lexer.specs.declared.token.Keyword.{Keyword}
use Rattle.syntax_lexer.specs.declared.token.Keyword.TheVariants as w
use Rattle.syntax_grammar.specs.declared.tree.Span.{Span}
use Rattle.syntax_grammar.specs.declared.rules.Literal.{Literal}
use Rattle.syntax_grammar.specs.Tree.{Term as Expr, Pattern, Arm as ArmTree}
use Rattle.syntax_grammar.specs.Tree as e
use Rattle.syntax_grammar.specs.State.{At}
use Rattle.syntax_grammar.specs.Parsing.{Outcome, Parser, ◌>>◌, and_then, pure, first_kind, is_mark, is_word, leave, begins_term}
use Rattle.syntax_grammar.specs.Lists.{separated, separated_from, many, until_from}
use Rattle.syntax_grammar.specs.PatternRules.{pattern}
use Rattle.syntax_grammar.specs.TermRules.{term, body, let_in, if_else, at_precedence, chain_from, unary_from, post, index, indexes_from, atom, atom_by_word, word, flag, named, call, arguments, made, parts, operation, cast, arm, match_on, paren, max_turns}
use Rattle.syntax_grammar.specs.Grammar.{Leveled, tokens_of, token, IsLiteral, Pat, Term, AtPrecedence, Unary, Post, Atom, Arguments, Terms, Arm, Arms, name, num, mark, keyword, upper}
use Rattle.syntax_grammar.specs.Grammar as g
use Rattle.syntax_grammar.specs.Nodes.{let_of, if_of, binary_of, prefix_of, get_of, put_of, call_of, make_of, operation_of, cast_of, arm_of, match_of, paren_of}
use Rattle.syntax_grammar.specs.Operators.{binds, groups, operator, prefix_operator, loosest}
use Rattle.syntax_grammar.specs.Tokens.{max_level, is_prefix, is_operation, is_cast}
use Rattle.syntax_parser.proofs.Cut.{at, cut, Fits, tokens-append-rest, and_then-cut, cut-append, cut_under, by_fits}
use Rattle.syntax_parser.proofs.Derivations.{Begins, begins_some, starts_pattern, starts_term, term_begins, terms_begin, arm_begins, post_begins, at_precedence_begins, level_rises, level_fits, post_rises, post_fits, body_level, first_no_prefix, term_no_close, pattern_no_close}
use Rattle.syntax_parser.proofs.LevelsAgain.{low_or_top, rise_low, rise_high, enter_low, enter_high}
use Rattle.syntax_parser.proofs.Again.{Again, anything, again_then, again_next, again_pure, again_last, again_expect, again_word, again_number, again_lower, again_upper, again_eat, again_no, again_literal, not_mark, items_last, items_next, tokens_fewer, closes, until_end, until_next}
use Rattle.syntax_parser.proofs.PatternsAgain.{no_paren, pat_again}

-- ---- what may follow

-- no arguments and no key come
pub record Ended (rest : List Token) : Type 0 where
  pub no_call : no_paren rest
  pub no_key : not_mark m.LBracket rest

-- no operator of these precedences comes, no arguments and no key
pub record Loose (p : ℕ) (rest : List Token) : Type 0 where
  pub ended : Ended rest
  pub no_op : (q : ℕ) → 0 < q → q ≤ p → binds (first_kind rest) ≡ q → ⊥

pub loose_end : (p : ℕ) (rest : List Token) → binds (first_kind rest) ≡ 0 → no_paren rest → not_mark m.LBracket rest → Loose p rest
loose_end p rest none call key = record { ended = record { no_call = call; no_key = key }; no_op = λ q some le e. omega arith }

pub loose_less : (p q : ℕ) (rest : List Token) → q ≤ p → Loose p rest → Loose q rest
loose_less p q rest le l = record { ended = l.ended; no_op = λ r some less e. l.no_op r some (omega arith) e }

-- ---- what is shown of each kind of derivation

abbrev pub Reads : {A : Type 0} → (ℕ → Parser A) → ℕ → List Leveled → A → (List Token → Type 0) → Type 0
Reads p ℓ us x F = (depth : ℕ) → max_level ≤ depth + ℓ → ℓ ≤ max_level → Again (p depth) ℓ us x ℓ F

abbrev pub TermAgain : ℕ → List Leveled → Expr → Type 0
TermAgain ℓ us x = Reads term ℓ us x (Loose loosest)

abbrev pub AtomAgain : ℕ → List Leveled → Expr → Type 0
AtomAgain ℓ us x = Reads (λ depth. atom (pattern depth) (term depth)) ℓ us x no_paren

abbrev pub BodyAgain : ℕ → List Leveled → Expr → Type 0
BodyAgain ℓ us x = (depth : ℕ) → max_level ≤ depth + ℓ → 0 < ℓ → ℓ ≤ max_level → (top : ℕ) × Again (body (pattern depth) (term depth)) ℓ us x top (Loose loosest)

abbrev pub PrecedenceAgain : ℕ → ℕ → ℕ → List Leveled → Expr → Type 0
PrecedenceAgain p ℓ top us x = (depth : ℕ) → max_level ≤ depth + ℓ → 0 < ℓ → ℓ ≤ max_level → Again (at_precedence (pattern depth) (term depth) p) ℓ us x top (Loose p)

-- the operands are read up to a place where the chain goes on
abbrev pub ChainAgain : ℕ → ℕ → ℕ → List Leveled → Expr → Type 0
ChainAgain p ℓ top us x = (depth : ℕ) → max_level ≤ depth + ℓ → 0 < ℓ → ℓ ≤ max_level → (n : ℕ) × (max_turns + ℓ ≤ n + top) × ((rest : List Token) → Loose p rest
    → at_precedence (pattern depth) (term depth) (suc p) (at ℓ (tokens_of us ++ rest)) ≡ cut us rest (chain_from (at_precedence (pattern depth) (term depth) p) (suc p) n x (at top rest)))

-- operators that group are read as a chain
abbrev pub PrecedenceGoal : ℕ → ℕ → ℕ → List Leveled → Expr → Type 0
PrecedenceGoal zero ℓ top us x = PrecedenceAgain zero ℓ top us x
PrecedenceGoal (suc p) ℓ top us x = (groups (suc p) ≡ true → ChainAgain p ℓ top us x) × PrecedenceAgain (suc p) ℓ top us x

-- an operand is read up to a place where keys go on
abbrev pub PostAgain : ℕ → ℕ → List Leveled → Expr → Type 0
PostAgain ℓ top us x = (depth : ℕ) → max_level ≤ depth + ℓ → 0 < ℓ → ℓ ≤ max_level → (n : ℕ) × (max_turns + ℓ ≤ n + top) × ((rest : List Token) → no_paren rest
    → post (pattern depth) (term depth) (at ℓ (tokens_of us ++ rest)) ≡ cut us rest (indexes_from (term depth) n x (at top rest)))

abbrev pub UnaryAgain : ℕ → ℕ → List Leveled → Expr → Type 0
UnaryAgain ℓ top us x = (depth n : ℕ) → max_level ≤ depth + ℓ → 0 < ℓ → ℓ ≤ max_level → max_level < n + ℓ → Again (unary_from (pattern depth) (term depth) n) ℓ us x top Ended

abbrev pub stops : List Token → Type 0
stops rest = not_mark m.Comma rest × Loose loosest rest

abbrev pub TermsAgain : ℕ → List Leveled → List Expr → Type 0
TermsAgain ℓ us xs = (depth : ℕ) → max_level ≤ depth + ℓ → ℓ ≤ max_level → (n : ℕ) (found : List Expr) → length us ≤ n → Again (separated_from (term depth) m.Comma n found) ℓ us (found ++ xs) ℓ stops

abbrev pub closes_terms : List Token → Type 0
closes_terms rest = closes m.RParen rest × stops rest

abbrev pub ArgumentsAgain : ℕ → List Leveled → List Expr → Type 0
ArgumentsAgain ℓ us xs = Reads (λ depth. arguments (term depth)) ℓ us xs closes_terms

abbrev pub ArmAgain : ℕ → List Leveled → ArmTree → Type 0
ArmAgain ℓ us x = Reads (λ depth. arm (pattern depth) (term depth)) ℓ us x anything

abbrev pub ArmsAgain : ℕ → List Leveled → List ArmTree → Type 0
ArmsAgain ℓ us xs = Reads (λ depth. many (arm (pattern depth) (term depth)) m.RBrace) ℓ us xs (closes m.RBrace)

-- ---- atoms

atom_word : {ℓ : ℕ} {us : List Leveled} {l : Literal} → IsLiteral ℓ us l → AtomAgain ℓ us (e.Term.word l.v l.w l.span)
unfolding atom word
atom_word (g.literal v w s₁ s₂ s₃) depth deep low = record { again = λ rest ok. (again_last (λ (l : Literal). e.Term.word l.v l.w l.span) (again_literal low (g.literal v w s₁ s₂ s₃))).again rest tt }

atom_true : {ℓ : ℕ} (s : Span) → AtomAgain ℓ (keyword w.KwTrue s ℓ ∷ []) (e.Term.flag true s)
unfolding atom flag
atom_true {ℓ = ℓ} s depth deep low = record { again = λ rest ok. (again_last (λ s. e.Term.flag true s) (again_word w.KwTrue s ℓ low refl)).again rest tt }

atom_false : {ℓ : ℕ} (s : Span) → AtomAgain ℓ (keyword w.KwFalse s ℓ ∷ []) (e.Term.flag false s)
unfolding atom flag
atom_false {ℓ = ℓ} s depth deep low = record { again = λ rest ok. (again_last (λ s. e.Term.flag false s) (again_word w.KwFalse s ℓ low refl)).again rest tt }

in_var : (text : List ℕ) (s : Span) (ℓ : ℕ) (T : Parser Expr) → ℓ ≤ max_level → Again (named T) ℓ (g.lower text s ℓ ∷ []) (e.var (name text s)) ℓ no_paren
unfolding named
in_var text s ℓ T low = again_next _ (again_lower text s ℓ low) (again_then _ (again_no m.LParen ℓ) (λ rest ok. ok) (λ _. again_pure))

atom_var : {ℓ : ℕ} (text : List ℕ) (s : Span) → AtomAgain ℓ (g.lower text s ℓ ∷ []) (e.var (name text s))
unfolding atom
atom_var {ℓ = ℓ} text s depth deep low = record { again = λ rest ok. (in_var text s ℓ (term depth) low).again rest ok }

in_call : {ℓ : ℕ} (text : List ℕ) (s₁ s₂ s₃ : Span) (a : List Leveled) (xs : List Expr) → ArgumentsAgain ℓ a xs → (depth : ℕ) → max_level ≤ depth + ℓ → ℓ ≤ max_level
    → Again (named (term depth)) ℓ (g.lower text s₁ ℓ ∷ mark m.LParen s₂ ℓ ∷ (a ++ mark m.RParen s₃ ℓ ∷ [])) (call_of (name text s₁) xs s₃) ℓ anything
unfolding named call
in_call {ℓ = ℓ} text s₁ s₂ s₃ a xs inner depth deep low =
    again_next _ (again_lower text s₁ ℓ low)
    (again_next _ (again_eat m.LParen s₂ ℓ low refl)
    (again_then _ (inner depth deep low) (λ _ _. (refl, (refl, loose_end loosest _ refl refl refl))) (λ _.
    again_next _ (again_expect m.RParen s₃ ℓ low refl)
    again_pure)))

atom_call : {ℓ : ℕ} (text : List ℕ) (s₁ s₂ s₃ : Span) (a : List Leveled) (xs : List Expr) → ArgumentsAgain ℓ a xs
    → AtomAgain ℓ (g.lower text s₁ ℓ ∷ mark m.LParen s₂ ℓ ∷ (a ++ mark m.RParen s₃ ℓ ∷ [])) (call_of (name text s₁) xs s₃)
unfolding atom
atom_call text s₁ s₂ s₃ a xs inner depth deep low = record { again = λ rest ok. (in_call text s₁ s₂ s₃ a xs inner depth deep low).again rest tt }

in_alone : (text : List ℕ) (s : Span) (ℓ : ℕ) (T : Parser Expr) → ℓ ≤ max_level → Again (made T) ℓ (upper text s ℓ ∷ []) (e.Term.make (name text s) e.Terms.none s) ℓ no_paren
unfolding made
in_alone text s ℓ T low = again_next _ (again_upper text s ℓ low) (again_then _ (again_no m.LParen ℓ) (λ rest ok. ok) (λ _. again_pure))

atom_alone : {ℓ : ℕ} (text : List ℕ) (s : Span) → AtomAgain ℓ (upper text s ℓ ∷ []) (e.Term.make (name text s) e.Terms.none s)
unfolding atom
atom_alone {ℓ = ℓ} text s depth deep low = record { again = λ rest ok. (in_alone text s ℓ (term depth) low).again rest ok }

terms_list : {ℓ : ℕ} {us : List Leveled} {xs : List Expr} → TermsAgain ℓ us xs → (depth : ℕ) → max_level ≤ depth + ℓ → ℓ ≤ max_level → Again (separated (term depth) m.Comma) ℓ us xs ℓ stops
unfolding separated
terms_list {us = us} all depth deep low = record { again = λ rest ok. (all depth deep low (length (tokens_of us ++ rest)) [] (tokens_fewer us rest)).again rest ok }

in_make : {ℓ : ℕ} (text : List ℕ) (s₁ s₂ s₃ : Span) (a : List Leveled) (xs : List Expr) → TermsAgain ℓ a xs → (depth : ℕ) → max_level ≤ depth + ℓ → ℓ ≤ max_level
    → Again (made (term depth)) ℓ (upper text s₁ ℓ ∷ mark m.LParen s₂ ℓ ∷ (a ++ mark m.RParen s₃ ℓ ∷ [])) (make_of (name text s₁) xs s₃) ℓ anything
unfolding made parts
in_make {ℓ = ℓ} text s₁ s₂ s₃ a xs inner depth deep low =
    again_next _ (again_upper text s₁ ℓ low)
    (again_next _ (again_eat m.LParen s₂ ℓ low refl)
    (again_then _ (terms_list inner depth deep low) (λ _ _. (refl, loose_end loosest _ refl refl refl)) (λ _.
    again_next _ (again_expect m.RParen s₃ ℓ low refl)
    again_pure)))

atom_make : {ℓ : ℕ} (text : List ℕ) (s₁ s₂ s₃ : Span) (a : List Leveled) (xs : List Expr) → TermsAgain ℓ a xs
    → AtomAgain ℓ (upper text s₁ ℓ ∷ mark m.LParen s₂ ℓ ∷ (a ++ mark m.RParen s₃ ℓ ∷ [])) (make_of (name text s₁) xs s₃)
unfolding atom
atom_make text s₁ s₂ s₃ a xs inner depth deep low = record { again = λ rest ok. (in_make text s₁ s₂ s₃ a xs inner depth deep low).again rest tt }

-- a keyword is the keyword that it is
word_same : (op : Keyword) → is_word op (Some (k.Word op)) ≡ true
word_same w.KwType = refl
word_same w.KwMap = refl
word_same w.KwDefault = refl
word_same w.KwFun = refl
word_same w.KwLet = refl
word_same w.KwIn = refl
word_same w.KwIf = refl
word_same w.KwThen = refl
word_same w.KwElse = refl
word_same w.KwMatch = refl
word_same w.KwWith = refl
word_same w.KwTrue = refl
word_same w.KwFalse = refl
word_same w.KwDecode = refl
word_same w.KwWhen = refl
word_same w.KwShl = refl
word_same w.KwShru = refl
word_same w.KwShrs = refl
word_same w.KwRotl = refl
word_same w.KwDivu = refl
word_same w.KwDivs = refl
word_same w.KwRemu = refl
word_same w.KwRems = refl
word_same w.KwMulhu = refl
word_same w.KwMulhs = refl
word_same w.KwLtu = refl
word_same w.KwLeu = refl
word_same w.KwLts = refl
word_same w.KwLes = refl
word_same w.KwZext = refl
word_same w.KwSext = refl
word_same w.KwTrunc = refl

operation_by : (P : Parser Pattern) (T : Parser Expr) (op : Keyword) → is_operation op ≡ true → atom_by_word P T op ≡ operation T op
operation_by P T w.KwShl h = refl
operation_by P T w.KwShru h = refl
operation_by P T w.KwShrs h = refl
operation_by P T w.KwRotl h = refl
operation_by P T w.KwDivu h = refl
operation_by P T w.KwDivs h = refl
operation_by P T w.KwRemu h = refl
operation_by P T w.KwRems h = refl
operation_by P T w.KwMulhu h = refl
operation_by P T w.KwMulhs h = refl
operation_by P T w.KwLtu h = refl
operation_by P T w.KwLeu h = refl
operation_by P T w.KwLts h = refl
operation_by P T w.KwLes h = refl
operation_by P T _ h = cc

cast_by : (P : Parser Pattern) (T : Parser Expr) (op : Keyword) → is_cast op ≡ true → atom_by_word P T op ≡ cast T op
cast_by P T w.KwZext h = refl
cast_by P T w.KwSext h = refl
cast_by P T w.KwTrunc h = refl
cast_by P T _ h = cc

in_operation : {ℓ : ℕ} (op : Keyword) (s₁ s₂ s₃ s₄ : Span) (a b : List Leveled) (x y : Expr) → TermAgain ℓ a x → TermAgain ℓ b y → (depth : ℕ) → max_level ≤ depth + ℓ → ℓ ≤ max_level
    → Again (operation (term depth) op) ℓ (keyword op s₁ ℓ ∷ mark m.LParen s₂ ℓ ∷ (a ++ mark m.Comma s₃ ℓ ∷ (b ++ mark m.RParen s₄ ℓ ∷ []))) (operation_of op s₁ x y s₄) ℓ anything
unfolding operation
in_operation {ℓ = ℓ} op s₁ s₂ s₃ s₄ a b x y first second depth deep low =
    again_next _ (again_word op s₁ ℓ low (word_same op))
    (again_next _ (again_expect m.LParen s₂ ℓ low refl)
    (again_then _ (first depth deep low) (λ _ _. loose_end loosest _ refl refl refl) (λ _.
    again_next _ (again_expect m.Comma s₃ ℓ low refl)
    (again_then _ (second depth deep low) (λ _ _. loose_end loosest _ refl refl refl) (λ _.
    again_next _ (again_expect m.RParen s₄ ℓ low refl)
    again_pure)))))

atom_operation : {ℓ : ℕ} (op : Keyword) (s₁ s₂ s₃ s₄ : Span) (a b : List Leveled) (x y : Expr) → is_operation op ≡ true → TermAgain ℓ a x → TermAgain ℓ b y
    → AtomAgain ℓ (keyword op s₁ ℓ ∷ mark m.LParen s₂ ℓ ∷ (a ++ mark m.Comma s₃ ℓ ∷ (b ++ mark m.RParen s₄ ℓ ∷ []))) (operation_of op s₁ x y s₄)
unfolding atom
atom_operation op s₁ s₂ s₃ s₄ a b x y is first second depth deep low = record {
  again = λ rest ok. rw (operation_by (pattern depth) (term depth) op is) ((in_operation op s₁ s₂ s₃ s₄ a b x y first second depth deep low).again rest tt);
}

in_cast : {ℓ : ℕ} (op : Keyword) (v : ℕ) (s₁ s₂ s₃ s₄ s₅ : Span) (a : List Leveled) (x : Expr) → TermAgain ℓ a x → (depth : ℕ) → max_level ≤ depth + ℓ → ℓ ≤ max_level
    → Again (cast (term depth) op) ℓ (keyword op s₁ ℓ ∷ mark m.LParen s₂ ℓ ∷ (a ++ mark m.Comma s₃ ℓ ∷ g.number v s₄ ℓ ∷ mark m.RParen s₅ ℓ ∷ [])) (cast_of op s₁ x (num v s₄) s₅) ℓ anything
unfolding cast
in_cast {ℓ = ℓ} op v s₁ s₂ s₃ s₄ s₅ a x first depth deep low =
    again_next _ (again_word op s₁ ℓ low (word_same op))
    (again_next _ (again_expect m.LParen s₂ ℓ low refl)
    (again_then _ (first depth deep low) (λ _ _. loose_end loosest _ refl refl refl) (λ _.
    again_next _ (again_expect m.Comma s₃ ℓ low refl)
    (again_next _ (again_number v s₄ ℓ low)
    (again_next _ (again_expect m.RParen s₅ ℓ low refl)
    again_pure)))))

atom_cast : {ℓ : ℕ} (op : Keyword) (v : ℕ) (s₁ s₂ s₃ s₄ s₅ : Span) (a : List Leveled) (x : Expr) → is_cast op ≡ true → TermAgain ℓ a x
    → AtomAgain ℓ (keyword op s₁ ℓ ∷ mark m.LParen s₂ ℓ ∷ (a ++ mark m.Comma s₃ ℓ ∷ g.number v s₄ ℓ ∷ mark m.RParen s₅ ℓ ∷ [])) (cast_of op s₁ x (num v s₄) s₅)
unfolding atom
atom_cast op v s₁ s₂ s₃ s₄ s₅ a x is first depth deep low = record {
  again = λ rest ok. rw (cast_by (pattern depth) (term depth) op is) ((in_cast op v s₁ s₂ s₃ s₄ s₅ a x first depth deep low).again rest tt);
}

in_match : {ℓ : ℕ} (s₁ s₂ s₃ s₄ : Span) (a b : List Leveled) (x : Expr) (arms : List ArmTree) → TermAgain ℓ a x → ArmsAgain ℓ b arms → (depth : ℕ) → max_level ≤ depth + ℓ → ℓ ≤ max_level
    → Again (match_on (pattern depth) (term depth)) ℓ (keyword w.KwMatch s₁ ℓ ∷ (a ++ keyword w.KwWith s₂ ℓ ∷ mark m.LBrace s₃ ℓ ∷ (b ++ mark m.RBrace s₄ ℓ ∷ []))) (match_of s₁ x arms s₄) ℓ anything
unfolding match_on
in_match {ℓ = ℓ} s₁ s₂ s₃ s₄ a b x arms first all depth deep low =
    again_next _ (again_word w.KwMatch s₁ ℓ low refl)
    (again_then _ (first depth deep low) (λ _ _. loose_end loosest _ refl refl refl) (λ _.
    again_next _ (again_word w.KwWith s₂ ℓ low refl)
    (again_next _ (again_expect m.LBrace s₃ ℓ low refl)
    (again_then _ (all depth deep low) (λ _ _. refl) (λ _.
    again_next _ (again_expect m.RBrace s₄ ℓ low refl)
    again_pure)))))

atom_match : {ℓ : ℕ} (s₁ s₂ s₃ s₄ : Span) (a b : List Leveled) (x : Expr) (arms : List ArmTree) → TermAgain ℓ a x → ArmsAgain ℓ b arms
    → AtomAgain ℓ (keyword w.KwMatch s₁ ℓ ∷ (a ++ keyword w.KwWith s₂ ℓ ∷ mark m.LBrace s₃ ℓ ∷ (b ++ mark m.RBrace s₄ ℓ ∷ []))) (match_of s₁ x arms s₄)
unfolding atom
atom_match s₁ s₂ s₃ s₄ a b x arms first all depth deep low = record { again = λ rest ok. (in_match s₁ s₂ s₃ s₄ a b x arms first all depth deep low).again rest tt }

in_paren : {ℓ : ℕ} (s₁ s₂ : Span) (a : List Leveled) (x : Expr) → TermAgain ℓ a x → (depth : ℕ) → max_level ≤ depth + ℓ → ℓ ≤ max_level
    → Again (paren (term depth)) ℓ (mark m.LParen s₁ ℓ ∷ (a ++ mark m.RParen s₂ ℓ ∷ [])) (paren_of s₁ x s₂) ℓ anything
unfolding paren
in_paren {ℓ = ℓ} s₁ s₂ a x inner depth deep low =
    again_next _ (again_expect m.LParen s₁ ℓ low refl)
    (again_then _ (inner depth deep low) (λ _ _. loose_end loosest _ refl refl refl) (λ _.
    again_next _ (again_expect m.RParen s₂ ℓ low refl)
    again_pure))

atom_paren : {ℓ : ℕ} (s₁ s₂ : Span) (a : List Leveled) (x : Expr) → TermAgain ℓ a x → AtomAgain ℓ (mark m.LParen s₁ ℓ ∷ (a ++ mark m.RParen s₂ ℓ ∷ [])) (paren_of s₁ x s₂)
unfolding atom
atom_paren s₁ s₂ a x inner depth deep low = record { again = λ rest ok. (in_paren s₁ s₂ a x inner depth deep low).again rest tt }

-- ---- lists in atoms

no_arguments : {ℓ : ℕ} → ArgumentsAgain ℓ [] []
unfolding arguments
no_arguments depth deep low = record { again = λ rest ok. rw ok.0 refl }

list_open : (ℓ : ℕ) (us : List Leveled) (rest : List Token) → Begins starts_term ℓ us → is_mark m.RParen (first_kind (tokens_of us ++ rest)) ≡ false
list_open ℓ [] rest h = absurd h
list_open ℓ (u ∷ us) rest h = term_no_close u.0.kind h.0

some_arguments : {ℓ : ℕ} {us : List Leveled} {xs : List Expr} → Terms ℓ us xs → TermsAgain ℓ us xs → ArgumentsAgain ℓ us xs
unfolding arguments
some_arguments {ℓ = ℓ} {us = us} read all depth deep low = record {
  again = λ rest ok. rw (list_open (suc ℓ) us rest (terms_begin read)) ((terms_list all depth deep low).again rest ok.1);
}

in_arm : {ℓ : ℕ} (s₁ s₂ : Span) {a b : List Leveled} {p : Pattern} {x : Expr} → Pat ℓ a p → TermAgain ℓ b x → ArmAgain ℓ (a ++ mark m.FatArrow s₁ ℓ ∷ (b ++ mark m.Semi s₂ ℓ ∷ [])) (arm_of p x s₂)
unfolding arm
in_arm {ℓ = ℓ} s₁ s₂ p x depth deep low =
    again_then _ (pat_again p depth deep low) (λ _ _. refl) (λ _.
    again_next _ (again_expect m.FatArrow s₁ ℓ low refl)
    (again_then _ (x depth deep low) (λ _ _. loose_end loosest _ refl refl refl) (λ _.
    again_next _ (again_expect m.Semi s₂ ℓ low refl)
    again_pure)))

arm_open : (ℓ : ℕ) (us : List Leveled) (rest : List Token) → Begins starts_pattern ℓ us → not_mark m.RBrace (tokens_of us ++ rest)
arm_open ℓ [] rest h = absurd h
arm_open ℓ (u ∷ us) rest h = pattern_no_close u.0.kind h.0

-- more arms, up to the closing mark
abbrev MoreArms : ℕ → List Leveled → List ArmTree → Type 0
MoreArms ℓ us xs = (depth : ℕ) → max_level ≤ depth + ℓ → ℓ ≤ max_level → (n : ℕ) (found : List ArmTree) → length us < n → Again (until_from (arm (pattern depth) (term depth)) m.RBrace n found) ℓ us (found ++ xs) ℓ (closes m.RBrace)

no_more_arms : {ℓ : ℕ} → MoreArms ℓ [] []
no_more_arms depth deep low n found turns = rw (append-nil found) (until_end (arm (pattern depth) (term depth)) m.RBrace n found (omega arith))

more_arms : {ℓ : ℕ} {us vs : List Leveled} {x : ArmTree} {xs : List ArmTree} → Arm ℓ us x → ArmAgain ℓ us x → MoreArms ℓ vs xs → MoreArms ℓ (us ++ vs) (x ∷ xs)
more_arms {ℓ = ℓ} {us = us} {vs = vs} read one more depth deep low zero found turns = absurd (omega arith)
more_arms {ℓ = ℓ} {us = us} {vs = vs} {x = x} {xs = xs} read one more depth deep low (suc n) found turns =
    let fewer : length vs < n = (let some = begins_some starts_pattern (suc ℓ) us (arm_begins read) in omega (arith, length-append us vs)) in
    until_next (arm (pattern depth) (term depth)) m.RBrace xs (λ rest. arm_open (suc ℓ) us rest (arm_begins read)) (one depth deep low) n found (more depth deep low n (found ++ x ∷ []) fewer)

first_arm : {ℓ : ℕ} {us vs : List Leveled} {x : ArmTree} {xs : List ArmTree} → ArmAgain ℓ us x → MoreArms ℓ vs xs → ArmsAgain ℓ (us ++ vs) (x ∷ xs)
unfolding many
first_arm {vs = vs} {x = x} one more depth deep low =
    again_next _ (one depth deep low) (record { again = λ rest ok. (more depth deep low (length (tokens_of vs ++ rest)) (x ∷ []) (by vs rest ok)).again rest ok }) where
      by : (vs : List Leveled) (rest : List Token) → closes m.RBrace rest → length vs < length (tokens_of vs ++ rest)
      by [] [] ok = cc
      by [] (t ∷ ts) ok = omega arith
      by (v ∷ vs) rest ok = let less = by vs rest ok in omega arith

-- ---- keys

in_index_get : {ℓ : ℕ} (s₂ : Span) (b : List Leveled) (x key : Expr) → TermAgain ℓ b key → (depth : ℕ) → max_level ≤ depth + ℓ → ℓ ≤ max_level
    → Again (index (term depth) x) ℓ (b ++ mark m.RBracket s₂ ℓ ∷ []) (get_of x key s₂) ℓ anything
unfolding index
in_index_get {ℓ = ℓ} s₂ b x key inner depth deep low =
    again_then _ (inner depth deep low) (λ _ _. loose_end loosest _ refl refl refl) (λ _.
    again_then _ (again_no m.Assign ℓ) (λ _ _. refl) (λ _.
    again_next _ (again_expect m.RBracket s₂ ℓ low refl)
    again_pure))

in_index_put : {ℓ : ℕ} (s₂ s₃ : Span) (b d : List Leveled) (x key v : Expr) → TermAgain ℓ b key → TermAgain ℓ d v → (depth : ℕ) → max_level ≤ depth + ℓ → ℓ ≤ max_level
    → Again (index (term depth) x) ℓ (b ++ mark m.Assign s₂ ℓ ∷ (d ++ mark m.RBracket s₃ ℓ ∷ [])) (put_of x key v s₃) ℓ anything
unfolding index
in_index_put {ℓ = ℓ} s₂ s₃ b d x key v inner value depth deep low =
    again_then _ (inner depth deep low) (λ _ _. loose_end loosest _ refl refl refl) (λ _.
    again_next _ (again_eat m.Assign s₂ ℓ low refl)
    (again_then _ (value depth deep low) (λ _ _. loose_end loosest _ refl refl refl) (λ _.
    again_next _ (again_expect m.RBracket s₃ ℓ low refl)
    again_pure)))

post_atom : {ℓ : ℕ} {a : List Leveled} {x : Expr} → AtomAgain ℓ a x → PostAgain ℓ ℓ a x
unfolding post
post_atom {ℓ = ℓ} {a = a} {x = x} first depth deep some low = (
  max_turns,
  omega arith,
  λ rest ok.
      ap (λ o. and_then o (indexes_from (term depth) max_turns)) ((first depth deep low).again rest ok)
      ∙ and_then-cut a rest (Ok x, at ℓ rest) (indexes_from (term depth) max_turns),
)

-- one key more: us are the tokens after the mark
one_key : (T : Parser Expr) {mid : ℕ} (s : Span) (us : List Leveled) (x y : Expr) (n : ℕ) → mid ≤ max_level → (suc mid ≤ max_level → Again (index T x) (suc mid) us y (suc mid) anything) → (rest : List Token)
    → indexes_from T (suc n) x (at mid (token (k.Mark m.LBracket) s ∷ tokens_of us ++ rest)) ≡ cut (mark m.LBracket s (suc mid) ∷ us) rest (indexes_from T n y (at (suc mid) rest))
unfolding indexes_from
one_key T {mid = mid} s us x y n low inner rest = elim (low_or_top mid low) [
  | inl less ↦ let fits : nat_le (suc mid) max_level ≡ true = by_fits (suc mid) (omega arith) in
      rw (rise_low mid (token (k.Mark m.LBracket) s ∷ tokens_of us ++ rest) less, fits)
      (ap (λ o. and_then o (λ y. indexes_from T n y)) ((inner (omega arith)).again rest tt)
      ∙ and_then-cut us rest (Ok y, at (suc mid) rest) (λ y. indexes_from T n y))
  | inr full ↦ rw (rise_high mid (token (k.Mark m.LBracket) s ∷ tokens_of us ++ rest) full, full) refl
]

post_key : {ℓ mid : ℕ} (s : Span) {a : List Leveled} (us : List Leveled) {x y : Expr} → Post ℓ mid a x → PostAgain ℓ mid a x → ((depth : ℕ) → max_level ≤ depth + suc mid → suc mid ≤ max_level → Again (index (term depth) x) (suc mid) us y (suc mid) anything)
    → PostAgain ℓ (suc mid) (a ++ mark m.LBracket s (suc mid) ∷ us) y
post_key {ℓ = ℓ} {mid = mid} s {a = a} us {x = x} {y = y} read first inner depth deep some low =
    let so_far = first depth deep some low in
    let enough : max_turns + ℓ ≤ so_far.0 + mid = so_far.1 in (
      so_far.0 - 1,
      omega arith,
      λ rest ok.
          let vs : List Leveled = mark m.LBracket s (suc mid) ∷ us in
          let end : Outcome Expr = indexes_from (term depth) (so_far.0 - 1) y (at (suc mid) rest) in
          ap (λ ts. post (pattern depth) (term depth) (at ℓ ts)) (tokens-append-rest a vs rest)
          ∙ so_far.2 (tokens_of vs ++ rest) refl
          ∙ cut_under a (tokens_of vs ++ rest) (indexes_from (term depth) so_far.0 x (at mid (tokens_of vs ++ rest))) (cut vs rest end)
          (λ fits.
          let mid_fits : mid ≤ max_level = post_fits read low fits in
          let base : ℓ ≤ mid = post_rises read in
          let turns : so_far.0 ≡ suc (so_far.0 - 1) = omega arith in
          ap (λ n. indexes_from (term depth) n x (at mid (tokens_of vs ++ rest))) turns
          ∙ one_key (term depth) s us x y (so_far.0 - 1) mid_fits (λ fit. inner depth (omega arith) fit) rest)
          ∙ sym (cut-append a vs rest end),
    )

no_more_keys : (T : Parser Expr) (n : ℕ) (x : Expr) (top : ℕ) (rest : List Token) → not_mark m.LBracket rest → indexes_from T (suc n) x (at top rest) ≡ (Ok x, at top rest)
unfolding indexes_from
no_more_keys T n x top rest h = rw h refl

post_reads : {ℓ top : ℕ} {a : List Leveled} {x : Expr} → Post ℓ top a x → PostAgain ℓ top a x → (depth : ℕ) → max_level ≤ depth + ℓ → 0 < ℓ → ℓ ≤ max_level → Again (post (pattern depth) (term depth)) ℓ a x top Ended
post_reads {ℓ = ℓ} {top = top} {a = a} {x = x} read all depth deep some low =
    let chain = all depth deep some low in
    let enough : max_turns + ℓ ≤ chain.0 + top = chain.1 in
    record {
      again = λ rest ok.
          chain.2 rest ok.no_call
          ∙ cut_under a rest (indexes_from (term depth) chain.0 x (at top rest)) (Ok x, at top rest)
          (λ fits.
          let top_fits : top ≤ max_level = post_fits read low fits in
          let turns : chain.0 ≡ suc (chain.0 - 1) = omega arith in
          ap (λ n. indexes_from (term depth) n x (at top rest)) turns ∙ no_more_keys (term depth) (chain.0 - 1) x top rest ok.no_key);
    }

-- ---- prefix operators

unary_post : {ℓ top : ℕ} {a : List Leveled} {x : Expr} → Post ℓ top a x → PostAgain ℓ top a x → UnaryAgain ℓ top a x
unfolding unary_from
unary_post read all depth zero deep some low turns = absurd (omega arith)
unary_post {ℓ = ℓ} {a = a} read all depth (suc n) deep some low turns =
    record { again = λ rest ok. rw (first_no_prefix ℓ a rest (post_begins read)) ((post_reads read all depth deep some low).again rest ok) }

unary_prefix : {ℓ top : ℕ} (kind : Kind) (s : Span) {a : List Leveled} {x : Expr} → is_prefix (Some kind) ≡ true → UnaryAgain (suc ℓ) top a x
    → UnaryAgain ℓ top ((token kind s, suc ℓ) ∷ a) (prefix_of (prefix_operator (Some kind)) s x)
unfolding unary_from
unary_prefix kind s is inner depth zero deep some low turns = absurd (omega arith)
unary_prefix {ℓ = ℓ} {top = top} kind s {a = a} {x = x} is inner depth (suc n) deep some low turns = record {
  again = λ rest ok. elim (low_or_top ℓ low) [
    | inl less ↦ let fits : nat_le (suc ℓ) max_level ≡ true = by_fits (suc ℓ) (omega arith) in
        rw (is, rise_low ℓ (token kind s ∷ tokens_of a ++ rest) less, fits)
        (ap (λ o. and_then o (λ x. pure (prefix_of (prefix_operator (Some kind)) s x))) ((inner depth n (omega arith) (omega arith) (omega arith) (omega arith)).again rest ok)
        ∙ and_then-cut a rest (Ok x, at top rest) (λ x. pure (prefix_of (prefix_operator (Some kind)) s x)))
    | inr full ↦ rw (is, rise_high ℓ (token kind s ∷ tokens_of a ++ rest) full, full) refl
  ];
}

-- ---- chains of operators

pub same_nat : (n : ℕ) → (n == n) ≡ true
same_nat n = grind (arith, nat_tests)

pub other_nat : (n q : ℕ) → (n ≡ q → ⊥) → (n == q) ≡ false
other_nat n q h = elim (n == q) as (λ b. (n == q) ≡ b → b ≡ false) [ true ↦ λ e. absurd (h (grind (arith, nat_tests))) | false ↦ λ e. refl ] refl

op_no_paren : (kind : Kind) (p : ℕ) → binds (Some kind) ≡ suc p → is_mark m.LParen (Some kind) ≡ false
op_no_paren (k.Mark m.LParen) p h = absurd (omega arith)
op_no_paren (k.Mark _) p h = refl
op_no_paren (k.Number v) p h = refl
op_no_paren (k.Upper text) p h = refl
op_no_paren (k.Lower text) p h = refl
op_no_paren (k.Word w) p h = refl

op_no_key : (kind : Kind) (p : ℕ) → binds (Some kind) ≡ suc p → is_mark m.LBracket (Some kind) ≡ false
op_no_key (k.Mark m.LBracket) p h = absurd (omega arith)
op_no_key (k.Mark _) p h = refl
op_no_key (k.Number v) p h = refl
op_no_key (k.Upper text) p h = refl
op_no_key (k.Lower text) p h = refl
op_no_key (k.Word w) p h = refl

op_loose : (kind : Kind) (s : Span) (p : ℕ) (rest : List Token) → binds (Some kind) ≡ suc p → Loose p (token kind s ∷ rest)
op_loose kind s p rest h = record { ended = record { no_call = op_no_paren kind p h; no_key = op_no_key kind p h }; no_op = λ q some le e. omega arith }

chain_one : {p ℓ top : ℕ} {a : List Leveled} {x : Expr} → ℓ ≤ top → PrecedenceAgain p ℓ top a x → ChainAgain p ℓ top a x
unfolding at_precedence
chain_one {p = p} {top = top} {a = a} {x = x} rises first depth deep some low = (
  max_turns,
  omega arith,
  λ rest loose.
      ap (λ o. and_then o (chain_from (at_precedence (pattern depth) (term depth) p) (suc p) max_turns)) ((first depth deep some low).again rest loose)
      ∙ and_then-cut a rest (Ok x, at top rest) (chain_from (at_precedence (pattern depth) (term depth) p) (suc p) max_turns),
)

-- what a chain does after an operator and its operand
abbrev after_op : Parser Expr → ℕ → ℕ → Expr → Parser Expr
after_op operand prec n y = if groups prec then chain_from operand prec n y else pure y

-- one operator more
one_more_op : (operand : Parser Expr) (p : ℕ) {mid top : ℕ} (kind : Kind) (s : Span) (b : List Leveled) (x y : Expr) (n : ℕ) → binds (Some kind) ≡ suc p → mid ≤ max_level
    → (suc mid ≤ max_level → Again operand (suc mid) b y top (Loose p)) → (rest : List Token) → Loose p rest
    → chain_from operand (suc p) (suc n) x (at mid (token kind s ∷ tokens_of b ++ rest))
    ≡ cut ((token kind s, suc mid) ∷ b) rest (after_op operand (suc p) n (binary_of (operator (Some kind)) x y) (at top rest))
unfolding chain_from
one_more_op operand p {mid = mid} {top = top} kind s b x y n e low second rest loose = rw (e, same_nat (suc p)) (elim (low_or_top mid low) [
  | inl less ↦ let fits : nat_le (suc mid) max_level ≡ true = by_fits (suc mid) (omega arith) in
      rw (rise_low mid (token kind s ∷ tokens_of b ++ rest) less, fits)
      (ap (λ o. and_then o (λ right. after_op operand (suc p) n (binary_of (operator (Some kind)) x right))) ((second (omega arith)).again rest loose)
      ∙ and_then-cut b rest (Ok y, at top rest) (λ right. after_op operand (suc p) n (binary_of (operator (Some kind)) x right)))
  | inr full ↦ rw (rise_high mid (token kind s ∷ tokens_of b ++ rest) full, full) refl
])

grouped : (operand : Parser Expr) (prec n : ℕ) (y : Expr) (a : At) → groups prec ≡ true → after_op operand prec n y a ≡ chain_from operand prec n y a
grouped operand prec n y a h = rw h refl

alone : (operand : Parser Expr) (prec n : ℕ) (y : Expr) (a : At) → groups prec ≡ false → after_op operand prec n y a ≡ (Ok y, a)
alone operand prec n y a h = rw h refl

chain_more : {p ℓ mid top : ℕ} (kind : Kind) (s : Span) {a b : List Leveled} {x y : Expr} → AtPrecedence (suc p) ℓ mid a x → ChainAgain p ℓ mid a x → binds (Some kind) ≡ suc p → groups (suc p) ≡ true → suc mid ≤ top → PrecedenceAgain p (suc mid) top b y
    → ChainAgain p ℓ top (a ++ (token kind s, suc mid) ∷ b) (binary_of (operator (Some kind)) x y)
chain_more {p = p} {ℓ = ℓ} {mid = mid} {top = top} kind s {a = a} {b = b} {x = x} {y = y} read first e group rises second depth deep some low =
    let so_far = first depth deep some low in
    let operand : Parser Expr = at_precedence (pattern depth) (term depth) p in
    let enough : max_turns + ℓ ≤ so_far.0 + mid = so_far.1 in (
      so_far.0 - 1,
      omega arith,
      λ rest loose.
          let us : List Leveled = (token kind s, suc mid) ∷ b in
          let made : Expr = binary_of (operator (Some kind)) x y in
          let end : Outcome Expr = chain_from operand (suc p) (so_far.0 - 1) made (at top rest) in
          ap (λ ts. at_precedence (pattern depth) (term depth) (suc p) (at ℓ ts)) (tokens-append-rest a us rest)
          ∙ so_far.2 (tokens_of us ++ rest) (op_loose kind s p (tokens_of b ++ rest) e)
          ∙ cut_under a (tokens_of us ++ rest) (chain_from operand (suc p) so_far.0 x (at mid (tokens_of us ++ rest))) (cut us rest end)
          (λ fits.
          let mid_fits : mid ≤ max_level = level_fits read low fits in
          let base : ℓ ≤ mid = level_rises read in
          let turns : so_far.0 ≡ suc (so_far.0 - 1) = omega arith in
          ap (λ n. chain_from operand (suc p) n x (at mid (tokens_of us ++ rest))) turns
          ∙ one_more_op operand p kind s b x y (so_far.0 - 1) e mid_fits (λ fit. second depth (omega arith) (omega arith) fit) rest loose
          ∙ ap (λ o. cut us rest o) (grouped operand (suc p) (so_far.0 - 1) made (at top rest) group))
          ∙ sym (cut-append a us rest end),
    )

no_more_ops : (operand : Parser Expr) (p n : ℕ) (x : Expr) (top : ℕ) (rest : List Token) → Loose (suc p) rest → chain_from operand (suc p) (suc n) x (at top rest) ≡ (Ok x, at top rest)
unfolding chain_from
no_more_ops operand p n x top rest h = rw (other_nat (binds (first_kind rest)) (suc p) (λ e. h.no_op (suc p) (omega arith) (omega arith) e)) refl

-- a chain ends where no operator comes
chain_ends : {p ℓ top : ℕ} {a : List Leveled} {x : Expr} → (ℓ ≤ max_level → Fits a → top ≤ max_level) → ChainAgain p ℓ top a x → PrecedenceAgain (suc p) ℓ top a x
chain_ends {p = p} {ℓ = ℓ} {top = top} {a = a} {x = x} fitting all depth deep some low =
    let chain = all depth deep some low in
    let operand : Parser Expr = at_precedence (pattern depth) (term depth) p in
    let enough : max_turns + ℓ ≤ chain.0 + top = chain.1 in
    record {
      again = λ rest loose.
          chain.2 rest (loose_less (suc p) p rest (omega arith) loose)
          ∙ cut_under a rest (chain_from operand (suc p) chain.0 x (at top rest)) (Ok x, at top rest)
          (λ fits.
          let top_fits : top ≤ max_level = fitting low fits in
          let turns : chain.0 ≡ suc (chain.0 - 1) = omega arith in
          ap (λ n. chain_from operand (suc p) n x (at top rest)) turns ∙ no_more_ops operand p (chain.0 - 1) x top rest loose);
    }

level_goal : {ℓ top : ℕ} {a : List Leveled} {x : Expr} (p : ℕ) → PrecedenceGoal p ℓ top a x → PrecedenceAgain p ℓ top a x
level_goal zero all = all
level_goal (suc p) all = all.1

goal_one : {p ℓ top : ℕ} {a : List Leveled} {x : Expr} → AtPrecedence p ℓ top a x → PrecedenceAgain p ℓ top a x → PrecedenceGoal (suc p) ℓ top a x
goal_one {p = p} read first =
    let chain = chain_one {p = p} (level_rises read) first in
    (λ _. chain, chain_ends (λ low fits. level_fits read low fits) chain)

goal_more : {p ℓ mid top : ℕ} (kind : Kind) (s : Span) {a b : List Leveled} {x y : Expr} → AtPrecedence (suc p) ℓ mid a x → PrecedenceGoal (suc p) ℓ mid a x → binds (Some kind) ≡ suc p → groups (suc p) ≡ true → AtPrecedence p (suc mid) top b y → PrecedenceAgain p (suc mid) top b y
    → PrecedenceGoal (suc p) ℓ top (a ++ (token kind s, suc mid) ∷ b) (binary_of (operator (Some kind)) x y)
goal_more {p = p} kind s first all e group second more =
    let chain = chain_more kind s first (all.0 group) e group (level_rises second) more in
    (λ _. chain, chain_ends (λ low fits. level_fits (g.more kind s first e group second) low fits) chain)

-- an operator that stands alone
once_again : {p ℓ mid top : ℕ} (kind : Kind) (s : Span) {a b : List Leveled} {x y : Expr} → AtPrecedence p ℓ mid a x → PrecedenceAgain p ℓ mid a x → binds (Some kind) ≡ suc p → groups (suc p) ≡ false → PrecedenceAgain p (suc mid) top b y
    → PrecedenceAgain (suc p) ℓ top (a ++ (token kind s, suc mid) ∷ b) (binary_of (operator (Some kind)) x y)
unfolding at_precedence
once_again {p = p} {ℓ = ℓ} {mid = mid} {top = top} kind s {a = a} {b = b} {x = x} {y = y} read first e single second depth deep some low =
    let operand : Parser Expr = at_precedence (pattern depth) (term depth) p in
    let made : Expr = binary_of (operator (Some kind)) x y in
    let us : List Leveled = (token kind s, suc mid) ∷ b in
    record {
      again = λ rest loose.
          let less : Loose p rest = loose_less (suc p) p rest (omega arith) loose in
          ap (λ ts. and_then (operand (at ℓ ts)) (chain_from operand (suc p) max_turns)) (tokens-append-rest a us rest)
          ∙ ap (λ o. and_then o (chain_from operand (suc p) max_turns)) ((first depth deep some low).again (tokens_of us ++ rest) (op_loose kind s p (tokens_of b ++ rest) e))
          ∙ and_then-cut a (tokens_of us ++ rest) (Ok x, at mid (tokens_of us ++ rest)) (chain_from operand (suc p) max_turns)
          ∙ cut_under a (tokens_of us ++ rest) (chain_from operand (suc p) max_turns x (at mid (tokens_of us ++ rest))) (cut us rest (Ok made, at top rest))
          (λ fits.
          let mid_fits : mid ≤ max_level = level_fits read low fits in
          let base : ℓ ≤ mid = level_rises read in
          one_more_op operand p kind s b x y 256 e mid_fits (λ fit. second depth (omega arith) (omega arith) fit) rest less
          ∙ ap (λ o. cut us rest o) (alone operand (suc p) 256 made (at top rest) single))
          ∙ sym (cut-append a us rest (Ok made, at top rest));
    }

goal_once : {p ℓ mid top : ℕ} (kind : Kind) (s : Span) {a b : List Leveled} {x y : Expr} → AtPrecedence p ℓ mid a x → PrecedenceAgain p ℓ mid a x → binds (Some kind) ≡ suc p → groups (suc p) ≡ false → PrecedenceAgain p (suc mid) top b y
    → PrecedenceGoal (suc p) ℓ top (a ++ (token kind s, suc mid) ∷ b) (binary_of (operator (Some kind)) x y)
goal_once {p = p} kind s read first e single second = (λ group. absurd (let no : true ≡ false = sym group ∙ single in cc), once_again kind s read first e single second)

level_unary : {ℓ top : ℕ} {a : List Leveled} {x : Expr} → UnaryAgain ℓ top a x → PrecedenceAgain zero ℓ top a x
unfolding at_precedence
level_unary h depth deep some low = record { again = λ rest loose. (h depth max_turns deep some low (omega arith)).again rest loose.ended }

-- ---- bodies

again_body_at_precedence : {ℓ top : ℕ} {a : List Leveled} {x : Expr} → AtPrecedence loosest ℓ top a x → PrecedenceAgain loosest ℓ top a x → BodyAgain ℓ a x
again_body_at_precedence {ℓ = ℓ} {top = top} {a = a} read all depth deep some low = (
  top,
  record {
    again = λ rest loose.
        body_level (pattern depth) (term depth) ℓ ℓ a rest (at_precedence_begins read) ∙ (all depth deep some low).again rest loose;
  },
)

in_let : {ℓ : ℕ} (s₁ s₂ s₃ s₄ : Span) (text : List ℕ) (a b : List Leveled) (x y : Expr) → TermAgain ℓ a x → TermAgain ℓ b y → (depth : ℕ) → max_level ≤ depth + ℓ → ℓ ≤ max_level
    → Again (let_in (term depth)) ℓ (keyword w.KwLet s₁ ℓ ∷ g.lower text s₂ ℓ ∷ mark m.Equals s₃ ℓ ∷ (a ++ keyword w.KwIn s₄ ℓ ∷ b)) (let_of s₁ (name text s₂) x y) ℓ (Loose loosest)
unfolding let_in
in_let {ℓ = ℓ} s₁ s₂ s₃ s₄ text a b x y first second depth deep low =
    again_next _ (again_word w.KwLet s₁ ℓ low refl)
    (again_next _ (again_lower text s₂ ℓ low)
    (again_next _ (again_expect m.Equals s₃ ℓ low refl)
    (again_then _ (first depth deep low) (λ _ _. loose_end loosest _ refl refl refl) (λ _.
    again_next _ (again_word w.KwIn s₄ ℓ low refl)
    (again_last _ (second depth deep low))))))

again_body_let : {ℓ : ℕ} (s₁ s₂ s₃ s₄ : Span) (text : List ℕ) (a b : List Leveled) (x y : Expr) → TermAgain ℓ a x → TermAgain ℓ b y
    → BodyAgain ℓ (keyword w.KwLet s₁ ℓ ∷ g.lower text s₂ ℓ ∷ mark m.Equals s₃ ℓ ∷ (a ++ keyword w.KwIn s₄ ℓ ∷ b)) (let_of s₁ (name text s₂) x y)
unfolding body
again_body_let {ℓ = ℓ} s₁ s₂ s₃ s₄ text a b x y first second depth deep some low = (ℓ, record { again = λ rest ok. (in_let s₁ s₂ s₃ s₄ text a b x y first second depth deep low).again rest ok })

in_if : {ℓ : ℕ} (s₁ s₂ s₃ : Span) (a b d : List Leveled) (c x y : Expr) → TermAgain ℓ a c → TermAgain ℓ b x → TermAgain ℓ d y → (depth : ℕ) → max_level ≤ depth + ℓ → ℓ ≤ max_level
    → Again (if_else (term depth)) ℓ (keyword w.KwIf s₁ ℓ ∷ (a ++ keyword w.KwThen s₂ ℓ ∷ (b ++ keyword w.KwElse s₃ ℓ ∷ d))) (if_of s₁ c x y) ℓ (Loose loosest)
unfolding if_else
in_if {ℓ = ℓ} s₁ s₂ s₃ a b d c x y condition first second depth deep low =
    again_next _ (again_word w.KwIf s₁ ℓ low refl)
    (again_then _ (condition depth deep low) (λ _ _. loose_end loosest _ refl refl refl) (λ _.
    again_next _ (again_word w.KwThen s₂ ℓ low refl)
    (again_then _ (first depth deep low) (λ _ _. loose_end loosest _ refl refl refl) (λ _.
    again_next _ (again_word w.KwElse s₃ ℓ low refl)
    (again_last _ (second depth deep low))))))

again_body_if : {ℓ : ℕ} (s₁ s₂ s₃ : Span) (a b d : List Leveled) (c x y : Expr) → TermAgain ℓ a c → TermAgain ℓ b x → TermAgain ℓ d y
    → BodyAgain ℓ (keyword w.KwIf s₁ ℓ ∷ (a ++ keyword w.KwThen s₂ ℓ ∷ (b ++ keyword w.KwElse s₃ ℓ ∷ d))) (if_of s₁ c x y)
unfolding body
again_body_if {ℓ = ℓ} s₁ s₂ s₃ a b d c x y condition first second depth deep some low = (ℓ, record { again = λ rest ok. (in_if s₁ s₂ s₃ a b d c x y condition first second depth deep low).again rest ok })

-- ---- terms

again_term_low : (ℓ : ℕ) (us : List Leveled) (x : Expr) (depth : ℕ) → Begins starts_term (suc ℓ) us → BodyAgain (suc ℓ) us x → ℓ < max_level → max_level ≤ suc depth + ℓ
    → Again (term (suc depth)) ℓ us x ℓ (Loose loosest)
unfolding term
again_term_low ℓ [] x depth begins inner low deep = absurd begins
again_term_low ℓ (u ∷ us) x depth begins inner low deep =
    let read = inner depth (omega arith) (omega arith) (omega arith) in
    record {
      again = λ rest ok. rw (enter_low begins_term ℓ u.0 (tokens_of us ++ rest) begins.0 low)
          (ap (λ o. and_then o (λ found. leave ℓ >> pure found)) (read.1.again rest ok)
          ∙ and_then-cut (u ∷ us) rest (Ok x, at read.0 rest) (λ found. leave ℓ >> pure found));
    }

again_term_high : (ℓ : ℕ) (us : List Leveled) (x : Expr) (depth : ℕ) → Begins starts_term (suc ℓ) us → ℓ ≡ max_level → Again (term depth) ℓ us x ℓ (Loose loosest)
unfolding term
again_term_high ℓ [] x depth begins full = absurd begins
again_term_high ℓ (u ∷ us) x zero begins full = record {
  again = λ rest ok.
      let over : nat_le u.1 max_level ≡ false = (let l : ℓ < u.1 = begins.1 in grind (arith, nat_tests)) in
      rw (enter_high begins_term ℓ u.0 (tokens_of us ++ rest) begins.0 full, over) refl;
}
again_term_high ℓ (u ∷ us) x (suc depth) begins full = record {
  again = λ rest ok.
      let over : nat_le u.1 max_level ≡ false = (let l : ℓ < u.1 = begins.1 in grind (arith, nat_tests)) in
      rw (enter_high begins_term ℓ u.0 (tokens_of us ++ rest) begins.0 full, over) refl;
}

again_term : (ℓ : ℕ) (us : List Leveled) (x : Expr) → Begins starts_term (suc ℓ) us → BodyAgain (suc ℓ) us x → TermAgain ℓ us x
again_term ℓ us x begins inner zero deep low = again_term_high ℓ us x zero begins (omega arith)
again_term ℓ us x begins inner (suc depth) deep low =
    elim (low_or_top ℓ low) [ inl less ↦ again_term_low ℓ us x depth begins inner less deep | inr full ↦ again_term_high ℓ us x (suc depth) begins full ]

mutual
  pub term_again : {ℓ : ℕ} {us : List Leveled} {x : Expr} → Term ℓ us x → TermAgain ℓ us x
  term_again (g.let_in {ℓ = ℓ} s₁ s₂ s₃ s₄ text {a = a} {b = b} {x = x} {y = y} first second) =
      again_term _ _ _ (refl, omega arith) (again_body_let s₁ s₂ s₃ s₄ text a b x y (term_again first) (term_again second))
  term_again (g.if_else s₁ s₂ s₃ {a = a} {b = b} {d = d} {c = c} {x = x} {y = y} condition first second) =
      again_term _ _ _ (refl, omega arith) (again_body_if s₁ s₂ s₃ a b d c x y (term_again condition) (term_again first) (term_again second))
  term_again (g.operators x) = again_term _ _ _ (term_begins (g.operators x)) (again_body_at_precedence x (level_goal loosest (at_precedence_again x)))

  pub at_precedence_again : {p ℓ top : ℕ} {us : List Leveled} {x : Expr} → AtPrecedence p ℓ top us x → PrecedenceGoal p ℓ top us x
  at_precedence_again (g.unary x) = level_unary (unary_again x)
  at_precedence_again (g.one {p = p} x) = goal_one x (level_goal p (at_precedence_again x))
  at_precedence_again (g.more {p = p} kind s x e group y) = goal_more kind s x (at_precedence_again x) e group y (level_goal p (at_precedence_again y))
  at_precedence_again (g.once {p = p} kind s x e single y) = goal_once kind s x (level_goal p (at_precedence_again x)) e single (level_goal p (at_precedence_again y))

  pub unary_again : {ℓ top : ℕ} {us : List Leveled} {x : Expr} → Unary ℓ top us x → UnaryAgain ℓ top us x
  unary_again (g.post x) = unary_post x (post_again x)
  unary_again (g.prefix kind s is x) = unary_prefix kind s is (unary_again x)

  pub post_again : {ℓ top : ℕ} {us : List Leveled} {x : Expr} → Post ℓ top us x → PostAgain ℓ top us x
  post_again (g.Post.atom x) = post_atom (atom_again x)
  post_again (g.get s₁ s₂ {b = b} {x = x} {key = key} first inner) =
      post_key s₁ (b ++ mark m.RBracket s₂ _ ∷ []) first (post_again first) (λ depth deep low. in_index_get s₂ b x key (term_again inner) depth deep low)
  post_again (g.put s₁ s₂ s₃ {b = b} {d = d} {x = x} {key = key} {v = v} first inner value) =
      post_key s₁ (b ++ mark m.Assign s₂ _ ∷ (d ++ mark m.RBracket s₃ _ ∷ [])) first (post_again first) (λ depth deep low. in_index_put s₂ s₃ b d x key v (term_again inner) (term_again value) depth deep low)

  pub atom_again : {ℓ : ℕ} {us : List Leveled} {x : Expr} → Atom ℓ us x → AtomAgain ℓ us x
  atom_again (g.Atom.word l) = atom_word l
  atom_again (g.Atom.true_flag s) = atom_true s
  atom_again (g.Atom.false_flag s) = atom_false s
  atom_again (g.var text s) = atom_var text s
  atom_again (g.call text s₁ s₂ s₃ {a = a} {xs = xs} inner) = atom_call text s₁ s₂ s₃ a xs (arguments_again inner)
  atom_again (g.Atom.alone text s) = atom_alone text s
  atom_again (g.Atom.make text s₁ s₂ s₃ {a = a} {xs = xs} inner) = atom_make text s₁ s₂ s₃ a xs (terms_again inner)
  atom_again (g.operation op s₁ s₂ s₃ s₄ {a = a} {b = b} {x = x} {y = y} is first second) = atom_operation op s₁ s₂ s₃ s₄ a b x y is (term_again first) (term_again second)
  atom_again (g.cast op v s₁ s₂ s₃ s₄ s₅ {a = a} {x = x} is first) = atom_cast op v s₁ s₂ s₃ s₄ s₅ a x is (term_again first)
  atom_again (g.match_on s₁ s₂ s₃ s₄ {a = a} {b = b} {x = x} {arms = arms} first all) = atom_match s₁ s₂ s₃ s₄ a b x arms (term_again first) (arms_again all)
  atom_again (g.paren s₁ s₂ {a = a} {x = x} inner) = atom_paren s₁ s₂ a x (term_again inner)

  pub arguments_again : {ℓ : ℕ} {us : List Leveled} {xs : List Expr} → Arguments ℓ us xs → ArgumentsAgain ℓ us xs
  arguments_again g.Arguments.none = no_arguments
  arguments_again (g.Arguments.some xs) = some_arguments xs (terms_again xs)

  pub terms_again : {ℓ : ℕ} {us : List Leveled} {xs : List Expr} → Terms ℓ us xs → TermsAgain ℓ us xs
  terms_again (g.Terms.last {ℓ = ℓ} {a = a} x) depth deep low = items_last (term depth) m.Comma low (begins_some starts_term (suc ℓ) a (term_begins x)) (term_again x depth deep low)
  terms_again (g.Terms.next {ℓ = ℓ} s {a = a} x xs) depth deep low =
      items_next (term depth) m.Comma s low (begins_some starts_term (suc ℓ) a (term_begins x)) (term_again x depth deep low) (λ rest. loose_end loosest _ refl refl refl) refl (λ n found le. terms_again xs depth deep low n found le)

  arm_again : {ℓ : ℕ} {us : List Leveled} {x : ArmTree} → Arm ℓ us x → ArmAgain ℓ us x
  arm_again (g.arm s₁ s₂ p x) = in_arm s₁ s₂ p (term_again x)

  more_arms_again : {ℓ : ℕ} {us : List Leveled} {xs : List ArmTree} → Arms ℓ us xs → MoreArms ℓ us xs
  more_arms_again (g.last_arm {a = a} {x = x} h) = rw (← append-nil a) (more_arms h (arm_again h) no_more_arms)
  more_arms_again (g.next_arm h more) = more_arms h (arm_again h) (more_arms_again more)

  pub arms_again : {ℓ : ℕ} {us : List Leveled} {xs : List ArmTree} → Arms ℓ us xs → ArmsAgain ℓ us xs
  arms_again (g.last_arm {a = a} {x = x} h) = rw (← append-nil a) (first_arm (arm_again h) no_more_arms)
  arms_again (g.next_arm h more) = first_arm (arm_again h) (more_arms_again more)
