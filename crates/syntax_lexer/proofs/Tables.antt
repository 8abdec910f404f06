-- The tables of marks and of keywords: each stands in its table, and no mark is longer than one before it.
use Rattle.std.proofs.Common.{◌≡◌, ℕ, zero, suc, ◌<◌, ◌≤◌, List, length, get_or, refl, ap, sym, ◌∙◌, inl, inr, ◌++◌, subst, arith, lit<, lit≤}
use Rattle.std.proofs.lemmas.Bool.{cases_lt}
use Rattle.syntax_lexer.specs.Lexeme.{mark_text}
use Rattle.syntax_lexer.specs.declared.token.Keyword.{Keyword}
use Rattle.syntax_lexer.specs.declared.token.Keyword.TheVariants.{KwType, KwMap, KwDefault, KwFun, KwLet, KwIn, KwIf, KwThen, KwElse, KwMatch, KwWith, KwTrue, KwFalse, KwDecode, KwWhen, KwShl, KwShru, KwShrs, KwRotl, KwDivu, KwDivs, KwRemu, KwRems, KwMulhu, KwMulhs, KwLtu, KwLeu, KwLts, KwLes, KwZext, KwSext, KwTrunc}
use Rattle.syntax_lexer.specs.declared.token.Mark.{Mark}
use Rattle.syntax_lexer.specs.declared.token.Mark.TheVariants.{LParen, RParen, LBrace, RBrace, LBracket, RBracket, Comma, Semi, Colon, Assign, Equals, EqEq, NotEq, FatArrow, Arrow, Bar, BarBar, AndAnd, And, Caret, Plus, Minus, Star, Bang, Tilde, Less, Underscore}
use Rattle.syntax_lexer.specs.declared.marks.TheConstants.{LONGEST_FIRST}
use Rattle.syntax_lexer.specs.declared.keywords.TheConstants.{KEYWORDS}

-- each keyword's place in the table
pub keyword_place : (w : Keyword) → (k : ℕ) × (k < 32) × (get_or KEYWORDS k KwType ≡ w)
keyword_place KwType = (0, lit< tt, refl)
keyword_place KwMap = (1, lit< tt, refl)
keyword_place KwDefault = (2, lit< tt, refl)
keyword_place KwFun = (3, lit< tt, refl)
keyword_place KwLet = (4, lit< tt, refl)
keyword_place KwIn = (5, lit< tt, refl)
keyword_place KwIf = (6, lit< tt, refl)
keyword_place KwThen = (7, lit< tt, refl)
keyword_place KwElse = (8, lit< tt, refl)
keyword_place KwMatch = (9, lit< tt, refl)
keyword_place KwWith = (10, lit< tt, refl)
keyword_place KwTrue = (11, lit< tt, refl)
keyword_place KwFalse = (12, lit< tt, refl)
keyword_place KwDecode = (13, lit< tt, refl)
keyword_place KwWhen = (14, lit< tt, refl)
keyword_place KwShl = (15, lit< tt, refl)
keyword_place KwShru = (16, lit< tt, refl)
keyword_place KwShrs = (17, lit< tt, refl)
keyword_place KwRotl = (18, lit< tt, refl)
keyword_place KwDivu = (19, lit< tt, refl)
keyword_place KwDivs = (20, lit< tt, refl)
keyword_place KwRemu = (21, lit< tt, refl)
keyword_place KwRems = (22, lit< tt, refl)
keyword_place KwMulhu = (23, lit< tt, refl)
keyword_place KwMulhs = (24, lit< tt, refl)
keyword_place KwLtu = (25, lit< tt, refl)
keyword_place KwLeu = (26, lit< tt, refl)
keyword_place KwLts = (27, lit< tt, refl)
keyword_place KwLes = (28, lit< tt, refl)
keyword_place KwZext = (29, lit< tt, refl)
keyword_place KwSext = (30, lit< tt, refl)
keyword_place KwTrunc = (31, lit< tt, refl)

-- each mark's place in the table
pub mark_place : (m : Mark) → (k : ℕ) × (k < 27) × (get_or LONGEST_FIRST k LParen ≡ m)
mark_place LParen = (7, lit< tt, refl)
mark_place RParen = (8, lit< tt, refl)
mark_place LBrace = (9, lit< tt, refl)
mark_place RBrace = (10, lit< tt, refl)
mark_place LBracket = (11, lit< tt, refl)
mark_place RBracket = (12, lit< tt, refl)
mark_place Comma = (13, lit< tt, refl)
mark_place Semi = (14, lit< tt, refl)
mark_place Colon = (15, lit< tt, refl)
mark_place Assign = (0, lit< tt, refl)
mark_place Equals = (16, lit< tt, refl)
mark_place EqEq = (1, lit< tt, refl)
mark_place NotEq = (2, lit< tt, refl)
mark_place FatArrow = (3, lit< tt, refl)
mark_place Arrow = (4, lit< tt, refl)
mark_place Bar = (17, lit< tt, refl)
mark_place BarBar = (5, lit< tt, refl)
mark_place AndAnd = (6, lit< tt, refl)
mark_place And = (18, lit< tt, refl)
mark_place Caret = (19, lit< tt, refl)
mark_place Plus = (20, lit< tt, refl)
mark_place Minus = (21, lit< tt, refl)
mark_place Star = (22, lit< tt, refl)
mark_place Bang = (23, lit< tt, refl)
mark_place Tilde = (24, lit< tt, refl)
mark_place Less = (25, lit< tt, refl)
mark_place Underscore = (26, lit< tt, refl)

-- the first seven marks of the table have two bytes
two_bytes : (i : ℕ) → i < 7 → length (mark_text (get_or LONGEST_FIRST i LParen)) ≡ 2
two_bytes zero below = refl
two_bytes (suc zero) below = refl
two_bytes (suc (suc zero)) below = refl
two_bytes (suc (suc (suc zero))) below = refl
two_bytes (suc (suc (suc (suc zero)))) below = refl
two_bytes (suc (suc (suc (suc (suc zero))))) below = refl
two_bytes (suc (suc (suc (suc (suc (suc zero)))))) below = refl
two_bytes (suc (suc (suc (suc (suc (suc (suc n))))))) below = absurd (omega arith)

-- a mark has at least one byte
pub mark_size : (m : Mark) → 1 ≤ length (mark_text m)
mark_size LParen = lit≤ tt
mark_size RParen = lit≤ tt
mark_size LBrace = lit≤ tt
mark_size RBrace = lit≤ tt
mark_size LBracket = lit≤ tt
mark_size RBracket = lit≤ tt
mark_size Comma = lit≤ tt
mark_size Semi = lit≤ tt
mark_size Colon = lit≤ tt
mark_size Assign = lit≤ tt
mark_size Equals = lit≤ tt
mark_size EqEq = lit≤ tt
mark_size NotEq = lit≤ tt
mark_size FatArrow = lit≤ tt
mark_size Arrow = lit≤ tt
mark_size Bar = lit≤ tt
mark_size BarBar = lit≤ tt
mark_size AndAnd = lit≤ tt
mark_size And = lit≤ tt
mark_size Caret = lit≤ tt
mark_size Plus = lit≤ tt
mark_size Minus = lit≤ tt
mark_size Star = lit≤ tt
mark_size Bang = lit≤ tt
mark_size Tilde = lit≤ tt
mark_size Less = lit≤ tt
mark_size Underscore = lit≤ tt

-- no mark is longer than those before it
pub not_longer : (k i : ℕ) → i ≤ k → k < 27 → length (mark_text (get_or LONGEST_FIRST k LParen)) ≤ length (mark_text (get_or LONGEST_FIRST i LParen))
not_longer zero i before below = omega (arith, two_bytes 0 (lit< tt), two_bytes i (omega arith))
not_longer (suc zero) i before below = omega (arith, two_bytes 1 (lit< tt), two_bytes i (omega arith))
not_longer (suc (suc zero)) i before below = omega (arith, two_bytes 2 (lit< tt), two_bytes i (omega arith))
not_longer (suc (suc (suc zero))) i before below = omega (arith, two_bytes 3 (lit< tt), two_bytes i (omega arith))
not_longer (suc (suc (suc (suc zero)))) i before below = omega (arith, two_bytes 4 (lit< tt), two_bytes i (omega arith))
not_longer (suc (suc (suc (suc (suc zero))))) i before below = omega (arith, two_bytes 5 (lit< tt), two_bytes i (omega arith))
not_longer (suc (suc (suc (suc (suc (suc zero)))))) i before below = omega (arith, two_bytes 6 (lit< tt), two_bytes i (omega arith))
not_longer (suc (suc (suc (suc (suc (suc (suc zero))))))) i before below = mark_size (get_or LONGEST_FIRST i LParen)
not_longer (suc (suc (suc (suc (suc (suc (suc (suc zero)))))))) i before below = mark_size (get_or LONGEST_FIRST i LParen)
not_longer (suc (suc (suc (suc (suc (suc (suc (suc (suc zero))))))))) i before below = mark_size (get_or LONGEST_FIRST i LParen)
not_longer (suc (suc (suc (suc (suc (suc (suc (suc (suc (suc zero)))))))))) i before below = mark_size (get_or LONGEST_FIRST i LParen)
not_longer (suc (suc (suc (suc (suc (suc (suc (suc (suc (suc (suc zero))))))))))) i before below = mark_size (get_or LONGEST_FIRST i LParen)
not_longer (suc (suc (suc (suc (suc (suc (suc (suc (suc (suc (suc (suc zero)))))))))))) i before below = mark_size (get_or LONGEST_FIRST i LParen)
not_longer (suc (suc (suc (suc (suc (suc (suc (suc (suc (suc (suc (suc (suc zero))))))))))))) i before below = mark_size (get_or LONGEST_FIRST i LParen)
not_longer (suc (suc (suc (suc (suc (suc (suc (suc (suc (suc (suc (suc (suc (suc zero)))))))))))))) i before below = mark_size (get_or LONGEST_FIRST i LParen)
not_longer (suc (suc (suc (suc (suc (suc (suc (suc (suc (suc (suc (suc (suc (suc (suc zero))))))))))))))) i before below = mark_size (get_or LONGEST_FIRST i LParen)
not_longer (suc (suc (suc (suc (suc (suc (suc (suc (suc (suc (suc (suc (suc (suc (suc (suc zero)))))))))))))))) i before below = mark_size (get_or LONGEST_FIRST i LParen)
not_longer (suc (suc (suc (suc (suc (suc (suc (suc (suc (suc (suc (suc (suc (suc (suc (suc (suc zero))))))))))))))))) i before below = mark_size (get_or LONGEST_FIRST i LParen)
not_longer (suc (suc (suc (suc (suc (suc (suc (suc (suc (suc (suc (suc (suc (suc (suc (suc (suc (suc zero)))))))))))))))))) i before below = mark_size (get_or LONGEST_FIRST i LParen)
not_longer (suc (suc (suc (suc (suc (suc (suc (suc (suc (suc (suc (suc (suc (suc (suc (suc (suc (suc (suc zero))))))))))))))))))) i before below = mark_size (get_or LONGEST_FIRST i LParen)
not_longer (suc (suc (suc (suc (suc (suc (suc (suc (suc (suc (suc (suc (suc (suc (suc (suc (suc (suc (suc (suc zero)))))))))))))))))))) i before below = mark_size (get_or LONGEST_FIRST i LParen)
not_longer (suc (suc (suc (suc (suc (suc (suc (suc (suc (suc (suc (suc (suc (suc (suc (suc (suc (suc (suc (suc (suc zero))))))))))))))))))))) i before below = mark_size (get_or LONGEST_FIRST i LParen)
not_longer (suc (suc (suc (suc (suc (suc (suc (suc (suc (suc (suc (suc (suc (suc (suc (suc (suc (suc (suc (suc (suc (suc zero)))))))))))))))))))))) i before below = mark_size (get_or LONGEST_FIRST i LParen)
not_longer (suc (suc (suc (suc (suc (suc (suc (suc (suc (suc (suc (suc (suc (suc (suc (suc (suc (suc (suc (suc (suc (suc (suc zero))))))))))))))))))))))) i before below = mark_size (get_or LONGEST_FIRST i LParen)
not_longer (suc (suc (suc (suc (suc (suc (suc (suc (suc (suc (suc (suc (suc (suc (suc (suc (suc (suc (suc (suc (suc (suc (suc (suc zero)))))))))))))))))))))))) i before below = mark_size (get_or LONGEST_FIRST i LParen)
not_longer (suc (suc (suc (suc (suc (suc (suc (suc (suc (suc (suc (suc (suc (suc (suc (suc (suc (suc (suc (suc (suc (suc (suc (suc (suc zero))))))))))))))))))))))))) i before below = mark_size (get_or LONGEST_FIRST i LParen)
not_longer (suc (suc (suc (suc (suc (suc (suc (suc (suc (suc (suc (suc (suc (suc (suc (suc (suc (suc (suc (suc (suc (suc (suc (suc (suc (suc zero)))))))))))))))))))))))))) i before below = mark_size (get_or LONGEST_FIRST i LParen)
not_longer (suc (suc (suc (suc (suc (suc (suc (suc (suc (suc (suc (suc (suc (suc (suc (suc (suc (suc (suc (suc (suc (suc (suc (suc (suc (suc (suc n))))))))))))))))))))))))))) i before below = absurd (omega arith)

-- where no mark before place i fits, each mark that fits is no longer than the one at i
pub longest_at : (source : List ℕ) (i : ℕ) → ((k : ℕ) (rest : List ℕ) → k < i → source ≡ mark_text (get_or LONGEST_FIRST k LParen) ++ rest → ⊥)
    → (m : Mark) (rest : List ℕ) → source ≡ mark_text m ++ rest → length (mark_text m) ≤ length (mark_text (get_or LONGEST_FIRST i LParen))
longest_at source i none m rest e =
    let place = mark_place m in
    elim (cases_lt place.0 i) [
      | inl before ↦ absurd (none place.0 rest before (e ∙ ap (λ m. mark_text m ++ rest) (sym place.2)))
      | inr after ↦ subst (λ (x : Mark). length (mark_text x) ≤ length (mark_text (get_or LONGEST_FIRST i LParen))) place.2 (not_longer place.0 i after place.1)
    ]
