-- The rules of patterns read again what is spelled.
use Rattle.std.proofs.Common.{◌≡◌, ℕ, zero, suc, ◌≤◌, ◌<◌, ◌+◌, true, false, List, [], ◌∷◌, ◌++◌, length, refl, ap, ◌∙◌, nat_le, inl, inr, arith}
use Rattle.std.specs.Prelude.{Ok}
use Rattle.std.proofs.lemmas.Bool.Decides.{nat_tests}
use Rattle.syntax_lexer.specs.declared.token.Token.{Token}
use Rattle.syntax_lexer.specs.declared.token.Mark.TheVariants as m
use Rattle.syntax_lexer.specs.declared.token.Keyword.TheVariants as w
use Rattle.syntax_grammar.specs.declared.tree.Span.{Span}
use Rattle.syntax_grammar.specs.declared.rules.Literal.{Literal}
use Rattle.syntax_grammar.specs.Tree.{Pattern}
use Rattle.syntax_grammar.specs.Tree as e
use Rattle.syntax_grammar.specs.Parsing.{Parser, ◌>>◌, and_then, pure, leave, begins_pattern}
use Rattle.syntax_grammar.specs.Lists.{separated, separated_from}
use Rattle.syntax_grammar.specs.PatternRules.{pattern, pattern_body, pattern_any, pattern_variable, pattern_word, pattern_flag, pattern_make, pattern_parts}
use Rattle.syntax_grammar.specs.Grammar.{Leveled, tokens_of, IsLiteral, Pat, Pats, name, mark, upper}
use Rattle.syntax_grammar.specs.Grammar as g
use Rattle.syntax_grammar.specs.Nodes.{pattern_make_of}
use Rattle.syntax_grammar.specs.Tokens.{max_level}
use Rattle.syntax_parser.proofs.Cut.{at, and_then-cut}
use Rattle.syntax_parser.proofs.Derivations.{Begins, begins_some, starts_pattern, pat_begins}
use Rattle.syntax_parser.proofs.LevelsAgain.{low_or_top, enter_low, enter_high}
use Rattle.syntax_parser.proofs.Again.{Again, anything, again_then, again_next, again_pure, again_last, again_expect, again_word, again_lower, again_upper, again_eat, again_no, again_literal, not_mark, items_last, items_next, tokens_fewer}

abbrev pub no_paren : List Token → Type 0
no_paren rest = not_mark m.LParen rest

abbrev pub PatAgain : ℕ → List Leveled → Pattern → Type 0
PatAgain ℓ us p = (depth : ℕ) → max_level ≤ depth + ℓ → ℓ ≤ max_level → Again (pattern depth) ℓ us p ℓ no_paren

abbrev pub PatBodyAgain : ℕ → List Leveled → Pattern → Type 0
PatBodyAgain ℓ us p = (depth : ℕ) → max_level ≤ depth + ℓ → ℓ ≤ max_level → Again (pattern_body (pattern depth)) ℓ us p ℓ no_paren

abbrev pub stops : List Token → Type 0
stops rest = not_mark m.Comma rest × no_paren rest

abbrev pub PatsAgain : ℕ → List Leveled → List Pattern → Type 0
PatsAgain ℓ us ps = (depth : ℕ) → max_level ≤ depth + ℓ → ℓ ≤ max_level → (n : ℕ) (found : List Pattern) → length us ≤ n → Again (separated_from (pattern depth) m.Comma n found) ℓ us (found ++ ps) ℓ stops

body_any : {ℓ : ℕ} (s : Span) → PatBodyAgain ℓ (mark m.Underscore s ℓ ∷ []) (e.any s)
unfolding pattern_body pattern_any
body_any {ℓ = ℓ} s depth deep low = record { again = λ rest ok. (again_last (λ s. e.any s) (again_expect m.Underscore s ℓ low refl)).again rest tt }

body_bind : {ℓ : ℕ} (text : List ℕ) (s : Span) → PatBodyAgain ℓ (g.lower text s ℓ ∷ []) (e.bind (name text s))
unfolding pattern_body pattern_variable
body_bind {ℓ = ℓ} text s depth deep low = record { again = λ rest ok. (again_last (λ x. e.bind x) (again_lower text s ℓ low)).again rest tt }

body_word : {ℓ : ℕ} {us : List Leveled} {l : Literal} → IsLiteral ℓ us l → PatBodyAgain ℓ us (e.Pattern.word l.v l.w l.span)
unfolding pattern_body pattern_word
body_word {ℓ = ℓ} (g.literal v w s₁ s₂ s₃) depth deep low = record { again = λ rest ok. (again_last (λ (l : Literal). e.Pattern.word l.v l.w l.span) (again_literal low (g.literal v w s₁ s₂ s₃))).again rest tt }

body_true : {ℓ : ℕ} (s : Span) → PatBodyAgain ℓ (g.keyword w.KwTrue s ℓ ∷ []) (e.Pattern.flag true s)
unfolding pattern_body pattern_flag
body_true {ℓ = ℓ} s depth deep low = record { again = λ rest ok. (again_last (λ s. e.Pattern.flag true s) (again_word w.KwTrue s ℓ low refl)).again rest tt }

body_false : {ℓ : ℕ} (s : Span) → PatBodyAgain ℓ (g.keyword w.KwFalse s ℓ ∷ []) (e.Pattern.flag false s)
unfolding pattern_body pattern_flag
body_false {ℓ = ℓ} s depth deep low = record { again = λ rest ok. (again_last (λ s. e.Pattern.flag false s) (again_word w.KwFalse s ℓ low refl)).again rest tt }

in_alone : (text : List ℕ) (s : Span) (ℓ : ℕ) (T : Parser Pattern) → ℓ ≤ max_level → Again (pattern_make T) ℓ (upper text s ℓ ∷ []) (e.Pattern.make (name text s) e.Patterns.none s) ℓ no_paren
unfolding pattern_make
in_alone text s ℓ T low = again_next _ (again_upper text s ℓ low) (again_then _ (again_no m.LParen ℓ) (λ rest ok. ok) (λ _. again_pure))

body_alone : {ℓ : ℕ} (text : List ℕ) (s : Span) → PatBodyAgain ℓ (upper text s ℓ ∷ []) (e.Pattern.make (name text s) e.Patterns.none s)
unfolding pattern_body
body_alone {ℓ = ℓ} text s depth deep low = record { again = λ rest ok. (in_alone text s ℓ (pattern depth) low).again rest ok }

parts_again : {ℓ : ℕ} {us : List Leveled} {ps : List Pattern} → PatsAgain ℓ us ps → (depth : ℕ) → max_level ≤ depth + ℓ → ℓ ≤ max_level → Again (separated (pattern depth) m.Comma) ℓ us ps ℓ stops
unfolding separated
parts_again {us = us} all depth deep low = record { again = λ rest ok. (all depth deep low (length (tokens_of us ++ rest)) [] (tokens_fewer us rest)).again rest ok }

in_make : {ℓ : ℕ} (text : List ℕ) (s₁ s₂ s₃ : Span) (us : List Leveled) (ps : List Pattern) → PatsAgain ℓ us ps → (depth : ℕ) → max_level ≤ depth + ℓ → ℓ ≤ max_level
    → Again (pattern_make (pattern depth)) ℓ (upper text s₁ ℓ ∷ mark m.LParen s₂ ℓ ∷ (us ++ mark m.RParen s₃ ℓ ∷ [])) (pattern_make_of (name text s₁) ps s₃) ℓ anything
unfolding pattern_make pattern_parts
in_make {ℓ = ℓ} text s₁ s₂ s₃ us ps all depth deep low =
    again_next _ (again_upper text s₁ ℓ low)
    (again_next _ (again_eat m.LParen s₂ ℓ low refl)
    (again_then _ (parts_again all depth deep low) (λ _ _. (refl, refl)) (λ _.
    again_next _ (again_expect m.RParen s₃ ℓ low refl)
    again_pure)))

body_make : {ℓ : ℕ} (text : List ℕ) (s₁ s₂ s₃ : Span) (us : List Leveled) (ps : List Pattern) → PatsAgain ℓ us ps
    → PatBodyAgain ℓ (upper text s₁ ℓ ∷ mark m.LParen s₂ ℓ ∷ (us ++ mark m.RParen s₃ ℓ ∷ [])) (pattern_make_of (name text s₁) ps s₃)
unfolding pattern_body
body_make {ℓ = ℓ} text s₁ s₂ s₃ us ps all depth deep low = record { again = λ rest ok. (in_make text s₁ s₂ s₃ us ps all depth deep low).again rest tt }

-- ---- patterns

pattern_low : (ℓ : ℕ) (us : List Leveled) (p : Pattern) (depth : ℕ) → Begins starts_pattern (suc ℓ) us → PatBodyAgain (suc ℓ) us p → ℓ < max_level → max_level ≤ suc depth + ℓ
    → Again (pattern (suc depth)) ℓ us p ℓ no_paren
unfolding pattern
pattern_low ℓ [] p depth begins inner low deep = absurd begins
pattern_low ℓ (u ∷ us) p depth begins inner low deep =
    let read = inner depth (omega arith) (omega arith) in
    record {
      again = λ rest ok. rw (enter_low begins_pattern ℓ u.0 (tokens_of us ++ rest) begins.0 low)
          (ap (λ o. and_then o (λ found. leave ℓ >> pure found)) (read.again rest ok)
          ∙ and_then-cut (u ∷ us) rest (Ok p, at (suc ℓ) rest) (λ found. leave ℓ >> pure found));
    }

pattern_high : (ℓ : ℕ) (us : List Leveled) (p : Pattern) (depth : ℕ) → Begins starts_pattern (suc ℓ) us → ℓ ≡ max_level → Again (pattern depth) ℓ us p ℓ no_paren
unfolding pattern
pattern_high ℓ [] p depth begins full = absurd begins
pattern_high ℓ (u ∷ us) p zero begins full = record {
  again = λ rest ok.
      let over : nat_le u.1 max_level ≡ false = (let l : ℓ < u.1 = begins.1 in grind (arith, nat_tests)) in
      rw (enter_high begins_pattern ℓ u.0 (tokens_of us ++ rest) begins.0 full, over) refl;
}
pattern_high ℓ (u ∷ us) p (suc depth) begins full = record {
  again = λ rest ok.
      let over : nat_le u.1 max_level ≡ false = (let l : ℓ < u.1 = begins.1 in grind (arith, nat_tests)) in
      rw (enter_high begins_pattern ℓ u.0 (tokens_of us ++ rest) begins.0 full, over) refl;
}

again_pattern : (ℓ : ℕ) (us : List Leveled) (p : Pattern) → Begins starts_pattern (suc ℓ) us → PatBodyAgain (suc ℓ) us p → PatAgain ℓ us p
again_pattern ℓ us p begins inner zero deep low = pattern_high ℓ us p zero begins (omega arith)
again_pattern ℓ us p begins inner (suc depth) deep low =
    elim (low_or_top ℓ low) [ inl less ↦ pattern_low ℓ us p depth begins inner less deep | inr full ↦ pattern_high ℓ us p (suc depth) begins full ]

mutual
  pub pat_again : {ℓ : ℕ} {us : List Leveled} {p : Pattern} → Pat ℓ us p → PatAgain ℓ us p
  pat_again (g.any s) = again_pattern _ _ _ (pat_begins (g.any s)) (body_any s)
  pat_again (g.bind text s) = again_pattern _ _ _ (pat_begins (g.bind text s)) (body_bind text s)
  pat_again (g.Pat.word l) = again_pattern _ _ _ (pat_begins (g.Pat.word l)) (body_word l)
  pat_again (g.Pat.true_flag s) = again_pattern _ _ _ (pat_begins (g.Pat.true_flag s)) (body_true s)
  pat_again (g.Pat.false_flag s) = again_pattern _ _ _ (pat_begins (g.Pat.false_flag s)) (body_false s)
  pat_again (g.Pat.alone text s) = again_pattern _ _ _ (pat_begins (g.Pat.alone text s)) (body_alone text s)
  pat_again (g.Pat.make text s₁ s₂ s₃ {us = us} {ps = ps} all) = again_pattern _ _ _ (refl, omega arith) (body_make text s₁ s₂ s₃ us ps (pats_again all))

  pub pats_again : {ℓ : ℕ} {us : List Leveled} {ps : List Pattern} → Pats ℓ us ps → PatsAgain ℓ us ps
  pats_again (g.Pats.last {ℓ = ℓ} {us = us} p) depth deep low = items_last (pattern depth) m.Comma low (begins_some starts_pattern (suc ℓ) us (pat_begins p)) (pat_again p depth deep low)
  pats_again (g.Pats.next {ℓ = ℓ} s {us = us} p ps) depth deep low =
      items_next (pattern depth) m.Comma s low (begins_some starts_pattern (suc ℓ) us (pat_begins p)) (pat_again p depth deep low) (λ rest. refl) refl (λ n found le. pats_again ps depth deep low n found le)
