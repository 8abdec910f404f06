-- What is spelled is read again, whatever follows it, up to the first token that stands too deep.
use Rattle.std.proofs.Common.{◌≡◌, ℕ, zero, suc, ◌≤◌, ◌<◌, true, false, List, [], ◌∷◌, ◌++◌, length, append-nil, append_assoc, length-append, refl, ap, sym, subst, ◌∙◌, arith}
use Rattle.std.specs.Prelude.{Ok, Some, if◌then◌else◌}
use Rattle.syntax_lexer.specs.declared.token.Token.{Token}
use Rattle.syntax_lexer.specs.declared.token.Kind.TheVariants as k
use Rattle.syntax_lexer.specs.declared.token.Mark.{Mark}
use Rattle.syntax_lexer.specs.declared.token.Mark.TheVariants as m
use Rattle.syntax_lexer.specs.declared.token.Keyword.{Keyword}
use Rattle.syntax_grammar.specs.declared.tree.Span.{Span}
use Rattle.syntax_grammar.specs.Parsing.{Parser, ◌>>=◌, and_then, pure, expect, expect_word, number, literal, eat, lower, upper, is_mark, is_word, first_kind}
use Rattle.syntax_grammar.specs.Lists.{separated_from, until_from}
use Rattle.syntax_grammar.specs.Grammar.{Leveled, tokens_of, token, IsLiteral, Separated, Several}
use Rattle.syntax_grammar.specs.Grammar as g
use Rattle.syntax_grammar.specs.declared.rules.Literal.{Literal}
use Rattle.syntax_grammar.specs.Tokens.{max_level}
use Rattle.syntax_parser.proofs.Cut.{at, cut, Fits, tokens-append-rest, and_then-cut, cut-append, cut_under, by_fits}

-- p reads these tokens as a, from a level to a level, where what follows allows it
pub record Again {A : Type 0} (p : Parser A) (ℓ : ℕ) (us : List Leveled) (a : A) (top : ℕ) (follows : List Token → Type 0) : Type 0 where
  pub again : (rest : List Token) → follows rest → p (at ℓ (tokens_of us ++ rest)) ≡ cut us rest (Ok a, at top rest)

abbrev pub anything : List Token → Type 0
anything _ = Unit {0}

pub again_then : {A B : Type 0} {p : Parser A} (f : A → Parser B) {ℓ mid top : ℕ} {us vs : List Leveled} {a : A} {b : B} {F G : List Token → Type 0}
    → Again p ℓ us a mid F → ((rest : List Token) → G rest → F (tokens_of vs ++ rest))
    → (Fits us → Again (f a) mid vs b top G) → Again (p >>= f) ℓ (us ++ vs) b top G
again_then {p = p} f {ℓ = ℓ} {mid = mid} {top = top} {us = us} {vs = vs} {a = a} {b = b} one follows two = record {
  again = λ rest ok.
      ap (λ ts. and_then (p (at ℓ ts)) f) (tokens-append-rest us vs rest)
      ∙ ap (λ o. and_then o f) (one.again (tokens_of vs ++ rest) (follows rest ok))
      ∙ and_then-cut us (tokens_of vs ++ rest) (Ok a, at mid (tokens_of vs ++ rest)) f
      ∙ cut_under us (tokens_of vs ++ rest) (f a (at mid (tokens_of vs ++ rest))) (cut vs rest (Ok b, at top rest)) (λ fit. (two fit).again rest ok)
      ∙ sym (cut-append us vs rest (Ok b, at top rest));
}

-- where the next rule may follow anything
pub again_next : {A B : Type 0} {p : Parser A} (f : A → Parser B) {ℓ mid top : ℕ} {us vs : List Leveled} {a : A} {b : B} {G : List Token → Type 0}
    → Again p ℓ us a mid anything → Again (f a) mid vs b top G → Again (p >>= f) ℓ (us ++ vs) b top G
again_next f one two = again_then f one (λ _ _. tt) (λ _. two)

pub again_pure : {A : Type 0} {ℓ : ℕ} {a : A} {F : List Token → Type 0} → Again (pure a) ℓ [] a ℓ F
again_pure = record { again = λ rest ok. refl }

-- the last rule, whose value is used as it is
pub again_last : {A B : Type 0} {p : Parser A} (f : A → B) {ℓ top : ℕ} {us : List Leveled} {a : A} {G : List Token → Type 0}
    → Again p ℓ us a top G → Again (p >>= (λ x. pure (f x))) ℓ us (f a) top G
again_last {p = p} f {ℓ = ℓ} {top = top} {us = us} {a = a} one = record {
  again = λ rest ok.
      ap (λ o. and_then o (λ x. pure (f x))) (one.again rest ok) ∙ and_then-cut us rest (Ok a, at top rest) (λ x. pure (f x));
}

pub again_expect : (mark : Mark) (s : Span) (ℓ : ℕ) → ℓ ≤ max_level → is_mark mark (Some (k.Mark mark)) ≡ true
    → Again (expect mark) ℓ ((token (k.Mark mark) s, ℓ) ∷ []) s ℓ anything
unfolding expect
again_expect mark s ℓ low same = record { again = λ rest ok. rw (same, by_fits ℓ low) refl }

pub again_word : (word : Keyword) (s : Span) (ℓ : ℕ) → ℓ ≤ max_level → is_word word (Some (k.Word word)) ≡ true
    → Again (expect_word word) ℓ ((token (k.Word word) s, ℓ) ∷ []) s ℓ anything
unfolding expect_word
again_word word s ℓ low same = record { again = λ rest ok. rw (same, by_fits ℓ low) refl }

pub again_number : (v : ℕ) (s : Span) (ℓ : ℕ) → ℓ ≤ max_level
    → Again number ℓ ((token (k.Number v) s, ℓ) ∷ []) (record { v = v; span = s }) ℓ anything
unfolding number
again_number v s ℓ low = record { again = λ rest ok. rw (by_fits ℓ low) refl }

pub again_lower : (text : List ℕ) (s : Span) (ℓ : ℕ) → ℓ ≤ max_level
    → Again lower ℓ ((token (k.Lower text) s, ℓ) ∷ []) (record { text = text; span = s }) ℓ anything
unfolding lower
again_lower text s ℓ low = record { again = λ rest ok. rw (by_fits ℓ low) refl }

pub again_eat : (mark : Mark) (s : Span) (ℓ : ℕ) → ℓ ≤ max_level → is_mark mark (Some (k.Mark mark)) ≡ true
    → Again (eat mark) ℓ ((token (k.Mark mark) s, ℓ) ∷ []) true ℓ anything
unfolding eat
again_eat mark s ℓ low same = record { again = λ rest ok. rw (same, by_fits ℓ low) refl }

pub again_no : (mark : Mark) (ℓ : ℕ) → Again (eat mark) ℓ [] false ℓ (λ rest. is_mark mark (first_kind rest) ≡ false)
unfolding eat
again_no mark ℓ = record { again = λ rest other. rw other refl }

pub again_upper : (text : List ℕ) (s : Span) (ℓ : ℕ) → ℓ ≤ max_level
    → Again upper ℓ ((token (k.Upper text) s, ℓ) ∷ []) (record { text = text; span = s }) ℓ anything
unfolding upper
again_upper text s ℓ low = record { again = λ rest ok. rw (by_fits ℓ low) refl }

pub again_weaker : {A : Type 0} {p : Parser A} {ℓ top : ℕ} {us : List Leveled} {a : A} {F : List Token → Type 0} → Again p ℓ us a top anything → Again p ℓ us a top F
again_weaker h = record { again = λ rest ok. h.again rest tt }

pub again_literal : {ℓ : ℕ} {us : List Leveled} {l : Literal} → ℓ ≤ max_level → IsLiteral ℓ us l → Again literal ℓ us l ℓ anything
unfolding literal
again_literal {ℓ = ℓ} low (g.literal v w s₁ s₂ s₃) =
    again_next _ (again_number v s₁ ℓ low) (again_next _ (again_expect m.Colon s₂ ℓ low refl) (again_next _ (again_number w s₃ ℓ low) again_pure))

-- ---- lists with marks between

abbrev pub not_mark : Mark → List Token → Type 0
not_mark mark rest = is_mark mark (first_kind rest) ≡ false

-- steps of a list with marks between, whatever its item is
pub items_last : {A : Type 0} (item : Parser A) (mark : Mark) {ℓ : ℕ} {us : List Leveled} {x : A} {F : List Token → Type 0} → ℓ ≤ max_level → 0 < length us → Again item ℓ us x ℓ F
    → (n : ℕ) (found : List A) → length us ≤ n → Again (separated_from item mark n found) ℓ us (found ++ x ∷ []) ℓ (λ rest. not_mark mark rest × F rest)
unfolding separated_from
items_last item mark {ℓ = ℓ} {us = us} low some one zero found turns = absurd (omega arith)
items_last item mark {ℓ = ℓ} {us = us} {x = x} {F = F} low some one (suc n) found turns =
    let both : Again (item >>= (λ x. eat mark >>= (λ more. if more then separated_from item mark n (found ++ x ∷ []) else pure (found ++ x ∷ [])))) ℓ (us ++ []) (found ++ x ∷ []) ℓ (λ rest. not_mark mark rest × F rest)
    = again_then _ one (λ rest ok. ok.1) (λ _. again_then _ (again_no mark ℓ) (λ rest ok. ok.0) (λ _. again_pure)) in
    subst (λ (ws : List Leveled). Again (item >>= (λ x. eat mark >>= (λ more. if more then separated_from item mark n (found ++ x ∷ []) else pure (found ++ x ∷ [])))) ℓ ws (found ++ x ∷ []) ℓ (λ rest. not_mark mark rest × F rest)) (append-nil us) both

pub items_next : {A : Type 0} (item : Parser A) (mark : Mark) {ℓ : ℕ} {us vs : List Leveled} {x : A} {xs : List A} {F G : List Token → Type 0} (s : Span) → ℓ ≤ max_level → 0 < length us → Again item ℓ us x ℓ F
    → ((rest : List Token) → F (token (k.Mark mark) s ∷ rest)) → is_mark mark (Some (k.Mark mark)) ≡ true
    → ((n : ℕ) (found : List A) → length vs ≤ n → Again (separated_from item mark n found) ℓ vs (found ++ xs) ℓ G)
    → (n : ℕ) (found : List A) → length (us ++ g.mark mark s ℓ ∷ vs) ≤ n → Again (separated_from item mark n found) ℓ (us ++ g.mark mark s ℓ ∷ vs) (found ++ x ∷ xs) ℓ G
unfolding separated_from
items_next item mark {ℓ = ℓ} {us = us} {vs = vs} s low some one comma same rest zero found turns = absurd (omega (arith, length-append us (g.mark mark s ℓ ∷ vs)))
items_next item mark {ℓ = ℓ} {us = us} {vs = vs} {x = x} {xs = xs} s low some one comma same rest (suc n) found turns =
    let fewer : length vs ≤ n = omega (arith, length-append us (g.mark mark s ℓ ∷ vs)) in
    again_then _ one (λ ts ok. comma _) (λ _. again_next _ (again_eat mark s ℓ low same) (rw (← append_assoc found (x ∷ []) xs) (rest n (found ++ x ∷ []) fewer)))

pub tokens_fewer : (us : List Leveled) (rest : List Token) → length us ≤ length (tokens_of us ++ rest)
tokens_fewer [] rest = omega arith
tokens_fewer (u ∷ us) rest = let more = tokens_fewer us rest in omega arith

pub low : 0 ≤ max_level
low = omega arith

-- lists of what stands outside of terms
module _ {A : Type 0} (item : Parser A) (P : List Leveled → A → Type 0) (F : List Token → Type 0)
    (item_again : (us : List Leveled) (x : A) → P us x → Again item 0 us x 0 F) (item_some : (us : List Leveled) (x : A) → P us x → 0 < length us) where
  pub separated_again : (mark : Mark) → ((s : Span) (rest : List Token) → F (token (k.Mark mark) s ∷ rest)) → is_mark mark (Some (k.Mark mark)) ≡ true
      → {us : List Leveled} {xs : List A} → Separated P mark us xs
      → (n : ℕ) (found : List A) → length us ≤ n → Again (separated_from item mark n found) 0 us (found ++ xs) 0 (λ rest. not_mark mark rest × F rest)
  separated_again mark comma same (g.Separated.last {us = us} {x = x} h) = items_last item mark low (item_some us x h) (item_again us x h)
  separated_again mark comma same (g.Separated.next s {us = us} {x = x} h more) = items_next item mark s low (item_some us x h) (item_again us x h) (comma s) same (separated_again mark comma same more)

-- ---- lists up to a closing mark

abbrev pub closes : Mark → List Token → Type 0
closes mark rest = is_mark mark (first_kind rest) ≡ true

pub until_end : {A : Type 0} (item : Parser A) (mark : Mark) {ℓ : ℕ} (n : ℕ) (found : List A) → 0 < n → Again (until_from item mark n found) ℓ [] found ℓ (closes mark)
unfolding until_from
until_end item mark zero found some = absurd (omega arith)
until_end item mark (suc n) found some = record { again = λ rest ok. rw ok refl }

pub until_next : {A : Type 0} (item : Parser A) (mark : Mark) {ℓ : ℕ} {us vs : List Leveled} {x : A} (xs : List A) {G : List Token → Type 0} → ((rest : List Token) → not_mark mark (tokens_of us ++ rest)) → Again item ℓ us x ℓ anything
    → (n : ℕ) (found : List A) → Again (until_from item mark n (found ++ x ∷ [])) ℓ vs ((found ++ x ∷ []) ++ xs) ℓ G
    → Again (until_from item mark (suc n) found) ℓ (us ++ vs) (found ++ x ∷ xs) ℓ G
unfolding until_from
until_next item mark {ℓ = ℓ} {us = us} {vs = vs} {x = x} xs {G = G} begins one n found rest =
    let both : Again (item >>= (λ x. until_from item mark n (found ++ x ∷ []))) ℓ (us ++ vs) (found ++ x ∷ xs) ℓ G = again_next _ one (rw (← append_assoc found (x ∷ []) xs) rest) in
    record { again = λ ts ok. (let other : is_mark mark (first_kind (tokens_of (us ++ vs) ++ ts)) ≡ false = rw (tokens-append-rest us vs ts) (begins (tokens_of vs ++ ts)) in rw other (both.again ts ok)) }

module _ {A : Type 0} (item : Parser A) (P : List Leveled → A → Type 0)
    (item_again : (us : List Leveled) (x : A) → P us x → Again item 0 us x 0 anything) (item_some : (us : List Leveled) (x : A) → P us x → 0 < length us) where
  pub several_again : (mark : Mark) → ((us : List Leveled) (x : A) → P us x → (rest : List Token) → not_mark mark (tokens_of us ++ rest))
      → {us : List Leveled} {xs : List A} → Several P us xs
      → (n : ℕ) (found : List A) → length us < n → Again (until_from item mark n found) 0 us (found ++ xs) 0 (closes mark)
  several_again mark begins g.Several.none n found turns = rw (append-nil found) (until_end item mark n found (omega arith))
  several_again mark begins (g.Several.next {us = us} {vs = vs} {x = x} h more) zero found turns = absurd (omega arith)
  several_again mark begins (g.Several.next {us = us} {vs = vs} {x = x} {xs = xs} h more) (suc n) found turns =
      let fewer : length vs < n = (let some = item_some us x h in omega (arith, length-append us vs)) in
      until_next item mark xs (begins us x h) (item_again us x h) n found (several_again mark begins more n (found ++ x ∷ []) fewer)
