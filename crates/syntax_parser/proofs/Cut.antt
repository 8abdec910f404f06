-- Tokens up to the first that stands too deep.
use Rattle.std.proofs.Common.{◌≡◌, ℕ, ◌≤◌, true, false, List, [], ◌∷◌, ◌++◌, refl, ap, ◌∙◌, append_assoc, nat_le, arith}
use Rattle.std.proofs.lemmas.Bool.Decides.{nat_tests}
use Rattle.std.specs.Prelude.{Err, if◌then◌else◌}
use Rattle.syntax_lexer.specs.declared.token.Token.{Token}
use Rattle.syntax_grammar.specs.declared.rules.RuleFault.TheVariants.{TooDeep}
use Rattle.syntax_grammar.specs.State.{At}
use Rattle.syntax_grammar.specs.Parsing.{Outcome, Parser, and_then}
use Rattle.syntax_grammar.specs.Grammar.{Leveled, tokens_of}
use Rattle.syntax_grammar.specs.Exact.{Shallow}
use Rattle.syntax_grammar.specs.Tokens.{max_level}

abbrev pub at : ℕ → List Token → At
at level rest = record { level = level; rest = rest }

-- the outcome o, unless one of these tokens stands too deep
abbrev pub cut : {A : Type 0} → List Leveled → List Token → Outcome A → Outcome A
cut [] rest o = o
cut (t ∷ ts) rest o = if nat_le t.1 max_level then cut ts rest o else (Err TooDeep, at max_level (t.0 ∷ tokens_of ts ++ rest))

-- none of these tokens stands too deep
abbrev pub Fits : List Leveled → Type 0
Fits us = Shallow us

pub tokens-append : (us vs : List Leveled) → tokens_of (us ++ vs) ≡ tokens_of us ++ tokens_of vs
tokens-append [] vs = refl
tokens-append (u ∷ us) vs = ap (λ ts. u.0 ∷ ts) (tokens-append us vs)

pub tokens-append-rest : (us vs : List Leveled) (rest : List Token) → tokens_of (us ++ vs) ++ rest ≡ tokens_of us ++ (tokens_of vs ++ rest)
tokens-append-rest us vs rest = ap (λ ts. ts ++ rest) (tokens-append us vs) ∙ append_assoc (tokens_of us) (tokens_of vs) rest

pub and_then-cut : {A B : Type 0} (us : List Leveled) (rest : List Token) (o : Outcome A) (f : A → Parser B)
    → and_then (cut us rest o) f ≡ cut us rest (and_then o f)
and_then-cut [] rest o f = refl
and_then-cut (u ∷ us) rest o f =
    elim (nat_le u.1 max_level) as (λ b. and_then (if b then cut us rest o else (Err TooDeep, at max_level (u.0 ∷ tokens_of us ++ rest))) f
    ≡ (if b then cut us rest (and_then o f) else (Err TooDeep, at max_level (u.0 ∷ tokens_of us ++ rest))))
    [ true ↦ and_then-cut us rest o f | false ↦ refl ]

pub cut-append : {A : Type 0} (us vs : List Leveled) (rest : List Token) (o : Outcome A)
    → cut (us ++ vs) rest o ≡ cut us (tokens_of vs ++ rest) (cut vs rest o)
cut-append [] vs rest o = refl
cut-append (u ∷ us) vs rest o = rw (cut-append us vs rest o, tokens-append-rest us vs rest) refl

pub fits_by : (ℓ : ℕ) → nat_le ℓ max_level ≡ true → ℓ ≤ max_level
fits_by ℓ h = grind (arith, nat_tests)

pub by_fits : (ℓ : ℕ) → ℓ ≤ max_level → nat_le ℓ max_level ≡ true
by_fits ℓ h = grind (arith, nat_tests)

-- what comes after the tokens counts only where all of them fit
pub cut_under : {A : Type 0} (us : List Leveled) (rest : List Token) (o o' : Outcome A) → (Fits us → o ≡ o') → cut us rest o ≡ cut us rest o'
cut_under [] rest o o' h = h tt
cut_under (u ∷ us) rest o o' h =
    elim (nat_le u.1 max_level) as (λ b. nat_le u.1 max_level ≡ b → (if b then cut us rest o else (Err TooDeep, at max_level (u.0 ∷ tokens_of us ++ rest)))
    ≡ (if b then cut us rest o' else (Err TooDeep, at max_level (u.0 ∷ tokens_of us ++ rest))))
    [ true ↦ λ e. cut_under us rest o o' (λ f. h (fits_by u.1 e, f)) | false ↦ λ e. refl ] refl
