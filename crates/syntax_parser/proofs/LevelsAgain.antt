-- One level more, where there is one, and where there is none.
use Rattle.std.proofs.Common.{◌≡◌, ℕ, suc, ◌≤◌, ◌<◌, true, false, List, ◌∷◌, refl, nat_lt, add-one, ◌⊎◌, inl, inr, arith}
use Rattle.std.specs.Prelude.{Ok, Err, Bool, Option, Some}
use Rattle.std.proofs.lemmas.Bool.Decides.{nat_tests}
use Rattle.syntax_lexer.specs.declared.token.Token.{Token}
use Rattle.syntax_lexer.specs.declared.token.Kind.{Kind}
use Rattle.syntax_grammar.specs.declared.rules.RuleFault.TheVariants.{TooDeep}
use Rattle.syntax_grammar.specs.Parsing.{rise, enter}
use Rattle.syntax_grammar.specs.Tokens.{max_level}
use Rattle.syntax_parser.proofs.Cut.{at}

pub low_or_top : (n : ℕ) → n ≤ max_level → (n < max_level) ⊎ (n ≡ max_level)
low_or_top n h = elim (nat_lt n max_level) as (λ b. nat_lt n max_level ≡ b → (n < max_level) ⊎ (n ≡ max_level)) [ true ↦ λ e. inl (grind (arith, nat_tests)) | false ↦ λ e. inr (grind (arith, nat_tests)) ] refl

pub rise_low : (ℓ : ℕ) (rest : List Token) → ℓ < max_level → rise (at ℓ rest) ≡ (Ok tt, at (suc ℓ) rest)
unfolding rise
rise_low ℓ rest h = let e : nat_lt ℓ max_level ≡ true = grind (arith, nat_tests) in rw (e, add-one) refl

pub rise_high : (ℓ : ℕ) (rest : List Token) → ℓ ≡ max_level → rise (at ℓ rest) ≡ (Err TooDeep, at max_level rest)
unfolding rise
rise_high ℓ rest h = rw h refl

pub enter_low : (begins : Option Kind → Bool) (ℓ : ℕ) (t : Token) (ts : List Token) → begins (Some t.kind) ≡ true → ℓ < max_level → enter begins (at ℓ (t ∷ ts)) ≡ (Ok ℓ, at (suc ℓ) (t ∷ ts))
unfolding enter
enter_low begins ℓ t ts starts low = rw (starts, rise_low ℓ (t ∷ ts) low) refl

pub enter_high : (begins : Option Kind → Bool) (ℓ : ℕ) (t : Token) (ts : List Token) → begins (Some t.kind) ≡ true → ℓ ≡ max_level → enter begins (at ℓ (t ∷ ts)) ≡ (Err TooDeep, at max_level (t ∷ ts))
unfolding enter
enter_high begins ℓ t ts starts full = rw (starts, rise_high ℓ (t ∷ ts) full) refl
