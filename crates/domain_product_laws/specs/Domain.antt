-- Two domains side by side: each call acts on both parts, and state values are put side by side and taken apart.
use Rattle.std.specs.Prelude.{◌≡◌, ℕ, ◌+◌, Bool, false, ◌&&◌, not, ◌⊎◌, if◌then◌else◌}
use Rattle.base_trait.specs.Algebra.{Algebra}
use Rattle.base_product.specs.Meaning.{paired}
use Rattle.abstract_map_laws.specs.Laws.{HasRoom}
use Rattle.spec_ir.specs.Specification.{Spec}
use Rattle.semantics_values.specs.States.{State}
use Rattle.fixpoint_theory.specs.Elements.{Elements}
use Rattle.fixpoint_theory.specs.Pairs.{paired as paired_elements}
use Rattle.domain_laws.specs.Domain.{DomainLaws, Meaning}
use Rattle.domain_product_laws.specs.Calls.{first_value, second_value, zip_value}

module _ {E F V W M N C D : Type 0} (A : Algebra V M C) (B : Algebra W N D) (cap : ℕ) (first : Meaning E V M C) (second : Meaning F W N D) where
  -- The valuation is that of the part that looks at it.
  abbrev pub pair_meaning : Meaning (E × F) (V × W) (M × N) (C × D)
  pair_meaning = record {
    context = (first.context, second.context);
    valuation = λ s. if A.words.looks then first.valuation s else second.valuation s;
    entry = λ lines. (first.entry lines, second.entry lines);
    opened = λ pc x. zip_value A B (first.context, second.context) cap (first.opened pc x.0) (second.opened pc x.1);
    closed = λ before value. (first.closed before.0 (first_value value), second.closed before.1 (second_value value));
    rank = λ x. first.rank x.0 + second.rank x.1;
  }

  -- At most one part looks at the valuation, or both have the same one.
  abbrev pub ShareValuation : Type 0
  ShareValuation = (A.words.looks ≡ false) ⊎ (B.words.looks ≡ false) ⊎ ((s : State) → first.valuation s ≡ second.valuation s)

  -- Two domains for a specification, side by side, are one for it.
  abbrev pub PairsKeepTheLaws : Elements E State → Elements F State → Type 0
  PairsKeepTheLaws P Q = (spec : Spec) → HasRoom (paired A B) cap → ShareValuation → DomainLaws A cap spec P first → DomainLaws B cap spec Q second
      → DomainLaws (paired A B) cap spec (paired_elements P Q) pair_meaning

-- Whether domains over two bases may stand side by side: both join, and at most one looks at the valuation.
abbrev pub may_pair : {V W M N C D : Type 0} → Algebra V M C → Algebra W N D → Bool
may_pair A B = A.joins && (B.joins && not (A.words.looks && B.words.looks))
