-- The laws of two domains side by side.
use Rattle.std.specs.Prelude.{◌≡◌, ℕ, ◌^◌, max, Bool, ◌&&◌, IsTrue, if◌then◌else◌}
use Rattle.base_trait.specs.Algebra.{Algebra}
use Rattle.base_trait.specs.Laws.{Laws}
use Rattle.base_trait.proofs.Tests.{and_parts}
use Rattle.base_product.specs.Meaning.{paired}
use Rattle.spec_ir.specs.Specification.{Spec}
use Rattle.semantics_values.specs.States.{State}
use Rattle.fixpoint_theory.specs.Elements.{Elements}
use Rattle.fixpoint_theory.specs.Pairs.{paired as paired_elements}
use Rattle.semantics_values.specs.declared.entry.KeyAt.{KeyAt}
use Rattle.fixpoint_cases.specs.Pieces.{Piece, pair_piece}
use Rattle.domain_laws.specs.Domain.{DomainLaws, Meaning}
use Rattle.domain_laws.specs.Pieces.{AreCut}
use Rattle.domain_laws.proofs.Pieces.{pairs_cut}
use Rattle.domain_product_laws.specs.Domain.{may_pair, pair_meaning}
use Rattle.domain_product_laws.proofs.Domain as proofs

module _ {E F V W M N C D : Type 0} (A : Algebra V M C) (B : Algebra W N D) (a : Laws V M C A) (b : Laws W N D B) where
  -- of two bases with the cells that each may list, for a specification that p and q say that both are for
  pub pairs_are_domains : (m n : ℕ) → m ≡ (if A.joins then 256 else 2 ^ 32) → n ≡ (if B.joins then 256 else 2 ^ 32)
      → (first : Meaning E V M C) (second : Meaning F W N D) (P : Elements E State) (Q : Elements F State) (spec : Spec) (p q : Bool) → IsTrue (p && (q && may_pair A B))
      → (IsTrue p → DomainLaws A m spec P first) → (IsTrue q → DomainLaws B n spec Q second)
      → DomainLaws (paired A B) (max m n) spec (paired_elements P Q) (pair_meaning A B (max m n) first second)
  pairs_are_domains m n e d first second P Q spec p q made left right =
      let one = and_parts p (q && may_pair A B) made in
      let two = and_parts q (may_pair A B) one.1 in
      proofs.pairs_are_domains A B a b m n first second P Q spec e d two.1 (left one.0) (right two.0)

module _ {E F V W M N C D : Type 0} (A : Algebra V M C) (B : Algebra W N D) where
  -- pieces of both parts, of a specification that p and q say that both are for
  pub pairs_are_cut : (P : Elements E State) (Q : Elements F State) (left : Piece (ℕ × KeyAt) E) (right : Piece (ℕ × KeyAt) F) (p q : Bool) → IsTrue (p && (q && may_pair A B))
      → (IsTrue p → AreCut P left) → (IsTrue q → AreCut Q right) → AreCut (paired_elements P Q) (pair_piece left right)
  pairs_are_cut P Q left right p q made cut_left cut_right =
      let one = and_parts p (q && may_pair A B) made in
      let two = and_parts q (may_pair A B) one.1 in
      pairs_cut P Q left right (cut_left one.0) (cut_right two.0)
