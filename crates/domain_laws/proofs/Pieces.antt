-- Pieces of elements that stay whole, and of pairs.
use Rattle.std.proofs.Common.{◌≡◌, ℕ, ◌<◌, ◌^◌, Option, None, Some, arith, subst, sym}
use Rattle.std.specs.Prelude.{IfSome, option_map}
use Rattle.semantics_values.specs.declared.entry.KeyAt.{KeyAt}
use Rattle.semantics_values.specs.States.{State}
use Rattle.fixpoint_theory.specs.Elements.{Elements}
use Rattle.fixpoint_theory.specs.Pairs.{paired}
use Rattle.fixpoint_cases.specs.Pieces.{Piece, both_there, pair_piece, whole_piece}
use Rattle.fixpoint_cases.specs.Same.{IsSamePiece}
use Rattle.fixpoint_cases.proofs.Pieces.{elements_may_stay_uncut, pairs_are_cut}
use Rattle.fixpoint_cases.proofs.SamePieces.{pairs_have_same_pieces}
use Rattle.domain_laws.specs.Pieces.{AreCut, number_of}

pub numbers_fit : (cell : ℕ × KeyAt) (s : State) → number_of cell s < 2 ^ 64
numbers_fit cell s = omega arith

pub stay_whole : {E : Type 0} (D : Elements E State) → AreCut D whole_piece
stay_whole D = record {
  laws = elements_may_stay_uncut D number_of numbers_fit;
  alike = λ cell low high x y fx fy same. same;
}

pub pairs_cut : {E F : Type 0} (D : Elements E State) (G : Elements F State) (first : Piece (ℕ × KeyAt) E) (second : Piece (ℕ × KeyAt) F) → AreCut D first → AreCut G second
    → AreCut (paired D G) (pair_piece first second)
pairs_cut D G first second h k = record {
  laws = pairs_are_cut D G number_of first second h.laws k.laws;
  alike = pairs_have_same_pieces D G first second h.alike k.alike;
}

-- ---- what is left in code
-- where the same is equality, equal pieces are the same
pub equal_pieces : {E S : Type 0} (D : Elements E S) → ((x : E) → D.same x x) → (o p : Option E) → o ≡ p → IsSamePiece D o p
equal_pieces D itself None p e = subst (IsSamePiece D None) e tt
equal_pieces D itself (Some x) p e = subst (IsSamePiece D (Some x)) e (itself x)

-- what holds of a piece holds of the one that is seen so
pub seen_piece : {X E : Type 0} (view : X → E) (P : E → Type 0) (r : Option X) (p : Option E) → option_map view r ≡ p → IfSome p P → IfSome r (λ x. P (view x))
seen_piece view P None p e h = tt
seen_piece view P (Some x) p e h = subst (λ o. IfSome o P) (sym e) h

-- both parts, seen
pub both_seen : {X Y E F S : Type 0} (D : Elements E S) (G : Elements F S) (first : X → E) (second : Y → F) (x : Option X) (y : Option Y) (p : Option E) (q : Option F)
    → IsSamePiece D (option_map first x) p → IsSamePiece G (option_map second y) q
    → IsSamePiece (paired D G) (option_map (λ z. (first z.0, second z.1)) (both_there x y)) (both_there p q)
both_seen D G first second None y None q h k = tt
both_seen D G first second None y (Some p) q h k = absurd h
both_seen D G first second (Some x) y None q h k = absurd h
both_seen D G first second (Some x) None (Some p) None h k = tt
both_seen D G first second (Some x) None (Some p) (Some q) h k = absurd k
both_seen D G first second (Some x) (Some y) (Some p) None h k = absurd k
both_seen D G first second (Some x) (Some y) (Some p) (Some q) h k = (h, k)

-- and what holds of both
pub both_kept : {X Y : Type 0} (P : X → Type 0) (Q : Y → Type 0) (x : Option X) (y : Option Y) → IfSome x P → IfSome y Q → IfSome (both_there x y) (λ z. P z.0 × Q z.1)
both_kept P Q None y h k = tt
both_kept P Q (Some x) None h k = tt
both_kept P Q (Some x) (Some y) h k = (h, k)
