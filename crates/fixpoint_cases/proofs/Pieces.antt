-- Pieces by any cuts cover the element, so that a choice of cells and cuts splits it.
use Rattle.std.proofs.Common.{◌≡◌, ℕ, ◌<◌, ◌≤◌, ◌-◌, ◌^◌, Bool, true, false, List, [], ◌∷◌, ◌++◌, ◌⊎◌, inl, inr, Option, Some, None, option_map, refl, subst, arith}
use Rattle.std.specs.Prelude.{nat_lt, IfSome, IsSomeAnd}
use Rattle.std.proofs.lemmas.Bool.Decides.{nat_tests}
use Rattle.base_trait.specs.Lists.{AreAmong, Each, IsAmong}
use Rattle.base_trait.specs.declared.uses.Stamp.{Stamp}
use Rattle.base_trait.proofs.Lists.{among_either, among_left, among_right, are_among_at, are_among_from}
use Rattle.fixpoint_theory.specs.Elements.{Elements}
use Rattle.fixpoint_cases.specs.Cases.{IsSplit}
use Rattle.fixpoint_cases.specs.Lists.{OneOf, if_there}
use Rattle.fixpoint_cases.specs.Pieces.{both_there, Piece, PieceLaws, PiecesCover, pieces, pieces_at, split_by, stretches}
use Rattle.fixpoint_cases.proofs.Lists.{each_there, one_later, one_there}
use Rattle.fixpoint_cases.specs.Laws.{ChoicesSplit, ElementsMayStayUncut, PairsAreCut}

module _ {Cell E S : Type 0} (D : Elements E S) (number : Cell → S → ℕ) (piece : Piece Cell E) (laws : PieceLaws D number piece) where
  pub each_piece : (P : E → Type 0) (cell : Cell) (x : E) (rs : List (ℕ × ℕ)) → ((low high : ℕ) → IfSome (piece cell low high x) P) → Each P (pieces_at piece cell rs x)
  each_piece P cell x [] f = tt
  each_piece P cell x (r ∷ rs) f = each_there P (piece cell r.0 r.1 x) (pieces_at piece cell rs x) (f r.0 r.1) (each_piece P cell x rs f)

  -- the number lies in one of the stretches from low on
  one_piece : (P : E → Type 0) (cell : Cell) (x : E) (n : ℕ) → n < 2 ^ 64 → ((low high : ℕ) → low ≤ n → n ≤ high → IsSomeAnd (piece cell low high x) P)
      → (cuts : List ℕ) (low : ℕ) → low ≤ n → OneOf P (pieces_at piece cell (stretches low cuts) x)
  one_piece P cell x n below f [] low h = one_there P (piece cell low (2 ^ 64 - 1) x) [] (f low (2 ^ 64 - 1) h (omega arith))
  one_piece P cell x n below f (cut ∷ cuts) low h = by (nat_lt n cut) refl (λ k. one_piece P cell x n below f cuts cut k)
    where
      rest : List E
      rest = pieces_at piece cell (stretches cut cuts) x

      by : (b : Bool) → nat_lt n cut ≡ b → (cut ≤ n → OneOf P rest) → OneOf P (if_there (piece cell low (cut - 1) x) rest)
      by true e later = one_there P (piece cell low (cut - 1) x) rest (f low (cut - 1) h (let less : n < cut = grind (arith, nat_tests) in omega (arith, less)))
      by false e later = one_later P (piece cell low (cut - 1) x) rest (later (grind (arith, nat_tests)))

  pub pieces_cover : PiecesCover D piece
  pieces_cover cell cuts x s fits holds =
      one_piece (λ y. D.holds y s) cell x (number cell s) (laws.number_fits cell s) (λ low high a b. laws.piece_holds cell low high x s fits holds a b) cuts 0 (omega arith)

  pub chosen_split : (choice : ℕ → E → Option (Cell × List ℕ)) → IsSplit D (split_by piece choice)
  chosen_split choice = record {
    pieces_fit = λ at x ps fits e. chosen (Each D.fits) at x ps (λ c cuts. each_piece D.fits c x (stretches 0 cuts) (λ low high. laws.piece_fits c low high x fits)) e;
    pieces_list = λ at x ps fits e. chosen (Each (λ y. AreAmong (D.listed y) (D.listed x))) at x ps
        (λ c cuts. each_piece (λ y. AreAmong (D.listed y) (D.listed x)) c x (stretches 0 cuts) (λ low high. laws.piece_lists c low high x fits)) e;
    pieces_cover = λ at x ps s fits holds e. chosen (OneOf (λ y. D.holds y s)) at x ps (λ c cuts. pieces_cover c cuts x s fits holds) e;
  }
    where
      chosen : (Q : List E → Type 0) (at : ℕ) (x : E) (ps : List E) → ((c : Cell) (cuts : List ℕ) → Q (pieces piece c cuts x)) → split_by piece choice at x ≡ Some ps → Q ps
      chosen Q at x ps f e = by (choice at x) e
        where
          by : (o : Option (Cell × List ℕ)) → option_map (λ c. pieces piece c.0 c.1 x) o ≡ Some ps → Q ps
          by None e = absurd cc
          by (Some c) e = let same : pieces piece c.0 c.1 x ≡ ps = cc in subst Q same (f c.0 c.1)

pub choices_split : {E S : Type 0} (D : Elements E S) → ChoicesSplit D
choices_split D number piece laws = (pieces_cover D number piece laws, chosen_split D number piece laws)

-- ---- kinds of elements
pub elements_may_stay_uncut : {E S : Type 0} (D : Elements E S) → ElementsMayStayUncut D
elements_may_stay_uncut D number fits = record {
  number_fits = fits;
  piece_fits = λ cell low high x fit. fit;
  piece_lists = λ cell low high x fit. are_among_from (D.listed x) (D.listed x) (λ s m. m);
  piece_holds = λ cell low high x s fit holds a b. holds;
}

module _ {V W : Type 0} (P : V → Type 0) (Q : W → Type 0) (R : V × W → Type 0) (joined : (x : V) (y : W) → P x → Q y → R (x, y)) where
  if_both : (x : Option V) (y : Option W) → IfSome x P → IfSome y Q → IfSome (both_there x y) R
  if_both None y h k = tt
  if_both (Some x) None h k = tt
  if_both (Some x) (Some y) h k = joined x y h k

  both_and : (x : Option V) (y : Option W) → IsSomeAnd x P → IsSomeAnd y Q → IsSomeAnd (both_there x y) R
  both_and None y h k = absurd h
  both_and (Some x) None h k = absurd k
  both_and (Some x) (Some y) h k = joined x y h k

both_among : (xs ys zs us : List Stamp) → AreAmong xs zs → AreAmong ys us → AreAmong (xs ++ ys) (zs ++ us)
both_among xs ys zs us h k = are_among_from (xs ++ ys) (zs ++ us) (λ s m. by s (among_either s xs ys m))
  where
    by : (s : Stamp) → IsAmong s xs ⊎ IsAmong s ys → IsAmong s (zs ++ us)
    by s (inl m) = among_left s zs us (are_among_at xs zs s h m)
    by s (inr m) = among_right s zs us (are_among_at ys us s k m)

pub pairs_are_cut : {E F S : Type 0} (D : Elements E S) (G : Elements F S) → PairsAreCut D G
pairs_are_cut D G number first second p q = record {
  number_fits = p.number_fits;
  piece_fits = λ cell low high x fit. if_both D.fits G.fits (λ y. D.fits y.0 × G.fits y.1) (λ y z h k. (h, k))
      (first cell low high x.0) (second cell low high x.1) (p.piece_fits cell low high x.0 fit.0) (q.piece_fits cell low high x.1 fit.1);
  piece_lists = λ cell low high x fit.
      if_both (λ y. AreAmong (D.listed y) (D.listed x.0)) (λ z. AreAmong (G.listed z) (G.listed x.1)) (λ y. AreAmong (D.listed y.0 ++ G.listed y.1) (D.listed x.0 ++ G.listed x.1))
      (λ y z h k. both_among (D.listed y) (G.listed z) (D.listed x.0) (G.listed x.1) h k)
      (first cell low high x.0) (second cell low high x.1) (p.piece_lists cell low high x.0 fit.0) (q.piece_lists cell low high x.1 fit.1);
  piece_holds = λ cell low high x s fit holds a b. both_and (λ y. D.holds y s) (λ z. G.holds z s) (λ y. D.holds y.0 s × G.holds y.1 s) (λ y z h k. (h, k))
      (first cell low high x.0) (second cell low high x.1) (p.piece_holds cell low high x.0 s fit.0 holds.0 a b) (q.piece_holds cell low high x.1 s fit.1 holds.1 a b);
}
