-- Laws of cutting words.
use Rattle.base_trait.specs.Algebra.{Algebra}
use Rattle.base_product.specs.Meaning.{paired}
use Rattle.base_cuts.specs.Cuts.{CutLaws, Cuts, uncut}
use Rattle.base_cuts.specs.Pairs.{pair_cuts}

-- Words of any base may stay uncut.
abbrev pub WordsMayStayUncut : {W N C : Type 0} → Algebra W N C → Type 0
WordsMayStayUncut {W} {N} {C} B = CutLaws B.words (uncut {W = W} {C = C})

-- Pairs are cut as their parts are.
abbrev pub PairsAreCut : {V W M N C D : Type 0} → Algebra V M C → Algebra W N D → Type 0
PairsAreCut {V} {W} {M} {N} {C} {D} A B = (K : Cuts V C) (L : Cuts W D) → CutLaws A.words K → CutLaws B.words L → CutLaws (paired A B).words (pair_cuts K L)
