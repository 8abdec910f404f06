-- Lists of elements that are the same one by one.
use Rattle.std.proofs.Common.{List, [], ◌∷◌, ◌++◌}
use Rattle.fixpoint_theory.specs.Elements.{ElementLaws, Elements}
use Rattle.fixpoint_cases.specs.Same.{AreSame}

module _ {E S : Type 0} (D : Elements E S) where
  pub same_lists : ElementLaws D → (xs : List E) → AreSame D xs xs
  same_lists laws [] = tt
  same_lists laws (x ∷ xs) = (laws.same_itself x, same_lists laws xs)

  pub same_on : ElementLaws D → (xs ys zs : List E) → AreSame D xs ys → AreSame D ys zs → AreSame D xs zs
  same_on laws [] [] [] h k = tt
  same_on laws [] [] (z ∷ zs) h k = absurd k
  same_on laws [] (y ∷ ys) zs h k = absurd h
  same_on laws (x ∷ xs) [] zs h k = absurd h
  same_on laws (x ∷ xs) (y ∷ ys) [] h k = absurd k
  same_on laws (x ∷ xs) (y ∷ ys) (z ∷ zs) h k = (laws.same_on x y z h.0 k.0, same_on laws xs ys zs h.1 k.1)

  pub same_both : (xs ys xs' ys' : List E) → AreSame D xs ys → AreSame D xs' ys' → AreSame D (xs ++ xs') (ys ++ ys')
  same_both [] [] xs' ys' h k = k
  same_both [] (y ∷ ys) xs' ys' h k = absurd h
  same_both (x ∷ xs) [] xs' ys' h k = absurd h
  same_both (x ∷ xs) (y ∷ ys) xs' ys' h k = (h.0, same_both xs ys xs' ys' h.1 k)
