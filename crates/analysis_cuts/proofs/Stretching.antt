-- The pieces of the stretches between cuts.
use Rattle.std.proofs.Common.{◌≡◌, ◌∙◌, ℕ, suc, ◌+◌, ◌-◌, ◌<◌, ◌^◌, List, [], ◌∷◌, ◌++◌, length, get_or, drop, Option, None, Some, ap, sym, subst, drop-cons, add-one, append-nil}
use Rattle.std.proofs.lemmas.List.{append_assoc}
use Rattle.fixpoint_theory.specs.Elements.{Elements}
use Rattle.fixpoint_cases.specs.Lists.{if_there}
use Rattle.fixpoint_cases.specs.Pieces.{Piece, pieces_at, stretches}
use Rattle.fixpoint_cases.specs.Same.{AreSame, IsSamePiece}
use Rattle.fixpoint_cases.proofs.SameLists.{same_both}
use Rattle.analysis_cuts.specs.Pieces.{Joins}

-- with one piece more
pub joins_some : {E S : Type 0} (D : Elements E S) (before after : List E) (x : E) (p : Option E) → after ≡ before ++ x ∷ [] → IsSamePiece D (Some x) p → Joins D before after p
joins_some D before after x None e h = absurd h
joins_some D before after x (Some y) e h = (x ∷ [], e, (h, tt))

-- in front of more
there_first : {E : Type 0} (done : List E) (o : Option E) (rest : List E) → done ++ if_there o rest ≡ (done ++ if_there o []) ++ rest
there_first done None rest = ap (λ l. l ++ rest) (sym (append-nil done))
there_first done (Some x) rest = sym (append_assoc done (x ∷ []) rest)

module _ {Cell E S : Type 0} (D : Elements E S) (piece : Piece Cell E) (cell : Cell) (x : E) where
  -- The elements are the same as some, which with what is left give all.
  abbrev pub AreSoFar : List E → List E → List (ℕ × ℕ) → Type 0
  AreSoFar all out rest = (done : List E) × AreSame D out done × (all ≡ done ++ pieces_at piece cell rest x)

  -- one piece more
  more_same : (out done next : List E) (o : Option E) → AreSame D out done → Joins D out next o → AreSame D next (done ++ if_there o [])
  more_same out done next o same joins = subst (λ l. AreSame D l (done ++ if_there o [])) (sym joins.1) (same_both D out done joins.0 (if_there o []) same joins.2)

  -- behind one stretch more
  pub one_stretch : (cuts : List ℕ) (i low cut : ℕ) (all out next : List E) → i < length cuts → cut ≡ get_or cuts i 0 → AreSoFar all out (stretches low (drop i cuts)) → Joins D out next (piece cell low (cut - 1) x)
      → AreSoFar all next (stretches cut (drop (i + 1) cuts))
  one_stretch cuts i low cut all out next lt is before joins =
      let done = before.0 in
      let split : drop i cuts ≡ cut ∷ drop (i + 1) cuts =
      drop-cons cuts i 0 lt ∙ ap (λ n. n ∷ drop (suc i) cuts) (sym is) ∙ ap (λ k. cut ∷ drop k cuts) (sym (add-one i)) in (
        done ++ if_there (piece cell low (cut - 1) x) [],
        more_same out done next (piece cell low (cut - 1) x) before.1 joins,
        before.2 ∙ ap (λ l. done ++ pieces_at piece cell (stretches low l) x) split
            ∙ there_first done (piece cell low (cut - 1) x) (pieces_at piece cell (stretches cut (drop (i + 1) cuts)) x),
      )

  -- behind the last
  pub last_stretch : (low : ℕ) (all out next : List E) → AreSoFar all out (stretches low []) → Joins D out next (piece cell low (2 ^ 64 - 1) x) → AreSame D next all
  last_stretch low all out next before joins = subst (AreSame D next) (sym before.2) (more_same out before.0 next (piece cell low (2 ^ 64 - 1) x) before.1 joins)
