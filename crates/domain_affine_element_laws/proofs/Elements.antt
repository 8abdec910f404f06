-- Submodules keep the laws of elements.
use Rattle.std.proofs.Common.{◌≡◌, ℕ, ◌<◌, Bool, true, false, IsTrue, List, ◌∷◌, ◌++◌, refl, sym, arith, ◌⊎◌, inl, inr}
use Rattle.support_modular_rows.specs.Laws.{IsWithin}
use Rattle.support_modular_rows.specs.Submodule.{IsMember, Submodule}
use Rattle.support_modular_rows.proofs.Closure.{append_joins}
use Rattle.support_modular_rows.proofs.Ranks.{rank_falls, rank_is_bounded}
use Rattle.domain_affine_element_laws.specs.Elements.{SameMembers}
use Rattle.domain_affine_element_laws.specs.Ranks.{rank_of}
use Rattle.domain_affine_element_laws.proofs.Ranks.{is_rank}
use Rattle.domain_affine_element_laws.specs.Laws.{HasRank, JoinIsLeast, SubmodulesHold, SubmodulesKeepTheLaws}
use Rattle.domain_affine_element_laws.specs.Membership.{are_members}
use Rattle.domain_affine_element_laws.proofs.Membership.{absorbs_within, some_outside}

pub has_rank : HasRank
has_rank k rows = is_rank k rows

module _ (k : ℕ) where
  itself : (rows : List (List ℕ)) → IsWithin k rows rows
  itself rows x h = h

  absorbs_from : (rows others : List (List ℕ)) → IsWithin k others rows → IsTrue (are_members k rows others)
  absorbs_from rows others h = (absorbs_within k rows others).1 h

  absorbed : (rows others : List (List ℕ)) → IsTrue (are_members k rows others) → IsWithin k others rows
  absorbed rows others h = (absorbs_within k rows others).0 h

  left : (xs ys : List (List ℕ)) → IsWithin k xs (xs ++ ys)
  left xs ys = (append_joins k xs ys).left

  right : (xs ys : List (List ℕ)) → IsWithin k ys (xs ++ ys)
  right xs ys = (append_joins k xs ys).right

  least : (xs ys zs : List (List ℕ)) → IsWithin k xs zs → IsWithin k ys zs → IsWithin k (xs ++ ys) zs
  least xs ys zs = (append_joins k xs ys).least zs

  onwards : (xs ys zs : List (List ℕ)) → IsWithin k xs ys → IsWithin k ys zs → IsWithin k xs zs
  onwards xs ys zs h g x member = g x (h x member)

  -- both of one submodule
  to : (xs ys : List (List ℕ)) → SameMembers k xs ys → IsWithin k xs ys
  to xs ys same x = (same x).0

  back : (xs ys : List (List ℕ)) → SameMembers k xs ys → IsWithin k ys xs
  back xs ys same x = (same x).1

  pub joins_same : (xs xs' ys ys' : List (List ℕ)) → SameMembers k xs xs' → SameMembers k ys ys' → SameMembers k (xs ++ ys) (xs' ++ ys')
  joins_same xs xs' ys ys' a b x = (
    least xs ys (xs' ++ ys') (onwards xs xs' (xs' ++ ys') (to xs xs' a) (left xs' ys')) (onwards ys ys' (xs' ++ ys') (to ys ys' b) (right xs' ys')) x,
    least xs' ys' (xs ++ ys) (onwards xs' xs (xs ++ ys) (back xs xs' a) (left xs ys)) (onwards ys' ys (xs ++ ys) (back ys ys' b) (right xs ys)) x,
  )

  one_test : (b c : Bool) → (IsTrue b → IsTrue c) → (IsTrue c → IsTrue b) → b ≡ c
  one_test true c f g = sym (f refl)
  one_test false true f g = g refl
  one_test false false f g = refl

  absorbs_same : (xs xs' ys ys' : List (List ℕ)) → SameMembers k xs xs' → SameMembers k ys ys' → are_members k xs ys ≡ are_members k xs' ys'
  absorbs_same xs xs' ys ys' a b =
      one_test (are_members k xs ys) (are_members k xs' ys')
      (λ h. absorbs_from xs' ys' (onwards ys' ys xs' (back ys ys' b) (onwards ys xs xs' (absorbed xs ys h) (to xs xs' a))))
      (λ h. absorbs_from xs ys (onwards ys ys' xs (to ys ys' b) (onwards ys' xs' xs (absorbed xs' ys' h) (back xs xs' a))))

  rank_same : (xs ys : List (List ℕ)) → SameMembers k xs ys → rank_of k xs ≡ rank_of k ys
  rank_same xs ys same =
      let down = (rank_falls k (rank_of k xs) (rank_of k ys) xs ys (to xs ys same) (has_rank k xs) (has_rank k ys)).0 in
      let up = (rank_falls k (rank_of k ys) (rank_of k xs) ys xs (back xs ys same) (has_rank k ys) (has_rank k xs)).0 in
      omega (arith, down, up)

  rank_less : (xs ys : List (List ℕ)) → are_members k xs ys ≡ false → rank_of k (xs ++ ys) < rank_of k xs
  rank_less xs ys e =
      let out = some_outside k xs ys e in
      (rank_falls k (rank_of k xs) (rank_of k (xs ++ ys)) xs (xs ++ ys) (left xs ys) (has_rank k xs) (has_rank k (xs ++ ys))).1 out.0 (right xs ys out.0 out.1) out.2

module _ {S : Type 0} (valuation : S → List ℕ) where
  pub submodules_keep_the_laws : SubmodulesKeepTheLaws valuation
  submodules_keep_the_laws k = record {
    join_fits = λ x y f g. refl;
    widen_fits = λ old new f g. refl;
    join_absorbs = λ x y f g. (absorbs_from k (x.rows ++ y.rows) x.rows (left k x.rows y.rows), absorbs_from k (x.rows ++ y.rows) y.rows (right k x.rows y.rows));
    widen_absorbs = λ old new f g. (absorbs_from k (old.rows ++ new.rows) old.rows (left k old.rows new.rows), absorbs_from k (old.rows ++ new.rows) new.rows (right k old.rows new.rows));
    absorbs_itself = λ x f. absorbs_from k x.rows x.rows (itself k x.rows);
    absorbs_on = λ x y z f g h a b. absorbs_from k x.rows z.rows (onwards k z.rows y.rows x.rows (absorbed k y.rows z.rows b) (absorbed k x.rows y.rows a));
    absorbs_holds = λ old new s f g a h. absorbed k old.rows new.rows a (1 ∷ valuation s) h;
    widen_keeps = λ old new f g a x. (least k old.rows new.rows old.rows (itself k old.rows) (absorbed k old.rows new.rows a) x, left k old.rows new.rows x);
    widen_falls = λ stamps old new f g a b e. rank_less k old.rows new.rows e;
    rank_height = λ stamps x f. rank_is_bounded k (rank_of k x.rows) x.rows (has_rank k x.rows);
    join_lists = λ x y f g. tt;
    widen_lists = λ old new f g. tt;
    same_itself = λ x y. (λ h. h, λ h. h);
    same_back = λ x y same v. ((same v).1, (same v).0);
    same_on = λ x y z a b v. (λ h. (b v).0 ((a v).0 h), λ h. (a v).1 ((b v).1 h));
    same_join = λ x x' y y' f f' g g' a b. joins_same k x.rows x'.rows y.rows y'.rows a b;
    same_widen = λ x x' y y' f f' g g' a b. joins_same k x.rows x'.rows y.rows y'.rows a b;
    same_absorbs = λ x x' y y' f f' g g' a b. absorbs_same k x.rows x'.rows y.rows y'.rows a b;
    same_lists = λ x y same. tt;
    same_rank = λ stamps x y f g same. rank_same k x.rows y.rows same;
  }

  pub join_is_least : JoinIsLeast valuation
  join_is_least k x y z a b = absorbs_from k z.rows (x.rows ++ y.rows) (least k x.rows y.rows z.rows (absorbed k z.rows x.rows a) (absorbed k z.rows y.rows b))

  pub submodules_hold : SubmodulesHold valuation
  submodules_hold k = (λ x y s f g h. let member = either x y s h in (member, member), λ x y s f g same h. (same (1 ∷ valuation s)).0 h)
    where
      either : (x y : Submodule) (s : S) → IsMember k x.rows (1 ∷ valuation s) ⊎ IsMember k y.rows (1 ∷ valuation s) → IsMember k (x.rows ++ y.rows) (1 ∷ valuation s)
      either x y s (inl h) = left k x.rows y.rows (1 ∷ valuation s) h
      either x y s (inr h) = right k x.rows y.rows (1 ∷ valuation s) h
