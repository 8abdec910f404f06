-- When two sets are the same.
use Rattle.std.specs.Prelude.{ℕ, Bool, true, false, ◌==◌, List, Option, Some, None, refl}
use Rattle.std.proofs.Common.{ap}
use Rattle.std.specs.Cmp.{IsEquivalence, IsPartialEquivalence}
use Rattle.base_trait.specs.Identity.{IsIdentity, IsReflexive, same_list, same_list_itself, same_list_is, identity_equiv, identity_partial}
use Rattle.base_trait.proofs.Lists.{number_itself, number_told}

abbrev pub same_numbers : List ℕ → List ℕ → Bool
same_numbers = same_list (λ x y. x == y)

abbrev pub same_set : Option (List ℕ) → Option (List ℕ) → Bool
same_set None None = true
same_set (Some s) (Some t) = same_numbers s t
same_set _ _ = false

same_set_itself : IsReflexive same_set
same_set_itself None = refl
same_set_itself (Some s) = same_list_itself (λ x y. x == y) number_itself s

pub same_set_is : IsIdentity same_set
same_set_is None None h = refl
same_set_is (Some s) (Some t) h = ap Some (same_list_is (λ x y. x == y) number_told s t h)
same_set_is None (Some t) h = cc
same_set_is (Some s) None h = cc

pub same_set_equiv : IsEquivalence same_set
same_set_equiv = identity_equiv same_set same_set_itself same_set_is

pub same_set_partial : IsPartialEquivalence same_set
same_set_partial = identity_partial same_set same_set_itself same_set_is
