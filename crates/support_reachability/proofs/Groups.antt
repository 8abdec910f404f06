-- What a table says of groups.
use Rattle.std.proofs.Common.{◌≡◌, ◌⊎◌, ℕ, zero, suc, ◌+◌, ◌-◌, ◌<◌, ◌≤◌, Bool, true, false, cond, eqb, ◌&&◌, ◌||◌, List, length, refl, sym, ap, ◌∙◌, subst, inl, inr, arith}
use Rattle.std.proofs.lemmas.Bool.{cases_eq, cond_both, false≢true}
use Rattle.std.proofs.lemmas.Bool.Decides.{Decides-eqb}
use Rattle.support_reachability.specs.Graph.{SameGroup, IsLeastOfGroup}
use Rattle.support_reachability.specs.Table.{IsTableOf, says, same_group, least_from, group}
use Rattle.support_reachability.specs.Laws.{GroupsAreTold}
use Rattle.support_reachability.proofs.Searching.{leads}

pub least_step : (t : List (List Bool)) (a b n : ℕ) → b < n → least_from t a b (n - b) ≡ cond (same_group t a b) b (least_from t a (b + 1) (n - (b + 1)))
least_step t a b n l = ap (least_from t a b) one
  where
    one : n - b ≡ suc (n - (b + 1))
    one = omega arith

split : (x y z : Bool) → x || (y && z) ≡ true → (x ≡ true) ⊎ ((y ≡ true) × (z ≡ true))
split true y z h = inl refl
split false true z h = inr (refl, h)
split false false z h = absurd (false≢true h)

join : (x y z : Bool) → (x ≡ true) ⊎ ((y ≡ true) × (z ≡ true)) → x || (y && z) ≡ true
join true y z h = refl
join false y z (inl h) = absurd (false≢true h)
join false true true (inr h) = refl
join false true false (inr h) = absurd (false≢true h.1)
join false false z (inr h) = absurd (false≢true h.0)

module _ (graph : List (List ℕ)) (t : List (List Bool)) (table : IsTableOf graph t) where
  pub same_from : (a b : ℕ) → a < length graph → b < length graph → same_group t a b ≡ true → SameGroup graph a b
  same_from a b la lb h = elim (split (eqb a b) (says t a b) (says t b a) h) [
    | inl e ↦ inl ((Decides-eqb a b).0 e)
    | inr p ↦ inr ((table.entries a b lb).0 p.0, (table.entries b a la).0 p.1)
  ]

  pub same_to : (a b : ℕ) → a < length graph → b < length graph → SameGroup graph a b → same_group t a b ≡ true
  same_to a b la lb s = join (eqb a b) (says t a b) (says t b a) (both s)
    where
      both : SameGroup graph a b → (eqb a b ≡ true) ⊎ ((says t a b ≡ true) × (says t b a ≡ true))
      both (inl e) = inl ((Decides-eqb a b).1 e)
      both (inr p) = inr ((table.entries a b lb).1 p.0, (table.entries b a la).1 p.1)

  least_same : (a b n : ℕ) → a < length graph → b + n ≤ length graph → SameGroup graph a (least_from t a b n)
  least_same a b zero la w = inl refl
  least_same a b (suc n) la w = cond_both (same_group t a b) b (least_from t a (b + 1) n) (SameGroup graph a)
      (λ is. same_from a b la (omega arith) is) (λ is. least_same a (b + 1) n la (omega arith))

  past : (a b x : ℕ) → a < length graph → b < length graph → SameGroup graph a x → b ≤ x → same_group t a b ≡ false → b + 1 ≤ x
  past a b x la lb s l none = elim (cases_eq x b) [
    | inl same ↦ absurd (false≢true (sym none ∙ same_to a b la lb (subst (SameGroup graph a) same s)))
    | inr apart ↦ omega (arith, apart)
  ]

  least_below : (a b n x : ℕ) → a < length graph → b + n ≤ length graph → b ≤ x → x < b + n → SameGroup graph a x → least_from t a b n ≤ x
  least_below a b zero x la w l u s = absurd (omega arith)
  least_below a b (suc n) x la w l u s = cond_both (same_group t a b) b (least_from t a (b + 1) n) (λ k. k ≤ x)
      (λ is. l) (λ is. least_below a (b + 1) n x la (omega arith) (past a b x la (omega arith) s l is) (omega arith) s)

  pub inside : (a b : ℕ) → a < length graph → SameGroup graph a b → b < length graph
  inside a b la (inl e) = subst (λ n. n < length graph) e la
  inside a b la (inr p) = leads graph b a p.1

  pub least : (a : ℕ) → a < length graph → IsLeastOfGroup graph a (group t a)
  least a la = record {
    same = least_same a 0 (length t) la whole;
    below = λ b s. least_below a 0 (length t) b la whole (omega arith) (reached b (inside a b la s)) s;
  }
    where
      whole : 0 + length t ≤ length graph
      whole = omega (arith, table.height)

      reached : (b : ℕ) → b < length graph → b < 0 + length t
      reached b l = omega (arith, l, table.height)

  pub groups_are_told : GroupsAreTold graph t
  groups_are_told = record {
    same = λ a b la lb. (same_from a b la lb, same_to a b la lb);
    least = least;
  }
