use Rattle.std.proofs.Common.{◌≡◌, List, ℕ, Bool, true, false, Option, Some, None, cond, length, sym, subst, ◌∙◌, arith}
use Rattle.std.specs.Prelude.{IfSome, option_map, nat_le}
use Rattle.base_trait.specs.Lists.{IsAscending}
use Rattle.base_kset.specs.Instance.{placed_ascends}
use Rattle.base_kset.specs.Sets.{bounded, items_or_none, placed}
use Rattle.base_kset.proofs.set.Set.add.Goals as goal
use Rattle.base_kset.proofs.set.Set.add.Goals.{in-Some, in-None}

bounded_ascends : (b : Bool) (s t : List ℕ) → cond b (Some s) None ≡ Some t → IsAscending s → IsAscending t
bounded_ascends true s t e h = let same : s ≡ t = cc in subst IsAscending same h
bounded_ascends false s t e h = cc

module _ {A : Type 0} (items : A → List ℕ) where
  ascends : (K : ℕ) (s : List ℕ) (set : Option A) → IsAscending s → IfSome set (λ v. bounded K s ≡ Some (items v)) → IsAscending (items_or_none (option_map items set))
  ascends K s None a h = tt
  ascends K s (Some v) a h = bounded_ascends (nat_le (length s) K) s (items v) h a

pub invariant_of-self : goal.invariant_of-self
invariant_of-self g c =
    elim c.match-take.branch [
      | in-Some w ↦
          let before = subst (λ s. IsAscending (items_or_none (option_map (λ v. v.items) s))) (sym c.take.ensures.value ∙ w.in-Some.is) c.self.invariant in
          subst (λ s. IsAscending (items_or_none (option_map (λ v. v.items) s))) (sym w.self-is)
          (ascends (λ v. v.items) g.row.K (placed c.args.x w.in-Some.items.items) w.with_number-self-inside.result (placed_ascends 0 c.args.x w.in-Some.items.items before (omega arith)) w.with_number-self-inside.ensures.some)
      | in-None w ↦ subst (λ s. IsAscending (items_or_none (option_map (λ v. v.items) s))) (sym w.self-is) tt
    ]
