-- The first pending address is the least.
use Rattle.std.proofs.Common.{◌≡◌, ◌∙◌, ℕ, true, Option, None, Some, ap, refl, sym}
use Rattle.std.specs.Prelude.{IsSome, option_map}
use Rattle.std.specs.Ordering.{nat_cmp}
use Rattle.std.specs.BTreeMap.{get}
use Rattle.std.specs.BTreeSet.{contains, IsLowerBound}
use Rattle.std.proofs.lemmas.Map.Keys.{le_from_not_gt}
use Rattle.fixpoint_theory.specs.WorklistState.{IsLeastPending, Reached}
use Rattle.fixpoint_theory.specs.declared.table.Block.{Block}
use Rattle.fixpoint_worklist.specs.Views.{IsReached, worklist_state_in, reached_at}
use Rattle.fixpoint_worklist.specs.declared.worklist.Worklist.{Worklist}

module _ {E P : Type 0} (view : E → P) (w : Worklist E) where
  stands_at : (a : ℕ) (y : Option (Block E)) → get nat_cmp w.blocks a ≡ y → IsSome y → (b : Block E) × (worklist_state_in view w a ≡ Some (reached_at view w a b))
  stands_at a None is some = cc
  stands_at a (Some b) is some = (b, ap (option_map (reached_at view w a)) is)

  pending_from : (a : ℕ) (y : Option (Block E)) (s : Reached P) → option_map (reached_at view w a) y ≡ Some s → s.pending ≡ contains nat_cmp w.pending a
  pending_from a None s is = cc
  pending_from a (Some b) s is = let same : reached_at view w a b ≡ s = cc in sym (ap (λ (r : Reached P). r.pending) same)

  pub first_least : (at : ℕ) → IsReached w → contains nat_cmp w.pending at ≡ true → IsLowerBound nat_cmp w.pending at → (r : Reached P) × IsLeastPending (worklist_state_in view w) at r
  first_least at reached has least =
      let found = stands_at at (get nat_cmp w.blocks at) refl (reached at has) in (
        reached_at view w at found.0,
        record {
          stands = found.1;
          pending = has;
          least = λ b s is pending. le_from_not_gt at b (least b (sym (pending_from b (get nat_cmp w.blocks b) s is) ∙ pending));
        },
      )
