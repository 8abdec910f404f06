-- What was told of elements stays told, until they change.
use Rattle.std.proofs.Common.{◌≡◌, ℕ, false, Option, None, Some, ap, sym, subst}
use Rattle.std.specs.Prelude.{IfSome, if◌then◌else◌, option_map}
use Rattle.std.specs.Ordering.{nat_cmp}
use Rattle.std.specs.BTreeMap.{get}
use Rattle.std.specs.BTreeSet.{contains}
use Rattle.fixpoint_theory.specs.Analysis.{Analysis}
use Rattle.fixpoint_theory.specs.Table.{Tells}
use Rattle.fixpoint_theory.specs.WorklistState.{IsComplete}
use Rattle.fixpoint_theory.specs.declared.table.Block.{Block}
use Rattle.fixpoint_theory.proofs.Growth.{by_same}
use Rattle.fixpoint_worklist.specs.Settled.{AreSettled, IsSettled, IsToldOf, changed_at, settled_in, told_listing, with_told}
use Rattle.fixpoint_worklist.specs.Views.{reached_at, worklist_state_in}
use Rattle.fixpoint_worklist.specs.declared.told.Told.{Told}
use Rattle.fixpoint_worklist.specs.declared.worklist.Worklist.{Worklist}

module _ {E P W S : Type 0} (view : E → P) (A : Analysis P W S) where
  -- where nothing stands
  pub none_settled : (w : Worklist E) → ((a : ℕ) → settled_in w a ≡ None) → AreSettled view A w
  none_settled w none a = subst (IsSettled view A a) (sym (none a)) tt

  -- where another element stands at one address, which is pending
  pub pending_settled : (old new : Worklist E) (at : ℕ) → AreSettled view A old → ((a : ℕ) → settled_in new a ≡ changed_at at None (settled_in old) a) → AreSettled view A new
  pending_settled old new at settled same a =
      subst (IsSettled view A a) (sym (same a))
      (by_same a at (λ b. IsSettled view A a (if b then None else settled_in old a)) (λ here. tt) (λ apart. settled a))

  told_at : (w : Worklist E) (at : ℕ) (told : Told) (x : Option (Block E))
      → IfSome (option_map (reached_at view w at) x) (λ r. Tells A (told_listing r.elem told) (A.transfer at r.elem)) → IsSettled view A at (option_map (with_told told) x)
  told_at w at told None h = tt
  told_at w at told (Some b) h = h

  -- where this is told of the element at an address
  pub told_settled : (old new : Worklist E) (at : ℕ) (told : Told) → AreSettled view A old
      → IfSome (worklist_state_in view old at) (λ r. Tells A (told_listing r.elem told) (A.transfer at r.elem))
      → ((a : ℕ) → settled_in new a ≡ changed_at at (option_map (with_told told) (get nat_cmp old.blocks at)) (settled_in old) a) → AreSettled view A new
  told_settled old new at told settled tells same a =
      subst (IsSettled view A a) (sym (same a))
      (by_same a at (λ b. IsSettled view A a (if b then option_map (with_told told) (get nat_cmp old.blocks at) else settled_in old a))
      (λ here. subst (λ a. IsSettled view A a (option_map (with_told told) (get nat_cmp old.blocks at))) (sym here)
      (told_at old at told (get nat_cmp old.blocks at) tells))
      (λ apart. settled a))

  -- Where nothing is pending, each block lists what the transfer of its element tells.
  pub all_told : (w : Worklist E) → AreSettled view A w → IsComplete (worklist_state_in view w) → (a : ℕ) (b : Block E) → get nat_cmp w.blocks a ≡ Some b → IsToldOf view A a b
  all_told w settled complete a b is =
      let still : contains nat_cmp w.pending a ≡ false = complete a (reached_at view w a b) (ap (option_map (reached_at view w a)) is) in
      let here : settled_in w a ≡ Some b = subst (λ c. (if c then None else get nat_cmp w.blocks a) ≡ Some b) (sym still) is in
      subst (IsSettled view A a) here (settled a)
