-- The table of what was reached.
use Rattle.std.proofs.Common.{◌≡◌, ℕ, ◌+◌, ◌≤◌, List, [], ◌∷◌, length, Option, None, Some, IsTrue, arith, inl, inr, nat_cmp, sym, subst, ap, refl}
use Rattle.std.specs.Prelude.{All, map, option_map}
use Rattle.std.specs.declared.cmp.Ordering.TheVariants.{Less}
use Rattle.std.specs.BTreeMap.{BTreeMap, IsOrdered, btree_map_len, get}
use Rattle.std.specs.List.Sorted.{IsStrictlySortedBy}
use Rattle.std.proofs.lemmas.Bool.Decides.{nat_tests}
use Rattle.std.proofs.lemmas.List.{length-map}
use Rattle.std.proofs.lemmas.Cmp.{nat_cmp_total}
use Rattle.std.proofs.lemmas.List.Elements.{All-head, All-map, All-tail, All-weaker}
use Rattle.std.proofs.lemmas.Map.Keys.{sorted_tail}
use Rattle.std.proofs.lemmas.Map.Views.{All-after_first, All-found}
use Rattle.base_trait.specs.Lists.{IsAmong, IsAscending, IsAscendingFrom}
use Rattle.base_trait.proofs.Lists.{ascending_shorter}
use Rattle.fixpoint_theory.specs.Analysis.{Analysis}
use Rattle.fixpoint_theory.specs.Code.{is_code}
use Rattle.fixpoint_theory.specs.WorklistState.{IsComplete, WorklistState, Reached}
use Rattle.fixpoint_theory.specs.Table.{IsBlockOf, IsTableOf, Listing, TableFits}
use Rattle.fixpoint_theory.specs.Views.{listing, listings}
use Rattle.fixpoint_theory.specs.declared.table.Block.{Block}
use Rattle.fixpoint_theory.specs.declared.table.Table.{Table}
use Rattle.fixpoint_theory.proofs.Bounded.{code_among}
use Rattle.fixpoint_worklist.specs.Settled.{AreSettled, IsToldOf}
use Rattle.fixpoint_worklist.proofs.Settled.{all_told}
use Rattle.fixpoint_worklist.specs.Fitting.{AllFit, IsFit}
use Rattle.fixpoint_worklist.specs.Likeness.{AllLike, IsLike}
use Rattle.fixpoint_worklist.specs.Views.{worklist_state_in, reached_at}
use Rattle.fixpoint_worklist.specs.declared.worklist.Worklist.{Worklist}

-- ---- few addresses
ascends_from_sorted : (low : ℕ) (ks : List ℕ) → All (λ k. low ≤ k) ks → IsStrictlySortedBy nat_cmp ks → IsAscendingFrom low ks
ascends_from_sorted low [] above sorted = tt
ascends_from_sorted low (k ∷ ks) above sorted = (
  All-head (λ k. low ≤ k) k ks above,
  ascends_from_sorted (k + 1) ks
      (All-weaker (λ q. nat_cmp k q ≡ Less) (λ q. k + 1 ≤ q) (λ q less. later k q less) ks (All-after_first nat_cmp k ks sorted))
      (sorted_tail nat_cmp k ks sorted),
)
  where
    later : (a b : ℕ) → nat_cmp a b ≡ Less → a + 1 ≤ b
    later a b h = grind (arith, nat_tests)

among_all : (P : ℕ → Type 0) (ks : List ℕ) (n : ℕ) → All P ks → IsAmong n ks → P n
among_all P [] n all h = absurd h
among_all P (k ∷ ks) n all (inl same) = subst P (sym same) (All-head P k ks all)
among_all P (k ∷ ks) n all (inr h) = among_all P ks n (All-tail P k ks all) h

pub few_places : {X : Type 0} (code : List ℕ) (m : BTreeMap ℕ X) → IsAscending code → IsOrdered nat_cmp m → ((a : ℕ) (p : X) → get nat_cmp m a ≡ Some p → IsTrue (is_code code a))
    → btree_map_len m ≤ length code
few_places {X} code m ascends sorted inside =
    let keys = map (λ (e : ℕ × X). e.0) m.entries in
    let found = All-found nat_cmp_total m sorted in
    let all : All (λ k. IsTrue (is_code code k)) keys =
    All-map (λ k. IsTrue (is_code code k)) (λ (e : ℕ × X). e.0) m.entries
    (All-weaker (λ (e : ℕ × X). get nat_cmp m e.0 ≡ Some e.1) (λ (e : ℕ × X). IsTrue (is_code code e.0)) (λ e is. inside e.0 e.1 is) m.entries found) in
    let above : All (λ k. 0 ≤ k) keys = All-weaker (λ k. IsTrue (is_code code k)) (λ k. 0 ≤ k) (λ k here. omega arith) keys all in
    let few = ascending_shorter 0 0 keys code (ascends_from_sorted 0 keys above sorted) ascends (λ n h. code_among code n (among_all (λ k. IsTrue (is_code code k)) keys n all h)) in
    let same = length-map m.entries (λ (e : ℕ × X). e.0) in
    omega (arith, few, same)

-- the blocks of a worklist as a table
abbrev pub table_in : {E : Type 0} → Worklist E → Table E
table_in w = record { blocks = w.blocks }

module _ {E P W S : Type 0} (view : E → P) (A : Analysis P W S) where
  made_table : (w : Worklist E) (a : ℕ) (x : Option (Block E)) (z : Option (Reached P)) → ((b : Block E) → x ≡ Some b → IsToldOf view A a b)
      → IsLike A (option_map (reached_at view w a) x) z → IsBlockOf A a (option_map (listing view) x) z
  made_table w a None None told like = tt
  made_table w a None (Some s) told like = like
  made_table w a (Some b) None told like = like
  made_table w a (Some b) (Some s) told like = (like.elem, told b refl)

  -- Where nothing is pending, the blocks are the table of the worklist state.
  pub table_made : (w : Worklist E) (q : WorklistState P) → AreSettled view A w → IsComplete (worklist_state_in view w) → AllLike A (worklist_state_in view w) q → IsTableOf A (listings view (table_in w)) q
  table_made w q settled complete like a = made_table w a (get nat_cmp w.blocks a) (q a) (all_told view A w settled complete a) (like a)

  listed_fits : (w : Worklist E) (a : ℕ) (x : Option (Block E)) (b : Listing P) → IsFit A a (option_map (reached_at view w a) x) → option_map (listing view) x ≡ Some b
      → IsTrue (is_code A.code a) × A.elements.fits b.elem
  listed_fits w a None b fit is = cc
  listed_fits w a (Some c) b fit is =
      let one : listing view c ≡ b = cc in
      (fit.0, subst A.elements.fits (ap (λ (b : Listing P). b.elem) one) fit.1)

  -- The elements of the table fit.
  pub table_fits : (w : Worklist E) → AllFit A (worklist_state_in view w) → TableFits A (listings view (table_in w))
  table_fits w fine a b is = listed_fits w a (get nat_cmp w.blocks a) b (fine a) is
