-- Which call of a memo is looked up.
use Rattle.std.specs.Prelude.{◌≡◌, ◌==◌, ◌&&◌, ◌++◌, ℕ, Bool, List, Vec, IsTrue}
use Rattle.std.specs.Cmp.{IsEquivalence, first_so, second_so, nat_eq_equiv}
use Rattle.std.specs.Cmp.Lexicographic.{pointwise, lists_equiv}
use Rattle.std.specs.Hash as fed
use Rattle.std.specs.Hash.{items_Alike}
use Rattle.std.specs.declared.alloc.Global.{Global}
use Rattle.std.proofs.lemmas.Bool.Decides.{Decides-eqb}
use Rattle.eval_memo.specs.declared.call.Call.{Call}

module _ {T : Type 0} (eq : T → T → Bool) where
  -- the call is of this function, on arguments that are equal one by one
  abbrev pub is_call : ℕ → List T → Call (Vec T Global) → Bool
  is_call f args k = f == k.function && pointwise eq args k.args.items

  -- Equal calls are found alike.
  pub is_call_alike : IsEquivalence eq → (f : ℕ) (args : List T) (x y : Call (Vec T Global)) → IsTrue (is_call f args x) → is_call f args y ≡ is_call x.function x.args.items y
  is_call_alike e f args x y h =
      let number : (f == y.function) ≡ (x.function == y.function) = nat_eq_equiv.congr f x.function y.function (first_so (f == x.function) (pointwise eq args x.args.items) h) in
      let items = (lists_equiv e).congr args x.args.items y.args.items (second_so (f == x.function) (pointwise eq args x.args.items) h) in
      λ i. number i && items i

  -- What is looked up is hashed as the call that it finds.
  pub is_call_fed : (F : T → fed.HashWrites) → ((x y : T) → IsTrue (eq x y) → F x ≡ F y) → (f : ℕ) (args : List T) (k : Call (Vec T Global)) → IsTrue (is_call f args k)
      → fed.u32 f ++ fed.slice F args ≡ fed.u32 k.function ++ fed.slice F k.args.items
  is_call_fed F alike f args k h =
      let number = (Decides-eqb f k.function).0 (first_so (f == k.function) (pointwise eq args k.args.items) h) in
      let items = (items_Alike (record { fed = alike })).fed args k.args.items (second_so (f == k.function) (pointwise eq args k.args.items) h) in
      λ i. fed.u32 (number i) ++ items i
