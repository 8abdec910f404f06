-- Memos that hold a call.
use Rattle.std.proofs.Common.{ℕ, ◌++◌, List, [], ◌∷◌, refl, sym, subst, inl, inr}
use Rattle.base_trait.specs.Lists.{IsGrown}
use Rattle.abstract_value_laws.specs.Abs.{Abs}
use Rattle.eval_memo.specs.Memos.{Holds, IsNew, Keeps, Remembered}
use Rattle.eval_memo.proofs.Growth.{grown_more, grown_same}

module _ {W N : Type 0} where
  held_last : (old : List (Remembered W N)) (e : Remembered W N) → Holds e.function e.args (old ++ e ∷ [])
  held_last [] e = inl (refl, refl)
  held_last (x ∷ old) e = inr (held_last old e)

  -- What was kept is held then.
  pub kept_holds : (old : List (Remembered W N)) (e : Remembered W N) (new : List (Remembered W N)) → Keeps old e new → Holds e.function e.args new
  kept_holds old e new (inl k) = subst (Holds e.function e.args) (sym k.1) (held_last old e)
  kept_holds old e new (inr k) = subst (Holds e.function e.args) (sym k.1) k.0

  -- To keep a call only adds to a memo.
  pub keeps_grown : (old : List (Remembered W N)) (e : Remembered W N) (new : List (Remembered W N)) → Keeps old e new → IsGrown old new
  keeps_grown old e new (inl k) = grown_more old (e ∷ []) new k.1
  keeps_grown old e new (inr k) = grown_same old new k.1

  -- A call that is new is not held.
  pub new_not_held : (f : ℕ) (args : List (Abs W N)) (es : List (Remembered W N)) → IsNew f args es → Holds f args es → ⊥
  new_not_held f args [] new held = held
  new_not_held f args (e ∷ es) new (inl held) = new.0 held.0 held.1
  new_not_held f args (e ∷ es) new (inr held) = new_not_held f args es new.1 held
