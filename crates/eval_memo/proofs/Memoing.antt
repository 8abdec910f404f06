-- Memos with one more entry.
use Rattle.std.proofs.Common.{◌≡◌, ℕ, ◌+◌, ◌++◌, ◌∷◌, [], List, length, refl, sym, arith}
use Rattle.support_tail_fixpoint.specs.Answer.{gives}
use Rattle.abstract_value_laws.specs.Abs.{Abs}
use Rattle.abstract_semantics.specs.Answers.{Answer}
use Rattle.eval_memo.specs.Memos.{AreDistinct, AreTrue, IsNew, Remembered, Stands}

module _ {W N : Type 0} where
  true_more : (calls : ℕ → List (Abs W N) → Answer (Abs W N)) (es : List (Remembered W N)) (e : Remembered W N) → AreTrue calls es → calls e.function e.args ≡ gives e.value e.reads → AreTrue calls (es ++ e ∷ [])
  true_more calls [] e h k = (k, tt)
  true_more calls (x ∷ es) e h k = (h.0, true_more calls es e h.1 k)

  new_more : (f : ℕ) (args : List (Abs W N)) (es : List (Remembered W N)) (e : Remembered W N) → IsNew f args es → (e.function ≡ f → e.args ≡ args → ⊥) → IsNew f args (es ++ e ∷ [])
  new_more f args [] e h k = (k, tt)
  new_more f args (x ∷ es) e h k = (h.0, new_more f args es e h.1 k)

  distinct_more : (es : List (Remembered W N)) (e : Remembered W N) → AreDistinct es → IsNew e.function e.args es → AreDistinct (es ++ e ∷ [])
  distinct_more [] e h k = (tt, tt)
  distinct_more (x ∷ es) e h k = (new_more x.function x.args es e h.0 (λ p q. k.0 (sym p) (sym q)), distinct_more es e h.1 k.1)

  count_more : (es : List (Remembered W N)) (e : Remembered W N) → length (es ++ e ∷ []) ≡ length es + 1
  count_more [] e = refl
  count_more (x ∷ es) e = let k = count_more es e in omega (arith, k)

  pub stands_more : (calls : ℕ → List (Abs W N) → Answer (Abs W N)) (before ticked : ℕ) (es : List (Remembered W N)) (steps : ℕ) (e : Remembered W N) → Stands calls before ticked es steps → IsNew e.function e.args es
      → calls e.function e.args ≡ gives e.value e.reads → Stands calls before ticked (es ++ e ∷ []) (steps + 1)
  stands_more calls before ticked es steps e h k is = record {
    true_of = true_more calls es e h.true_of is;
    distinct = distinct_more es e h.distinct k;
    counted = let more = count_more es e in let old = h.counted in omega (arith, more, old);
  }
