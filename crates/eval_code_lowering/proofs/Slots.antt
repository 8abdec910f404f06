-- Slots that are left, behind one more.
use Rattle.std.proofs.Common.{◌≡◌, ℕ, zero, suc, ◌+◌, ◌-◌, ◌<◌, List, [], ◌∷◌, ◌++◌, refl, sym, ap, ◌∙◌, subst, arith, append_assoc}
use Rattle.eval_code.specs.Lowered.{slots_from}

pub slots_step : (xs new ys : List ℕ) (d e n : ℕ) → 0 < n → e ≡ d + 1 → new ≡ xs ++ d ∷ [] → xs ++ slots_from d n ≡ ys → new ++ slots_from e (n - 1) ≡ ys
slots_step xs new ys d e zero lt is made h = absurd (omega arith)
slots_step xs new ys d e (suc n) lt is made h =
    let left : suc n - 1 ≡ n = omega arith in
    let same : e ≡ suc d = omega arith in
    ap (λ z. z ++ slots_from e (suc n - 1)) made ∙ ap (λ z. (xs ++ d ∷ []) ++ slots_from e z) left ∙ ap (λ z. (xs ++ d ∷ []) ++ slots_from z n) same ∙ append_assoc xs (d ∷ []) (slots_from (suc d) n) ∙ h
