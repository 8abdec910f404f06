use Rattle.std.proofs.Common.{◌≡◌, ℕ, ◌+◌, ◌∷◌, [], ◌++◌, ap, sym, ◌∙◌, refl, map-id}
use Rattle.std.specs.List.{range_with_len}
use Rattle.std.proofs.lemmas.List.FromFn.{map-range_with_len_more}
use Rattle.base_trait.proofs.numbers.successive_numbers.Goals as goal

-- one more successive number
range_more : (low n : ℕ) → range_with_len low (n + 1) ≡ range_with_len low n ++ (low + n) ∷ []
range_more low n = simp map-id at (map-range_with_len_more (λ (x : ℕ). x) low n (low + n) refl)

pub loop-i-preserved : goal.loop-i-preserved
loop-i-preserved c =
    c.in_ok-push.ensures.items ∙ ap (λ l. l ++ (c.args.low + c.loop-i.i) ∷ []) c.loop-i.invariant ∙ sym (range_more c.args.low c.loop-i.i)
