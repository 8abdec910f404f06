-- Runs of bytes that pass a test.
use Rattle.std.proofs.Common.{◌≡◌, ℕ, suc, ◌+◌, ◌≤◌, Bool, true, false, List, [], ◌∷◌, ◌++◌, length, take, drop, refl, sym, ◌∙◌, subst, cond, arith}
use Rattle.std.specs.Prelude.{IsFalse}
use Rattle.std.specs.List.{prefix_len}
use Rattle.syntax_lexer.specs.Bytes.{Passes, Stops}

-- the front of a list that passes a test passes it
pub front_passes : (test : ℕ → Bool) (s : List ℕ) → Passes test (take (prefix_len test s) s)
front_passes test [] = tt
front_passes test (b ∷ s) =
    (elim (test b) as (λ v. test b ≡ v → Passes test (take (cond v (1 + prefix_len test s) 0) (b ∷ s))) [
      | true ↦ λ e. let n : 1 + prefix_len test s ≡ suc (prefix_len test s) = omega arith in rw n (e, front_passes test s)
      | false ↦ λ e. tt
    ]) refl

-- and it stops there
pub front_stops : (test : ℕ → Bool) (s : List ℕ) → Stops test (drop (prefix_len test s) s)
front_stops test [] = tt
front_stops test (b ∷ s) =
    (elim (test b) as (λ v. test b ≡ v → Stops test (drop (cond v (1 + prefix_len test s) 0) (b ∷ s))) [
      | true ↦ λ e. let n : 1 + prefix_len test s ≡ suc (prefix_len test s) = omega arith in rw n (front_stops test s)
      | false ↦ λ e. e
    ]) refl

-- a byte does not both pass and fail
pub not_both : (b : Bool) → b ≡ true → b ≡ false → ⊥
not_both b yes_ no_ = let bad : true ≡ false = sym yes_ ∙ no_ in cc

-- no run is longer than one that stops
pub longest_run : (test : ℕ → Bool) (text rest other after : List ℕ) → Stops test rest → text ++ rest ≡ other ++ after → Passes test other → length other ≤ length text
longest_run test text rest [] after stops e passes = omega arith
longest_run test [] [] (b ∷ other) after stops e passes = absurd (cc)
longest_run test [] (c ∷ rest) (b ∷ other) after stops e passes = let same : c ≡ b = cc in absurd (not_both (test b) passes.0 (subst (λ (x : ℕ). IsFalse (test x)) same stops))
longest_run test (c ∷ text) rest (b ∷ other) after stops e passes =
    let shorter : length other ≤ length text = longest_run test text rest other after stops (cc) passes.1 in omega arith
