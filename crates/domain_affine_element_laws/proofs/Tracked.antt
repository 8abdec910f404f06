-- Tracked cells are few, and valuations have a number for each.
use Rattle.std.proofs.Common.{◌≡◌, ℕ, ◌+◌, ◌≤◌, true, List, [], ◌∷◌, ◌++◌, length, map, arith, length-append}
use Rattle.std.specs.Prelude.{nat_le}
use Rattle.std.proofs.lemmas.Bool.Decides.{nat_tests}
use Rattle.base_trait.proofs.Tests.{at_choice}
use Rattle.semantics_values.specs.declared.entry.KeyAt.{KeyAt}
use Rattle.domain_affine_element_laws.specs.Laws.{FewAreTracked, ValuationsAreWhole}
use Rattle.domain_affine_element_laws.specs.Tracked.{number_at, tracked_with}
use Rattle.spec_ir.proofs.Lists.{map_size}

few : (cells : List (ℕ × KeyAt)) (n : ℕ) (fields : List (List KeyAt)) → length cells ≤ 64 → length (tracked_with cells n fields) ≤ 64
few cells n [] h = h
few cells n (keys ∷ fields) h =
    at_choice (λ l. length l ≤ 64) (nat_le (length cells + length keys) 64) (tracked_with (cells ++ map (λ key. (n, key)) keys) (n + 1) fields) (tracked_with cells (n + 1) fields)
    (λ e. few (cells ++ map (λ key. (n, key)) keys) (n + 1) fields (more e)) (λ e. few cells (n + 1) fields h)
  where
    more : nat_le (length cells + length keys) 64 ≡ true → length (cells ++ map (λ key. (n, key)) keys) ≤ 64
    more e =
        let within : length cells + length keys ≤ 64 = grind (arith, nat_tests) in
        let size = length-append cells (map (λ key. (n, key)) keys) in
        let same = map_size {A = KeyAt} {B = ℕ × KeyAt} (λ key. (n, key)) keys in
        omega (arith, within, size, same)

pub few_are_tracked : FewAreTracked
few_are_tracked fields = few [] 1 fields (omega arith)

pub valuations_are_whole : ValuationsAreWhole
valuations_are_whole cells s = map_size (number_at s) cells
