-- The fields of a constructor, one of them changed.
use Rattle.std.proofs.Common.{◌≡◌, ℕ, zero, suc, ◌+◌, ◌<◌, ◌==◌, true, false, cond, List, [], ◌∷◌, refl, ap, arith}
use Rattle.std.proofs.lemmas.Bool.Decides.{nat_tests}
use Rattle.spec_match_compiler.specs.Values.{Place}
use Rattle.spec_match_compiler.specs.Knowledge.{Knowledge, parts, part_then, put, put_part}

-- numbered from n on
abbrev pub changed : ℕ → Place → Knowledge → ℕ → List Knowledge → List Knowledge
changed i at there n [] = []
changed i at there n (k ∷ ks) = cond (n == i) (put k at there) k ∷ changed i at there (n + 1) ks

changed_past : (i : ℕ) (at : Place) (there : Knowledge) (n : ℕ) (ks : List Knowledge) → i < n → changed i at there n ks ≡ ks
changed_past i at there n [] h = refl
changed_past i at there n (k ∷ ks) h = rw (changed_past i at there (n + 1) ks (omega arith)) (grind (arith, nat_tests))

pub changed_parts : (i : ℕ) (at : Place) (there : Knowledge) (n m : ℕ) (ks : List Knowledge) → n + m ≡ i → parts (changed i at there n ks) ≡ put_part (parts ks) m at there
changed_parts i at there n m [] e = refl
changed_parts i at there n zero (k ∷ ks) e =
    let same : (n == i) ≡ true = grind (arith, nat_tests) in
    rw (same, changed_past i at there (n + 1) ks (omega arith)) refl
changed_parts i at there n (suc m) (k ∷ ks) e =
    let apart : (n == i) ≡ false = grind (arith, nat_tests) in
    rw apart (ap (part_then k) (changed_parts i at there (n + 1) m ks (omega arith)))
