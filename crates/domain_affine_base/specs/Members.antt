-- What is known of the numbers of a word.
use Rattle.std.specs.Prelude.{ℕ, ◌^◌, Bool, true, List, [], ◌∷◌, Option, Some, None, ◌==◌, nat_le, if◌then◌else◌}
use Rattle.std.specs.List.{range_with_len}
use Rattle.domain_affine_base.specs.declared.word.Word.{Word}
use Rattle.domain_affine_base.specs.declared.word.Word.TheVariants.{Const}

abbrev pub exact_of : Word → Option ℕ
exact_of (Const n) = Some n
exact_of _ = None

-- a form may be each number
abbrev pub may_be : Word → ℕ → Bool
may_be (Const n) k = n == k
may_be _ k = true

-- how many numbers there are: any and a form, which is of 32 bits, have all of the width
abbrev pub size_of : ℕ → Word → ℕ
size_of w (Const n) = 1
size_of w _ = 2 ^ w

-- all of them, ascending
abbrev pub all_of : ℕ → Word → List ℕ
all_of w (Const n) = n ∷ []
all_of w _ = range_with_len 0 (2 ^ w)

-- where they are no more than the limit
abbrev pub members_of : ℕ → Word → ℕ → Option (List ℕ)
members_of w x limit = if nat_le (size_of w x) limit then Some (all_of w x) else None
