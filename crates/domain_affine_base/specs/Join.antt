-- Joins, and what is at least another word.
use Rattle.std.specs.Prelude.{ℕ, Bool, true, if◌then◌else◌, ◌==◌}
use Rattle.domain_affine_base.specs.Words.{same_word}
use Rattle.domain_affine_base.specs.declared.word.Word.{Word}
use Rattle.domain_affine_base.specs.declared.word.Word.TheVariants.{Any, Const}

-- equal words are kept
abbrev pub join_of : Word → Word → Word
join_of x y = if same_word x y then x else Any

-- any absorbs every word, and each other one absorbs itself alone
abbrev pub is_absorbing : Word → Word → Bool
is_absorbing Any y = true
is_absorbing x y = same_word x y

abbrev pub rank_of : Word → ℕ
rank_of Any = 0
rank_of _ = 1

-- the one number from low to high, or any
abbrev pub range_of : ℕ → ℕ → Word
range_of low high = if low == high then Const low else Any
