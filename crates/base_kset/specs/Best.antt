-- What the operations on sets are among all words: the best.
use Rattle.std.specs.Prelude.{◌≡◌, ℕ, ◌<◌, ◌≤◌, Bool, List, length, Option, Some, None, IsTrue, ◌↔◌, ◌⊎◌}
use Rattle.word_operations.specs.declared.kinds.WordComparison.{WordComparison}
use Rattle.word_operations.specs.Cmp.{cmp_of}
use Rattle.base_trait.specs.Algebra.{can_be}
use Rattle.base_trait.specs.Lists.{IsAmong, IsAscending}
use Rattle.base_kset.specs.Sets.{images, products, union, from_to}
use Rattle.base_kset.specs.Meaning.{Fits, compared}

-- the list is the set of the numbers that P holds of
pub record IsSetOf (P : ℕ → Type 0) (s : List ℕ) : Type 0 where
  pub ascending : IsAscending s
  pub has : (n : ℕ) → P n → IsAmong n s
  pub only : (n : ℕ) → IsAmong n s → P n

-- the word is the set of the numbers that P holds of, where they are at most K, and else any
pub record IsBest (K : ℕ) (P : ℕ → Type 0) (x : Option (List ℕ)) : Type 0 where
  pub set : (s : List ℕ) → IsSetOf P s → length s ≤ K → x ≡ Some s
  pub any : (s : List ℕ) → IsSetOf P s → K < length s → x ≡ None

-- what f gives of an item, and of an item of each
abbrev pub IsImage : (ℕ → ℕ) → List ℕ → ℕ → Type 0
IsImage f s n = (x : ℕ) × IsAmong x s × (n ≡ f x)

abbrev pub IsProduct : (ℕ → ℕ → ℕ) → List ℕ → List ℕ → ℕ → Type 0
IsProduct f s t n = (x : ℕ) × (y : ℕ) × IsAmong x s × IsAmong y t × (n ≡ f x y)

abbrev pub IsOfEither : List ℕ → List ℕ → ℕ → Type 0
IsOfEither s t n = IsAmong n s ⊎ IsAmong n t

-- Operations and casts of sets give the set of all results, and joins the union.
abbrev pub BestResults : ℕ → Type 0
BestResults K =
    ((f : ℕ → ℕ) (s : List ℕ) → IsBest K (IsImage f s) (images K f (Some s)))
    × ((f : ℕ → ℕ → ℕ) (s t : List ℕ) → IsBest K (IsProduct f s t) (products K f (Some s) (Some t)))
    × ((s t : List ℕ) → IsAscending s → IsBest K (IsOfEither s t) (union K (Some s) (Some t)))
    × ((low high : ℕ) → low ≤ high → IsBest K (λ n. (low ≤ n) × (n ≤ high)) (from_to K low high))

-- A comparison of sets may have a truth value exactly where that of some pair of numbers has it.
abbrev pub ExactComparisons : Type 0
ExactComparisons =
    (k : WordComparison) (w : ℕ) (s t : List ℕ) (b : Bool)
    → IsTrue (can_be (compared k w (Some s) (Some t)) b) ↔ ((x : ℕ) × (y : ℕ) × IsAmong x s × IsAmong y t × (cmp_of k w x y ≡ b))

-- Where sets have at most 0 numbers every word is any.
abbrev pub NoNumbers : Type 0
NoNumbers = (w : ℕ) (x : Option (List ℕ)) → Fits 0 w x → x ≡ None
