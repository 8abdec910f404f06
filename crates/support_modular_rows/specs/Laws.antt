-- Laws of forms and of submodules.
use Rattle.std.specs.Prelude.{◌≡◌, ℕ, ◌+◌, ◌*◌, ◌<◌, ◌≤◌, ◌↔◌, Bool, IsTrue, List, ◌∷◌, ◌++◌, Option, slice_index, length}
use Rattle.std.specs.List.{All}
use Rattle.support_modular_rows.specs.Submodule.{Congruent, IsMember, IsImage, dot}
use Rattle.support_modular_rows.specs.Rank.{IsRank}

-- Equal forms are the same list of numbers, and each form is equal to itself.
abbrev pub EqualFormsAreTheSame : (List ℕ → List ℕ → Bool) → Type 0
EqualFormsAreTheSame eq = (x y : List ℕ) → IsTrue (eq x y) ↔ (x ≡ y)

-- the members of the first are members of the second
abbrev pub IsWithin : ℕ → List (List ℕ) → List (List ℕ) → Type 0
IsWithin k rows more = (x : List ℕ) → IsMember k rows x → IsMember k more x

-- The zero row is a member, and so are sums and multiples of members.
abbrev pub ClosedUnderSums : Type 0
ClosedUnderSums =
    (k : ℕ) (rows : List (List ℕ)) (x y z : List ℕ) → IsMember k rows x → IsMember k rows y → ((j : ℕ) → j ≤ k → Congruent (slice_index z j) (slice_index x j + slice_index y j)) → IsMember k rows z

abbrev pub ClosedUnderMultiples : Type 0
ClosedUnderMultiples =
    (k q : ℕ) (rows : List (List ℕ)) (x z : List ℕ) → IsMember k rows x → ((j : ℕ) → j ≤ k → Congruent (slice_index z j) (q * slice_index x j)) → IsMember k rows z

abbrev pub HoldsZero : Type 0
HoldsZero = (k : ℕ) (rows : List (List ℕ)) (z : List ℕ) → ((j : ℕ) → j ≤ k → Congruent (slice_index z j) 0) → IsMember k rows z

-- A row is a member of what it generates with others.
abbrev pub RowsAreMembers : Type 0
RowsAreMembers = (k : ℕ) (xs ys : List (List ℕ)) (r : List ℕ) → IsMember k (xs ++ r ∷ ys) r

-- the property holds of zero, and of sums and multiples of vectors that have it, modulo 2 ^ 32 in the columns 0 .. k
pub record IsClosed (k : ℕ) (P : List ℕ → Type 0) : Type 0 where
  pub zero : (z : List ℕ) → ((j : ℕ) → j ≤ k → Congruent (slice_index z j) 0) → P z
  pub sums : (x y z : List ℕ) → P x → P y → ((j : ℕ) → j ≤ k → Congruent (slice_index z j) (slice_index x j + slice_index y j)) → P z
  pub multiples : (q : ℕ) (x z : List ℕ) → P x → ((j : ℕ) → j ≤ k → Congruent (slice_index z j) (q * slice_index x j)) → P z

-- The members are the least closed set that holds the rows: a closed property of all rows is one of all members.
abbrev pub MembersAreLeast : (List ℕ → Type 0) → Type 0
MembersAreLeast P = (k : ℕ) (rows : List (List ℕ)) → IsClosed k P → All P rows → (x : List ℕ) → IsMember k rows x → P x

-- Rows that are members of what others generate generate no more.
abbrev pub RowsWithin : Type 0
RowsWithin = (k : ℕ) (rows others : List (List ℕ)) → All (IsMember k others) rows → IsWithin k rows others

-- A linear relation over the columns that holds on all rows holds on all members.
abbrev pub RelationsHold : Type 0
RelationsHold =
    (k : ℕ) (form : List ℕ) (rows : List (List ℕ)) → length form ≤ k + 1 → All (λ r. Congruent (dot form r) 0) rows
    → (x : List ℕ) → IsMember k rows x → Congruent (dot form x) 0

-- What two lists of rows generate together is the least submodule that holds what each generates.
pub record IsJoin (k : ℕ) (xs ys zs : List (List ℕ)) : Type 0 where
  pub left : IsWithin k xs zs
  pub right : IsWithin k ys zs
  pub least : (ws : List (List ℕ)) → IsWithin k xs ws → IsWithin k ys ws → IsWithin k zs ws

abbrev pub AppendJoins : Type 0
AppendJoins = (k : ℕ) (xs ys : List (List ℕ)) → IsJoin k xs ys (xs ++ ys)

-- Of a larger submodule the values of forms are more.
abbrev pub ImageGrows : Type 0
ImageGrows =
    (k : ℕ) (forms : List (Option (List ℕ))) (rows more : List (List ℕ)) → IsWithin k rows more
    → (y : List ℕ) → IsImage (record { k = k; rows = rows }) forms y → IsImage (record { k = k; rows = more }) forms y

-- A larger submodule has no greater rank, and a lesser one where it has a new member.
abbrev pub RankFalls : Type 0
RankFalls =
    (k n m : ℕ) (rows more : List (List ℕ)) → IsWithin k rows more → IsRank k rows n → IsRank k more m
    → (m ≤ n) × ((x : List ℕ) → IsMember k more x → (IsMember k rows x → ⊥) → m < n)

-- A rank is at most 32 for each column.
abbrev pub RankIsBounded : Type 0
RankIsBounded = (k n : ℕ) (rows : List (List ℕ)) → IsRank k rows n → n ≤ 32 * (k + 1)

-- Each list of rows has a rank, and no other.
abbrev pub HasOneRank : Type 0
HasOneRank = (k : ℕ) (rows : List (List ℕ)) → (n : ℕ) × IsRank k rows n × ((m : ℕ) → IsRank k rows m → m ≡ n)
