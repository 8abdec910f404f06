-- What elements of affine relations tell of sums is true; and exact, where they describe some numbers.
use Rattle.std.proofs.Common.{◌≡◌, ◌∙◌, ℕ, zero, suc, ◌+◌, ◌-◌, ◌*◌, ◌%◌, ◌^◌, ◌<◌, ◌≤◌, Bool, true, false, List, [], ◌∷◌, ◌++◌, length, IsTrue, inl, inr, refl, sym, ap, subst, arith, mod-lt, pow_pos}
use Rattle.std.specs.Prelude.{◌==◌}
use Rattle.std.specs.List.{All}
use Rattle.std.proofs.Math.Nat.{mod-mod}
use Rattle.std.proofs.lemmas.Bool.Decides.{nat_tests}
use Rattle.base_trait.specs.Lists.{Each, IsAmong}
use Rattle.base_trait.proofs.Lists.{all_told, each_from, number_told}
use Rattle.support_modular_rows.specs.Submodule.{Congruent, IsMember, dot}
use Rattle.support_modular_rows.specs.Values.{dot_first}
use Rattle.support_modular_rows.proofs.Closure.{closed_under_multiples, closed_under_sums, rows_are_members}
use Rattle.support_modular_rows.proofs.Growth.{greatest, of}
use Rattle.support_modular_rows.proofs.Images.{dot_alike, dot_linear, dot_zero}
use Rattle.support_modular_rows.proofs.Least.{relations_hold}
use Rattle.support_modular_rows.proofs.Spans.{cong_add, cong_drop, cong_mul_zero}
use Rattle.analysis_query_laws.specs.Affine.{IsDescribed, meets_all}
use Rattle.analysis_query_laws.specs.Laws.{RelationsTellTruly, SumsAreExact, SumsAreOfMembers}

-- ---- each row
met : (form : List ℕ) (rows : List (List ℕ)) → Each (λ r. IsTrue (dot form r % 2 ^ 32 == 0)) rows → All (λ r. Congruent (dot form r) 0) rows
met form [] h k d lt = absurd (omega arith)
met form (r ∷ rows) h zero d lt = number_told (dot form r % 2 ^ 32) 0 h.0
met form (r ∷ rows) h (suc k) d lt = met form rows h.1 k d (omega arith)

all_met : (form : List ℕ) (rows : List (List ℕ)) → IsTrue (meets_all rows form) → All (λ r. Congruent (dot form r) 0) rows
all_met form rows h = met form rows ((all_told (λ r. dot form r % 2 ^ 32 == 0) rows).0 h)

pub relations_tell_truly : RelationsTellTruly
relations_tell_truly t = record {
  ranges = λ x s field key lo hi takes fits holds range h. cc;
  others = λ x s field key v takes fits holds place h. cc;
  sums = λ x s form takes fits holds len h. relations_hold _ form x.rows (omega (arith, len)) (all_met form x.rows h) (1 ∷ _) holds;
}

-- ---- the first numbers of a function
listed : ℕ → (ℕ → ℕ) → List ℕ
listed zero v = []
listed (suc n) v = v 0 ∷ listed n (λ j. v (suc j))

listed_at : (n j : ℕ) (v : ℕ → ℕ) → j < n → of (listed n v) j ≡ v j
unfolding listed
listed_at zero j v lt = absurd (omega arith)
listed_at (suc n) zero v lt = refl
listed_at (suc n) (suc j) v lt = listed_at n j (λ i. v (suc i)) (omega arith)

listed_many : (n : ℕ) (v : ℕ → ℕ) → length (listed n v) ≡ n
unfolding listed
listed_many zero v = refl
listed_many (suc n) v = let e = listed_many n (λ j. v (suc j)) in omega arith

listed_each : (P : ℕ → Type 0) (n : ℕ) (v : ℕ → ℕ) → ((j : ℕ) → P (v j)) → Each P (listed n v)
unfolding listed
listed_each P zero v h = tt
listed_each P (suc n) v h = (h 0, listed_each P n (λ j. v (suc j)) (λ j. h (suc j)))

-- a sum of products with no more numbers than there are columns, read column by column
dot_reads : (n : ℕ) (cs xs : List ℕ) → length cs ≤ n → dot cs xs ≡ dot_first n cs (of xs)
dot_reads zero [] xs le = refl
dot_reads zero (c ∷ cs) xs le = absurd (omega arith)
dot_reads (suc n) [] xs le = refl
dot_reads (suc n) (c ∷ cs) [] le = let none = dot_zero n cs in omega arith
dot_reads (suc n) (c ∷ cs) (x ∷ xs) le = ap (λ y. c * x + y) (dot_reads n cs xs (omega arith))

among_split : (r : List ℕ) (rows : List (List ℕ)) → IsAmong r rows → (xs : List (List ℕ)) × (ys : List (List ℕ)) × (xs ++ r ∷ ys ≡ rows)
among_split r [] h = absurd h
among_split r (x ∷ rows) (inl e) = ([], rows, ap (λ z. z ∷ rows) e)
among_split r (x ∷ rows) (inr h) = let found = among_split r rows h in (x ∷ found.0, found.1, ap (λ zs. x ∷ zs) found.2)

module _ (k : ℕ) (rows : List (List ℕ)) (form some : List ℕ) (len : length form ≡ k + 1) (is : IsDescribed k rows some)
    (all : (numbers : List ℕ) → IsDescribed k rows numbers → Congruent (dot form (1 ∷ numbers)) 0) (r : List ℕ) (member : IsMember k rows r) where
  -- how often the numbers that are described are added to the row, so that its first number becomes 1
  often : ℕ
  often = 2 ^ 32 + 1 - of r 0 % 2 ^ 32

  abbrev at : ℕ → ℕ
  at j = of r j + often * of (1 ∷ some) j

  abbrev numbers : List ℕ
  numbers = listed k (λ j. at (suc j) % 2 ^ 32)

  first_one : (1 % 2 ^ 32) ≡ at 0 % 2 ^ 32
  unfolding often
  first_one =
      let a = of r 0 in
      let small : a % 2 ^ 32 < 2 ^ 32 = mod-lt a (pow_pos 32) in
      let e : a % 2 ^ 32 + (2 ^ 32 + 1 - a % 2 ^ 32) * 1 ≡ 2 ^ 32 + 1 = omega (arith, small) in
      sym (cong_add greatest a (a % 2 ^ 32) ((2 ^ 32 + 1 - a % 2 ^ 32) * 1) ((2 ^ 32 + 1 - a % 2 ^ 32) * 1) (sym (mod-mod a (2 ^ 32))) refl ∙ ap (λ x. x % 2 ^ 32) e)

  alike : (j : ℕ) → j ≤ k → Congruent (of (1 ∷ numbers) j) (at j)
  alike zero le = first_one
  alike (suc j) le = ap (λ x. x % 2 ^ 32) (listed_at k j (λ j. at (suc j) % 2 ^ 32) (omega arith)) ∙ mod-mod (at (suc j)) (2 ^ 32)

  abbrev multiple : List ℕ
  multiple = listed (k + 1) (λ j. often * of (1 ∷ some) j)

  multiple_at : (j : ℕ) → j ≤ k → of multiple j ≡ often * of (1 ∷ some) j
  multiple_at j le = listed_at (k + 1) j (λ j. often * of (1 ∷ some) j) (omega arith)

  described : IsDescribed k rows numbers
  described = record {
    many = listed_many k (λ j. at (suc j) % 2 ^ 32);
    small = listed_each (λ n. n < 2 ^ 32) k (λ j. at (suc j) % 2 ^ 32) (λ j. mod-lt (at (suc j)) (pow_pos 32));
    member = closed_under_sums k rows r multiple (1 ∷ numbers) member
        (closed_under_multiples k often rows (1 ∷ some) multiple is.member (λ j le. ap (λ x. x % 2 ^ 32) (multiple_at j le)))
        (λ j le. alike j le ∙ ap (λ x. (of r j + x) % 2 ^ 32) (sym (multiple_at j le)));
  }

  few : length form ≤ k + 1
  few = omega (arith, len)

  row_met : Congruent (dot form r) 0
  row_met =
      let whole = all numbers described in
      let own = all some is in
      let reads : (xs : List ℕ) → dot form xs ≡ dot_first (k + 1) form (of xs) = λ xs. dot_reads (k + 1) form xs few in
      let zero_own = ap (λ x. x % 2 ^ 32) (sym (reads (1 ∷ some))) ∙ own in
      let split = ap (λ x. x % 2 ^ 32) (sym (dot_linear (k + 1) form often (of r) (of (1 ∷ some)))) in
      let same = dot_alike (k + 1) form (of (1 ∷ numbers)) at (λ j lt. alike j (omega arith)) in
      ap (λ x. x % 2 ^ 32) (reads r)
      ∙ sym (cong_drop greatest (dot_first (k + 1) form (of r)) (often * dot_first (k + 1) form (of (1 ∷ some))) (cong_mul_zero greatest often (dot_first (k + 1) form (of (1 ∷ some))) zero_own))
      ∙ split ∙ sym same ∙ ap (λ x. x % 2 ^ 32) (sym (reads (1 ∷ numbers))) ∙ whole

pub sums_are_exact : SumsAreExact
sums_are_exact k rows form some len is = (
  λ h numbers described. relations_hold k form rows (omega (arith, len)) (all_met form rows h) (1 ∷ numbers) described.member,
  λ all. (all_told (λ r. dot form r % 2 ^ 32 == 0) rows).1 (each_from (λ r. IsTrue (dot form r % 2 ^ 32 == 0)) rows (λ r among.
      let split = among_split r rows among in
      let member = subst (λ z. IsMember k z r) split.2 (rows_are_members k split.0 split.1 r) in
      is_zero (dot form r % 2 ^ 32) (row_met k rows form some len is all r member))),
)
  where
    is_zero : (n : ℕ) → n ≡ 0 → IsTrue (n == 0)
    is_zero n e = grind (arith, nat_tests)

-- ---- submodules that are the same
within : (k : ℕ) (rows others : List (List ℕ)) (form : List ℕ) → length form ≡ k + 1 → ((x : List ℕ) → IsMember k others x → IsMember k rows x) → IsTrue (meets_all rows form) → IsTrue (meets_all others form)
within k rows others form len more h =
    (all_told (λ r. dot form r % 2 ^ 32 == 0) others).1 (each_from (λ r. IsTrue (dot form r % 2 ^ 32 == 0)) others (λ r among.
    let split = among_split r others among in
    let member = more r (subst (λ z. IsMember k z r) split.2 (rows_are_members k split.0 split.1 r)) in
    is_zero (dot form r % 2 ^ 32) (relations_hold k form rows (omega (arith, len)) (all_met form rows h) r member)))
  where
    is_zero : (n : ℕ) → n ≡ 0 → IsTrue (n == 0)
    is_zero n e = grind (arith, nat_tests)

same_tests : (p q : Bool) → (IsTrue p → IsTrue q) → (IsTrue q → IsTrue p) → p ≡ q
same_tests true true h k = refl
same_tests false false h k = refl
same_tests true false h k = let none = h refl in cc
same_tests false true h k = let none = k refl in cc

pub sums_are_of_members : SumsAreOfMembers
sums_are_of_members k rows others form len same =
    same_tests (meets_all rows form) (meets_all others form) (within k rows others form len (λ x h. (same x).1 h)) (within k others rows form len (λ x h. (same x).0 h))
