-- There is a slice from uses, where finitely many addresses have any.
use Rattle.std.proofs.Common.{◌≡◌, ℕ, ◌+◌, ◌<◌, ◌≤◌, Bool, true, false, cond, List, [], ◌∷◌, ◌++◌, IsTrue, ◌⊎◌, inl, inr, refl, sym, ap, subst, arith}
use Rattle.std.specs.Prelude.{◌==◌, nat_lt}
use Rattle.std.proofs.lemmas.Bool.Decides.{nat_tests}
use Rattle.base_trait.specs.Lists.{Each, IsAmong, IsAscendingFrom}
use Rattle.base_trait.specs.Stamps.{is_listed}
use Rattle.base_trait.specs.Uses.{Seen}
use Rattle.base_trait.specs.declared.uses.Stamp.{Stamp}
use Rattle.base_trait.specs.declared.uses.Stamp.TheVariants.{Entry, At}
use Rattle.base_trait.proofs.Lists.{among_either, among_left, among_right, number_told}
use Rattle.base_trait.proofs.Stamps.{among_listed, listed_from}
use Rattle.base_trait.proofs.Tests.{or_left, or_right, or_sorted}
use Rattle.analysis_query_laws.specs.SliceLaws.{SlicesAreThere}
use Rattle.analysis_query_laws.specs.Slices.{IsReached, Leads, ReachesEntry, is_from}

-- ---- numbers, ascending
abbrev put : ℕ → List ℕ → List ℕ
put n [] = n ∷ []
put n (x ∷ xs) = cond (nat_lt n x) (n ∷ x ∷ xs) (cond (n == x) (x ∷ xs) (x ∷ put n xs))

put_here : (n : ℕ) (xs : List ℕ) → IsAmong n (put n xs)
put_here n [] = inl refl
put_here n (x ∷ xs) = by_tests (nat_lt n x) (n == x) (number_told n x) (put_here n xs)
  where
    by_tests : (b c : Bool) → (IsTrue c → n ≡ x) → IsAmong n (put n xs) → IsAmong n (cond b (n ∷ x ∷ xs) (cond c (x ∷ xs) (x ∷ put n xs)))
    by_tests true c e h = inl refl
    by_tests false true e h = inl (e refl)
    by_tests false false e h = inr h

put_more : (n m : ℕ) (xs : List ℕ) → IsAmong m xs → IsAmong m (put n xs)
put_more n m [] h = absurd h
put_more n m (x ∷ xs) h = by_tests (nat_lt n x) (n == x) h (put_more n m xs)
  where
    by_tests : (b c : Bool) → IsAmong m (x ∷ xs) → (IsAmong m xs → IsAmong m (put n xs)) → IsAmong m (cond b (n ∷ x ∷ xs) (cond c (x ∷ xs) (x ∷ put n xs)))
    by_tests true c k f = inr k
    by_tests false true k f = k
    by_tests false false (inl e) f = inl e
    by_tests false false (inr k) f = inr (f k)

put_only : (n m : ℕ) (xs : List ℕ) → IsAmong m (put n xs) → (m ≡ n) ⊎ IsAmong m xs
put_only n m [] (inl e) = inl e
put_only n m [] (inr h) = absurd h
put_only n m (x ∷ xs) h = by_tests (nat_lt n x) (n == x) h (put_only n m xs)
  where
    later : (m ≡ n) ⊎ IsAmong m xs → (m ≡ n) ⊎ IsAmong m (x ∷ xs)
    later (inl e) = inl e
    later (inr k) = inr (inr k)

    by_tests : (b c : Bool) → IsAmong m (cond b (n ∷ x ∷ xs) (cond c (x ∷ xs) (x ∷ put n xs))) → (IsAmong m (put n xs) → (m ≡ n) ⊎ IsAmong m xs) → (m ≡ n) ⊎ IsAmong m (x ∷ xs)
    by_tests true c (inl e) f = inl e
    by_tests true c (inr k) f = inr k
    by_tests false true k f = inr k
    by_tests false false (inl e) f = inr (inl e)
    by_tests false false (inr k) f = later (f k)

put_ascends : (low n : ℕ) (xs : List ℕ) → low ≤ n → IsAscendingFrom low xs → IsAscendingFrom low (put n xs)
put_ascends low n [] l h = (l, tt)
put_ascends low n (x ∷ xs) l h = by_tests (nat_lt n x) (n == x) (λ e. grind (arith, nat_tests)) (λ e f. grind (arith, nat_tests)) (λ k. put_ascends (x + 1) n xs k h.1) refl refl
  where
    by_tests : (b c : Bool) → (nat_lt n x ≡ true → n < x) → (nat_lt n x ≡ false → (n == x) ≡ false → x < n) → (x + 1 ≤ n → IsAscendingFrom (x + 1) (put n xs))
        → nat_lt n x ≡ b → (n == x) ≡ c → IsAscendingFrom low (cond b (n ∷ x ∷ xs) (cond c (x ∷ xs) (x ∷ put n xs)))
    by_tests true c less more f e g = (l, (let lt = less e in omega arith, h.1))
    by_tests false true less more f e g = h
    by_tests false false less more f e g = (h.0, f (let lt = more e g in omega arith))

-- ---- the addresses of stamps
abbrev addresses_of : List Stamp → List ℕ
addresses_of [] = []
addresses_of (Entry ∷ stamps) = addresses_of stamps
addresses_of (At a ∷ stamps) = put a (addresses_of stamps)

stamp_of : (a : ℕ) (stamps : List Stamp) → IsAmong a (addresses_of stamps) → IsAmong (At a) stamps
stamp_of a [] h = absurd h
stamp_of a (Entry ∷ stamps) h = inr (stamp_of a stamps h)
stamp_of a (At b ∷ stamps) h = elim (put_only b a (addresses_of stamps) h) [
  | inl e ↦ inl (ap At e)
  | inr k ↦ inr (stamp_of a stamps k)
]

address_of : (a : ℕ) (stamps : List Stamp) → IsAmong (At a) stamps → IsAmong a (addresses_of stamps)
address_of a [] h = absurd h
address_of a (Entry ∷ stamps) (inl e) = cc
address_of a (Entry ∷ stamps) (inr k) = address_of a stamps k
address_of a (At b ∷ stamps) (inl e) = let same : a ≡ b = cc in subst (λ z. IsAmong z (put b (addresses_of stamps))) (sym same) (put_here b (addresses_of stamps))
address_of a (At b ∷ stamps) (inr k) = put_more b a (addresses_of stamps) (address_of a stamps k)

addresses_ascend : (stamps : List Stamp) → IsAscendingFrom 0 (addresses_of stamps)
addresses_ascend [] = tt
addresses_ascend (Entry ∷ stamps) = addresses_ascend stamps
addresses_ascend (At a ∷ stamps) = put_ascends 0 a (addresses_of stamps) (omega arith) (addresses_ascend stamps)

-- ---- the stamps of uses
abbrev stamps_in : List Seen → List Stamp
stamps_in [] = []
stamps_in (u ∷ us) = u.stamps ++ stamps_in us

from_among : (s : Stamp) (us : List Seen) → IsTrue (is_from us s) → IsAmong s (stamps_in us)
from_among s [] h = cc
from_among s (u ∷ us) h = elim (or_sorted (is_listed u.stamps s) (is_from us s) h) [
  | inl k ↦ among_left s u.stamps (stamps_in us) (among_listed s u.stamps k)
  | inr k ↦ among_right s u.stamps (stamps_in us) (from_among s us k)
]

among_from : (s : Stamp) (us : List Seen) → IsAmong s (stamps_in us) → IsTrue (is_from us s)
among_from s [] h = absurd h
among_from s (u ∷ us) h = elim (among_either s u.stamps (stamps_in us) h) [
  | inl k ↦ or_left (is_listed u.stamps s) (is_from us s) (listed_from s u.stamps k)
  | inr k ↦ or_right (is_listed u.stamps s) (is_from us s) (among_from s us k)
]

-- ---- ways
module _ (uses : ℕ → List Seen) where
  -- A way leads to a stamp: that of an address, or the entry's.
  abbrev To : List Seen → List ℕ → Stamp → Type 0
  To from [] s = IsTrue (is_from from s)
  To from (a ∷ way) s = IsTrue (is_from from (At a)) × To (uses a) way s

  to_leads : (from : List Seen) (way : List ℕ) (a : ℕ) → To from way (At a) → Leads uses from way a
  to_leads from [] a h = h
  to_leads from (b ∷ way) a h = (h.0, to_leads (uses b) way a h.1)

  leads_to : (from : List Seen) (way : List ℕ) (a : ℕ) → Leads uses from way a → To from way (At a)
  leads_to from [] a h = h
  leads_to from (b ∷ way) a h = (h.0, leads_to (uses b) way a h.1)

  -- one way behind another
  joined : (from : List Seen) (way more : List ℕ) (n : ℕ) (s : Stamp) → To from way (At n) → To (uses n) more s → (all : List ℕ) × To from all s
  joined from [] more n s h k = (n ∷ more, (h, k))
  joined from (a ∷ way) more n s h k = let rest = joined (uses a) way more n s h.1 k in (a ∷ rest.0, (h.0, rest.1))

  to_entry : (from : List Seen) (way : List ℕ) → To from way Entry → ReachesEntry uses from
  to_entry from [] h = inl h
  to_entry from (a ∷ way) h = elim (to_entry (uses a) way h.1) [
    | inl e ↦ inr (a, ([], h.0), e)
    | inr (b, reached, e) ↦ inr (b, (a ∷ reached.0, (h.0, reached.1)), e)
  ]

  entry_to : (from : List Seen) → ReachesEntry uses from → (way : List ℕ) × To from way Entry
  entry_to from (inl e) = ([], e)
  entry_to from (inr (a, reached, e)) = joined from reached.0 [] a Entry (leads_to from reached.0 a reached.1) e

  -- ---- the stamps to which ways lead that go by these addresses alone
  abbrev by : List ℕ → List Seen → List Stamp
  by [] from = stamps_in from
  by (n ∷ ns) from = by ns from ++ cond (is_listed (by ns from) (At n)) (by ns (uses n)) []

  by_leads : (ns : List ℕ) (from : List Seen) (s : Stamp) → IsAmong s (by ns from) → (way : List ℕ) × To from way s
  by_leads [] from s h = ([], among_from s from h)
  by_leads (n ∷ ns) from s h =
      elim (among_either s (by ns from) (cond (is_listed (by ns from) (At n)) (by ns (uses n)) []) h) [
        | inl k ↦ by_leads ns from s k
        | inr k ↦ by_test (is_listed (by ns from) (At n)) refl k (λ j. by_leads ns from (At n) j) (by_leads ns (uses n) s)
      ]
    where
      by_test : (b : Bool) → is_listed (by ns from) (At n) ≡ b → IsAmong s (cond b (by ns (uses n)) []) → (IsAmong (At n) (by ns from) → (way : List ℕ) × To from way (At n))
          → (IsAmong s (by ns (uses n)) → (way : List ℕ) × To (uses n) way s) → (way : List ℕ) × To from way s
      by_test false e k f g = absurd k
      by_test true e k f g = let first = f (among_listed (At n) (by ns from) e) in let second = g k in joined from first.0 second.0 n s first.1 second.1

  -- There is such a way.
  abbrev Via : List ℕ → List Seen → Stamp → Type 0
  Via ns from s = (way : List ℕ) × To from way s × Each (λ a. IsAmong a ns) way

  -- One that goes by n too goes by the others alone, or it goes by them to n, and from there on.
  split : (n : ℕ) (ns : List ℕ) (from : List Seen) (way : List ℕ) (s : Stamp) → To from way s → Each (λ a. IsAmong a (n ∷ ns)) way → Via ns from s ⊎ (Via ns from (At n) × Via ns (uses n) s)
  split n ns from [] s h w = inl ([], h, tt)
  split n ns from (a ∷ way) s h w = at_first w.0 (split n ns (uses a) way s h.1 w.1)
    where
      at_first : (a ≡ n) ⊎ IsAmong a ns → Via ns (uses a) s ⊎ (Via ns (uses a) (At n) × Via ns (uses n) s) → Via ns from s ⊎ (Via ns from (At n) × Via ns (uses n) s)
      at_first (inl e) (inl v) = inr (([], subst (λ z. IsTrue (is_from from (At z))) e h.0, tt), subst (λ z. Via ns (uses z) s) e v)
      at_first (inl e) (inr v) = inr (([], subst (λ z. IsTrue (is_from from (At z))) e h.0, tt), v.1)
      at_first (inr m) (inl v) = inl (a ∷ v.0, (h.0, v.1), (m, v.2))
      at_first (inr m) (inr v) = inr ((a ∷ v.0.0, (h.0, v.0.1), (m, v.0.2)), v.1)

  leads_by : (ns : List ℕ) (from : List Seen) (way : List ℕ) (s : Stamp) → To from way s → Each (λ a. IsAmong a ns) way → IsAmong s (by ns from)
  leads_by [] from [] s h w = from_among s from h
  leads_by [] from (a ∷ way) s h w = absurd w.0
  leads_by (n ∷ ns) from way s h w =
      by_split (split n ns from way s h w) (λ us t v. leads_by ns us v.0 t v.1 v.2)
    where
      by_split : Via ns from s ⊎ (Via ns from (At n) × Via ns (uses n) s) → ((us : List Seen) (t : Stamp) → Via ns us t → IsAmong t (by ns us)) → IsAmong s (by (n ∷ ns) from)
      by_split (inl v) f = among_left s (by ns from) (cond (is_listed (by ns from) (At n)) (by ns (uses n)) []) (f from s v)
      by_split (inr v) f =
          let has = listed_from (At n) (by ns from) (f from (At n) v.0) in
          among_right s (by ns from) (cond (is_listed (by ns from) (At n)) (by ns (uses n)) []) (subst (λ b. IsAmong s (cond b (by ns (uses n)) [])) (sym has) (f (uses n) s v.1))

  -- ---- where only these addresses have uses
  module _ (all : List ℕ) (has : (a : ℕ) (s : Stamp) → IsTrue (is_from (uses a) s) → IsAmong a all) where
    leaves : (a : ℕ) (way : List ℕ) (s : Stamp) → To (uses a) way s → IsAmong a all
    leaves a [] s h = has a s h
    leaves a (b ∷ way) s h = has a (At b) h.0

    goes_by : (from : List Seen) (way : List ℕ) (s : Stamp) → To from way s → Each (λ a. IsAmong a all) way
    goes_by from [] s h = tt
    goes_by from (a ∷ way) s h = (leaves a way s h.1, goes_by (uses a) way s h.1)

    found : (from : List Seen) (way : List ℕ) (s : Stamp) → To from way s → IsAmong s (by all from)
    found from way s h = leads_by all from way s h (goes_by from way s h)

pub slices_are_there : SlicesAreThere
slices_are_there uses from all has =
    let stamps = by uses all from in (
      is_listed stamps Entry,
      addresses_of stamps,
      record {
        entry = (
          λ h. let way = by_leads uses all from Entry (among_listed Entry stamps h) in to_entry uses from way.0 way.1,
          λ h. let way = entry_to uses from h in listed_from Entry stamps (found uses all has from way.0 Entry way.1),
        );
        members = λ a. (
          λ h. let way = by_leads uses all from (At a) (stamp_of a stamps h) in (way.0, to_leads uses from way.0 a way.1),
          λ h. address_of a stamps (found uses all has from h.0 (At a) (leads_to uses from h.0 a h.1)),
        );
        ascending = addresses_ascend stamps;
      },
    )
