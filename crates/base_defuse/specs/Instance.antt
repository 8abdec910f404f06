-- The laws of sets of stamps.
use Rattle.std.proofs.Common.{◌≡◌, ℕ, ◌+◌, ◌<◌, ◌≤◌, Bool, true, false, cond, List, [], ◌∷◌, ◌++◌, length, Option, refl, sym, subst, arith, IsTrue, ◌⊎◌, inl, inr}
use Rattle.std.specs.Prelude.{◌&&◌}
use Rattle.base_trait.specs.Laws.{Laws, NoteLaws}
use Rattle.base_trait.specs.Lists.{IsAmong, AreAmong}
use Rattle.base_trait.specs.Identity.{IsIdentity, same_list, same_list_is, same_list_itself, identity_equiv, identity_partial}
use Rattle.base_trait.specs.Stamps.{is_before, is_listed, same_stamp, AreAscending}
use Rattle.base_trait.specs.declared.uses.Stamp.{Stamp}
use Rattle.base_trait.proofs.Lists.{among_left, among_right, are_among_from, are_among_at, each_from, each_at}
use Rattle.base_trait.proofs.Stamps.{stamp_itself, stamp_told, listed_from, among_listed, before_on, before_or_after}
use Rattle.base_trait.proofs.Tests.{and_both, and_parts, neither, at_choice, from_either}
use Rattle.std.specs.Cmp.{IsEquivalence, IsPartialEquivalence}
use Rattle.base_kset.specs.Instance.{word_laws}
use Rattle.base_defuse.specs.Meaning.{defuse}
use Rattle.base_defuse.specs.Notes.{placed, with_stamp, union, has_all, lacking, stamp_notes}

-- ---- a stamp in its place
placed_has : (s : Stamp) (xs : List Stamp) → IsAmong s (placed s xs)
placed_has s [] = inl refl
placed_has s (x ∷ xs) = at_choice (IsAmong s) (is_before s x) (s ∷ x ∷ xs) (x ∷ placed s xs) (λ e. inl refl) (λ e. inr (placed_has s xs))

placed_keeps : (s t : Stamp) (xs : List Stamp) → IsAmong t xs → IsAmong t (placed s xs)
placed_keeps s t [] h = absurd h
placed_keeps s t (x ∷ xs) h = at_choice (IsAmong t) (is_before s x) (s ∷ x ∷ xs) (x ∷ placed s xs) (λ e. inr h) (λ e. kept h (placed_keeps s t xs))
  where
    kept : IsAmong t (x ∷ xs) → (IsAmong t xs → IsAmong t (placed s xs)) → IsAmong t (x ∷ placed s xs)
    kept (inl d) f = inl d
    kept (inr k) f = inr (f k)

placed_only : (s t : Stamp) (xs : List Stamp) → IsAmong t (placed s xs) → (t ≡ s) ⊎ IsAmong t xs
placed_only s t [] h = h
placed_only s t (x ∷ xs) h =
    at_choice (λ l. IsAmong t l → (t ≡ s) ⊎ IsAmong t (x ∷ xs)) (is_before s x) (s ∷ x ∷ xs) (x ∷ placed s xs) (λ e k. k) (λ e k. sorted k (placed_only s t xs)) h
  where
    further : (t ≡ s) ⊎ IsAmong t xs → (t ≡ s) ⊎ IsAmong t (x ∷ xs)
    further (inl d) = inl d
    further (inr k) = inr (inr k)

    sorted : IsAmong t (x ∷ placed s xs) → (IsAmong t (placed s xs) → (t ≡ s) ⊎ IsAmong t xs) → (t ≡ s) ⊎ IsAmong t (x ∷ xs)
    sorted (inl d) f = inr (inl d)
    sorted (inr k) f = further (f k)

placed_ascends : (s : Stamp) (xs : List Stamp) → AreAscending xs → is_listed xs s ≡ false → AreAscending (placed s xs)
placed_ascends s [] h k = (tt, tt)
placed_ascends s (x ∷ xs) h k =
    at_choice AreAscending (is_before s x) (s ∷ x ∷ xs) (x ∷ placed s xs)
    (λ e. ((e, each_from (λ t. IsTrue (is_before s t)) xs (λ t l. before_on s x t e (each_at (λ t. IsTrue (is_before x t)) xs t h.0 l))), h))
    (λ e. (each_from (λ t. IsTrue (is_before x t)) (placed s xs) (λ t l. later e t (placed_only s t xs l)), placed_ascends s xs h.1 (neither (same_stamp x s) (is_listed xs s) k).1))
  where
    later : is_before s x ≡ false → (t : Stamp) → (t ≡ s) ⊎ IsAmong t xs → IsTrue (is_before x t)
    later e t (inl d) = subst (λ z. IsTrue (is_before x z)) (sym d) (before_or_after s x e (neither (same_stamp x s) (is_listed xs s) k).0)
    later e t (inr l) = each_at (λ t. IsTrue (is_before x t)) xs t h.0 l

-- ---- stamps with one more
with_keeps : (s t : Stamp) (xs : List Stamp) → IsAmong t xs → IsAmong t (with_stamp xs s)
with_keeps s t xs h = at_choice (IsAmong t) (is_listed xs s) xs (placed s xs) (λ e. h) (λ e. placed_keeps s t xs h)

with_has : (s : Stamp) (xs : List Stamp) → IsAmong s (with_stamp xs s)
with_has s xs = at_choice (IsAmong s) (is_listed xs s) xs (placed s xs) (λ e. among_listed s xs e) (λ e. placed_has s xs)

with_only : (s t : Stamp) (xs : List Stamp) → IsAmong t (with_stamp xs s) → (t ≡ s) ⊎ IsAmong t xs
with_only s t xs h = at_choice (λ l. IsAmong t l → (t ≡ s) ⊎ IsAmong t xs) (is_listed xs s) xs (placed s xs) (λ e k. inr k) (λ e k. placed_only s t xs k) h

with_listed : (s : Stamp) (xs : List Stamp) → IsTrue (is_listed xs s) → with_stamp xs s ≡ xs
with_listed s xs h = at_choice (λ l. l ≡ xs) (is_listed xs s) xs (placed s xs) (λ e. refl) (λ e. cc)

pub with_ascends : (s : Stamp) (xs : List Stamp) → AreAscending xs → AreAscending (with_stamp xs s)
with_ascends s xs h = at_choice AreAscending (is_listed xs s) xs (placed s xs) (λ e. h) (λ e. placed_ascends s xs h e)

-- ---- unions
union_left : (s : Stamp) (xs ys : List Stamp) → IsAmong s xs → IsAmong s (union xs ys)
union_left s xs [] h = h
union_left s xs (y ∷ ys) h = union_left s (with_stamp xs y) ys (with_keeps y s xs h)

union_right : (s : Stamp) (xs ys : List Stamp) → IsAmong s ys → IsAmong s (union xs ys)
union_right s xs [] h = absurd h
union_right s xs (y ∷ ys) (inl e) = union_left s (with_stamp xs y) ys (subst (λ z. IsAmong s (with_stamp xs z)) e (with_has s xs))
union_right s xs (y ∷ ys) (inr h) = union_right s (with_stamp xs y) ys h

union_only : (s : Stamp) (xs ys : List Stamp) → IsAmong s (union xs ys) → IsAmong s xs ⊎ IsAmong s ys
union_only s xs [] h = inl h
union_only s xs (y ∷ ys) h = sorted (union_only s (with_stamp xs y) ys h)
  where
    first : (s ≡ y) ⊎ IsAmong s xs → IsAmong s xs ⊎ IsAmong s (y ∷ ys)
    first (inl e) = inr (inl e)
    first (inr k) = inl k

    sorted : IsAmong s (with_stamp xs y) ⊎ IsAmong s ys → IsAmong s xs ⊎ IsAmong s (y ∷ ys)
    sorted (inl k) = first (with_only y s xs k)
    sorted (inr k) = inr (inr k)

pub union_ascends : (xs ys : List Stamp) → AreAscending xs → AreAscending (union xs ys)
union_ascends xs [] h = h
union_ascends xs (y ∷ ys) h = union_ascends (with_stamp xs y) ys (with_ascends y xs h)

-- ---- which stamps a note has
all_from : (xs ys : List Stamp) → ((s : Stamp) → IsAmong s ys → IsAmong s xs) → IsTrue (has_all xs ys)
all_from xs [] f = refl
all_from xs (y ∷ ys) f = and_both (is_listed xs y) _ (listed_from y xs (f y (inl refl))) (all_from xs ys (λ s h. f s (inr h)))

all_at : (s : Stamp) (xs ys : List Stamp) → IsTrue (has_all xs ys) → IsAmong s ys → IsAmong s xs
all_at s xs [] h k = absurd k
all_at s xs (y ∷ ys) h (inl e) = subst (λ z. IsAmong z xs) (sym e) (among_listed y xs (and_parts (is_listed xs y) _ h).0)
all_at s xs (y ∷ ys) h (inr k) = all_at s xs ys (and_parts (is_listed xs y) _ h).1 k

union_keeps : (xs ys : List Stamp) → IsTrue (has_all xs ys) → union xs ys ≡ xs
union_keeps xs [] h = refl
union_keeps xs (y ∷ ys) h =
    let k = and_parts (is_listed xs y) _ h in
    rw (with_listed y xs k.0) (union_keeps xs ys k.1)

-- a stamp that the first list lacks
record Missing (xs ys : List Stamp) : Type 0 where
  stamp : Stamp
  there : IsAmong stamp ys
  lacked : is_listed xs stamp ≡ false

missing : (xs ys : List Stamp) → has_all xs ys ≡ false → Missing xs ys
missing xs [] h = cc
missing xs (y ∷ ys) h = at_test (is_listed xs y) refl h (missing xs ys)
  where
    at_test : (b : Bool) → b ≡ is_listed xs y → (b && has_all xs ys) ≡ false → (has_all xs ys ≡ false → Missing xs ys) → Missing xs (y ∷ ys)
    at_test true e k f = let m = f k in record { stamp = m.stamp; there = inr m.there; lacked = m.lacked }
    at_test false e k f = record { stamp = y; there = inl refl; lacked = sym e }

-- ---- what is lacking
-- a note with more stamps lacks no more
lacking_less : (ss xs ys : List Stamp) → ((s : Stamp) → IsAmong s xs → IsAmong s ys) → lacking ss ys ≤ lacking ss xs
lacking_less [] xs ys f = omega arith
lacking_less (s ∷ ss) xs ys f = at_tests (is_listed xs s) (is_listed ys s) refl refl (lacking_less ss xs ys f)
  where
    at_tests : (p q : Bool) → p ≡ is_listed xs s → q ≡ is_listed ys s → lacking ss ys ≤ lacking ss xs → (cond q (lacking ss ys) (lacking ss ys + 1)) ≤ (cond p (lacking ss xs) (lacking ss xs + 1))
    at_tests true true e d h = h
    at_tests false true e d h = omega (arith, h)
    at_tests false false e d h = omega (arith, h)
    at_tests true false e d h = let k = listed_from s ys (f s (among_listed s xs (sym e))) in cc

-- and fewer, where it has one of the list that the other lacked
lacking_fewer : (ss xs ys : List Stamp) (t : Stamp) → ((s : Stamp) → IsAmong s xs → IsAmong s ys) → IsAmong t ss → is_listed xs t ≡ false → IsTrue (is_listed ys t)
    → lacking ss ys < lacking ss xs
lacking_fewer [] xs ys t f h k l = absurd h
lacking_fewer (s ∷ ss) xs ys t f (inl e) k l =
    let there = subst (λ z. IsTrue (is_listed ys z)) e l in
    let gone = subst (λ z. is_listed xs z ≡ false) e k in
    let less = lacking_less ss xs ys f in
    rw (there, gone) (omega (arith, less))
lacking_fewer (s ∷ ss) xs ys t f (inr h) k l = at_tests (is_listed xs s) (is_listed ys s) refl refl (lacking_fewer ss xs ys t f h k l)
  where
    at_tests : (p q : Bool) → p ≡ is_listed xs s → q ≡ is_listed ys s → lacking ss ys < lacking ss xs → (cond q (lacking ss ys) (lacking ss ys + 1)) < (cond p (lacking ss xs) (lacking ss xs + 1))
    at_tests true true e d h = h
    at_tests false true e d h = omega (arith, h)
    at_tests false false e d h = omega (arith, h)
    at_tests true false e d h = let k = listed_from s ys (f s (among_listed s xs (sym e))) in cc

lacking_most : (ss xs : List Stamp) → lacking ss xs ≤ length ss
lacking_most [] xs = omega arith
lacking_most (s ∷ ss) xs = let most = lacking_most ss xs in at_choice (λ n. n ≤ length (s ∷ ss)) (is_listed xs s) (lacking ss xs) (lacking ss xs + 1) (λ e. omega (arith, most)) (λ e. omega (arith, most))

union_lists : (xs ys : List Stamp) → AreAmong (union xs ys) (xs ++ ys)
union_lists xs ys = are_among_from (union xs ys) (xs ++ ys) (λ s h. from_either (among_left s xs ys) (among_right s xs ys) (union_only s xs ys h))

itself_among : (xs : List Stamp) → AreAmong xs xs
itself_among xs = are_among_from xs xs (λ s h. h)

pub stamp_note_laws : NoteLaws (List Stamp) true stamp_notes
stamp_note_laws = record {
  entry_sound = inl refl;
  at_sound = λ a. inl refl;
  join_describes = λ s x y may h. from_either (union_left s x y) (union_right s x y) h;
  join_absorbs = λ x y may. (all_from (union x y) x (λ s h. union_left s x y h), all_from (union x y) y (λ s h. union_right s x y h));
  join_least = λ x y z h k. all_from z (union x y) (λ s l. from_either (λ a. all_at s z x h a) (λ a. all_at s z y k a) (union_only s x y l));
  widen_describes = λ s x y may h. from_either (union_left s x y) (union_right s x y) h;
  widen_absorbs = λ x y may. (all_from (union x y) x (λ s h. union_left s x y h), all_from (union x y) y (λ s h. union_right s x y h));
  absorbs_itself = λ x. all_from x x (λ s h. h);
  absorbs_on = λ x y z h k. all_from x z (λ s l. all_at s x y h (all_at s y z k l));
  absorbs_describes = λ s old new h k. all_at s old new h k;
  widen_keeps = λ old new joins h. union_keeps old new h;
  widen_falls = λ stamps old new joins h k e.
      let m = missing old new e in
      lacking_fewer stamps old (union old new) m.stamp (λ s l. union_left s old new l) (are_among_at new stamps m.stamp k m.there) m.lacked (listed_from m.stamp (union old new) (union_right m.stamp old new m.there));
  rank_height = λ stamps x. lacking_most stamps x;
  reads_cover = λ m key k s x e h d. inl (record { of_map = refl; key = h; stamp = d });
  reads_name = λ m key x. ((refl, refl), tt);
  reads_nothing = λ m key x e. cc;
  entry_lists = (inl refl, tt);
  at_lists = λ a. (inl refl, tt);
  join_lists = λ x y. union_lists x y;
  widen_lists = λ x y. union_lists x y;
  reads_list = λ m key x. (itself_among x, tt);
}

pub defuse_laws : Laws (Option (List ℕ)) (List Stamp) (Unit {0}) defuse
defuse_laws = record { words = word_laws 1; notes = stamp_note_laws }

-- ---- when two notes are the same
abbrev pub same_notes : List Stamp → List Stamp → Bool
same_notes = same_list same_stamp

pub same_notes_is : IsIdentity same_notes
same_notes_is = same_list_is same_stamp stamp_told

pub same_notes_equiv : IsEquivalence same_notes
same_notes_equiv = identity_equiv same_notes (same_list_itself same_stamp stamp_itself) same_notes_is

pub same_notes_partial : IsPartialEquivalence same_notes
same_notes_partial = identity_partial same_notes (same_list_itself same_stamp stamp_itself) same_notes_is
