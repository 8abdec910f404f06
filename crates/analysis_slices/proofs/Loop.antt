-- The loop of the search: a pending address is taken, and the uses at it are added.
use Rattle.std.proofs.Common.{◌≡◌, ◌∙◌, ℕ, ◌-◌, ◌<◌, ◌^◌, Bool, true, false, List, length, IsTrue, ◌⊎◌, inl, inr, refl, sym, ap, subst, arith}
use Rattle.std.specs.Prelude.{◌||◌, ◌&&◌, ◌==◌, not}
use Rattle.std.specs.Ordering.{nat_cmp}
use Rattle.std.specs.BTreeSet.{BTreeSet, IsOrdered, contains}
use Rattle.base_trait.specs.Lists.{IsAmong, IsAscending}
use Rattle.base_trait.specs.Uses.{Seen}
use Rattle.base_trait.specs.declared.uses.Stamp.TheVariants.{Entry, At}
use Rattle.base_trait.proofs.Lists.{number_told}
use Rattle.base_trait.proofs.Tests.{or_sorted}
use Rattle.analysis_query_laws.specs.Slices.{IsSliceFrom, is_from}
use Rattle.analysis_slices.specs.declared.slice_search.SliceSearch.{SliceSearch}
use Rattle.analysis_slices.specs.Found.{IsAdded, IsTaken, is_followed, is_pending}
use Rattle.analysis_slices.proofs.Search.{IsFollowed, IsSearch, followed_reached, search_begun, search_followed, told_reached}
use Rattle.analysis_slices.proofs.Sets.{among_held, few, held_among, sorted_ascends}

module _ (uses : ℕ → List Seen) (from : List Seen) where
  -- what was found is a search, and addresses have 32 bits
  pub record IsFine (found : SliceSearch) : Type 0 where
    pub search : IsSearch uses from found.entry (is_followed found) (is_pending found)
    pub ordered : IsOrdered nat_cmp found.followed
    pub small : (a : ℕ) → IsTrue (is_followed found a) → a < 2 ^ 32

  module _ (old mid new : SliceSearch) (at : ℕ) (us : List Seen) (same : us ≡ uses at) (taken : IsTaken at old mid) (added : IsAdded (is_from us) mid new) where
    now_followed : (a : ℕ) → is_followed new a ≡ (is_followed old a || a == at)
    now_followed a = ap (λ s. contains nat_cmp s a) added.followed ∙ taken.followed a

    is_step : IsFollowed uses from old.entry new.entry (is_followed old) (is_pending old) (is_followed new) (is_pending new) at
    is_step = record {
      was_pending = taken.was_pending;
      told_is = added.entry ∙ ap (λ p. p || is_from us Entry) taken.entry ∙ ap (λ z. old.entry || is_from z Entry) same;
      followed_is = now_followed;
      pending_is = λ a.
          added.pending a
          ∙ ap (λ p. p || (is_from us (At a) && not (is_followed mid a))) (taken.pending a)
          ∙ ap (λ f. (is_pending old a && not (a == at)) || (is_from us (At a) && not f)) (taken.followed a)
          ∙ ap (λ z. (is_pending old a && not (a == at)) || (is_from z (At a) && not (is_followed old a || a == at))) same;
    }

    ordered_still : IsOrdered nat_cmp new.followed
    ordered_still = subst (IsOrdered nat_cmp) (sym added.followed) taken.ordered

    module _ (fine : IsFine old) (fits : at < 2 ^ 32) where
      small_still : (a : ℕ) → IsTrue (is_followed new a) → a < 2 ^ 32
      small_still a h = sorted (or_sorted (is_followed old a) (a == at) (subst IsTrue (now_followed a) h))
        where
          sorted : IsTrue (is_followed old a) ⊎ IsTrue (a == at) → a < 2 ^ 32
          sorted (inl k) = fine.small a k
          sorted (inr k) = subst (λ z. z < 2 ^ 32) (sym (number_told a at k)) fits

      pub step_fine : IsFine new
      step_fine = record {
        search = search_followed uses from old.entry new.entry (is_followed old) (is_pending old) (is_followed new) (is_pending new) at fine.search is_step;
        ordered = ordered_still;
        small = small_still;
      }

      -- one more address was followed, and there are at most 2^32
      pub step_smaller : 2 ^ 32 - length new.followed.keys < 2 ^ 32 - length old.followed.keys
      step_smaller =
          let longer = ap (λ (s : BTreeSet ℕ). length s.keys) added.followed ∙ taken.longer (fine.search.apart at taken.was_pending) in
          let most = few (2 ^ 32) new.followed.keys ordered_still small_still in
          omega (arith, longer, most)

  -- ---- the start
  pub begun_fine : (nothing found : SliceSearch) (us : List Seen) → nothing.entry ≡ false → ((a : ℕ) → is_followed nothing a ≡ false) → ((a : ℕ) → is_pending nothing a ≡ false) → IsOrdered nat_cmp nothing.followed
      → us ≡ from → IsAdded (is_from us) nothing found → IsFine found
  begun_fine nothing found us entry followed pending ordered same added =
      let none : (a : ℕ) → is_followed found a ≡ false = λ a. ap (λ s. contains nat_cmp s a) added.followed ∙ followed a in
      record {
        search = search_begun uses from found.entry (is_followed found) (is_pending found)
            (added.entry ∙ ap (λ p. p || is_from us Entry) entry ∙ ap (λ z. is_from z Entry) same)
            none
            (λ a. added.pending a ∙ ap (λ p. p || (is_from us (At a) && not (is_followed nothing a))) (pending a) ∙ ap (λ f. is_from us (At a) && not f) (followed a) ∙ and_true (is_from us (At a)) ∙ ap (λ z. is_from z (At a)) same);
        ordered = subst (IsOrdered nat_cmp) (sym added.followed) ordered;
        small = λ a h. let no = none a in cc;
      }
    where
      and_true : (p : Bool) → (p && true) ≡ p
      and_true true = refl
      and_true false = refl

  -- ---- the end
  pub is_slice : (found : SliceSearch) (told : Bool) (addresses : List ℕ) → IsFine found → ((a : ℕ) → is_pending found a ≡ false) → told ≡ found.entry → addresses ≡ found.followed.keys → IsSliceFrom uses from told addresses
  is_slice found told addresses fine none entry keys =
      let reached = followed_reached uses from found.entry (is_followed found) (is_pending found) fine.search none in
      let told_is = told_reached uses from found.entry (is_followed found) (is_pending found) fine.search none in
      record {
        entry = (λ h. told_is.0 (subst IsTrue entry h), λ h. subst IsTrue (sym entry) (told_is.1 h));
        members = λ a. (
          λ h. (reached a).0 (among_held a found.followed.keys (subst (IsAmong a) keys h)),
          λ h. subst (IsAmong a) (sym keys) (held_among a found.followed.keys ((reached a).1 h)),
        );
        ascending = subst IsAscending (sym keys) (sorted_ascends found.followed.keys fine.ordered);
      }
