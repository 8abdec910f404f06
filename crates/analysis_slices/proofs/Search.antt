-- A search for all addresses that uses lead to: those that were followed, and those that are still to be.
use Rattle.std.proofs.Common.{◌≡◌, ℕ, Bool, true, false, List, [], ◌∷◌, IsTrue, ◌⊎◌, ◌↔◌, inl, inr, refl, sym, subst}
use Rattle.std.specs.Prelude.{◌||◌, ◌&&◌, ◌==◌, not}
use Rattle.base_trait.specs.Uses.{Seen}
use Rattle.base_trait.specs.declared.uses.Stamp.TheVariants.{Entry, At}
use Rattle.base_trait.proofs.Lists.{number_told}
use Rattle.base_trait.proofs.Tests.{or_left, or_right, or_sorted}
use Rattle.analysis_query_laws.specs.Slices.{IsReached, Leads, ReachesEntry, is_from}

module _ (uses : ℕ → List Seen) (from : List Seen) where
  pub record IsSearch (told : Bool) (followed pending : ℕ → Bool) : Type 0 where
    -- what was found is reached
    pub sound : (a : ℕ) → IsTrue (followed a || pending a) → IsReached uses from a
    pub entry_sound : IsTrue told → ReachesEntry uses from
    -- the stamps of the uses at the start, and of those at each address that was followed, were found
    pub begun : (a : ℕ) → IsTrue (is_from from (At a)) → IsTrue (followed a || pending a)
    pub entry_begun : IsTrue (is_from from Entry) → IsTrue told
    pub closed : (b a : ℕ) → IsTrue (followed b) → IsTrue (is_from (uses b) (At a)) → IsTrue (followed a || pending a)
    pub entry_closed : (b : ℕ) → IsTrue (followed b) → IsTrue (is_from (uses b) Entry) → IsTrue told
    -- what was followed is not pending
    pub apart : (a : ℕ) → IsTrue (pending a) → followed a ≡ false

  -- one more address on a way
  extended : (b a : ℕ) (us : List Seen) (way : List ℕ) → Leads uses us way b → IsTrue (is_from (uses b) (At a)) → IsReached uses us a
  extended b a us [] h k = (b ∷ [], (h, k))
  extended b a us (c ∷ way) h k = let more = extended b a (uses c) way h.1 k in (c ∷ more.0, (h.0, more.1))

  reached_on : (b a : ℕ) → IsReached uses from b → IsTrue (is_from (uses b) (At a)) → IsReached uses from a
  reached_on b a h k = extended b a from h.0 h.1 k

  -- ---- the start: the stamps of uses are pending
  pub search_begun : (told : Bool) (followed pending : ℕ → Bool) → told ≡ is_from from Entry → ((a : ℕ) → followed a ≡ false) → ((a : ℕ) → pending a ≡ is_from from (At a)) → IsSearch told followed pending
  search_begun told followed pending entry none all = record {
    sound = λ a h. ([], subst IsTrue (all a) (subst (λ z. IsTrue (z || pending a)) (none a) h));
    entry_sound = λ h. inl (subst IsTrue entry h);
    begun = λ a h. or_right (followed a) (pending a) (subst IsTrue (sym (all a)) h);
    entry_begun = λ h. subst IsTrue (sym entry) h;
    closed = λ b a h k. let no = none b in cc;
    entry_closed = λ b h k. let no = none b in cc;
    apart = λ a h. none a;
  }

  -- ---- a step: a pending address is followed
  module _ (told new_told : Bool) (followed pending new_followed new_pending : ℕ → Bool) (at : ℕ) where
    pub record IsFollowed : Type 0 where
      pub was_pending : IsTrue (pending at)
      pub told_is : new_told ≡ (told || is_from (uses at) Entry)
      pub followed_is : (a : ℕ) → new_followed a ≡ (followed a || a == at)
      pub pending_is : (a : ℕ) → new_pending a ≡ ((pending a && not (a == at)) || (is_from (uses at) (At a) && not (followed a || a == at)))

    module _ (so_far : IsSearch told followed pending) (is : IsFollowed) where
      at_reached : IsReached uses from at
      at_reached = so_far.sound at (or_right (followed at) (pending at) is.was_pending)

      -- what was found stays found, and so are the stamps at the address
      kept : (a : ℕ) → IsTrue (followed a || pending a) ⊎ IsTrue (is_from (uses at) (At a)) → IsTrue (new_followed a || new_pending a)
      kept a h = by_tests (followed a) (pending a) (a == at) (is_from (uses at) (At a)) h (is.followed_is a) (is.pending_is a)
        where
          by_tests : (f p e s : Bool) → IsTrue (f || p) ⊎ IsTrue s → new_followed a ≡ (f || e) → new_pending a ≡ ((p && not e) || (s && not (f || e))) → IsTrue (new_followed a || new_pending a)
          by_tests true p e s h k l = or_left (new_followed a) (new_pending a) k
          by_tests false p true s h k l = or_left (new_followed a) (new_pending a) k
          by_tests false true false s h k l = or_right (new_followed a) (new_pending a) l
          by_tests false false false true h k l = or_right (new_followed a) (new_pending a) l
          by_tests false false false false (inl h) k l = cc
          by_tests false false false false (inr h) k l = cc

      -- what is found was found before, or is a stamp at the address
      origin : (a : ℕ) → IsTrue (new_followed a || new_pending a) → IsTrue (followed a || pending a) ⊎ IsTrue (is_from (uses at) (At a))
      origin a h = by_tests (followed a) (pending a) (a == at) (is_from (uses at) (At a)) (is.followed_is a) (is.pending_is a) h (λ e. subst (λ z. IsTrue (pending z)) (sym (number_told a at e)) is.was_pending)
        where
          by_tests : (f p e s : Bool) → new_followed a ≡ (f || e) → new_pending a ≡ ((p && not e) || (s && not (f || e))) → IsTrue (new_followed a || new_pending a) → (IsTrue e → IsTrue p)
              → IsTrue (f || p) ⊎ IsTrue s
          by_tests true p e s k l h own = inl refl
          by_tests false true e s k l h own = inl refl
          by_tests false false e true k l h own = inr refl
          by_tests false false true false k l h own = let yes = own refl in cc
          by_tests false false false false k l h own = cc

      before_it : (b : ℕ) → IsTrue (new_followed b) → IsTrue (followed b) ⊎ (b ≡ at)
      before_it b h = sorted (or_sorted (followed b) (b == at) (subst IsTrue (is.followed_is b) h))
        where
          sorted : IsTrue (followed b) ⊎ IsTrue (b == at) → IsTrue (followed b) ⊎ (b ≡ at)
          sorted (inl k) = inl k
          sorted (inr k) = inr (number_told b at k)

      new_sound : (a : ℕ) → IsTrue (followed a || pending a) ⊎ IsTrue (is_from (uses at) (At a)) → IsReached uses from a
      new_sound a (inl h) = so_far.sound a h
      new_sound a (inr h) = reached_on at a at_reached h

      new_entry_sound : IsTrue told ⊎ IsTrue (is_from (uses at) Entry) → ReachesEntry uses from
      new_entry_sound (inl h) = so_far.entry_sound h
      new_entry_sound (inr h) = inr (at, at_reached, h)

      new_closed : (b a : ℕ) → IsTrue (followed b) ⊎ (b ≡ at) → IsTrue (is_from (uses b) (At a)) → IsTrue (new_followed a || new_pending a)
      new_closed b a (inl h) k = kept a (inl (so_far.closed b a h k))
      new_closed b a (inr e) k = kept a (inr (subst (λ z. IsTrue (is_from (uses z) (At a))) e k))

      told_kept : IsTrue told ⊎ IsTrue (is_from (uses at) Entry) → IsTrue new_told
      told_kept (inl h) = subst IsTrue (sym is.told_is) (or_left told (is_from (uses at) Entry) h)
      told_kept (inr h) = subst IsTrue (sym is.told_is) (or_right told (is_from (uses at) Entry) h)

      new_entry_closed : (b : ℕ) → IsTrue (followed b) ⊎ (b ≡ at) → IsTrue (is_from (uses b) Entry) → IsTrue new_told
      new_entry_closed b (inl h) k = told_kept (inl (so_far.entry_closed b h k))
      new_entry_closed b (inr e) k = told_kept (inr (subst (λ z. IsTrue (is_from (uses z) Entry)) e k))

      new_apart : (a : ℕ) → IsTrue (new_pending a) → new_followed a ≡ false
      new_apart a h = by_tests (followed a) (pending a) (a == at) (is_from (uses at) (At a)) (is.followed_is a) (is.pending_is a) (so_far.apart a) h
        where
          by_tests : (f p e s : Bool) → new_followed a ≡ (f || e) → new_pending a ≡ ((p && not e) || (s && not (f || e))) → (IsTrue p → f ≡ false) → IsTrue (new_pending a) → new_followed a ≡ false
          by_tests false p false s k l was h = k
          by_tests true true e s k l was h = let no = was refl in cc
          by_tests true false e true k l was h = cc
          by_tests true false e false k l was h = cc
          by_tests false true true true k l was h = cc
          by_tests false true true false k l was h = cc
          by_tests false false true true k l was h = cc
          by_tests false false true false k l was h = cc

      pub search_followed : IsSearch new_told new_followed new_pending
      search_followed = record {
        sound = λ a h. new_sound a (origin a h);
        entry_sound = λ h. new_entry_sound (or_sorted told (is_from (uses at) Entry) (subst IsTrue is.told_is h));
        begun = λ a h. kept a (inl (so_far.begun a h));
        entry_begun = λ h. told_kept (inl (so_far.entry_begun h));
        closed = λ b a h k. new_closed b a (before_it b h) k;
        entry_closed = λ b h k. new_entry_closed b (before_it b h) k;
        apart = new_apart;
      }

  -- ---- the end: nothing is pending
  module _ (told : Bool) (followed pending : ℕ → Bool) (search : IsSearch told followed pending) (none : (a : ℕ) → pending a ≡ false) where
    found : (a : ℕ) → IsTrue (followed a || pending a) → IsTrue (followed a)
    found a h = sorted (or_sorted (followed a) (pending a) h) (none a)
      where
        sorted : IsTrue (followed a) ⊎ IsTrue (pending a) → pending a ≡ false → IsTrue (followed a)
        sorted (inl k) e = k
        sorted (inr k) e = cc

    along : (a : ℕ) (us : List Seen) (way : List ℕ) → ((b : ℕ) → IsTrue (is_from us (At b)) → IsTrue (followed b)) → Leads uses us way a → IsTrue (followed a)
    along a us [] all h = all a h
    along a us (b ∷ way) all h = let first = all b h.0 in along a (uses b) way (λ c k. found c (search.closed b c first k)) h.1

    pub followed_reached : (a : ℕ) → IsTrue (followed a) ↔ IsReached uses from a
    followed_reached a = (λ h. search.sound a (or_left (followed a) (pending a) h), λ h. along a from h.0 (λ b k. found b (search.begun b k)) h.1)

    entry_from : ReachesEntry uses from → IsTrue told
    entry_from (inl h) = search.entry_begun h
    entry_from (inr h) = search.entry_closed h.0 ((followed_reached h.0).1 h.1) h.2

    pub told_reached : IsTrue told ↔ ReachesEntry uses from
    told_reached = (search.entry_sound, entry_from)
