-- The verdict of a table is right.
use Rattle.std.proofs.Common.{◌≡◌, ◌∙◌, ℕ, ◌+◌, ◌<◌, ◌≤◌, ◌==◌, true, false, List, [], ◌∷◌, Option, None, Some, IsTrue, if◌then◌else◌, arith, inl, inr, ap, refl, sym, subst}
use Rattle.std.specs.Prelude.{IsSomeAnd, not, ◌&&◌, ◌⊎◌}
use Rattle.std.proofs.lemmas.Bool.{cases_lt, not-false as not_false}
use Rattle.base_trait.specs.Identity.{IsIdentity, IsReflexive, same_list, same_list_is, same_list_itself}
use Rattle.base_trait.specs.Lists.{Each, IsAmong, IsAscending, IsAscendingFrom}
use Rattle.base_trait.specs.Stamps.{same_stamp}
use Rattle.base_trait.specs.Uses.{Seen}
use Rattle.base_trait.specs.declared.uses.Stamp.{Stamp}
use Rattle.base_trait.proofs.Lists.{among_map, ascending_above, each_at, number_itself, number_told}
use Rattle.base_trait.proofs.Stamps.{stamp_itself, stamp_told}
use Rattle.base_trait.proofs.Tests.{and_both, and_parts, not_both}
use Rattle.fixpoint_theory.specs.Analysis.{Analysis, AnalysisLaws}
use Rattle.fixpoint_theory.specs.Code.{inside, is_code, outside}
use Rattle.fixpoint_theory.specs.Laws.{AcceptedAreClosed, VerdictsMean}
use Rattle.fixpoint_theory.specs.Outcome.{HasTargets, Moves, Outcome, addresses, arrivals_of, at_each, moves, sends, targets_of, too_many, undecodable, uses_of}
use Rattle.fixpoint_theory.specs.Table.{IsAbsorbed, IsClosed, Listing, Listings, Reaches, TableFits, Tells}
use Rattle.fixpoint_theory.specs.Verdicts.{EntryStands, IsFault, IsFirstFault, IsLeastOpen, IsLeftOpen, ListsTargets, Means, Stands, accepted_or, does_absorb, fault_at, fault_of, first_fault, first_open, first_open_sent, is_open, lists_targets, open_at, open_from, or_else, same_key, same_use, verdict_of}
use Rattle.fixpoint_theory.specs.declared.verdict.Verdict.{Verdict}
use Rattle.fixpoint_theory.specs.declared.verdict.Verdict.TheVariants.{Accepted, Entry, Open, Undecodable, TooManyTargets, Targets, Use}
use Rattle.fixpoint_theory.proofs.Bounded.{code_among}
use Rattle.fixpoint_theory.proofs.Growth.{by_bool}
use Rattle.fixpoint_theory.proofs.Tables.{targets_ascend}

-- ---- tests of uses
key_itself : IsReflexive same_key
key_itself None = refl
key_itself (Some x) = number_itself x

key_told : IsIdentity same_key
key_told None None h = refl
key_told None (Some y) h = cc
key_told (Some x) None h = cc
key_told (Some x) (Some y) h = ap (λ n. Some n) (number_told x y h)

abbrev use_of : ℕ → Option ℕ → List Stamp → Seen
use_of m key stamps = record { of_map = m; key = key; stamps = stamps }

pub use_itself : IsReflexive same_use
use_itself u =
    and_both (u.of_map == u.of_map) (same_key u.key u.key && same_list same_stamp u.stamps u.stamps) (number_itself u.of_map)
    (and_both (same_key u.key u.key) (same_list same_stamp u.stamps u.stamps) (key_itself u.key) (same_list_itself same_stamp stamp_itself u.stamps))

pub use_told : IsIdentity same_use
use_told u v h =
    let first = and_parts (u.of_map == v.of_map) (same_key u.key v.key && same_list same_stamp u.stamps v.stamps) h in
    let later = and_parts (same_key u.key v.key) (same_list same_stamp u.stamps v.stamps) first.1 in
    ap (λ m. use_of m u.key u.stamps) (number_told u.of_map v.of_map first.0)
    ∙ ap (λ k. use_of v.of_map k u.stamps) (key_told u.key v.key later.0)
    ∙ ap (λ s. use_of v.of_map v.key s) (same_list_is same_stamp stamp_told u.stamps v.stamps later.1)

pub uses_told : IsIdentity (same_list same_use)
uses_told = same_list_is same_use use_told

pub uses_itself : IsReflexive (same_list same_use)
uses_itself = same_list_itself same_use use_itself

module _ {E W S : Type 0} (A : Analysis E W S) (t : Listings E) where
  -- ---- open addresses
  told_absorbed : (x : E) (y : Option (Listing E)) → IsTrue (does_absorb A y x) → IsSomeAnd y (λ b. IsTrue (A.elements.absorbs b.elem x))
  told_absorbed x None h = cc
  told_absorbed x (Some b) h = h

  absorbed_told : (x : E) (y : Option (Listing E)) → IsSomeAnd y (λ b. IsTrue (A.elements.absorbs b.elem x)) → IsTrue (does_absorb A y x)
  absorbed_told x None h = absurd h
  absorbed_told x (Some b) h = h

  pub open_told : (x : E) (at : ℕ) → is_open A t x at ≡ true → IsTrue (is_code A.code at) × (IsAbsorbed A t x at → ⊥)
  open_told x at h =
      let parts = and_parts (is_code A.code at) (not (does_absorb A (t at) x)) h in
      (parts.0, λ absorbed. let told = ap not (absorbed_told x (t at) absorbed) in let apart = parts.1 in cc)

  pub closed_told : (x : E) (at : ℕ) → is_open A t x at ≡ false → IsTrue (is_code A.code at) → IsAbsorbed A t x at
  closed_told x at h code =
      elim (not_both (is_code A.code at) (not (does_absorb A (t at) x)) h) [
        | inl other ↦ absurd (cc)
        | inr met ↦ told_absorbed x (t at) (not_false (does_absorb A (t at) x) met)
      ]

  -- ---- targets
  -- each element that arrives is absorbed
  abbrev AreAbsorbed : List (ℕ × E) → Type 0
  AreAbsorbed arrivals = Each (λ a. IsTrue (is_code A.code a.0) → IsAbsorbed A t a.1 a.0) arrivals

  none_open : (arrivals : List (ℕ × E)) → first_open_sent A t arrivals ≡ None → AreAbsorbed arrivals
  none_open [] h = tt
  none_open (a ∷ rest) h =
      by_bool (is_open A t a.1 a.0)
      (λ b. is_open A t a.1 a.0 ≡ b → (if b then Some a.0 else first_open_sent A t rest) ≡ None → AreAbsorbed (a ∷ rest))
      (λ e is h. cc)
      (λ e is h. (closed_told a.1 a.0 is, none_open rest h))
      refl h

  open_none : (arrivals : List (ℕ × E)) → AreAbsorbed arrivals → first_open_sent A t arrivals ≡ None
  open_none [] h = refl
  open_none (a ∷ rest) h =
      by_bool (is_open A t a.1 a.0) (λ b. is_open A t a.1 a.0 ≡ b → (if b then Some a.0 else first_open_sent A t rest) ≡ None)
      (λ e is. let told = open_told a.1 a.0 is in absurd (told.1 (h.0 told.0)))
      (λ e is. open_none rest h.1)
      refl

  least_open : (low : ℕ) (arrivals : List (ℕ × E)) (to : ℕ) → IsAscendingFrom low (addresses arrivals) → first_open_sent A t arrivals ≡ Some to → IsLeastOpen A t arrivals to
  least_open low [] to ascends h = cc
  least_open low (a ∷ rest) to ascends h =
      by_bool (is_open A t a.1 a.0) (λ b. is_open A t a.1 a.0 ≡ b → (if b then Some a.0 else first_open_sent A t rest) ≡ Some to → IsLeastOpen A t (a ∷ rest) to)
      (λ e is found. let same : a.0 ≡ to = cc in subst (IsLeastOpen A t (a ∷ rest)) same (first_here is))
      (λ e is found. first_later is (least_open (a.0 + 1) rest to ascends.1 found))
      refl h
    where
      first_here : is_open A t a.1 a.0 ≡ true → IsLeastOpen A t (a ∷ rest) a.0
      first_here is = let told = open_told a.1 a.0 is in record {
        is_open = (told.0, (a.1, inl refl, told.1));
        least = λ other left. ascending_above a.0 other (addresses (a ∷ rest)) (omega arith, ascends.1)
            (among_map (λ (b : ℕ × E). b.0) (other, left.1.0) (a ∷ rest) left.1.1);
      }

      least_of : is_open A t a.1 a.0 ≡ false → IsLeastOpen A t rest to → (other : ℕ) (x : E) → IsTrue (is_code A.code other) → IsAmong (other, x) (a ∷ rest) → (IsAbsorbed A t x other → ⊥) → to ≤ other
      least_of is later other x code (inl same) apart =
          absurd (apart (subst (λ (b : ℕ × E). IsTrue (is_code A.code b.0) → IsAbsorbed A t b.1 b.0) (sym same) (closed_told a.1 a.0 is) code))
      least_of is later other x code (inr among) apart = later.least other (code, (x, among, apart))

      first_later : is_open A t a.1 a.0 ≡ false → IsLeastOpen A t rest to → IsLeastOpen A t (a ∷ rest) to
      first_later is later = record {
        is_open = let left = later.is_open in (left.0, (left.1.0, inr left.1.1, left.1.2));
        least = λ other left. least_of is later other left.1.0 left.0 left.1.1 left.1.2;
      }

  -- one element that arrives at each target
  first_open_each : (x : E) (targets : List ℕ) → first_open A t x targets ≡ first_open_sent A t (at_each x targets)
  first_open_each x [] = refl
  first_open_each x (to ∷ rest) = ap (λ later. if is_open A t x to then Some to else later) (first_open_each x rest)

  each_absorbed : (x : E) (targets : List ℕ) → AreAbsorbed (at_each x targets) → Each (λ to. IsTrue (is_code A.code to) → IsAbsorbed A t x to) targets
  each_absorbed x [] h = tt
  each_absorbed x (to ∷ rest) h = (h.0, each_absorbed x rest h.1)

  absorbed_each : (x : E) (targets : List ℕ) → Each (λ to. IsTrue (is_code A.code to) → IsAbsorbed A t x to) targets → AreAbsorbed (at_each x targets)
  absorbed_each x [] h = tt
  absorbed_each x (to ∷ rest) h = (h.0, absorbed_each x rest h.1)

  addresses_each : (x : E) (targets : List ℕ) → addresses (at_each x targets) ≡ targets
  addresses_each x [] = refl
  addresses_each x (to ∷ rest) = ap (λ l. to ∷ l) (addresses_each x rest)

  -- what arrives does so at ascending addresses
  arrivals_ascend : (given : Outcome E W) → HasTargets given → IsAscending (addresses (arrivals_of given))
  arrivals_ascend (undecodable word) has = tt
  arrivals_ascend (too_many shown uses) has = tt
  arrivals_ascend (moves targets None uses) has = tt
  arrivals_ascend (moves targets (Some x) uses) has = subst IsAscending (sym (addresses_each x targets)) has
  arrivals_ascend (sends arrivals uses) has = has

  -- ---- blocks
  pub told_lists : (b : Listing E) (targets : List ℕ) → IsTrue (lists_targets A b targets) → ListsTargets A t b targets
  told_lists b targets h =
      let parts = and_parts (same_list ◌==◌ b.next (inside A.code targets)) (same_list ◌==◌ b.exits (outside A.code targets)) h in
      (same_list_is ◌==◌ number_told b.next (inside A.code targets) parts.0, same_list_is ◌==◌ number_told b.exits (outside A.code targets) parts.1)

  pub lists_told : (b : Listing E) (targets : List ℕ) → ListsTargets A t b targets → IsTrue (lists_targets A b targets)
  lists_told b targets h =
      and_both (same_list ◌==◌ b.next (inside A.code targets)) (same_list ◌==◌ b.exits (outside A.code targets))
      (subst (λ ns. IsTrue (same_list ◌==◌ b.next ns)) h.0 (same_list_itself ◌==◌ number_itself b.next))
      (subst (λ ns. IsTrue (same_list ◌==◌ b.exits ns)) h.1 (same_list_itself ◌==◌ number_itself b.exits))

  open_from_each : (at : ℕ) (post : Option E) (targets : List ℕ) (uses : List Seen) → open_from A t at post targets ≡ open_at A t at (first_open_sent A t (arrivals_of {E = E} {W = W} (moves targets post uses)))
  open_from_each at None targets uses = refl
  open_from_each at (Some x) targets uses = ap (open_at A t at) (first_open_each x targets)

  -- the fault of a block whose transfer has targets
  abbrev fault_by : ℕ → Listing E → Outcome E W → Option (Verdict W)
  fault_by at b given =
      if not (lists_targets A b (targets_of given)) then Some (Targets at)
      else (if not (same_list same_use b.uses (uses_of given)) then Some (Use at) else open_at A t at (first_open_sent A t (arrivals_of given)))

  pub fault_of_targets : (at : ℕ) (b : Listing E) (given : Outcome E W) → Moves given → fault_of A t at b given ≡ fault_by at b given
  fault_of_targets at b (undecodable word) has = absurd has
  fault_of_targets at b (too_many shown uses) has = absurd has
  fault_of_targets at b (moves targets post uses) has =
      ap (λ o. if not (lists_targets A b targets) then Some (Targets at) else (if not (same_list same_use b.uses uses) then Some (Use at) else o)) (open_from_each at post targets uses)
  fault_of_targets at b (sends arrivals uses) has = refl

  -- what a block that stands has
  pub record HasParts (b : Listing E) (given : Outcome E W) : Type 0 where
    pub has : Moves given
    pub lists : ListsTargets A t b (targets_of given)
    pub uses : b.uses ≡ uses_of given
    pub absorbed : AreAbsorbed (arrivals_of given)

  stands_by : (b : Listing E) (given : Outcome E W) → HasParts b given → Stands A t b given
  stands_by b (undecodable word) h = absurd h.has
  stands_by b (too_many shown uses) h = absurd h.has
  stands_by b (moves targets None uses) h = record { tells = (h.lists.0, h.lists.1, h.uses); reaches = tt }
  stands_by b (moves targets (Some x) uses) h = record { tells = (h.lists.0, h.lists.1, h.uses); reaches = each_absorbed x targets h.absorbed }
  stands_by b (sends arrivals uses) h = record { tells = (h.lists.0, h.lists.1, h.uses); reaches = h.absorbed }

  by_stands : (b : Listing E) (given : Outcome E W) → Stands A t b given → HasParts b given
  by_stands b (undecodable word) stands = absurd stands.tells
  by_stands b (too_many shown uses) stands = absurd stands.tells
  by_stands b (moves targets None uses) stands = record { has = tt; lists = (stands.tells.0, stands.tells.1); uses = stands.tells.2; absorbed = tt }
  by_stands b (moves targets (Some x) uses) stands =
      record { has = tt; lists = (stands.tells.0, stands.tells.1); uses = stands.tells.2; absorbed = absorbed_each x targets stands.reaches }
  by_stands b (sends arrivals uses) stands = record { has = tt; lists = (stands.tells.0, stands.tells.1); uses = stands.tells.2; absorbed = stands.reaches }

  shut_from : (at : ℕ) (y : Option ℕ) → open_at A t at y ≡ None → y ≡ None
  shut_from at None k = refl
  shut_from at (Some to) k = cc

  -- a block without a fault has its parts
  none_parts : (at : ℕ) (b : Listing E) (given : Outcome E W) → Moves given → fault_by at b given ≡ None → HasParts b given
  none_parts at b given has h =
      by_bool (lists_targets A b (targets_of given))
      (λ c. lists_targets A b (targets_of given) ≡ c → (if not c then Some (Targets at) else (if not (same_list same_use b.uses (uses_of given)) then Some (Use at) else open_at A t at (first_open_sent A t (arrivals_of given)))) ≡ None → HasParts b given)
      (λ e lists k. by_uses lists k)
      (λ e lists k. cc)
      refl h
    where
      by_uses : lists_targets A b (targets_of given) ≡ true → (if not (same_list same_use b.uses (uses_of given)) then Some (Use at) else open_at A t at (first_open_sent A t (arrivals_of given))) ≡ None → HasParts b given
      by_uses lists k =
          by_bool (same_list same_use b.uses (uses_of given))
          (λ c. same_list same_use b.uses (uses_of given) ≡ c → (if not c then Some (Use at) else open_at A t at (first_open_sent A t (arrivals_of given))) ≡ None → HasParts b given)
          (λ e same k. record {
            has = has;
            lists = told_lists b (targets_of given) lists;
            uses = uses_told b.uses (uses_of given) same;
            absorbed = none_open (arrivals_of given) (shut_from at (first_open_sent A t (arrivals_of given)) k);
          })
          (λ e same k. cc)
          refl k

  parts_none : (at : ℕ) (b : Listing E) (given : Outcome E W) → HasParts b given → fault_by at b given ≡ None
  parts_none at b given h =
      let lists = lists_told b (targets_of given) h.lists in
      let same : IsTrue (same_list same_use b.uses (uses_of given)) = subst (λ us. IsTrue (same_list same_use b.uses us)) h.uses (uses_itself b.uses) in
      ap (λ c. if not c then Some (Targets at) else (if not (same_list same_use b.uses (uses_of given)) then Some (Use at) else open_at A t at (first_open_sent A t (arrivals_of given)))) lists
      ∙ ap (λ c. if not c then Some (Use at) else open_at A t at (first_open_sent A t (arrivals_of given))) same
      ∙ ap (open_at A t at) (open_none (arrivals_of given) h.absorbed)

  -- a block without a fault stands
  pub fault_none : (at : ℕ) (b : Listing E) (given : Outcome E W) → fault_of A t at b given ≡ None → Stands A t b given
  fault_none at b (undecodable word) h = cc
  fault_none at b (too_many shown uses) h = cc
  fault_none at b (moves targets post uses) h =
      let given : Outcome E W = moves targets post uses in stands_by b given (none_parts at b given tt (sym (fault_of_targets at b given tt) ∙ h))
  fault_none at b (sends arrivals uses) h = let given : Outcome E W = sends arrivals uses in stands_by b given (none_parts at b given tt h)

  pub stands_none : (at : ℕ) (b : Listing E) (given : Outcome E W) → Stands A t b given → fault_of A t at b given ≡ None
  stands_none at b given stands = let parts = by_stands b given stands in fault_of_targets at b given parts.has ∙ parts_none at b given parts

  -- the fault of a block is one
  targets_fault : (at : ℕ) (b : Listing E) (given : Outcome E W) (v : Verdict W) → HasTargets given → Moves given → fault_by at b given ≡ Some v → IsFault A t at b given v
  targets_fault at b given v targets has h =
      by_bool (lists_targets A b (targets_of given))
      (λ c. lists_targets A b (targets_of given) ≡ c → (if not c then Some (Targets at) else (if not (same_list same_use b.uses (uses_of given)) then Some (Use at) else open_at A t at (first_open_sent A t (arrivals_of given)))) ≡ Some v → IsFault A t at b given v)
      (λ e lists k. by_uses (told_lists b (targets_of given) lists) k)
      (λ e lists k.
      let same : Targets at ≡ v = cc in
      subst (IsFault A t at b given) same (refl, (has, λ told. let tests = lists_told b (targets_of given) told in cc)))
      refl h
    where
      by_open : ListsTargets A t b (targets_of given) → b.uses ≡ uses_of given → (y : Option ℕ) → first_open_sent A t (arrivals_of given) ≡ y → open_at A t at y ≡ Some v → IsFault A t at b given v
      by_open told same None found k = cc
      by_open told same (Some to) found k =
          let is_it : Open at to ≡ v = cc in
          subst (IsFault A t at b given) is_it
          (refl, (has, told, same, least_open 0 (arrivals_of given) to (arrivals_ascend given targets) found))

      by_uses : ListsTargets A t b (targets_of given) → (if not (same_list same_use b.uses (uses_of given)) then Some (Use at) else open_at A t at (first_open_sent A t (arrivals_of given))) ≡ Some v → IsFault A t at b given v
      by_uses told k =
          by_bool (same_list same_use b.uses (uses_of given))
          (λ c. same_list same_use b.uses (uses_of given) ≡ c → (if not c then Some (Use at) else open_at A t at (first_open_sent A t (arrivals_of given))) ≡ Some v → IsFault A t at b given v)
          (λ e same k. by_open told (uses_told b.uses (uses_of given) same) (first_open_sent A t (arrivals_of given)) refl k)
          (λ e same k.
          let is : Use at ≡ v = cc in
          subst (IsFault A t at b given) is
          (refl, (has, told, λ equal. let tests = subst (λ us. IsTrue (same_list same_use b.uses us)) equal (uses_itself b.uses) in cc)))
          refl k

  pub fault_some : (at : ℕ) (b : Listing E) (given : Outcome E W) (v : Verdict W) → HasTargets given → fault_of A t at b given ≡ Some v → IsFault A t at b given v
  fault_some at b (undecodable word) v has h = let same : Undecodable at word ≡ v = cc in subst (IsFault A t at b (undecodable word)) same (refl, refl)
  fault_some at b (too_many shown uses) v has h = let same : TooManyTargets at shown ≡ v = cc in subst (IsFault A t at b (too_many shown uses)) same (refl, (uses, refl))
  fault_some at b (moves targets post uses) v has h =
      let given : Outcome E W = moves targets post uses in targets_fault at b given v has tt (sym (fault_of_targets at b given tt) ∙ h)
  fault_some at b (sends arrivals uses) v has h = targets_fault at b (sends arrivals uses) v has tt h

  -- a block with a fault does not stand
  pub fault_breaks : (at : ℕ) (b : Listing E) (given : Outcome E W) (v : Verdict W) → IsFault A t at b given v → Stands A t b given → ⊥
  fault_breaks at b given Accepted fault stands = fault
  fault_breaks at b given Entry fault stands = fault
  fault_breaks at b given (Undecodable a w) fault stands = subst (Tells A b) fault.1 stands.tells
  fault_breaks at b given (TooManyTargets a w) fault stands = subst (Tells A b) fault.1.1 stands.tells
  fault_breaks at b given (Targets a) fault stands = fault.1.1 (by_stands b given stands).lists
  fault_breaks at b given (Use a) fault stands = fault.1.2 (by_stands b given stands).uses
  fault_breaks at b given (Open a to) fault stands =
      let left = fault.1.3.is_open in
      left.1.2 (each_at (λ c. IsTrue (is_code A.code c.0) → IsAbsorbed A t c.1 c.0) (arrivals_of given) (to, left.1.0) (by_stands b given stands).absorbed left.1.1 left.0)

  -- ---- all addresses
  -- a fault at an address is that of its block
  listed_of : (at : ℕ) (v : Verdict W) (y : Option (Listing E)) → t at ≡ y → fault_at A t at y ≡ Some v → (b : Listing E) × (t at ≡ Some b) × (fault_of A t at b (A.transfer at b.elem) ≡ Some v)
  listed_of at v None is h = cc
  listed_of at v (Some b) is h = (b, is, h)

  no_fault : (at : ℕ) (b : Listing E) → t at ≡ Some b → fault_at A t at (t at) ≡ None → Stands A t b (A.transfer at b.elem)
  no_fault at b is h = fault_none at b (A.transfer at b.elem) (subst (λ y. fault_at A t at y ≡ None) is h)

  pub all_stand : (xs : List ℕ) → first_fault A t xs ≡ None → (at : ℕ) (b : Listing E) → IsAmong at xs → t at ≡ Some b → Stands A t b (A.transfer at b.elem)
  all_stand [] h at b among is = absurd among
  all_stand (x ∷ xs) h at b among is = from (fault_at A t x (t x)) refl h among (λ none later. all_stand xs none at b later is)
    where
      from : (y : Option (Verdict W)) → fault_at A t x (t x) ≡ y → or_else A t y (first_fault A t xs) ≡ None → IsAmong at (x ∷ xs)
          → (first_fault A t xs ≡ None → IsAmong at xs → Stands A t b (A.transfer at b.elem)) → Stands A t b (A.transfer at b.elem)
      from None none k (inl same) rest = no_fault at b is (subst (λ z. fault_at A t z (t z) ≡ None) (sym same) none)
      from None none k (inr later) rest = rest k later
      from (Some v) none k m rest = cc

  -- the first fault of ascending addresses is that of the least that has one
  pub record IsFirstOf (xs : List ℕ) (v : Verdict W) : Type 0 where
    pub at : ℕ
    pub block : Listing E
    pub listed : t at ≡ Some block
    pub fault : fault_of A t at block (A.transfer at block.elem) ≡ Some v
    pub earlier : (a : ℕ) (b : Listing E) → IsAmong a xs → t a ≡ Some b → a < at → Stands A t b (A.transfer a b.elem)
    pub among : IsAmong at xs

  pub first_of : (low : ℕ) (xs : List ℕ) (v : Verdict W) → IsAscendingFrom low xs → first_fault A t xs ≡ Some v → IsFirstOf xs v
  first_of low [] v ascends h = cc
  first_of low (x ∷ xs) v ascends h = from (fault_at A t x (t x)) refl h (λ k. first_of (x + 1) xs v ascends.1 k)
    where
      before : (a : ℕ) (b : Listing E) → IsAmong a (x ∷ xs) → t a ≡ Some b → a < x → Stands A t b (A.transfer a b.elem)
      before a b among is below = let above = ascending_above x a (x ∷ xs) (omega arith, ascends.1) among in absurd (omega (arith, above, below))

      earlier : fault_at A t x (t x) ≡ None → (later : IsFirstOf xs v) → (a : ℕ) (b : Listing E) → IsAmong a (x ∷ xs) → t a ≡ Some b → a < later.at → Stands A t b (A.transfer a b.elem)
      earlier none later a b (inl same) is below = no_fault a b is (subst (λ z. fault_at A t z (t z) ≡ None) (sym same) none)
      earlier none later a b (inr among) is below = later.earlier a b among is below

      from : (y : Option (Verdict W)) → fault_at A t x (t x) ≡ y → or_else A t y (first_fault A t xs) ≡ Some v → (first_fault A t xs ≡ Some v → IsFirstOf xs v) → IsFirstOf (x ∷ xs) v
      from None none k rest =
          let later = rest k in
          record { at = later.at; block = later.block; listed = later.listed; fault = later.fault; earlier = earlier none later; among = inr later.among }
      from (Some u) some k rest =
          let same : u ≡ v = cc in
          let here = listed_of x v (t x) refl (some ∙ ap (λ u. Some u) same) in
          record { at = x; block = here.0; listed = here.1; fault = here.2; earlier = before; among = inl refl }

  -- ---- two verdicts
  -- a block has one fault
  open_one : (arrivals : List (ℕ × E)) (to other : ℕ) → IsLeastOpen A t arrivals to → IsLeastOpen A t arrivals other → to ≡ other
  open_one arrivals to other h k =
      let a = h.least other k.is_open in
      let b = k.least to h.is_open in
      omega (arith, a, b)

  -- two verdicts that are faults of one block are one
  fault_one : (at : ℕ) (b : Listing E) (given : Outcome E W) (v w : Verdict W) → IsFault A t at b given v → IsFault A t at b given w → v ≡ w
  fault_one at b given Accepted w h k = absurd h
  fault_one at b given Entry w h k = absurd h
  fault_one at b given v Accepted h k = absurd k
  fault_one at b given v Entry h k = absurd k
  fault_one at b given (Undecodable a x) (Undecodable c y) h k = let e = h.0 in let f = k.0 in let m = h.1 in let n = k.1 in cc
  fault_one at b given (Undecodable a x) (TooManyTargets c y) h k = let m = h.1 in let n = k.1.1 in cc
  fault_one at b given (Undecodable a x) (Targets c) h k = absurd (subst Moves h.1 k.1.0)
  fault_one at b given (Undecodable a x) (Use c) h k = absurd (subst Moves h.1 k.1.0)
  fault_one at b given (Undecodable a x) (Open c y) h k = absurd (subst Moves h.1 k.1.0)
  fault_one at b given (TooManyTargets a x) (Undecodable c y) h k = let m = h.1.1 in let n = k.1 in cc
  fault_one at b given (TooManyTargets a x) (TooManyTargets c y) h k = let e = h.0 in let f = k.0 in let m = h.1.1 in let n = k.1.1 in cc
  fault_one at b given (TooManyTargets a x) (Targets c) h k = absurd (subst Moves h.1.1 k.1.0)
  fault_one at b given (TooManyTargets a x) (Use c) h k = absurd (subst Moves h.1.1 k.1.0)
  fault_one at b given (TooManyTargets a x) (Open c y) h k = absurd (subst Moves h.1.1 k.1.0)
  fault_one at b given (Targets a) (Undecodable c y) h k = absurd (subst Moves k.1 h.1.0)
  fault_one at b given (Targets a) (TooManyTargets c y) h k = absurd (subst Moves k.1.1 h.1.0)
  fault_one at b given (Targets a) (Targets c) h k = let e = h.0 in let f = k.0 in cc
  fault_one at b given (Targets a) (Use c) h k = absurd (h.1.1 k.1.1)
  fault_one at b given (Targets a) (Open c y) h k = absurd (h.1.1 k.1.1)
  fault_one at b given (Use a) (Undecodable c y) h k = absurd (subst Moves k.1 h.1.0)
  fault_one at b given (Use a) (TooManyTargets c y) h k = absurd (subst Moves k.1.1 h.1.0)
  fault_one at b given (Use a) (Targets c) h k = absurd (k.1.1 h.1.1)
  fault_one at b given (Use a) (Use c) h k = let e = h.0 in let f = k.0 in cc
  fault_one at b given (Use a) (Open c y) h k = absurd (h.1.2 k.1.2)
  fault_one at b given (Open a x) (Undecodable c y) h k = absurd (subst Moves k.1 h.1.0)
  fault_one at b given (Open a x) (TooManyTargets c y) h k = absurd (subst Moves k.1.1 h.1.0)
  fault_one at b given (Open a x) (Targets c) h k = absurd (k.1.1 h.1.1)
  fault_one at b given (Open a x) (Use c) h k = absurd (k.1.2 h.1.2)
  fault_one at b given (Open a x) (Open c y) h k = let e = h.0 in let f = k.0 in let to = open_one (arrivals_of given) x y h.1.3 k.1.3 in cc

  first_one : (v w : Verdict W) → IsFirstFault A t v → IsFirstFault A t w → v ≡ w
  first_one v w h k =
      elim (cases_lt h.at k.at) [
        | inl below ↦ absurd (fault_breaks h.at h.block (A.transfer h.at h.block.elem) v h.fault (k.earlier h.at h.block h.listed below))
        | inr not_below ↦
            elim (cases_lt k.at h.at) [
              | inl above ↦ absurd (fault_breaks k.at k.block (A.transfer k.at k.block.elem) w k.fault (h.earlier k.at k.block k.listed above))
              | inr not_above ↦
                  let same : h.at ≡ k.at = omega arith in
                  let listed : t h.at ≡ Some k.block = subst (λ a. t a ≡ Some k.block) (sym same) k.listed in
                  let here = h.listed in
                  let block : k.block ≡ h.block = cc in
                  let other : IsFault A t h.at h.block (A.transfer h.at h.block.elem) w =
                  subst (λ b. IsFault A t h.at b (A.transfer h.at b.elem) w) block (subst (λ a. IsFault A t a k.block (A.transfer a k.block.elem) w) (sym same) k.fault) in
                  fault_one h.at h.block (A.transfer h.at h.block.elem) v w h.fault other
            ]
      ]

  entry_apart : EntryStands A t → IsTrue (is_code A.code A.start) × (IsAbsorbed A t A.entry A.start → ⊥) → ⊥
  entry_apart stands fails = fails.1 (stands fails.0)

  -- a table with a fault is not closed
  fault_open : (v : Verdict W) → IsFirstFault A t v → IsClosed A t → ⊥
  fault_open v first closed =
      fault_breaks first.at first.block (A.transfer first.at first.block.elem) v first.fault
      (record { tells = closed.tells first.at first.block first.listed; reaches = closed.reaches first.at first.block first.listed })

  -- the table is closed, or its entry is not absorbed, or a block has a fault
  parts : (v : Verdict W) → Means A t v
      → ((v ≡ Accepted) × IsClosed A t) ⊎ (((v ≡ Entry) × (IsTrue (is_code A.code A.start) × (IsAbsorbed A t A.entry A.start → ⊥))) ⊎ IsFirstFault A t v)
  parts Accepted means = inl (refl, means)
  parts Entry means = inr (inl (refl, means))
  parts (Undecodable a w) means = inr (inr means)
  parts (TooManyTargets a w) means = inr (inr means)
  parts (Targets a) means = inr (inr means)
  parts (Use a) means = inr (inr means)
  parts (Open a to) means = inr (inr means)

  pub verdicts_are_one : (v w : Verdict W) → Means A t v → Means A t w → v ≡ w
  verdicts_are_one v w h k =
      elim (parts v h) [
        | inl closed ↦
            elim (parts w k) [
              | inl also ↦ closed.0 ∙ sym also.0
              | inr other ↦ elim other [ inl entry ↦ absurd (entry_apart closed.1.entry entry.1) | inr first ↦ absurd (fault_open w first closed.1) ]
            ]
        | inr fails ↦
            elim fails [
              | inl entry ↦
                  elim (parts w k) [
                    | inl closed ↦ absurd (entry_apart closed.1.entry entry.1)
                    | inr other ↦ elim other [ inl also ↦ entry.0 ∙ sym also.0 | inr first ↦ absurd (entry_apart first.entry entry.1) ]
                  ]
              | inr first ↦
                  elim (parts w k) [
                    | inl closed ↦ absurd (fault_open v first closed.1)
                    | inr other ↦ elim other [ inl entry ↦ absurd (entry_apart first.entry entry.1) | inr also ↦ first_one v w first also ]
                  ]
            ]
      ]

  -- ---- the verdict that is computed
  pub means_from : (v : Verdict W) → IsFirstFault A t v → Means A t v
  means_from Accepted first = absurd first.fault
  means_from Entry first = absurd first.fault
  means_from (Undecodable a w) first = first
  means_from (TooManyTargets a w) first = first
  means_from (Targets a) first = first
  means_from (Use a) first = first
  means_from (Open a to) first = first

  module _ (laws : AnalysisLaws A) (fits : TableFits A t) where
    closed_from : EntryStands A t → first_fault A t A.code ≡ None → IsClosed A t
    closed_from entry none =
        let stand : (at : ℕ) (b : Listing E) → t at ≡ Some b → Stands A t b (A.transfer at b.elem) =
        λ at b is. all_stand A.code none at b (code_among A.code at (fits at b is).0) is in
        record { entry = entry; tells = λ at b is. (stand at b is).tells; reaches = λ at b is. (stand at b is).reaches }

    first_from : EntryStands A t → (v : Verdict W) → first_fault A t A.code ≡ Some v → IsFirstFault A t v
    first_from entry v some =
        let first = first_of 0 A.code v laws.code.ascends some in
        let here = fits first.at first.block first.listed in
        record {
          at = first.at;
          block = first.block;
          listed = first.listed;
          fault = fault_some first.at first.block (A.transfer first.at first.block.elem) v (laws.transfer_targets first.at first.block.elem here.0 here.1) first.fault;
          earlier = λ a b is below. first.earlier a b (code_among A.code a (fits a b is).0) is below;
          entry = entry;
        }

    pub verdict_means : Means A t (verdict_of A t)
    verdict_means =
        by_bool (is_open A t A.entry A.start) (λ b. is_open A t A.entry A.start ≡ b → Means A t (if b then Entry else accepted_or A t (first_fault A t A.code)))
        (λ e is. open_told A.entry A.start is)
        (λ e is. from (closed_told A.entry A.start is) (first_fault A t A.code) refl)
        refl
      where
        from : EntryStands A t → (y : Option (Verdict W)) → first_fault A t A.code ≡ y → Means A t (accepted_or A t y)
        from entry None is = closed_from entry is
        from entry (Some v) is = means_from v (first_from entry v is)

pub verdicts_mean : {E W S : Type 0} (A : Analysis E W S) → AnalysisLaws A → VerdictsMean A
verdicts_mean A laws t fits v = (
  λ e. subst (Means A t) e (verdict_means A t laws fits),
  λ means. verdicts_are_one A t (verdict_of A t) v (verdict_means A t laws fits) means,
)

pub accepted_are_closed : {E W S : Type 0} (A : Analysis E W S) → AnalysisLaws A → AcceptedAreClosed A
accepted_are_closed A laws t fits = verdicts_mean A laws t fits Accepted
