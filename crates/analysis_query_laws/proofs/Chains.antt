-- Chains of reads stay among what the uses at the addresses of their steps lead to.
use Rattle.std.proofs.Common.{◌≡◌, ℕ, ◌≤◌, List, [], ◌∷◌, Option, Some, None, IsTrue, inl, inr, refl, sym, subst}
use Rattle.std.specs.Prelude.{IsSomeAnd}
use Rattle.base_trait.specs.Lists.{Each}
use Rattle.base_trait.specs.Uses.{AreCovering, Read, Seen}
use Rattle.base_trait.specs.declared.uses.Stamp.{Stamp}
use Rattle.base_trait.specs.declared.uses.Stamp.TheVariants.{Entry, At}
use Rattle.base_trait.specs.Stamps.{is_listed}
use Rattle.base_trait.proofs.Stamps.{listed_from}
use Rattle.base_trait.proofs.Tests.{or_left, or_right}
use Rattle.spec_ir.specs.declared.spec.Machine.{Machine}
use Rattle.spec_ir.specs.Specification.{Spec}
use Rattle.semantics_values.specs.States.{State}
use Rattle.semantics.specs.Runs.{Stepped}
use Rattle.analysis_query_laws.specs.Chains.{IsChain, IsNoLater, IsRead, addressed, before, last_reads, reads_at, reads_from, reads_of, stamp_at, step_as}
use Rattle.analysis_query_laws.specs.Restamped.{restamped_read, restamped_state}
use Rattle.analysis_query_laws.specs.Slices.{IsReached, ReachesEntry, is_from}
use Rattle.analysis_query_laws.proofs.Runs.{IsKnown, reads_earlier, reads_known}

-- uses that cover a read have its stamp
pub covering_from : (us : List Seen) (x : Read) → AreCovering us x → IsTrue (is_from us x.stamp)
covering_from [] x h = absurd h
covering_from (u ∷ us) x (inl c) = or_left (is_listed u.stamps x.stamp) (is_from us x.stamp) (listed_from x.stamp u.stamps c.stamp)
covering_from (u ∷ us) x (inr h) = or_right (is_listed u.stamps x.stamp) (is_from us x.stamp) (covering_from us x h)

module _ (uses : ℕ → List Seen) (spec : Spec) (machine : Machine) (code : ℕ → Option ℕ) (d : ℕ) (first : State) (entry : (f : Stamp → Stamp) → f Entry ≡ Entry → restamped_state f first ≡ first) where
  abbrev at : ℕ → Option State
  at = before spec machine code d first

  abbrev to : Stamp → Stamp
  to = addressed spec machine code d first

  abbrev numbered : ℕ → State → Stepped
  numbered = step_as spec machine code d

  -- the uses at the address of each of these steps cover its reads
  abbrev pub AreCovered : (ℕ → Type 0) → Type 0
  AreCovered Upto = (n : ℕ) (s : State) → Upto n → at n ≡ Some s → Each (λ x. AreCovering (uses s.pc) (restamped_read to x)) (reads_of (numbered n s))

  -- these uses have the stamp of a read, and a step of the run that is no later put the cell, if one did
  abbrev pub IsFollowed : ℕ → List Seen → Read → Type 0
  IsFollowed n from x = IsTrue (is_from from (to x.stamp)) × IsKnown spec machine code d first entry x.stamp × IsNoLater n x.stamp

  all_followed : (n : ℕ) (from : List Seen) (reads : List Read) → Each (λ x. AreCovering from (restamped_read to x)) reads
      → Each (λ x. IsKnown spec machine code d first entry x.stamp) reads → Each (λ x. IsNoLater n x.stamp) reads → Each (IsFollowed n from) reads
  all_followed n from [] covers known earlier = tt
  all_followed n from (x ∷ reads) covers known earlier = ((covering_from from (restamped_read to x) covers.0, known.0, earlier.0), all_followed n from reads covers.1 known.1 earlier.1)

  abbrev StampFollowed : ℕ → List Seen → Stamp → Type 0
  StampFollowed n from s = IsTrue (is_from from (to s)) × IsKnown spec machine code d first entry s × IsNoLater n s

  stamp_followed : (n : ℕ) (from : List Seen) (s : Stamp) (reads : List Read) → Each (IsFollowed n from) reads → IsRead s reads → StampFollowed n from s
  stamp_followed n from s [] h k = absurd k
  stamp_followed n from s (x ∷ reads) h (inl e) = subst (StampFollowed n from) e h.0
  stamp_followed n from s (x ∷ reads) h (inr k) = stamp_followed n from s reads h.1 k

  -- the state before a step that put what is read: its address is a stamp of these uses
  pub record IsPutBy (n : ℕ) (from : List Seen) (i : ℕ) : Type 0 where
    pub state : State
    pub stands : at i ≡ Some state
    pub listed : IsTrue (is_from from (At state.pc))
    pub earlier : i ≤ n

  put_by : (n : ℕ) (from : List Seen) (i : ℕ) (reads : List Read) → Each (IsFollowed n from) reads → IsRead (At i) reads → IsPutBy n from i
  put_by n from i reads h k = let own = stamp_followed n from (At i) reads h k in by_state (at i) refl own.0 own.1 own.2
    where
      by_state : (o : Option State) → at i ≡ o → IsTrue (is_from from (stamp_at spec machine code d first o)) → IsSomeAnd o (λ s. Unit {0}) → i ≤ n → IsPutBy n from i
      by_state None here f known le = absurd known
      by_state (Some s) here f known le = record { state = s; stands = here; listed = f; earlier = le }

  further : (from : List Seen) (a : ℕ) (steps : List ℕ) → IsTrue (is_from from (At a)) → Each (λ i. IsSomeAnd (at i) (λ s. IsReached uses (uses a) s.pc)) steps
      → Each (λ i. IsSomeAnd (at i) (λ s. IsReached uses from s.pc)) steps
  further from a [] h k = tt
  further from a (i ∷ steps) h k = (by_state (at i) k.0, further from a steps h k.1)
    where
      by_state : (o : Option State) → IsSomeAnd o (λ s. IsReached uses (uses a) s.pc) → IsSomeAnd o (λ s. IsReached uses from s.pc)
      by_state None k = absurd k
      by_state (Some s) k = (a ∷ k.0, (h, k.1))

  entry_further : (from : List Seen) (a : ℕ) → IsTrue (is_from from (At a)) → ReachesEntry uses (uses a) → ReachesEntry uses from
  entry_further from a h (inl k) = inr (a, ([], h), k)
  entry_further from a h (inr k) = inr (k.0, (a ∷ k.1.0, (h, k.1.1)), k.2)

  -- each step of a chain stands at an address that is reached, and where its last step reads a cell of the entry, so is the entry
  pub record IsMet (from : List Seen) (reads : List Read) (steps : List ℕ) : Type 0 where
    pub reached : Each (λ i. IsSomeAnd (at i) (λ s. IsReached uses from s.pc)) steps
    pub entry_reached : IsRead Entry (last_reads spec machine code d first reads steps) → ReachesEntry uses from

  -- So it is of a chain from one of these steps, where each step before one of them is one too.
  module _ (Upto : ℕ → Type 0) (sooner : (i n : ℕ) → i ≤ n → Upto n → Upto i) (covered : AreCovered Upto) where
    followed_behind : (n : ℕ) (s : State) → Upto n → at n ≡ Some s → Each (IsFollowed n (uses s.pc)) (reads_at spec machine code d first n)
    followed_behind n s upto here =
        subst (λ o. Each (IsFollowed n (uses s.pc)) (reads_from spec machine code d first n o)) (sym here)
        (all_followed n (uses s.pc) (reads_of (numbered n s)) (covered n s upto here) (reads_known spec machine code d first entry n s here) (reads_earlier spec machine code d first entry n s here))

    pub chain_met : (n : ℕ) (from : List Seen) (reads : List Read) (steps : List ℕ) → Upto n → Each (IsFollowed n from) reads → IsChain spec machine code d first reads steps → IsMet from reads steps
    chain_met n from reads [] upto h chain = record { reached = tt; entry_reached = λ k. inl (stamp_followed n from Entry reads h k).0 }
    chain_met n from reads (i ∷ steps) upto h chain =
        let own = put_by n from i reads h chain.0 in
        let a = own.state.pc in
        let so_far = sooner i n own.earlier upto in
        let later = chain_met i (uses a) (reads_at spec machine code d first i) steps so_far (followed_behind i own.state so_far own.stands) chain.1 in
        record {
          reached = (subst (λ o. IsSomeAnd o (λ s. IsReached uses from s.pc)) (sym own.stands) ([], own.listed), further from a steps own.listed later.reached);
          entry_reached = λ k. entry_further from a own.listed (later.entry_reached k);
        }
