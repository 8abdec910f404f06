-- What a table that is left open says of runs: up to and with the first state whose address is open.
use Rattle.std.specs.Prelude.{◌≡◌, ℕ, ◌<◌, List, None, IsSome, IsSomeAnd, IsTrue, ◌⊎◌}
use Rattle.base_trait.specs.Lists.{IsAmong}
use Rattle.base_trait.specs.Uses.{Read}
use Rattle.fixpoint_theory.specs.Analysis.{Analysis}
use Rattle.fixpoint_theory.specs.Code.{is_code}
use Rattle.fixpoint_theory.specs.Runs.{AreSeen, Machine, after, at, goes, no_decoding, stopped}
use Rattle.fixpoint_theory.specs.Table.{Listings}
use Rattle.fixpoint_open_tables.specs.Endings.{Endings, IsDecodable}

module _ {W S : Type 0} (M : Machine S) (ends : Endings W) where
  -- the states of a run before the n-th are at no open address
  abbrev pub IsUntilOpen : ℕ → ℕ → S → Type 0
  IsUntilOpen d n first = (m : ℕ) (s : S) → m < n → after (M.step d) m first ≡ at s → ends (M.counter s) ≡ None

module _ {E W S : Type 0} (A : Analysis E W S) (M : Machine S) where
  -- What a table with these endings says holds of every run, from every state of the entry, under every bound on turns, as long
  -- as the states before are at no open address.
  pub record IsSoundUntilOpen (t : Listings E) (ends : Endings W) : Type 0 where
    -- where a run's counter is a code address, open or not, the table lists it, with an element that holds of the state
    pub holds : (d n : ℕ) (first s : S) → M.starts first → after (M.step d) n first ≡ at s → IsUntilOpen M ends d n first
        → IsTrue (is_code A.code (M.counter s)) → IsSomeAnd (t (M.counter s)) (λ b. A.elements.holds b.elem s)
    -- where a run meets a code word without decoding, that is at an open address
    pub decodes : (d n : ℕ) (first s : S) (word done : ℕ) → M.starts first → after (M.step d) n first ≡ stopped (no_decoding word) s done
        → IsUntilOpen M ends d done first → IsSome (ends (M.counter s))
    -- a step from an address that is not open leads to one that its block lists, as next or as an exit
    pub leads : (d n : ℕ) (first s next : S) (reads : List Read) → M.starts first → after (M.step d) n first ≡ at s → IsUntilOpen M ends d n first
        → ends (M.counter s) ≡ None → M.step d s ≡ goes next reads
        → IsSomeAnd (t (M.counter s)) (λ b. IsAmong (M.counter next) b.next ⊎ IsAmong (M.counter next) b.exits)
    -- a step's reads are covered by the block's uses, also from an open address whose word has a decoding
    pub covers : (d n : ℕ) (first s next : S) (reads : List Read) → M.starts first → after (M.step d) n first ≡ at s → IsUntilOpen M ends d n first
        → IsDecodable (ends (M.counter s)) → M.step d s ≡ goes next reads → IsSomeAnd (t (M.counter s)) (λ b. AreSeen A M b.uses reads)
