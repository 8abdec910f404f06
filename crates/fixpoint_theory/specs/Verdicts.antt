-- The verdict on a table: that it is closed, or its first part that fails.
use Rattle.std.specs.Prelude.{◌≡◌, ℕ, ◌<◌, ◌≤◌, ◌==◌, ◌&&◌, not, Bool, true, false, IsTrue, List, [], ◌∷◌, Option, Some, None, if◌then◌else◌}
use Rattle.base_trait.specs.Lists.{IsAmong}
use Rattle.base_trait.specs.Identity.{same_list}
use Rattle.base_trait.specs.Stamps.{same_stamp}
use Rattle.base_trait.specs.Uses.{Seen}
use Rattle.fixpoint_theory.specs.Analysis.{Analysis}
use Rattle.fixpoint_theory.specs.Code.{inside, is_code, outside}
use Rattle.fixpoint_theory.specs.Outcome.{Moves, Outcome, addresses, arrivals_of, moves, sends, targets_of, too_many, undecodable, uses_of}
use Rattle.fixpoint_theory.specs.Table.{IsAbsorbed, IsClosed, Listing, Listings, Reaches, Tells}
use Rattle.fixpoint_theory.specs.declared.verdict.Verdict.{Verdict}
use Rattle.fixpoint_theory.specs.declared.verdict.Verdict.TheVariants.{Accepted, Entry, Open, Undecodable, TooManyTargets, Targets, Use}

-- whether both are one key, or none
abbrev pub same_key : Option ℕ → Option ℕ → Bool
same_key None None = true
same_key (Some x) (Some y) = x == y
same_key _ _ = false

-- whether both say one use
abbrev pub same_use : Seen → Seen → Bool
same_use u v = u.of_map == v.of_map && (same_key u.key v.key && same_list same_stamp u.stamps v.stamps)

module _ {E W S : Type 0} (A : Analysis E W S) where
  -- whether there is a block, with an element that absorbs this one
  abbrev pub does_absorb : Option (Listing E) → E → Bool
  does_absorb None x = false
  does_absorb (Some b) x = A.elements.absorbs b.elem x

  -- whether a block lists these targets
  abbrev pub lists_targets : Listing E → List ℕ → Bool
  lists_targets b targets = same_list ◌==◌ b.next (inside A.code targets) && same_list ◌==◌ b.exits (outside A.code targets)

module _ {E W S : Type 0} (A : Analysis E W S) (t : Listings E) where
  -- whether an address is that of a code word at which there is none
  abbrev pub is_open : E → ℕ → Bool
  is_open x at = is_code A.code at && not (does_absorb A (t at) x)

  -- the first such target; targets ascend, so it is the least
  abbrev pub first_open : E → List ℕ → Option ℕ
  first_open x [] = None
  first_open x (to ∷ rest) = if is_open x to then Some to else first_open x rest

  -- of what cases send, the first address at which it is
  abbrev pub first_open_sent : List (ℕ × E) → Option ℕ
  first_open_sent [] = None
  first_open_sent (a ∷ rest) = if is_open a.1 a.0 then Some a.0 else first_open_sent rest

  -- what fails of the targets of an address
  abbrev pub open_at : ℕ → Option ℕ → Option (Verdict W)
  open_at at None = None
  open_at at (Some to) = Some (Open at to)

  abbrev pub open_from : ℕ → Option E → List ℕ → Option (Verdict W)
  open_from at None targets = None
  open_from at (Some x) targets = open_at at (first_open x targets)

  -- the first part of a block that fails: its decoding, the number of its targets, its targets, its uses, and what it reaches
  abbrev pub fault_of : ℕ → Listing E → Outcome E W → Option (Verdict W)
  fault_of at b (undecodable word) = Some (Undecodable at word)
  fault_of at b (too_many shown uses) = Some (TooManyTargets at shown)
  fault_of at b (moves targets post uses) =
      if not (lists_targets A b targets) then Some (Targets at)
      else (if not (same_list same_use b.uses uses) then Some (Use at) else open_from at post targets)
  fault_of at b (sends arrivals uses) =
      if not (lists_targets A b (addresses arrivals)) then Some (Targets at)
      else (if not (same_list same_use b.uses uses) then Some (Use at) else open_at at (first_open_sent arrivals))

  abbrev pub fault_at : ℕ → Option (Listing E) → Option (Verdict W)
  fault_at at None = None
  fault_at at (Some b) = fault_of at b (A.transfer at b.elem)

  abbrev pub or_else : Option (Verdict W) → Option (Verdict W) → Option (Verdict W)
  or_else None later = later
  or_else (Some v) later = Some v

  -- the first fault of these addresses, in their order
  abbrev pub first_fault : List ℕ → Option (Verdict W)
  first_fault [] = None
  first_fault (at ∷ rest) = or_else (fault_at at (t at)) (first_fault rest)

  abbrev pub accepted_or : Option (Verdict W) → Verdict W
  accepted_or None = Accepted
  accepted_or (Some v) = v

  -- The verdict: on the entry, and then on the code addresses, ascending.
  abbrev pub verdict_of : Verdict W
  verdict_of = if is_open A.entry A.start then Entry else accepted_or (first_fault A.code)

  -- ---- what each verdict means
  -- the block stands
  pub record Stands (b : Listing E) (given : Outcome E W) : Type 0 where
    pub tells : Tells A b given
    pub reaches : Reaches A t given

  -- the blocks before an address stand
  abbrev pub AllStandBefore : ℕ → Type 0
  AllStandBefore at = (a : ℕ) (b : Listing E) → t a ≡ Some b → a < at → Stands b (A.transfer a b.elem)

  -- the entry is absorbed, if its counter is a code address
  abbrev pub EntryStands : Type 0
  EntryStands = IsTrue (is_code A.code A.start) → IsAbsorbed A t A.entry A.start

  -- an element arrives at an address that is a code address, where no element absorbs it
  abbrev pub IsLeftOpen : List (ℕ × E) → ℕ → Type 0
  IsLeftOpen arrivals to = IsTrue (is_code A.code to) × ((x : E) × IsAmong (to, x) arrivals × (IsAbsorbed A t x to → ⊥))

  -- the least such address
  pub record IsLeastOpen (arrivals : List (ℕ × E)) (to : ℕ) : Type 0 where
    pub is_open : IsLeftOpen arrivals to
    pub least : (other : ℕ) → IsLeftOpen arrivals other → to ≤ other

  -- the transfer has a list of targets with these parts
  abbrev pub ListsTargets : Listing E → List ℕ → Type 0
  ListsTargets b targets = (b.next ≡ inside A.code targets) × (b.exits ≡ outside A.code targets)

  -- a fault of a block whose transfer gives this
  abbrev pub IsFault : ℕ → Listing E → Outcome E W → Verdict W → Type 0
  IsFault at b given Accepted = ⊥
  IsFault at b given Entry = ⊥
  IsFault at b given (Undecodable where_ word) = (where_ ≡ at) × (given ≡ undecodable word)
  IsFault at b given (TooManyTargets where_ shown) = (where_ ≡ at) × ((uses : List Seen) × (given ≡ too_many shown uses))
  IsFault at b given (Targets where_) = (where_ ≡ at) × (Moves given × (ListsTargets b (targets_of given) → ⊥))
  IsFault at b given (Use where_) = (where_ ≡ at) × (Moves given × ListsTargets b (targets_of given) × (b.uses ≡ uses_of given → ⊥))
  IsFault at b given (Open where_ to) =
      (where_ ≡ at) × (Moves given × ListsTargets b (targets_of given) × (b.uses ≡ uses_of given) × IsLeastOpen (arrivals_of given) to)

  -- The fault is that of the least listed address whose block does not stand.
  pub record IsFirstFault (v : Verdict W) : Type 0 where
    pub at : ℕ
    pub block : Listing E
    pub listed : t at ≡ Some block
    pub fault : IsFault at block (A.transfer at block.elem) v
    pub earlier : AllStandBefore at
    pub entry : EntryStands

  -- What the verdict says of the table.
  abbrev pub Means : Verdict W → Type 0
  Means Accepted = IsClosed A t
  Means Entry = IsTrue (is_code A.code A.start) × (IsAbsorbed A t A.entry A.start → ⊥)
  Means v = IsFirstFault v
