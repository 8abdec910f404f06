-- Worklist runs: which elements a trace of transfers leaves (Kildall, POPL 1973, with the widening of Cousot and Cousot,
-- POPL 1977).
use Rattle.std.specs.Prelude.{◌≡◌, ℕ, ◌+◌, ◌≤◌, ◌==◌, nat_lt, Bool, true, false, IsTrue, List, [], ◌∷◌, Option, Some, None, ◌⊎◌, fold, if◌then◌else◌}
use Rattle.fixpoint_theory.specs.Analysis.{Analysis, IsOf}
use Rattle.fixpoint_theory.specs.Code.{is_code}
use Rattle.fixpoint_theory.specs.Outcome.{Moves, Outcome, moves, sends, too_many, undecodable}

-- An address that was reached: its element, how often that changed, and whether it is pending.
pub record Reached (E : Type 0) : Type 0 where
  pub elem : E
  pub changes : ℕ
  pub pending : Bool

-- What stands at each address.
abbrev pub WorklistState : Type 0 → Type 0
WorklistState E = ℕ → Option (Reached E)

abbrev pub nowhere : {E : Type 0} → WorklistState E
nowhere a = None

-- an address is no longer pending
abbrev pub done : {E : Type 0} → Option (Reached E) → Option (Reached E)
done None = None
done (Some r) = Some (record r { pending = false })

-- a change at one address
abbrev pub changed : {E : Type 0} → ℕ → (Option (Reached E) → Option (Reached E)) → WorklistState E → WorklistState E
changed at f p a = if a == at then f (p a) else p a

-- the least pending address, and what stands there
pub record IsLeastPending {E : Type 0} (p : WorklistState E) (at : ℕ) (r : Reached E) : Type 0 where
  pub stands : p at ≡ Some r
  pub pending : r.pending ≡ true
  pub least : (b : ℕ) (s : Reached E) → p b ≡ Some s → s.pending ≡ true → at ≤ b

-- Nothing is pending.
abbrev pub IsComplete : {E : Type 0} → WorklistState E → Type 0
IsComplete {E} p = (a : ℕ) (r : Reached E) → p a ≡ Some r → r.pending ≡ false

module _ {E W S : Type 0} (A : Analysis E W S) where
  -- what an element becomes that has changed so often: its first changes join, later ones widen
  abbrev pub grown : ℕ → E → E → E
  grown changes old new = if nat_lt changes A.joins then A.elements.join old new else A.elements.widen old new

  -- what the arrival of a new element makes of an address, where its element absorbs the new one or not
  abbrev pub arrival : Bool → E → Reached E → Reached E
  arrival true new r = r
  arrival false new r = record { elem = grown r.changes r.elem new; changes = r.changes + 1; pending = true }

  abbrev pub arrived : E → Option (Reached E) → Option (Reached E)
  arrived new None = Some (record { elem = new; changes = 1; pending = true })
  arrived new (Some r) = Some (arrival (A.elements.absorbs r.elem new) new r)

  -- an element arrives at an address, where that is a code address
  abbrev pub arrive : E → WorklistState E → ℕ → WorklistState E
  arrive new p at = if is_code A.code at then changed at (arrived new) p else p

  -- the element behind an instruction arrives at each of its targets that is a code address
  abbrev pub arrive_all : Option E → List ℕ → WorklistState E → WorklistState E
  arrive_all None targets p = p
  arrive_all (Some new) targets p = fold (arrive new) p targets

  -- each element that cases send arrives at its address, where that is a code address
  abbrev pub arrive_as_sent : List (ℕ × E) → WorklistState E → WorklistState E
  arrive_as_sent arrivals p = fold (λ q a. arrive a.1 q a.0) p arrivals

  abbrev pub sent : Outcome E W → WorklistState E → WorklistState E
  sent (undecodable word) p = p
  sent (too_many shown uses) p = p
  sent (moves targets post uses) p = arrive_all post targets p
  sent (sends arrivals uses) p = arrive_as_sent arrivals p

  -- the transfer of what stands at an address, which is then no longer pending
  abbrev pub transferred_from : Option (Reached E) → WorklistState E → ℕ → WorklistState E
  transferred_from None p at = p
  transferred_from (Some r) p at = sent (A.transfer at r.elem) (changed at done p)

  abbrev pub transferred : WorklistState E → ℕ → WorklistState E
  transferred p at = transferred_from (p at) p at

  -- at first the entry's element arrives at the entry's counter
  abbrev pub begin : WorklistState E
  begin = arrive A.entry nowhere A.start

  -- the worklist state of a trace: of the addresses whose transfers are made, in their order
  abbrev pub worklist_state : List ℕ → WorklistState E
  worklist_state trace = fold transferred begin trace

  -- what stands at an address is of the code, and the address is one of its
  abbrev pub IsFine : ℕ → Option (Reached E) → Type 0
  IsFine a None = Unit {0}
  IsFine a (Some r) = IsTrue (is_code A.code a) × IsOf A r.elem

  abbrev pub AllFine : WorklistState E → Type 0
  AllFine p = (a : ℕ) → IsFine a (p a)

  -- Each listed address is the least pending one at its turn, and its transfer has targets.
  abbrev pub IsLegalFrom : WorklistState E → List ℕ → Type 0
  IsLegalFrom p [] = Unit {0}
  IsLegalFrom p (at ∷ rest) =
      ((r : Reached E) × IsLeastPending p at r × Moves (A.transfer at r.elem)) × IsLegalFrom (transferred p at) rest

  abbrev pub IsLegal : List ℕ → Type 0
  IsLegal trace = IsLegalFrom begin trace

  -- The least pending address has a transfer without targets, and this is what it gives.
  abbrev pub IsStopped : WorklistState E → ℕ → Outcome E W → Type 0
  IsStopped p at given =
      (Moves given → ⊥) × ((r : Reached E) × IsLeastPending p at r × (A.transfer at r.elem ≡ given))

  -- Nothing is pending, or the next transfer stops.
  abbrev pub IsAtEnd : WorklistState E → Type 0
  IsAtEnd p = IsComplete p ⊎ ((at : ℕ) × (given : Outcome E W) × IsStopped p at given)
