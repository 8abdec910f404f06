-- What the instruction at an address makes of an element.
use Rattle.std.specs.Prelude.{◌≡◌, ℕ, List, [], ◌∷◌, map, Option, Some, None, IfSome}
use Rattle.base_trait.specs.Lists.{AreAmong, Each, IsAscending}
use Rattle.base_trait.specs.Uses.{Seen}
use Rattle.base_trait.specs.declared.uses.Stamp.{Stamp}
use Rattle.fixpoint_theory.specs.Elements.{Elements}

-- The outcome of a transfer of an element E, with words W of the counter.
pub data Outcome (E W : Type 0) : Type 0 where
  -- the code word has no decoding
  undecodable : ℕ → Outcome E W
  -- the new counter may be more addresses than the limit: the word that it is, and the uses
  too_many : W → List Seen → Outcome E W
  -- the addresses that the new counter may be, ascending; the element behind the instruction, or none where no state
  -- is left; and the uses
  moves : List ℕ → Option E → List Seen → Outcome E W
  -- of cases: the addresses that the new counter may be, ascending, each with the element that arrives there; and the uses
  sends : List (ℕ × E) → List Seen → Outcome E W

-- the addresses at which something arrives
abbrev pub addresses : {E : Type 0} → List (ℕ × E) → List ℕ
addresses arrivals = map (λ a. a.0) arrivals

-- one element that arrives at each target
abbrev pub at_each : {E : Type 0} → E → List ℕ → List (ℕ × E)
at_each post targets = map (λ to. (to, post)) targets

abbrev pub arrivals_behind : {E : Type 0} → Option E → List ℕ → List (ℕ × E)
arrivals_behind None targets = []
arrivals_behind (Some post) targets = at_each post targets

module _ {E W : Type 0} where
  -- there is a list of targets
  abbrev pub Moves : Outcome E W → Type 0
  Moves (undecodable word) = ⊥
  Moves (too_many shown uses) = ⊥
  Moves (moves targets post uses) = Unit {0}
  Moves (sends arrivals uses) = Unit {0}

  -- the code word has a decoding
  abbrev pub IsDecoded : Outcome E W → Type 0
  IsDecoded (undecodable word) = ⊥
  IsDecoded (too_many shown uses) = Unit {0}
  IsDecoded (moves targets post uses) = Unit {0}
  IsDecoded (sends arrivals uses) = Unit {0}

  -- the element behind the instruction, if there is one, has the property, and so has each that arrives
  abbrev pub IfPost : (E → Type 0) → Outcome E W → Type 0
  IfPost P (undecodable word) = Unit {0}
  IfPost P (too_many shown uses) = Unit {0}
  IfPost P (moves targets post uses) = IfSome post P
  IfPost P (sends arrivals uses) = Each (λ a. P a.1) arrivals

  -- so do the uses
  abbrev pub IfUses : (List Seen → Type 0) → Outcome E W → Type 0
  IfUses P (undecodable word) = Unit {0}
  IfUses P (too_many shown uses) = P uses
  IfUses P (moves targets post uses) = P uses
  IfUses P (sends arrivals uses) = P uses

  -- the targets ascend, and where no state is left there are none
  abbrev pub HasTargets : Outcome E W → Type 0
  HasTargets (undecodable word) = Unit {0}
  HasTargets (too_many shown uses) = Unit {0}
  HasTargets (moves targets None uses) = targets ≡ []
  HasTargets (moves targets (Some post) uses) = IsAscending targets
  HasTargets (sends arrivals uses) = IsAscending (addresses arrivals)

  -- what arrives at each address
  abbrev pub arrivals_of : Outcome E W → List (ℕ × E)
  arrivals_of (undecodable word) = []
  arrivals_of (too_many shown uses) = []
  arrivals_of (moves targets post uses) = arrivals_behind post targets
  arrivals_of (sends arrivals uses) = arrivals

  -- the addresses that the new counter may be
  abbrev pub targets_of : Outcome E W → List ℕ
  targets_of (undecodable word) = []
  targets_of (too_many shown uses) = []
  targets_of (moves targets post uses) = targets
  targets_of (sends arrivals uses) = addresses arrivals

  abbrev pub uses_of : Outcome E W → List Seen
  uses_of (undecodable word) = []
  uses_of (too_many shown uses) = uses
  uses_of (moves targets post uses) = uses
  uses_of (sends arrivals uses) = uses

-- the uses name stamps of the list alone
abbrev pub AreOfStamps : List Stamp → List Seen → Type 0
AreOfStamps stamps uses = Each (λ u. AreAmong u.stamps stamps) uses

-- both are missing, or are the same
abbrev pub SamePost : {E S : Type 0} → Elements E S → Option E → Option E → Type 0
SamePost D None None = Unit {0}
SamePost D (Some x) (Some y) = D.same x y
SamePost D _ _ = ⊥

-- the same addresses, with elements that are the same
abbrev pub AreSameArrivals : {E S : Type 0} → Elements E S → List (ℕ × E) → List (ℕ × E) → Type 0
AreSameArrivals D [] [] = Unit {0}
AreSameArrivals D (x ∷ xs) (y ∷ ys) = (x.0 ≡ y.0) × D.same x.1 y.1 × AreSameArrivals D xs ys
AreSameArrivals D _ _ = ⊥

-- Two outcomes are one, up to how their elements are written.
abbrev pub SameOutcome : {E S W : Type 0} → Elements E S → Outcome E W → Outcome E W → Type 0
SameOutcome D (undecodable v) (undecodable w) = v ≡ w
SameOutcome D (too_many x us) (too_many y us') = (x ≡ y) × (us ≡ us')
SameOutcome D (moves ts x us) (moves ts' y us') = (ts ≡ ts') × SamePost D x y × (us ≡ us')
SameOutcome D (sends xs us) (sends ys us') = AreSameArrivals D xs ys × (us ≡ us')
SameOutcome D _ _ = ⊥
