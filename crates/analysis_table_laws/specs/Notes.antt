-- What the notes of an analysis have, so that a text tells them.
use Rattle.std.specs.Prelude.{ℕ, ◌<◌, ◌^◌, Bool, List, [], ◌∷◌, Option, IsTrue, ⊤}
use Rattle.base_trait.specs.Algebra.{Notes}
use Rattle.base_trait.specs.Lists.{Each}
use Rattle.base_trait.specs.Stamps.{AreAscending}
use Rattle.base_trait.specs.Uses.{Seen}
use Rattle.base_trait.specs.declared.uses.Stamp.{Stamp}
use Rattle.base_trait.specs.declared.uses.Stamp.TheVariants.{Entry, At}

-- there is an item
abbrev pub HasItems : {A : Type 0} → List A → Type 0
HasItems [] = ⊥
HasItems (x ∷ xs) = ⊤

-- a use that lists a stamp
abbrev pub HasStamps : Seen → Type 0
HasStamps u = HasItems u.stamps

-- A property of notes, where a test tells code addresses, that calls keep: notes of the entry and of code addresses have it, and
-- so do the join and the widening of two notes that have it. Uses that a read of such a note adds to a log list stamps.
pub record NotesKeep {N : Type 0} (B : Notes N) (code : ℕ → Bool) (F : N → Type 0) : Type 0 where
  pub entry : F B.entry
  pub at : (a : ℕ) → a < 2 ^ 32 → IsTrue (code a) → F (B.at a)
  pub join : (x y : N) → F x → F y → F (B.join x y)
  pub widen : (old new : N) → F old → F new → F (B.widen old new)
  pub reads : (m : ℕ) (key : Option ℕ) (x : N) → F x → Each HasStamps (B.reads m key x)

-- ---- stamps

-- the stamp is the entry's, or that of a code address, of 32 bits
abbrev pub IsStampOf : (ℕ → Bool) → Stamp → Type 0
IsStampOf code Entry = Unit {0}
IsStampOf code (At a) = (a < 2 ^ 32) × IsTrue (code a)

-- some stamps: the entry first, then code addresses, ascending
abbrev pub AreStampsOf : (ℕ → Bool) → List Stamp → Type 0
AreStampsOf code [] = ⊥
AreStampsOf code (s ∷ stamps) = AreAscending (s ∷ stamps) × Each (IsStampOf code) (s ∷ stamps)

-- a note that tells nothing
abbrev pub TellsNothing : (ℕ → Bool) → Unit {0} → Type 0
TellsNothing code note = Unit {0}

-- both notes of a pair
abbrev pub BothNotes : {M N : Type 0} → (M → Type 0) → (N → Type 0) → M × N → Type 0
BothNotes F G note = F note.0 × G note.1
