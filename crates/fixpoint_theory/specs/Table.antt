-- Tables of an analysis, and when one is closed.
use Rattle.std.specs.Prelude.{◌≡◌, ℕ, List, Option, Some, None, IfSome, IsSomeAnd, IsTrue}
use Rattle.base_trait.specs.Lists.{AreAmong, Each, IsAscending}
use Rattle.base_trait.specs.Uses.{Seen}
use Rattle.fixpoint_theory.specs.Analysis.{Analysis}
use Rattle.fixpoint_theory.specs.Code.{inside, is_code, outside, stamps_of}
use Rattle.fixpoint_theory.specs.Outcome.{AreOfStamps, Outcome, addresses, moves, sends, too_many, undecodable}
use Rattle.fixpoint_theory.specs.WorklistState.{WorklistState, Reached}

-- What a table lists of an address: its element, the next addresses and the exits, and the uses.
pub record Listing (E : Type 0) : Type 0 where
  pub elem : E
  pub next : List ℕ
  pub exits : List ℕ
  pub uses : List Seen

-- What it lists of each.
abbrev pub Listings : Type 0 → Type 0
Listings E = ℕ → Option (Listing E)

module _ {E W S : Type 0} (A : Analysis E W S) where
  -- The address is listed, with an element that absorbs this one.
  abbrev pub IsAbsorbed : Listings E → E → ℕ → Type 0
  IsAbsorbed t x at = IsSomeAnd (t at) (λ b. IsTrue (A.elements.absorbs b.elem x))

  -- The block lists the targets that are code addresses as next, the others as exits, and the uses.
  abbrev pub Tells : Listing E → Outcome E W → Type 0
  Tells b (undecodable word) = ⊥
  Tells b (too_many shown uses) = ⊥
  Tells b (moves targets post uses) = (b.next ≡ inside A.code targets) × (b.exits ≡ outside A.code targets) × (b.uses ≡ uses)
  Tells b (sends arrivals uses) = (b.next ≡ inside A.code (addresses arrivals)) × (b.exits ≡ outside A.code (addresses arrivals)) × (b.uses ≡ uses)

  -- Each target that is a code address is listed, with an element that absorbs the one behind the instruction, or the one that arrives there.
  abbrev pub Reaches : Listings E → Outcome E W → Type 0
  Reaches t (undecodable word) = ⊥
  Reaches t (too_many shown uses) = ⊥
  Reaches t (moves targets post uses) = IfSome post (λ x. Each (λ to. IsTrue (is_code A.code to) → IsAbsorbed t x to) targets)
  Reaches t (sends arrivals uses) = Each (λ a. IsTrue (is_code A.code a.0) → IsAbsorbed t a.1 a.0) arrivals

  -- A closed table is a certificate.
  pub record IsClosed (t : Listings E) : Type 0 where
    -- the element at the entry's counter absorbs the entry, or that is no code address
    pub entry : IsTrue (is_code A.code A.start) → IsAbsorbed t A.entry A.start
    -- each listed address has a decoding and a list of targets; it lists them, and the uses
    pub tells : (at : ℕ) (b : Listing E) → t at ≡ Some b → Tells b (A.transfer at b.elem)
    pub reaches : (at : ℕ) (b : Listing E) → t at ≡ Some b → Reaches t (A.transfer at b.elem)

  -- The elements of a table fit, and its addresses are code addresses.
  abbrev pub TableFits : Listings E → Type 0
  TableFits t = (at : ℕ) (b : Listing E) → t at ≡ Some b → IsTrue (is_code A.code at) × A.elements.fits b.elem

  -- The block of an address that was reached.
  abbrev pub IsBlockOf : ℕ → Option (Listing E) → Option (Reached E) → Type 0
  IsBlockOf at None None = Unit {0}
  IsBlockOf at (Some b) (Some r) = A.elements.same b.elem r.elem × Tells b (A.transfer at b.elem)
  IsBlockOf at _ _ = ⊥

  -- The table lists what was reached.
  abbrev pub IsTableOf : Listings E → WorklistState E → Type 0
  IsTableOf t p = (at : ℕ) → IsBlockOf at (t at) (p at)

  -- A table of the image: its blocks and next addresses are at code addresses, the stamps of its elements and uses are the entry's
  -- or code addresses, and next addresses and exits ascend.
  pub record IsBlockOfImage (at : ℕ) (b : Listing E) : Type 0 where
    pub code : IsTrue (is_code A.code at)
    pub stamps : AreAmong (A.elements.listed b.elem) (stamps_of A.code)
    pub next : IsAscending b.next × Each (λ to. IsTrue (is_code A.code to)) b.next
    pub exits : IsAscending b.exits
    pub uses : AreOfStamps (stamps_of A.code) b.uses

  abbrev pub FitsImage : Listings E → Type 0
  FitsImage t = (at : ℕ) (b : Listing E) → t at ≡ Some b → IsBlockOfImage at b

  -- Two tables are one, up to how their elements are written.
  pub record IsSameBlock (b c : Listing E) : Type 0 where
    pub elem : A.elements.same b.elem c.elem
    pub next : b.next ≡ c.next
    pub exits : b.exits ≡ c.exits
    pub uses : b.uses ≡ c.uses

  abbrev pub AreSameBlocks : Option (Listing E) → Option (Listing E) → Type 0
  AreSameBlocks None None = Unit {0}
  AreSameBlocks (Some b) (Some c) = IsSameBlock b c
  AreSameBlocks _ _ = ⊥

  abbrev pub AreSameTables : Listings E → Listings E → Type 0
  AreSameTables t u = (at : ℕ) → AreSameBlocks (t at) (u at)
