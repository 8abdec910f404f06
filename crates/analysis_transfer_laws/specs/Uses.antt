-- The uses of an instruction: its reads, those of one cell merged, in the order of the state's fields.
use Rattle.std.specs.Prelude.{ℕ, suc, ◌==◌, ◌&&◌, nat_lt, Bool, true, false, Option, Some, None, List, [], ◌∷◌, if◌then◌else◌, IsTrue, ◌↔◌, ⊤}
use Rattle.base_trait.specs.Stamps.{AreAscending, is_before, same_stamp}
use Rattle.base_trait.specs.Uses.{AreCovering, Read, Seen}
use Rattle.base_trait.specs.declared.uses.Stamp.{Stamp}
use Rattle.domain_laws.specs.declared.field.Field.{Field}
use Rattle.domain_laws.specs.declared.field.Field.TheVariants.{Word, Map}
use Rattle.fixpoint_theory.specs.Verdicts.{same_key}

-- ---- stamps: the entry, then addresses, ascending
abbrev pub with_stamp : Stamp → List Stamp → List Stamp
with_stamp s [] = s ∷ []
with_stamp s (t ∷ ts) = if same_stamp s t then t ∷ ts else (if is_before s t then s ∷ t ∷ ts else t ∷ with_stamp s ts)

-- those of either list
abbrev pub either_stamp : List Stamp → List Stamp → List Stamp
either_stamp [] ts = ts
either_stamp (s ∷ ss) ts = with_stamp s (either_stamp ss ts)

-- ---- cells: a map's cells stand at its place among the fields, the use of any key before those of a key, which ascend

-- the place of a map among the fields; past them where it is none of them
abbrev pub place_of : List Field → ℕ → ℕ
place_of [] m = 0
place_of (Map n keys width default ∷ fields) m = if n == m then 0 else suc (place_of fields m)
place_of (Word w ∷ fields) m = suc (place_of fields m)

abbrev pub is_key_before : Option ℕ → Option ℕ → Bool
is_key_before None (Some k) = true
is_key_before (Some j) (Some k) = nat_lt j k
is_key_before _ None = false

abbrev pub is_same_cell : Seen → Seen → Bool
is_same_cell u v = u.of_map == v.of_map && same_key u.key v.key

-- a use of a cell with more stamps
abbrev pub with_stamps : Seen → List Stamp → Seen
with_stamps u ts = record { of_map = u.of_map; key = u.key; stamps = either_stamp u.stamps ts }

module _ (fields : List Field) where
  -- maps that are no fields come last, by their numbers
  abbrev pub is_map_before : ℕ → ℕ → Bool
  is_map_before m n = if place_of fields m == place_of fields n then nat_lt m n else nat_lt (place_of fields m) (place_of fields n)

  abbrev pub is_cell_before : Seen → Seen → Bool
  is_cell_before u v = if u.of_map == v.of_map then is_key_before u.key v.key else is_map_before u.of_map v.of_map

  -- one more use, at its place
  abbrev pub with_use : Seen → List Seen → List Seen
  with_use u [] = with_stamps u [] ∷ []
  with_use u (v ∷ vs) =
      if is_same_cell u v then with_stamps u v.stamps ∷ vs
      else (if is_cell_before u v then with_stamps u [] ∷ v ∷ vs else v ∷ with_use u vs)

  abbrev pub merged_uses : List Seen → List Seen
  merged_uses [] = []
  merged_uses (u ∷ us) = with_use u (merged_uses us)

  -- ---- what merging is

  -- a cell before that of the first use
  abbrev pub IsBeforeFirst : Seen → List Seen → Type 0
  IsBeforeFirst u [] = ⊤
  IsBeforeFirst u (v ∷ vs) = IsTrue (is_cell_before u v)

  -- Cells ascend, one use each, and so do the stamps of each use.
  abbrev pub AreInOrder : List Seen → Type 0
  AreInOrder [] = ⊤
  AreInOrder (u ∷ us) = IsBeforeFirst u us × AreAscending u.stamps × AreInOrder us

  -- Uses are in order, and cover the reads that these uses cover.
  pub record AreMerged (us merged : List Seen) : Type 0 where
    pub covers : (r : Read) → AreCovering us r ↔ AreCovering merged r
    pub order : AreInOrder merged

-- So are merged uses, whatever the fields.
abbrev pub UsesAreMerged : Type 0
UsesAreMerged = (fields : List Field) (us : List Seen) → AreMerged fields us (merged_uses fields us)
