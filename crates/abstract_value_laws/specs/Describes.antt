-- Which concrete values an abstract value describes.
use Rattle.std.specs.Prelude.{◌≡◌, ℕ, zero, suc, List, IsTrue, ⊤}
use Rattle.base_trait.specs.Algebra.{Algebra, can_be}
use Rattle.abstract_map_laws.specs.Cells.{Held}
use Rattle.abstract_map_laws.specs.Maps.{Describes as MapDescribes}
use Rattle.semantics_values.specs.declared.value.Cell.{Cell}
use Rattle.semantics_values.specs.Values as v
use Rattle.semantics_values.specs.Values.{Val, Vals, cell_at}
use Rattle.abstract_value_laws.specs.Abs.{Abs, Cases, Parts, flag, word, made, map, no_case, absent, present, no_part, part}

-- what a concrete map holds at a key
abbrev pub held_at : Cell → List (ℕ × Cell) → ℕ → Held
held_at rest cells k = record { number = (cell_at rest cells k).v; stamp = (cell_at rest cells k).stamp }

module _ {W N C : Type 0} (B : Algebra W N C) (valuation : List ℕ) where
  abbrev mutual
    -- part by part; a constructor value by the fields of its constructor, and by nothing where that is missing
    pub Describes : Abs W N → Val → Type 0
    Describes (flag t) (v.flag b) = IsTrue (can_be t b)
    Describes (word w x) (v.word u n) = (u ≡ w) × B.words.describes valuation w n x
    Describes (made ty cs) (v.made tz k ps) = (tz ≡ ty) × CaseDescribes cs k ps
    Describes (map m x) (v.map n rest cells) = (n ≡ m) × MapDescribes B valuation (held_at rest cells) x
    Describes _ _ = ⊥

    pub CaseDescribes : Cases W N → ℕ → Vals → Type 0
    CaseDescribes no_case k ps = ⊥
    CaseDescribes (absent cs) zero ps = ⊥
    CaseDescribes (absent cs) (suc k) ps = CaseDescribes cs k ps
    CaseDescribes (present xs cs) zero ps = PartsDescribe xs ps
    CaseDescribes (present xs cs) (suc k) ps = CaseDescribes cs k ps

    pub PartsDescribe : Parts W N → Vals → Type 0
    PartsDescribe no_part v.no_val = ⊤
    PartsDescribe (part x xs) (v.val_then p ps) = Describes x p × PartsDescribe xs ps
    PartsDescribe _ _ = ⊥
