-- The shape of a type: a finite tree, since no datatype contains itself. The values of a type have one shape, whatever their constructors.
use Rattle.std.specs.Prelude.{◌≡◌, ℕ, ◌+◌, ⊤, Bool, true, false}
use Rattle.base_trait.specs.Algebra.{Algebra}
use Rattle.base_trait.specs.declared.uses.Stamp.{Stamp}
use Rattle.std.specs.Prelude.{List, length}
use Rattle.abstract_map_laws.specs.Cells.{ListsOnly}
use Rattle.abstract_map_laws.specs.Maps.{EachCell}
use Rattle.abstract_map_laws.specs.Calls.{rank_of as rank_map, height_of as height_map}
use Rattle.abstract_value_laws.specs.Abs.{Abs, Cases, Parts, flag, word, made, map, no_case, absent, present, no_part, part}

mutual
  pub data Shape : Type 0 where
    flags : Shape
    -- width
    words : ℕ → Shape
    -- datatype, and the fields of each constructor
    datas : ℕ → CaseShapes → Shape
    -- map type, and the width of its words
    maps : ℕ → ℕ → Shape

  pub data CaseShapes : Type 0 where
    no_more : CaseShapes
    case_then : PartShapes → CaseShapes → CaseShapes

  pub data PartShapes : Type 0 where
    no_field : PartShapes
    field_then : Shape → PartShapes → PartShapes

module _ {W N : Type 0} where
  abbrev mutual
    -- the value has the shape
    pub HasShape : Shape → Abs W N → Type 0
    HasShape flags (flag t) = ⊤
    HasShape (words w) (word u x) = u ≡ w
    HasShape (datas ty ss) (made tz cs) = (tz ≡ ty) × CasesHave ss cs
    HasShape (maps m w) (map n x) = (n ≡ m) × (x.width ≡ w)
    HasShape _ _ = ⊥

    pub CasesHave : CaseShapes → Cases W N → Type 0
    CasesHave no_more no_case = ⊤
    CasesHave (case_then s ss) (absent cs) = CasesHave ss cs
    CasesHave (case_then s ss) (present xs cs) = PartsHave s xs × CasesHave ss cs
    CasesHave _ _ = ⊥

    pub PartsHave : PartShapes → Parts W N → Type 0
    PartsHave no_field no_part = ⊤
    PartsHave (field_then s ss) (part x xs) = HasShape s x × PartsHave ss xs
    PartsHave _ _ = ⊥

-- how many truth values a flag lacks
abbrev pub lacks : Bool → ℕ
lacks true = 0
lacks false = 1

module _ {W N C : Type 0} (B : Algebra W N C) (cap : ℕ) where
  -- ---- the most that a rank can be, by a list of so many stamps
  abbrev mutual
    pub height_of : ℕ → Shape → ℕ
    height_of n flags = 2
    height_of n (words w) = B.words.height w
    height_of n (datas ty ss) = cases_height n ss
    height_of n (maps m w) = height_map B cap w n

    -- a missing constructor is one more than the greatest rank of its fields
    pub cases_height : ℕ → CaseShapes → ℕ
    cases_height n no_more = 0
    cases_height n (case_then s ss) = (parts_height n s + 1) + cases_height n ss

    pub parts_height : ℕ → PartShapes → ℕ
    parts_height n no_field = 0
    parts_height n (field_then s ss) = height_of n s + parts_height n ss

  -- ---- what falls where a value is widened, by a list of stamps
  module _ (c : C) (stamps : List Stamp) where
    abbrev mutual
      pub rank_of : Shape → Abs W N → ℕ
      rank_of flags (flag t) = lacks t.may_true + lacks t.may_false
      rank_of (words w) (word u x) = B.words.rank c u x
      rank_of (datas ty ss) (made tz cs) = cases_rank ss cs
      rank_of (maps m w) (map n x) = rank_map B c stamps x
      rank_of _ _ = 0

      pub cases_rank : CaseShapes → Cases W N → ℕ
      cases_rank (case_then s ss) (absent cs) = (parts_height (length stamps) s + 1) + cases_rank ss cs
      cases_rank (case_then s ss) (present xs cs) = parts_rank s xs + cases_rank ss cs
      cases_rank _ _ = 0

      pub parts_rank : PartShapes → Parts W N → ℕ
      parts_rank (field_then s ss) (part x xs) = rank_of s x + parts_rank ss xs
      parts_rank _ _ = 0

module _ {W N C : Type 0} (B : Algebra W N C) (stamps : List Stamp) where
  -- ---- the notes of a value list only these stamps
  abbrev mutual
    pub ListsStamps : Abs W N → Type 0
    ListsStamps (flag t) = ⊤
    ListsStamps (word w x) = ⊤
    ListsStamps (made ty cs) = CasesList cs
    ListsStamps (map m x) = EachCell (ListsOnly B stamps) x

    pub CasesList : Cases W N → Type 0
    CasesList no_case = ⊤
    CasesList (absent cs) = CasesList cs
    CasesList (present xs cs) = PartsList xs × CasesList cs

    pub PartsList : Parts W N → Type 0
    PartsList no_part = ⊤
    PartsList (part x xs) = ListsStamps x × PartsList xs
