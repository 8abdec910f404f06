-- Two values of one shape.
use Rattle.std.proofs.Common.{◌≡◌}
use Rattle.std.specs.Prelude.{⊤}
use Rattle.abstract_value_laws.specs.Abs.{Abs, Cases, Parts, flag, word, made, map, no_case, absent, present, no_part, part}
use Rattle.abstract_value_laws.specs.Shapes.{CaseShapes, CasesHave, HasShape, PartShapes, PartsHave, Shape, case_then, datas, field_then, flags, maps, no_field, no_more, words}

module _ {W N : Type 0} where
  abbrev mutual
    pub Both : Shape → Abs W N → Abs W N → Type 0
    Both flags (flag t) (flag u) = ⊤
    Both (words w) (word u x) (word k y) = (u ≡ w) × (k ≡ w)
    Both (datas ty ss) (made tz cs) (made tu ds) = (tz ≡ ty) × (tu ≡ ty) × BothCases ss cs ds
    Both (maps m w) (map n x) (map k y) = (n ≡ m) × (k ≡ m) × (x.width ≡ w) × (y.width ≡ w)
    Both _ _ _ = ⊥

    pub BothCases : CaseShapes → Cases W N → Cases W N → Type 0
    BothCases no_more no_case no_case = ⊤
    BothCases (case_then s ss) (absent cs) (absent ds) = BothCases ss cs ds
    BothCases (case_then s ss) (absent cs) (present ys ds) = PartsHave s ys × BothCases ss cs ds
    BothCases (case_then s ss) (present xs cs) (absent ds) = PartsHave s xs × BothCases ss cs ds
    BothCases (case_then s ss) (present xs cs) (present ys ds) = BothParts s xs ys × BothCases ss cs ds
    BothCases _ _ _ = ⊥

    pub BothParts : PartShapes → Parts W N → Parts W N → Type 0
    BothParts no_field no_part no_part = ⊤
    BothParts (field_then s ss) (part x xs) (part y ys) = Both s x y × BothParts ss xs ys
    BothParts _ _ _ = ⊥

  mutual
    pub both : (s : Shape) (x y : Abs W N) → HasShape s x → HasShape s y → Both s x y
    both flags (flag t) (flag u) a b = tt
    both flags (flag t) (word _ _) a b = absurd b
    both flags (flag t) (made _ _) a b = absurd b
    both flags (flag t) (map _ _) a b = absurd b
    both (words w) (word u x) (word k y) a b = (a, b)
    both (words w) (word u x) (flag _) a b = absurd b
    both (words w) (word u x) (made _ _) a b = absurd b
    both (words w) (word u x) (map _ _) a b = absurd b
    both (datas ty ss) (made tz cs) (made tu ds) a b = (a.0, b.0, both_cases ss cs ds a.1 b.1)
    both (datas ty ss) (made tz cs) (flag _) a b = absurd b
    both (datas ty ss) (made tz cs) (word _ _) a b = absurd b
    both (datas ty ss) (made tz cs) (map _ _) a b = absurd b
    both (maps m w) (map n x) (map k y) a b = (a.0, b.0, a.1, b.1)
    both (maps m w) (map n x) (flag _) a b = absurd b
    both (maps m w) (map n x) (word _ _) a b = absurd b
    both (maps m w) (map n x) (made _ _) a b = absurd b
    both _ _ _ a b = absurd a

    pub both_cases : (ss : CaseShapes) (cs ds : Cases W N) → CasesHave ss cs → CasesHave ss ds → BothCases ss cs ds
    both_cases no_more no_case no_case a b = tt
    both_cases no_more no_case (absent _) a b = absurd b
    both_cases no_more no_case (present _ _) a b = absurd b
    both_cases (case_then s ss) (absent cs) (absent ds) a b = both_cases ss cs ds a b
    both_cases (case_then s ss) (absent cs) (present ys ds) a b = (b.0, both_cases ss cs ds a b.1)
    both_cases (case_then s ss) (absent cs) no_case a b = absurd b
    both_cases (case_then s ss) (present xs cs) (absent ds) a b = (a.0, both_cases ss cs ds a.1 b)
    both_cases (case_then s ss) (present xs cs) (present ys ds) a b = (both_parts s xs ys a.0 b.0, both_cases ss cs ds a.1 b.1)
    both_cases (case_then s ss) (present xs cs) no_case a b = absurd b
    both_cases _ _ _ a b = absurd a

    pub both_parts : (ss : PartShapes) (xs ys : Parts W N) → PartsHave ss xs → PartsHave ss ys → BothParts ss xs ys
    both_parts no_field no_part no_part a b = tt
    both_parts no_field no_part (part _ _) a b = absurd b
    both_parts (field_then s ss) (part x xs) (part y ys) a b = (both s x y a.0 b.0, both_parts ss xs ys a.1 b.1)
    both_parts (field_then s ss) (part x xs) no_part a b = absurd b
    both_parts _ _ _ a b = absurd a
