-- Values whose maps list keys of their map types alone.
use Rattle.std.specs.Prelude.{ℕ, ◌<◌, ⊤}
use Rattle.base_trait.specs.Lists.{Each}
use Rattle.abstract_map_laws.specs.Maps.{keys}
use Rattle.spec_ir.specs.Environment.{Environment, key_type}
use Rattle.semantics_values.specs.Types.{key_count}
use Rattle.abstract_value_laws.specs.Abs.{Abs, Cases, Parts, flag, word, made, map, no_case, absent, present, no_part, part}

module _ {W N : Type 0} (env : Environment) where
  abbrev mutual
    -- each listed key is below the number of keys of the map type
    pub KeysFit : Abs W N → Type 0
    KeysFit (flag t) = ⊤
    KeysFit (word w x) = ⊤
    KeysFit (made t cs) = CaseKeysFit cs
    KeysFit (map m x) = Each (λ k. k < key_count env (key_type env m)) (keys x)

    pub CaseKeysFit : Cases W N → Type 0
    CaseKeysFit no_case = ⊤
    CaseKeysFit (absent cs) = CaseKeysFit cs
    CaseKeysFit (present xs cs) = PartKeysFit xs × CaseKeysFit cs

    pub PartKeysFit : Parts W N → Type 0
    PartKeysFit no_part = ⊤
    PartKeysFit (part x xs) = KeysFit x × PartKeysFit xs
