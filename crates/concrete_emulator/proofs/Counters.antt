-- The counter among the fields of the first constructor.
use Rattle.std.proofs.Common.{◌≡◌, ℕ, List, [], ◌∷◌, Option, Some, None, get_or, map, refl, sym, ap}
use Rattle.base_trait.specs.declared.uses.Stamp.{Stamp}
use Rattle.base_concrete.specs.declared.Concrete.{Concrete}
use Rattle.abstract_value_laws.specs.Abs.{cases, parts}
use Rattle.abstract_value.specs.View.{abs, case_of}
use Rattle.abstract_value.specs.declared.value.AbstractValue.{AbstractValue}
use Rattle.concrete_emulator.specs.States.{counter_in_cases, counter_in_fields}

pub first_is : (cs : List (Option (List (AbstractValue Concrete ℕ Stamp (Unit {0}))))) (f : List (AbstractValue Concrete ℕ Stamp (Unit {0}))) → get_or cs 0 None ≡ Some f → counter_in_fields (parts (map abs f)) ≡ counter_in_cases (cases (map case_of cs))
first_is [] f e = absurd cc
first_is (y ∷ cs) f e = ap (λ t. counter_in_cases (cases (case_of t ∷ map case_of cs))) (sym e)

pub none_is : (cs : List (Option (List (AbstractValue Concrete ℕ Stamp (Unit {0}))))) → get_or cs 0 None ≡ None → None ≡ counter_in_cases (cases (map case_of cs))
none_is [] e = refl
none_is (y ∷ cs) e = ap (λ t. counter_in_cases (cases (case_of t ∷ map case_of cs))) (sym e)
