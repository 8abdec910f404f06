-- Values of the fields of a state, one by one.
use Rattle.std.proofs.Common.{◌≡◌, ℕ, ◌+◌, List, ◌∷◌, drop, map, refl, sym, subst}
use Rattle.base_trait.specs.Lists.{Each}
use Rattle.abstract_value_laws.specs.Abs.{Abs, Parts, flag, word, made, map as map_of, no_case, present, no_part, part, parts}
use Rattle.domain_laws.specs.declared.field.Field.{Field}
use Rattle.domain_laws.specs.declared.field.Field.TheVariants.{Word}
use Rattle.domain_laws.specs.States.{StateType}
use Rattle.domain_laws.specs.Values.{AreOf, IsOf, IsStateForm}

-- the values are those of the counter and the fields behind it
pub form_of : {W N : Type 0} (t : StateType) (xs : Parts W N) → AreOf (Word 32 ∷ t.fields) xs → IsStateForm t (made t.number (present xs no_case))
form_of t no_part h = absurd h
form_of t (part (word w x) xs) h = (refl, h.0, h.1)
form_of t (part (flag x) xs) h = absurd h.0
form_of t (part (made n cs) xs) h = absurd h.0
form_of t (part (map_of m x) xs) h = absurd h.0

-- one more item is so
pub each_step : (P : ℕ → Type 0) (xs : List ℕ) (i k : ℕ) → drop i xs ≡ k ∷ drop (i + 1) xs → P k → Each P (drop (i + 1) xs) → Each P (drop i xs)
each_step P xs i k e p h = subst (Each P) (sym e) (p, h)

-- one more value is that of its field
pub are_step : {A W N : Type 0} (view : A → Abs W N) (fields : List Field) (values : List A) (i : ℕ) (f : Field) (v : A)
    → drop i fields ≡ f ∷ drop (i + 1) fields → drop i values ≡ v ∷ drop (i + 1) values → IsOf f (view v)
    → AreOf (drop (i + 1) fields) (parts (map view (drop (i + 1) values))) → AreOf (drop i fields) (parts (map view (drop i values)))
are_step view fields values i f v e g is h =
    subst (λ fs. AreOf fs (parts (map view (drop i values)))) (sym e) (subst (λ vs. AreOf (f ∷ drop (i + 1) fields) (parts (map view vs))) (sym g) (is, h))
