-- Steps one after another.
use Rattle.std.proofs.Common.{◌≡◌, ◌⊎◌, inl, inr, subst}
use Rattle.std.specs.Prelude.{Result, Ok, Err}
use Rattle.program_common.specs.declared.outcome.Halt.{Halt}
use Rattle.program_common.specs.declared.outcome.Halt.TheVariants.{Refused, NoMemory}
use Rattle.program_common.specs.Outcome.{Refusal}
use Rattle.program_common.specs.Outcomes.{Gives, Stops, refusal_of}
use Rattle.program_common.specs.Steps.{Then, refused, goes_on}

-- ---- one thing at most

abbrev pub IsOne : {A : Type 0} → (Result A Refusal → Type 0) → Type 0
IsOne {A = A} step = (found other : Result A Refusal) → step found → step other → found ≡ other

module _ {A B : Type 0} (first : Result A Refusal → Type 0) (next : A → Result B Refusal → Type 0) where
  pub one : IsOne first → ((given : A) → IsOne (next given)) → IsOne (Then first next)
  one one_first one_next found other (refused {refusal = e} p) (refused {refusal = f} q) =
      let same = one_first (Err e) (Err f) p q in (cc)
  one one_first one_next found other (refused {refusal = e} p) (goes_on {given = a} q r) =
      let same = one_first (Err e) (Ok a) p q in absurd (cc)
  one one_first one_next found other (goes_on {given = a} p r) (refused {refusal = e} q) =
      let same = one_first (Ok a) (Err e) p q in absurd (cc)
  one one_first one_next found other (goes_on {given = a} p r) (goes_on {given = b} q t) =
      let same = one_first (Ok a) (Ok b) p q in
      let given : a ≡ b = cc in
      one_next b found other (subst (λ (x : A). next x found) given r) t

-- ---- one thing at least

abbrev pub IsTotal : {A : Type 0} → (Result A Refusal → Type 0) → Type 0
IsTotal {A = A} step = (found : Result A Refusal) × step found

module _ {A B : Type 0} (first : Result A Refusal → Type 0) (next : A → Result B Refusal → Type 0) where
  pub total : IsTotal first → ((given : A) → first (Ok given) → IsTotal (next given)) → IsTotal (Then first next)
  total (Ok a, p) total_next = let rest = total_next a p in (rest.0, goes_on p rest.1)
  total (Err e, p) total_next = (Err e, refused p)

-- ---- steps that give what others give

module _ {A B : Type 0} (first other : Result A Refusal → Type 0) (next further : A → Result B Refusal → Type 0) where
  pub each : ((found : Result A Refusal) → first found → other found) → ((given : A) (found : Result B Refusal) → next given found → further given found)
      → (found : Result B Refusal) → Then first next found → Then other further found
  each by_first by_next found (refused {refusal = e} p) = refused (by_first (Err e) p)
  each by_first by_next found (goes_on {given = a} p r) = goes_on (by_first (Ok a) p) (by_next a found r)

-- ---- steps that may fail otherwise

abbrev pub Fails : {A : Type 0} → (Refusal → Type 0) → Result A Refusal → Type 0
Fails fault (Ok a) = ⊥
Fails fault (Err e) = fault e

module _ {A B : Type 0} (first other : Result A Refusal → Type 0) (next further : A → Result B Refusal → Type 0) (fault : Refusal → Type 0) where
  pub either : ((found : Result A Refusal) → first found → other found ⊎ Fails fault found)
      → ((given : A) (found : Result B Refusal) → next given found → further given found ⊎ Fails fault found)
      → (found : Result B Refusal) → Then first next found → Then other further found ⊎ Fails fault found
  either by_first by_next found (refused {refusal = e} p) = elim (by_first (Err e) p) [ inl q ↦ inl (refused q) | inr q ↦ inr q ]
  either by_first by_next found (goes_on {given = a} p r) = elim (by_first (Ok a) p) [
    | inl q ↦ elim (by_next a found r) [ inl t ↦ inl (goes_on q t) | inr t ↦ inr t ]
    | inr q ↦ absurd q
  ]

-- ---- where the code's steps stop

module _ {A B : Type 0} (first : Result A Refusal → Type 0) (next : A → Result B Refusal → Type 0) where
  -- the first step stops both
  pub first_stops : (halt : Halt) → Stops first halt → Stops (Then first next) halt
  first_stops (Refused refusal) p = refused p
  first_stops NoMemory p = tt

  -- the first step gives something, and the next one stops
  pub next_stops : (given : A) (halt : Halt) → first (Ok given) → Stops (next given) halt → Stops (Then first next) halt
  next_stops given (Refused refusal) p r = goes_on p r
  next_stops given NoMemory p r = tt

-- ---- where a step gives something

module _ {A B : Type 0} (first : Result A Refusal → Type 0) (next : A → Result B Refusal → Type 0) where
  abbrev Opened : Result B Refusal → Type 0
  Opened (Ok end) = (given : A) × first (Ok given) × next given (Ok end)
  Opened (Err refusal) = Unit {0}

  opened_by : (found : Result B Refusal) → Then first next found → Opened found
  opened_by found (refused p) = tt
  opened_by (Ok end) (goes_on {given = a} p r) = (a, p, r)
  opened_by (Err refusal) (goes_on p r) = tt

  -- both gave something
  pub opened : (end : B) → Then first next (Ok end) → (given : A) × first (Ok given) × next given (Ok end)
  opened end p = opened_by (Ok end) p

-- a step that gives what another gives stops where it stops
pub stops_too : {A : Type 0} (step other : Result A Refusal → Type 0) → ((found : Result A Refusal) → step found → other found) → (halt : Halt) → Stops step halt → Stops other halt
stops_too step other by (Refused refusal) p = by (Err (refusal_of refusal)) p
stops_too step other by NoMemory p = tt

-- ---- what the code gives

-- the next step's answer is that of both
pub gives_next : {A B C : Type 0} (first : Result A Refusal → Type 0) (next : A → Result B Refusal → Type 0) (seen : C → B) (given : A) (result : Result C Halt)
    → first (Ok given) → Gives (next given) seen result → Gives (Then first next) seen result
gives_next first next seen given (Ok found) p r = goes_on p r
gives_next first next seen given (Err halt) p r = next_stops first next given halt p r

-- the answer of a step that gives what another gives
pub gives_too : {B C : Type 0} (step other : Result B Refusal → Type 0) (seen : C → B) (result : Result C Halt)
    → ((found : Result B Refusal) → step found → other found) → Gives step seen result → Gives other seen result
gives_too step other seen (Ok found) by p = by (Ok (seen found)) p
gives_too step other seen (Err halt) by p = stops_too step other by halt p
