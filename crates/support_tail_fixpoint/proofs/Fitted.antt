-- Where arguments that fit lead.
use Rattle.std.proofs.Common.{◌≡◌, ℕ, ◌+◌, ◌<◌, ◌⊎◌, inl, inr, true, false, List, [], ◌∷◌, Option, None, Some, arith, refl, nat_le}
use Rattle.std.specs.Prelude.{Contains, IfSome, IsSomeAnd}
use Rattle.std.specs.List.{AllByRecursion}
use Rattle.std.proofs.lemmas.Bool.Decides.{nat_tests}
use Rattle.std.proofs.lemmas.List.Elements.{All-from_recursion, Contains-append_left, Contains-append_right, Contains-push}
use Rattle.support_tail_fixpoint.specs.declared.driver_request.DriverRequest.{DriverRequest}
use Rattle.support_tail_fixpoint.specs.declared.policy.Policy.{Policy}
use Rattle.support_tail_fixpoint.specs.declared.policy.Policy.TheVariants.{Stop, Widen}
use Rattle.support_tail_fixpoint.specs.Fitting.{KeepsArgs}
use Rattle.support_tail_fixpoint.specs.Laws.{TurnsFit}
use Rattle.support_tail_fixpoint.specs.Moves.{Moves}
use Rattle.support_tail_fixpoint.specs.Rule.{AreTurns, Evaluated, Follows, FollowsWidening}
use Rattle.support_tail_fixpoint.specs.Turns.{NextFits, TurnFits}

-- Arguments are a join or a widening of others.
abbrev pub IsGrown : {A O : Type 0} → Moves A O → A → A → A → Type 0
IsGrown m args next new = (new ≡ m.join_args args next) ⊎ (new ≡ m.widen_args args next)

-- Past the first `unroll` turns, arguments grow.
pub grows :
    {A O : Type 0} (m : Moves A O) (unroll delay number : ℕ) (args next new : A)
    → FollowsWidening m unroll delay number args next new → unroll < number → IsGrown m args next new
grows m unroll delay number args next new follows past =
    elim (nat_le number (unroll + delay)) as (λ b. nat_le number (unroll + delay) ≡ b → IsGrown m args next new)
    [ true ↦ λ e. inl (follows.joined past (grind (arith, nat_tests))) | false ↦ λ e. inr (follows.widened (grind (arith, nat_tests))) ] refl

-- Arguments that follow are those that were asked for, or grow.
pub replaced_or_grown :
    {A O : Type 0} (m : Moves A O) (unroll delay number : ℕ) (args next new : A)
    → FollowsWidening m unroll delay number args next new → (new ≡ next) ⊎ IsGrown m args next new
replaced_or_grown m unroll delay number args next new follows =
    elim (nat_le number unroll) as (λ b. nat_le number unroll ≡ b → (new ≡ next) ⊎ IsGrown m args next new) [
      | true ↦ λ e. inl (follows.replaced (grind (arith, nat_tests)))
      | false ↦ λ e. inr (grows m unroll delay number args next new follows (grind (arith, nat_tests)))
    ] refl

pub Contains-first : {X : Type 0} (x : X) (xs : List X) → Contains (x ∷ xs) x
Contains-first x xs = Contains-append_left (x ∷ []) xs x (Contains-push [] x)

pub Contains-later : {X : Type 0} (x : X) (xs : List X) (y : X) → Contains xs y → Contains (x ∷ xs) y
Contains-later x xs y has = Contains-append_right (x ∷ []) xs y has

module _ {A O : Type 0} (m : Moves A O) (Fits : A → Type 0) where
  pub grown_fits : (args next new : A) → KeepsArgs m Fits → Fits args → Fits next → IsGrown m args next new → Fits new
  grown_fits args next new keeps fits next_fits (inl e) = rw e (keeps.join_args args next fits next_fits)
  grown_fits args next new keeps fits next_fits (inr e) = rw e (keeps.widen_args args next fits next_fits)

  -- What follows arguments that fit fits.
  pub follows_fits : (policy : Policy) (number : ℕ) (args next new : A) → KeepsArgs m Fits → Fits args → Fits next
      → Follows m policy number args next new → Fits new
  follows_fits (Stop turns) number args next new keeps fits next_fits follows = rw follows.1 next_fits
  follows_fits (Widen unroll delay) number args next new keeps fits next_fits follows =
      elim (replaced_or_grown m unroll delay number args next new follows) [
        | inl e ↦ rw e next_fits
        | inr grown ↦ grown_fits args next new keeps fits next_fits grown
      ]

  -- What follows a turn that fits fits.
  pub step_fits : (policy : Policy) (number : ℕ) (args : A) (next : Option A) (new : A) → KeepsArgs m Fits → Fits args → IfSome next Fits
      → IsSomeAnd next (λ next. Follows m policy number args next new) → Fits new
  step_fits policy number args None new keeps fits next_fits follows = absurd follows
  step_fits policy number args (Some next) new keeps fits next_fits follows = follows_fits policy number args next new keeps fits next_fits follows

  fit_from : (policy : Policy) (leaves : Option O) (asked : DriverRequest O) (number : ℕ) (args : A) (turns : List (Evaluated A O))
      → KeepsArgs m Fits → Fits args → ((turn : Evaluated A O) → Contains turns turn → Fits turn.args → NextFits Fits turn)
      → AreTurns m policy leaves asked number args turns → AllByRecursion (TurnFits Fits) turns
  fit_from policy leaves asked number args [] keeps fits each are = absurd are
  fit_from policy leaves asked number args (turn ∷ []) keeps fits each are =
      let turn_fits : Fits turn.args = rw are.0 fits in
      ((turn_fits, each turn (Contains-first turn []) turn_fits), tt)
  fit_from policy leaves asked number args (turn ∷ (later ∷ rest)) keeps fits each are =
      let turn_fits : Fits turn.args = rw are.0 fits in
      let next_fits = each turn (Contains-first turn (later ∷ rest)) turn_fits in
      let later_fits = step_fits policy number turn.args turn.next later.args keeps turn_fits next_fits are.1 in (
        (turn_fits, next_fits),
        fit_from policy leaves asked (number + 1) later.args (later ∷ rest) keeps later_fits
            (λ x has. each x (Contains-later turn (later ∷ rest) x has)) are.2,
      )

pub turns_fit : {A O : Type 0} (Fits : A → Type 0) → TurnsFit A O Fits
turns_fit Fits m policy args turns asked keeps fits each are =
    All-from_recursion (TurnFits Fits) turns (fit_from m Fits policy _ asked 1 args turns keeps fits each are)
