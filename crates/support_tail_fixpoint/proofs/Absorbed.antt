-- What the arguments of turns absorb.
use Rattle.std.proofs.Common.{◌≡◌, ℕ, zero, suc, ◌+◌, ◌<◌, ◌⊎◌, inl, inr, List, [], ◌∷◌, Option, None, Some, IsTrue, arith, refl, subst}
use Rattle.std.specs.Prelude.{All, Contains, IfSome, IsSomeAnd, slice_get}
use Rattle.std.specs.List.{AllByRecursion, last_or}
use Rattle.std.proofs.lemmas.List.Elements.{All-contains, All-from_recursion, All-head, All-tail}
use Rattle.support_tail_fixpoint.specs.declared.driver_request.DriverRequest.{DriverRequest}
use Rattle.support_tail_fixpoint.specs.declared.driver_request.DriverRequest.TheVariants.{Out, OutOfFuel}
use Rattle.support_tail_fixpoint.specs.declared.policy.Policy.{Policy}
use Rattle.support_tail_fixpoint.specs.declared.policy.Policy.TheVariants.{Stop, Widen}
use Rattle.support_tail_fixpoint.specs.Absorbing.{Absorbing, AbsorbingUnder, AbsorptionOrders}
use Rattle.support_tail_fixpoint.specs.Fitting.{KeepsArgs}
use Rattle.support_tail_fixpoint.specs.Laws.{ArgumentsAreMet, LastArgumentsAbsorb}
use Rattle.support_tail_fixpoint.specs.Moves.{Moves}
use Rattle.support_tail_fixpoint.specs.Rule.{AreTurns, Ends, Evaluated, Follows, FollowsWidening}
use Rattle.support_tail_fixpoint.specs.Turns.{AbsorbsTurn, AreMet, NextFits, turn_at}
use Rattle.support_tail_fixpoint.proofs.Fitted.{Contains-first, Contains-later, IsGrown, grows, replaced_or_grown}

-- What grows fits, and absorbs what it grows from.
grown_absorbs :
    {A O : Type 0} (m : Moves A O) (Fits : A → Type 0) (args next new : A)
    → KeepsArgs m Fits → Absorbing m Fits → Fits args → Fits next → IsGrown m args next new
    → Fits new × IsTrue (m.absorbs new args) × IsTrue (m.absorbs new next)
grown_absorbs m Fits args next new keeps absorbing fits next_fits (inl e) =
    let absorbs = absorbing.join_absorbs args next fits next_fits in
    rw e (keeps.join_args args next fits next_fits, absorbs.0, absorbs.1)
grown_absorbs m Fits args next new keeps absorbing fits next_fits (inr e) =
    let absorbs = absorbing.widen_absorbs args next fits next_fits in
    rw e (keeps.widen_args args next fits next_fits, absorbs.0, absorbs.1)

-- What follows fits, and is what was asked for or absorbs it.
follows_meets :
    {A O : Type 0} (m : Moves A O) (Fits : A → Type 0) (policy : Policy) (number : ℕ) (args next new : A)
    → KeepsArgs m Fits → AbsorbingUnder m Fits policy → Fits args → Fits next → Follows m policy number args next new
    → Fits new × ((new ≡ next) ⊎ IsTrue (m.absorbs new next))
follows_meets m Fits (Stop turns) number args next new keeps absorbing fits next_fits follows = (rw follows.1 next_fits, inl follows.1)
follows_meets m Fits (Widen unroll delay) number args next new keeps absorbing fits next_fits follows =
    elim (replaced_or_grown m unroll delay number args next new follows) [
      | inl e ↦ (rw e next_fits, inl e)
      | inr grown ↦ let new_absorbs = grown_absorbs m Fits args next new keeps absorbing fits next_fits grown in (new_absorbs.0, inr new_absorbs.2)
    ]

-- A turn that ends the activation under `Widen` absorbs what it asks for.
end_absorbs :
    {A O : Type 0} (m : Moves A O) (unroll delay number : ℕ) (args : A) (next : Option A) (leaves : Option O) (asked : DriverRequest O)
    → Ends m (Widen unroll delay) number args next leaves asked → IfSome next (λ next. IsTrue (m.absorbs args next))
end_absorbs m unroll delay number args None leaves asked ends = tt
end_absorbs m unroll delay number args (Some next) leaves asked ends = ends.1

-- What follows a turn fits. Past the first `unroll` turns, what absorbs it absorbs the turn.
step_absorbs :
    {A O : Type 0} (m : Moves A O) (Fits : A → Type 0) (unroll delay number : ℕ) (args : A) (next : Option A) (new : A)
    → KeepsArgs m Fits → Absorbing m Fits → AbsorptionOrders m Fits → Fits args → IfSome next Fits
    → IsSomeAnd next (λ next. FollowsWidening m unroll delay number args next new)
    → Fits new
    × (unroll < number → (top : A) → Fits top → IsTrue (m.absorbs top new)
    → IsTrue (m.absorbs top args) × IfSome next (λ next. IsTrue (m.absorbs top next)))
step_absorbs m Fits unroll delay number args None new keeps absorbing orders fits next_fits follows = absurd follows
step_absorbs m Fits unroll delay number args (Some next) new keeps absorbing orders fits next_fits follows =
    let new_fits = (follows_meets m Fits (Widen unroll delay) number args next new keeps absorbing fits next_fits follows).0 in (
      new_fits,
      λ past top top_fits above.
          let new_absorbs = grown_absorbs m Fits args next new keeps absorbing fits next_fits (grows m unroll delay number args next new follows past) in (
            orders.absorbs_on top new args top_fits new_fits fits above new_absorbs.1,
            orders.absorbs_on top new next top_fits new_fits next_fits above new_absorbs.2,
          ),
    )

-- Arguments absorb each turn past the first `unroll`, of turns from a number on.
abbrev AbsorbsPast : {A O : Type 0} → Moves A O → ℕ → A → ℕ → List (Evaluated A O) → Type 0
AbsorbsPast m unroll args number [] = Unit {0}
AbsorbsPast m unroll args number (turn ∷ rest) = (unroll < number → AbsorbsTurn m args turn) × AbsorbsPast m unroll args (number + 1) rest

-- `LastAbsorbs`, of turns from a number on.
record LastAbsorbsFrom (A O : Type 0) (m : Moves A O) (Fits : A → Type 0) (unroll number : ℕ) (turns : List (Evaluated A O)) : Type 0 where
  last : Evaluated A O
  is_last : last_or None turns ≡ Some last
  fits : Fits last.args
  itself : AbsorbsTurn m last.args last
  past : AbsorbsPast m unroll last.args number turns

past_head :
    {A O : Type 0} (m : Moves A O) (unroll number : ℕ) (args : A) (turn : Evaluated A O) (rest : List (Evaluated A O))
    → unroll < number → AbsorbsPast m unroll args number (turn ∷ rest) → IsTrue (m.absorbs args turn.args)
past_head m unroll number args turn rest past h = (h.0 past).0

last_absorbs :
    {A O : Type 0} (m : Moves A O) (Fits : A → Type 0) (unroll delay : ℕ) (leaves : Option O) (asked : DriverRequest O) (number : ℕ) (args : A) (turns : List (Evaluated A O))
    → KeepsArgs m Fits → Absorbing m Fits → AbsorptionOrders m Fits → Fits args → All (NextFits Fits) turns
    → AreTurns m (Widen unroll delay) leaves asked number args turns → LastAbsorbsFrom A O m Fits unroll number turns
last_absorbs m Fits unroll delay leaves asked number args [] keeps absorbing orders fits next are = absurd are
last_absorbs m Fits unroll delay leaves asked number args (turn ∷ []) keeps absorbing orders fits next are =
    let turn_fits : Fits turn.args = rw are.0 fits in
    let itself : AbsorbsTurn m turn.args turn =
    (orders.absorbs_itself turn.args turn_fits, end_absorbs m unroll delay number turn.args turn.next leaves asked are.1)
    in
    record { last = turn; is_last = refl; fits = turn_fits; itself = itself; past = (λ past. itself, tt) }
last_absorbs m Fits unroll delay leaves asked number args (turn ∷ (later ∷ rest)) keeps absorbing orders fits next are =
    let turn_fits : Fits turn.args = rw are.0 fits in
    let next_fits = All-head (NextFits Fits) turn (later ∷ rest) next in
    let step = step_absorbs m Fits unroll delay number turn.args turn.next later.args keeps absorbing orders turn_fits next_fits are.1 in
    let more = last_absorbs m Fits unroll delay leaves asked (number + 1) later.args (later ∷ rest) keeps absorbing orders step.0
    (All-tail (NextFits Fits) turn (later ∷ rest) next) are.2
    in
    record {
      last = more.last;
      is_last = more.is_last;
      fits = more.fits;
      itself = more.itself;
      past = (λ past. step.1 past more.last.args more.fits (past_head m unroll (number + 1) more.last.args later rest (omega arith) more.past), more.past);
    }

-- The turn at a place is absorbed, if it is past the first `unroll`.
past_at :
    {A O : Type 0} (m : Moves A O) (unroll : ℕ) (args : A) (number : ℕ) (turns : List (Evaluated A O)) (place : ℕ) (turn : Evaluated A O)
    → AbsorbsPast m unroll args number turns → slice_get turns place ≡ Some turn → unroll < number + place → AbsorbsTurn m args turn
past_at m unroll args number [] place turn h is past = cc
past_at m unroll args number (first ∷ rest) zero turn h is past =
    let same : first ≡ turn = cc in
    subst (AbsorbsTurn m args) same (h.0 (omega arith))
past_at m unroll args number (first ∷ rest) (suc place) turn h is past = past_at m unroll args (number + 1) rest place turn h.1 is (omega arith)

past_number :
    {A O : Type 0} (m : Moves A O) (unroll : ℕ) (args : A) (turns : List (Evaluated A O)) (number : ℕ) (turn : Evaluated A O)
    → AbsorbsPast m unroll args 1 turns → unroll < number → turn_at turns number ≡ Some turn → AbsorbsTurn m args turn
past_number m unroll args turns zero turn h past is = cc
past_number m unroll args turns (suc place) turn h past is = past_at m unroll args 1 turns place turn h is (omega arith)

pub last_arguments_absorb : {A O : Type 0} (Fits : A → Type 0) → LastArgumentsAbsorb A O Fits
last_arguments_absorb Fits m unroll delay args turns asked keeps absorbing orders fits next are =
    let last = last_absorbs m Fits unroll delay _ asked 1 args turns keeps absorbing orders fits next are in
    record {
      last = last.last;
      is_last = last.is_last;
      fits = last.fits;
      itself = last.itself;
      past = λ number turn past is. past_number m unroll last.last.args turns number turn last.past past is;
    }

-- A turn that ends an activation, and not too deep, absorbs what it asks for.
end_meets :
    {A O : Type 0} (m : Moves A O) (policy : Policy) (number : ℕ) (args next : A) (leaves given : Option O)
    → Ends m policy number args (Some next) leaves (Out given) → IsTrue (m.absorbs args next)
end_meets m (Stop turns) number args next leaves given ends = let deep : Out given ≡ OutOfFuel = ends.1 in cc
end_meets m (Widen unroll delay) number args next leaves given ends = ends.1

-- What follows a turn fits, and is what the turn asks for or absorbs it.
step_meets :
    {A O : Type 0} (m : Moves A O) (Fits : A → Type 0) (policy : Policy) (number : ℕ) (args : A) (next : Option A) (new : A)
    → KeepsArgs m Fits → AbsorbingUnder m Fits policy → Fits args → IfSome next Fits
    → IsSomeAnd next (λ next. Follows m policy number args next new)
    → Fits new × ((asked : A) → next ≡ Some asked → (new ≡ asked) ⊎ IsTrue (m.absorbs new asked))
step_meets m Fits policy number args None new keeps absorbing fits next_fits follows = absurd follows
step_meets m Fits policy number args (Some next) new keeps absorbing fits next_fits follows =
    let meets = follows_meets m Fits policy number args next new keeps absorbing fits next_fits follows in (
      meets.0,
      λ asked is.
          let same : next ≡ asked = cc in
          subst (λ asked. (new ≡ asked) ⊎ IsTrue (m.absorbs new asked)) same meets.1,
    )

-- What a turn asks for is met.
abbrev NextIsMet : {A O : Type 0} → Moves A O → (A → Type 0) → List (Evaluated A O) → Evaluated A O → Type 0
NextIsMet {A} {O} m Fits all turn = (next : A) → turn.next ≡ Some next → AreMet m Fits all next

-- What turns from a number on ask for is met.
next_met :
    {A O : Type 0} (m : Moves A O) (Fits : A → Type 0) (policy : Policy) (all : List (Evaluated A O)) (leaves given : Option O) (number : ℕ) (args : A)
    (turns : List (Evaluated A O))
    → KeepsArgs m Fits → AbsorbingUnder m Fits policy → Fits args → All (NextFits Fits) turns
    → ((turn : Evaluated A O) → Contains turns turn → Contains all turn)
    → AreTurns m policy leaves (Out given) number args turns → AllByRecursion (NextIsMet m Fits all) turns
next_met m Fits policy all leaves given number args [] keeps absorbing fits next within are = absurd are
next_met m Fits policy all leaves given number args (turn ∷ []) keeps absorbing fits next within are = (
  λ asked is. record {
    turn = turn;
    is_one = within turn (Contains-first turn []);
    fits = rw are.0 fits;
    meets = inr (end_meets m policy number turn.args asked leaves given (rw is at are.1));
  },
  tt,
)
next_met {A} {O} m Fits policy all leaves given number args (turn ∷ (later ∷ rest)) keeps absorbing fits next within are =
    let turn_fits : Fits turn.args = rw are.0 fits in
    let next_fits = All-head (NextFits Fits) turn (later ∷ rest) next in
    let meets = step_meets m Fits policy number turn.args turn.next later.args keeps absorbing turn_fits next_fits are.1 in
    let inside : (x : Evaluated A O) → Contains (later ∷ rest) x → Contains all x =
    λ x has. within x (Contains-later turn (later ∷ rest) x has)
    in (
      λ asked is. record {
        turn = later;
        is_one = inside later (Contains-first later rest);
        fits = meets.0;
        meets = meets.1 asked is;
      },
      next_met m Fits policy all leaves given (number + 1) later.args (later ∷ rest) keeps absorbing meets.0
          (All-tail (NextFits Fits) turn (later ∷ rest) next) inside are.2,
    )

-- The first of turns meets their arguments.
first_met :
    {A O : Type 0} (m : Moves A O) (Fits : A → Type 0) (policy : Policy) (leaves : Option O) (asked : DriverRequest O) (number : ℕ) (args : A) (turns : List (Evaluated A O))
    → Fits args → AreTurns m policy leaves asked number args turns → AreMet m Fits turns args
first_met m Fits policy leaves asked number args [] fits are = absurd are
first_met m Fits policy leaves asked number args (turn ∷ []) fits are =
    record { turn = turn; is_one = Contains-first turn []; fits = rw are.0 fits; meets = inl are.0 }
first_met m Fits policy leaves asked number args (turn ∷ (later ∷ rest)) fits are =
    record { turn = turn; is_one = Contains-first turn (later ∷ rest); fits = rw are.0 fits; meets = inl are.0 }

pub arguments_are_met : {A O : Type 0} (Fits : A → Type 0) → ArgumentsAreMet A O Fits
arguments_are_met Fits m policy args turns leaves keeps absorbing fits next are = (
  first_met m Fits policy _ (Out leaves) 1 args turns fits are,
  λ turn asked has is.
      let met = next_met m Fits policy turns _ leaves 1 args turns keeps absorbing fits next (λ x has. has) are in
      All-contains (NextIsMet m Fits turns) turns turn (All-from_recursion (NextIsMet m Fits turns) turns met) has asked is,
)
