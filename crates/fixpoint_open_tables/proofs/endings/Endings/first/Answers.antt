use Rattle.std.proofs.Common.{◌≡◌, None, subst}
use Rattle.std.specs.Prelude.{IsSome}
use Rattle.fixpoint_open_tables.specs.Endings.{ends_in}
use Rattle.fixpoint_open_tables.proofs.Places.{has_ending, none_below}
use Rattle.fixpoint_open_tables.proofs.endings.Endings.first.Goals as goal

pub returns-clause-is_open : goal.returns-clause-is_open
returns-clause-is_open g c =
    subst (λ es. IsSome (ends_in es c.in_ok-at.at.now)) c.self.view_is
    (has_ending c.self.inside.listed.items c.self.inside.places c.self.invariant c.in_ok-at.at.now c.in_ok-at._place.now c.in_ok-at.ensures.value)

pub returns-clause-least : goal.returns-clause-least
returns-clause-least g c a below =
    subst (λ es. ends_in es a ≡ None) c.self.view_is
    (none_below c.self.inside.listed.items c.self.inside.places c.self.invariant c.in_ok-at.at.now a c.in_ok-at.ensures.least below)
