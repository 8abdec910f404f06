use Rattle.std.proofs.Common.{◌∙◌, ap, subst, sym}
use Rattle.std.specs.Slice.{IsItemAt}
use Rattle.fixpoint_open_tables.specs.Endings.{ends_in}
use Rattle.fixpoint_open_tables.proofs.Places.{at_place, got, lent}
use Rattle.fixpoint_open_tables.proofs.endings.Endings.get.Goals as goal

pub returns-in-Some : goal.returns-in-Some
returns-in-Some g c =
    let xs = c.self.inside.listed.items in
    lent xs c.in-Some.place.now c.get-in-Some.result (subst (λ xs. IsItemAt xs c.in-Some.place.now c.get-in-Some.result) c.deref.ensures.value c.get-in-Some.ensures.lookup)
    ∙ ap (at_place xs) c.in-Some.ensures.value
    ∙ sym (got xs c.self.inside.places c.self.invariant c.args.at)
    ∙ ap (λ es. ends_in es c.args.at) c.self.view_is

pub returns-in-None : goal.returns-in-None
returns-in-None g c =
    let xs = c.self.inside.listed.items in
    ap (at_place xs) c.in-None.ensures.value ∙ sym (got xs c.self.inside.places c.self.invariant c.args.at) ∙ ap (λ es. ends_in es c.args.at) c.self.view_is
