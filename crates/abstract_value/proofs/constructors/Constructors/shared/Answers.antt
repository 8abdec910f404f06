use Rattle.std.proofs.Common.{◌≡◌, ◌+◌, None, get_or, map, ap, sym, ◌∙◌, arith}
use Rattle.abstract_value.specs.Constructors.{entry, fields_in, listed, spread}
use Rattle.abstract_value.proofs.Places.{at_whole, past_places}
use Rattle.abstract_value.proofs.constructors.Constructors.shared.Goals as goal

pub returns-then-number-self : goal.returns-then-number-self
returns-then-number-self g c = sym (past_places (listed c.args.self.now.present) 0 c.args.self.now.count c.args.number c.if-number-self.true)

pub returns-in-One : goal.returns-in-One
returns-in-One g c =
    c.fields_if.ensures ∙ ap (λ p. fields_in (listed p) c.args.number) (sym c.in-One.is) ∙ sym (at_whole (listed c.args.self.now.present) c.args.self.now.count c.args.number c.if-number-self.false)

pub returns-in-Several : goal.returns-in-Several
returns-in-Several g c =
    c.first_of.ensures ∙ ap (λ l. fields_in (map entry l) c.args.number) c.deref.ensures.value ∙ ap (λ p. fields_in (listed p) c.args.number) (sym c.in-Several.is)
    ∙ sym (at_whole (listed c.args.self.now.present) c.args.self.now.count c.args.number c.if-number-self.false)
