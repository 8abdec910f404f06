use Rattle.std.proofs.Common.{ap, subst, sym, ◌∙◌}
use Rattle.abstract_value.specs.Constructors.{IsOnly, listed, places}
use Rattle.abstract_value.proofs.Places.{held_alone}
use Rattle.abstract_value.proofs.constructors.Constructors.alone.Goals as goal

pub returns-in-One : goal.returns-in-One
returns-in-One g c =
    let n = c.args.self.now.count in
    let k = c.in-One.one.number in
    let fields = c.in-One.one.fields.value.items in
    let held = subst (λ p. IsOnly (places (listed p) 0 n) k fields) (sym c.in-One.is) (held_alone n k fields c.if-one-self.true) in
    subst (λ f. IsOnly (places (listed c.args.self.now.present) 0 n) k f) (sym (c.deref-in-One.ensures.value ∙ ap (λ v. v.items) c.deref.ensures)) held
