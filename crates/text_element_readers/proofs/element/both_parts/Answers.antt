use Rattle.std.proofs.Common.{Some, ap, refl}
use Rattle.text_element_readers.proofs.element.both_parts.Goals as goal

pub of_parts-requires-clause-second : goal.of_parts-requires-clause-second
of_parts-requires-clause-second g c = rw (c.in_ok-ys.was, c.in-Some.is) at c.requires.second

pub returns-in_ok-of_parts-in-Some : goal.returns-in_ok-of_parts-in-Some
returns-in_ok-of_parts-in-Some g c = rw (c.in_ok-ys.was, c.in-Some.is) (ap (λ p. Some p) c.in_ok-of_parts-in-Some.ensures)

pub returns-in-None : goal.returns-in-None
returns-in-None g c = rw (c.in_ok-ys.was, c.in-None.is) refl
