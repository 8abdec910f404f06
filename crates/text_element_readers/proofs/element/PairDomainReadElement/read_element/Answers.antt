use Rattle.spec_ir.specs.Views.{specification}
use Rattle.text_element_readers.proofs.Bodies.{pair_done, pair_none}
use Rattle.text_element_readers.proofs.element.PairDomainReadElement.read_element.Goals as goal

pub returns-in-Some-clause-reads : goal.returns-in-Some-clause-reads
returns-in-Some-clause-reads g c =
    pair_done (g.A.ReadElement.Reads c.args.self.now.first) (g.B.ReadElement.Reads c.args.self.now.second) (specification c.args.spec.now) _ c.with_second_part.result c.read_element-in-Some.result c.in-Some.x c.args.lines.now
    c.read_element.new.lines c.read_element-in-Some.new.lines (rw c.in-Some.is at c.in_ok-x.ensures.reads) c.read_element-in-Some.ensures.reads c.with_second_part.ensures

pub returns-in-None-clause-reads : goal.returns-in-None-clause-reads
returns-in-None-clause-reads g c =
    pair_none (g.A.ReadElement.Reads c.args.self.now.first) (g.B.ReadElement.Reads c.args.self.now.second) (specification c.args.spec.now) _ c.args.lines.now c.read_element.new.lines (rw c.in-None.is at c.in_ok-x.ensures.reads)
