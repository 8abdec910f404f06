use Rattle.std.specs.Prelude.{max}
use Rattle.domain_cells.specs.Views.{context_of, states_of}
use Rattle.domain_product_states.specs.Parts.{pair_elements}
use Rattle.domain_product_states.specs.Views.{seen}
use Rattle.test_relation_cases.proofs.pairs.of_texts.Given as goal

abbrev pub invariant-loop-text : goal.invariant-loop-text
invariant-loop-text g l =
    (goal.iterator-loop-text g).can_next l.text-iterator ×
    (goal.iterator-loop-text g).is_finite l.text-iterator ×
    (pair_elements g.A.Base.algebra g.B.Base.algebra (context_of l.domain.states) g.A.Base.CAP g.B.Base.CAP (max g.A.Base.CAP g.B.Base.CAP) (states_of l.domain.states)).fits (seen l.all)
