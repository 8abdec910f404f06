use Rattle.state_text.proofs.says.formed_says.Goals as goal

pub returns-in-Whole-clause-said : goal.returns-in-Whole-clause-said
returns-in-Whole-clause-said c = rw c.in-Whole.is (rw c.in-Whole.is at c.value_says.ensures.said)

pub returns-in-Rest-clause-said : goal.returns-in-Rest-clause-said
returns-in-Rest-clause-said c = rw c.in-Rest.is (rw c.in-Rest.is at c.value_says-in-Rest.ensures.said)

pub returns-in-At-clause-said : goal.returns-in-At-clause-said
returns-in-At-clause-said c = rw c.in-At.is (rw c.in-At.is at c.value_says-in-At.ensures.said)
