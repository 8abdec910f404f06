-- What a `StateDomain` is.
use Rattle.domain_laws.specs.States.{StateType}
use Rattle.domain_cells.specs.declared.domain.StateDomain.{StateDomain}

module _ {X W N C : Type 0} where
  -- the states that it is made for
  abbrev pub states_of : StateDomain X W N C → StateType
  states_of d = record { number = d.number; fields = d.fields.items }

  -- what its words share
  abbrev pub context_of : StateDomain X W N C → C
  context_of d = d.ctx
