use Rattle.abstract_value.proofs.value.+let_go.Given as goal

abbrev pub invariant-let_fields_go-loop-value : goal.invariant-let_fields_go-loop-value
invariant-let_fields_go-loop-value g l = goal.no_deeper-let_fields_go-loop-value g l

abbrev pub decreases-let_fields_go-loop-value : goal.decreases-let_fields_go-loop-value
decreases-let_fields_go-loop-value g l = goal.left-let_fields_go-loop-value g l

abbrev pub invariant-AbstractValue::let_go-loop-one : goal.invariant-AbstractValue::let_go-loop-one
invariant-AbstractValue::let_go-loop-one g l = goal.no_deeper-AbstractValue::let_go-loop-one g l

abbrev pub decreases-AbstractValue::let_go-loop-one : goal.decreases-AbstractValue::let_go-loop-one
decreases-AbstractValue::let_go-loop-one g l = goal.left-AbstractValue::let_go-loop-one g l
