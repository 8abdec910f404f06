-- The operator that the code's is.
use Rattle.spec_term_forms.specs.declared.operators.Operator.{Operator}
use Rattle.spec_term_forms.specs.declared.operators.Operator.TheVariants.{Both, Either, Operation, Comparison}
use Rattle.spec_term_forms.specs.Operators as o

abbrev pub operator : Operator → o.Operator
operator Both = o.both
operator Either = o.either
operator (Operation op) = o.operation op
operator (Comparison c) = o.comparison c
