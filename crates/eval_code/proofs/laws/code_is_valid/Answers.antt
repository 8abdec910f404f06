use Rattle.std.proofs.Common.{arith, length, subst, sym}
use Rattle.semantics.specs.Direct.{group_of}
use Rattle.eval_code.specs.Lowered.{slots_from}
use Rattle.eval_code.specs.Scopes.{InScope}
use Rattle.eval_code.proofs.Names.{slots_long}
use Rattle.eval_code.proofs.Reading.{below_from, tail_reads}
use Rattle.eval_code.proofs.laws.code_is_valid.Goals as goal

pub returns : goal.returns
returns c spec fun ok =
    let n = length fun.params in
    tail_reads (group_of spec) fun.group fun.core (slots_from 0 n) n (below_from 0 n n (omega arith)) (subst (λ n. InScope n fun.core) (sym (slots_long 0 n)) ok)
