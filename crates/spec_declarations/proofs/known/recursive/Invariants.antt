use Rattle.std.proofs.Common.{◌≡◌, ◌<◌, ℕ, length, get_or, false}
use Rattle.support_reachability.specs.Table.{says, table}
use Rattle.spec_declarations.proofs.known.recursive.Given as goal

abbrev pub invariant-loop-d : goal.invariant-loop-d
invariant-loop-d l = record {
  width : length l.recursive.items ≡ l.d;
  entries : (d : ℕ) → d < l.d → get_or l.recursive.items d false ≡ says (table l.reached) d d;
}
