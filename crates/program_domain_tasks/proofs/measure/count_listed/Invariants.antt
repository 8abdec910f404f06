use Rattle.std.proofs.Common.{◌≡◌, ◌≤◌, ◌+◌, drop}
use Rattle.fixpoint_theory.specs.Views.{listings}
use Rattle.program_domains.specs.Measures.{listed_count}
use Rattle.program_domain_tasks.proofs.measure.count_listed.Given as goal

abbrev pub invariant-loop-at : goal.invariant-loop-at
invariant-loop-at g l = record {
  count : l.count + listed_count (listings (λ x. x) l.table) (drop l.at-index l.addresses) ≡ listed_count (listings (λ x. x) l.table) l.addresses;
  few : l.count ≤ l.at-index;
}
