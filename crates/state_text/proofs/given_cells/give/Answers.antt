use Rattle.std.proofs.Common.{refl}
use Rattle.state_text.proofs.Runs.{indexed_at, indexed_other}
use Rattle.state_text.proofs.given_cells.give.Goals as goal

pub returns-in_ok-insert-in-At-clause-kept : goal.returns-in_ok-insert-in-At-clause-kept
returns-in_ok-insert-in-At-clause-kept c = record {
  indexed = λ f j. rw c.in_ok-push.ensures.items (indexed_at c.args.found.now.keys c.insert.new.self c.args.found.now.lines.items c.args.line c.in-At.k c.in-At.is c.in_ok-insert-in-At.ensures.updates.0 c.requires.indexed f j);
  small = c.requires.small;
}

pub returns-in-Whole-clause-kept : goal.returns-in-Whole-clause-kept
returns-in-Whole-clause-kept c = record {
  indexed = λ f j. rw c.in_ok-push.ensures.items (indexed_other c.args.found.now.keys c.args.found.now.lines.items c.args.line (λ k. rw c.in-Whole.is refl) c.requires.indexed f j);
  small = c.requires.small;
}

pub returns-in-Rest-clause-kept : goal.returns-in-Rest-clause-kept
returns-in-Rest-clause-kept c = record {
  indexed = λ f j. rw c.in_ok-push.ensures.items (indexed_other c.args.found.now.keys c.args.found.now.lines.items c.args.line (λ k. rw c.in-Rest.is refl) c.requires.indexed f j);
  small = c.requires.small;
}
