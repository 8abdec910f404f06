use Rattle.std.proofs.Common.{◌≡◌, ◌≤◌, Some}
use Rattle.std.specs.Prelude.{nat_lt}
use Rattle.std.specs.Option.{option_and_then, option_copied}
use Rattle.base_trait.specs.Lists.{Each}
use Rattle.base_kset.specs.Meaning.{Fits}
use Rattle.base_kset.specs.Sets.{bounded, items_or_none}
use Rattle.text_words.specs.Reading.{number_in, numbers_in}
use Rattle.text_words.proofs.Loops.{left_len, to_come}
use Rattle.text_words.proofs.SetsGrown.{kept}
use Rattle.text_words.proofs.sets.listed_in.Given as goal

abbrev pub invariant-loop-left : goal.invariant-loop-left
invariant-loop-left g l = record {
  value : option_and_then (bounded g.row.K) (numbers_in l.w l.text) ≡ kept g.row.K l.set (to_come nat_lt (number_in l.w) 44 (Some l.last) (option_copied l.left));
  fits : Fits g.row.K l.w l.set;
  greatest : Each (λ n. n ≤ l.last) (items_or_none l.set);
}

abbrev pub decreases-loop-left : goal.decreases-loop-left
decreases-loop-left g l = left_len (option_copied l.left)
