use Rattle.std.proofs.Common.{◌≡◌, Some, None, sym, ◌∙◌, rules}
use Rattle.std.specs.Prelude.{slice_get}
use Rattle.analysis_transfer.proofs.Counters.{first_there, none_there}
use Rattle.analysis_transfer.proofs.counter.first_word.Goals as goal

pub returns-in-Some : goal.returns-in-Some
returns-in-Some g c =
    let found : slice_get c.args.fields.now 0 ≡ Some c.in-Some.field.now = search rules in
    c.word_of.ensures ∙ sym (first_there c.args.fields.now c.in-Some.field.now found)

pub returns-in-None : goal.returns-in-None
returns-in-None g c =
    let none : slice_get c.args.fields.now 0 ≡ None = search rules in
    sym (none_there c.args.fields.now none)
